-- A page's program fails, or a block is erased or could not be.
use Rattle.ftl_core.proofs.Common.{BlocksKept, Cells, Core, Describes, DieRow, IsFilling, Kept, List, None, OpenBlock}
use Rattle.ftl_core.proofs.Common.{Some, Spot, Translation, at_place, at_spot, false, filling_but, next_place, refl}
use Rattle.ftl_core.proofs.Common.{slice_get, spot_at, subst, sym, went_bad, with_row, ℕ, ◌<◌, ◌≡◌}
use Rattle.ufs_spec.specs.Disk as disk
use Rattle.power_loss.specs.Invariant.{EraseRight}
use Rattle.block_table.specs.declared.BlockState.TheVariants as state
use Rattle.ftl_core.specs.Moves.{erased}
use Rattle.ftl_core.proofs.job_ended.ChangeParts.{blocks_lost, blocks_vacant, changed, failed_rows, filling_kept}
use Rattle.ftl_core.proofs.job_ended.ChangeParts.{idle_rows, kept_over, same_put, states_with}
use Rattle.ftl_core.proofs.job_ended.JobsOver.{filling_failed}
use Rattle.ftl_core.proofs.job_ended.ReadsEnded.{idle_kept}
use Rattle.ftl_core.proofs.job_taken.Flown.{die_within, fly_over}

-- Pages

-- the page of a group, a repair's too, waits again by itself where its program failed
pub page_ends_wrong : (c : Core) (t : Translation) (die : ℕ) (b : DieRow) (o : OpenBlock) (left : Cells) →
    Describes c t → slice_get c.rows die ≡ Some b → b.filling ≡ Some o →
    Kept (went_bad c die o.block) (record t { disk = disk.program_failed t.disk (next_place die o) left })
page_ends_wrong c t die b o left h there fills =
    subst (λ (rows : List DieRow). Kept (changed c (states_with c die o.block state.Bad) rows c.pages c.mending
    c.step c.next_mark) (record t { disk = disk.program_failed t.disk (next_place die o) left }))
    (sym (failed_rows c die o.block b there))
    (kept_over c t die o.block b disk.Bad (filling_but o.block b.filling) (states_with c die o.block state.Bad)
    c.pages left
    (at_place t.disk.finished (next_place die o) false) t.disk.erasing t.ledger t.work
    h.kept there (blocks_lost c t die o.block h.kept (die_within c t die b h.kept there) is_open.0)
    (filling_failed t.numbers t.disk.blocks die o.block b.filling is_open.0 (h.kept.dies.each die b there).filling)
    (fly_over t.ledger.standing t.disk.flights die c.rows (filling_but o.block b.filling) h.kept.fly)
    h.kept.ledger_kept h.kept.work h.kept.pins refl h.kept.readers)
  where
    is_open : IsFilling t.numbers t.disk.blocks die (Some o)
    is_open = filling_kept c t die b (Some o) h.kept there fills

-- Erases

module _ (c : Core) (t : Translation) (die : ℕ) (b : DieRow) (block : ℕ) (h : Describes c t)
    (there : slice_get c.rows die ≡ Some b) (within : block < t.numbers.blocks)
    (flies : t.disk.flights die ≡ Some (disk.Erasing (spot_at die block))) where
  erase_right : EraseRight t.disk.blocks t.disk.erasing die (spot_at die block)
  erase_right = h.valid.flights.erases die (spot_at die block) flies

  -- the block was free, and may be filled now
  blocks_ready : BlocksKept t.numbers t.disk.blocks (at_spot t.disk.vacancies (spot_at die block) disk.Ready)
      (states_with c die block state.Ready)
  blocks_ready =
      subst (λ (x : Spot → disk.BlockState). BlocksKept t.numbers x
      (at_spot t.disk.vacancies (spot_at die block) disk.Ready) (states_with c die block state.Ready))
      (same_put t.disk.blocks (spot_at die block) disk.Free erase_right.free)
      (blocks_vacant c t die block disk.Ready h.kept (die_within c t die b h.kept there) within)

  -- the die has no job, and fills what it filled
  idle : Kept (with_row c die (record { filling = b.filling; flight = None }))
      (record t { disk = disk.ended t.disk die })
  idle = idle_kept c t die b h.kept there

  pub erase_ends_well : Kept (erased c die block) (record t { disk = disk.erased t.disk (spot_at die block) })
  erase_ends_well =
      subst (λ (rows : List DieRow). Kept (changed c (states_with c die block state.Ready) rows c.pages
      c.mending c.step c.next_mark) (record t { disk = disk.erased t.disk (spot_at die block) }))
      (sym (idle_rows c die b there))
      (record {
        numbers = idle.numbers;
        blocks = blocks_ready;
        dies = idle.dies;
        fly = idle.fly;
        ledger_kept = idle.ledger_kept;
        work = idle.work;
        plan = idle.plan;
        claims = idle.claims;
        pins = idle.pins;
        differ = idle.differ;
        reads = idle.reads;
        step_reads = idle.step_reads;
        readers = idle.readers;
      })

  pub erase_ends_wrong : (left : Cells) →
      Kept (went_bad c die block) (record t { disk = disk.erase_failed t.disk (spot_at die block) left })
  erase_ends_wrong left =
      subst (λ (rows : List DieRow). Kept (changed c (states_with c die block state.Bad) rows c.pages c.mending
      c.step c.next_mark) (record t { disk = disk.erase_failed t.disk (spot_at die block) left }))
      (sym (failed_rows c die block b there))
      (kept_over c t die block b disk.Bad (filling_but block b.filling) (states_with c die block state.Bad) c.pages
      left t.disk.finished t.disk.erasing t.ledger t.work h.kept there
      (blocks_lost c t die block h.kept (die_within c t die b h.kept there) within)
      (filling_failed t.numbers t.disk.blocks die block b.filling within (h.kept.dies.each die b there).filling)
      (fly_over t.ledger.standing t.disk.flights die c.rows (filling_but block b.filling) h.kept.fly)
      h.kept.ledger_kept h.kept.work h.kept.pins refl h.kept.readers)
