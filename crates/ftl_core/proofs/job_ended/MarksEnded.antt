-- The program of a mark ends.
use Rattle.ftl_core.proofs.Common.{AreToRepair, BlockState, BlocksKept, Bool, Cells, Collection, Core, Describes}
use Rattle.ftl_core.proofs.Common.{DieRow, Fence, IsFilling, IsStepCell, Kept, Key, Ledger, List, Mark, MarkPage}
use Rattle.ftl_core.proofs.Common.{Mended, Mending, MendingRight, Name, None, Numbers, OpenBlock, Option, Place}
use Rattle.ftl_core.proofs.Common.{Repairing, Some, Spot, Step, StepKept, StepKind, Translation, Unmarked, Valid, ap}
use Rattle.ftl_core.proofs.Common.{arith, at_place, at_spot_cases, before_accepted, book, false, false≢true}
use Rattle.ftl_core.proofs.Common.{filling_but, greatest_number, if◌then◌else◌, inl, inr, is_mended, keys_to_repair}
use Rattle.ftl_core.proofs.Common.{layer_plan, length, mark_again, mark_ordered, mark_over, mending_kept, nat_le}
use Rattle.ftl_core.proofs.Common.{nat_lt, next_place, option_map, page_written, plan_over, refl, repairs_in, slice_get}
use Rattle.ftl_core.proofs.Common.{spot_at, state_after, subst, suc, sym, true, true≢false, went_bad, ℕ, ⊎_elim, ◌+◌}
use Rattle.ftl_core.proofs.Common.{◌∙◌, ◌≡◌, ◌≤◌}
use Rattle.std.specs.Prelude.{drop}
use Rattle.ufs_spec.specs.Disk as disk
use Rattle.ufs_spec.specs.Moves.{cell_failed, mark_written as layer_written, mending_after}
use Rattle.ufs_spec.specs.Translation as layer
use Rattle.ufs_spec.specs.Translation.{MarkStep}
use Rattle.power_loss.proofs.jobs.MarkEnded.{behind_unmended}
use Rattle.block_table.specs.declared.BlockState.TheVariants as state
use Rattle.ftl_core.specs.declared.books.Mending as kept
use Rattle.ftl_core.specs.declared.books.Mending.TheVariants as mendings
use Rattle.ftl_core.specs.declared.books.Step.TheVariants as steps
use Rattle.ftl_core.specs.Ends as ends
use Rattle.ftl_core.proofs.job_ended.PlansEnded.{IsFreeable, plan_frees, plan_stays}
use Rattle.ftl_core.proofs.job_ended.ChangeParts.{bad_fills, blocks_lost, blocks_on, blocks_put, blocks_with}
use Rattle.ftl_core.proofs.job_ended.ChangeParts.{rows_with, changed, closed_fills, failed_rows, filling_kept}
use Rattle.ftl_core.proofs.job_ended.ChangeParts.{kept_beside, ledger_marked, over, page_ends, states_with}
use Rattle.ftl_core.proofs.job_ended.JobsOver.{filling_failed, filling_on, filling_over}
use Rattle.ftl_core.proofs.job_ended.StepsOver.{none_reads, suits_next}
use Rattle.ftl_core.proofs.job_taken.Flown.{die_within, fly_over}

-- What follows a mark

mended_behind : (m : kept.Mending) (left : List Key) →
    mending_after (mending_kept m left) ≡ mending_kept (ends.mending_after m) left
mended_behind (mendings.Unmarked (Some fence)) left = refl
mended_behind (mendings.Unmarked None) left = refl
mended_behind mendings.Repairing left = refl
mended_behind mendings.Mended left = refl

abbrev mark_step : ℕ → Option Fence → Bool → layer.Step
mark_step n fence there = record { kind = MarkStep n fence; there = there }

abbrev repair_step : Name → Option Place → Bool → layer.Step
repair_step name from there = record { kind = layer.RepairStep name from; there = there }

-- the step under way is a mark
step_is_mark : (l : Ledger) (n : ℕ) (fence : Option Fence) (content : List ℕ) (w : Option layer.Step) →
    StepKept l (Some (steps.Mark n fence)) content w → w ≡ Some (mark_step n fence true)
step_is_mark l n fence content None h = absurd h
step_is_mark l n fence content (Some s) h = ap (λ (z : layer.Step). Some z) h

is_repair_kind : StepKind → Bool
is_repair_kind (MarkStep number fence) = false
is_repair_kind (layer.CopyStep name from) = false
is_repair_kind (layer.RepairStep name from) = true

is_repair : Option layer.Step → Bool
is_repair None = false
is_repair (Some s) = is_repair_kind s.kind

no_repair : {name : Name} {from : Option Place} {there : Bool} {n : ℕ} {fence : Option Fence} →
    Some (repair_step name from there) ≡ Some (mark_step n fence true) → ⊥
unfolding is_repair is_repair_kind
no_repair e = true≢false (ap is_repair e)

-- where a mark ends the mending each repair is durable
durable_behind : (t : Translation) (n : ℕ) (fence : Option Fence) → Valid t →
    t.work.step ≡ Some (mark_step n fence true) →
    (is_mended t.work.mending ≡ true → before_accepted t.ledger ≤ t.ledger.frontier) →
    is_mended (mending_after t.work.mending) ≡ true → before_accepted t.ledger ≤ t.ledger.frontier
durable_behind t n fence v step before = by t.work.mending refl
  where
    right : (m : Mending) → t.work.mending ≡ m → MendingRight (book t) t.disk t.ledger t.work.plan t.work.step m
    right m e = subst (MendingRight (book t) t.disk t.ledger t.work.plan t.work.step) e v.mending

    by : (m : Mending) → t.work.mending ≡ m → is_mended (mending_after m) ≡ true →
        before_accepted t.ledger ≤ t.ledger.frontier
    by (Unmarked None lost) e k =
        let r = right (Unmarked None lost) e in
        let none : length t.ledger.groups ≡ 0 = ap length r.none_new in
        let within = v.history.within in
        let still = r.still in
        omega (arith, none, within, still)
    by (Unmarked (Some f) lost) e k = absurd (false≢true k)
    by (Repairing left) e k = ⊎_elim
        (λ still. let within = v.history.within in omega (arith, still, within))
        (λ more. absurd (no_repair (sym more.1.2 ∙ step)))
        (right (Repairing left) e).more.under_way
    by Mended e k = before (ap is_mended e)

-- the keys that are left are as they were
left_kept : (l now : Ledger) (step : Option Step) (n : ℕ) (fence : Option Fence) (left : List Key) →
    step ≡ Some (steps.Mark n fence) →
    (AreToRepair l left → AreToRepair now left) → AreToRepair l (keys_to_repair step left) → AreToRepair now left
left_kept l now step n fence left is go h =
    go (subst (λ (z : Option Step). AreToRepair l (keys_to_repair z left)) is h)

-- A mark is written

-- what the layer knows once the mark stands, with its block in this state
abbrev pub mark_stands : Translation → ℕ → OpenBlock → Mark → disk.BlockState → Translation
mark_stands t die o m x =
    over t die (blocks_with t die o.block x) (at_place t.disk.cells (next_place die o) (MarkPage m))
    (at_place t.disk.finished (next_place die o) true) t.disk.erasing
    (record t.ledger { newest = Some m })
    (record t.work { mending = mending_after t.work.mending; step = None })

module _ (c : Core) (t : Translation) (die : ℕ) (b : DieRow) (o : OpenBlock) (m : Mark) (n : ℕ) (fence : Option Fence)
    (h : Describes c t) (there : slice_get c.rows die ≡ Some b) (fills : b.filling ≡ Some o)
    (flies : t.disk.flights die ≡ Some (disk.Programming (next_place die o) (MarkPage m)))
    (step : c.step ≡ Some (steps.Mark n fence)) (page : IsStepCell c.step (MarkPage m)) where
  abbrev left : List Key
  left = drop c.repaired c.lost

  layer_step : t.work.step ≡ Some (mark_step n fence true)
  layer_step = step_is_mark t.ledger n fence c.content t.work.step
      (subst (λ (z : Option Step). StepKept t.ledger z c.content t.work.step) step h.kept.work.step_is)

  filling : IsFilling t.numbers t.disk.blocks die (Some o)
  filling = filling_kept c t die b (Some o) h.kept there fills

  mark_parts : (x : disk.BlockState) (states : List BlockState) (f : Option OpenBlock) →
      BlocksKept t.numbers (blocks_with t die o.block x) t.disk.vacancies states →
      IsFilling t.numbers (blocks_with t die o.block x) die f →
      Kept (changed c states (rows_with c die f) c.pages (ends.mending_after c.mending) None c.next_mark)
      (mark_stands t die o m x)
  mark_parts x states f bs fs =
      kept_beside c t die o.block b x f states c.pages (ends.mending_after c.mending) None c.next_mark
      (at_place t.disk.cells (next_place die o) (MarkPage m))
      (at_place t.disk.finished (next_place die o) true) t.disk.erasing
      (record t.ledger { newest = Some m })
      (record t.work { mending = mending_after t.work.mending; step = None })
      h.kept there bs fs
      (fly_over t.ledger.standing t.disk.flights die c.rows f h.kept.fly)
      (ledger_marked c.numbers c.places c.pages c.frontier c.last t.ledger (Some m) t.ledger.marks h.kept.ledger_kept)
      record {
        mending_is = ap mending_after h.kept.work.mending_is ∙ mended_behind c.mending left;
        step_is = tt;
        to_repair = λ e.
            left_kept t.ledger (record t.ledger { newest = Some m }) c.step n fence left step
            (λ k. record { differ = k.differ; unrepaired = k.unrepaired })
            (h.kept.work.to_repair (behind_unmended t.work.mending e));
        next_mark = h.kept.work.next_mark;
        repaired = durable_behind t n fence h.valid layer_step h.kept.work.repaired;
      }
      h.kept.pins
      (suits_next c t die (next_place die o) (MarkPage m) h flies page None refl)
      (none_reads c t die (next_place die o) (MarkPage m) h flies page None) refl
      (λ e. h.kept.readers (behind_unmended t.work.mending e))

  mark_on : Kept (changed c c.states (rows_with c die (Some (record { block = o.block; next = o.next + 1 })))
      c.pages (ends.mending_after c.mending) None c.next_mark)
      (mark_stands t die o m (disk.Filling (o.next + 1)))
  mark_on = mark_parts (disk.Filling (o.next + 1)) c.states (Some (record { block = o.block; next = o.next + 1 }))
      (blocks_on t.numbers t.disk.blocks t.disk.vacancies c.states (spot_at die o.block) o.next
      (o.next + 1) filling.1 h.kept.blocks)
      (filling_on t.numbers t.disk.blocks die o (o.next + 1) filling)

  mark_last : Kept (changed c (states_with c die o.block state.Closed)
      (rows_with c die None) c.pages (ends.mending_after c.mending) None c.next_mark)
      (mark_stands t die o m disk.Closed)
  mark_last = mark_parts disk.Closed (states_with c die o.block state.Closed) None
      (blocks_put c t die o.block disk.Closed h.kept (die_within c t die b h.kept there) filling.0)
      (filling_over t.numbers t.disk.blocks die o disk.Closed closed_fills filling)

  mark_done : Kept (page_written (mark_over c) die b (Some o))
      (mark_stands t die o m (state_after t.numbers.pages o.next))
  mark_done =
      page_ends (mark_over c) die b o t.numbers.pages (mark_stands t die o m)
      (ap (λ (n : Numbers). n.pages) h.kept.numbers) (h.valid.blocks.filling (spot_at die o.block) o.next filling.1)
      mark_on mark_last

  -- the block of a plan is another one than the mark's, and not filled
  freeable : (p : Collection) → (page_written (mark_over c) die b (Some o)).plan ≡ Some p →
      IsFreeable (mark_stands t die o m (state_after t.numbers.pages o.next)) p.victim
  freeable p is =
      let planned = sym (plan_stays (mark_over c) die b (Some o)) ∙ is in
      let inside = h.kept.plan.inside p planned in
      let right = h.valid.plan.one (layer_plan p) (h.kept.plan.plan_is ∙ ap (option_map layer_plan) planned) in
      record {
        die = inside.0;
        block = inside.1;
        state = ⊎_elim
            (λ e. inl (beside (state_after t.numbers.pages o.next) p.victim disk.Closed closed_fills e ∙ e))
            (λ e. inr (beside (state_after t.numbers.pages o.next) p.victim disk.Bad bad_fills e ∙ e))
            right.state;
      }
    where
      beside : (x : disk.BlockState) (s : Spot) (y : disk.BlockState) → ((next : ℕ) → y ≡ disk.Filling next → ⊥) →
          t.disk.blocks s ≡ y → blocks_with t die o.block x s ≡ t.disk.blocks s
      beside x s y never e = ⊎_elim
          (λ k. absurd (never o.next (sym e ∙ ap t.disk.blocks k.0 ∙ filling.1)))
          (λ k. k.1)
          (at_spot_cases t.disk.blocks (spot_at die o.block) x s)

  pub mark_ends_well : Kept (plan_over (page_written (mark_over c) die b b.filling))
      (layer_written t (next_place die o) m)
  mark_ends_well =
      subst (λ (f : Option OpenBlock). Kept (plan_over (page_written (mark_over c) die b f))
      (layer_written t (next_place die o) m)) (sym fills)
      (plan_frees (page_written (mark_over c) die b (Some o))
      (mark_stands t die o m (state_after t.numbers.pages o.next)) mark_done freeable)

-- A mark could not be written

fence_in : StepKind → Option Fence
fence_in (MarkStep number fence) = fence
fence_in (layer.CopyStep name from) = None
fence_in (layer.RepairStep name from) = None

fence_of : Option layer.Step → Option Fence
fence_of None = None
fence_of (Some s) = fence_in s.kind

same_fence : (number other : ℕ) (fence f : Option Fence) (there : Bool) →
    Some (mark_step number fence there) ≡ Some (mark_step other f true) → fence ≡ f
unfolding fence_of fence_in
same_fence number other fence f there e = ap fence_of e

-- two choices by one test
both_ways : (P : Core → Translation → Type 0) (x y : Bool) → x ≡ y → (c d : Core) (t u : Translation) → P c t → P d u →
    P (if x then c else d) (if y then t else u)
both_ways P true true e c d t u h k = h
both_ways P true false e c d t u h k = cc
both_ways P false true e c d t u h k = cc
both_ways P false false e c d t u h k = k

module _ (c : Core) (t : Translation) (die : ℕ) (b : DieRow) (o : OpenBlock) (m : Mark) (n : ℕ) (fence : Option Fence)
    (cells : Cells) (h : Describes c t) (there : slice_get c.rows die ≡ Some b) (fills : b.filling ≡ Some o)
    (flies : t.disk.flights die ≡ Some (disk.Programming (next_place die o) (MarkPage m)))
    (step : c.step ≡ Some (steps.Mark n fence)) (page : IsStepCell c.step (MarkPage m)) where
  failed_filling : IsFilling t.numbers t.disk.blocks die (Some o)
  failed_filling = filling_kept c t die b (Some o) h.kept there fills

  fail_parts : (s : Option Step) (next marks : ℕ) (w : Option layer.Step) → repairs_in s ≡ 0 →
      keys_to_repair s (drop c.repaired c.lost) ≡ drop c.repaired c.lost →
      StepKept (record t.ledger { marks = marks }) s c.content w → next ≡ suc marks →
      Kept (went_bad (record c { step = s; next_mark = next }) die o.block)
      (over t die (blocks_with t die o.block disk.Bad) cells
      (at_place t.disk.finished (next_place die o) false) t.disk.erasing
      (record t.ledger { marks = marks }) (record t.work { step = w }))
  fail_parts s next marks w no_repair same is numbered =
      subst (λ (rows : List DieRow). Kept (changed c (states_with c die o.block state.Bad) rows c.pages c.mending s
      next) (over t die (blocks_with t die o.block disk.Bad) cells
      (at_place t.disk.finished (next_place die o) false) t.disk.erasing
      (record t.ledger { marks = marks }) (record t.work { step = w })))
      (sym (failed_rows c die o.block b there))
      (kept_beside c t die o.block b disk.Bad (filling_but o.block b.filling) (states_with c die o.block state.Bad)
      c.pages c.mending s next
      cells (at_place t.disk.finished (next_place die o) false) t.disk.erasing
      (record t.ledger { marks = marks }) (record t.work { step = w })
      h.kept there (blocks_lost c t die o.block h.kept (die_within c t die b h.kept there) failed_filling.0)
      (filling_failed t.numbers t.disk.blocks die o.block b.filling failed_filling.0
      (h.kept.dies.each die b there).filling)
      (fly_over t.ledger.standing t.disk.flights die c.rows (filling_but o.block b.filling) h.kept.fly)
      (ledger_marked c.numbers c.places c.pages c.frontier c.last t.ledger t.ledger.newest marks h.kept.ledger_kept)
      record {
        mending_is = h.kept.work.mending_is;
        step_is = is;
        to_repair = λ e.
            subst (AreToRepair (record t.ledger { marks = marks })) (sym same)
            (left_kept t.ledger (record t.ledger { marks = marks }) c.step n fence (drop c.repaired c.lost) step
            (λ k. record { differ = k.differ; unrepaired = k.unrepaired }) (h.kept.work.to_repair e));
        next_mark = numbered;
        repaired = h.kept.work.repaired;
      }
      h.kept.pins
      (suits_next c t die (next_place die o) (MarkPage m) h flies page s no_repair)
      (none_reads c t die (next_place die o) (MarkPage m) h flies page s) refl h.kept.readers)

  failed_fence : m.fence ≡ fence
  failed_fence =
      let f = h.valid.flights.mark die (next_place die o) m flies in
      same_fence m.number n m.fence fence f.there
      (sym f.step_is ∙ layer_step c t die b o m n fence h there fills flies step page)

  pub mark_ends_wrong : Kept (went_bad (mark_ordered c fence) die o.block)
      (cell_failed t (next_place die o) (MarkPage m) cells)
  mark_ends_wrong =
      subst (λ (f : Option Fence). Kept (went_bad (mark_ordered c fence) die o.block)
      (mark_again (record t { disk = disk.program_failed t.disk (next_place die o) cells }) f)) (sym failed_fence)
      (both_ways (λ (z : Core) (u : Translation). Kept (went_bad z die o.block) u) (nat_le c.next_mark greatest_number)
      (nat_lt t.ledger.marks greatest_number)
      (ap (λ (n : ℕ). nat_le n greatest_number) h.kept.work.next_mark)
      (record c { step = Some (steps.Mark c.next_mark fence); next_mark = c.next_mark + 1 }) (record c { step = None })
      (layer.mark_ordered (record t { disk = disk.program_failed t.disk (next_place die o) cells }) fence)
      (record t { disk = disk.program_failed t.disk (next_place die o) cells; work = record t.work { step = None } })
      (fail_parts (Some (steps.Mark c.next_mark fence)) (c.next_mark + 1) (t.ledger.marks + 1)
      (Some (mark_step (t.ledger.marks + 1) fence true)) refl refl
      (ap (λ (k : ℕ). mark_step k fence true) (let e = h.kept.work.next_mark in omega arith))
      (let e = h.kept.work.next_mark in omega arith))
      (fail_parts None c.next_mark t.ledger.marks None refl refl tt h.kept.work.next_mark))
