-- The page of a group is written, and the groups at the front become durable.
use Rattle.ftl_core.proofs.Common.{Core, Describes, DieRow, Kept, List, OpenBlock, Some, Tag, Translation, group_ended}
use Rattle.ftl_core.proofs.Common.{is_mended, name_of, next_place, page_written, pending_written, settled, slice_set}
use Rattle.ftl_core.proofs.Common.{step_after, subst, sym, true, with_live, ℕ, ◌≡◌}
use Rattle.ufs_spec.specs.Moves as moves
use Rattle.ftl_core.proofs.group_settled.FrontDurable.{MayClimb, all_settled, climbed_of}
use Rattle.ftl_core.proofs.group_settled.FrontLedger.{GroupsRight, groups_right}
use Rattle.ftl_core.proofs.group_settled.PageStands.{IsPending, written_there}
use Rattle.ftl_core.proofs.group_settled.PageWritten.{IsGroupFlight, flown_mended, flown_new, flown_pending, page_kept}
use Rattle.ftl_core.proofs.group_settled.PageWritten.{with_group_page}
use Rattle.ftl_core.proofs.look_and_accept.Numbers.{IsRepair, no_repair_mended, step_stays}

-- the page at the position is written
abbrev pub so_far : (c : Core) (t : Translation) → ℕ → DieRow → OpenBlock → (tag : Tag) →
    IsPending c t.ledger (name_of tag) → Core
so_far c t die b o tag at =
    page_written (record c {
      pages = slice_set c.pages at.at
          (record at.page { written = Some (next_place die o) });
      live = with_live c.live (next_place die o) true;
    }) die b (Some o)

module _ (c : Core) (t : Translation) (die : ℕ) (b : DieRow) (o : OpenBlock) (tag : Tag) (body : List ℕ)
    (h : Describes c t) (f : IsGroupFlight c t die b o tag body) where
  right : GroupsRight t.numbers t.ledger
  right = groups_right t h.valid

  pub pending_page : IsPending c t.ledger (name_of tag)
  pending_page = flown_pending c t die b o tag body h f

  mended : is_mended t.work.mending ≡ true
  mended = flown_mended c t die b o tag body h f

  no_repair : IsRepair (step_after (name_of tag) t.work.step) → ⊥
  no_repair r = no_repair_mended t h.valid
      (subst IsRepair (step_stays t.ledger c.step c.content t.work.step (name_of tag) h.kept.work.step_is
      (flown_new c t die b o tag body h.kept f) f.beside) r)
      mended

  -- the page stands, and the frontier may climb
  pub page_stands : Kept (so_far c t die b o tag pending_page) (with_group_page t (next_place die o) tag body)
  page_stands =
      page_kept c t die b o tag body pending_page.at pending_page.page h f pending_page.there pending_page.named mended

  pub may_climb : MayClimb (with_group_page t (next_place die o) tag body)
  may_climb = record {
    top = h.kept.work.repaired mended;
    mended = mended;
    no_repair = no_repair;
    groups = record { are_keys = right.are_keys; differ = right.differ; some = right.some };
  }

  pub core_so_far : page_written (pending_written c tag.number tag.index (next_place die o)) die b b.filling ≡
      so_far c t die b o tag pending_page
  core_so_far = λ i. page_written
      (written_there c t.ledger (name_of tag) (next_place die o) pending_page i) die b (f.filling i)

  -- what is kept goes on to describe the layer where the program of a group's page ended well
  pub group_ends_well : Kept (group_ended c die b (next_place die o) tag.number tag.index true)
      (moves.page_written t (next_place die o) tag body)
  group_ends_well =
      subst (λ (z : Core). Kept (settled z) (climbed_of (with_group_page t (next_place die o) tag body)))
      (sym core_so_far)
      (all_settled (so_far c t die b o tag pending_page) (with_group_page t (next_place die o) tag body) page_stands
      may_climb)
