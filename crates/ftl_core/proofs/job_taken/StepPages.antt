-- The page of the step under way, as it is programmed once its content is there.
use Rattle.ftl_core.proofs.Common.{Bool, Cell, CopyKept, CopyStep, Core, Describes, Entry, Fence, GroupPage, IsKey}
use Rattle.ftl_core.proofs.Common.{IsStepCell, Key, MarkPage, Mended, Mending, MendingRight, Name, None, Numbers}
use Rattle.ftl_core.proofs.Common.{Option, Place, RepairKept, RepairStep, Repairing, Shape, Some, Step, StepKept}
use Rattle.ftl_core.proofs.Common.{Stored, Tag, Translation, Unmarked, Valid, and_true, ap, arith, book, false}
use Rattle.ftl_core.proofs.Common.{false≢true, flies_name, if_false, if_true, is_sealable, length, length-map, list_any}
use Rattle.ftl_core.proofs.Common.{name_at, name_is, none_some, not, option_map, refl, regions, shape_of_numbers}
use Rattle.ftl_core.proofs.Common.{some_flight, step_job, subst, sym, told_by, true, ℕ, ◌&&◌, ◌∙◌, ◌≡◌, ◌≤◌}
use Rattle.std.proofs.lemmas.Bool.{le-leb, lt-ltb}
use Rattle.ufs_spec.proofs.Facts.{not-true}
use Rattle.ufs_spec.specs.Configs.{marked}
use Rattle.ufs_spec.specs.Disk as disk
use Rattle.ufs_spec.specs.Keys.{IsArea, IsData, IsSettings}
use Rattle.ufs_spec.specs.Openings.{IsFirstFence}
use Rattle.ufs_spec.specs.Pages.{seal_page}
use Rattle.ufs_spec.specs.Translation as layer
use Rattle.ufs_spec.specs.Translation.{MarkStep, cell_of_entry, records_now, step_cell, step_flies, waiting_step}
use Rattle.ufs_spec.specs.declared.flash.Job.TheVariants as job
use Rattle.power_loss.specs.Invariant.{FenceRight}
use Rattle.power_loss.proofs.books.SmallFacts.{name_told}
use Rattle.ftl_core.specs.declared.books.Step.TheVariants as steps
use Rattle.block_table.specs.declared.rows.Flight.TheVariants as flight
use Rattle.ftl_core.specs.Describes.{IsCopied}
use Rattle.ftl_core.specs.Moves.{single_tag}
use Rattle.ftl_core.specs.Takes.{is_step_there, repair_program, step_waits, writes_step}
use Rattle.ftl_core.proofs.job_taken.Flown.{copies_agree, marks_agree, repairs_agree}
use Rattle.ftl_core.proofs.job_taken.NextStarts.{MayBegin}

-- What a mark records

-- a mark with a fence is the first of its life: until then the frontier is the fence's last number
mark_records : (t : Translation) (fence : Option Fence) → Valid t → FenceRight t.work.mending fence →
    records_now t.ledger fence ≡ t.ledger.frontier
mark_records t None v right = refl
mark_records t (Some f) v right = by t.work.mending right v.mending
  where
    by : (m : Mending) → FenceRight m (Some f) →
        MendingRight (book t) t.disk t.ledger t.work.plan t.work.step m → f.last ≡ t.ledger.frontier
    by (Unmarked first lost) is holds =
        let fence = subst (IsFirstFence t.ledger.newest t.ledger.first_lost t.ledger.greatest_seen) (sym is)
        holds.fence_right in
        fence.1 ∙ sym holds.still
    by (Repairing left) is holds = absurd (none_some f (sym is.0))
    by Mended is holds = absurd (none_some f (sym is))

-- Keys

-- a tag can name each key of a device
pub sealable : (s : Shape) (k : Key) → length s.blocks ≤ 8 → IsKey s k → is_sealable k ≡ true
sealable s k few (IsData unit address low within) = le-leb unit 7 (omega arith)
sealable s k few (IsArea region page there within) = lt-ltb region regions there
sealable s k few IsSettings = refl

repair_sealable : (c : Core) (t : Translation) (number : ℕ) (k : Key) (from : Option Stored) (there : Bool) →
    Describes c t → length c.numbers.units.items ≤ 8 → RepairKept t.ledger number k from there c.content →
    is_sealable k ≡ true
repair_sealable c t number k from there h few r =
    sealable (shape_of_numbers t.numbers) k
    (omega (
      arith,
      length-map t.numbers.units.items (λ u. u.blocks),
      ap (λ (n : Numbers). length n.units.items)
          h.kept.numbers,
      few,
    ))
    (h.valid.book_right.keys number 0 (record { item = record { key = k; body = t.ledger.base k }; size = 1 }) r.entry)

-- The page of the step

-- what is programmed for the step under way, and that it may be
pub record StepPage (c : Core) (t : Translation) : Type 0 where
  pub cell : Cell
  pub waits : waiting_step t t.work.step ≡ Some cell
  pub is : IsStepCell c.step cell
  pub told : (place : Place) → step_job c place c.step ≡ Some (told_by (disk.Programming place cell))
  pub begins : (place : Place) → MayBegin c t (flight.Step place) (disk.Programming place cell)

-- the page of the step is there and no die writes it
abbrev is_waiting : Core → Option Step → Bool
is_waiting c kept = is_step_there kept && not (list_any writes_step c.rows)

-- the step waits here and there alike
waits_alike : (c : Core) (t : Translation) (kept : Option Step) (s : layer.Step) → c.step ≡ kept →
    s.there ≡ is_step_there kept → step_flies t s.kind ≡ list_any writes_step c.rows →
    (s.there && not (step_flies t s.kind)) ≡ step_waits c
waits_alike c t kept s is there flies =
    (λ i. there i && not (flies i)) ∙ ap (is_waiting c) (sym is)

mark_page : (c : Core) (t : Translation) (number : ℕ) (fence : Option Fence) → Describes c t →
    c.step ≡ Some (steps.Mark number fence) →
    t.work.step ≡ Some (record { kind = MarkStep number fence; there = true }) →
    waiting_step t t.work.step ≡ Some (step_cell t (MarkStep number fence)) → StepPage c t
mark_page c t number fence h is step waits = record {
  cell = step_cell t (MarkStep number fence);
  waits = waits;
  is = subst (λ (s : Option Step). IsStepCell s (step_cell t (MarkStep number fence))) (sym is) refl;
  told = λ place. ap (step_job c place) is
      ∙ (λ i. Some (told_by (disk.Programming place (MarkPage (record {
        number = number;
        records = records i;
        fence = fence;
        numbers = marked (h.kept.numbers i);
      })))));
  begins = λ place. record {
    alone = λ name e. absurd (false≢true e);
    fresh = λ q n i e. cc;
    wanted = λ tag index p e. cc;
    step_wanted = λ p e. cc;
  };
}
  where
    right : FenceRight t.work.mending fence
    right = (h.valid.step.kind (record { kind = MarkStep number fence; there = true }) step).fence_right

    records : c.frontier ≡ records_now t.ledger fence
    records = h.kept.ledger_kept.frontier ∙ sym (mark_records t fence h.valid right)

repair_page : (c : Core) (t : Translation) (number : ℕ) (k : Key) (from : Option Stored) (there : Bool) →
    Describes c t → length c.numbers.units.items ≤ 8 → c.step ≡ Some (steps.Repair number k from there) →
    RepairKept t.ledger number k from there c.content → there ≡ true →
    some_flight t (flies_name (name_at number 0)) ≡ false →
    waiting_step t t.work.step ≡ Some (layer.cell_now t.ledger (name_at number 0)) → StepPage c t
repair_page c t number k from there h few is r ready unflown waits = record {
  cell = GroupPage (single_tag k number t.ledger.frontier) (t.ledger.base k);
  waits = waits
      ∙ ap (λ (e : Option Entry). Some (cell_of_entry (name_at number 0) e t.ledger.frontier)) r.entry;
  is = subst (λ (s : Option Step). IsStepCell s (GroupPage (single_tag k number t.ledger.frontier) (t.ledger.base k)))
      (sym is) (refl, refl, ready);
  told = λ place. ap (step_job c place) is
      ∙ if_true (is_sealable k) (Some (repair_program c place number k)) None
      (repair_sealable c t number k from there h few r)
      ∙ (λ i. Some (job.Program place (seal_page (single_tag k number (h.kept.ledger_kept.frontier i))
      (r.content_is ready i))));
  begins = λ place. record {
    alone = λ name e.
        let same : name ≡ name_at number 0 = name_told name (name_at number 0) e in
        ap (λ (z : Name). some_flight t (flies_name z)) same ∙ unflown;
    fresh = λ q n i e. cc;
    wanted = λ tag index p e. cc;
    step_wanted = λ p e. cc;
  };
}

-- a copy has the data and the tag of the page that was read
copy_page : (c : Core) (t : Translation) (number : ℕ) (k : Key) (from : Place) (read : Tag) (name : Name) →
    Describes c t → c.step ≡ Some (steps.Copy number k from (Some read)) →
    CopyKept t.ledger number k (Some read) c.content name →
    some_flight t (flies_name name) ≡ false →
    waiting_step t t.work.step ≡ Some (layer.cell_now t.ledger name) → StepPage c t
copy_page c t number k from read name h is r unflown waits = record {
  cell = GroupPage (record read { frontier = t.ledger.frontier }) c.content;
  waits = waits
      ∙ ap (λ (e : Option Entry). Some (cell_of_entry name e t.ledger.frontier)) r.known
      ∙ (λ i. Some (GroupPage (copied.tag_is t.ledger.frontier i) (sym copied.content_is i)));
  is = subst (λ (s : Option Step). IsStepCell s (GroupPage (record read { frontier = t.ledger.frontier }) c.content))
      (sym is) (sym (ap (λ (z : Tag). z.number) (copied.tag_is 0)) ∙ r.number_is, refl);
  told = λ place. ap (step_job c place) is
      ∙ (λ i. Some (job.Program place
      (seal_page (record read { frontier = h.kept.ledger_kept.frontier i }) c.content)));
  begins = λ place. record {
    alone = λ other e.
        let same : other ≡ name = name_told other name_read e ∙ name_same in
        ap (λ (z : Name). some_flight t (flies_name z)) same ∙ unflown;
    fresh = λ q n i e. cc;
    wanted = λ tag index p e. cc;
    step_wanted = λ p e. cc;
  };
}
  where
    copied : IsCopied name r.entry read c.content
    copied = r.copied read refl

    name_read : Name
    name_read = record { number = read.number; index = read.index }

    name_same : name_read ≡ name
    name_same = name_is name_read name (sym (ap (λ (z : Tag). z.number) (copied.tag_is 0)))
        (sym (ap (λ (z : Tag). z.index) (copied.tag_is 0)))

-- What waits of the step: its page, or nothing
pub step_page : (c : Core) (t : Translation) → Describes c t → length c.numbers.units.items ≤ 8 →
    (step_waits c ≡ true → StepPage c t) × (step_waits c ≡ false → waiting_step t t.work.step ≡ None)
step_page c t h few = by c.step refl t.work.step refl h.kept.work.step_is
  where
    none : (s : layer.Step) → t.work.step ≡ Some s → (s.there && not (step_flies t s.kind)) ≡ step_waits c →
        step_waits c ≡ false → waiting_step t t.work.step ≡ None
    none s at same fails = ap (waiting_step t) at
        ∙ if_false (s.there && not (step_flies t s.kind)) (Some (step_cell t s.kind)) None (same ∙ fails)

    one : (s : layer.Step) → t.work.step ≡ Some s → (s.there && not (step_flies t s.kind)) ≡ step_waits c →
        step_waits c ≡ true → waiting_step t t.work.step ≡ Some (step_cell t s.kind)
    one s at same does = ap (waiting_step t) at
        ∙ if_true (s.there && not (step_flies t s.kind)) (Some (step_cell t s.kind)) None (same ∙ does)

    by : (kept : Option Step) → c.step ≡ kept → (step : Option layer.Step) → t.work.step ≡ step →
        StepKept t.ledger kept c.content step →
        (step_waits c ≡ true → StepPage c t) × (step_waits c ≡ false → waiting_step t t.work.step ≡ None)
    by None is None at k = (
      λ does. absurd (false≢true (sym (ap (is_waiting c) is) ∙ does)),
      λ fails. ap (waiting_step t) at,
    )
    by None is (Some s) at k = absurd k
    by (Some (steps.Mark number fence)) is None at k = absurd k
    by (Some (steps.Mark number fence)) is (Some s) at k =
        let step = at ∙ ap (λ (x : layer.Step). Some x) k in
        let mark : layer.Step = record { kind = MarkStep number fence; there = true } in
        let same = waits_alike c t (Some (steps.Mark number fence)) mark is refl
        (sym (marks_agree c t number fence h.kept is)) in (
          λ does. mark_page c t number fence h is step
              (one mark step same does),
          none mark step same,
        )
    by (Some (steps.Copy number key from None)) is None at k = absurd k
    by (Some (steps.Copy number key from None)) is (Some s) at k = (
      λ does. absurd (false≢true (sym (ap (is_waiting c) is) ∙ does)),
      λ fails. ap (waiting_step t) (at ∙ ap (λ (x : layer.Step). Some x) k.1),
    )
    by (Some (steps.Copy number key from (Some read))) is None at k = absurd k
    by (Some (steps.Copy number key from (Some read))) is (Some s) at k =
        let copy : layer.Step = record { kind = CopyStep k.0 from; there = true } in
        let step = at ∙ ap (λ (x : layer.Step). Some x) k.1 in
        let flies = sym (copies_agree c t number key from (Some read) k.0 h.kept k.2 is) in
        let same = waits_alike c t (Some (steps.Copy number key from (Some read))) copy is refl flies in (
          λ does.
              let unwritten : list_any writes_step c.rows ≡ false =
              not-true (list_any writes_step c.rows) (sym (ap (is_waiting c) is) ∙ does) in
              copy_page c t number key from read k.0 h is k.2 (flies ∙ unwritten) (one copy step same does),
          none copy step same,
        )
    by (Some (steps.Repair number key from there)) is None at k = absurd k
    by (Some (steps.Repair number key from there)) is (Some s) at k =
        let repair : layer.Step = record {
          kind = RepairStep (name_at number 0) (option_map (λ (at : Stored). at.place) from);
          there = there;
        } in
        let step = at ∙ ap (λ (x : layer.Step). Some x) k.0 in
        let flies = sym (repairs_agree c t number key from there h.kept is) in
        let same = waits_alike c t (Some (steps.Repair number key from there)) repair is refl flies in (
          λ does.
              let parts = and_true there (not (list_any writes_step c.rows))
              (sym (ap (is_waiting c) is) ∙ does) in
              repair_page c t number key from there h few is k.1 parts.0
              (flies ∙ not-true (list_any writes_step c.rows) parts.1) (one repair step same does),
          none repair step same,
        )
