-- The read for the step under way ends: it gives the content that the repaired key had at the life's start, or that of
-- the page that is copied.
use Rattle.ftl_core.proofs.Common.{All, All-head, AreToRepair, CopyKept, CopyStep, Core, Describes, DieRow, Ending}
use Rattle.ftl_core.proofs.Common.{Entry, ForStep, IsAnother, IsCell, IsEndingOf, IsNeededPage, IsReadAfter, IsStepCell}
use Rattle.ftl_core.proofs.Common.{Kept, Key, List, Name, None, Option, Outcome, Page, Place, ReadRight, ReadWrong}
use Rattle.ftl_core.proofs.Common.{Some, Step, StepKept, Tag, Translation, Want, [], ap, at_die, drop, end_flight}
use Rattle.ftl_core.proofs.Common.{entry_for, entry_of, false, false≢true, inl, inr, is_read, keys_to_repair, name_of}
use Rattle.ftl_core.proofs.Common.{refl, same_Some, slice_get, step_there, subst, sym, want_at, wants_of_step}
use Rattle.ftl_core.proofs.Common.{with_content, ℕ, ⊎_elim, ◌∙◌, ◌≡◌, ◌⊎◌}
use Rattle.std.specs.Prelude.{IfSome}
use Rattle.ufs_spec.proofs.SealedPages.{sealed_tag}
use Rattle.ufs_spec.specs.Disk as disk
use Rattle.ufs_spec.specs.Translation as layer
use Rattle.ufs_spec.specs.Translation.{tag_of}
use Rattle.ufs_spec.specs.declared.flash.Outcome.TheVariants as outcome
use Rattle.ufs_spec.specs.Cells.{Opens}
use Rattle.ufs_spec.specs.Pages.{IsSealedAs, IsTag}
use Rattle.page_tag.specs.Jobs.{IsTagOf, IsTagRead}
use Rattle.ftl_core.specs.declared.books.Step.TheVariants as steps
use Rattle.ftl_core.specs.Describes.{IsCopied}
use Rattle.ftl_core.specs.Ends as ends
use Rattle.ftl_core.specs.Gives.{IsContentOf}
use Rattle.ftl_core.proofs.job_ended.ReadsGiven.{IsPageOf, right_body, wrong_body}
use Rattle.ftl_core.proofs.job_ended.StepsOver.{flight_suits}
use Rattle.ftl_core.proofs.job_taken.Flown.{dies_changed, fly_over, reads_over}
use Rattle.ftl_core.proofs.job_ended.RepairContent.{IsReadFor, idle, one_read, read_for, read_was_none, read_was_right}
use Rattle.ftl_core.proofs.job_ended.RepairContent.{read_was_wrong}

-- The read for a copy

-- the step copies the page there, and is still to be read
pub record IsCopyOf (c : Core) (t : Translation) (place : Place) : Type 0 where
  pub number : ℕ
  pub key : Key
  pub is : c.step ≡ Some (steps.Copy number key place None)
  pub name : Name
  pub step : t.work.step ≡ Some (record { kind = CopyStep name place; there = false })
  pub right : CopyKept t.ledger number key None c.content name

copy_of : (c : Core) (t : Translation) (number : ℕ) (key : Key) (place : Place) →
    c.step ≡ Some (steps.Copy number key place None) → StepKept t.ledger c.step c.content t.work.step →
    IsCopyOf c t place
copy_of c t number key place is kept =
    by t.work.step refl (subst (λ (z : Option Step). StepKept t.ledger z c.content t.work.step) is kept)
  where
    by : (w : Option layer.Step) → t.work.step ≡ w →
        StepKept t.ledger (Some (steps.Copy number key place None)) c.content w → IsCopyOf c t place
    by None e k = absurd k
    by (Some s) e k = record {
      number = number;
      key = key;
      is = is;
      name = k.0;
      step = e ∙ ap (λ (z : layer.Step). Some z) k.1;
      right = k.2;
    }

module _ (c : Core) (t : Translation) (die : ℕ) (b : DieRow) (place : Place) (h : Describes c t)
    (there : slice_get c.rows die ≡ Some b) (flies : t.disk.flights die ≡ Some (disk.Reading ForStep place))
    (copy : IsCopyOf c t place) where
  abbrev idle_then : Core
  idle_then = idle c t die b place h there flies

  needed : IsNeededPage t.disk.cells t.disk.finished t.disk.blocks t.disk.erasing place
  needed = All-head (λ (want : Want). IsNeededPage t.disk.cells t.disk.finished t.disk.blocks t.disk.erasing want.place)
      (want_at ForStep place) []
      (subst (λ (w : Option layer.Step). All
      (λ (want : Want). IsNeededPage t.disk.cells t.disk.finished t.disk.blocks t.disk.erasing want.place)
      (wants_of_step w)) copy.step h.valid.to_read.wanted)

  abbrev read : Tag
  read = needed.page.tag

  abbrev data_read : List ℕ
  data_read = needed.page.body

  named : name_of read ≡ copy.name
  named = h.copies.named copy.name place copy.step read data_read needed.page.there

  same_entry : entry_for read data_read ≡ copy.right.entry
  same_entry = same_Some (entry_for read data_read) copy.right.entry
      (sym (h.valid.pages.known place read data_read needed.page.there)
      ∙ ap (entry_of t.ledger) named ∙ copy.right.known)

  -- the page of the copy's key and number is there
  page_there : IsPageOf t.disk.cells place copy.key copy.number
  page_there = record {
    tag = read;
    body = data_read;
    there = needed.page.there;
    key = ap (λ (e : Entry). e.item.key) same_entry ∙ copy.right.key;
    number = ap (λ (z : Name). z.number) named ∙ copy.right.number_is;
  }

  abbrev copied : Option Step
  copied = Some (steps.Copy copy.number copy.key place (Some read))

  copy_kept : StepKept t.ledger copied data_read (step_there t.work.step)
  copy_kept = subst (λ (z : Option layer.Step). StepKept t.ledger copied data_read (step_there z)) (sym copy.step) (
    copy.name,
    refl,
    record {
      number_is = copy.right.number_is;
      place = copy.right.place;
      stands = copy.right.stands;
      entry = copy.right.entry;
      known = copy.right.known;
      key = copy.right.key;
      copied = λ tag e. subst (λ (z : Tag). IsCopied copy.name copy.right.entry z data_read)
          (same_Some read tag e)
          (record {
            content_is = ap (λ (x : Entry). x.item.body) same_entry;
            tag_is = λ frontier i. tag_of (sym named i) (sym same_entry i) frontier;
          });
    },
  )

  copy_there : Kept (record idle_then { content = data_read; step = copied })
      (record t {
        disk = record t.disk { flights = at_die t.disk.flights die None };
        work = record t.work { step = step_there t.work.step };
      })
  copy_there = record {
    numbers = h.kept.numbers;
    blocks = h.kept.blocks;
    dies = dies_changed t.numbers t.disk.blocks t.disk.blocks t.disk.flights c.step copied c.rows die b
        (record { filling = b.filling; flight = None }) None h.kept.dies there (λ s apart. refl)
        (λ e y apart got job. flight_suits t.numbers c.step copied e y.filling y.flight (t.disk.flights e)
        (λ q cell is page. absurd (subst (λ (z : Option Step). IsStepCell z cell) copy.is page))
        (λ none. refl) job)
        (record { filling = (h.kept.dies.each die b there).filling; job = tt });
    fly = fly_over t.ledger.standing t.disk.flights die c.rows b.filling h.kept.fly;
    ledger_kept = h.kept.ledger_kept;
    work = record {
      mending_is = h.kept.work.mending_is;
      step_is = copy_kept;
      to_repair = λ e. subst (λ (z : Option Step). AreToRepair t.ledger (keys_to_repair z (drop c.repaired c.lost)))
          copy.is (h.kept.work.to_repair e);
      next_mark = h.kept.work.next_mark;
      repaired = h.kept.work.repaired;
    };
    plan = h.kept.plan;
    claims = h.kept.claims;
    pins = h.kept.pins;
    differ = h.kept.differ;
    reads = reads_over t.disk.flights die c.pins h.kept.reads;
    step_reads = one_read c t die b place h there flies copied;
    readers = h.kept.readers;
  }

  -- the tag that is found is that of the page
  tag_found : (page : Page) (found : Option Tag) → IsCell page (t.disk.cells place) → IsTagOf page found →
      found ≡ Some read
  tag_found page found cell is = by found refl
    where
      opens : Opens page read data_read
      opens = (subst (IsCell page) needed.page.there cell).0

      by : (o : Option Tag) → found ≡ o → o ≡ Some read
      by None e = absurd (is.refused e read data_read opens.tag_right opens.sealed)
      by (Some u) e =
          let s = subst (λ (z : Option Tag). IfSome z (λ x. IsTag x × IsSealedAs page x page.body)) e is.sealed in
          ap (λ (z : Tag). Some z)
          (sealed_tag page u read page.body data_read s.0 opens.tag_right s.1 opens.sealed)

  copy_was_right : (page : Page) (found : Option Tag) (new : Core) → IsCell page (t.disk.cells place) →
      IsTagOf page found → (body : Option (List ℕ)) × IsContentOf c.step page body ×
      (new ≡ with_content idle_then found body) →
      Kept new (end_flight t die (Some (disk.Reading ForStep place)) ReadRight)
  unfolding page_there
  copy_was_right page found new cell is r =
      subst (λ (z : Core). Kept z (end_flight t die (Some (disk.Reading ForStep place)) ReadRight))
      (sym (r.2 ∙ (λ i. with_content idle_then (tag i) (got i)) ∙ now)) copy_there
    where
      tag : found ≡ Some read
      tag = tag_found page found cell is

      got : r.0 ≡ Some data_read
      got = right_body page t.disk.cells place copy.key copy.number r.0 page_there cell
          (subst (λ (z : Option Step). IsContentOf z page r.0) copy.is r.1)

      now : with_content idle_then (Some read) (Some data_read) ≡
          record idle_then { content = data_read; step = copied }
      now i = record (with_content idle_then (Some read) (Some data_read)) { step = there_is i }
        where
          there_is : ends.step_there (Some read) c.step ≡ copied
          there_is = ap (ends.step_there (Some read)) copy.is

  copy_was_wrong : (page : Page) (found : Option Tag) (new : Core) → IsAnother page (t.disk.cells place) →
      (body : Option (List ℕ)) × IsContentOf c.step page body × (new ≡ with_content idle_then found body) →
      Kept new (end_flight t die (Some (disk.Reading ForStep place)) ReadWrong)
  copy_was_wrong page found new other r =
      read_was_none c t die b place h there flies new found r.0
      (wrong_body page t.disk.cells place copy.key copy.number r.0 page_there other
      (subst (λ (z : Option Step). IsContentOf z page r.0) copy.is r.1)) r.2

-- The content is there where the read ended well, and else it is owed again

module _ (c : Core) (t : Translation) (die : ℕ) (b : DieRow) (place : Place) (h : Describes c t)
    (there : slice_get c.rows die ≡ Some b) (flies : t.disk.flights die ≡ Some (disk.Reading ForStep place)) where
  for_whom : IsReadFor c.step place ⊎ IsCopyOf c t place
  for_whom = ⊎_elim (λ r. inl r)
      (λ (r : (number : ℕ) × (key : Key) × (c.step ≡ Some (steps.Copy number key place None))).
      inr (copy_of c t r.0 r.1 place r.2 h.kept.work.step_is))
      (read_for c.step place (h.kept.step_reads die place flies))

  pub step_read_ends : (o : Outcome) (tag : Option Tag) (ending : Ending) (new : Core) → IsTagRead o tag →
      IsEndingOf t.disk.cells (Some (disk.Reading ForStep place)) o ending →
      IsReadAfter (is_read o) c die b o tag ForStep new →
      Kept new (end_flight t die (Some (disk.Reading ForStep place)) ending)
  step_read_ends (outcome.Read page) tag ReadRight new found is r = ⊎_elim
      (λ x. read_was_right c t die b place h there flies x page tag new is.1 r)
      (λ x. copy_was_right c t die b place h there flies x page tag new is.1 found r)
      for_whom
  step_read_ends (outcome.Read page) tag ReadWrong new found is r = ⊎_elim
      (λ x. read_was_wrong c t die b place h there flies x page tag new is.1 r)
      (λ x. copy_was_wrong c t die b place h there flies x page tag new is.1 r)
      for_whom
  step_read_ends outcome.ReadFailed tag ReadWrong new found is r =
      read_was_none c t die b place h there flies new tag r.0 r.1 r.2
  step_read_ends outcome.Done tag ending new found is r = absurd (false≢true is.0)
  step_read_ends outcome.Failed tag ending new found is r = absurd (false≢true is.0)
  step_read_ends o tag ending new found is r = absurd is.1
