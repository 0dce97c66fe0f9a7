-- The read for a repair ends: it gives the content that the repaired key had at the life's start.
use Rattle.ftl_core.proofs.Common.{AreToRepair, Cell, Core, Describes, DieRow, Entry, ForStep, GroupPage, IsAnother}
use Rattle.ftl_core.proofs.Common.{IsCell, IsKey, IsStepCell, Kept, Key, Ledger, List, Name, None, Option, Page, Place}
use Rattle.ftl_core.proofs.Common.{ReadRight, ReadWrong, Some, Step, StepKept, StepReadsKept, Stored, Tag, Translation}
use Rattle.ftl_core.proofs.Common.{Valid, ap, at_die, at_die_cases, book, drop, end_flight, entry_for, false}
use Rattle.ftl_core.proofs.Common.{false≢true, inl, inr, is_mended, keys_to_repair, none-some, page_one, refl}
use Rattle.ftl_core.proofs.Common.{repairs_in, same_Some, shape_of_numbers, slice_get, step_there, step_wants, subst}
use Rattle.ftl_core.proofs.Common.{sym, true, with_content, with_row, ℕ, ⊎_elim, ◌∙◌, ◌≡◌, ◌≢◌, ◌⊎◌}
use Rattle.ufs_spec.specs.Disk as disk
use Rattle.ufs_spec.specs.Translation as layer
use Rattle.power_loss.specs.Invariant.{IsSecure}
use Rattle.power_loss.proofs.books.PagesByName.{old_page, page_same}
use Rattle.ftl_core.specs.declared.books.Step.TheVariants as steps
use Rattle.ftl_core.specs.Ends as ends
use Rattle.ftl_core.specs.Gives.{IsContentOf}
use Rattle.ftl_core.proofs.job_ended.ReadsEnded.{idle_kept}
use Rattle.ftl_core.proofs.job_ended.ReadsGiven.{IsPageOf, right_body, wrong_body}
use Rattle.ftl_core.proofs.job_ended.RepairsEnded.{IsRepairOf, key_known, repair_of, unmended}
use Rattle.ftl_core.proofs.job_ended.StepsOver.{flight_suits}
use Rattle.ftl_core.proofs.job_taken.Flown.{dies_changed, fly_over, reads_over}
use Rattle.ftl_core.proofs.pages.StoredNames.{AreAlike, stored_there}

-- The step that is read for

-- a repair whose content is still to be read from this place
pub record IsReadFor (step : Option Step) (place : Place) : Type 0 where
  pub number : ℕ
  pub key : Key
  pub stored : Stored
  pub is : step ≡ Some (steps.Repair number key (Some stored) false)
  pub place_is : stored.place ≡ place

-- or a copy of the page there
abbrev WantsOf : Option Step → Place → Type 0
WantsOf step place =
    IsReadFor step place ⊎ ((number : ℕ) × (key : Key) × (step ≡ Some (steps.Copy number key place None)))

pub read_for : (step : Option Step) (place : Place) → step_wants step ≡ Some place → WantsOf step place
read_for None place e = absurd (none-some _ e)
read_for (Some (steps.Mark n fence)) place e = absurd (none-some _ e)
read_for (Some (steps.Repair n k None there)) place e = absurd (none-some _ e)
read_for (Some (steps.Repair n k (Some s) true)) place e = absurd (none-some _ e)
read_for (Some (steps.Repair n k (Some s) false)) place e =
    inl (record { number = n; key = k; stored = s; is = refl; place_is = same_Some s.place place e })
read_for (Some (steps.Copy n k from None)) place e =
    inr (n, k, ap (λ (p : Place). Some (steps.Copy n k p None)) (same_Some from place e))
read_for (Some (steps.Copy n k from (Some tag))) place e = absurd (none-some _ e)

-- The page that it is read from

-- it is there, and has the content that the key had at the life's start
pub record IsBasePage (t : Translation) (place : Place) (k : Key) (n : ℕ) : Type 0 where
  pub page : IsPageOf t.disk.cells place k n
  pub content : page.body ≡ t.ledger.base k

base_page : (t : Translation) (k : Key) (s : Stored) → Valid t → is_mended t.work.mending ≡ false →
    IsKey (shape_of_numbers t.numbers) k →
    AreAlike t.ledger.standing (Some s) (t.ledger.first_page k) → IsBasePage t s.place k s.name.number
base_page t k s v not_mended known stands =
    record {
      page = record {
        tag = secure.tag;
        body = secure.body;
        there = ap t.disk.cells (sym at) ∙ secure.there;
        key = ap (λ (e : Entry). e.item.key) same;
        number = secure.number;
      };
      content = ap (λ (e : Entry). e.item.body) same;
    }
  where
    name : Name
    name = s.name

    r : (t.ledger.first_page k ≡ Some name) × (t.ledger.standing name.number name.index ≡ Some s.place)
    r = stored_there t.ledger.standing s (t.ledger.first_page k) stands

    secure : IsSecure t.ledger.standing t.disk.cells t.disk.finished t.disk.blocks t.disk.erasing name.number name.index
    secure = v.unmended.stand not_mended k name s.place known r.0 r.1

    at : secure.place ≡ s.place
    at = same_Some secure.place s.place (sym secure.known ∙ r.1)

    first : (size : ℕ) × (t.ledger.entries_before name.number name.index ≡
        Some (record { item = record { key = k; body = t.ledger.base k }; size = size }))
    first = v.book_right.first_content k name known r.0

    same : entry_for secure.tag secure.body ≡
        record { item = record { key = k; body = t.ledger.base k }; size = first.0 }
    same = page_one (book t) name.number name.index (entry_for secure.tag secure.body)
        (record { item = record { key = k; body = t.ledger.base k }; size = first.0 })
        (page_same (book t) (entry_for secure.tag secure.body) secure.number secure.index
        (v.pages.known secure.place secure.tag secure.body secure.there))
        (old_page (book t) name.number name.index (v.book_right.old_within name.number name.index _ first.1) first.1)

-- What is kept

-- the step of the layer has its content
there_now : (l : Ledger) (n : ℕ) (k : Key) (s : Stored) (content : List ℕ) (w : Option layer.Step) →
    IsRepairOf l n k (Some s) false content w →
    StepKept l (Some (steps.Repair n k (Some s) true)) (l.base k) (step_there w)
there_now l n k s content w r =
    subst (λ (z : Option layer.Step). StepKept l (Some (steps.Repair n k (Some s) true)) (l.base k) (step_there z))
    (sym r.step) (
      refl,
      record {
        next = r.right.next;
        last = r.right.last;
        new = r.right.new;
        entry = r.right.entry;
        stored = r.right.stored;
        content_is = λ e. refl;
      },
    )

-- a page in flight of a step whose content is not there is none
suits_there : (n : ℕ) (k : Key) (from : Option Stored) (cell : Cell) →
    IsStepCell (Some (steps.Repair n k from false)) cell → IsStepCell (Some (steps.Repair n k from true)) cell
suits_there n k from (GroupPage tag body) h = absurd (false≢true h.2)
suits_there n k from cell h = absurd h

module _ (c : Core) (t : Translation) (die : ℕ) (b : DieRow) (place : Place) (h : Describes c t)
    (there : slice_get c.rows die ≡ Some b) (flies : t.disk.flights die ≡ Some (disk.Reading ForStep place)) where
  abbrev pub idle : Core
  idle = with_row c die record { filling = b.filling; flight = None }

  -- no other die reads for the step
  pub one_read : (after : Option Step) → StepReadsKept (at_die t.disk.flights die None) after
  one_read after e p is = ⊎_elim
      (λ k. absurd (none-some _ (sym k.1 ∙ is)))
      (λ (k : (e ≢ die) × (at_die t.disk.flights die None e ≡ t.disk.flights e)).
      let reads = sym k.1 ∙ is in
      let one = same_Some p place (sym (h.kept.step_reads e p reads) ∙ h.kept.step_reads die place flies) in
      absurd (k.0 (sym (h.valid.reads.at_home e ForStep p reads) ∙ ap (λ (z : Place). z.die) one
      ∙ h.valid.reads.at_home die ForStep place flies)))
      (at_die_cases t.disk.flights die None e)

  -- the content is not there: it is owed again
  pub read_was_none : (new : Core) (tag : Option Tag) (body : Option (List ℕ)) → body ≡ None →
      new ≡ with_content idle tag body →
      Kept new (end_flight t die (Some (disk.Reading ForStep place)) ReadWrong)
  read_was_none new tag body none is =
      subst (λ (z : Core). Kept z (end_flight t die (Some (disk.Reading ForStep place)) ReadWrong))
      (sym (is ∙ ap (with_content idle tag) none)) (idle_kept c t die b h.kept there)

-- The read for a repair

module _ (c : Core) (t : Translation) (die : ℕ) (b : DieRow) (place : Place) (h : Describes c t)
    (there : slice_get c.rows die ≡ Some b) (flies : t.disk.flights die ≡ Some (disk.Reading ForStep place))
    (step_read : IsReadFor c.step place) where
  abbrev idle_c : Core
  idle_c = idle c t die b place h there flies

  abbrev after : Option Step
  after = Some (steps.Repair step_read.number step_read.key (Some step_read.stored) true)

  repair : IsRepairOf t.ledger step_read.number step_read.key (Some step_read.stored) false c.content t.work.step
  repair = repair_of t.ledger step_read.number step_read.key (Some step_read.stored) false c.content t.work.step
      (subst (λ (z : Option Step). StepKept t.ledger z c.content t.work.step) step_read.is h.kept.work.step_is)

  content_there : Kept (record idle_c { content = t.ledger.base step_read.key; step = after })
      (record t {
        disk = record t.disk { flights = at_die t.disk.flights die None };
        work = record t.work { step = step_there t.work.step };
      })
  content_there = record {
    numbers = h.kept.numbers;
    blocks = h.kept.blocks;
    dies = dies_changed t.numbers t.disk.blocks t.disk.blocks t.disk.flights c.step after c.rows die b
        (record { filling = b.filling; flight = None }) None h.kept.dies there (λ s apart. refl)
        (λ e y apart got job. flight_suits t.numbers c.step after e y.filling y.flight (t.disk.flights e)
        (λ q cell is page. suits_there step_read.number step_read.key (Some step_read.stored) cell
        (subst (λ (z : Option Step). IsStepCell z cell) step_read.is page))
        (λ none. sym (ap repairs_in step_read.is) ∙ none) job)
        (record { filling = (h.kept.dies.each die b there).filling; job = tt });
    fly = fly_over t.ledger.standing t.disk.flights die c.rows b.filling h.kept.fly;
    ledger_kept = h.kept.ledger_kept;
    work = record {
      mending_is = h.kept.work.mending_is;
      step_is = there_now t.ledger step_read.number step_read.key step_read.stored c.content t.work.step repair;
      to_repair = λ e. subst (λ (z : Option Step). AreToRepair t.ledger (keys_to_repair z (drop c.repaired c.lost)))
          step_read.is (h.kept.work.to_repair e);
      next_mark = h.kept.work.next_mark;
      repaired = h.kept.work.repaired;
    };
    plan = h.kept.plan;
    claims = h.kept.claims;
    pins = h.kept.pins;
    differ = h.kept.differ;
    reads = reads_over t.disk.flights die c.pins h.kept.reads;
    step_reads = one_read c t die b place h there flies after;
    readers = h.kept.readers;
  }

  -- the page of the step's place
  wanted : IsBasePage t place step_read.key step_read.stored.name.number
  wanted = subst (λ (p : Place). IsBasePage t p step_read.key step_read.stored.name.number) step_read.place_is
      (base_page t step_read.key step_read.stored h.valid (unmended t _ _ false h.valid repair.step)
      (key_known t step_read.number step_read.key (Some step_read.stored) false c.content h.valid repair.right)
      repair.right.stored)

  pub read_was_right : (page : Page) (tag : Option Tag) (new : Core) → IsCell page (t.disk.cells place) →
      (body : Option (List ℕ)) × IsContentOf c.step page body × (new ≡ with_content idle_c tag body) →
      Kept new (end_flight t die (Some (disk.Reading ForStep place)) ReadRight)
  read_was_right page tag new cell r =
      subst (λ (z : Core). Kept z (end_flight t die (Some (disk.Reading ForStep place)) ReadRight))
      (sym (r.2 ∙ ap (with_content idle_c tag) got ∙ now)) content_there
    where
      got : r.0 ≡ Some (t.ledger.base step_read.key)
      got = right_body page t.disk.cells place step_read.key step_read.stored.name.number r.0 wanted.page cell
          (subst (λ (z : Option Step). IsContentOf z page r.0) step_read.is r.1)
          ∙ ap (λ (z : List ℕ). Some z) wanted.content

      now : with_content idle_c tag (Some (t.ledger.base step_read.key)) ≡
          record idle_c { content = t.ledger.base step_read.key; step = after }
      now i = record (with_content idle_c tag (Some (t.ledger.base step_read.key))) { step = there_is i }
        where
          there_is : ends.step_there tag c.step ≡ after
          there_is = ap (ends.step_there tag) step_read.is

  pub read_was_wrong : (page : Page) (tag : Option Tag) (new : Core) → IsAnother page (t.disk.cells place) →
      (body : Option (List ℕ)) × IsContentOf c.step page body × (new ≡ with_content idle_c tag body) →
      Kept new (end_flight t die (Some (disk.Reading ForStep place)) ReadWrong)
  read_was_wrong page tag new other r =
      read_was_none c t die b place h there flies new tag r.0
      (wrong_body page t.disk.cells place step_read.key step_read.stored.name.number r.0 wanted.page other
      (subst (λ (z : Option Step). IsContentOf z page r.0) step_read.is r.1)) r.2
