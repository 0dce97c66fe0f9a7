-- The page of a repair is written: the repair is durable, and its key reads from that page.
use Rattle.ftl_core.proofs.Common.{AreToRepair, BlockState, BlocksKept, Bool, Core, Describes, DieRow, GroupPage}
use Rattle.ftl_core.proofs.Common.{IsFilling, IsKey, IsStepCell, Item, Kept, Key, Ledger, LedgerKept, List, Name, None}
use Rattle.ftl_core.proofs.Common.{Numbers, OpenBlock, Option, Place, RepairKept, RepairStep, Some, Step, StepKept}
use Rattle.ftl_core.proofs.Common.{Stored, Tag, Translation, Valid, [], ap, arith, at_place, at_spot, book, climbed}
use Rattle.ftl_core.proofs.Common.{drop, entry_of, false, false≢true, flies_name, if_true, is_mended, is_some}
use Rattle.ftl_core.proofs.Common.{keys_to_repair, length, name_at, name_is, name_of, name_self, next_place, noted}
use Rattle.ftl_core.proofs.Common.{option_map, page_at, page_written, refl, repair_over, risen, settled_pin}
use Rattle.ftl_core.proofs.Common.{shape_of_numbers, slice_get, spot_at, state_after, step_after, stored_in, subst, suc}
use Rattle.ftl_core.proofs.Common.{sym, true, ℕ, ◌+◌, ◌∙◌, ◌∷◌, ◌≡◌, ◌≤◌}
use Rattle.ufs_spec.specs.Disk as disk
use Rattle.ufs_spec.specs.Disk.{programmed}
use Rattle.ufs_spec.specs.Ledger.{is_standing}
use Rattle.ufs_spec.specs.Moves as moves
use Rattle.ufs_spec.specs.Translation as layer
use Rattle.block_table.specs.declared.BlockState.TheVariants as state
use Rattle.ftl_core.specs.declared.books.Step.TheVariants as steps
use Rattle.ftl_core.proofs.group_settled.FrontDurable.{climbed_of, raised_to}
use Rattle.ftl_core.proofs.group_settled.PageStands.{at_here, fly_written, stored_on, with_page, writers_fly}
use Rattle.ftl_core.proofs.group_settled.PageWritten.{with_group_page}
use Rattle.ftl_core.proofs.job_ended.ChangeParts.{blocks_on, blocks_put, rows_with, changed, closed_fills}
use Rattle.ftl_core.proofs.job_ended.ChangeParts.{filling_kept, kept_beside, page_ends, states_with}
use Rattle.ftl_core.proofs.job_ended.JobsOver.{filling_on, filling_over}
use Rattle.ftl_core.proofs.job_ended.RepairLedger.{climbs_one, last_alone, ledger_repaired, pins_off, repaired_left}
use Rattle.ftl_core.proofs.job_ended.StepsOver.{none_reads, suits_next}
use Rattle.ftl_core.proofs.job_taken.Flown.{die_within}
use Rattle.ftl_core.proofs.job_taken.Mended.{none_waiting}
use Rattle.ftl_core.proofs.look_and_accept.Numbers.{behind}
use Rattle.ftl_core.proofs.pins.PinsSettled.{at_frontier}
use Rattle.ftl_core.proofs.steps_ordered.NonePending.{no_names, none_kept}

-- The repair that is under way

abbrev repair_step : Name → Option Place → Bool → layer.Step
repair_step name from there = record { kind = RepairStep name from; there = there }

-- it is the step under way of the layer too
pub record IsRepairOf (l : Ledger) (n : ℕ) (k : Key) (from : Option Stored) (there : Bool) (content : List ℕ)
    (w : Option layer.Step) : Type 0 where
  pub step : w ≡ Some (repair_step (name_at n 0) (option_map (λ (at : Stored). at.place) from) there)
  pub right : RepairKept l n k from there content

pub repair_of : (l : Ledger) (n : ℕ) (k : Key) (from : Option Stored) (there : Bool) (content : List ℕ)
    (w : Option layer.Step) → StepKept l (Some (steps.Repair n k from there)) content w →
    IsRepairOf l n k from there content w
repair_of l n k from there content None h = absurd h
repair_of l n k from there content (Some s) h =
    record { step = ap (λ (z : layer.Step). Some z) h.0; right = h.1 }

-- a repair is under way only until the device is mended
pub unmended : (t : Translation) (name : Name) (from : Option Place) (there : Bool) → Valid t →
    t.work.step ≡ Some (repair_step name from there) → is_mended t.work.mending ≡ false
unmended t name from there v e = ap is_mended (v.step.kind (repair_step name from there) e).1

-- its key is one of the device's
pub key_known : (t : Translation) (n : ℕ) (k : Key) (from : Option Stored) (there : Bool) (content : List ℕ) → Valid t →
    RepairKept t.ledger n k from there content → IsKey (shape_of_numbers t.numbers) k
key_known t n k from there content v r = v.book_right.keys n 0 _ r.entry

-- it ends with its page
ends_with_page : (name other : Name) (from : Option Place) (w : Option layer.Step) → name ≡ other →
    w ≡ Some (repair_step other from true) → step_after name w ≡ None
ends_with_page name other from w same is =
    ap (step_after name) is
    ∙ subst (λ (z : Name). step_after z (Some (repair_step other from true)) ≡ None) (sym same)
    (if_true _ None (Some (repair_step other from true)) (name_self other))

-- The page stands

-- the page stands, and its block has this state
abbrev pub repair_written : Translation → ℕ → OpenBlock → Tag → List ℕ → disk.BlockState → Translation
repair_written t die o tag body x = record (with_group_page t (next_place die o) tag body) {
  disk = record (programmed t.numbers.pages t.disk (next_place die o) (GroupPage tag body)) {
    blocks = at_spot t.disk.blocks (spot_at die o.block) x;
  };
}

module _ (c : Core) (t : Translation) (die : ℕ) (b : DieRow) (o : OpenBlock) (tag : Tag) (body : List ℕ) (n : ℕ)
    (k : Key) (from : Option Stored) (h : Describes c t) (there : slice_get c.rows die ≡ Some b)
    (fills : b.filling ≡ Some o)
    (flies : t.disk.flights die ≡ Some (disk.Programming (next_place die o) (GroupPage tag body)))
    (step : c.step ≡ Some (steps.Repair n k from true)) (page : IsStepCell c.step (GroupPage tag body)) where
  abbrev left : List Key
  left = drop c.repaired c.lost

  abbrev item : Item
  item = record { key = k; body = t.ledger.base k }

  abbrev name : Name
  name = name_of tag

  abbrev place : Place
  place = next_place die o

  repair : IsRepairOf t.ledger n k from true c.content t.work.step
  repair = repair_of t.ledger n k from true c.content t.work.step
      (subst (λ (z : Option Step). StepKept t.ledger z c.content t.work.step) step h.kept.work.step_is)

  not_mended : is_mended t.work.mending ≡ false
  not_mended = unmended t (name_at n 0) _ true h.valid repair.step

  cell : (tag.number ≡ n) × (tag.index ≡ 0)
  cell = let p = subst (λ (z : Option Step). IsStepCell z (GroupPage tag body)) step page in (p.0, p.1)

  same_name : name ≡ name_at n 0
  same_name = name_is name (name_at n 0) cell.0 cell.1

  flown : flies_name name (t.disk.flights die) ≡ true
  flown = ap (flies_name name) flies ∙ name_self name

  stands_not : t.ledger.standing name.number name.index ≡ None
  stands_not = ap (λ (z : Name). t.ledger.standing z.number z.index) same_name ∙ repair.right.new

  no_pages : c.pages ≡ []
  no_pages = none_waiting c t h not_mended

  all_repairs : t.ledger.repairs ≡ length t.ledger.groups
  all_repairs = (h.valid.history.mending not_mended).0

  filling : IsFilling t.numbers t.disk.blocks die (Some o)
  filling = filling_kept c t die b (Some o) h.kept there fills

  to_repair : AreToRepair t.ledger (k ∷ left)
  to_repair = subst (λ (z : Option Step). AreToRepair t.ledger (keys_to_repair z left)) step
      (h.kept.work.to_repair not_mended)

  ledger_stands : LedgerKept c.numbers c.places c.pages c.frontier c.last (with_page t.ledger name place)
  ledger_stands = record {
    frontier = h.kept.ledger_kept.frontier;
    last_given = h.kept.ledger_kept.last_given;
    pages = none_kept _ _ c.pages _ no_pages (no_names (with_page t.ledger name place) all_repairs);
    keys = h.kept.ledger_kept.keys;
    places = λ j isj. stored_on t.ledger.standing name place stands_not
        (stored_in c.numbers c.places j) _ (h.kept.ledger_kept.places j isj);
  }

  -- what is kept before the frontier climbs, with these states of blocks and this open block of the die
  page_stands : (x : disk.BlockState) (states : List BlockState) (f : Option OpenBlock) →
      BlocksKept t.numbers (at_spot t.disk.blocks (spot_at die o.block) x) t.disk.vacancies states →
      IsFilling t.numbers (at_spot t.disk.blocks (spot_at die o.block) x) die f →
      Kept (changed c states (rows_with c die f) c.pages c.mending None c.next_mark)
      (repair_written t die o tag body x)
  page_stands x states f bs fs =
      kept_beside c t die o.block b x f states c.pages c.mending None c.next_mark
      (at_place t.disk.cells place (GroupPage tag body)) (at_place t.disk.finished place true) t.disk.erasing
      (with_page t.ledger name place) (record t.work { step = step_after name t.work.step })
      h.kept there bs fs
      (fly_written t.ledger.standing t.disk.flights die c.rows f name place h.kept.fly (writers_fly c t h.kept) flown)
      ledger_stands
      record {
        mending_is = h.kept.work.mending_is;
        step_is = subst (StepKept (with_page t.ledger name place) None c.content)
            (sym (ends_with_page name (name_at n 0) _ t.work.step same_name repair.step)) tt;
        to_repair = λ e. record {
          differ = λ i j d less within. to_repair.differ (suc i) (suc j) d (omega arith) (omega arith);
          unrepaired = λ i d within. to_repair.unrepaired (suc i) d (omega arith);
        };
        next_mark = h.kept.work.next_mark;
        repaired = λ e. absurd (false≢true (sym not_mended ∙ e));
      }
      h.kept.pins
      (suits_next c t die place (GroupPage tag body) h flies page None refl)
      (none_reads c t die place (GroupPage tag body) h flies page None) refl
      h.kept.readers

  -- The frontier climbs

  low : t.ledger.greatest_seen ≤ t.ledger.frontier
  low = h.valid.frontier.above

  alone : behind t.ledger ≡ (item ∷ []) ∷ []
  alone = last_alone (book t) t.ledger.frontier n item low repair.right.next repair.right.last repair.right.entry

  known : IsKey (shape_of_numbers c.numbers) k
  known = subst (λ (m : Numbers). IsKey (shape_of_numbers m) k) (sym h.kept.numbers)
      (key_known t n k from true c.content h.valid repair.right)

  abbrev stored : Stored
  stored = page_at (risen c) 0 place

  -- it has the last number that was given
  number : risen c ≡ suc t.ledger.frontier
  number = let e = h.kept.ledger_kept.frontier in let given = h.kept.ledger_kept.last_given in
      let next = repair.right.next in let last = repair.right.last in omega arith

  stands : (with_page t.ledger name place).standing (suc t.ledger.frontier) 0 ≡ Some place
  stands = at_here t.ledger.standing name (name_at (suc t.ledger.frontier) 0) place
      (ap (λ (m : ℕ). name_at m 0) (sym repair.right.next) ∙ sym same_name)

  page_durable : (x : disk.BlockState) (states : List BlockState) (f : Option OpenBlock) →
      Kept (changed c states (rows_with c die f) c.pages c.mending None c.next_mark)
      (repair_written t die o tag body x) →
      Kept (noted (record (changed c states (rows_with c die f) c.pages c.mending None c.next_mark) {
        frontier = risen c;
      }) k stored) (raised_to (repair_written t die o tag body x) (suc t.ledger.frontier))
  page_durable x states f k0 = record {
    numbers = k0.numbers;
    blocks = k0.blocks;
    dies = k0.dies;
    fly = k0.fly;
    ledger_kept = ledger_repaired (changed c states (rows_with c die f) c.pages c.mending None c.next_mark)
        (with_page t.ledger name place) k stored item k0.ledger_kept low all_repairs no_pages alone refl known number
        (ap (λ (m : ℕ). name_at m 0) number) stands;
    work = record {
      mending_is = k0.work.mending_is;
      step_is = k0.work.step_is;
      to_repair = λ e. repaired_left (with_page t.ledger name place) k left item low alone refl
          (record { differ = to_repair.differ; unrepaired = to_repair.unrepaired });
      next_mark = k0.work.next_mark;
      repaired = λ e. absurd (false≢true (sym not_mended ∙ e));
    };
    plan = k0.plan;
    claims = k0.claims;
    pins = pins_off (at_frontier (with_page t.ledger name place) (suc t.ledger.frontier)) t.ledger.frontier
        (suc t.ledger.frontier) (entry_of t.ledger) c.pins t.pins (h.kept.readers not_mended) h.kept.pins;
    differ = k0.differ;
    reads = k0.reads;
    step_reads = k0.step_reads;
    readers = k0.readers;
  }

  page_over : Kept (page_written (repair_over c k place) die b (Some o))
      (raised_to (repair_written t die o tag body (state_after t.numbers.pages o.next)) (suc t.ledger.frontier))
  page_over =
      page_ends (repair_over c k place) die b o t.numbers.pages
      (λ (x : disk.BlockState). raised_to (repair_written t die o tag body x) (suc t.ledger.frontier))
      (ap (λ (m : Numbers). m.pages) h.kept.numbers) (h.valid.blocks.filling (spot_at die o.block) o.next filling.1)
      (page_durable (disk.Filling (o.next + 1)) c.states (Some (record { block = o.block; next = o.next + 1 }))
      (page_stands (disk.Filling (o.next + 1)) c.states (Some (record { block = o.block; next = o.next + 1 }))
      (blocks_on t.numbers t.disk.blocks t.disk.vacancies c.states (spot_at die o.block) o.next
      (o.next + 1) filling.1 h.kept.blocks)
      (filling_on t.numbers t.disk.blocks die o (o.next + 1) filling)))
      (page_durable disk.Closed (states_with c die o.block state.Closed) None
      (page_stands disk.Closed (states_with c die o.block state.Closed) None
      (blocks_put c t die o.block disk.Closed h.kept (die_within c t die b h.kept there) filling.0)
      (filling_over t.numbers t.disk.blocks die o disk.Closed closed_fills filling)))

  climbs_to : climbed (is_standing (with_page t.ledger name place)) t.ledger.frontier (behind t.ledger)
      ≡ suc t.ledger.frontier
  climbs_to = climbs_one (is_standing (with_page t.ledger name place)) t.ledger.frontier item (behind t.ledger) alone
      (ap is_some stands)

  pub repair_ends_well : Kept (page_written (repair_over c k place) die b b.filling)
      (moves.page_written t place tag body)
  repair_ends_well =
      subst (λ (f : Option OpenBlock). Kept (page_written (repair_over c k place) die b f)
      (climbed_of (with_group_page t place tag body))) (sym fills)
      (subst (λ (m : ℕ). Kept (page_written (repair_over c k place) die b (Some o))
      (raised_to (with_group_page t place tag body) m)) (sym climbs_to) page_over)
