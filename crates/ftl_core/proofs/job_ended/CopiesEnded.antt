-- The program of a copy ends well: the page stands where its copy is.
use Rattle.ftl_core.proofs.Common.{BlockState, BlocksKept, Bool, Cells, CopyKept, CopyStep, Core, Describes, DieRow}
use Rattle.ftl_core.proofs.Common.{Entry, GroupPage, IsFilling, IsPageAt, IsStepCell, Kept, Key, Ledger, LedgerKept}
use Rattle.ftl_core.proofs.Common.{List, Lives, Name, None, Numbers, OpenBlock, Option, PageKept, Pending, Place, Some}
use Rattle.ftl_core.proofs.Common.{Step, StepKept, Stored, Tag, Translation, ap, arith, at_has, at_place, at_spot, book}
use Rattle.ftl_core.proofs.Common.{copy_durable, copy_over, copy_pending, entry_of, eqb_tells, false, false≢true, find}
use Rattle.ftl_core.proofs.Common.{flies_name, if_false, if_true, is_mended, is_named, key_of, name_of, name_self}
use Rattle.ftl_core.proofs.Common.{names_pending, nat_le, nat_tests, next_place, noted, page_not_nothing, page_written}
use Rattle.ftl_core.proofs.Common.{pending, places_noted, position_of, refl, same_Some, settled, slice_get, spot_at}
use Rattle.ftl_core.proofs.Common.{step_after, stored_of, subst, sym, true, ℕ, ⊎_elim, ◌+◌, ◌<◌, ◌==◌, ◌∙◌, ◌≡◌, ◌≢◌}
use Rattle.ftl_core.proofs.Common.{◌≤◌}
use Rattle.std.proofs.Common.{leb-true}
use Rattle.ufs_spec.specs.Disk as disk
use Rattle.ufs_spec.specs.Moves as moves
use Rattle.ufs_spec.specs.Translation as layer
use Rattle.block_table.specs.declared.BlockState.TheVariants as state
use Rattle.ftl_core.specs.declared.books.Step.TheVariants as steps
use Rattle.ftl_core.specs.KnownLive.{live_moved, page_moved}
use Rattle.ftl_core.proofs.group_settled.FrontDurable.{MayClimb, all_settled, climbed_of}
use Rattle.ftl_core.proofs.group_settled.FrontLedger.{GroupsRight, groups_right}
use Rattle.ftl_core.proofs.group_settled.PageStands.{IsPending, fly_written, with_page, writers_fly}
use Rattle.ftl_core.proofs.group_settled.PageWritten.{with_group_page, written_at}
use Rattle.ftl_core.proofs.job_ended.ChangeParts.{blocks_on, blocks_put, rows_with, closed_fills, elsewhere}
use Rattle.ftl_core.proofs.job_ended.ChangeParts.{filling_kept, page_ends, states_with}
use Rattle.ftl_core.proofs.job_ended.CopyLedger.{found, is_key, ledger_left, ledger_moved, ledger_pending, now_written}
use Rattle.ftl_core.proofs.job_ended.CopyLedger.{pages_are, pending_page, stored_name}
use Rattle.ftl_core.proofs.job_ended.JobsOver.{filling_on, filling_over}
use Rattle.ftl_core.proofs.job_ended.StepsOver.{none_reads, suits_next}
use Rattle.ftl_core.proofs.job_taken.Flown.{copy_name, die_within, dies_changed, reads_over}
use Rattle.ftl_core.proofs.live_pages.CopiesLive.{durable_known, pending_known}
use Rattle.ftl_core.proofs.live_pages.DurableLive.{AllKnown, AreKnown, AreOthers, settled_known, written_right}
use Rattle.ftl_core.proofs.live_pages.NotedLive.{IsPageOf}
use Rattle.ftl_core.proofs.live_pages.ProgramsLive.{all_apart, all_new, all_others, blank, is_page, known_on, owned}
use Rattle.ftl_core.proofs.live_pages.ProgramsLive.{stays}
use Rattle.ftl_core.proofs.live_pages.SameLive.{Knows, facts, written_same}
use Rattle.ftl_core.proofs.live_pages.StoredPages.{pending_apart, pending_new, pending_right}
use Rattle.ftl_core.proofs.look_and_accept.Numbers.{IsRepair}
use Rattle.ftl_core.proofs.pages.NamesBehind.{in_names}
use Rattle.ftl_core.proofs.pages.PagesNamed.{pages_get}

-- The copy that is under way

-- it is the step under way of the layer too
record IsCopyOf (l : Ledger) (n : ℕ) (k : Key) (from : Place) (read : Tag) (content : List ℕ)
    (w : Option layer.Step) : Type 0 where
  name : Name
  step : w ≡ Some (record { kind = CopyStep name from; there = true })
  right : CopyKept l n k (Some read) content name

copy_of : (l : Ledger) (n : ℕ) (k : Key) (from : Place) (read : Tag) (content : List ℕ) (w : Option layer.Step) →
    StepKept l (Some (steps.Copy n k from (Some read))) content w → IsCopyOf l n k from read content w
copy_of l n k from read content None h = absurd h
copy_of l n k from read content (Some s) h =
    record { name = h.0; step = ap (λ (z : layer.Step). Some z) h.1; right = h.2 }

module _ (c : Core) (t : Translation) (die : ℕ) (b : DieRow) (o : OpenBlock) (tag : Tag) (body : List ℕ) (n : ℕ)
    (k : Key) (from : Place) (read : Tag) (h : Describes c t) (there : slice_get c.rows die ≡ Some b)
    (fills : b.filling ≡ Some o)
    (flies : t.disk.flights die ≡ Some (disk.Programming (next_place die o) (GroupPage tag body)))
    (step : c.step ≡ Some (steps.Copy n k from (Some read))) (page : IsStepCell c.step (GroupPage tag body)) where
  abbrev name : Name
  name = name_of tag

  abbrev place : Place
  place = next_place die o

  abbrev after : Cells
  after = at_place t.disk.cells place (GroupPage tag body)

  copy : IsCopyOf t.ledger n k from read c.content t.work.step
  copy = copy_of t.ledger n k from read c.content t.work.step
      (subst (λ (z : Option Step). StepKept t.ledger z c.content t.work.step) step h.kept.work.step_is)

  cell : (tag.number ≡ n) × (tag.index ≡ read.index)
  cell = subst (λ (z : Option Step). IsStepCell z (GroupPage tag body)) step page

  same_name : name ≡ copy.name
  same_name = copy_name t.ledger n k read c.content copy.name tag copy.right cell.0 cell.1

  mended : is_mended t.work.mending ≡ true
  mended = ap is_mended (h.valid.step.kind (record { kind = CopyStep copy.name from; there = true }) copy.step).0

  known : IsPageAt (book t) name.number name.index copy.right.entry
  known = ap (entry_of t.ledger) same_name ∙ copy.right.known

  -- its page is one of the key
  key_is : key_of tag ≡ k
  key_is = ap (λ (e : Entry). e.item.key)
      (same_Some _ copy.right.entry (sym (h.valid.flights.known die place tag body flies) ∙ known))
      ∙ copy.right.key

  ends_with_page : step_after name t.work.step ≡ None
  ends_with_page =
      ap (step_after name) copy.step
      ∙ subst (λ (z : Name). step_after z (Some (record { kind = CopyStep copy.name from; there = true })) ≡ None)
      (sym same_name)
      (if_true _ None (Some (record { kind = CopyStep copy.name from; there = true })) (name_self copy.name))

  -- What is kept then

  module _ (places : List (Option Stored)) (pages : List Pending) (live : Lives)
      (ledger : LedgerKept c.numbers places pages c.frontier c.last (with_page t.ledger name place)) where
    abbrev now : Core
    now = record c { step = None; places = places; pages = pages; live = live }

    kept_copied : (x : disk.BlockState) (states : List BlockState) (filling : Option OpenBlock) →
        BlocksKept t.numbers (at_spot t.disk.blocks (spot_at die o.block) x) t.disk.vacancies states →
        IsFilling t.numbers (at_spot t.disk.blocks (spot_at die o.block) x) die filling →
        Kept (record now { states = states; rows = rows_with c die filling }) (written_at t die o tag body x)
    kept_copied x states filling blocks is_open = record {
      numbers = h.kept.numbers;
      blocks = blocks;
      dies = dies_changed t.numbers t.disk.blocks (at_spot t.disk.blocks (spot_at die o.block) x) t.disk.flights
          c.step None c.rows die b (record { filling = filling; flight = None }) None h.kept.dies there
          (elsewhere t.disk.blocks die o.block x)
          (suits_next c t die place (GroupPage tag body) h flies page None refl)
          (record { filling = is_open; job = tt });
      fly = fly_written t.ledger.standing t.disk.flights die c.rows filling name place h.kept.fly
          (writers_fly c t h.kept) (ap (flies_name name) flies ∙ name_self name);
      ledger_kept = ledger;
      work = record {
        mending_is = h.kept.work.mending_is;
        step_is = subst (StepKept (with_page t.ledger name place) None c.content) (sym ends_with_page) tt;
        to_repair = λ e. absurd (false≢true (sym e ∙ mended));
        next_mark = h.kept.work.next_mark;
        repaired = h.kept.work.repaired;
      };
      plan = h.kept.plan;
      claims = h.kept.claims;
      pins = h.kept.pins;
      differ = h.kept.differ;
      reads = reads_over t.disk.flights die c.pins h.kept.reads;
      step_reads = none_reads c t die place (GroupPage tag body) h flies page None;
      readers = h.kept.readers;
    }

    page_kept : Kept (page_written now die b (Some o)) (with_group_page t place tag body)
    page_kept =
        page_ends now die b o t.numbers.pages (written_at t die o tag body)
        (ap (λ (m : Numbers). m.pages) h.kept.numbers) (h.valid.blocks.filling (spot_at die o.block) o.next is_open.1)
        (kept_copied (disk.Filling (o.next + 1)) c.states (Some (record { block = o.block; next = o.next + 1 }))
        (blocks_on t.numbers t.disk.blocks t.disk.vacancies c.states (spot_at die o.block) o.next
        (o.next + 1) is_open.1 h.kept.blocks)
        (filling_on t.numbers t.disk.blocks die o (o.next + 1) is_open))
        (kept_copied disk.Closed (states_with c die o.block state.Closed) None
        (blocks_put c t die o.block disk.Closed h.kept (die_within c t die b h.kept there) is_open.0)
        (filling_over t.numbers t.disk.blocks die o disk.Closed closed_fills is_open))
      where
        is_open : IsFilling t.numbers t.disk.blocks die (Some o)
        is_open = filling_kept c t die b (Some o) h.kept there fills

  right : GroupsRight t.numbers t.ledger
  right = groups_right t h.valid

  may_climb : MayClimb (with_group_page t place tag body)
  may_climb = record {
    top = h.kept.work.repaired mended;
    mended = mended;
    no_repair = λ (r : IsRepair (step_after name t.work.step)).
        let e : None ≡ Some _ = sym ends_with_page ∙ r.3 in cc;
    groups = record { are_keys = right.are_keys; differ = right.differ; some = right.some };
  }

  -- The three ways: the key reads from the copy, or another page is its content, or the page is pending

  -- what is kept once the copy stands, and that it is known which pages are live
  record IsStanding (z : Core) : Type 0 where
    places : List (Option Stored)
    pages : List Pending
    live : Lives
    is : z ≡ record c { step = None; places = places; pages = pages; live = live }
    ledger : LedgerKept c.numbers places pages c.frontier c.last (with_page t.ledger name place)
    all : AreKnown after c.numbers places live pages

  key_known : IsPageOf c.numbers after k name.number place
  key_known = subst (λ (z : Key). IsPageOf c.numbers after z name.number place) key_is
      (is_page c t die o tag body h flies)

  all_known : AllKnown after c
  all_known = record {
    long = h.kept.ledger_kept.keys;
    owned = owned c t die o tag body h flies;
    live_is = h.live;
    right = written_right c.numbers after c.pages
        (λ j p at q written.
        let r = pending_right c t h.valid h.kept j p at q written in
        (r.0, stays c t die o tag body h flies p.key p.number q r.1));
    new = all_new c.numbers c.places c.pages (pending_new c t h.valid h.kept);
    apart = all_apart c.pages (pending_apart c t h.valid h.kept);
  }

  numbers_above : name.number ≤ t.ledger.frontier → AreOthers k name.number c.pages
  numbers_above low = all_others k name.number c.pages
      (λ j q at same number.
      let r = pages_get t.ledger.standing (entry_of t.ledger) c.pages (names_pending t.ledger) j q
      h.kept.ledger_kept.pages at in
      let above = (in_names t.ledger.frontier (pending t.ledger) r.0 (at_has (names_pending t.ledger) j r.0 r.1)).above
      in
      let given = r.2.number in
      absurd (omega (arith, above, given, number, low)))

  low_durable : name.number ≤ t.ledger.frontier →
      IsStanding (copy_durable (record c { step = None }) n k place (stored_of c k))
  low_durable low = by (stored_of c k) refl
    where
      by : (s : Option Stored) → stored_of c k ≡ s → IsStanding (copy_durable (record c { step = None }) n k place s)
      by None at = record {
        places = c.places;
        pages = c.pages;
        live = c.live;
        is = refl;
        ledger = ledger_left c t h name k place copy.right.entry known copy.right.key low
            (λ s e. absurd (let f : None ≡ Some s = sym at ∙ e in cc));
        all = all_known;
      }
      by (Some s) at = ⊎_elim
          (λ (x : ((s.name.number == n) ≡ true) × (s.name.number ≡ n)).
          let current = x.1 ∙ sym cell.0 in
          let same = stored_name c t h name k place copy.right.entry known copy.right.key low s at current in
          record {
            places = places_noted c.places (record { name = name; place = place }) (position_of c.numbers k);
            pages = c.pages;
            live = live_moved c.live (stored_of c k) place;
            is = if_true (s.name.number == n) (noted (record c { step = None }) k (record s { place = place }))
                (record c { step = None }) x.0
                ∙ (λ i. record c {
                  step = None;
                  places = places_noted c.places (record { name = same i; place = place }) (position_of c.numbers k);
                  live = live_moved c.live (stored_of c k) place;
                });
            ledger = ledger_moved c t h name k place copy.right.entry known copy.right.key low s at current;
            all = durable_known after c all_known place key_known.inside k name
                (is_key c t h name k place copy.right.entry known copy.right.key) key_known (numbers_above low);
          })
          (λ (x : ((s.name.number == n) ≡ false) × (s.name.number ≢ n)). record {
            places = c.places;
            pages = c.pages;
            live = c.live;
            is = if_false (s.name.number == n) (noted (record c { step = None }) k (record s { place = place }))
                (record c { step = None }) x.0;
            ledger = ledger_left c t h name k place copy.right.entry known copy.right.key low
                (λ r e same. x.1 (ap (λ (z : Stored). z.name.number) (same_Some s r (sym at ∙ e)) ∙ same ∙ cell.0));
            all = all_known;
          })
          (eqb_tells s.name.number n)

  module _ (above : t.ledger.frontier < name.number) where
    at : IsPending c t.ledger name
    at = pending_page c t h name k place copy.right.entry known copy.right.key mended above

    kept_page : PageKept t.ledger.standing (entry_of t.ledger) at.page name
    kept_page =
        let r = pages_get t.ledger.standing (entry_of t.ledger) c.pages (names_pending t.ledger) at.at at.page
        h.kept.ledger_kept.pages at.there in
        subst (PageKept t.ledger.standing (entry_of t.ledger) at.page) (same_Some r.0 name (sym r.1 ∙ at.named)) r.2

    stood : t.ledger.standing name.number name.index ≡ Some copy.right.place
    stood = ap (λ (z : Name). t.ledger.standing z.number z.index) same_name ∙ copy.right.stands

    was : at.page.written ≡ Some copy.right.place
    was = sym kept_page.stands ∙ stood

    page_key : at.page.key ≡ k
    page_key = ap (λ (e : Entry). e.item.key) (same_Some _ copy.right.entry (sym kept_page.entry ∙ known))
        ∙ copy.right.key

    page_here : IsPageOf c.numbers after at.page.key at.page.number place
    page_here = subst (λ (z : Key × ℕ). IsPageOf c.numbers after z.0 z.1 place)
        (λ i. (sym page_key i, sym kept_page.number i)) key_known

    elsewhere_before : copy.right.place ≢ place
    elsewhere_before same =
        let r = pending_right c t h.valid h.kept at.at at.page at.there copy.right.place was in
        page_not_nothing (t.disk.cells copy.right.place) r.1.tag r.1.body r.1.there
        (ap t.disk.cells same ∙ blank c t die o tag body h flies)

    high_pending : IsStanding (copy_pending (record c { step = None }) n read.index place
        (find (is_named n read.index) c.pages))
    unfolding at copy known mended
    high_pending =
        let f = found c t h name k place copy.right.entry known copy.right.key mended above in
        record {
          places = c.places;
          pages = now_written c t h name k place copy.right.entry known copy.right.key mended above;
          live = page_moved c.live (Some copy.right.place) place;
          is = (λ i. copy_pending (record c { step = None }) (sym cell.0 i) (sym cell.1 i) place
              (find (is_named (sym cell.0 i) (sym cell.1 i)) c.pages))
              ∙ ap (copy_pending (record c { step = None }) name.number name.index place) f.1
              ∙ (λ i. record c {
                step = None;
                pages = pages_are c t h name k place copy.right.entry known copy.right.key mended above i;
                live = page_moved c.live ((sym f.2.stands ∙ stood) i) place;
              });
          ledger = ledger_pending c t h name k place copy.right.entry known copy.right.key mended above;
          all = pending_known after c all_known place key_known.inside at.at at.page copy.right.place at.there was
              elsewhere_before page_here;
        }

  standing : IsStanding (copy_over c n k read.index place)
  standing = by (nat_le n c.frontier) refl
    where
      low : IsStanding (copy_durable (record c { step = None }) n k place (stored_of c k)) →
          nat_le n c.frontier ≡ true → IsStanding (copy_over c n k read.index place)
      low s e = record {
        places = s.places;
        pages = s.pages;
        live = s.live;
        is = if_true (nat_le n c.frontier) (copy_durable (record c { step = None }) n k place (stored_of c k))
            (copy_pending (record c { step = None }) n read.index place (find (is_named n read.index) c.pages)) e
            ∙ s.is;
        ledger = s.ledger;
        all = s.all;
      }

      high : IsStanding (copy_pending (record c { step = None }) n read.index place
          (find (is_named n read.index) c.pages)) → nat_le n c.frontier ≡ false →
          IsStanding (copy_over c n k read.index place)
      high s e = record {
        places = s.places;
        pages = s.pages;
        live = s.live;
        is = if_false (nat_le n c.frontier) (copy_durable (record c { step = None }) n k place (stored_of c k))
            (copy_pending (record c { step = None }) n read.index place (find (is_named n read.index) c.pages)) e
            ∙ s.is;
        ledger = s.ledger;
        all = s.all;
      }

      beyond : (a f : ℕ) → nat_le a f ≡ false → f < a
      beyond a f e = grind (arith, nat_tests)

      by : (x : Bool) → nat_le n c.frontier ≡ x → IsStanding (copy_over c n k read.index place)
      by true e =
          let l = leb-true n c.frontier e in
          let same = h.kept.ledger_kept.frontier in
          let number = cell.0 in
          low (low_durable (omega (arith, l, same, number))) e
      by false e =
          let l = beyond n c.frontier e in
          let same = h.kept.ledger_kept.frontier in
          let number = cell.0 in
          high (high_pending (omega (arith, l, same, number))) e

  abbrev standing_core : Core
  standing_core =
      record c { step = None; places = standing.places; pages = standing.pages; live = standing.live }

  kept_standing : Kept (page_written standing_core die b (Some o)) (with_group_page t place tag body)
  kept_standing = page_kept standing.places standing.pages standing.live standing.ledger

  -- what is kept describes the layer then
  pub copy_ends_well : Kept (settled (page_written (copy_over c n k read.index place) die b b.filling))
      (moves.page_written t place tag body)
  copy_ends_well =
      subst (λ (z : Core × Option OpenBlock).
      Kept (settled (page_written z.0 die b z.1)) (climbed_of (with_group_page t place tag body)))
      (λ i. (sym standing.is i, sym fills i))
      (all_settled (page_written standing_core die b (Some o)) (with_group_page t place tag body) kept_standing
      may_climb)

  -- and it is known which pages are live
  pub copy_knows : Knows (facts (settled (page_written (copy_over c n k read.index place) die b b.filling)))
  copy_knows =
      subst (λ (z : Core × Option OpenBlock). Knows (facts (settled (page_written z.0 die b z.1))))
      (λ i. (sym standing.is i, sym fills i))
      (settled_known after (page_written standing_core die b (Some o)) (with_group_page t place tag body) kept_standing
      may_climb
      (known_on after standing_core (page_written standing_core die b (Some o))
      (written_same standing_core die b (Some o)) standing.all)).live_is
