-- The job that a die is given is one that is owed to it.
use Rattle.ftl_core.proofs.Common.{Bool, Cell, Core, Describes, DieRow, Flight, GroupPage, IsFlight, IsTaken, Job, List}
use Rattle.ftl_core.proofs.Common.{Name, None, OpenBlock, Option, PageKept, Pending, Place, Rest, Some, Tag}
use Rattle.ftl_core.proofs.Common.{Translation, [], and_true, ap, content_by, content_of, core_taken, entry_of, false}
use Rattle.ftl_core.proofs.Common.{false≢true, first_owed, first_page, flies_name, if_true, if◌then◌else◌, inl, inr}
use Rattle.ftl_core.proofs.Common.{is_mended, is_owed_by, job_of, job_taken, length, list_any, lowest, name_is, name_of}
use Rattle.ftl_core.proofs.Common.{names_pending, next_place, none_is, not, option_and_then, option_map, owed_read}
use Rattle.ftl_core.proofs.Common.{page_waits, refl, rest_read, slice_get, some_flight, spot_at, step_read, subst, sym}
use Rattle.ftl_core.proofs.Common.{told_by, true, wants_on, writes_page, ℕ, ◌&&◌, ◌<◌, ◌∙◌, ◌≡◌, ◌≤◌}
use Rattle.std.proofs.Common.{is_none}
use Rattle.ufs_spec.specs.Disk as disk
use Rattle.ufs_spec.specs.Translation as layer
use Rattle.ufs_spec.specs.Translation.{cell_now, flight_at, flight_for, flight_or, is_idle, next_erase, next_flight}
use Rattle.ufs_spec.specs.Translation.{waiting_name, waiting_step}
use Rattle.power_loss.proofs.books.SmallFacts.{name_told}
use Rattle.block_table.specs.declared.BlockState.TheVariants as state
use Rattle.block_table.specs.declared.rows.Flight.TheVariants as flight
use Rattle.ftl_core.specs.declared.books.Waiting.{Waiting}
use Rattle.ftl_core.specs.declared.books.Waiting.TheVariants as waiting
use Rattle.ftl_core.specs.Moves.{has_room_for_groups, may_open, tag_of_page}
use Rattle.ftl_core.specs.Takes as takes
use Rattle.ftl_core.specs.Takes.{erase_of, flight_into, flight_taken, group_job_of, idle_flight, is_group_page}
use Rattle.ftl_core.specs.Takes.{owed_flight, own_read, page_flight, page_of_group, page_waiting, step_waits}
use Rattle.ftl_core.specs.Takes.{unread_flight, waiting_flight, waiting_group, waiting_of, waiting_page}
use Rattle.ftl_core.proofs.job_taken.Flown.{die_within, no_job, writes_agree}
use Rattle.ftl_core.proofs.job_taken.Mended.{mended_with, no_repair}
use Rattle.ftl_core.proofs.job_taken.NextErases.{block_free, block_right, erased_next, free_means, lowest_is}
use Rattle.ftl_core.proofs.job_taken.NextErases.{ready_means, stale_means}
use Rattle.ftl_core.proofs.job_taken.NextNames.{first_whole, next_name}
use Rattle.ftl_core.proofs.job_taken.NextPages.{IsProgrammed, kept_found, page_name, page_programmed}
use Rattle.ftl_core.proofs.job_taken.NextStarts.{MayBegin, is_free_die, job_begun, job_opened, next_may, not_idle}
use Rattle.ftl_core.proofs.job_taken.NextStarts.{nothing_taken, opening_place, outside}
use Rattle.ftl_core.proofs.job_taken.OpenBlocks.{group_alike, room_alike, step_alike}
use Rattle.ftl_core.proofs.pins.FoundPins.{found_passes, position_missed}
use Rattle.ftl_core.proofs.job_taken.OwedReads.{none_read}
use Rattle.ftl_core.proofs.job_taken.ReadsTaken.{read_taken, rest_taken, step_taken}
use Rattle.ftl_core.proofs.job_taken.StepPages.{StepPage, step_page}
use Rattle.ftl_core.proofs.opened.Spots.{next_found}

-- A job that writes no page of a group, and reads none

erase_begins : (c : Core) (t : Translation) (block : ℕ) (s : disk.Spot) →
    MayBegin c t (flight.Erase block) (disk.Erasing s)
erase_begins c t block s = record {
  alone = λ name e. absurd (false≢true e);
  fresh = λ place n i e. cc;
  wanted = λ tag index place e. cc;
  step_wanted = λ place e. cc;
}

-- the program of what waits may begin at the next page of this block, once the die fills it
record IsBegunBy (c : Core) (t : Translation) (die : ℕ) (w : Waiting) (cell : Cell) (o : OpenBlock) : Type 0 where
  told : job_of c die (page_flight (next_place die o) w) ≡ Some (told_by (disk.Programming (next_place die o) cell))
  is : IsFlight t.numbers c.step die (Some o) (Some (page_flight (next_place die o) w))
      (Some (disk.Programming (next_place die o) cell))
  begins : MayBegin c t (page_flight (next_place die o) w) (disk.Programming (next_place die o) cell)

-- What waits

not-true' : (b : Bool) → not b ≡ true → b ≡ false
not-true' true e = cc
not-true' false e = refl

module _ (c : Core) (t : Translation) (die : ℕ) (b : DieRow) (h : Describes c t) (there : slice_get c.rows die ≡ Some b)
    (idle : b.flight ≡ None) (none_owed : first_owed c die ≡ None) (step_unread : step_read c die ≡ None)
    (rests_unread : rest_read c die ≡ None) where
  flies_none : t.disk.flights die ≡ None
  flies_none = no_job c t die b h.kept there idle

  free : is_idle t die ≡ true
  free = is_free_die t die (die_within c t die b h.kept there) flies_none

  unread : wants_on t die ≡ []
  unread = none_read c t die h (position_missed (is_owed_by c.rows die) c.pins none_owed) step_unread rests_unread

  here : die < t.numbers.dies
  here = die_within c t die b h.kept there

  -- what is in flight then is the erase of a stale block, else what waits
  unread_is : flight_taken c die ≡ unread_flight c die b.filling (erase_of c die state.Stale)
  unread_is =
      ap (takes.flight_for c die) there ∙ ap (idle_flight c die b.filling) idle
      ∙ ap (λ (k : Option ℕ). owed_flight c die b.filling (owed_read c die k)) none_owed
      ∙ ap (owed_flight c die b.filling) (λ i. own_read (step_unread i) (rests_unread i))

  -- none is taken
  nothing_waits : flight_taken c die ≡ None → next_flight t die ≡ None →
      IsTaken t die (job_taken c die) (core_taken c die)
  nothing_waits none next = nothing_taken c t die h none (inr (unread, next))

  next_begun : (f : Flight) (job : disk.Flight) → flight_taken c die ≡ Some f → next_flight t die ≡ Some job →
      job_of c die f ≡ Some (told_by job) → IsFlight t.numbers c.step die b.filling (Some f) (Some job) →
      MayBegin c t f job →
      IsTaken t die (job_taken c die) (core_taken c die)
  next_begun f job taken next told is begins =
      job_begun c t die b f job h there taken told is begins (next_may t die job free unread next)

  erase_begun : (block : ℕ) → block < t.numbers.blocks → flight_taken c die ≡ Some (flight.Erase block) →
      next_flight t die ≡ Some (disk.Erasing (spot_at die block)) →
      IsTaken t die (job_taken c die) (core_taken c die)
  erase_begun block within taken next = next_begun (flight.Erase block) (disk.Erasing (spot_at die block)) taken next
      refl (refl, within) (erase_begins c t block (spot_at die block))

  -- a stale block is erased
  stale_taken : (block : ℕ) → lowest c die state.Stale ≡ Some block →
      IsTaken t die (job_taken c die) (core_taken c die)
  stale_taken block found = erase_begun block
      (block_right c t die state.Stale layer.is_stale stale_means h here block found)
      (unread_is ∙ ap (λ (o : Option ℕ). unread_flight c die b.filling (option_map flight.Erase o)) found)
      (ap (λ (o : Option disk.Flight). flight_or o
      (flight_for t die (waiting_step t t.work.step) (waiting_name t)))
      (erased_next c t die state.Stale layer.is_stale stale_means h here
      ∙ ap (option_map (λ block. disk.Erasing (spot_at die block))) found))

  -- No block is stale

  module _ (none_stale : lowest c die state.Stale ≡ None) where
    -- what is in flight then is what waits
    taken_is : (o : Option OpenBlock) → b.filling ≡ o →
        flight_taken c die ≡ option_and_then (waiting_flight c die o) (waiting_of c)
    taken_is o fills =
        unread_is ∙ ap (λ (k : Option ℕ). unread_flight c die b.filling (option_map flight.Erase k)) none_stale
        ∙ ap (λ (x : Option OpenBlock). option_and_then (waiting_flight c die x) (waiting_of c)) fills

    -- by the definitions too
    next_is : (cell : Option Cell) → waiting_step t t.work.step ≡ cell →
        next_flight t die ≡ flight_for t die cell (option_map page_name (page_waiting c))
    next_is cell step =
        ap (λ (o : Option disk.Flight). flight_or o
        (flight_for t die (waiting_step t t.work.step) (waiting_name t)))
        (erased_next c t die state.Stale layer.is_stale stale_means h here
        ∙ ap (option_map (λ block. disk.Erasing (spot_at die block))) none_stale)
        ∙ (λ i. flight_for t die (step i) (next_name c t h i))

    place_is : (o : Option OpenBlock) → b.filling ≡ o → layer.next_place t die ≡ option_map (next_place die) o
    place_is o fills =
        next_found t.numbers t.disk.blocks die b.filling (h.kept.dies.each die b there).filling
        ∙ ap (option_map (next_place die)) fills

    -- what waits is programmed into the block that the die fills; if it fills none, one is opened where that may be
    waiting_taken : (w : Waiting) (cell : Cell) → ((o : OpenBlock) → IsBegunBy c t die w cell o) →
        waiting_of c ≡ Some w → (o : Option OpenBlock) → b.filling ≡ o →
        next_flight t die ≡ flight_at t die (may_open c w) cell (option_map (next_place die) o) →
        IsTaken t die (job_taken c die) (core_taken c die)
    waiting_taken w cell page waits (Some o) fills next =
        next_begun (page_flight (next_place die o) w) (disk.Programming (next_place die o) cell)
        (taken_is (Some o) fills ∙ ap (option_and_then (waiting_flight c die (Some o))) waits) next
        (page o).told
        (subst (λ (x : Option OpenBlock). IsFlight t.numbers c.step die x (Some (page_flight (next_place die o) w))
        (Some (disk.Programming (next_place die o) cell))) (sym fills) (page o).is)
        (page o).begins
    waiting_taken w cell page waits None fills next =
        opens (may_open c w) refl (lowest c die state.Ready) refl (lowest c die state.Free) refl
      where
        -- what is in flight then, by whether a block may be opened and which one is ready
        taken : (a : Bool) → may_open c w ≡ a → (ready : Option ℕ) → lowest c die state.Ready ≡ ready →
            flight_taken c die ≡ (if a then flight_into c die w ready else None)
        taken a may ready r =
            taken_is None fills ∙ ap (option_and_then (waiting_flight c die None)) waits
            ∙ (λ i. if may i then flight_into c die w (r i) else None)

        -- by the definitions too
        given : (a : Bool) → may_open c w ≡ a → (ready : Option ℕ) → lowest c die state.Ready ≡ ready →
            next_flight t die ≡ (if a then layer.flight_into t die cell (option_map (spot_at die) ready) else None)
        given a may ready r =
            let same = lowest_is c t die state.Ready layer.is_ready ready_means h here
            ∙ ap (option_map (spot_at die)) r in
            next ∙ (λ i. if may i then layer.flight_into t die cell (same i) else None)

        erase : next_erase t layer.is_untouched die
            ≡ option_map (λ block. disk.Erasing (spot_at die block)) (lowest c die state.Free)
        erase = erased_next c t die state.Free layer.is_untouched free_means h here

        opens : (a : Bool) → may_open c w ≡ a → (ready : Option ℕ) → lowest c die state.Ready ≡ ready →
            (other : Option ℕ) → lowest c die state.Free ≡ other →
            IsTaken t die (job_taken c die) (core_taken c die)
        opens false may ready r other f = nothing_waits (taken false may ready r) (given false may ready r)
        opens true may (Some block) r other f =
            let within = block_right c t die state.Ready layer.is_ready ready_means h here block r in
            let empty = block_free c t die state.Ready layer.is_ready ready_means h here block r in
            let p = page (first_page block) in
            job_opened c t die block b w cell h there fills within empty (taken true may (Some block) r) p.told p.is
            p.begins
            (next_may t die (disk.Programming (opening_place die block) cell) free unread
            (given true may (Some block) r))
        opens true may None r (Some block) f = erase_begun block
            (block_right c t die state.Free layer.is_untouched free_means h here block f)
            (taken true may None r ∙ ap (option_map flight.Erase) f)
            (given true may None r ∙ erase ∙ ap (option_map (λ block. disk.Erasing (spot_at die block))) f)
        opens true may None r None f = nothing_waits
            (taken true may None r ∙ ap (option_map flight.Erase) f)
            (given true may None r ∙ erase ∙ ap (option_map (λ block. disk.Erasing (spot_at die block))) f)

    -- the page of the step under way waits
    page_taken : StepPage c t → step_waits c ≡ true → IsTaken t die (job_taken c die) (core_taken c die)
    page_taken page waits =
        waiting_taken waiting.Step page.cell
        (λ o. record {
          told = page.told (next_place die o);
          is = (refl, (o, refl, refl), page.is);
          begins = page.begins (next_place die o);
        })
        (ap (λ (z : Bool). if z then Some waiting.Step else waiting_group c) waits) b.filling refl
        (next_is (Some page.cell) page.waits
        ∙ (λ i. flight_at t die (sym (step_alike c t h) i) page.cell (place_is b.filling refl i)))

    -- a page of a group waits, and room is for groups
    group_taken : (p : Pending) → step_waits c ≡ false → waiting_step t t.work.step ≡ None →
        has_room_for_groups c ≡ true → page_waiting c ≡ Some p →
        IsTaken t die (job_taken c die) (core_taken c die)
    group_taken p no_step no_page room first =
        waiting_taken (waiting_page p) (GroupPage tag_now r.kept.body)
        (λ o. record {
          told = job_is (next_place die o);
          is = (refl, (o, refl, refl), r.kept.number, r.kept.index, no_repair c t h mended);
          begins = begins (next_place die o);
        })
        waits b.filling refl
        (next_to
        ∙ (λ i. flight_at t die (sym (group_alike c t h) i) (r.cell i) (place_is b.filling refl i)))
      where
        waits : waiting_of c ≡ Some (waiting_page p)
        waits =
            (λ i. if no_step i then Some waiting.Step else waiting_group c)
            ∙ (λ i. if room i then option_map waiting_page (first i) else None)

        -- it goes to the die's next place
        next_to : next_flight t die ≡ flight_at t die (layer.may_open_for_group t)
            (cell_now t.ledger (page_name p)) (layer.next_place t die)
        next_to =
            next_is None no_page
            ∙ (λ i. flight_for t die None (option_map page_name (first i)))
            ∙ (λ i. if (sym (room_alike c t h) ∙ room) i then flight_at t die (layer.may_open_for_group t)
            (cell_now t.ledger (page_name p)) (layer.next_place t die) else None)

        mended : is_mended t.work.mending ≡ true
        mended = mended_with c t (page_waits c.rows) p h first

        r : IsProgrammed c t (page_name p)
        r = page_programmed c t (page_waits c.rows) p h first

        tag_now : Tag
        tag_now = tag_of_page r.page.key r.page.number r.page.index r.page.size c.frontier

        k : PageKept t.ledger.standing (entry_of t.ledger) p (page_name p)
        k = (kept_found t.ledger.standing (entry_of t.ledger) (page_waits c.rows) c.pages (names_pending t.ledger) p
            h.kept.ledger_kept.pages first).1

        waits_here : (is_none p.written ≡ true) × (not (list_any (writes_page p.number p.index) c.rows) ≡ true)
        waits_here = and_true (is_none p.written) (not (list_any (writes_page p.number p.index) c.rows))
            (and_true (is_none p.written && not (list_any (writes_page p.number p.index) c.rows)) (is_none p.rest)
            (found_passes (page_waits c.rows) c.pages p first)).0

        whole : r.page.rest ≡ None
        whole = first_whole c t p h r first

        new : t.ledger.standing p.number p.index ≡ None
        new = k.stands ∙ none_is p.written waits_here.0

        unflown : some_flight t (flies_name (page_name p)) ≡ false
        unflown = sym (writes_agree c t (page_name p) h.kept new (no_repair c t h mended))
            ∙ not-true' (list_any (writes_page p.number p.index) c.rows) waits_here.1

        job_is : (place : Place) → job_of c die (flight.Group place p.number p.index)
            ≡ Some (told_by (disk.Programming place (GroupPage tag_now r.kept.body)))
        job_is place =
            ap (group_job_of c place) r.found
            ∙ if_true (is_group_page r.page) (option_map (page_of_group c place r.page) (content_of r.page)) None
            r.kept.group_page
            ∙ ap (λ (rest : Option Rest). option_map (page_of_group c place r.page) (content_by rest r.page.body)) whole
            ∙ ap (λ (body : List ℕ). Some (page_of_group c place r.page body)) (r.kept.whole whole)

        -- the page that is begun is that one
        begun_is : (place q : Place) (n i : ℕ) → flight.Group place p.number p.index ≡ flight.Group q n i →
            (p.number ≡ n) × (p.index ≡ i)
        begun_is place q n i e = let number : p.number ≡ n = cc in let index : p.index ≡ i = cc in (number, index)

        begins : (place : Place) → MayBegin c t (flight.Group place p.number p.index)
            (disk.Programming place (GroupPage tag_now r.kept.body))
        begins place = record {
          alone = λ name e.
              let is : name ≡ page_name p = name_told name (name_of tag_now) e
              ∙ name_is (name_of tag_now) (page_name p) r.kept.number r.kept.index in
              ap (λ (z : Name). some_flight t (flies_name z)) is ∙ unflown;
          fresh = λ q n i e.
              let same = begun_is place q n i e in
              (λ j. t.ledger.standing (sym same.0 j) (sym same.1 j)) ∙ new;
          wanted = λ tag index p e. cc;
          step_wanted = λ p e. cc;
        }

    -- what waits, if anything does
    next_taken : length c.numbers.units.items ≤ 8 → IsTaken t die (job_taken c die) (core_taken c die)
    next_taken few = by (step_waits c) refl (step_page c t h few)
      where
        -- none of a group is taken where it has no room, or none waits
        none_taken : step_waits c ≡ false → waiting_step t t.work.step ≡ None → waiting_group c ≡ None →
            flight_for t die None (option_map page_name (page_waiting c)) ≡ None →
            IsTaken t die (job_taken c die) (core_taken c die)
        none_taken e no_page none next = nothing_waits
            (taken_is b.filling refl
            ∙ (λ i. option_and_then (waiting_flight c die b.filling)
            (if e i then Some waiting.Step else waiting_group c))
            ∙ ap (option_and_then (waiting_flight c die b.filling)) none)
            (next_is None no_page ∙ next)

        no_room : (o : Option Name) → layer.has_room_for_groups t ≡ false → flight_for t die None o ≡ None
        no_room None full = refl
        no_room (Some name) full = ap (λ (z : Bool). if z then flight_at t die (layer.may_open_for_group t)
            (cell_now t.ledger name) (layer.next_place t die) else None) full

        no_group : (z : Bool) → (if z then option_map waiting_page None else None) ≡ None
        no_group true = refl
        no_group false = refl

        by_group : step_waits c ≡ false → waiting_step t t.work.step ≡ None → (room : Bool) →
            has_room_for_groups c ≡ room → (o : Option Pending) → page_waiting c ≡ o →
            IsTaken t die (job_taken c die) (core_taken c die)
        by_group e no_page true room (Some p) f = group_taken p e no_page room f
        by_group e no_page true room None f = none_taken e no_page
            ((λ i. if has_room_for_groups c then option_map waiting_page (f i) else None)
            ∙ no_group (has_room_for_groups c))
            (λ i. flight_for t die None (option_map page_name (f i)))
        by_group e no_page false full o f = none_taken e no_page
            (ap (λ (z : Bool). if z then option_map waiting_page (page_waiting c) else None) full)
            (no_room (option_map page_name (page_waiting c)) (sym (room_alike c t h) ∙ full))

        by : (m : Bool) → step_waits c ≡ m →
            (step_waits c ≡ true → StepPage c t) × (step_waits c ≡ false → waiting_step t t.work.step ≡ None) →
            IsTaken t die (job_taken c die) (core_taken c die)
        by true e page = page_taken (page.0 e) e
        by false e page = by_group e (page.1 e) (has_room_for_groups c) refl (page_waiting c) refl

  -- what is owed, if anything is
  unread_taken : length c.numbers.units.items ≤ 8 → IsTaken t die (job_taken c die) (core_taken c die)
  unread_taken few = by (lowest c die state.Stale) refl
    where
      by : (o : Option ℕ) → lowest c die state.Stale ≡ o → IsTaken t die (job_taken c die) (core_taken c die)
      by None e = next_taken e few
      by (Some block) e = stale_taken block e

-- All dies

-- the job that a die is given is one that it may be given, and what is kept then describes the layer that has given it
pub takes_right : (c after : Core) (die : ℕ) (told : Option Job) → told ≡ job_taken c die → after ≡ core_taken c die →
    length c.numbers.units.items ≤ 8 → (t : Translation) → Describes c t → IsTaken t die told after
takes_right c after die told is new few t h =
    subst (λ (z : Option Job × Core). IsTaken t die z.0 z.1) (λ i. (sym is i, sym new i))
    (by_row (slice_get c.rows die) refl)
  where
    by_owed : (b : DieRow) → slice_get c.rows die ≡ Some b → b.flight ≡ None → (k : Option ℕ) → first_owed c die ≡ k →
        IsTaken t die (job_taken c die) (core_taken c die)
    by_owed b there idle None owed = by_read (step_read c die) refl
      where
        by_rest : step_read c die ≡ None → (f : Option Flight) → rest_read c die ≡ f →
            IsTaken t die (job_taken c die) (core_taken c die)
        by_rest unread None rest = unread_taken c t die b h there idle owed unread rest few
        by_rest unread (Some f) rest = rest_taken c t die b f h there idle owed unread rest

        by_read : (f : Option Flight) → step_read c die ≡ f → IsTaken t die (job_taken c die) (core_taken c die)
        by_read None read = by_rest read (rest_read c die) refl
        by_read (Some f) read = step_taken c t die b f h there idle owed read
    by_owed b there idle (Some k) owed = read_taken c t die k b h there idle owed

    busy : (b : DieRow) (f : Flight) (g : Option disk.Flight) → IsFlight t.numbers c.step die b.filling (Some f) g →
        is_none g ≡ false
    busy b f (Some g) is = refl
    busy b (flight.Read place reader) None is = absurd is
    busy b (flight.Step place) None is = absurd is
    busy b (flight.Group place number index) None is = absurd is
    busy b (flight.Erase block) None is = absurd is

    by_job : (b : DieRow) → slice_get c.rows die ≡ Some b → (f : Option Flight) → b.flight ≡ f →
        IsTaken t die (job_taken c die) (core_taken c die)
    by_job b there None idle = by_owed b there idle (first_owed c die) refl
    by_job b there (Some f) job = nothing_taken c t die h
        (ap (takes.flight_for c die) there ∙ ap (idle_flight c die b.filling) job)
        (inl (not_idle t die (inr (busy b f (t.disk.flights die)
        (subst (λ (x : Option Flight). IsFlight t.numbers c.step die b.filling x (t.disk.flights die)) job
        (h.kept.dies.each die b there).job)))))

    by_row : (o : Option DieRow) → slice_get c.rows die ≡ o → IsTaken t die (job_taken c die) (core_taken c die)
    by_row None there = nothing_taken c t die h (ap (takes.flight_for c die) there)
        (inl (not_idle t die (inl (outside c t die h.kept there))))
    by_row (Some b) there = by_job b there b.flight refl
