-- Two dies are torn at once: one programs the block's page, the other erases a block.
use Rattle.power_loss.proofs.Common.{All-cons, All-nil, Array, Contains, IsCell, IsCheckRight, List, MarkPage, Nothing}
use Rattle.power_loss.proofs.Common.{Page, Place, Shows, Some, Vec, [], ap, arith, block_at, if◌then◌else◌, inr, length}
use Rattle.power_loss.proofs.Common.{refl, same_place, subst, suc, sym, zero, ℕ, ⊎_elim, ◌&&◌, ◌++◌, ◌==◌, ◌∙◌, ◌∷◌}
use Rattle.power_loss.proofs.Common.{◌≡◌, ◌≢◌}
use Rattle.power_loss.proofs.MachineWords.{first_mark, write_page, Gets, IsNew, data_program, place_of, row, the_data}
use Rattle.power_loss.proofs.MachineWords.{the_write, Write, AreLeftovers, IsLawfulLeftover, IsLeftoverOf}
use Rattle.power_loss.proofs.MachineWords.{IsOpened, Leads, Life, Stops, bad_in, die_of, held, page_left, Take, OfTake}
use Rattle.power_loss.proofs.MachineWords.{IsHeard, observe, State, numbers_of, Event, Leftover, Output}
use Rattle.std.proofs.lemmas.List.Kept.{AllPairs-cons}
use Rattle.ufs_laws.proofs.pages.BlankPages.{nothing_is_blank}
use Rattle.ufs_laws.proofs.lives.LivesJoined.{join}
use Rattle.ufs_laws.proofs.new_dies.NewDeviceState.{Open, open_in}
use Rattle.ufs_laws.proofs.worked_run.RunEvents.{is_13}
use Rattle.ufs_laws.proofs.answers.OnlyAnswers.{flight_gets}
use Rattle.ufs_laws.proofs.worked_run.RunLife.{pending_life}
use Rattle.ufs_laws.proofs.worked_run.RunStates.{erased_array, marked_array, pending}
use Rattle.ufs_laws.specs.Runs.{begins, pending_events, pending_outputs, state_13}
use Rattle.ufs_spec.specs.Plain.{zero as zero_state}
use Rattle.power_loss.specs.StoppedWrites.{AreTorn, IsTornTwice, other_erase}
use Rattle.power_loss.proofs.stops.LawfulLeftovers.{each_stops}
use Rattle.power_loss.proofs.stops.LeftoverLists.{contained_cases, one_apart, only_contained}
use Rattle.power_loss.proofs.worked.LeftOfJobs.{IsBlankOrTorn, block_lawful, each_page, page_lawful, torn_cell}
use Rattle.power_loss.proofs.worked.StoppedLives.{base_after, opens_after, run_after, start_zero, valid_after}
use Rattle.power_loss.proofs.worked.StoppedLives.{zero_found}
use Rattle.power_loss.proofs.worked.StoppedPages.{marked_cells, marked_either, marked_stands, outside_mark}
use Rattle.power_loss.proofs.worked.StoppedPages.{turned_place, unwritten}
use Rattle.ufs_spec.specs.declared.events.Event.TheVariants as event
use Rattle.ufs_spec.specs.declared.events.Leftover.TheVariants as leftover

-- What is computed

module _ (o : Open) (body : List ℕ) where
  one_busy : State
  one_busy = observe (pending o body) (Take 1) (OfTake (Some other_erase))

  two_busy : State
  two_busy = observe one_busy (Take 0) (OfTake (Some (data_program body)))

  first_right : Gets (pending o body) (Take 1) (OfTake (Some other_erase))
  unfolding pending
  first_right = flight_gets (pending o body) 1 other_erase (refl, (refl, refl)) refl refl

  second_right : Gets one_busy (Take 0) (OfTake (Some (data_program body)))
  unfolding one_busy pending
  second_right = flight_gets one_busy 0 (data_program body) (refl, (refl, refl)) refl refl

  first_flies : two_busy.translation.disk.flights 0 ≡ Some (data_program body)
  unfolding two_busy one_busy pending
  first_flies = refl

  second_flies : two_busy.translation.disk.flights 1 ≡ Some other_erase
  unfolding two_busy one_busy pending
  second_flies = refl

  busy_cells : two_busy.translation.disk.cells ≡ marked_cells
  unfolding two_busy one_busy pending marked_cells
  busy_cells i p =
      (marked_either (same_place p (place_of 0)) ((p.die == 0) && (p.block == 0)) (MarkPage (first_mark row))
      ∙ ap (λ b. if b then MarkPage (first_mark row) else Nothing) (turned_place p (place_of 0))) i

  busy_accepted : two_busy.accepted ≡ Write 0 0xFF (body ∷ []) ∷ []
  unfolding two_busy one_busy pending
  busy_accepted = refl

  busy_held : held two_busy ≡ 0
  unfolding two_busy one_busy pending
  busy_held = refl

  busy_base : two_busy.base ≡ o.base
  unfolding two_busy one_busy pending
  busy_base = refl

  busy_pages : (numbers_of two_busy).pages ≡ 64
  unfolding two_busy one_busy pending
  busy_pages = refl

-- The life

module _ (body : List ℕ) (long : length body ≡ 4096) (write block : Vec ℕ) (w : IsHeard write.items the_write)
    (b : IsHeard block.items (the_data body)) (s : State) (n : IsNew s) (torn : Page) (pages : Vec Page)
    (wrong : IsCheckRight torn → ⊥) (many : length pages.items ≡ 64) (all : AreTorn pages.items) where
  o : Open
  o = marked_array (erased_array (open_in s))

  first : State
  first = observe (state_13 s body) (Take 1) (OfTake (Some other_erase))

  t : State
  t = observe first (Take 0) (OfTake (Some (data_program body)))

  at_13 : state_13 s body ≡ pending o body
  unfolding o
  at_13 = is_13 s n body long

  first_is : first ≡ one_busy o body
  unfolding first one_busy
  first_is = ap (λ x. observe x (Take 1) (OfTake (Some other_erase))) at_13

  is : t ≡ two_busy o body
  unfolding t two_busy
  is = ap (λ x. observe x (Take 0) (OfTake (Some (data_program body)))) first_is

  first_here : Gets (state_13 s body) (Take 1) (OfTake (Some other_erase))
  first_here = subst (λ x. Gets x (Take 1) (OfTake (Some other_erase))) (sym at_13) (first_right o body)

  second_here : Gets first (Take 0) (OfTake (Some (data_program body)))
  second_here = subst (λ x. Gets x (Take 0) (OfTake (Some (data_program body)))) (sym first_is) (second_right o body)

  leads_first : Leads (state_13 s body) (event.Take 1) (begins other_erase) first
  unfolding first
  leads_first = record {
    call = Take 1;
    answer = OfTake (Some other_erase);
    is_call = refl;
    is_shown = refl;
    right = first_here.right;
    next = refl;
  }

  leads_second : Leads first (event.Take 0) (begins (data_program body)) t
  unfolding t
  leads_second = record {
    call = Take 0;
    answer = OfTake (Some (data_program body));
    is_call = refl;
    is_shown = refl;
    right = second_here.right;
    next = refl;
  }

  abbrev es : List Event
  es = pending_events write block ++ event.Take 1 ∷ event.Take 0 ∷ []

  abbrev os : List Output
  os = pending_outputs ++ begins other_erase ∷ begins (data_program body) ∷ []

  lived : Life s es os t
  lived = join s (pending_events write block) (event.Take 1 ∷ event.Take 0 ∷ []) pending_outputs
      (begins other_erase ∷ begins (data_program body) ∷ []) (state_13 s body) t
      (pending_life s n body long write block w b) (first, leads_first, (t, leads_second, refl))

  flies : t.translation.disk.flights 0 ≡ Some (data_program body)
  flies = ap (λ x. x.translation.disk.flights 0) is ∙ first_flies o body

  erases : t.translation.disk.flights 1 ≡ Some other_erase
  erases = ap (λ x. x.translation.disk.flights 1) is ∙ second_flies o body

  same_base : o.base ≡ s.base
  unfolding o marked_array erased_array
  same_base = refl

  base : t.base ≡ zero_state row
  base = ap (λ x. x.base) is ∙ busy_base o body ∙ same_base ∙ start_zero s n

  shown : Shows t.array marked_cells
  shown = subst (Shows t.array) (ap (λ x. x.translation.disk.cells) is ∙ busy_cells o body)
      (valid_after s n t es os lived).tied.shown

  -- the leftovers

  abbrev the_page : Leftover
  the_page = leftover.Page (place_of 1) torn

  abbrev the_block : Leftover
  the_block = leftover.Block 1 0 pages

  page_is_lawful : IsLawfulLeftover t the_page
  page_is_lawful = page_lawful t (place_of 1) (write_page 1 0xFF 0 body) torn flies (inr (inr wrong))

  block_is_lawful : IsLawfulLeftover t the_block
  block_is_lawful = block_lawful t 1 0 pages erases all

  abbrev both : List Leftover
  both = the_page ∷ the_block ∷ []

  lawful : (l : Leftover) → Contains both l → IsLawfulLeftover t l
  lawful l there = ⊎_elim (λ e. subst (IsLawfulLeftover t) (sym e) page_is_lawful)
      (λ later. subst (IsLawfulLeftover t) (sym (only_contained later)) block_is_lawful)
      (contained_cases (the_block ∷ []) there)

  abbrev FitsJob : Leftover → Type 0
  FitsJob l = IsLeftoverOf (numbers_of t) (t.translation.disk.flights (die_of l)) l

  abbrev Differs : Leftover → Type 0
  Differs m = die_of the_page ≢ die_of m

  differ : Differs the_block
  differ e = let no : zero ≡ suc zero = e in omega arith

  fit : AreLeftovers t both
  fit = (
    All-cons FitsJob the_page (the_block ∷ []) (subst (λ f. IsLeftoverOf (numbers_of t) f the_page) (sym flies) refl)
        (All-cons FitsJob the_block []
        (subst (λ f. IsLeftoverOf (numbers_of t) f the_block) (sym erases)
        (refl, many ∙ sym (ap (λ x. (numbers_of x).pages) is ∙ busy_pages o body))) (All-nil _)),
    AllPairs-cons (λ l m. die_of l ≢ die_of m) the_page (the_block ∷ [])
        (All-cons Differs the_block [] differ (All-nil Differs)) (one_apart the_block),
  )

  left : Array
  left = (each_stops t both fit lawful).0

  stops_both : Stops t both left
  unfolding left
  stops_both = (each_stops t both fit lawful).1

  -- what is left shows no new page

  named_shown : (p : Place) {l : Leftover} → Contains both l → page_left l p (left p) → IsCell (left p) (marked_cells p)
  named_shown p there h = ⊎_elim (λ e. of_page (subst (λ x. page_left x p (left p)) e h))
      (λ later. of_block (subst (λ x. page_left x p (left p)) (only_contained later) h))
      (contained_cases (the_block ∷ []) there)
    where
      of_page : page_left the_page p (left p) → IsCell (left p) (marked_cells p)
      of_page g = subst (λ x. IsCell x (marked_cells p)) (sym g.1)
          (subst (IsCell torn) (sym (ap marked_cells (sym g.0) ∙ unwritten)) (torn_cell wrong))

      of_block : page_left the_block p (left p) → IsCell (left p) (marked_cells p)
      of_block g =
          let die : p.die ≡ 1 = (ap (λ x. x.die) g.0) in
          subst (IsCell (left p)) (sym (outside_mark p (λ e. omega (arith, die, e))))
          (⊎_elim (λ e. subst (λ x. IsCell x Nothing) (sym e) nothing_is_blank) (torn_cell)
          (each_page IsBlankOrTorn pages.items p.page all g.1))

  shown_left : Shows left marked_cells
  shown_left p = ⊎_elim (λ h. named_shown p h.1 h.2)
      (λ h. subst (λ x. IsCell x (marked_cells p)) (sym h.1) (shown p)) (stops_both.is_left p)

  module _ (lefts : Vec Leftover) (e : lefts.items ≡ both) where
    stops_so : Stops t lefts.items left
    stops_so = subst (λ ls. Stops t ls left) (sym e) stops_both

    next : (u : State) × IsOpened row left (bad_in t) u
    next = opens_after s n t es os lived lefts left stops_so

    pub torn_twice : IsTornTwice body write block lefts
    torn_twice = record {
      start = s;
      is_new = n;
      now = t;
      life = lived;
      programs = flies;
      erases = erases;
      base = base;
      accepted = ap (λ x. x.accepted) is ∙ busy_accepted o body;
      none_held = ap held is ∙ busy_held o body;
      left = left;
      stops = stops_so;
      next = next.0;
      opened = next.1;
      runs = run_after s n t es os lived lefts left stops_so next.1;
      prefix = λ u bad opened. base_after s n t es os lived lefts left stops_so shown_left marked_stands u bad opened ∙
          sym base;
      block_found =
          ap (block_at 0 0xFF) (base_after s n t es os lived lefts left stops_so shown_left marked_stands next.0
          (bad_in t) next.1) ∙ zero_found;
    }
