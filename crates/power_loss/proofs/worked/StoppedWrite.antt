-- A write of one block, stopped inside its program: the life, its stops and what opens after them.
use Rattle.power_loss.proofs.Common.{◌≡◌, ◌⊎◌, ◌++◌, ℕ, Bool, List, [], ◌∷◌, length, replicate, take, Some, refl, sym}
use Rattle.power_loss.proofs.Common.{ap, ◌∙◌, subst, inl, inr, ⊎_elim, All-cons, All-nil, Vec, Contains, Array, Cell}
use Rattle.power_loss.proofs.Common.{Cells, Shows, Programming, Spot, at_place, page_of, CanApplyAll, CellsStandFor}
use Rattle.power_loss.proofs.Common.{IsCheckRight, MayBeLeft, Plain, after, apply, block_at, zero_block, Page, Place}
use Rattle.power_loss.proofs.Common.{new_shape, at_place_cases}
use Rattle.power_loss.proofs.MachineWords.{write_page, IsNew, data_program, place_of, row, state_15, the_data}
use Rattle.power_loss.proofs.MachineWords.{the_write, write_events, write_outputs, Command, Write, IsLeft, IsLeftoverOf}
use Rattle.power_loss.proofs.MachineWords.{IsOpened, Life, Stops, bad_in, die_of, held, page_left, IsHeard, State}
use Rattle.power_loss.proofs.MachineWords.{numbers_of, Leftover, ValidState}
use Rattle.ufs_laws.proofs.array_cells.CrashedCells.{page_left as crash_of_page}
use Rattle.ufs_laws.proofs.new_dies.NewDeviceState.{Open, open_in}
use Rattle.ufs_laws.proofs.worked_run.RunEvents.{flies_15, is_15}
use Rattle.ufs_laws.proofs.worked_run.RunLife.{write_life}
use Rattle.ufs_laws.proofs.worked_run.RunStates.{block_written, erased_array, marked_array, writing}
use Rattle.ufs_spec.specs.Pages.{check_of}
use Rattle.ufs_spec.specs.Plain.{zero}
use Rattle.power_loss.specs.StoppedWrites.{IsStoppedWrite}
use Rattle.power_loss.proofs.stops.LawfulLeftovers.{none_left}
use Rattle.power_loss.proofs.stops.LeftoverLists.{first_contained, one_apart, only_contained}
use Rattle.power_loss.proofs.worked.StoppedLives.{base_after, opens_after, put_shown, run_after, start_zero, torn_shown}
use Rattle.power_loss.proofs.worked.StoppedLives.{valid_after, zero_found}
use Rattle.power_loss.proofs.worked.StoppedPages.{marked_cells, marked_stands, put_cells, unwritten, writing_cells}
use Rattle.power_loss.proofs.worked.StoppedPages.{written_cells, written_stands}
use Rattle.ufs_spec.specs.declared.events.Leftover.TheVariants as leftover

-- A stop while one page is programmed

module _ (s : State) (p : Place) (cell : Cell) (page : Page)
    (flies : s.translation.disk.flights p.die ≡ Some (Programming p cell))
    (may : MayBeLeft (s.array p) (page_of cell) page) where
  names_it : {l : Leftover} {q : Place} (x : Page) → Contains (leftover.Page p page ∷ []) l → page_left l q x → p ≡ q
  names_it {q = q} x there names = (subst (λ m. page_left m q x) (only_contained there) names).0

  pub one_page_left : IsLeft s.array (leftover.Page p page ∷ []) (at_place s.array p page)
  one_page_left q = ⊎_elim (λ h. inl (leftover.Page p page, first_contained [], (sym h.0, h.1)))
      (λ h. inr ((λ l x there names. h.0 (sym (names_it x there names))), h.1)) (at_place_cases s.array p page q)

  pub page_stops : Stops s (leftover.Page p page ∷ []) (at_place s.array p page)
  page_stops = record {
    fit = (
      All-cons (λ l. IsLeftoverOf (numbers_of s) (s.translation.disk.flights (die_of l)) l) (leftover.Page p page) []
          (subst (λ f. IsLeftoverOf (numbers_of s) f (leftover.Page p page)) (sym flies) refl) (All-nil _),
      one_apart (leftover.Page p page),
    );
    is_left = one_page_left;
    crash = crash_of_page s.array s.translation.disk.flights p cell page flies may;
  }

-- The life

abbrev the_command : List ℕ → Command
the_command body = Write 0 0xFF (body ∷ [])

module _ (body : List ℕ) (long : length body ≡ 4096) (write block : Vec ℕ) (w : IsHeard write.items the_write)
    (b : IsHeard block.items (the_data body))
    (s : State) (n : IsNew s) where
  t : State
  t = state_15 s body

  o : Open
  o = marked_array (erased_array (open_in s))

  is : t ≡ writing o body
  unfolding t o
  is = is_15 s n body long

  flies : t.translation.disk.flights 0 ≡ Some (data_program body)
  unfolding t
  flies = flies_15 s n body long

  lived : Life s (write_events write block) (write_outputs body) t
  unfolding t
  lived = write_life s n body long write block w b

  pub write_valid : ValidState (state_15 s body)
  write_valid = valid_after s n (state_15 s body) (write_events write block) (write_outputs body)
      (write_life s n body long write block w b)

  valid : ValidState t
  unfolding t
  valid = write_valid

  -- what is known at the stop

  same_base : (writing o body).base ≡ s.base
  unfolding writing o marked_array erased_array
  same_base = refl

  base : t.base ≡ zero row
  base = ap (λ x. x.base) is ∙ same_base ∙ start_zero s n

  accepted : t.accepted ≡ the_command body ∷ []
  unfolding writing
  accepted = ap (λ x. x.accepted) is

  none_held : held t ≡ 0
  unfolding writing
  none_held = ap held is

  can : CanApplyAll (zero row) (the_command body ∷ [])
  can = subst (λ p. CanApplyAll p (the_command body ∷ [])) base
      (subst (CanApplyAll t.base) accepted valid.tied.commands)

  cells : t.translation.disk.cells ≡ marked_cells
  cells = ap (λ x. x.translation.disk.cells) is ∙ writing_cells o body

  shown : Shows t.array marked_cells
  shown = subst (Shows t.array) cells valid.tied.shown

  -- with these leftovers, where the pages that are left show cells that stand for a plain state
  module _ (lefts : Vec Leftover) (left : Array → Array) (stops : Stops t lefts.items (left t.array)) (c : Cells)
      (p : Plain)
      (shows : Shows (left t.array) c) (stands : CellsStandFor row c p) (k : ℕ)
      (is_prefix : p ≡ after t.base (take k t.accepted))
      (found : List ℕ) (has : block_at 0 0xFF p ≡ found) where
    next : (u : State) × IsOpened row (left t.array) (bad_in t) u
    next = opens_after s n t (write_events write block) (write_outputs body) lived lefts (left t.array) stops

    base_is : (u : State) (bad : Spot → Bool) → IsOpened row (left t.array) bad u → u.base ≡ p
    base_is = base_after s n t (write_events write block) (write_outputs body) lived lefts
        (left t.array) stops shows stands

    stopped : IsStoppedWrite body write block lefts left k found
    stopped = record {
      start = s;
      is_new = n;
      now = t;
      life = lived;
      flies = flies;
      base = base;
      accepted = accepted;
      none_held = none_held;
      stops = stops;
      next = next.0;
      opened = next.1;
      runs = run_after s n t (write_events write block) (write_outputs body) lived lefts (left t.array) stops next.1;
      prefix = λ u bad opened. base_is u bad opened ∙ is_prefix;
      block_found = ap (block_at 0 0xFF) (base_is next.0 (bad_in t) next.1) ∙ has;
    }

  abbrev intended : Cell
  intended = write_page 1 0xFF 0 body

  abbrev with_page : Page → Array → Array
  with_page page array = at_place array (place_of 1) page

  abbrev LeftAs : List Leftover → (Array → Array) → Type 0
  LeftAs lefts left = Stops t lefts (left t.array)

  pub stopped_old : {lefts : Vec Leftover} → lefts.items ≡ [] → IsStoppedWrite body write block lefts
      (λ array. array) 0 zero_block
  stopped_old {lefts} e = stopped lefts (λ array. array)
      (subst (λ ls. LeftAs ls (λ array. array)) (sym e) (none_left)) marked_cells
      (zero row) shown marked_stands 0 (sym base) zero_block zero_found

  module _ (page : Page) (lefts : Vec Leftover) (e : lefts.items ≡ leftover.Page (place_of 1) page ∷ []) where
    page_is_left : MayBeLeft (t.array (place_of 1)) (page_of intended) page → LeftAs lefts.items (with_page page)
    page_is_left left = subst (λ ls. LeftAs ls (with_page page)) (sym e)
        (page_stops t (place_of 1) intended page flies left)

    pub stopped_torn : (IsCheckRight page → ⊥) → IsStoppedWrite body write block lefts (with_page page) 0 zero_block
    stopped_torn wrong = stopped lefts (with_page page) (page_is_left (inr (inr wrong))) marked_cells (zero row)
        (torn_shown t.array marked_cells page shown unwritten wrong) marked_stands 0 (sym base) zero_block zero_found

  write_taken : apply (zero row) (the_command body) ≡ after t.base (take 1 t.accepted)
  write_taken = sym (ap (λ cs. after t.base (take 1 cs)) accepted ∙ ap (λ p. apply p (the_command body)) base)

  pub stopped_new : {lefts : Vec Leftover} → lefts.items ≡ leftover.Page (place_of 1) (page_of intended) ∷ [] →
      IsStoppedWrite body write block lefts (with_page (page_of intended)) 1 body
  stopped_new {lefts} e =
      stopped lefts (with_page (page_of intended)) (page_is_left (page_of intended) lefts e (inr (inl refl)))
      (written_cells body) (apply (zero row) (the_command body))
      (subst (Shows (with_page (page_of intended) t.array)) (put_cells body)
      (put_shown t.array marked_cells (place_of 1) (page_of intended) intended shown
      (valid.tied.flights 0 (place_of 1) intended flies)))
      (written_stands body can) 1 write_taken body (block_written (zero row) body (new_shape row))

-- There are torn pages: of two pages that differ in their last bytes one has a wrong check

with_check : List ℕ → Page
with_check check = record { body = zero_block; spare = replicate 64 0 ++ check }

two_checks : (a : List ℕ) {b : List ℕ} → a ≡ b → ([] ≡ a → ⊥) ⊎ ((1 ∷ []) ≡ b → ⊥)
two_checks [] e = inr (λ h. let z : [] ≡ 1 ∷ [] = e ∙ sym h in cc)
two_checks (x ∷ xs) e = inl (λ h. let z : [] ≡ x ∷ xs = h in cc)

pub some_torn : (torn : Page) × (IsCheckRight torn → ⊥)
unfolding with_check
some_torn = ⊎_elim (λ h. (with_check [], h)) (λ h. (with_check (1 ∷ []), h))
    (two_checks (check_of zero_block (replicate 64 0)) refl)
