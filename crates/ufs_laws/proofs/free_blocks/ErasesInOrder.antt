-- Which blocks of a die are erased, and in which order.
use Rattle.ufs_laws.proofs.Common.{Bad, BlockState, Bool, Cell, Closed, Erasing, Filling, Flight, Free, IsVacantOn}
use Rattle.ufs_laws.proofs.Common.{List, MayTake, Name, None, Option, Place, Programming, Ready, Some, Spot, Stale}
use Rattle.ufs_laws.proofs.Common.{Translation, Untouched, Vacancy, [], and_parts, cell_now, cond, false, false≢true}
use Rattle.ufs_laws.proofs.Common.{find, flight_at, flight_for, flight_into, flight_or, has_room_for_groups}
use Rattle.ufs_laws.proofs.Common.{if◌then◌else◌, inl, inr, is_ready, is_stale, is_untouched, is_vacant, lowest_vacant}
use Rattle.ufs_laws.proofs.Common.{may_be_used, may_open_for_group, next_erase, next_place, none-some, not, option_map}
use Rattle.ufs_laws.proofs.Common.{refl, same_Some, subst, suc, sym, true, waiting_name, waiting_step, ℕ, ⊎_elim, ◌&&◌}
use Rattle.ufs_laws.proofs.Common.{◌∙◌, ◌∷◌, ◌≡◌, ◌⊎◌}
use Rattle.std.proofs.Common.{slice_get}
use Rattle.ufs_spec.proofs.Facts.{not-true}
use Rattle.ufs_spec.proofs.Lists.{at_contained, contained_at, find_some}
use Rattle.ufs_spec.specs.Disk.{place_in}
use Rattle.ufs_spec.specs.Translation.{is_free, is_pinned, spots_of}

-- ## Blocks that were looked for

-- what is found is one of the list, and is so
found_so : (f : Spot → Bool) (xs : List Spot) (s : Spot) → find f xs ≡ Some s →
    (k : ℕ) × (slice_get xs k ≡ Some s) × (f s ≡ true)
found_so f [] s e = absurd (none-some s e)
found_so f (x ∷ xs) s e = by (f x) refl e (found_so f xs s)
  where
    by : (b : Bool) → f x ≡ b → cond b (Some x) (find f xs) ≡ Some s →
        (find f xs ≡ Some s → (k : ℕ) × (slice_get xs k ≡ Some s) × (f s ≡ true)) →
        (k : ℕ) × (slice_get (x ∷ xs) k ≡ Some s) × (f s ≡ true)
    by true is here behind = (0, here, subst (λ y. f y ≡ true) (same_Some x s here) is)
    by false is e behind = let more = behind e in (suc more.0, more.1, more.2)

vacant_told : (b : BlockState) (passes : Bool) → (is_free b && passes) ≡ true → (b ≡ Free) × (passes ≡ true)
vacant_told Free passes e = (refl, e)
vacant_told (Filling next) passes e = absurd (false≢true e)
vacant_told Closed passes e = absurd (false≢true e)
vacant_told Bad passes e = absurd (false≢true e)

pub stale_is : (v : Vacancy) → is_stale v ≡ true → v ≡ Stale
stale_is Stale e = refl
stale_is Untouched e = absurd (false≢true e)
stale_is Ready e = absurd (false≢true e)

pub untouched_is : (v : Vacancy) → is_untouched v ≡ true → v ≡ Untouched
untouched_is Untouched e = refl
untouched_is Stale e = absurd (false≢true e)
untouched_is Ready e = absurd (false≢true e)

module _ (t : Translation) (is : Vacancy → Bool) (v : Vacancy) where
  -- the lowest block that may be used is vacant
  lowest_told : ((w : Vacancy) → is w ≡ true → w ≡ v) → (die : ℕ) (s : Spot) → lowest_vacant t is die ≡ Some s →
      IsVacantOn t die s v
  lowest_told only die s e =
      let found = found_so (may_be_used t is) (spots_of t.numbers die) s e in
      let parts = and_parts (is_vacant t is s) (not (is_pinned t s)) found.2 in
      let vacant = vacant_told (t.disk.blocks s) (is (t.disk.vacancies s)) parts.0 in
      record {
        there = at_contained (spots_of t.numbers die) found.0 s found.1;
        free = vacant.0;
        vacancy = only (t.disk.vacancies s) vacant.1;
        not_kept = not-true (is_pinned t s) parts.1;
      }

  -- where a block is vacant, one is found
  pub lowest_some : is v ≡ true → (die : ℕ) (s : Spot) → IsVacantOn t die s v →
      (x : Spot) × (lowest_vacant t is die ≡ Some x)
  lowest_some passes die s h =
      let at = contained_at (spots_of t.numbers die) s h.there in
      find_some (may_be_used t is) (spots_of t.numbers die) at.0 s at.1
      (rw (h.free, h.vacancy, passes, h.not_kept) refl)

-- ## Erases

same_spots : (o : Option Spot) (s : Spot) → option_map Erasing o ≡ Some (Erasing s) → o ≡ Some s
same_spots None s e = cc
same_spots (Some x) s e = cc

pub stale_erase : (t : Translation) (die : ℕ) (s : Spot) → next_erase t is_stale die ≡ Some (Erasing s) →
    IsVacantOn t die s Stale
stale_erase t die s e = lowest_told t is_stale Stale stale_is die s (same_spots (lowest_vacant t is_stale die) s e)

-- an untouched block is erased where none is ready
abbrev pub IsOpening : Translation → ℕ → Spot → Type 0
IsOpening t die s = IsVacantOn t die s Untouched × (lowest_vacant t is_ready die ≡ None)

no_program : (p : Place) (cell : Cell) (s : Spot) → Some (Programming p cell) ≡ Some (Erasing s) → ⊥
no_program p cell s e = cc

into_erase : (t : Translation) (die : ℕ) (cell : Cell) (o : Option Spot) (s : Spot) → lowest_vacant t is_ready die ≡ o →
    flight_into t die cell o ≡ Some (Erasing s) → IsOpening t die s
into_erase t die cell (Some x) s at e = absurd (no_program (place_in x 0) cell s e)
into_erase t die cell None s at e =
    (lowest_told t is_untouched Untouched untouched_is die s (same_spots (lowest_vacant t is_untouched die) s e), at)

at_erase : (t : Translation) (die : ℕ) (opens : Bool) (cell : Cell) (p : Option Place) (s : Spot) →
    flight_at t die opens cell p ≡ Some (Erasing s) → IsOpening t die s
at_erase t die opens cell (Some p) s e = absurd (no_program p cell s e)
at_erase t die true cell None s e = into_erase t die cell (lowest_vacant t is_ready die) s refl e
at_erase t die false cell None s e = absurd (none-some (Erasing s) e)

for_erase : (t : Translation) (die : ℕ) (cell : Option Cell) (name : Option Name) (s : Spot) →
    flight_for t die cell name ≡ Some (Erasing s) → IsOpening t die s
for_erase t die (Some cell) name s e = at_erase t die _ cell (next_place t die) s e
for_erase t die None (Some name) s e = by (has_room_for_groups t) e
  where
    by : (b : Bool)
        → (if b then flight_at t die (may_open_for_group t) (cell_now t.ledger name) (next_place t die) else None)
        ≡ Some (Erasing s) → IsOpening t die s
    by true k = at_erase t die _ _ (next_place t die) s k
    by false k = absurd (none-some (Erasing s) k)
for_erase t die None None s e = absurd (none-some (Erasing s) e)

-- the first of two jobs, or the second where the first is none
either : (o other : Option Flight) (flight : Flight) → flight_or o other ≡ Some flight →
    (o ≡ Some flight) ⊎ (other ≡ Some flight)
either (Some f) other flight e = inl e
either None other flight e = inr e

-- each erase is of a stale block, or of one that is opened
pub erase_of : (t : Translation) (die : ℕ) (s : Spot) → MayTake t die (Some (Erasing s)) →
    IsVacantOn t die s Stale ⊎ IsOpening t die s
erase_of t die s h =
    ⊎_elim
    (λ e. inl (stale_erase t die s e))
    (λ e. inr (for_erase t die (waiting_step t t.work.step) (waiting_name t) s e))
    (either (next_erase t is_stale die) _ (Erasing s) h.1.1)

pub each_erase : (t : Translation) (die : ℕ) (s : Spot) → MayTake t die (Some (Erasing s)) →
    IsVacantOn t die s Stale ⊎ IsVacantOn t die s Untouched
each_erase t die s h = ⊎_elim (λ stale. inl stale) (λ (opening : IsOpening t die s). inr opening.0) (erase_of t die s h)

pub before_untouched : (t : Translation) (die : ℕ) (s spot : Spot) → IsVacantOn t die s Ready →
    MayTake t die (Some (Erasing spot)) → IsVacantOn t die spot Stale
before_untouched t die s spot ready h =
    ⊎_elim
    (λ stale. stale)
    (λ (opening : IsOpening t die spot).
    let found = lowest_some t is_ready Ready refl die s ready in
    absurd (none-some found.0 (sym opening.1 ∙ found.1)))
    (erase_of t die spot h)
