-- A page of a group is written: the queue and its ring.
use Rattle.write_cache.proofs.Common.{AreRuns, Bool, GroupAt, HasNone, List, None, Option, Pending, Place, Shown, Some}
use Rattle.write_cache.proofs.Common.{[], and_parts, ap, eqb-true, first_number, is_named, length, map, none-some}
use Rattle.write_cache.proofs.Common.{option_map, position, position_told, refl, same_Some, set_length, shown}
use Rattle.write_cache.proofs.Common.{slice_get, slice_get-map, slice_set, subst, suc, sym, true, written, written_at}
use Rattle.write_cache.proofs.Common.{zero, ℕ, ◌==◌, ◌∙◌, ◌∷◌, ◌≡◌}
use Rattle.std.proofs.lemmas.List.{map-set}
use Rattle.write_cache.specs.Ring.{is_open_at}
use Rattle.write_cache.proofs.Places.{found_at, none_named}
use Rattle.write_cache.proofs.Runs.{runs_none}
use Rattle.write_cache.proofs.ChangedRuns.{closed, runs_written}

-- the ring tells of the pages again
pub marked_runs : (s l h at k index : ℕ) (gs : List GroupAt) (ps qs : List Pending) (g : GroupAt) (place : Place)
    (b : Bool) → AreRuns s l h gs (map shown ps) → slice_get gs at ≡ Some g →
    position (is_named g.number index) ps ≡ Some k → b ≡ is_open_at (slice_get ps k) →
    qs ≡ written_at ps k place (slice_get ps k) → AreRuns s l h (slice_set gs at (written g b)) (map shown qs)
marked_runs s l h at k index gs ps qs g place b r e found was is =
    subst (λ (xs : List Shown). AreRuns s l h (slice_set gs at (written g b)) xs) (sym all)
    (subst (λ (c : Bool). AreRuns s l h (slice_set gs at (written g c)) (slice_set (map shown ps) k (closed (shown p))))
    (sym (was ∙ ap is_open_at there))
    (runs_written s l h at k gs (map shown ps) g (shown p) r e
    (slice_get-map shown ps k ∙ ap (option_map shown) there) (eqb-true p.number g.number number)))
  where
    p : Pending
    p = (position_told (is_named g.number index) ps k found).0

    there : slice_get ps k ≡ Some p
    there = (position_told (is_named g.number index) ps k found).1

    number : (p.number == g.number) ≡ true
    number = (and_parts (p.number == g.number) (p.index == index)
        (position_told (is_named g.number index) ps k found).2).0

    all : map shown qs ≡ slice_set (map shown ps) k (closed (shown p))
    all = ap (λ (ys : List Pending). map shown ys) (is ∙ ap (written_at ps k place) there)
        ∙ map-set shown ps k (record p { written = Some place })

-- there are as many pages
pub marked_length : (k : ℕ) (place : Place) (ps : List Pending) →
    length (written_at ps k place (slice_get ps k)) ≡ length ps
marked_length k place ps = by (slice_get ps k)
  where
    by : (o : Option Pending) → length (written_at ps k place o) ≡ length ps
    by None = refl
    by (Some p) = set_length ps k (record p { written = Some place })

-- the first number is the same
pub first_marked : (d at : ℕ) (gs : List GroupAt) (g : GroupAt) (b : Bool) → slice_get gs at ≡ Some g →
    first_number d gs ≡ first_number d (slice_set gs at (written g b))
first_marked d at [] g b e = absurd (none-some g e)
first_marked d zero (x ∷ gs) g b e = ap (λ (y : GroupAt). y.number) (same_Some x g e)
first_marked d (suc at) (x ∷ gs) g b e = refl

-- where no group has the number, no page has
pub none_marked : (s l h number index : ℕ) (gs : List GroupAt) (ps : List Pending) → AreRuns s l h gs (map shown ps) →
    HasNone number gs → position (is_named number index) ps ≡ None
none_marked s l h number index gs ps r none =
    found_at number index ps
    ∙ none_named number index 0 (map shown ps) (runs_none number s l h gs (map shown ps) r none)
