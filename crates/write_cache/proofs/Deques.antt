-- Queues, from behind, and the first place in a list that passes a test.
use Rattle.write_cache.proofs.Common.{Bool, List, None, Option, Pending, Place, Some, [], ap, append-nil, arith, cond}
use Rattle.write_cache.proofs.Common.{drop_all, false, is_named, length, option_and_then, position, refl, set_length}
use Rattle.write_cache.proofs.Common.{slice_get, subst, sym, take, true, written_at, ℕ, ◌++◌, ◌∙◌, ◌∷◌, ◌≡◌}
use Rattle.std.proofs.Common.{ltb, reverse}
use Rattle.std.specs.Prelude.{find}
use Rattle.std.specs.Iterator.Adapters.{rev_source, rev_steps}
use Rattle.std.specs.List.{position_or_len, refill}
use Rattle.std.specs.VecDeque.Iter.{deque_iter_rest, deque_iter_steps_back}
use Rattle.std.proofs.lemmas.Iterator.{YieldsList}
use Rattle.std.proofs.lemmas.Iterator.Consumers.{YieldsList-from_shown}
use Rattle.std.proofs.lemmas.List.{length-reverse, reverse-append, take_all}
use Rattle.std.proofs.lemmas.List.Folds.{find_at}
use Rattle.std.proofs.lemmas.Option.{slice_get_past}
use Rattle.ufs_spec.proofs.Facts.{ltb-false}
use Rattle.write_cache.specs.Slots.{page_written, written_if}

-- a queue's pages from behind
pub YieldsList-from_rev_deque : {A : Type 0} → {s : _} (xs : List A) → deque_iter_rest (rev_source s) ≡ xs →
    YieldsList (rev_steps (deque_iter_steps_back {X = A})) (λ y. y.now) s (reverse xs)
YieldsList-from_rev_deque {A} {s} xs e =
    subst (λ k. YieldsList (rev_steps (deque_iter_steps_back {X = A})) (λ y. y.now) s (reverse k)) e
    (YieldsList-from_shown (rev_steps (deque_iter_steps_back {X = A})) (λ y. y.now)
    (λ u. reverse (deque_iter_rest (rev_source u))) (λ u t p. length-reverse _ ∙ p.0)
    (λ u x t p. ap reverse p ∙ reverse-append (deque_iter_rest (rev_source t)) (x.now ∷ [])) s)

-- a queue whose elements were written over by as many has those
pub refilled : {A : Type 0} (n : ℕ) (xs ws : List A) → n ≡ length xs → length ws ≡ length xs → refill n xs ws ≡ ws
refilled n xs ws is same =
    ap (λ ys. take n (ws ++ ys)) (drop_all (length ws) xs (omega (arith, same)))
    ∙ ap (take n) (append-nil ws)
    ∙ take_all n ws (omega (arith, is, same))

-- what is found stands at the first place that passes the test
pub find_placed : {A : Type 0} (f : A → Bool) (xs : List A) (o : Option ℕ) → o ≡ position f xs →
    find f xs ≡ option_and_then (slice_get xs) o
find_placed {A} f xs o is =
    find_at f xs ∙ by (ltb (position_or_len f xs) (length xs)) refl
    ∙ ap (option_and_then (slice_get xs)) (sym is)
  where
    by : (b : Bool) → ltb (position_or_len f xs) (length xs) ≡ b →
        slice_get xs (position_or_len f xs)
        ≡ option_and_then (slice_get xs) (cond b (Some (position_or_len f xs)) None)
    by true e = refl
    by false e = slice_get_past xs (position_or_len f xs) (ltb-false (position_or_len f xs) (length xs) e)

-- and where there is no such page, none is written
pub unfound_told : (ps : List Pending) (number index : ℕ) (place : Place) → position (is_named number index) ps ≡ None →
    ps ≡ page_written ps number index place
unfound_told ps number index place e = sym (ap (written_if ps place) e)

-- there are as many pages once one is written
pub written_length : (ps : List Pending) (number index : ℕ) (place : Place) →
    length (page_written ps number index place) ≡ length ps
written_length ps number index place = by (position (is_named number index) ps)
  where
    at : (k : ℕ) (o : Option Pending) → length (written_at ps k place o) ≡ length ps
    at k None = refl
    at k (Some p) = set_length ps k (record p { written = Some place })

    by : (o : Option ℕ) → length (written_if ps place o) ≡ length ps
    by None = refl
    by (Some k) = at k (slice_get ps k)
