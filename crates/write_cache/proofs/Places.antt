-- Where a page of a number and index stands.
use Rattle.write_cache.proofs.Common.{AreApart, Bool, GroupAt, List, None, Pending, Shown, Some, Stands, [], and_parts}
use Rattle.write_cache.proofs.Common.{ap, arith, cases_eq, cases_lt, cond, drop, eq-eqb, eqb-true, false, inl, inr}
use Rattle.write_cache.proofs.Common.{is_named, le-leb, length, map, nat_lt, ne_eqb, none-some, position, position_from}
use Rattle.write_cache.proofs.Common.{refl, same_Some, shown, slice_get, suc, sym, take, true, wrapped, zero, ℕ, ◌&&◌}
use Rattle.write_cache.proofs.Common.{◌++◌, ◌+◌, ◌-◌, ◌<◌, ◌==◌, ◌^◌, ◌∙◌, ◌∷◌, ◌≡◌, ◌≤◌, ◌⊎◌}
use Rattle.std.proofs.lemmas.Iterator.Adapters.{position_from-zero}
use Rattle.std.proofs.lemmas.List.{drop-map, take-map}
use Rattle.std.proofs.Math.Seq.{drop-append_seam, take-append_seam}
use Rattle.ufs_spec.proofs.Facts.{le-ltb, leb-true, lt-leb, lt-ltb}
use Rattle.ufs_spec.proofs.Lists.{take_get}
use Rattle.write_cache.specs.Ring.{AreOf, back, is_row, is_straight, place_of}
use Rattle.write_cache.proofs.Runs.{stands_within}

-- the page has this number and index
abbrev pub named : ℕ → ℕ → Shown → Bool
named n i x = (x.number == n) && (x.index == i)

pub shown_places : (n i k : ℕ) (ps : List Pending) →
    position_from (is_named n i) k ps ≡ position_from (named n i) k (map shown ps)
shown_places n i k [] = refl
shown_places n i k (p ∷ ps) = ap (cond (is_named n i p) (Some k)) (shown_places n i (k + 1) ps)

-- Among pages that are apart

passed_over : (n i k : ℕ) (xs ys : List Shown) → AreApart n xs →
    position_from (named n i) k (xs ++ ys) ≡ position_from (named n i) (k + length xs) ys
passed_over n i k [] ys h = ap (λ (m : ℕ). position_from (named n i) m ys) (omega arith)
passed_over n i k (x ∷ xs) ys h =
    ap (λ (b : Bool). cond (b && (x.index == i)) (Some k) (position_from (named n i) (k + 1) (xs ++ ys))) h.0
    ∙ passed_over n i (k + 1) xs ys h.1
    ∙ ap (λ (m : ℕ). position_from (named n i) m ys) (omega arith)

pub none_named : (n i k : ℕ) (xs : List Shown) → AreApart n xs → position_from (named n i) k xs ≡ None
none_named n i k [] h = refl
none_named n i k (x ∷ xs) h =
    ap (λ (b : Bool). cond (b && (x.index == i)) (Some k) (position_from (named n i) (k + 1) xs)) h.0
    ∙ none_named n i (k + 1) xs h.1

left_out : (n i k : ℕ) (xs ys : List Shown) → AreApart n ys →
    position_from (named n i) k (xs ++ ys) ≡ position_from (named n i) k xs
left_out n i k [] ys h = none_named n i k ys h
left_out n i k (x ∷ xs) ys h = ap (cond (named n i x) (Some k)) (left_out n i (k + 1) xs ys h)

-- the group alone tells where the page is
pub stands_at : (s i : ℕ) (g : GroupAt) (xs : List Shown) (st : Stands s g xs) →
    position_from (named g.number i) 0 xs ≡ position_from (named g.number i) (length st.before) st.run
stands_at s i g xs st =
    ap (position_from (named g.number i) 0) st.whole
    ∙ passed_over g.number i 0 st.before (st.run ++ st.behind) st.apart_before
    ∙ ap (λ (m : ℕ). position_from (named g.number i) m (st.run ++ st.behind)) (omega arith)
    ∙ left_out g.number i (length st.before) st.run st.behind st.apart_behind

-- Among pages in a row

row_found : (n i k last b : ℕ) (xs : List Shown) → AreOf n xs → is_row last xs ≡ true → i + b ≡ last → b < length xs →
    position_from (named n i) k xs ≡ Some (k + (length xs - (b + 1)))
row_found n i k last b [] are r is l = absurd (omega (arith, l))
row_found n i k last b (x ∷ xs) are r is l =
    by (cases_eq x.index i) (λ l. row_found n i (k + 1) last b xs are.1 both.1 is l)
  where
    both : ((x.index + length xs == last) ≡ true) × (is_row last xs ≡ true)
    both = and_parts (x.index + length xs == last) (is_row last xs) r

    place : x.index + length xs ≡ last
    place = eqb-true (x.index + length xs) last both.0

    test : (c : Bool) → (x.index == i) ≡ c → named n i x ≡ c
    test c e = ap (λ (b : Bool). b && (x.index == i)) (eq-eqb x.number n are.0) ∙ e

    by : (x.index ≡ i) ⊎ (x.index ≡ i → ⊥) →
        (b < length xs → position_from (named n i) (k + 1) xs ≡ Some (k + 1 + (length xs - (b + 1)))) →
        position_from (named n i) k (x ∷ xs) ≡ Some (k + (length (x ∷ xs) - (b + 1)))
    by (inl e) more =
        ap (λ (c : Bool). cond c (Some k) (position_from (named n i) (k + 1) xs))
        (test true (eq-eqb x.index i e))
        ∙ ap Some (omega (arith, e, place, is))
    by (inr e) more =
        ap (λ (c : Bool). cond c (Some k) (position_from (named n i) (k + 1) xs))
        (test false (ne_eqb x.index i e))
        ∙ more (omega (arith, l, e, place, is))
        ∙ ap Some (omega (arith, l, e, place, is))

row_missed : (n i k last : ℕ) (xs : List Shown) → AreOf n xs → is_row last xs ≡ true →
    (i ≤ last → length xs + i ≤ last) → position_from (named n i) k xs ≡ None
row_missed n i k last [] are r far = refl
row_missed n i k last (x ∷ xs) are r far =
    ap (λ (c : Bool). cond c (Some k) (position_from (named n i) (k + 1) xs))
    (ap (λ (b : Bool). b && (x.index == i)) (eq-eqb x.number n are.0)
    ∙ ne_eqb x.index i (λ e. let f = far (omega (arith, e, place)) in omega (arith, e, place, f)))
    ∙ row_missed n i (k + 1) last xs are.1 both.1 (λ l. let f = far l in omega (arith, f))
  where
    both : ((x.index + length xs == last) ≡ true) × (is_row last xs ≡ true)
    both = and_parts (x.index + length xs == last) (is_row last xs) r

    place : x.index + length xs ≡ last
    place = eqb-true (x.index + length xs) last both.0

-- positions are told apart while fewer than 2^16 pages are pending
far_back : (s end o p b : ℕ) → s < 2 ^ 16 → end ≡ wrapped (s + (o + p)) → b ≤ p → o + p < 2 ^ 16 →
    back (back end b) s ≡ o + (p - b)
far_back s end o p b small is l few = omega (arith, small, is, l, few)

-- in a group whose indexes rise by one, the place is computed
pub straight_place : (s i : ℕ) (g : GroupAt) (xs : List Shown) → Stands s g xs → s < 2 ^ 16 → length xs < 2 ^ 16 →
    is_straight g ≡ true → place_of g s i ≡ position_from (named g.number i) 0 xs
straight_place s i g xs st small few is = by (cases_lt g.last i) (cases_lt (g.last - i) g.pages)
    ∙ sym (stands_at s i g xs st)
  where
    many : length st.run ≡ g.pages
    many = st.is_run.many

    row : is_row g.last st.run ≡ true
    row = st.is_run.row 0 ∙ le-leb (length st.run) (g.row + 0)
        (let l = leb-true g.pages g.row is in omega (arith, many, l))

    room : length st.before + g.pages < 2 ^ 16
    room = let l = stands_within s g xs st in omega (arith, l, few)

    by : (g.last < i) ⊎ (i ≤ g.last) → (g.last - i < g.pages) ⊎ (g.pages ≤ g.last - i) →
        place_of g s i ≡ position_from (named g.number i) (length st.before) st.run
    by (inl l) m =
        ap (λ (b : Bool). cond (b && nat_lt (g.last - i) g.pages) (Some (back (back g.end (g.last - i + 1)) s)) None)
        (lt-leb i g.last l)
        ∙ sym (row_missed g.number i (length st.before) g.last st.run st.is_run.of_group row
        (λ n. absurd (omega (arith, l, n))))
    by (inr l) (inl m) =
        ap (λ (b : Bool). cond (b && nat_lt (g.last - i) g.pages) (Some (back (back g.end (g.last - i + 1)) s)) None)
        (le-leb i g.last l)
        ∙ ap (λ (b : Bool). cond b (Some (back (back g.end (g.last - i + 1)) s)) None)
        (lt-ltb (g.last - i) g.pages m)
        ∙ ap Some (far_back s g.end (length st.before) g.pages (g.last - i + 1) small st.place (omega (arith, m)) room
        ∙ ap (λ (n : ℕ). length st.before + (n - (g.last - i + 1))) (sym many))
        ∙ sym (row_found g.number i (length st.before) g.last (g.last - i) st.run st.is_run.of_group row
        (omega (arith, l)) (omega (arith, m, many)))
    by (inr l) (inr m) =
        ap (λ (b : Bool). cond (b && nat_lt (g.last - i) g.pages) (Some (back (back g.end (g.last - i + 1)) s)) None)
        (le-leb i g.last l)
        ∙ ap (λ (b : Bool). cond b (Some (back (back g.end (g.last - i + 1)) s)) None)
        (le-ltb (g.last - i) g.pages m)
        ∙ sym (row_missed g.number i (length st.before) g.last st.run st.is_run.of_group row
        (λ n. omega (arith, l, m, many)))

-- Among the pages of the group

pub first_place : (s : ℕ) (g : GroupAt) (xs : List Shown) (st : Stands s g xs) → s < 2 ^ 16 → length xs < 2 ^ 16 →
    back (back g.end g.pages) s ≡ length st.before
first_place s g xs st small few =
    far_back s g.end (length st.before) g.pages g.pages small st.place (omega arith)
    (let l = stands_within s g xs st in omega (arith, l, few))
    ∙ omega arith

-- the pages from the first place on, as many as the group has, are the group
run_cut : (n m : ℕ) (before run behind : List Shown) → n ≡ length before → m ≡ length run →
    take m (drop n (before ++ (run ++ behind))) ≡ run
run_cut n m before run behind e f =
    ap (λ (k : ℕ). take m (drop k (before ++ (run ++ behind)))) e
    ∙ ap (take m) (drop-append_seam before (run ++ behind))
    ∙ ap (λ (k : ℕ). take k (run ++ behind)) f
    ∙ take-append_seam run behind

pub searched : (s i first : ℕ) (g : GroupAt) (ps : List Pending) → Stands s g (map shown ps) → s < 2 ^ 16 →
    length (map shown ps) < 2 ^ 16 → first ≡ back (back g.end g.pages) s →
    position_from (is_named g.number i) first (take g.pages (drop first ps))
    ≡ position_from (named g.number i) 0 (map shown ps)
searched s i first g ps st small few is =
    shown_places g.number i first (take g.pages (drop first ps))
    ∙ ap (position_from (named g.number i) first)
    (sym (take-map shown g.pages (drop first ps)) ∙ ap (take g.pages) (sym (drop-map shown first ps))
    ∙ ap (λ (ys : List Shown). take g.pages (drop first ys)) st.whole
    ∙ run_cut first g.pages st.before st.run st.behind at (sym st.is_run.many))
    ∙ ap (λ (m : ℕ). position_from (named g.number i) m st.run) at
    ∙ sym (stands_at s i g (map shown ps) st)
  where
    at : first ≡ length st.before
    at = is ∙ first_place s g (map shown ps) st small few

-- what the search of a queue finds
pub found_at : (n i : ℕ) (ps : List Pending) →
    position (is_named n i) ps ≡ position_from (named n i) 0 (map shown ps)
found_at n i ps = position_from-zero (is_named n i) ps ∙ shown_places n i 0 ps

-- One page further

get_drop : (j m k : ℕ) (ps : List Pending) (p : Pending) → j ≡ m + k → slice_get ps j ≡ Some p →
    slice_get (drop m ps) k ≡ Some p
get_drop j m k [] p is e = absurd (none-some p e)
get_drop j zero k (x ∷ ps) p is e = ap (slice_get (x ∷ ps)) (omega (arith, is)) ∙ e
get_drop zero (suc m) k (x ∷ ps) p is e = absurd (omega (arith, is))
get_drop (suc j) (suc m) k (x ∷ ps) p is e = get_drop j m k ps p (omega (arith, is)) e

drop_there : (k : ℕ) (ps : List Pending) (p : Pending) → slice_get ps k ≡ Some p → drop k ps ≡ p ∷ drop (suc k) ps
drop_there k [] p e = absurd (none-some p e)
drop_there zero (x ∷ ps) p e = ap (λ (y : Pending). y ∷ ps) (same_Some x p e)
drop_there (suc k) (x ∷ ps) p e = drop_there k ps p e

-- the next of so many pages from a place on
pub next_page : (first many k : ℕ) (ps : List Pending) (p : Pending) → k < many → slice_get ps (first + k) ≡ Some p →
    drop k (take many (drop first ps)) ≡ p ∷ drop (k + 1) (take many (drop first ps))
next_page first many k ps p l e =
    drop_there k (take many (drop first ps)) p
    (take_get many (drop first ps) k p l (get_drop (first + k) first k ps p refl e))
    ∙ ap (λ (m : ℕ). p ∷ drop m (take many (drop first ps))) one
  where
    one : suc k ≡ k + 1
    one = omega arith
