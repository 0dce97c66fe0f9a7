-- Where the last page of each key stands, and what the table of positions tells of it.
use Rattle.write_cache.proofs.Common.{Bool, List, None, Numbers, Option, Pending, Some, [], ap, arith, cond, false, inl}
use Rattle.write_cache.proofs.Common.{inr, length, length-map, map, map-append, none-some, option_and_then, position}
use Rattle.write_cache.proofs.Common.{position_told, refl, replicate, same_Some, set_length, slice_get, slice_get-map}
use Rattle.write_cache.proofs.Common.{slice_get_within, suc, sym, true, wrapped, zero, ℕ, ◌++◌, ◌+◌, ◌-◌, ◌<◌, ◌^◌, ◌∙◌}
use Rattle.write_cache.proofs.Common.{◌∷◌, ◌≡◌, ◌≢◌, ◌⊎◌}
use Rattle.std.proofs.Common.{option_map, reverse}
use Rattle.std.proofs.lemmas.List.{length-replicate, length-reverse, reverse-append}
use Rattle.geometry.specs.Keys.{index_of, key_total}
use Rattle.geometry.proofs.KeyIndexes.{index_below, one_key}
use Rattle.ufs_spec.proofs.Equalities.{key_cases}
use Rattle.ufs_spec.proofs.Lists.{position_behind, position_here, set_here, set_other}
use Rattle.ufs_spec.specs.Keys.{same_key}
use Rattle.ufs_spec.specs.Plain.{shape_of_numbers}
use Rattle.ufs_spec.specs.declared.flash.Key.{Key}
use Rattle.write_cache.specs.declared.pages.newest.Newest.{Newest}
use Rattle.write_cache.specs.Newest.{IsNewest, index_in, page_if, place_noted, positions_noted}
use Rattle.write_cache.specs.Ring.{back}
use Rattle.write_cache.specs.Slots.{is_page_of, last_of, last_page}

-- The last of some keys

abbrev pub key_of : Pending → Key
key_of p = p.key

-- one place further where one was found behind, else this one, if it passes
abbrev later : Option ℕ → Bool → Option ℕ
later None b = cond b (Some 0) None
later (Some j) b = Some (suc j)

-- where the last of the keys stands that is this one
abbrev last_in : Key → List Key → Option ℕ
last_in k [] = None
last_in k (x ∷ xs) = later (last_in k xs) (same_key x k)

abbrev or_else : Option ℕ → Option ℕ → Option ℕ
or_else None o = o
or_else (Some j) o = Some j

one_further : (o p : Option ℕ) → option_map suc (or_else o p) ≡ or_else (option_map suc o) (option_map suc p)
one_further None p = refl
one_further (Some j) p = refl

test_further : (b : Bool) (n : ℕ) → option_map suc (cond b (Some n) None) ≡ cond b (Some (suc n)) None
test_further true n = refl
test_further false n = refl

-- the first that passes, with one element more at the end
position_grown : {A : Type 0} (f : A → Bool) (xs : List A) (y : A) →
    position f (xs ++ y ∷ []) ≡ or_else (position f xs) (cond (f y) (Some (length xs)) None)
position_grown f [] y = by (f y) refl
  where
    by : (b : Bool) → f y ≡ b → position f (y ∷ []) ≡ cond b (Some 0) None
    by true e = position_here f y [] e
    by false e = position_behind f y [] e
position_grown f (x ∷ xs) y = by (f x) refl (position_grown f xs y)
  where
    by : (b : Bool) → f x ≡ b →
        position f (xs ++ y ∷ []) ≡ or_else (position f xs) (cond (f y) (Some (length xs)) None) →
        position f (x ∷ xs ++ y ∷ []) ≡ or_else (position f (x ∷ xs)) (cond (f y) (Some (suc (length xs))) None)
    by true e more =
        position_here f x (xs ++ y ∷ []) e
        ∙ sym (ap (λ (o : Option ℕ). or_else o (cond (f y) (Some (suc (length xs))) None)) (position_here f x xs e))
    by false e more =
        position_behind f x (xs ++ y ∷ []) e
        ∙ ap (λ (o : Option ℕ). option_map suc o) more
        ∙ one_further (position f xs) (cond (f y) (Some (length xs)) None)
        ∙ ap (or_else (option_map suc (position f xs))) (test_further (f y) (length xs))
        ∙ sym (ap (λ (o : Option ℕ). or_else o (cond (f y) (Some (suc (length xs))) None)) (position_behind f x xs e))

-- the last page of a key is that of the last such key
last_is : (k : Key) (ps : List Pending) → last_of k ps ≡ last_in k (map key_of ps)
last_is k [] = refl
last_is k (p ∷ ps) =
    ap (λ (qs : List Pending). option_map (λ (behind : ℕ). suc (length ps) - 1 - behind) (position (is_page_of k) qs))
    (reverse-append (p ∷ []) ps)
    ∙ ap (λ (o : Option ℕ). option_map (λ (behind : ℕ). suc (length ps) - 1 - behind) o)
    (position_grown (is_page_of k) (reverse ps) p)
    ∙ by (position (is_page_of k) (reverse ps)) refl (is_page_of k p)
    ∙ ap (λ (o : Option ℕ). later o (is_page_of k p)) (last_is k ps)
  where
    by : (o : Option ℕ) → position (is_page_of k) (reverse ps) ≡ o → (b : Bool) →
        option_map (λ (behind : ℕ). suc (length ps) - 1 - behind) (or_else o (cond b (Some (length (reverse ps))) None))
        ≡ later (option_map (λ (behind : ℕ). length ps - 1 - behind) o) b
    by None e true = ap Some (let long = length-reverse ps in omega (arith, long))
    by None e false = refl
    by (Some i) e b =
        let told = position_told (is_page_of k) (reverse ps) i e in
        let within = slice_get_within (reverse ps) i told.0 told.1 in
        let long = length-reverse ps in
        ap Some (omega (arith, within, long))

in_grown : (k x : Key) (xs : List Key) →
    last_in k (xs ++ x ∷ []) ≡ cond (same_key x k) (Some (length xs)) (last_in k xs)
in_grown k x [] = refl
in_grown k x (y ∷ xs) =
    ap (λ (o : Option ℕ). later o (same_key y k)) (in_grown k x xs) ∙ by (same_key x k) (last_in k xs)
  where
    by : (b : Bool) (o : Option ℕ) → later (cond b (Some (length xs)) o) (same_key y k)
        ≡ cond b (Some (suc (length xs))) (later o (same_key y k))
    by true o = refl
    by false o = refl

-- what stands there
in_told : (k : Key) (xs : List Key) (j : ℕ) → last_in k xs ≡ Some j →
    (x : Key) × (slice_get xs j ≡ Some x) × (same_key x k ≡ true)
in_told k [] j e = absurd (none-some j e)
in_told k (y ∷ xs) j e = by (last_in k xs) refl (same_key y k) refl e (λ i f. in_told k xs i f)
  where
    by : (o : Option ℕ) → last_in k xs ≡ o → (b : Bool) → same_key y k ≡ b → later o b ≡ Some j →
        ((i : ℕ) → last_in k xs ≡ Some i → (x : Key) × (slice_get xs i ≡ Some x) × (same_key x k ≡ true)) →
        (x : Key) × (slice_get (y ∷ xs) j ≡ Some x) × (same_key x k ≡ true)
    by None f true s h more = (y, ap (slice_get (y ∷ xs)) (sym (same_Some 0 j h)), s)
    by None f false s h more = absurd (none-some j h)
    by (Some i) f b s h more =
        let r = more i f in (r.0, ap (slice_get (y ∷ xs)) (sym (same_Some (suc i) j h)) ∙ r.1, r.2)

none_later : (o : Option ℕ) (b : Bool) → later o b ≡ None → (o ≡ None) × (b ≡ false)
none_later None true h = absurd (none-some 0 (sym h))
none_later None false h = (refl, refl)
none_later (Some i) b h = absurd (none-some (suc i) (sym h))

-- and where there is none, no key is this one
in_none : (k : Key) (xs : List Key) → last_in k xs ≡ None → (j : ℕ) (x : Key) → slice_get xs j ≡ Some x →
    same_key x k ≡ false
in_none k [] e j x h = absurd (none-some x h)
in_none k (y ∷ xs) e zero x h =
    ap (λ (z : Key). same_key z k) (sym (same_Some y x h)) ∙ (none_later (last_in k xs) (same_key y k) e).1
in_none k (y ∷ xs) e (suc j) x h = in_none k xs (none_later (last_in k xs) (same_key y k) e).0 j x h

-- The last page of a key

-- it stands where it stood while no page changes its key
same_last : (k : Key) (ps qs : List Pending) → map key_of qs ≡ map key_of ps → last_of k qs ≡ last_of k ps
same_last k ps qs same = last_is k qs ∙ ap (last_in k) same ∙ sym (last_is k ps)

last_grown : (k : Key) (ps qs : List Pending) (p : Pending) → qs ≡ ps ++ p ∷ [] →
    last_of k qs ≡ cond (same_key p.key k) (Some (length (map key_of ps))) (last_of k ps)
last_grown k ps qs p all =
    ap (λ (xs : List Pending). last_of k xs) all
    ∙ last_is k (ps ++ p ∷ [])
    ∙ ap (last_in k) (map-append key_of ps (p ∷ []))
    ∙ in_grown k p.key (map key_of ps)
    ∙ ap (cond (same_key p.key k) (Some (length (map key_of ps)))) (sym (last_is k ps))

last_behind : (k : Key) (ps qs : List Pending) (p : Pending) (j : ℕ) → ps ≡ p ∷ qs → last_of k qs ≡ Some j →
    last_of k ps ≡ Some (suc j)
last_behind k ps qs p j all last =
    ap (λ (xs : List Pending). last_of k xs) all
    ∙ last_is k (p ∷ qs)
    ∙ ap (λ (o : Option ℕ). later o (same_key p.key k)) (sym (last_is k qs) ∙ last)

mapped_at : (ps : List Pending) (j : ℕ) (x : Key) → slice_get (map key_of ps) j ≡ Some x →
    (p : Pending) × (slice_get ps j ≡ Some p) × (p.key ≡ x)
mapped_at [] j x h = absurd (none-some x h)
mapped_at (p ∷ ps) zero x h = (p, refl, same_Some p.key x h)
mapped_at (p ∷ ps) (suc j) x h = mapped_at ps j x h

last_told : (k : Key) (ps : List Pending) (j : ℕ) → last_of k ps ≡ Some j →
    (p : Pending) × (slice_get ps j ≡ Some p) × (is_page_of k p ≡ true)
last_told k ps j last =
    let r = in_told k (map key_of ps) j (sym (last_is k ps) ∙ last) in
    let q = mapped_at ps j r.0 r.1 in
    (q.0, q.1, ap (λ (z : Key). same_key z k) q.2 ∙ r.2)

none_last : (k : Key) (ps : List Pending) → last_of k ps ≡ None → (j : ℕ) (p : Pending) → slice_get ps j ≡ Some p →
    is_page_of k p ≡ false
none_last k ps none j p h =
    in_none k (map key_of ps) (sym (last_is k ps) ∙ none) j p.key (slice_get-map key_of ps j ∙ ap (option_map key_of) h)

-- The table of positions

pub newest_none : (t : Newest) (n : Numbers) → t.config ≡ n →
    t.at.items ≡ replicate (key_total (shape_of_numbers n)) 0 → IsNewest t 0 []
newest_none t n same is = record {
  many = ap (λ (xs : List ℕ). length xs) is ∙ length-replicate (key_total (shape_of_numbers n)) 0
      ∙ ap (λ (m : Numbers). key_total (shape_of_numbers m)) (sym same);
  noted = λ k i j at last. absurd (none-some j last);
}

-- no page changes its key
pub newest_same : (t : Newest) (landed : ℕ) (ps qs : List Pending) → map key_of qs ≡ map key_of ps →
    IsNewest t landed ps → IsNewest t landed qs
newest_same t landed ps qs same h = record {
  many = h.many;
  noted = λ k i j at last. h.noted k i j at (sym (same_last k ps qs same) ∙ last);
}

wrapped_more : (landed j : ℕ) → wrapped (landed + suc j) ≡ wrapped (wrapped (landed + 1) + j)
wrapped_more landed j = omega arith

-- the first page leaves
pub newest_taken : (t : Newest) (landed : ℕ) (ps qs : List Pending) (p : Pending) → ps ≡ p ∷ qs →
    IsNewest t landed ps → IsNewest t (wrapped (landed + 1)) qs
newest_taken t landed ps qs p all h = record {
  many = h.many;
  noted = λ k i j at last.
      h.noted k i (suc j) at (last_behind k ps qs p j all last) ∙ ap Some (wrapped_more landed j);
}

-- the entries of this key and of any other, once this one's page is noted
module _ (n : Numbers) (at : List ℕ) (q : Key) (place : ℕ) where
  length_noted : (o : Option ℕ) → length (positions_noted at place o) ≡ length at
  length_noted None = refl
  length_noted (Some i) = set_length at i place

  noted_here : (i : ℕ) → index_of (shape_of_numbers n) q ≡ Some i → i < length at →
      slice_get (positions_noted at place (index_of (shape_of_numbers n) q)) i ≡ Some place
  noted_here i is within =
      ap (λ (o : Option ℕ). slice_get (positions_noted at place o) i) is ∙ set_here at i place within

  noted_beside : (k : Key) (i : ℕ) → index_of (shape_of_numbers n) k ≡ Some i → q ≢ k →
      slice_get (positions_noted at place (index_of (shape_of_numbers n) q)) i ≡ slice_get at i
  noted_beside k i is differ = by (index_of (shape_of_numbers n) q) refl
    where
      by : (o : Option ℕ) → index_of (shape_of_numbers n) q ≡ o →
          slice_get (positions_noted at place o) i ≡ slice_get at i
      by None e = refl
      by (Some b) e =
          set_other at b i place
          (λ (same : i ≡ b). differ (one_key (shape_of_numbers n) q k b e (is ∙ ap (λ (z : ℕ). Some z) same)))

-- a page more is the last of its key
pub newest_pushed : (t u : Newest) (landed place : ℕ) (ps qs : List Pending) (p : Pending) → IsNewest t landed ps →
    u.config ≡ t.config → u.at.items ≡ positions_noted t.at.items place (index_in t p.key) →
    place ≡ wrapped (landed + length ps) → qs ≡ ps ++ p ∷ [] → IsNewest u landed qs
newest_pushed t u landed place ps qs p h same is stands all = record {
  many = ap (λ (xs : List ℕ). length xs) is ∙ length_noted t.config t.at.items p.key place (index_in t p.key) ∙ h.many
      ∙ ap (λ (m : Numbers). key_total (shape_of_numbers m)) (sym same);
  noted = λ k i j at last.
      ap (λ (xs : List ℕ). slice_get xs i) is
      ∙ by k i j (ap (λ (m : Numbers). index_of (shape_of_numbers m) k) (sym same) ∙ at)
      (sym (last_grown k ps qs p all) ∙ last) (key_cases p.key k);
}
  where
    by : (k : Key) (i j : ℕ) → index_in t k ≡ Some i →
        cond (same_key p.key k) (Some (length (map key_of ps))) (last_of k ps) ≡ Some j →
        ((same_key p.key k ≡ true) × (p.key ≡ k)) ⊎ ((same_key p.key k ≡ false) × (p.key ≢ k)) →
        slice_get (positions_noted t.at.items place (index_in t p.key)) i ≡ Some (wrapped (landed + j))
    by k i j at last (inl own) =
        let below = index_below (shape_of_numbers t.config) k i at in
        let many = h.many in
        let long = length-map ps key_of in
        let here = same_Some (length (map key_of ps)) j
        (sym (ap (λ (b : Bool). cond b (Some (length (map key_of ps))) (last_of k ps)) own.0) ∙ last) in
        noted_here t.config t.at.items p.key place i (ap (index_of (shape_of_numbers t.config)) own.1 ∙ at)
        (omega (arith, below, many))
        ∙ ap Some (stands ∙ ap (λ (m : ℕ). wrapped (landed + m)) (omega (arith, long, here)))
    by k i j at last (inr other) =
        noted_beside t.config t.at.items p.key place k i at other.1
        ∙ h.noted k i j at
        (sym (ap (λ (b : Bool). cond b (Some (length (map key_of ps))) (last_of k ps)) other.0) ∙ last)

-- The look-up

place_back : (landed j n : ℕ) → landed < 2 ^ 16 → j < n → n < 2 ^ 16 → back (wrapped (landed + j)) landed ≡ j
place_back landed j n small within few = omega (arith, small, within, few)

-- a page of the key stands where its last one does
noted_place : (t : Newest) (landed : ℕ) (ps : List Pending) (k : Key) (at j : ℕ) → IsNewest t landed ps →
    landed < 2 ^ 16 → length ps < 2 ^ 16 → j < length ps → place_noted t landed k ≡ Some at → last_of k ps ≡ Some j →
    at ≡ j
noted_place t landed ps k at j h small few within is last = by (index_in t k) refl is
  where
    by : (o : Option ℕ) → index_in t k ≡ o →
        option_and_then (λ i. option_map (λ place. back place landed) (slice_get t.at.items i)) o ≡ Some at → at ≡ j
    by None e found = absurd (none-some at found)
    by (Some i) e found =
        sym (same_Some (back (wrapped (landed + j)) landed) at
        (sym (ap (λ (o : Option ℕ). option_map (λ place. back place landed) o) (h.noted k i j e last)) ∙ found))
        ∙ place_back landed j (length ps) small within few

-- so the page where the table points is the last of the key, or is of another one
pub newest_found : (t : Newest) (landed : ℕ) (ps : List Pending) (k : Key) (at : ℕ) → IsNewest t landed ps →
    landed < 2 ^ 16 → length ps < 2 ^ 16 → place_noted t landed k ≡ Some at →
    page_if k (slice_get ps at) ≡ last_page k ps
newest_found t landed ps k at h small few is = by (last_of k ps) refl
  where
    not_there : last_of k ps ≡ None → (o : Option Pending) → slice_get ps at ≡ o → page_if k o ≡ None
    not_there none None e = refl
    not_there none (Some p) e =
        ap (λ (b : Bool). cond b (Some p) None) (none_last k ps none at p e)

    by : (o : Option ℕ) → last_of k ps ≡ o → page_if k (slice_get ps at) ≡ option_and_then (slice_get ps) o
    by None e = not_there e (slice_get ps at) refl
    by (Some j) e =
        let told = last_told k ps j e in
        let here = noted_place t landed ps k at j h small few (slice_get_within ps j told.0 told.1) is e in
        ap (λ (m : ℕ). page_if k (slice_get ps m)) here
        ∙ ap (page_if k) told.1
        ∙ ap (λ (b : Bool). cond b (Some told.0) None) told.2
        ∙ sym told.1
