-- Which places of a queue are in, by their slots.
use Rattle.std.proofs.Common.{◌≡◌, ◌∙◌, ◌⊎◌, ℕ, ◌+◌, ◌-◌, ◌<◌, ◌≤◌, ◌&&◌, Bool, false, Option, Some, None}
use Rattle.std.proofs.Common.{ap, arith, refl, sym, subst, inl, inr, if◌then◌else◌, List, [], ◌∷◌, ◌++◌, drop, take}
use Rattle.std.proofs.Common.{length, length-append, length-drop, length-take, replicate}
use Rattle.std.specs.Prelude.{nat_lt, slice_set}
use Rattle.std.proofs.lemmas.Bool.{cases_eq, cases_lt, lt-ltb}
use Rattle.std.proofs.lemmas.List.{append-nil}
use Rattle.word_set.specs.Flags.{first_passing, is_set, passes, tells}
use Rattle.word_set.specs.QueueRooms.{slot_of}
use Rattle.word_set.specs.Tests.{IsFirst, IsFirstFrom, changed}
use Rattle.word_set.proofs.Flags.{changed_other, changed_there, first_is, first_told, ge-ltb, get_behind, get_front}
use Rattle.word_set.proofs.Flags.{get_take, passes_drop, passes_past, passes_set, passes_shifted, same_flags}
use Rattle.word_set.proofs.Flags.{set_length}

-- Slots

slot_front : (size first k : ℕ) → k < size - first → slot_of size first k ≡ first + k
slot_front size first k l =
    ap (λ (b : Bool). if b then first + k else k - (size - first)) (lt-ltb k (size - first) l)

slot_behind : (size first k : ℕ) → size - first ≤ k → slot_of size first k ≡ k - (size - first)
slot_behind size first k l =
    ap (λ (b : Bool). if b then first + k else k - (size - first)) (ge-ltb k (size - first) l)

-- two places have different slots
same_slot : (size first k p : ℕ) → first < size → k < size → p < size →
    slot_of size first k ≡ slot_of size first p → k ≡ p
same_slot size first k p l u v e = by (cases_lt k (size - first)) (cases_lt p (size - first))
  where
    by : (k < size - first) ⊎ (size - first ≤ k) → (p < size - first) ⊎ (size - first ≤ p) → k ≡ p
    by (inl m) (inl n) =
        let f : first + k ≡ first + p = sym (slot_front size first k m) ∙ e ∙ slot_front size first p n in omega arith
    by (inl m) (inr n) =
        let f : first + k ≡ p - (size - first) =
        sym (slot_front size first k m) ∙ e ∙ slot_behind size first p n in omega arith
    by (inr m) (inl n) =
        let f : k - (size - first) ≡ first + p =
        sym (slot_behind size first k m) ∙ e ∙ slot_front size first p n in omega arith
    by (inr m) (inr n) =
        let f : k - (size - first) ≡ p - (size - first) =
        sym (slot_behind size first k m) ∙ e ∙ slot_behind size first p n in omega arith

-- Places

-- how many slots there are, and which of them have a place that is in
pub record Slots : Type 0 where
  pub size : ℕ
  pub has : ℕ → Bool

-- the place is in, by the slots
abbrev pub has_place : Slots → (first : ℕ) → ℕ → Bool
has_place s first place = nat_lt place s.size && s.has (slot_of s.size first place)

there : (s : Slots) (first k : ℕ) → k < s.size → has_place s first k ≡ s.has (slot_of s.size first k)
there s first k l = ap (λ (b : Bool). b && s.has (slot_of s.size first k)) (lt-ltb k s.size l)

past : (s : Slots) (first k : ℕ) → s.size ≤ k → has_place s first k ≡ false
past s first k u = ap (λ (b : Bool). b && s.has (slot_of s.size first k)) (ge-ltb k s.size u)

-- a place is in or not from now on
place_changed : (s : Slots) (first place : ℕ) (b : Bool) → first < s.size → place < s.size → (k : ℕ) →
    has_place (record s { has = changed s.has (slot_of s.size first place) b }) first k
    ≡ changed (has_place s first) place b k
place_changed s first place b l m k = by (cases_lt k s.size)
  where
    inside : k < s.size → (k ≡ place) ⊎ (k ≡ place → ⊥) →
        changed s.has (slot_of s.size first place) b (slot_of s.size first k) ≡ changed (has_place s first) place b k
    inside u (inl e) =
        changed_there s.has (slot_of s.size first place) (slot_of s.size first k) b (ap (slot_of s.size first) e)
        ∙ sym (changed_there (has_place s first) place k b e)
    inside u (inr apart) =
        changed_other s.has (slot_of s.size first place) (slot_of s.size first k) b
        (λ e. apart (same_slot s.size first k place l u m e))
        ∙ sym (there s first k u)
        ∙ sym (changed_other (has_place s first) place k b apart)

    by : (k < s.size) ⊎ (s.size ≤ k) →
        has_place (record s { has = changed s.has (slot_of s.size first place) b }) first k
        ≡ changed (has_place s first) place b k
    by (inl u) =
        there (record s { has = changed s.has (slot_of s.size first place) b }) first k u
        ∙ inside u (cases_eq k place)
    by (inr u) =
        past (record s { has = changed s.has (slot_of s.size first place) b }) first k u
        ∙ sym (past s first k u)
        ∙ sym (changed_other (has_place s first) place k b (λ e. omega arith))

-- the first place leaves
place_passed : (s : Slots) (first next : ℕ) → first < s.size →
    ((first + 1 < s.size) × (next ≡ first + 1)) ⊎ ((s.size ≤ first + 1) × (next ≡ 0)) → (k : ℕ) →
    has_place (record s { has = changed s.has first false }) next k ≡ has_place s first (k + 1)
place_passed s first next l is k = by (cases_lt k s.size) (cases_lt (k + 1) s.size)
  where
    t : Slots
    t = record s { has = changed s.has first false }

    next_slot : k + 1 < s.size → ((first + 1 < s.size) × (next ≡ first + 1)) ⊎ ((s.size ≤ first + 1) × (next ≡ 0)) →
        (k + 1 < s.size - first) ⊎ (s.size - first ≤ k + 1) → slot_of s.size next k ≡ slot_of s.size first (k + 1)
    next_slot u (inl e) (inl m) =
        let f = e.1 in
        slot_front s.size next k (omega arith) ∙ let g : next + k ≡ first + (k + 1) = omega arith in g
        ∙ sym (slot_front s.size first (k + 1) m)
    next_slot u (inl e) (inr m) =
        let f = e.1 in
        let d = e.0 in
        slot_behind s.size next k (omega arith)
        ∙ let g : k - (s.size - next) ≡ (k + 1) - (s.size - first) = omega arith in g
        ∙ sym (slot_behind s.size first (k + 1) m)
    next_slot u (inr e) (inl m) = absurd (let d = e.0 in omega arith)
    next_slot u (inr e) (inr m) =
        let f = e.1 in
        let d = e.0 in
        slot_front s.size next k (omega arith)
        ∙ let g : next + k ≡ (k + 1) - (s.size - first) = omega arith in g
        ∙ sym (slot_behind s.size first (k + 1) m)

    apart : k + 1 < s.size → (k + 1 < s.size - first) ⊎ (s.size - first ≤ k + 1) →
        slot_of s.size first (k + 1) ≡ first → ⊥
    apart u (inl m) e =
        let g : first + (k + 1) ≡ first = sym (slot_front s.size first (k + 1) m) ∙ e in omega arith
    apart u (inr m) e =
        let g : (k + 1) - (s.size - first) ≡ first = sym (slot_behind s.size first (k + 1) m) ∙ e in omega arith

    last_slot : s.size ≤ k + 1 → k < s.size →
        ((first + 1 < s.size) × (next ≡ first + 1)) ⊎ ((s.size ≤ first + 1) × (next ≡ 0)) →
        slot_of s.size next k ≡ first
    last_slot u m (inl e) =
        let f = e.1 in
        let d = e.0 in
        slot_behind s.size next k (omega arith) ∙ let g : k - (s.size - next) ≡ first = omega arith in g
    last_slot u m (inr e) =
        let f = e.1 in
        let d = e.0 in
        slot_front s.size next k (omega arith) ∙ let g : next + k ≡ first = omega arith in g

    by : (k < s.size) ⊎ (s.size ≤ k) → (k + 1 < s.size) ⊎ (s.size ≤ k + 1) →
        has_place t next k ≡ has_place s first (k + 1)
    by (inl m) (inl u) =
        there t next k m
        ∙ ap (changed s.has first false) (next_slot u is (cases_lt (k + 1) (s.size - first)))
        ∙ changed_other s.has first (slot_of s.size first (k + 1)) false
        (apart u (cases_lt (k + 1) (s.size - first)))
        ∙ sym (there s first (k + 1) u)
    by (inl m) (inr u) =
        there t next k m
        ∙ changed_there s.has first (slot_of s.size next k) false (last_slot u m is)
        ∙ sym (past s first (k + 1) u)
    by (inr m) (inl u) = absurd (omega arith)
    by (inr m) (inr u) = past t next k m ∙ sym (past s first (k + 1) u)

-- The first place that is in

-- none is in up to the last slot
abbrev pub NoneInFront : Slots → (first at : ℕ) → Type 0
NoneInFront s first at = (j : ℕ) → at ≤ j → j < s.size - first → s.has (first + j) ≡ false

pub front_found : (s : Slots) (first at slot : ℕ) → first < s.size → at < s.size - first →
    IsFirst s.has (first + at) slot → slot < s.size → IsFirst (has_place s first) at (slot - first)
front_found s first at slot l m found less = record {
  behind = let u = found.behind in omega arith;
  passes = let u = found.behind in
      there s first (slot - first) (omega arith)
      ∙ ap s.has (slot_front s.size first (slot - first) (omega arith))
      ∙ ap s.has (let g : first + (slot - first) ≡ slot = omega arith in g)
      ∙ found.passes;
  before = λ j u n.
      there s first j (omega arith)
      ∙ ap s.has (slot_front s.size first j (omega arith))
      ∙ found.before (first + j) (omega arith) (omega arith);
}

pub front_none : (s : Slots) (first at : ℕ) → ((j : ℕ) → first + at ≤ j → s.has j ≡ false) →
    NoneInFront s first at
front_none s first at none j u n = none (first + j) (omega arith)

pub front_past : (s : Slots) (first at : ℕ) → s.size - first ≤ at → NoneInFront s first at
front_past s first at past j u n = absurd (omega arith)

before_slot : (s : Slots) (first at end : ℕ) → first < s.size → NoneInFront s first at → end ≤ first →
    ((j : ℕ) → at - (s.size - first) ≤ j → j < end → s.has j ≡ false) → (j : ℕ) → at ≤ j →
    j < end + (s.size - first) → has_place s first j ≡ false
before_slot s first at end l front less none j u n = by (cases_lt j (s.size - first))
  where
    by : (j < s.size - first) ⊎ (s.size - first ≤ j) → has_place s first j ≡ false
    by (inl m) =
        there s first j (omega arith) ∙ ap s.has (slot_front s.size first j m) ∙ front j u m
    by (inr m) =
        there s first j (omega arith)
        ∙ ap s.has (slot_behind s.size first j m)
        ∙ none (j - (s.size - first)) (omega arith) (omega arith)

pub behind_found : (s : Slots) (first at slot : ℕ) → first < s.size → NoneInFront s first at →
    IsFirst s.has (at - (s.size - first)) slot → slot < first →
    IsFirst (has_place s first) at (slot + (s.size - first))
behind_found s first at slot l front found less = record {
  behind = let u = found.behind in omega arith;
  passes =
      there s first (slot + (s.size - first)) (omega arith)
      ∙ ap s.has (slot_behind s.size first (slot + (s.size - first)) (omega arith))
      ∙ ap s.has (let g : (slot + (s.size - first)) - (s.size - first) ≡ slot = omega arith in g)
      ∙ found.passes;
  before = λ j u n. before_slot s first at slot l front (omega arith) found.before j u n;
}

pub behind_none : (s : Slots) (first at : ℕ) → first < s.size → NoneInFront s first at →
    ((j : ℕ) → at - (s.size - first) ≤ j → j < first → s.has j ≡ false) →
    (j : ℕ) → at ≤ j → has_place s first j ≡ false
behind_none s first at l front none j u = by (cases_lt j s.size)
  where
    by : (j < s.size) ⊎ (s.size ≤ j) → has_place s first j ≡ false
    by (inl m) = before_slot s first at first l front (omega arith) none j u (omega arith)
    by (inr m) = past s first j m

-- As contracts see them

abbrev pub slots_of : List Bool → Slots
slots_of xs = record { size = length xs; has = passes is_set xs }

-- the slots from that of the first place on, and then those before it
abbrev pub turned : ℕ → List Bool → List Bool
turned first xs = drop first xs ++ take first xs

turned_length : (first : ℕ) (xs : List Bool) → first < length xs → length (turned first xs) ≡ length xs
turned_length first xs l =
    let a = length-append (drop first xs) (take first xs) in
    let d = length-drop first xs in
    let t = length-take first xs in
    omega arith

turned_passes : (first : ℕ) (xs : List Bool) → first < length xs → (k : ℕ) →
    passes is_set (turned first xs) k ≡ has_place (slots_of xs) first k
turned_passes first xs l k = by (cases_lt k (length xs)) (cases_lt k (length xs - first))
  where
    by : (k < length xs) ⊎ (length xs ≤ k) → (k < length xs - first) ⊎ (length xs - first ≤ k) →
        passes is_set (turned first xs) k ≡ has_place (slots_of xs) first k
    by (inl u) (inl m) =
        ap (tells is_set)
        (get_front (drop first xs) (take first xs) k (let d = length-drop first xs in omega arith))
        ∙ passes_drop is_set first xs k (first + k) refl
        ∙ sym (ap (passes is_set xs) (slot_front (length xs) first k m))
        ∙ sym (there (slots_of xs) first k u)
    by (inl u) (inr m) =
        ap (tells is_set)
        (get_behind (drop first xs) (take first xs) (k - (length xs - first)) k
        (let d = length-drop first xs in omega arith)
        ∙ get_take first xs (k - (length xs - first)) (omega arith))
        ∙ sym (ap (passes is_set xs) (slot_behind (length xs) first k m))
        ∙ sym (there (slots_of xs) first k u)
    by (inr u) m =
        passes_past is_set (turned first xs) k (let e = turned_length first xs l in omega arith)
        ∙ sym (past (slots_of xs) first k u)

pub new_places : (size : ℕ) (xs : List Bool) → xs ≡ replicate size false → turned 0 xs ≡ replicate size false
new_places size xs e = append-nil xs ∙ e

-- a place is in or not from now on
pub places_changed : (first place slot : ℕ) (b : Bool) (xs ys v : List Bool) → first < length xs → place < length v →
    turned first xs ≡ v → slot ≡ slot_of (length xs) first place → slot < length xs → ys ≡ slice_set xs slot b →
    turned first ys ≡ slice_set v place b
places_changed first place slot b xs ys v l m same at less is =
    same_flags (turned first ys) (slice_set v place b)
    (turned_length first ys inside ∙ long ∙ sym (set_length v place b ∙ v_long)) (λ k.
    turned_passes first ys inside k
    ∙ (λ i. has_place (changed_slots i) first k)
    ∙ place_changed (slots_of xs) first place b l (subst (λ (n : ℕ). place < n) v_long m) k
    ∙ sym (ap (λ (f : ℕ → Bool). changed f place b k) (λ i j. turned_passes first xs l j i))
    ∙ ap (λ (zs : List Bool). changed (passes is_set zs) place b k) same
    ∙ sym (passes_set is_set v place b m k))
  where
    long : length ys ≡ length xs
    long = ap (λ (zs : List Bool). length zs) is ∙ set_length xs slot b

    v_long : length v ≡ length xs
    v_long = sym (ap (λ (zs : List Bool). length zs) same) ∙ turned_length first xs l

    inside : first < length ys
    inside = subst (λ (n : ℕ). first < n) (sym long) l

    changed_slots : slots_of ys ≡ record (slots_of xs) {
      has = changed (passes is_set xs) (slot_of (length xs) first place) b;
    }
    changed_slots i = record {
      size = long i;
      has = (ap (λ (zs : List Bool). passes is_set zs) is
          ∙ (λ h j. passes_set is_set xs slot b less j h)
          ∙ ap (λ (n : ℕ). changed (passes is_set xs) n b) at) i;
    }

-- the first place leaves
pub places_passed : (first next : ℕ) (xs ys v : List Bool) → first < length xs →
    ((first + 1 < length xs) × (next ≡ first + 1)) ⊎ ((length xs ≤ first + 1) × (next ≡ 0)) → turned first xs ≡ v →
    ys ≡ slice_set xs first false → turned next ys ≡ drop 1 v ++ false ∷ []
places_passed first next xs ys v l next_is same is =
    same_flags (turned next ys) (drop 1 v ++ false ∷ [])
    (turned_length next ys inside ∙ long ∙ sym v_long ∙ as_long v (subst (λ (n : ℕ). first < n) (sym v_long) l)) (λ k.
    turned_passes next ys inside k
    ∙ (λ i. has_place (changed_slots i) next k)
    ∙ place_passed (slots_of xs) first next l next_is k
    ∙ sym (turned_passes first xs l (k + 1))
    ∙ ap (λ (zs : List Bool). passes is_set zs (k + 1)) same
    ∙ sym (passes_shifted v k))
  where
    long : length ys ≡ length xs
    long = ap (λ (zs : List Bool). length zs) is ∙ set_length xs first false

    v_long : length v ≡ length xs
    v_long = sym (ap (λ (zs : List Bool). length zs) same) ∙ turned_length first xs l

    as_long : (v : List Bool) → first < length v → length v ≡ length (drop 1 v ++ false ∷ [])
    as_long v l =
        let a = length-append (drop 1 v) (false ∷ []) in
        let d = length-drop 1 v in
        omega arith

    inside : next < length ys
    inside = subst (λ (n : ℕ). next < n) (sym long) (by next_is)
      where
        by : ((first + 1 < length xs) × (next ≡ first + 1)) ⊎ ((length xs ≤ first + 1) × (next ≡ 0)) →
            next < length xs
        by (inl e) = let f = e.0 in let g = e.1 in omega arith
        by (inr e) = let g = e.1 in omega arith

    changed_slots : slots_of ys ≡ record (slots_of xs) { has = changed (passes is_set xs) first false }
    changed_slots i = record {
      size = long i;
      has = (ap (λ (zs : List Bool). passes is_set zs) is ∙ (λ h j. passes_set is_set xs first false l j h)) i;
    }

-- what is found of the places is the first
pub place_is : (first at : ℕ) (xs v : List Bool) (o : Option ℕ) → first < length xs → turned first xs ≡ v →
    IsFirstFrom (has_place (slots_of xs) first) at o → o ≡ first_passing is_set at v
place_is first at xs v o l same found =
    first_is is_set v at o
    (subst (λ (zs : List Bool). IsFirstFrom (passes is_set zs) at o) same
    (subst (λ (f : ℕ → Bool). IsFirstFrom f at o) (λ i k. sym (turned_passes first xs l k) i) found))

-- and so it is behind the last slot, where none is in up to it
pub none_behind : (first at from : ℕ) (xs v : List Bool) → first < length xs → turned first xs ≡ v →
    NoneInFront (slots_of xs) first at → from ≡ at - (length xs - first) → None ≡ first_passing is_set from xs →
    None ≡ first_passing is_set at v
none_behind first at from xs v l same front is none =
    place_is first at xs v None l same
    (behind_none (slots_of xs) first at l front (λ j u m. first_told is_set xs from None none j (omega arith)))

pub some_behind : (first at from slot : ℕ) (xs v : List Bool) → first < length xs → turned first xs ≡ v →
    NoneInFront (slots_of xs) first at → from ≡ at - (length xs - first) → Some slot ≡ first_passing is_set from xs →
    slot < first → Some (slot + (length xs - first)) ≡ first_passing is_set at v
some_behind first at from slot xs v l same front is some less =
    place_is first at xs v (Some (slot + (length xs - first))) l same
    (behind_found (slots_of xs) first at slot l front
    (subst (λ (n : ℕ). IsFirst (passes is_set xs) n slot) is (first_told is_set xs from (Some slot) some)) less)

pub other_behind : (first at from slot : ℕ) (xs v : List Bool) → first < length xs → turned first xs ≡ v →
    NoneInFront (slots_of xs) first at → from ≡ at - (length xs - first) → Some slot ≡ first_passing is_set from xs →
    first ≤ slot → None ≡ first_passing is_set at v
other_behind first at from slot xs v l same front is some past =
    place_is first at xs v None l same
    (behind_none (slots_of xs) first at l front (λ j u m.
    (first_told is_set xs from (Some slot) some).before j (omega arith) (omega arith)))

pub some_in_front : (first at slot : ℕ) (xs v : List Bool) → first < length xs → turned first xs ≡ v →
    at < length xs - first → Some slot ≡ first_passing is_set (first + at) xs → slot < length xs →
    Some (slot - first) ≡ first_passing is_set at v
some_in_front first at slot xs v l same m some less =
    place_is first at xs v (Some (slot - first)) l same
    (front_found (slots_of xs) first at slot l m (first_told is_set xs (first + at) (Some slot) some) less)

pub none_in_front : (first at : ℕ) (xs : List Bool) → None ≡ first_passing is_set (first + at) xs →
    NoneInFront (slots_of xs) first at
none_in_front first at xs none =
    front_none (slots_of xs) first at (first_told is_set xs (first + at) None none)
