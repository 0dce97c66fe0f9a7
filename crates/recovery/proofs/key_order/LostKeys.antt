-- The keys with a lost page: the first pages mark them, one page more marks its key or none, and the marked keys in the
-- order of their indexes are those with a lost page.
use Rattle.recovery.proofs.Common.{AreListed, AreLost, AreMarked, Bool, Cells, FoundPage, GroupPage, IfOk, IsIndex}
use Rattle.recovery.proofs.Common.{IsKey, Key, List, Place, Shape, Some, Tag, [], ap, arith, cases_lt, false, get_grows}
use Rattle.recovery.proofs.Common.{get_last, inl, inr, key_of, key_total, length, replicate, same_Some, same_key}
use Rattle.recovery.proofs.Common.{slice_get, slice_get_within, slice_set, subst, suc, sym, true, true≢false, ℕ, ⊎_elim}
use Rattle.recovery.proofs.Common.{◌++◌, ◌<◌, ◌∙◌, ◌∷◌, ◌≡◌, ◌≢◌, ◌≤◌, ◌⊎◌}
use Rattle.std.specs.Prelude.{Err, Ok, Result, ◌↔◌}
use Rattle.ufs_spec.specs.Openings.{IsBefore}
use Rattle.ufs_spec.proofs.Equalities.{key_cases}
use Rattle.ufs_spec.proofs.Lists.{get_replicate, get_splits, none_in_empty, set_here, set_other}
use Rattle.recovery.specs.KeysInOrder.{AreKnown, IsLostAmong}
use Rattle.geometry.proofs.Indexes.{index_below, indexes_apart, known_index, one_index, one_key, rise_before}

-- Which keys are marked

-- the keys marked are those with a lost page among the first n
abbrev pub MarksLost : Shape → List FoundPage → ℕ → ℕ → List Bool → Type 0
MarksLost s pages low n marked = (k : Key) (i : ℕ) → IsIndex s k i →
    (slice_get marked i ≡ Some true) ↔ IsLostAmong pages n low k

pub none_lost : (s : Shape) (pages : List FoundPage) (low n : ℕ) (marked : List Bool) → n ≡ key_total s →
    marked ≡ replicate n false → MarksLost s pages low 0 marked
none_lost s pages low n marked count are k i index =
    let l = index_below s k i index in
    let h = ap (λ (xs : List Bool). slice_get xs i) are ∙ get_replicate n i false (omega (arith, l, count)) in (
      λ m. absurd (true≢false (same_Some true false (sym m ∙ h))),
      λ m. let w = m.2 in absurd (omega (arith, w)),
    )

module _ (s : Shape) (pages : List FoundPage) (low n : ℕ) (e : FoundPage) (at : slice_get pages n ≡ Some e) where
  more : (k : Key) → IsLostAmong pages n low k → IsLostAmong pages (suc n) low k
  more k m = let w = m.2 in (m.0, m.1, omega (arith, w), m.3, m.4, m.5)

  -- what is lost among one page more is lost among those before, or is this page's key
  fewer : (k : Key) → IsLostAmong pages (suc n) low k →
      IsLostAmong pages n low k ⊎ ((key_of e.tag ≡ k) × (low ≤ e.tag.number))
  fewer k m =
      ⊎_elim
      (λ (l : m.0 < n). inl (m.0, m.1, l, m.3, m.4, m.5))
      (λ (l : n ≤ m.0).
      let w = m.2 in
      let same : m.0 ≡ n = omega (arith, w, l) in
      let f = same_Some m.1 e (sym m.3 ∙ ap (slice_get pages) same ∙ at) in
      let b = ap (λ (e : FoundPage). e.tag.number) f in
      let z = m.5 in
      inr (sym (ap (λ (e : FoundPage). key_of e.tag) f) ∙ m.4, omega (arith, b, z)))
      (cases_lt m.0 n)

  -- the page's key is marked if its number is lost, and all else stays
  pub page_marked : (old new : List Bool) →
      ((k : Key) (i : ℕ) → IsIndex s k i → (k ≡ key_of e.tag → low ≤ e.tag.number → ⊥) →
      slice_get new i ≡ slice_get old i) →
      (low ≤ e.tag.number → (i : ℕ) → IsIndex s (key_of e.tag) i → slice_get new i ≡ Some true) →
      MarksLost s pages low n old → MarksLost s pages low (suc n) new
  page_marked old new same here marks k i index =
      ⊎_elim
      (λ (h : (same_key k (key_of e.tag) ≡ true) × (k ≡ key_of e.tag)).
      ⊎_elim
      (λ (l : e.tag.number < low). stays (λ g m. omega (arith, l, m)))
      (λ (l : low ≤ e.tag.number). (
        λ m. (n, e, omega arith, at, sym h.1, l),
        λ m. here l i (subst (λ (k : Key). IsIndex s k i) h.1 index),
      ))
      (cases_lt e.tag.number low))
      (λ (h : (same_key k (key_of e.tag) ≡ false) × (k ≢ key_of e.tag)). stays (λ g m. h.1 g))
      (key_cases k (key_of e.tag))
    where
      stays : (k ≡ key_of e.tag → low ≤ e.tag.number → ⊥) →
          (slice_get new i ≡ Some true) ↔ IsLostAmong pages (suc n) low k
      stays off =
          let r = marks k i index in
          let still = same k i index off in (
            λ m. more k (r.0 (sym still ∙ m)),
            λ m. ⊎_elim
                (λ (g : IsLostAmong pages n low k). still ∙ r.1 g)
                (λ (g : (key_of e.tag ≡ k) × (low ≤ e.tag.number)). absurd (off (sym g.0) g.1))
                (fewer k m),
          )

-- One key is marked

module _ (s : Shape) (marked : List Bool) (key : Key) (at : ℕ) (is : IsIndex s key at) where
  pub other_stays : (k : Key) (i : ℕ) → IsIndex s k i → k ≢ key →
      slice_get (slice_set marked at true) i ≡ slice_get marked i
  other_stays k i index apart = set_other marked at i true (indexes_apart s k key i at index is apart)

  pub key_marked : at < length marked → (i : ℕ) → IsIndex s key i → slice_get (slice_set marked at true) i ≡ Some true
  key_marked l i index = ap (slice_get (slice_set marked at true)) (one_index s key i at index is)
      ∙ set_here marked at true l

-- The marked keys in order

pub none_listed : (s : Shape) (marked : List Bool) (keys : List Key) → keys ≡ [] → AreMarked s marked 0 keys
none_listed s marked keys none = record {
  ordered = λ i j a b x y l. absurd (none_in_empty keys i a none x);
  marked_before = λ i k x. absurd (none_in_empty keys i k none x);
  all = λ k x l index on. absurd (omega (arith, l));
}

module _ (s : Shape) (marked : List Bool) (n : ℕ) (keys : List Key) (are : AreMarked s marked n keys) where
  pub key_skipped : slice_get marked n ≡ Some false → AreMarked s marked (suc n) keys
  key_skipped off = record {
    ordered = are.ordered;
    marked_before = λ i k x. let r = are.marked_before i k x in let l = r.1 in (r.0, omega (arith, l), r.2, r.3);
    all = λ k x l index on.
        ⊎_elim
        (λ (m : x < n). are.all k x m index on)
        (λ (m : n ≤ x). let e : n ≡ x = omega (arith, m, l) in
        absurd (true≢false (same_Some true false (sym on ∙ sym (ap (slice_get marked) e) ∙ off))))
        (cases_lt x n);
  }

  pub key_listed : (key : Key) → slice_get marked n ≡ Some true → IsIndex s key n →
      AreMarked s marked (suc n) (keys ++ key ∷ [])
  key_listed key on at = record {
    ordered = ordered;
    marked_before = λ i k x.
        ⊎_elim
        (λ (h : slice_get keys i ≡ Some k). let r = are.marked_before i k h in
        let l = r.1 in (r.0, omega (arith, l), r.2, r.3))
        (λ (h : (i ≡ length keys) × (k ≡ key)).
        (n, omega arith, subst (λ (k : Key). IsIndex s k n) (sym h.1) at, on))
        (get_splits keys key i k x);
    all = λ k x l index h.
        ⊎_elim
        (λ (m : x < n). let r = are.all k x m index h in (r.0, get_grows keys key r.0 k r.1))
        (λ (m : n ≤ x). let e : n ≡ x = omega (arith, m, l) in
        (length keys, get_last keys key ∙ ap Some (one_key s key k n x at index e)))
        (cases_lt x n);
  }
    where
      ordered : (i j : ℕ) (a b : Key) → slice_get (keys ++ key ∷ []) i ≡ Some a →
          slice_get (keys ++ key ∷ []) j ≡ Some b → i < j → IsBefore a b
      ordered i j a b x y l = ⊎_elim first last (get_splits keys key i a x)
        where
          first : slice_get keys i ≡ Some a → IsBefore a b
          first h =
              ⊎_elim
              (λ (g : slice_get keys j ≡ Some b). are.ordered i j a b h g l)
              (λ (g : (j ≡ length keys) × (b ≡ key)).
              let r = are.marked_before i a h in
              subst (λ (k : Key). IsBefore a k) (sym g.1) (rise_before s a key r.0 n r.2 at r.1))
              (get_splits keys key j b y)

          last : (i ≡ length keys) × (a ≡ key) → IsBefore a b
          last h =
              ⊎_elim
              (λ (g : slice_get keys j ≡ Some b).
              let w = slice_get_within keys j b g in let z = h.0 in absurd (omega (arith, w, z, l)))
              (λ (g : (j ≡ length keys) × (b ≡ key)).
              let w = g.0 in let z = h.0 in absurd (omega (arith, w, z, l)))
              (get_splits keys key j b y)

-- the marked keys are those with a lost page
pub lost_listed : (s : Shape) (pages : List FoundPage) (low : ℕ) (marked : List Bool) (keys : List Key) →
    length marked ≡ key_total s → MarksLost s pages low (length pages) marked →
    AreMarked s marked (length marked) keys → (c : Cells) (top : ℕ) → AreListed c pages →
    ((p : Place) (t : Tag) (body : List ℕ) → c p ≡ GroupPage t body → t.number ≤ top) →
    AreKnown s c →
    AreLost c low top keys
lost_listed s pages low marked keys long marks are c top listed most known = record {
  ordered = are.ordered;
  lost = λ i k x.
      let r = are.marked_before i k x in
      let m = (marks k r.0 r.2).0 r.3 in
      let b = listed.there m.0 m.1 m.3 in
      (m.1.place, m.1.tag, b.0, b.1, m.4, m.5, most m.1.place m.1.tag b.0 b.1);
  all = λ k m.
      let f = listed.all m.0 m.1 m.2 m.3 in
      let r = known_index s k (subst (λ (k : Key). IsKey s k) m.4 (known m.0 m.1 m.2 m.3)) in
      let l = index_below s k r.0 r.1 in
      are.all k r.0 (omega (arith, l, long)) r.1
      ((marks k r.0 r.1).1 (
        f.0,
        record { place = m.0; tag = m.1 },
        slice_get_within pages f.0 (record { place = m.0; tag = m.1 }) f.1,
        f.1,
        m.4,
        m.5,
      ));
}

-- the same of the keys that a call gave, if it gave any
pub lost_result : {V E : Type 0} (items : V → List Key) (o : Result V E) (s : Shape) (pages : List FoundPage) (low : ℕ)
    (marked read : List Bool) → length marked ≡ key_total s → MarksLost s pages low (length pages) marked →
    read ≡ marked → IfOk o (λ v. AreMarked s read (length read) (items v)) →
    IfOk o (λ v. (c : Cells) (top : ℕ) → AreListed c pages →
    ((p : Place) (t : Tag) (body : List ℕ) → c p ≡ GroupPage t body → t.number ≤ top) →
    AreKnown s c →
    AreLost c low top (items v))
lost_result items (Ok v) s pages low marked read long marks same are =
    lost_listed s pages low marked (items v) long marks
    (subst (λ (xs : List Bool). AreMarked s xs (length xs) (items v)) same are)
lost_result items (Err e) s pages low marked read long marks same are = tt
