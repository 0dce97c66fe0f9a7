-- The index of a key as a function is the index as a relation.
use Rattle.std.proofs.Common.{◌≡◌, ◌∙◌, ◌==◌, ◌⊎◌, ℕ, ◌+◌, ◌<◌, Bool, true, false, length, take, sum, refl, sym, ap}
use Rattle.std.proofs.Common.{inl, inr, ⊎_elim}
use Rattle.std.specs.Prelude.{MatchOption, Option, Some, None, if◌then◌else◌, nat_lt, slice_index_or}
use Rattle.ufs_spec.specs.Keys.{IsArea, IsData, IsKey, IsSettings, area_pages, region_pages}
use Rattle.ufs_spec.specs.Plain.{Shape, regions}
use Rattle.ufs_spec.specs.declared.flash.Key.{Key}
use Rattle.ufs_spec.proofs.Facts.{and_from, and_parts, eq-eqb, eqb-true, false≢true, lt-ltb, ltb-true, none-some}
use Rattle.ufs_spec.proofs.Facts.{same_Some}
use Rattle.geometry.specs.Keys.{AtArea, AtData, AtSettings, IsIndex, area_index, data_index, index_of, key_total}
use Rattle.geometry.specs.Keys.{settings_index}
use Rattle.geometry.proofs.Indexes as keys

-- Tests

-- where a test gives a value, it holds, and the value is that one
tested : (b : Bool) (x i : ℕ) → (if b then Some x else None) ≡ Some i → (b ≡ true) × (i ≡ x)
tested true x i h = (refl, same_Some i x (sym h))
tested false x i h = absurd (none-some i h)

passed : (b : Bool) (x : ℕ) → b ≡ true → (if b then Some x else None) ≡ Some x
passed true x h = refl
passed false x h = absurd (false≢true h)

-- the choice by kind
chosen : (d e f : Bool) (a b c : Option ℕ) (i : ℕ) →
    (if d then a else if e then b else if f then c else None) ≡ Some i →
    ((d ≡ true) × (a ≡ Some i)) ⊎ (((e ≡ true) × (b ≡ Some i)) ⊎ ((f ≡ true) × (c ≡ Some i)))
chosen true e f a b c i h = inl (refl, h)
chosen false true f a b c i h = inr (inl (refl, h))
chosen false false true a b c i h = inr (inr (refl, h))
chosen false false false a b c i h = absurd (none-some i h)

module _ (s : Shape) where
  -- The index that the function gives

  data_is : (k : Key) (i : ℕ) → k.kind ≡ 1 → data_index s k ≡ Some i → IsIndex s k i
  data_is k i kind h =
      let r = tested _ (sum (take k.unit s.blocks) + k.address) i h in
      let t = and_parts (nat_lt k.unit (length s.blocks)) (nat_lt k.address (slice_index_or s.blocks k.unit 0)) r.0 in
      AtData kind (ltb-true k.unit (length s.blocks) t.0)
      (ltb-true k.address (slice_index_or s.blocks k.unit 0) t.1) r.1

  area_is : (k : Key) (i : ℕ) → k.kind ≡ 2 → area_index s k ≡ Some i → IsIndex s k i
  area_is k i kind h =
      let r = tested _ (sum s.blocks + sum (take k.unit (region_pages s)) + k.address) i h in
      let t = and_parts (nat_lt k.unit regions) (nat_lt k.address (slice_index_or (region_pages s) k.unit 0)) r.0 in
      AtArea kind (ltb-true k.unit regions t.0)
      (ltb-true k.address (slice_index_or (region_pages s) k.unit 0) t.1) r.1

  settings_is : (k : Key) (i : ℕ) → k.kind ≡ 3 → settings_index s k ≡ Some i → IsIndex s k i
  settings_is k i kind h =
      let r = tested _ (sum s.blocks + area_pages s) i h in
      let t = and_parts (k.unit == 0) (k.address == 0) r.0 in
      AtSettings kind (eqb-true k.unit 0 t.0) (eqb-true k.address 0 t.1) r.1

  pub index_is : (k : Key) (i : ℕ) → index_of s k ≡ Some i → IsIndex s k i
  index_is k i h =
      ⊎_elim
      (λ (r : ((k.kind == 1) ≡ true) × (data_index s k ≡ Some i)). data_is k i (eqb-true k.kind 1 r.0) r.1)
      (λ o. ⊎_elim
      (λ (r : ((k.kind == 2) ≡ true) × (area_index s k ≡ Some i)). area_is k i (eqb-true k.kind 2 r.0) r.1)
      (λ (r : ((k.kind == 3) ≡ true) × (settings_index s k ≡ Some i)). settings_is k i (eqb-true k.kind 3 r.0) r.1) o)
      (chosen (k.kind == 1) (k.kind == 2) (k.kind == 3) (data_index s k) (area_index s k) (settings_index s k) i h)

  -- A key's index is given

  pub is_index : (k : Key) (i : ℕ) → IsIndex s k i → index_of s k ≡ Some i
  is_index k i (AtData kind unit address is) =
      let e : (k.kind == 1) ≡ true = eq-eqb k.kind 1 kind in
      rw e (passed _ (sum (take k.unit s.blocks) + k.address)
      (and_from _ _ (lt-ltb k.unit (length s.blocks) unit)
      (lt-ltb k.address (slice_index_or s.blocks k.unit 0) address)) ∙ ap Some (sym is))
  is_index k i (AtArea kind unit address is) =
      rw kind (passed _ (sum s.blocks + sum (take k.unit (region_pages s)) + k.address)
      (and_from _ _ (lt-ltb k.unit regions unit)
      (lt-ltb k.address (slice_index_or (region_pages s) k.unit 0) address)) ∙ ap Some (sym is))
  is_index k i (AtSettings kind unit address is) =
      rw kind (passed _ (sum s.blocks + area_pages s)
      (and_from _ _ (eq-eqb k.unit 0 unit) (eq-eqb k.address 0 address)) ∙ ap Some (sym is))

  -- two keys do not have one index
  pub one_key : (j k : Key) (i : ℕ) → index_of s j ≡ Some i → index_of s k ≡ Some i → j ≡ k
  one_key j k i a b = keys.one_key s j k i i (index_is j i a) (index_is k i b) refl

  pub known_index : (k : Key) → IsKey s k → (i : ℕ) × IsIndex s k i
  known_index k (IsData unit address l m) = (sum (take unit s.blocks) + address, AtData refl l m refl)
  known_index k (IsArea region page there l) =
      (sum s.blocks + sum (take region (region_pages s)) + page, AtArea refl there l refl)
  known_index k IsSettings = (sum s.blocks + area_pages s, AtSettings refl refl refl refl)

  -- each key of the device has an index below their count, and no other key has one
  pub has_index : (k : Key) → IsKey s k → (i : ℕ) × (index_of s k ≡ Some i) × (i < key_total s)
  has_index k known = let r = known_index k known in
      (r.0, is_index k r.0 r.1, keys.index_below s k r.0 r.1)

  pub index_known : (k : Key) (i : ℕ) → index_of s k ≡ Some i → IsKey s k
  index_known k i h = keys.index_known s k i (index_is k i h)

  pub index_below : (k : Key) (i : ℕ) → index_of s k ≡ Some i → i < key_total s
  index_below k i h = keys.index_below s k i (index_is k i h)

  pub no_index : (k : Key) → (IsKey s k → ⊥) → index_of s k ≡ None
  no_index k unknown = by (index_of s k) refl
    where
      by : (o : Option ℕ) → index_of s k ≡ o → index_of s k ≡ None
      by None e = e
      by (Some i) e = absurd (unknown (index_known k i e))

  -- what the search for a key's index tells is the function's value
  pub tells_value : (k : Key) (o : Option ℕ) → MatchOption o (IsKey s k → ⊥) (λ i. IsIndex s k i) → o ≡ index_of s k
  tells_value k None h = sym (no_index k h)
  tells_value k (Some i) h = sym (is_index k i h)
