-- Each key of a device has one index, each index below their count one key, and the indexes rise with the keys.
use Rattle.std.proofs.Common.{◌≡◌, ◌≢◌, ◌∙◌, ◌⊎◌, ℕ, zero, suc, ◌+◌, ◌<◌, ◌≤◌, List, [], ◌∷◌, length, take, sum, refl}
use Rattle.std.proofs.Common.{sym, ap, inl, inr, ⊎_elim, subst, arith}
use Rattle.std.specs.Prelude.{◌↔◌, IfSome, MatchOption, Option, Some, None, get_or, map, slice_index_or, sum_by}
use Rattle.std.proofs.Math.ListN.{get_or-map}
use Rattle.std.proofs.lemmas.List.{length-map, take-map, take_all}
use Rattle.std.proofs.lemmas.List.Sums.{sum-map, sum_by-cons}
use Rattle.ufs_spec.specs.Keys.{IsArea, IsData, IsKey, IsSettings, area_key, area_pages, data_key, region_pages}
use Rattle.ufs_spec.specs.Keys.{settings_key}
use Rattle.ufs_spec.specs.Openings.{IsBefore}
use Rattle.ufs_spec.specs.Plain.{Shape}
use Rattle.ufs_spec.specs.declared.configs.UnitSpec.{UnitSpec}
use Rattle.ufs_spec.specs.declared.flash.Key.{Key}
use Rattle.ufs_spec.proofs.Facts.{key_is}
use Rattle.geometry.specs.Keys.{AtArea, AtData, AtSettings, IsIndex, key_total}

-- Where units start

-- a unit ends before a later one starts
pub starts : (bs : List ℕ) (u v : ℕ) → u < v → sum (take u bs) + slice_index_or bs u 0 ≤ sum (take v bs)
starts [] zero v l = omega arith
starts [] (suc u) v l = omega arith
starts (b ∷ bs) u zero l = absurd (omega arith)
starts (b ∷ bs) zero (suc v) l = let c = sum_by-cons (λ (n : ℕ). n) b (take v bs) in omega (arith, c)
starts (b ∷ bs) (suc u) (suc v) l =
    let before = starts bs u v (omega arith) in
    let c = sum_by-cons (λ (n : ℕ). n) b (take v bs) in
    let d = sum_by-cons (λ (n : ℕ). n) b (take u bs) in
    omega (arith, before, c, d)

-- and no later than all of them
pub ends : (bs : List ℕ) (u : ℕ) → sum (take u bs) + slice_index_or bs u 0 ≤ sum bs
ends [] zero = omega arith
ends [] (suc u) = omega arith
ends (b ∷ bs) zero = let c = sum_by-cons (λ (n : ℕ). n) b bs in omega (arith, c)
ends (b ∷ bs) (suc u) =
    let before = ends bs u in
    let c = sum_by-cons (λ (n : ℕ). n) b bs in
    let d = sum_by-cons (λ (n : ℕ). n) b (take u bs) in
    omega (arith, before, c, d)

-- Keys and indexes

-- a key is before the other, or the other before it, or they are equal
pub key_ways : (j k : Key) → (j ≡ k) ⊎ (IsBefore j k ⊎ IsBefore k j)
key_ways j k = ⊎_elim
    (λ (e : j.kind ≡ k.kind). ⊎_elim
    (λ (f : j.unit ≡ k.unit). ⊎_elim
    (λ (g : j.address ≡ k.address). inl (key_is j k e f g))
    (λ o. ⊎_elim (λ (l : j.address < k.address). inr (inl (inr (inr (e, f, l)))))
    (λ (l : k.address < j.address). inr (inr (inr (inr (sym e, sym f, l))))) o)
    (ways j.address k.address))
    (λ o. ⊎_elim (λ (l : j.unit < k.unit). inr (inl (inr (inl (e, l)))))
    (λ (l : k.unit < j.unit). inr (inr (inr (inl (sym e, l))))) o)
    (ways j.unit k.unit))
    (λ o. ⊎_elim (λ (l : j.kind < k.kind). inr (inl (inl l))) (λ (l : k.kind < j.kind). inr (inr (inl l))) o)
    (ways j.kind k.kind)
  where
    ways : (u v : ℕ) → (u ≡ v) ⊎ ((u < v) ⊎ (v < u))
    ways u v = grind arith

module _ (s : Shape) where
  pub index_below : (k : Key) (i : ℕ) → IsIndex s k i → i < key_total s
  index_below k i (AtData kind unit address is) = let e = ends s.blocks k.unit in omega (arith, e, is, address)
  index_below k i (AtArea kind unit address is) =
      let e = ends (region_pages s) k.unit in omega (arith, e, is, address)
  index_below k i (AtSettings kind unit address is) = omega (arith, is)

  pub index_known : (k : Key) (i : ℕ) → IsIndex s k i → IsKey s k
  index_known k i (AtData kind unit address is) =
      subst (λ (k : Key). IsKey s k) (key_is (data_key k.unit k.address) k (sym kind) refl refl)
      (IsData k.unit k.address unit address)
  index_known k i (AtArea kind unit address is) =
      subst (λ (k : Key). IsKey s k) (key_is (area_key k.unit k.address) k (sym kind) refl refl)
      (IsArea k.unit k.address unit address)
  index_known k i (AtSettings kind unit address is) =
      subst (λ (k : Key). IsKey s k) (key_is settings_key k (sym kind) (sym unit) (sym address)) IsSettings

  pub known_index : (k : Key) → IsKey s k → (i : ℕ) × IsIndex s k i
  known_index _ (IsData unit address l m) = (sum (take unit s.blocks) + address, AtData refl l m refl)
  known_index _ (IsArea region page there l) =
      (sum s.blocks + sum (take region (region_pages s)) + page, AtArea refl there l refl)
  known_index _ IsSettings = (sum s.blocks + area_pages s, AtSettings refl refl refl refl)

  -- a key has one index
  pub one_index : (k : Key) (x y : ℕ) → IsIndex s k x → IsIndex s k y → x ≡ y
  one_index k x y (AtData a b c d) (AtData e f g h) = d ∙ sym h
  one_index k x y (AtData a b c d) (AtArea e f g h) = absurd (omega (arith, a, e))
  one_index k x y (AtData a b c d) (AtSettings e f g h) = absurd (omega (arith, a, e))
  one_index k x y (AtArea a b c d) (AtData e f g h) = absurd (omega (arith, a, e))
  one_index k x y (AtArea a b c d) (AtArea e f g h) = d ∙ sym h
  one_index k x y (AtArea a b c d) (AtSettings e f g h) = absurd (omega (arith, a, e))
  one_index k x y (AtSettings a b c d) (AtData e f g h) = absurd (omega (arith, a, e))
  one_index k x y (AtSettings a b c d) (AtArea e f g h) = absurd (omega (arith, a, e))
  one_index k x y (AtSettings a b c d) (AtSettings e f g h) = d ∙ sym h

  -- the earlier of two keys has the smaller index
  pub index_rises : (j k : Key) (x y : ℕ) → IsIndex s j x → IsIndex s k y → IsBefore j k → x < y
  index_rises j k x y (AtData a b c d) (AtData e f g h) before = by before
    where
      by : IsBefore j k → x < y
      by (inl l) = absurd (omega (arith, a, e, l))
      by (inr (inl l)) = let z = starts s.blocks j.unit k.unit l.1 in omega (arith, z, c, d, h)
      by (inr (inr l)) =
          let z = ap (λ (u : ℕ). sum (take u s.blocks)) l.1 in let w = l.2 in omega (arith, z, w, d, h)
  index_rises j k x y (AtData a b c d) (AtArea e f g h) before =
      let z = ends s.blocks j.unit in omega (arith, z, c, d, h)
  index_rises j k x y (AtData a b c d) (AtSettings e f g h) before =
      let z = ends s.blocks j.unit in omega (arith, z, c, d, h)
  index_rises j k x y (AtArea a b c d) (AtData e f g h) before = absurd (omega (arith, a, e, before))
  index_rises j k x y (AtArea a b c d) (AtArea e f g h) before = by before
    where
      by : IsBefore j k → x < y
      by (inl l) = absurd (omega (arith, a, e, l))
      by (inr (inl l)) = let z = starts (region_pages s) j.unit k.unit l.1 in omega (arith, z, c, d, h)
      by (inr (inr l)) =
          let z = ap (λ (u : ℕ). sum (take u (region_pages s))) l.1 in let w = l.2 in omega (arith, z, w, d, h)
  index_rises j k x y (AtArea a b c d) (AtSettings e f g h) before =
      let z = ends (region_pages s) j.unit in omega (arith, z, c, d, h)
  index_rises j k x y (AtSettings a b c d) (AtData e f g h) before = absurd (omega (arith, a, e, before))
  index_rises j k x y (AtSettings a b c d) (AtArea e f g h) before = absurd (omega (arith, a, e, before))
  index_rises j k x y (AtSettings a b c d) (AtSettings e f g h) before =
      absurd (omega (arith, a, e, b, f, c, g, before))

  -- and the key with the smaller index is the earlier one
  pub rise_before : (j k : Key) (x y : ℕ) → IsIndex s j x → IsIndex s k y → x < y → IsBefore j k
  rise_before j k x y a b l =
      ⊎_elim
      (λ (e : j ≡ k). let c = one_index k x y (subst (λ (k : Key). IsIndex s k x) e a) b in
      absurd (omega (arith, c, l)))
      (λ o. ⊎_elim (λ h. h) (λ h. let r = index_rises k j y x b a h in absurd (omega (arith, r, l))) o)
      (key_ways j k)

  pub index_order : (j k : Key) (x y : ℕ) → IsIndex s j x → IsIndex s k y → (x < y) ↔ IsBefore j k
  index_order j k x y a b = (rise_before j k x y a b, index_rises j k x y a b)

  -- two keys do not have one index
  pub one_key : (j k : Key) (x y : ℕ) → IsIndex s j x → IsIndex s k y → x ≡ y → j ≡ k
  one_key j k x y a b e =
      ⊎_elim
      (λ h. h)
      (λ o. ⊎_elim
      (λ h. let r = index_rises j k x y a b h in absurd (omega (arith, r, e)))
      (λ h. let r = index_rises k j y x b a h in absurd (omega (arith, r, e))) o)
      (key_ways j k)

  pub indexes_apart : (j k : Key) (x y : ℕ) → IsIndex s j x → IsIndex s k y → j ≢ k → x ≢ y
  indexes_apart j k x y a b apart e = apart (one_key j k x y a b e)

  -- What the search for a key's index tells of it

  pub tells_known : (k : Key) (o : Option ℕ) → MatchOption o (IsKey s k → ⊥) (λ i. IsIndex s k i) →
      IfSome o (λ i. IsKey s k × (i < key_total s))
  tells_known k None h = tt
  tells_known k (Some i) h = (index_known k i h, index_below k i h)

  pub tells_order : (k : Key) (o : Option ℕ) → MatchOption o (IsKey s k → ⊥) (λ i. IsIndex s k i) →
      IfSome o (λ i. (other : Key) (j : ℕ) → IsIndex s other j → (i < j) ↔ IsBefore k other)
  tells_order k None h = tt
  tells_order k (Some i) h = λ other j is. index_order k other i j h is

-- The blocks of units in a list of units

pub block_found : (us : List UnitSpec) (u a start : ℕ) → u < length us →
    a < (get_or us u (record { blocks = 0; boot = 0; protect = 0 })).blocks →
    start ≡ sum (map (λ (v : UnitSpec). v.blocks) (take u us)) →
    (u < length (map (λ (v : UnitSpec). v.blocks) us)) × (a < get_or (map (λ (v : UnitSpec). v.blocks) us) u 0)
    × (start + a ≡ sum (take u (map (λ (v : UnitSpec). v.blocks) us)) + a)
block_found us u a start l m is =
    let e = get_or-map (λ (v : UnitSpec). v.blocks) us u (record { blocks = 0; boot = 0; protect = 0 }) in (
      rw (length-map us (λ (v : UnitSpec). v.blocks)) l,
      omega (arith, e, m),
      ap (λ (n : ℕ). n + a) (is ∙ ap sum (sym (take-map (λ (v : UnitSpec). v.blocks) u us))),
    )

-- so many blocks on from where a unit starts stands a block of that unit, as long as the unit has it
pub data_found : (s : Shape) (us : List UnitSpec) (u a index : ℕ) → map (λ (v : UnitSpec). v.blocks) us ≡ s.blocks →
    u < length us → a < (get_or us u (record { blocks = 0; boot = 0; protect = 0 })).blocks →
    sum_by (λ (v : UnitSpec). v.blocks) (take u us) + a ≡ index → IsIndex s (data_key u a) index
data_found s us u a index same l m e =
    let at = block_found us u a _ l m (sym (sum-map (λ (v : UnitSpec). v.blocks) (take u us))) in
    let start = ap (λ (bs : List ℕ). sum (take u bs)) same in
    let there : u < length s.blocks = subst (λ (bs : List ℕ). u < length bs) same at.0 in
    let within : a < slice_index_or s.blocks u 0 = subst (λ (bs : List ℕ). a < get_or bs u 0) same at.1 in
    AtData refl there within (omega (arith, start, at.2, e))

-- and behind all units the rest is counted from the end of their blocks
pub behind_units : (s : Shape) (us : List UnitSpec) (u rest index : ℕ) →
    map (λ (v : UnitSpec). v.blocks) us ≡ s.blocks → length us ≤ u →
    sum_by (λ (v : UnitSpec). v.blocks) (take u us) + rest ≡ index → sum s.blocks + rest ≡ index
behind_units s us u rest index same l e =
    let all = ap (sum_by (λ (v : UnitSpec). v.blocks)) (take_all u us l) in
    let sums = sum-map (λ (v : UnitSpec). v.blocks) us in
    let blocks = ap sum same in
    omega (arith, all, sums, blocks, e)
