-- What REPORT LUNS lists is counted and spelled by its two parts.
use Rattle.std.proofs.Common.{◌≡◌, ℕ, ◌+◌, ◌==◌, Bool, true, false, cond, List, [], ◌++◌, length, map, refl, ap}
use Rattle.std.proofs.Common.{◌∙◌, arith, ◌∷◌}
use Rattle.std.proofs.lemmas.List.{length-append, length-map}
use Rattle.std.proofs.lemmas.List.Concat.{flat_map-append}
use Rattle.ufs_spec.proofs.Lists.{length-below}
use Rattle.ufs_spec.specs.Identities.{luns_listed, unit_entry}
use Rattle.ufs_spec.specs.Keys.{below}
use Rattle.ufs_spec.specs.Refusals.{units_listed}
use Rattle.ufs_spec.specs.declared.configs.Numbers.{Numbers}
use Rattle.ufs_spec.specs.declared.operations.Told.TheVariants.{Units}
use Rattle.ufs_spec.specs.declared.scsi.Cdb.TheVariants.{Tell}
use Rattle.lun_route.specs.Lists.{joined, ordinary_entries, ordinary_listed, other_entries, others_listed}

-- the two parts of the list, each there or not
parts : (b d : Bool) (xs ys : List (List ℕ)) →
    joined (cond b [] xs ++ cond d [] ys) ≡ cond b [] (joined xs) ++ cond d [] (joined ys)
parts true true xs ys = refl
parts true false xs ys = refl
parts false true xs ys = flat_map-append (λ (entry : List ℕ). entry) xs []
parts false false xs ys = flat_map-append (λ (entry : List ℕ). entry) xs ys

pub listed_parts : (n : Numbers) (select : ℕ) →
    joined (luns_listed n select) ≡ ordinary_entries n select ++ other_entries select
listed_parts n select =
    parts (select == 1) (select == 0) (map (unit_entry 0x00) (below (length n.units.items)))
    (map (unit_entry 0xC1) (0x01 ∷ 0x30 ∷ 0x44 ∷ 0x50 ∷ []))

-- how many both parts have, where one of them is there
both : (b d : Bool) (units : ℕ) → (b ≡ true → d ≡ true → ⊥) →
    cond b 0 units + cond d 0 4 ≡ cond d units (cond b 4 (units + 4))
both true true units apart = absurd (apart refl refl)
both true false units apart = refl
both false true units apart = omega arith
both false false units apart = refl

apart : (select : ℕ) → (select == 1) ≡ true → (select == 0) ≡ true → ⊥
apart select one none = grind arith

pub listed_units : (n : Numbers) (select allocation : ℕ) →
    ordinary_listed n select + others_listed select ≡ units_listed n (Tell Units select allocation)
listed_units n select allocation = both (select == 1) (select == 0) (length n.units.items) (apart select)

-- how many entries the two parts have, each there or not
lengths : (b d : Bool) (xs ys : List (List ℕ)) →
    length (cond b [] xs ++ cond d [] ys) ≡ cond b 0 (length xs) + cond d 0 (length ys)
lengths true true xs ys = refl
lengths true false xs ys = omega arith
lengths false true xs ys = length-append xs []
lengths false false xs ys = length-append xs ys

pub listed_count : (n : Numbers) (select allocation : ℕ) →
    length (luns_listed n select) ≡ units_listed n (Tell Units select allocation)
listed_count n select allocation =
    lengths (select == 1) (select == 0) (map (unit_entry 0x00) (below (length n.units.items)))
    (map (unit_entry 0xC1) (0x01 ∷ 0x30 ∷ 0x44 ∷ 0x50 ∷ []))
    ∙ ap (λ units. cond (select == 1) 0 units + others_listed select)
    (length-map (below (length n.units.items)) (unit_entry 0x00) ∙ length-below (length n.units.items))
    ∙ listed_units n select allocation
