-- The keys and the counters of a journal's regions stay those of the device.
use Rattle.heard_laws.proofs.Common.{AreRegionsOf, CanApplyAll, IsKept, List, Plain, RegionState, Some, Write, []}
use Rattle.heard_laws.proofs.Common.{after, ap, arith, length, refl, region_of, state_at, subst, sym, ℕ, ⊎_elim, ◌*◌}
use Rattle.heard_laws.proofs.Common.{◌++◌, ◌+◌, ◌<◌, ◌∙◌, ◌∷◌, ◌≡◌, ◌≤◌}
use Rattle.std.proofs.Common.{slice_index_or, slice_set}
use Rattle.std.proofs.Math.Decide.{ℕ_discrete}
use Rattle.std.proofs.Math.ListN.{get_or-eq_default}
use Rattle.std.proofs.lemmas.Bool.{cases_lt}
use Rattle.std.proofs.lemmas.List.{get_or-set_other, get_or-set_same}
use Rattle.std.proofs.lemmas.List.Sums.{fold-append}
use Rattle.ufs_spec.proofs.PlainFacts.{length-with_part}
use Rattle.ufs_spec.proofs.RegionPages.{area_there}
use Rattle.ufs_spec.specs.Commands.{Command, RpmbWrite, SetBoot, SetKey, SetPermanent, Zero}
use Rattle.ufs_spec.specs.Plain.{CanApply, Region, apply, changed_by, empty_region}
use Rattle.rpmb.specs.Kept.{no_state}
use Rattle.journal.specs.Requests.{state_after}
use Rattle.heard_laws.proofs.host_data.FramesHeard.{IsFor}

pub after_more : (p : Plain) (cs : List Command) (c : Command) → after p (cs ++ c ∷ []) ≡ apply (after p cs) c
after_more p cs c = fold-append apply p cs (c ∷ [])

pub last_applies : (p : Plain) (cs : List Command) (c : Command) → CanApplyAll p (cs ++ c ∷ []) →
    CanApply (after p cs) c
last_applies p [] c can = can.1
last_applies p (d ∷ ds) c can = last_applies (apply p d) ds c can.2

-- a command for no region leaves them
abbrev pub IsForNone : Command → Type 0
IsForNone (SetKey region key) = ⊥
IsForNone (RpmbWrite region address bytes) = ⊥
IsForNone other = Unit {0}

pub others_stay : (states : List RegionState) (p : Plain) (c : Command) → IsForNone c → AreRegionsOf states p →
    AreRegionsOf states (apply p c)
others_stay states p (Write unit address blocks) is h = h
others_stay states p (Zero unit address n) is h = h
others_stay states p (SetBoot boot) is h = h
others_stay states p SetPermanent is h = h
others_stay states p (SetKey region key) is h = absurd is
others_stay states p (RpmbWrite region address bytes) is h = absurd is

-- ## One region changes

-- the region that is there is one of the list, on both sides
state_there : (states : List RegionState) (p : Plain) (number : ℕ) → AreRegionsOf states p →
    0 < length (region_of p number).area → (number < length states) × (number < length p.regions)
state_there states p number h some = (
  ⊎_elim (λ l. l) (λ past. absurd (no_blocks past)) (cases_lt number (length states)),
  ⊎_elim (λ l. l) (λ past. absurd (no_area past)) (cases_lt number (length p.regions)),
)
  where
    no_blocks : length states ≤ number → ⊥
    no_blocks past =
        let e = ap (λ (s : RegionState). s.blocks) (get_or-eq_default states no_state past) in
        let a = (h number).area in
        omega (arith, e, a, some)

    no_area : length p.regions ≤ number → ⊥
    no_area past =
        let e = ap (λ (r : Region). length r.area) (get_or-eq_default p.regions empty_region past) in
        omega (arith, e, some)

set_regions : (states : List RegionState) (p : Plain) (number : ℕ) (s : RegionState) (r : Region) →
    number < length states → number < length p.regions → IsKept s r → AreRegionsOf states p →
    AreRegionsOf (slice_set states number s) (record p { regions = slice_set p.regions number r })
set_regions states p number s r here there kept h other = by (ℕ_discrete other number)
  where
    by : Dec (other ≡ number) →
        IsKept (slice_index_or (slice_set states number s) other no_state)
        (slice_index_or (slice_set p.regions number r) other empty_region)
    by (yes e) =
        subst (λ (k : ℕ). IsKept (slice_index_or (slice_set states number s) k no_state)
        (slice_index_or (slice_set p.regions number r) k empty_region)) (sym e)
        (subst (λ (x : RegionState). IsKept x (slice_index_or (slice_set p.regions number r) number empty_region))
        (sym (get_or-set_same states number s no_state here))
        (subst (IsKept s) (sym (get_or-set_same p.regions number r empty_region there)) kept))
    by (no n) =
        subst (λ (x : RegionState). IsKept x (slice_index_or (slice_set p.regions number r) other empty_region))
        (sym (get_or-set_other states number other s no_state n))
        (subst (IsKept (slice_index_or states other no_state))
        (sym (get_or-set_other p.regions number other r empty_region n)) (h other))

abbrev with_state_of : List RegionState → ℕ → Command → List RegionState
with_state_of states number c = slice_set states number (state_after (state_at states number) (Some c))

-- a key or a write changes its region on both sides
pub one_changes : (states : List RegionState) (p : Plain) (number : ℕ) (c : Command) → IsFor number c → CanApply p c →
    AreRegionsOf states p →
    AreRegionsOf (slice_set states number (state_after (state_at states number) (Some c))) (apply p c)
one_changes states p number (SetKey region key) is can h =
    let some : 0 < length (region_of p region).area =
    (let e = area_there p region in let l = can.0.0.1 in omega (arith, e, l)) in
    let at = state_there states p region h some in
    let was = h region in
    subst (λ (k : ℕ). AreRegionsOf (with_state_of states k (SetKey region key)) (apply p (SetKey region key))) is
    (set_regions states p region (state_after (state_at states region) (Some (SetKey region key)))
    (changed_by (region_of p region) (SetKey region key)) at.0 at.1
    (record { key = refl; counter = was.counter; area = was.area }) h)
one_changes states p number (RpmbWrite region address bytes) is can h =
    let e = area_there p region in
    let part = can.0.1.1 in
    let some : 0 < length (region_of p region).area = (let l = can.0.0.1 in omega (arith, e, l)) in
    let at = state_there states p region h some in
    let was = h region in
    let long = length-with_part (256 * address) bytes (region_of p region).area (omega (arith, e, part)) in
    subst (λ (k : ℕ). AreRegionsOf (with_state_of states k (RpmbWrite region address bytes))
    (apply p (RpmbWrite region address bytes))) is
    (set_regions states p region (state_after (state_at states region) (Some (RpmbWrite region address bytes)))
    (changed_by (region_of p region) (RpmbWrite region address bytes)) at.0 at.1
    (record { key = was.key; counter = ap (λ (n : ℕ). n + 1) was.counter; area = long ∙ was.area }) h)
one_changes states p number (Write unit address blocks) is can h = absurd is
one_changes states p number (Zero unit address n) is can h = absurd is
one_changes states p number (SetBoot boot) is can h = absurd is
one_changes states p number SetPermanent is can h = absurd is
