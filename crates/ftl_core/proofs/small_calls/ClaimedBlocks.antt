-- Which blocks lie in the slots that readers have claimed, as they claim slots, fill them and give them back.
use Rattle.ftl_core.proofs.Common.{AreClaimed, AreClaimedBy, Bool, Claimed, Claims, Core, Describes, List, Release}
use Rattle.ftl_core.proofs.Common.{Translation, [], ap, arith, claim_at, claim_filled, claimed_all, claims_behind}
use Rattle.ftl_core.proofs.Common.{claims_for, claims_of_blocks, cond, eq-eqb, eqb-true, false, false≢true, filter}
use Rattle.ftl_core.proofs.Common.{if◌then◌else◌, is_claim_of, length, map, moved, nat_tests, not, refl, replicate}
use Rattle.ftl_core.proofs.Common.{slice_set, subst, suc, sym, true, zero, ℕ, ◌&&◌, ◌+◌, ◌<◌, ◌==◌, ◌∙◌, ◌∷◌, ◌≡◌}
use Rattle.ufs_spec.proofs.Facts.{eqb-self}
use Rattle.ufs_spec.specs.Plain.{zero_block}
use Rattle.write_cache.proofs.Entries.{other_above}
use Rattle.ftl_core.specs.Moves.{filled}
use Rattle.ftl_core.specs.Public.{with_block, with_claimed}
use Rattle.ftl_core.proofs.look_and_accept.GroupsAccepted.{claims_length}
use Rattle.ftl_core.proofs.small_calls.ReadersClaims.{claims_either, claims_filled, none_after, others_after}
use Rattle.ftl_core.proofs.small_calls.ReadersClaims.{others_either, others_filled}

-- what one reader has claimed changes, and nothing of another
pub one_claims : (c after : Core) (claims : Claims) (reader : ℕ) (blocks : List (List ℕ)) → AreClaimed c claims →
    AreClaimedBy after reader blocks →
    ((other : ℕ) → (other ≡ reader → ⊥) → claims_for after other ≡ claims_for c other) →
    AreClaimed after (with_claimed claims reader blocks)
one_claims c after claims reader blocks h mine others = λ other. by other (other == reader) refl
  where
    by : (other : ℕ) (b : Bool) → (other == reader) ≡ b → AreClaimedBy after other (cond b blocks (claims other))
    by other true e = subst (λ (n : ℕ). AreClaimedBy after n blocks) (sym (eqb-true other reader e)) mine
    by other false e =
        others other (λ same. false≢true (sym e ∙ eq-eqb other reader same)) ∙ h other

-- Slots are claimed

pub slots_claimed : (c after : Core) (reader blocks : ℕ) (free : Bool) →
    after ≡ (if free then claimed_all c reader blocks else c) → (claims : Claims) → AreClaimed c claims →
    claims reader ≡ [] →
    AreClaimed after (if free then with_claimed claims reader (replicate blocks zero_block) else claims)
slots_claimed c after reader blocks true new claims h none =
    one_claims c after claims reader (replicate blocks zero_block) h
    (claims_either c after reader blocks true new (h reader ∙ ap (claims_of_blocks reader) none))
    (others_either c after reader blocks true new)
slots_claimed c after reader blocks false new claims h none =
    λ other. ap (λ (z : Core). claims_for z other) new ∙ h other

-- They are given back

pub slots_released : (c after : Core) (reader : ℕ) →
    after.claims ≡ filter (λ claim. not (is_claim_of reader claim)) c.claims → (claims : Claims) →
    AreClaimed c claims → AreClaimed after (with_claimed claims reader [])
slots_released c after reader new claims h =
    one_claims c after claims reader [] h (none_after reader c.claims after.claims new)
    (others_after reader c.claims after.claims new)

-- as many as blocks lie in them
pub as_many_released : (c after : Core) (reader : ℕ) (t : Translation) (blocks : List (List ℕ)) →
    AreClaimedBy c reader blocks → Describes after (moved t (Release (length (claims_for c reader)))) →
    Describes after (moved t (Release (length blocks)))
as_many_released c after reader t blocks claimed h =
    subst (λ (n : ℕ). Describes after (moved t (Release n)))
    (ap (λ (claims : List Claimed). length claims) claimed ∙ claims_length reader 0 blocks) h

-- A block comes

-- it lies in the slot of its index
filled_here : (reader i : ℕ) (block old : List ℕ) →
    claim_filled reader i block (claim_at reader i old) ≡ claim_at reader i block
filled_here reader i block old =
    ap (λ b. claim_at reader i (cond b block old)) (λ j. eqb-self reader j && eqb-self i j)

-- and in no other
filled_other : (reader k i : ℕ) (block old : List ℕ) → (i == k) ≡ false →
    claim_filled reader k block (claim_at reader i old) ≡ claim_at reader i old
filled_other reader k i block old other =
    ap (λ b. claim_at reader i (cond b block old)) (λ j. eqb-self reader j && other j)

below : (i n : ℕ) → (i == i + suc n) ≡ false
below i n = grind (arith, nat_tests)

-- those behind it stay
behind_stay : (reader k i : ℕ) (block : List ℕ) (blocks : List (List ℕ)) → k < i →
    map (claim_filled reader k block) (claims_behind reader i blocks) ≡ claims_behind reader i blocks
behind_stay reader k i block [] h = refl
behind_stay reader k i block (old ∷ blocks) h = λ j.
    filled_other reader k i block old (other_above k i h) j ∷ behind_stay reader k (i + 1) block blocks (omega arith) j

behind_filled : (reader i k : ℕ) (block : List ℕ) (blocks : List (List ℕ)) →
    map (claim_filled reader (i + k) block) (claims_behind reader i blocks)
    ≡ claims_behind reader i (slice_set blocks k block)
behind_filled reader i k block [] = refl
behind_filled reader i zero block (old ∷ blocks) =
    let here : i + 0 ≡ i = omega arith in
    ap (λ n. map (claim_filled reader n block) (claims_behind reader i (old ∷ blocks))) here
    ∙ (λ j. filled_here reader i block old j ∷ behind_stay reader i (i + 1) block blocks (omega arith) j)
behind_filled reader i (suc k) block (old ∷ blocks) =
    let at : i + suc k ≡ (i + 1) + k = omega arith in
    (λ j. filled_other reader (i + suc k) i block old (below i k) j
    ∷ map (claim_filled reader (at j) block) (claims_behind reader (i + 1) blocks))
    ∙ ap (λ (claims : List Claimed). claim_at reader i old ∷ claims) (behind_filled reader (i + 1) k block blocks)

pub slot_filled : (c after : Core) (reader index : ℕ) (block : List ℕ) → after ≡ filled c reader index block →
    (claims : Claims) → AreClaimed c claims → AreClaimed after (with_block claims reader index block)
slot_filled c after reader index block new claims h =
    one_claims c after claims reader (slice_set (claims reader) index block) h
    (claims_filled reader index block c.claims after.claims same
    ∙ (ap (map (claim_filled reader index block)) (h reader) ∙ of_index))
    (others_filled reader index block c.claims after.claims same)
  where
    same : after.claims ≡ map (claim_filled reader index block) c.claims
    same = ap (λ (z : Core). z.claims) new

    of_index : map (claim_filled reader index block) (claims_of_blocks reader (claims reader))
        ≡ claims_of_blocks reader (slice_set (claims reader) index block)
    of_index =
        let start : index ≡ 0 + index = omega arith in
        ap (λ n. map (claim_filled reader n block) (claims_of_blocks reader (claims reader))) start
        ∙ behind_filled reader 0 index block (claims reader)
