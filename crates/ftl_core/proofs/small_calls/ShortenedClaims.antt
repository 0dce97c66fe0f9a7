-- A claim that is shortened: the slots behind its first so many are given back.
use Rattle.ftl_core.proofs.Common.{Accept, AreClaimed, AreClaimedBy, Bool, Claimed, Claims, Core, Describes, Group}
use Rattle.ftl_core.proofs.Common.{IsAllowedMove, List, Release, Translation, [], ap, arith, claim_at, claims_behind}
use Rattle.ftl_core.proofs.Common.{claims_for, claims_of_blocks, cond, false, is_claim_of, length, moved, nat_le}
use Rattle.ftl_core.proofs.Common.{nat_tests, not, refl, subst, suc, sym, take, true, waiting, zero, ℕ, ◌&&◌, ◌+◌, ◌-◌}
use Rattle.ftl_core.proofs.Common.{◌∙◌, ◌∷◌, ◌≡◌, ◌≤◌}
use Rattle.std.proofs.Common.{filter}
use Rattle.std.proofs.lemmas.Bool.{and_parts}
use Rattle.std.proofs.lemmas.List.{length-take}
use Rattle.std.proofs.lemmas.List.Elements.{All-weaker}
use Rattle.std.proofs.lemmas.List.Filters.{length-filter_both}
use Rattle.ufs_spec.proofs.Facts.{cond-false, cond-true}
use Rattle.ufs_spec.specs.Moves.{IsItem}
use Rattle.power_loss.proofs.jobs.ReadsAndTasks.{releases}
use Rattle.write_cache.specs.Slots.{is_claim_behind}
use Rattle.ftl_core.specs.Moves.{released_behind}
use Rattle.ftl_core.specs.Public.{with_claimed}
use Rattle.ftl_core.proofs.look_and_accept.GroupsAccepted.{claims_length}
use Rattle.ftl_core.proofs.rests_owed.RestsStay.{same_rests}
use Rattle.ftl_core.proofs.small_calls.ClaimedBlocks.{one_claims}
use Rattle.ftl_core.proofs.small_calls.Claims.{claims_kept}
use Rattle.ftl_core.proofs.small_calls.ReadersClaims.{other_claim, others_left}

-- Filters

one_gone : {A : Type 0} (p q : A → Bool) (x : A) (left right : List A) (b d : Bool) → p x ≡ b → q x ≡ d →
    filter p left ≡ filter (λ y. not (q y)) right →
    filter p (cond (not (b && d)) (x ∷ left) left) ≡ filter (λ y. not (q y)) (cond b (x ∷ right) right)
one_gone p q x left right true true e f same =
    same
    ∙ sym (cond-false (not (q x)) (x ∷ filter (λ y. not (q y)) right) (filter (λ y. not (q y)) right) (ap not f))
one_gone {A} p q x left right true false e f same =
    cond-true (p x) (x ∷ filter p left) (filter p left) e
    ∙ (ap (λ (ys : List A). x ∷ ys) same
    ∙ sym (cond-true (not (q x)) (x ∷ filter (λ y. not (q y)) right) (filter (λ y. not (q y)) right) (ap not f)))
one_gone p q x left right false d e f same = cond-false (p x) (x ∷ filter p left) (filter p left) e ∙ same

-- of those that pass one test, those that pass another one too are gone
both_gone : {A : Type 0} (p q : A → Bool) (xs : List A) →
    filter p (filter (λ x. not (p x && q x)) xs) ≡ filter (λ x. not (q x)) (filter p xs)
both_gone p q [] = refl
both_gone p q (x ∷ xs) =
    one_gone p q x (filter (λ y. not (p y && q y)) xs) (filter p xs) (p x) (q x) refl refl (both_gone p q xs)

-- The blocks of a claim

-- the claim is for a block of the reader before this index
abbrev is_before : ℕ → Claimed → Bool
is_before count claim = not (nat_le count claim.index)

low_index : (k i : ℕ) → k ≤ i → not (nat_le k i) ≡ false
low_index k i h = grind (arith, nat_tests)

high_index : (i n : ℕ) → not (nat_le (i + suc n) i) ≡ true
high_index i n = grind (arith, nat_tests)

-- of the blocks behind the index none stays
none_before : (reader i k : ℕ) (blocks : List (List ℕ)) → k ≤ i →
    filter (is_before k) (claims_behind reader i blocks) ≡ []
none_before reader i k [] low = refl
none_before reader i k (block ∷ blocks) low =
    cond-false (not (nat_le k i)) (claim_at reader i block ∷ filter (is_before k) (claims_behind reader (i + 1) blocks))
    (filter (is_before k) (claims_behind reader (i + 1) blocks)) (low_index k i low)
    ∙ none_before reader (i + 1) k blocks (omega arith)

-- the first so many stay
first_before : (reader i count : ℕ) (blocks : List (List ℕ)) →
    filter (is_before (i + count)) (claims_behind reader i blocks) ≡ claims_behind reader i (take count blocks)
first_before reader i zero blocks = none_before reader i (i + 0) blocks (omega arith)
first_before reader i (suc n) [] = refl
first_before reader i (suc n) (block ∷ blocks) =
    let next : i + suc n ≡ (i + 1) + n = omega arith in
    cond-true (not (nat_le (i + suc n) i))
    (claim_at reader i block ∷ filter (is_before (i + suc n)) (claims_behind reader (i + 1) blocks))
    (filter (is_before (i + suc n)) (claims_behind reader (i + 1) blocks)) (high_index i n)
    ∙ ap (λ (claims : List Claimed). claim_at reader i block ∷ claims)
    (ap (λ (k : ℕ). filter (is_before k) (claims_behind reader (i + 1) blocks)) next
    ∙ first_before reader (i + 1) n blocks)

-- What is left

-- what the reader has claimed then
mine_left : (c : Core) (reader count : ℕ) (blocks : List (List ℕ)) → AreClaimedBy c reader blocks →
    AreClaimedBy (released_behind c reader count) reader (take count blocks)
mine_left c reader count blocks claimed =
    let start : count ≡ 0 + count = omega arith in
    both_gone (is_claim_of reader) (λ (claim : Claimed). nat_le count claim.index) c.claims
    ∙ (ap (filter (is_before count)) claimed
    ∙ (ap (λ (k : ℕ). filter (is_before k) (claims_of_blocks reader blocks)) start
    ∙ first_before reader 0 count blocks))

of_reader : (reader count : ℕ) (claim : Claimed) → is_claim_behind reader count claim ≡ true →
    is_claim_of reader claim ≡ true
of_reader reader count claim e = (and_parts _ _ e).0

-- the others what they had claimed
others_stay : (c : Core) (reader count other : ℕ) → (other ≡ reader → ⊥) →
    claims_for (released_behind c reader count) other ≡ claims_for c other
others_stay c reader count other apart =
    others_left (is_claim_behind reader count) (is_claim_of other) c.claims
    (λ claim e. other_claim reader other apart claim (of_reader reader count claim e))

pub claim_shortened : (c after : Core) (reader count : ℕ) → after ≡ released_behind c reader count →
    (claims : Claims) → AreClaimed c claims → AreClaimed after (with_claimed claims reader (take count (claims reader)))
claim_shortened c after reader count new claims h =
    subst (λ (z : Core). AreClaimed z (with_claimed claims reader (take count (claims reader)))) (sym new)
    (one_claims c (released_behind c reader count) claims reader (take count (claims reader)) h
    (mine_left c reader count (claims reader) (h reader)) (others_stay c reader count))

-- as many slots are given back as blocks stand behind the first so many
fewer_claims : (c : Core) (reader count : ℕ) (blocks : List (List ℕ)) → AreClaimedBy c reader blocks →
    length (released_behind c reader count).claims ≡ length c.claims - (length blocks - count)
fewer_claims c reader count blocks claimed =
    let was = length-filter_both (is_claim_of reader) not_mine (λ claim. refl) c.claims in
    let is = length-filter_both (is_claim_of reader) not_mine (λ claim. refl) left in
    let of_others = ap (λ (claims : List Claimed). length claims)
    (others_left (is_claim_behind reader count) not_mine c.claims
    (λ claim e. ap not (of_reader reader count claim e))) in
    let mine_was = ap (λ (claims : List Claimed). length claims) claimed ∙ claims_length reader 0 blocks in
    let mine_is = ap (λ (claims : List Claimed). length claims) (mine_left c reader count blocks claimed)
    ∙ claims_length reader 0 (take count blocks) in
    let cut = length-take count blocks in
    omega (arith, was, is, of_others, mine_was, mine_is, cut)
  where
    left : List Claimed
    left = (released_behind c reader count).claims

    not_mine : Claimed → Bool
    not_mine claim = not (is_claim_of reader claim)

shortened_right : (c : Core) (t : Translation) (reader count : ℕ) (blocks : List (List ℕ)) → Describes c t →
    AreClaimedBy c reader blocks →
    Describes (released_behind c reader count) (moved t (Release (length blocks - count)))
shortened_right c t reader count blocks h claimed = record {
  valid = releases t (length blocks - count) h.valid;
  live = h.live;
  copies = h.copies;
  rests = same_rests t (moved t (Release (length blocks - count))) (waiting c.pages) refl refl refl refl h.rests.laid
      h.rests;
  kept = claims_kept c t (released_behind c reader count).claims (t.claims - (length blocks - count)) h.kept
      (fewer_claims c reader count blocks claimed ∙ ap (λ (n : ℕ). n - (length blocks - count)) h.kept.claims);
}

pub shortened_told : (c after : Core) (reader count : ℕ) → after ≡ released_behind c reader count →
    (t : Translation) (blocks : List (List ℕ)) → Describes c t → AreClaimedBy c reader blocks →
    Describes after (moved t (Release (length blocks - count)))
shortened_told c after reader count new t blocks h claimed =
    subst (λ (z : Core). Describes z (moved t (Release (length blocks - count)))) (sym new)
    (shortened_right c t reader count blocks h claimed)

-- A group in place of a shortened claim

-- to give back the slots that a group does not need, and then to accept it in place of the others, is to accept it in
-- place of all
pub shortened_accept : (t : Translation) (all n : ℕ) (g : Group) → n ≤ all →
    moved (moved t (Release (all - n))) (Accept n g) ≡ moved t (Accept all g)
shortened_accept t all n g within =
    ap (λ (claims : ℕ). record (moved t (Accept all g)) { claims = claims }) (as_many t.claims all n within)
  where
    as_many : (claims all n : ℕ) → n ≤ all → claims - (all - n) - n ≡ claims - all
    as_many claims all n within = omega arith

-- a group that may come in place of all may come so
pub shortened_may : (t : Translation) (all n : ℕ) (g : Group) → n ≤ all → length g ≤ n →
    IsAllowedMove t (Accept all g) → IsAllowedMove (moved t (Release (all - n))) (Accept n g)
shortened_may t all n g within fits may = (
  may.0,
  may.1,
  fits,
  left t.claims all n within may.3,
  record {
    some = may.4.some;
    not_long = may.4.not_long;
    differ = may.4.differ;
    items = All-weaker (IsItem t) (IsItem (moved t (Release (all - n))))
        (λ item is. record { key = is.key; block = is.block; settings = is.settings }) g may.4.items;
  },
)
  where
    left : (claims all n : ℕ) → n ≤ all → all ≤ claims → n ≤ claims - (all - n)
    left claims all n within there = omega arith
