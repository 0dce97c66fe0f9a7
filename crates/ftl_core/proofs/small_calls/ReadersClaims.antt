-- The claims of each reader, as readers claim slots, fill them and give them back.
use Rattle.ftl_core.proofs.Common.{Bool, Claimed, Core, List, [], ap, append-nil, arith, below, cases_Bool, claim_at}
use Rattle.ftl_core.proofs.Common.{claim_filled, claimed_all, claims_behind, claims_for, claims_of_blocks, cond}
use Rattle.ftl_core.proofs.Common.{empty_claim, eq-eqb, eqb-true, false, filter-append, if◌then◌else◌, is_claim_of}
use Rattle.ftl_core.proofs.Common.{length, length-replicate, map, map-append, not, refl, replicate, suc, sym, true}
use Rattle.ftl_core.proofs.Common.{zero, ℕ, ⊎_elim, ◌&&◌, ◌++◌, ◌+◌, ◌==◌, ◌∙◌, ◌∷◌, ◌≡◌}
use Rattle.std.proofs.Common.{filter}
use Rattle.std.proofs.lemmas.List.{replicate_more}
use Rattle.std.proofs.lemmas.List.Filters.{length-filter_both}
use Rattle.ufs_spec.proofs.Facts.{cond-false, cond-true}
use Rattle.ufs_spec.specs.Plain.{zero_block}

-- Filters

-- what passes is not left where none that passes is kept
none_left : {A : Type 0} (p : A → Bool) (xs : List A) → filter p (filter (λ x. not (p x)) xs) ≡ []
none_left p [] = refl
none_left {A} p (x ∷ xs) = by (p x) refl (none_left p xs)
  where
    by : (b : Bool) → p x ≡ b → filter p (filter (λ y. not (p y)) xs) ≡ [] →
        filter p (cond (not b) (x ∷ filter (λ y. not (p y)) xs) (filter (λ y. not (p y)) xs)) ≡ []
    by true e rest = rest
    by false e rest = cond-false (p x) (x ∷ filter p (filter (λ y. not (p y)) xs))
        (filter p (filter (λ y. not (p y)) xs)) e ∙ rest

-- and what passes another test is
pub others_left : {A : Type 0} (p q : A → Bool) (xs : List A) → ((x : A) → p x ≡ true → q x ≡ false) →
    filter q (filter (λ x. not (p x)) xs) ≡ filter q xs
others_left p q [] apart = refl
others_left {A} p q (x ∷ xs) apart = by (p x) refl (others_left p q xs apart)
  where
    by : (b : Bool) → p x ≡ b → filter q (filter (λ y. not (p y)) xs) ≡ filter q xs →
        filter q (cond (not b) (x ∷ filter (λ y. not (p y)) xs) (filter (λ y. not (p y)) xs)) ≡ filter q (x ∷ xs)
    by true e rest = rest ∙ sym (cond-false (q x) (x ∷ filter q xs) (filter q xs) (apart x e))
    by false e rest = ap (λ (ys : List A). cond (q x) (x ∷ ys) ys) rest

-- a change that the test does not see
filter_changed : {A : Type 0} (q : A → Bool) (f : A → A) (xs : List A) → ((x : A) → q (f x) ≡ q x) →
    filter q (map f xs) ≡ map f (filter q xs)
filter_changed q f [] same = refl
filter_changed {A} q f (x ∷ xs) same = ap (λ (b : Bool). cond b (f x ∷ filter q (map f xs)) (filter q (map f xs)))
    (same x) ∙ by (q x) (filter_changed q f xs same)
  where
    by : (b : Bool) → filter q (map f xs) ≡ map f (filter q xs) →
        cond b (f x ∷ filter q (map f xs)) (filter q (map f xs)) ≡ map f (cond b (x ∷ filter q xs) (filter q xs))
    by true rest = ap (λ (ys : List A). f x ∷ ys) rest
    by false rest = rest

-- and that leaves what passes
map_left : {A : Type 0} (q : A → Bool) (f : A → A) (xs : List A) → ((x : A) → q x ≡ true → f x ≡ x) →
    map f (filter q xs) ≡ filter q xs
map_left q f [] same = refl
map_left {A} q f (x ∷ xs) same = by (q x) refl (map_left q f xs same)
  where
    by : (b : Bool) → q x ≡ b → map f (filter q xs) ≡ filter q xs →
        map f (cond b (x ∷ filter q xs) (filter q xs)) ≡ cond b (x ∷ filter q xs) (filter q xs)
    by true e rest = (λ i. same x e i ∷ rest i)
    by false e rest = rest

-- Readers

pub other_claim : (reader other : ℕ) → (other ≡ reader → ⊥) → (claim : Claimed) → is_claim_of reader claim ≡ true →
    is_claim_of other claim ≡ false
other_claim reader other apart claim e =
    ⊎_elim
    (λ (k : is_claim_of other claim ≡ true).
    absurd (apart (sym (eqb-true claim.reader other k) ∙ eqb-true claim.reader reader e)))
    (λ k. k)
    (cases_Bool (is_claim_of other claim))

-- Claiming

all_claimed : (reader : ℕ) (is : List ℕ) →
    filter (is_claim_of reader) (map (empty_claim reader) is) ≡ map (empty_claim reader) is
all_claimed reader [] = refl
all_claimed reader (i ∷ is) =
    cond-true (reader == reader) (empty_claim reader i ∷ filter (is_claim_of reader) (map (empty_claim reader) is))
    (filter (is_claim_of reader) (map (empty_claim reader) is)) (eq-eqb reader reader refl)
    ∙ ap (λ (claims : List Claimed). empty_claim reader i ∷ claims) (all_claimed reader is)

none_claimed : (reader other : ℕ) (is : List ℕ) → (other ≡ reader → ⊥) →
    filter (is_claim_of other) (map (empty_claim reader) is) ≡ []
none_claimed reader other [] apart = refl
none_claimed reader other (i ∷ is) apart =
    cond-false (reader == other) (empty_claim reader i ∷ filter (is_claim_of other) (map (empty_claim reader) is))
    (filter (is_claim_of other) (map (empty_claim reader) is))
    (other_claim reader other apart (empty_claim reader i) (eq-eqb reader reader refl))
    ∙ none_claimed reader other is apart

-- one block more at the end
claims_more : (reader i : ℕ) (bodies : List (List ℕ)) (body : List ℕ) →
    claims_behind reader i (bodies ++ body ∷ [])
    ≡ claims_behind reader i bodies ++ claim_at reader (i + length bodies) body ∷ []
claims_more reader i [] body = ap (λ (n : ℕ). claim_at reader n body ∷ []) (same i)
  where
    same : (i : ℕ) → i ≡ i + 0
    same i = omega arith
claims_more reader i (x ∷ bodies) body =
    ap (λ (claims : List Claimed). claim_at reader i x ∷ claims)
    (claims_more reader (i + 1) bodies body
    ∙ ap (λ (n : ℕ). claims_behind reader (i + 1) bodies ++ claim_at reader n body ∷ []) (next i (length bodies)))
  where
    next : (i n : ℕ) → i + 1 + n ≡ i + suc n
    next i n = omega arith

-- what is claimed holds zeros
pub zeros_claimed : (reader n : ℕ) →
    map (empty_claim reader) (below n) ≡ claims_of_blocks reader (replicate n zero_block)
zeros_claimed reader zero = refl
zeros_claimed reader (suc n) =
    map-append (empty_claim reader) (below n) (n ∷ [])
    ∙ (ap (λ (claims : List Claimed). claims ++ empty_claim reader n ∷ []) (zeros_claimed reader n)
    ∙ (ap (λ (m : ℕ). claims_behind reader 0 (replicate n zero_block) ++ claim_at reader m zero_block ∷ []) long
    ∙ (sym (claims_more reader 0 (replicate n zero_block) zero_block)
    ∙ ap (claims_behind reader 0) (replicate_more n zero_block ∙ ap (λ (m : ℕ). replicate m zero_block) (one n)))))
  where
    one : (n : ℕ) → n + 1 ≡ suc n
    one n = omega arith

    long : n ≡ 0 + length (replicate n zero_block)
    long = omega (arith, length-replicate n zero_block)

pub claims_reserved : (reader blocks : ℕ) (claims after : List Claimed) →
    after ≡ claims ++ map (empty_claim reader) (below blocks) → filter (is_claim_of reader) claims ≡ [] →
    filter (is_claim_of reader) after ≡ claims_of_blocks reader (replicate blocks zero_block)
claims_reserved reader blocks claims after new none =
    ap (filter (is_claim_of reader)) new
    ∙ (filter-append (is_claim_of reader) claims (map (empty_claim reader) (below blocks))
    ∙ (ap (λ (front : List Claimed). front ++ filter (is_claim_of reader) (map (empty_claim reader) (below blocks)))
    none ∙ (all_claimed reader (below blocks) ∙ zeros_claimed reader blocks)))

pub others_reserved : (reader blocks : ℕ) (claims after : List Claimed) →
    after ≡ claims ++ map (empty_claim reader) (below blocks) → (other : ℕ) → (other ≡ reader → ⊥) →
    filter (is_claim_of other) after ≡ filter (is_claim_of other) claims
others_reserved reader blocks claims after new other apart =
    ap (filter (is_claim_of other)) new
    ∙ (filter-append (is_claim_of other) claims (map (empty_claim reader) (below blocks))
    ∙ (ap (λ (behind : List Claimed). filter (is_claim_of other) claims ++ behind)
    (none_claimed reader other (below blocks) apart) ∙ append-nil (filter (is_claim_of other) claims)))

-- Giving back

-- what is left where a reader has claimed nothing any more
pub none_after : (reader : ℕ) (claims after : List Claimed) →
    after ≡ filter (λ claim. not (is_claim_of reader claim)) claims → filter (is_claim_of reader) after ≡ []
none_after reader claims after new = ap (filter (is_claim_of reader)) new ∙ none_left (is_claim_of reader) claims

-- beside what it had claimed
pub left_beside : (reader : ℕ) (claims after : List Claimed) →
    after ≡ filter (λ claim. not (is_claim_of reader claim)) claims →
    length after + length (filter (is_claim_of reader) claims) ≡ length claims
left_beside reader claims after new =
    let same = ap (λ (xs : List Claimed). length xs) new in
    let both = length-filter_both (is_claim_of reader)
    (λ claim. not (is_claim_of reader claim)) (λ claim. refl) claims in
    omega (arith, same, both)

pub others_after : (reader : ℕ) (claims after : List Claimed) →
    after ≡ filter (λ claim. not (is_claim_of reader claim)) claims → (other : ℕ) → (other ≡ reader → ⊥) →
    filter (is_claim_of other) after ≡ filter (is_claim_of other) claims
others_after reader claims after new other apart =
    ap (filter (is_claim_of other)) new
    ∙ others_left (is_claim_of reader) (is_claim_of other) claims (other_claim reader other apart)

-- Filling

pub claims_filled : (reader index : ℕ) (body : List ℕ) (claims after : List Claimed) →
    after ≡ map (claim_filled reader index body) claims →
    filter (is_claim_of reader) after ≡ map (claim_filled reader index body) (filter (is_claim_of reader) claims)
claims_filled reader index body claims after new =
    ap (filter (is_claim_of reader)) new
    ∙ filter_changed (is_claim_of reader) (claim_filled reader index body) claims (λ claim. refl)

-- what another reader claimed is not filled
not_filled : (reader index : ℕ) (body : List ℕ) (other : ℕ) → (other ≡ reader → ⊥) → (claim : Claimed) →
    is_claim_of other claim ≡ true → claim_filled reader index body claim ≡ claim
not_filled reader index body other apart claim e =
    ap (λ (b : Bool). record claim { body = if b && (claim.index == index) then body else claim.body })
    (other_claim other reader (λ k. apart (sym k)) claim e)

pub others_filled : (reader index : ℕ) (body : List ℕ) (claims after : List Claimed) →
    after ≡ map (claim_filled reader index body) claims → (other : ℕ) → (other ≡ reader → ⊥) →
    filter (is_claim_of other) after ≡ filter (is_claim_of other) claims
others_filled reader index body claims after new other apart =
    ap (filter (is_claim_of other)) new
    ∙ (filter_changed (is_claim_of other) (claim_filled reader index body) claims (λ claim. refl)
    ∙ map_left (is_claim_of other) (claim_filled reader index body) claims
    (not_filled reader index body other apart))

-- Whether or not as many are free

pub claims_either : (c after : Core) (reader blocks : ℕ) (free : Bool) →
    after ≡ (if free then claimed_all c reader blocks else c) → claims_for c reader ≡ [] →
    claims_for after reader ≡ (if free then claims_of_blocks reader (replicate blocks zero_block) else [])
claims_either c after reader blocks true new none =
    claims_reserved reader blocks c.claims after.claims (ap (λ (z : Core). z.claims) new) none
claims_either c after reader blocks false new none = ap (λ (z : Core). claims_for z reader) new ∙ none

pub others_either : (c after : Core) (reader blocks : ℕ) (free : Bool) →
    after ≡ (if free then claimed_all c reader blocks else c) → (other : ℕ) → (other ≡ reader → ⊥) →
    claims_for after other ≡ claims_for c other
others_either c after reader blocks true new other apart =
    others_reserved reader blocks c.claims after.claims (ap (λ (z : Core). z.claims) new) other apart
others_either c after reader blocks false new other apart = ap (λ (z : Core). claims_for z other) new
