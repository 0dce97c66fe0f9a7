-- The claims of a row, which are all of one reader.
use Rattle.write_cache.proofs.Common.{AreOf, Bool, Claimed, List, None, Option, Pending, Some, [], ap, claim_brought}
use Rattle.write_cache.proofs.Common.{claim_filled, claims_but, claims_of, cond, false, filter_map, is_claim_behind}
use Rattle.write_cache.proofs.Common.{is_claim_of, map, nat_le, not, refl, slice_get, sym, true, without_claims}
use Rattle.write_cache.proofs.Common.{without_claims_behind, ℕ, ◌++◌, ◌∙◌, ◌∷◌, ◌≡◌}
use Rattle.std.proofs.Common.{append-nil, eq-eqb, ne_eqb, ◌&&◌, ◌==◌}
use Rattle.write_cache.specs.declared.rests.NewPage.{NewPage}
use Rattle.write_cache.specs.Rests.{claim_with}

-- What is of the reader stays of the reader

pub of_more : (reader : ℕ) (claims : List Claimed) (claim : Claimed) → AreOf reader claims →
    claim.reader ≡ reader → AreOf reader (claims ++ claim ∷ [])
of_more reader [] claim all one = (one, tt)
of_more reader (x ∷ claims) claim all one = (all.0, of_more reader claims claim all.1 one)

pub of_map : (f : Claimed → Claimed) → ((claim : Claimed) → (f claim).reader ≡ claim.reader) →
    (reader : ℕ) (claims : List Claimed) → AreOf reader claims → AreOf reader (map f claims)
of_map f same reader [] all = tt
of_map f same reader (x ∷ claims) all = (same x ∙ all.0, of_map f same reader claims all.1)

pub of_but : (goes : Claimed → Bool) (reader : ℕ) (claims : List Claimed) → AreOf reader claims →
    AreOf reader (claims_but goes claims)
of_but goes reader [] all = tt
of_but goes reader (x ∷ claims) all = by (not (goes x)) (of_but goes reader claims all.1)
  where
    by : (b : Bool) → AreOf reader (claims_but goes claims) →
        AreOf reader (cond b (x ∷ claims_but goes claims) (claims_but goes claims))
    by true more = (all.0, more)
    by false more = more

-- the bytes do not change whose the claim is
pub brought_reader : (ps : List Pending) (reader : ℕ) (xs : List NewPage) (claim : Claimed) →
    (claim_brought ps reader xs claim).reader ≡ claim.reader
brought_reader ps reader xs claim = by (is_claim_of reader claim) (slice_get xs claim.index)
  where
    by : (b : Bool) (o : Option NewPage) → (cond b (claim_with ps o claim) claim).reader ≡ claim.reader
    by true None = refl
    by true (Some x) = refl
    by false o = refl

-- All claims are of the reader

pub own_all : (reader : ℕ) (claims : List Claimed) → AreOf reader claims → claims_of claims reader ≡ claims
own_all reader [] all = refl
own_all reader (x ∷ claims) all =
    ap (λ (b : Bool). cond b (x ∷ claims_of claims reader) (claims_of claims reader))
    (eq-eqb x.reader reader all.0)
    ∙ ap (λ (xs : List Claimed). x ∷ xs) (own_all reader claims all.1)

pub own_same : (own reader : ℕ) (claims : List Claimed) → AreOf own claims → own ≡ reader →
    claims_of claims reader ≡ claims
own_same own reader claims all same = ap (λ (n : ℕ). claims_of claims n) (sym same) ∙ own_all own claims all

-- All claims are of another reader

-- a claim of the one is none of the other
pub is_other : (own reader : ℕ) (claim : Claimed) → claim.reader ≡ own → (own ≡ reader → ⊥) →
    is_claim_of reader claim ≡ false
is_other own reader claim is other = ne_eqb claim.reader reader (λ same. other (sym is ∙ same))

pub others_none : (own reader : ℕ) (claims : List Claimed) → AreOf own claims → (own ≡ reader → ⊥) →
    claims_of claims reader ≡ []
others_none own reader [] all other = refl
others_none own reader (x ∷ claims) all other =
    ap (λ (b : Bool). cond b (x ∷ claims_of claims reader) (claims_of claims reader))
    (is_other own reader x all.0 other)
    ∙ others_none own reader claims all.1 other

-- what leaves each claim of a reader leaves them all
others_same : (f : Claimed → Claimed) (own : ℕ) → ((claim : Claimed) → claim.reader ≡ own → f claim ≡ claim) →
    (claims : List Claimed) → AreOf own claims → map f claims ≡ claims
others_same f own same [] all = refl
others_same f own same (x ∷ claims) all =
    ap (λ (y : Claimed). y ∷ map f claims) (same x all.0)
    ∙ ap (λ (xs : List Claimed). x ∷ xs) (others_same f own same claims all.1)

-- where none of them goes all stay
others_stay : (goes : Claimed → Bool) (own : ℕ) → ((claim : Claimed) → claim.reader ≡ own → goes claim ≡ false) →
    (claims : List Claimed) → AreOf own claims → claims_but goes claims ≡ claims
others_stay goes own none [] all = refl
others_stay goes own none (x ∷ claims) all =
    ap (λ (b : Bool). cond (not b) (x ∷ claims_but goes claims) (claims_but goes claims)) (none x all.0)
    ∙ ap (λ (xs : List Claimed). x ∷ xs) (others_stay goes own none claims all.1)

pub others_filled : (own reader index : ℕ) (block : List ℕ) (claims : List Claimed) → AreOf own claims →
    (own ≡ reader → ⊥) → map (claim_filled reader index block) claims ≡ claims
others_filled own reader index block claims all other = others_same (claim_filled reader index block) own one claims all
  where
    one : (claim : Claimed) → claim.reader ≡ own → claim_filled reader index block claim ≡ claim
    one claim is =
        ap (λ (b : Bool). record claim { body = cond (b && (claim.index == index)) block claim.body })
        (is_other own reader claim is other)

pub others_brought : (own reader : ℕ) (ps : List Pending) (xs : List NewPage) (claims : List Claimed) →
    AreOf own claims → (own ≡ reader → ⊥) → map (claim_brought ps reader xs) claims ≡ claims
others_brought own reader ps xs claims all other = others_same (claim_brought ps reader xs) own one claims all
  where
    one : (claim : Claimed) → claim.reader ≡ own → claim_brought ps reader xs claim ≡ claim
    one claim is =
        ap (λ (b : Bool). cond b (claim_with ps (slice_get xs claim.index) claim) claim)
        (is_other own reader claim is other)

pub others_left : (own reader : ℕ) (claims : List Claimed) → AreOf own claims → (own ≡ reader → ⊥) →
    without_claims claims reader ≡ claims
others_left own reader claims all other =
    others_stay (is_claim_of reader) own (λ claim is. is_other own reader claim is other) claims all

pub others_left_behind : (own reader count : ℕ) (claims : List Claimed) → AreOf own claims → (own ≡ reader → ⊥) →
    without_claims_behind claims reader count ≡ claims
others_left_behind own reader count claims all other = others_stay (is_claim_behind reader count) own one claims all
  where
    one : (claim : Claimed) → claim.reader ≡ own → is_claim_behind reader count claim ≡ false
    one claim is = ap (λ (b : Bool). b && nat_le count claim.index) (is_other own reader claim is other)

-- and no page comes of them
pub others_moved : (own reader : ℕ) (f : Claimed → Pending) (claims : List Claimed) (pages : List Pending) →
    AreOf own claims → (own ≡ reader → ⊥) → pages ≡ pages ++ map f (claims_of claims reader)
others_moved own reader f claims pages all other =
    sym (ap (λ (xs : List Claimed). pages ++ map f xs) (others_none own reader claims all other) ∙ append-nil pages)

pub others_paged : (own reader : ℕ) (f : Claimed → Option Pending) (claims : List Claimed) (pages : List Pending) →
    AreOf own claims → (own ≡ reader → ⊥) → pages ≡ pages ++ filter_map f (claims_of claims reader)
others_paged own reader f claims pages all other =
    sym (ap (λ (xs : List Claimed). pages ++ filter_map f xs) (others_none own reader claims all other)
    ∙ append-nil pages)
