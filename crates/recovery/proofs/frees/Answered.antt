-- Lists with an answer for each block, or for each page, after one answer more.
use Rattle.recovery.proofs.Common.{AreNeeded, Bool, Fence, FoundPage, List, Option, Shape, Some, [], ap, arith}
use Rattle.recovery.proofs.Common.{cases_lt, get_grows, get_last, length, same_Some, slice_get, subst, suc, sym, true}
use Rattle.recovery.proofs.Common.{ℕ, ⊎_elim, ◌++◌, ◌+◌, ◌<◌, ◌∙◌, ◌∷◌, ◌≡◌, ◌≤◌}
use Rattle.recovery.specs.Frees.{TellsNeed}

-- the answer of the block is written, and the others stay
pub record IsAnswered (old new : List Bool) (block : ℕ) (given : Bool) : Type 0 where
  pub long : length new ≡ length old
  pub other : (k : ℕ) → (k ≡ block → ⊥) → slice_get new k ≡ slice_get old k
  pub here : (x : Bool) → slice_get new block ≡ Some x → x ≡ given

-- Pages that are needed

pub one_told : (s : Shape) (fence : Option Fence) (contents : List (Option FoundPage)) (pages : List FoundPage) (n : ℕ)
    (e : FoundPage) (needed : List Bool) (told : Bool) → slice_get pages n ≡ Some e → length needed ≡ n →
    TellsNeed s fence contents e.tag told → AreNeeded s fence contents pages n needed →
    AreNeeded s fence contents pages (suc n) (needed ++ told ∷ [])
one_told s fence contents pages n e needed told at long tells are i f l there =
    ⊎_elim
    (λ (m : i < n). let r = are i f m there in (r.0, get_grows needed told i r.0 r.1, r.2))
    (λ (m : n ≤ i).
    let same : i ≡ n = omega (arith, l, m) in
    let is : e ≡ f = same_Some e f (sym at ∙ sym (ap (slice_get pages) same) ∙ there) in (
      told,
      ap (slice_get (needed ++ told ∷ [])) (same ∙ sym long) ∙ get_last needed told,
      subst (λ (g : FoundPage). TellsNeed s fence contents g.tag told) is tells,
    ))
    (cases_lt i n)

-- what is known of the needed ones among the pages from the first on, with one page more
pub one_more : (P : FoundPage → Type 0) (pages : List FoundPage) (needed : List Bool) (first n : ℕ) (e : FoundPage) →
    slice_get pages n ≡ Some e → (slice_get needed n ≡ Some true → P e) →
    ((i : ℕ) (f : FoundPage) → first ≤ i → i < n → slice_get pages i ≡ Some f → slice_get needed i ≡ Some true → P f) →
    (i : ℕ) (f : FoundPage) → first ≤ i → i < n + 1 → slice_get pages i ≡ Some f → slice_get needed i ≡ Some true → P f
one_more P pages needed first n e at here before i f low l there need =
    ⊎_elim (λ (m : i < n). before i f low m there need)
    (λ (m : n ≤ i). let same : i ≡ n = omega (arith, l, m) in
    subst P (same_Some e f (sym at ∙ sym (ap (slice_get pages) same) ∙ there))
    (here (sym (ap (slice_get needed) same) ∙ need)))
    (cases_lt i n)
