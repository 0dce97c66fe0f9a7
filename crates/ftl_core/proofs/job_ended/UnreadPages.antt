-- A page that opens to nothing gives no body.
use Rattle.ftl_core.proofs.Common.{IsBodyOf, Key, List, None, Option, Page, Some, Tag, refl, ℕ, ◌≡◌}
use Rattle.ufs_spec.specs.Pages.{IsSealedAs, IsTag}

none_is : (o : Option Tag) → ((x : Tag) → o ≡ Some x → ⊥) → o ≡ None
none_is None other = refl
none_is (Some x) other = absurd (other x refl)

pub none_opened :
    (page : Page) (k : Key) (n : ℕ) (o : Option Tag) →
    ((x : Tag) → o ≡ Some x → ⊥) →
    (o ≡ None → (t : Tag) (b : List ℕ) → IsTag t → IsSealedAs page t b → ⊥) →
    IsBodyOf page k n None
none_opened page k n o other refused = record {
  found = λ b is. absurd cc;
  none = λ is t b tag named sealed. refused (none_is o other) t b tag sealed;
}
