-- A number that was read of a command's matches is the one that its text spells.
use Rattle.std.proofs.Common.{◌≡◌, ◌∙◌, ℕ, List, refl, sym, subst}
use Rattle.std.specs.Prelude.{Option, Some, None, Result, Ok}
use Rattle.std.specs.Str.Parse.{ParsesUnsigned, digits_value, without_leading_plus}
use Rattle.std.proofs.lemmas.Option.{none-some}
use Rattle.clap.specs.Words.{ReadsOne, Text}

pub read_number : {E : Type 0} (G : List ℕ → Result ℕ E → Type 0) (k : ℕ) (text : Option Text) (r : Option ℕ) (n : ℕ) →
    ((t : Text) (x : Result ℕ E) → G t x → ParsesUnsigned k 10 t x) → r ≡ Some n → (text ≡ None → r ≡ None) →
    ((t : Text) → text ≡ Some t → ReadsOne G t r) →
    (t : Text) × (text ≡ Some t) × (digits_value 10 (without_leading_plus t) ≡ n)
read_number G k None r n parses is none value = absurd (none-some n (sym (none refl) ∙ is))
read_number {E} G k (Some t) r n parses is none value =
    let read : G t (Ok n) = subst (λ (o : Option ℕ). ReadsOne G t o) is (value t refl) in
    (t, refl, sym (parses t (Ok n) read).1)
