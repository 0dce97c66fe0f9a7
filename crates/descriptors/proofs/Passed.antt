-- A query to which no line of the table applies.
use Rattle.std.proofs.Common.{Bool, false, refl, sym, true, ℕ, ◌&&◌, ◌==◌, ◌∷◌, ◌≡◌, []}
use Rattle.std.specs.Prelude.{not}
use Rattle.ufs_spec.proofs.Facts.{eqb-true}
use Rattle.ufs_spec.specs.Plain.{Plain}
use Rattle.ufs_spec.specs.Queries.{Query, first_code, has_wrong_idn, has_wrong_index, has_wrong_opcode}
use Rattle.ufs_spec.specs.Queries.{has_wrong_selector, has_wrong_size, has_wrong_value, is_not_readable}
use Rattle.ufs_spec.specs.Queries.{is_not_writable, is_shut, query_code, query_line, was_written}
use Rattle.ufs_spec.specs.declared.configs.Numbers.{Numbers}

-- two numbers that are not the same
pub unlike : (m n : ℕ) → (m ≡ n → ⊥) → (m == n) ≡ false
unlike m n apart = by (m == n) refl
  where
    by : (b : Bool) → (m == n) ≡ b → (m == n) ≡ false
    by true e = absurd (apart (eqb-true m n e))
    by false e = e

-- what each line says of the query
pub record AreFalse (n : Numbers) (p : Plain) (may : Bool) (q : Query) : Type 0 where
  pub opcode : has_wrong_opcode q ≡ false
  pub nothing : (q.asked.opcode == 0) ≡ false
  pub idn : has_wrong_idn n q ≡ false
  pub index : has_wrong_index n q ≡ false
  pub selector : has_wrong_selector n q ≡ false
  pub read : is_not_readable n q ≡ false
  pub written : is_not_writable n q ≡ false
  pub size : has_wrong_size q ≡ false
  pub value : has_wrong_value n q ≡ false
  pub once : was_written p q ≡ false
  pub shut : is_shut may q ≡ false

-- so it succeeds, and is not no operation
pub passes : (n : Numbers) (p : Plain) (may : Bool) (q : Query) → AreFalse n p may q →
    true ≡ (query_code n p may q == 0x00) && not (q.asked.opcode == 0)
passes n p may q are =
    sym (λ i. (first_code
    (query_line (are.opcode i) 0xFE ∷ query_line (are.nothing i) 0x00 ∷ query_line (are.idn i) 0xFD
    ∷ query_line (are.index i) 0xFC ∷ query_line (are.selector i) 0xFB ∷ query_line (are.read i) 0xF6
    ∷ query_line (are.written i) 0xF7 ∷ query_line (are.size i) 0xF9 ∷ query_line (are.value i) 0xFA
    ∷ query_line (are.once i) 0xF8 ∷ query_line (are.shut i) 0xFF ∷ []) == 0x00) && not (are.nothing i))
