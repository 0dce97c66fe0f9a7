-- Two units are equal where their comparison says so.
use Rattle.recovery.proofs.Common.{Bool, ap, ◌&&◌, ◌≡◌}
use Rattle.std.proofs.Common.{nat_eq}
use Rattle.std.specs.Bool.{Decides}
use Rattle.std.proofs.lemmas.Bool.Decides.{Decides-and, Decides-eqb, Decides-like}
use Rattle.ufs_spec.specs.declared.configs.UnitSpec.{UnitSpec}

abbrev pub unit_eq : UnitSpec → UnitSpec → Bool
unit_eq a b = nat_eq a.blocks b.blocks && (nat_eq a.boot b.boot && nat_eq a.protect b.protect)

pub same_unit : (a b : UnitSpec) → Decides (unit_eq a b) (a ≡ b)
same_unit a b =
    Decides-like (unit_eq a b) (λ h. fields h.0 h.1.0 h.1.1)
    (λ e. (ap (λ (u : UnitSpec). u.blocks) e, (ap (λ (u : UnitSpec). u.boot) e, ap (λ (u : UnitSpec). u.protect) e)))
    (Decides-and (nat_eq a.blocks b.blocks) _ (Decides-eqb a.blocks b.blocks)
    (Decides-and (nat_eq a.boot b.boot) _ (Decides-eqb a.boot b.boot) (Decides-eqb a.protect b.protect)))
  where
    fields : a.blocks ≡ b.blocks → a.boot ≡ b.boot → a.protect ≡ b.protect → a ≡ b
    fields e f g = λ i. record { blocks = e i; boot = f i; protect = g i }
