-- Outcomes of RPMB requests: by which no command is accepted, and which one by the others.
use Rattle.ufs_laws.proofs.Common.{Command, None, Option, Refused, Results, Some, Status, ℕ, ◌≡◌}

pub no_command : (n result : ℕ) (c : Command) → Results n None ≡ Results result (Some c) → ⊥
no_command n result c e = cc

pub refused : (status : Status) (result : ℕ) (c : Command) → Refused status ≡ Results result (Some c) → ⊥
refused status result c e = cc

pub same_command : (n result : ℕ) (a : Option Command) (c : Command) → Results n a ≡ Results result (Some c) →
    a ≡ Some c
same_command n result a c e = cc
