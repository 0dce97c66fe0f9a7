-- A command that is refused is not answered GOOD; and a CDB that spells no command is refused.
use Rattle.heard_laws.proofs.Common.{Bool, Cdb, List, None, Option, Request, Some, State, Status, [], false, false≢true}
use Rattle.heard_laws.proofs.Common.{if◌then◌else◌, is_good, none-some, refusal, same_Some, subst}
use Rattle.heard_laws.proofs.Common.{sym, true, ◌∷◌, ◌≡◌}
use Rattle.std.specs.List.{AllByRecursion}
use Rattle.ufs_spec.specs.Refusals.{Line, first_line, lines_after, table}
use Rattle.ufs_laws.proofs.exchanges.TakenCommandsKnown.{past}

-- each line of the table refuses with another status than GOOD
abbrev AreIll : List Line → Type 0
AreIll = AllByRecursion (λ (l : Line). is_good l.status ≡ true → ⊥)

first_ill : (ls : List Line) (status : Status) → AreIll ls → first_line ls ≡ Some status → is_good status ≡ true → ⊥
first_ill [] status all e = absurd (none-some status e)
first_ill (l ∷ ls) status all e = by l.applies e (first_ill ls status all.1)
  where
    by : (b : Bool) → (if b then Some l.status else first_line ls) ≡ Some status →
        (first_line ls ≡ Some status → is_good status ≡ true → ⊥) → is_good status ≡ true → ⊥
    by true k rest = subst (λ (x : Status). is_good x ≡ true → ⊥) (same_Some l.status status k) all.0
    by false k rest = rest k

ill : false ≡ true → ⊥
ill e = false≢true e

lines_ill : (s : State) (r : Request) (c : Option Cdb) → AreIll (lines_after s r c)
lines_ill s r None = (ill, tt)
lines_ill s r (Some c) =
    (ill, (ill, (ill, (ill, (ill, (ill, (ill, (ill, (ill, (ill, (ill, (ill, (ill, tt)))))))))))))

pub refused_ill : (s : State) (r : Request) {status : Status} → refusal s r ≡ Some status → is_good status ≡ true → ⊥
refused_ill s r {status} e = first_ill (table s r) status (ill, (ill, (ill, (ill, lines_ill s r r.cdb)))) e

-- the fifth line applies to what is no command
pub no_command : (s : State) (r : Request) → refusal s r ≡ None → r.cdb ≡ None → ⊥
no_command s r e none =
    let later = subst (λ (c : Option Cdb). first_line (lines_after s r c) ≡ None) none (past s r e).later in
    none-some _ (sym later)
