use Rattle.std.proofs.Common.{sym, ◌∙◌, refl}
use Rattle.ufsim.proofs.SpellingLemmas.{spelled_bytes-none, spelled_bytes-some}
use Rattle.ufsim.proofs.spelling.decoded.Goals as goal

pub returns-then-not-is_spelling-clause-refused : goal.returns-then-not-is_spelling-clause-refused
returns-then-not-is_spelling-clause-refused c =
    let none = spelled_bytes-none c.args.digits.now (sym c.is_spelling.ensures ∙ c.if-not-is_spelling.true) in
    (λ _. none, λ _. refl)

pub returns-in-Err-OutOfMemory-clause-refused : goal.returns-in-Err-OutOfMemory-clause-refused
returns-in-Err-OutOfMemory-clause-refused c =
    let found = spelled_bytes-some c.args.digits.now (sym c.is_spelling.ensures ∙ c.if-not-is_spelling.false) in
    (λ h. cc h, λ h. cc (sym found.2 ∙ h))
