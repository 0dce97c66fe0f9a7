use Rattle.std.proofs.Common.{◌∙◌, sym}
use Rattle.std.specs.Cmp.Lexicographic.{other_text, same_text}
use Rattle.journal.proofs.kept.is_equal.Goals as goal

pub returns-clause-same : goal.returns-clause-same
returns-clause-same c = λ told. same_text _ _ (sym told ∙ c.eq.ensures)

pub returns-clause-differ : goal.returns-clause-differ
returns-clause-differ c = λ told same. other_text _ _ (sym told ∙ c.eq.ensures) same
