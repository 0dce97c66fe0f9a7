use Rattle.std.proofs.Common.{◌∙◌, ap, length, sym, Bool, List}
use Rattle.word_set.specs.Tests.{has_in}
use Rattle.word_set.proofs.Flags.{flags_length}
use Rattle.word_set.proofs.words.WordSet.size.Goals as goal

pub returns : goal.returns
returns c =
    sym (flags_length (has_in c.self.inside.words.items) 0 c.self.inside.size)
    ∙ ap (λ (xs : List Bool). length xs) c.self.view_is
