use Rattle.std.proofs.Common.{◌∙◌, sym}
use Rattle.std.specs.Str.Parse.{ExplainsUnsignedError, HasUnsignedDigitsIfOk, ParsesUnsigned}
use Rattle.clap.specs.Words.{found_of, one_text}
use Rattle.clap.proofs.WalkLemmas.{one_text-rows}
use Rattle.command_line.proofs.Numbers.{read_number}
use Rattle.command_line.proofs.words.number_in.Goals as goal

pub returns-in-Some : goal.returns-in-Some
returns-in-Some c =
    let same = one_text-rows (found_of c.args.matches.now) c.args.name.now in
    let read = read_number (λ bs r. ParsesUnsigned 8 10 bs r × ExplainsUnsignedError 10 bs r × HasUnsignedDigitsIfOk bs r) 8
    (one_text (found_of c.args.matches.now) c.args.name.now) c.get_one.result c.in-Some.number (λ t x g. g.0) c.in-Some.is
    c.get_one.ensures.none c.get_one.ensures.value in
    (read.0, sym same ∙ read.1, read.2)
