use Rattle.std.proofs.Common.{ap, arith, length, subst, List, ℕ}
use Rattle.word_set.specs.Tests.{IsFirstFrom, has_in}
use Rattle.word_set.specs.Flags.{is_set}
use Rattle.word_set.proofs.Flags.{first_less}
use Rattle.word_set.proofs.WordBits.{first_seen}
use Rattle.word_set.proofs.words.WordSet.first_from.Goals as goal

pub first_in-requires : goal.first_in-requires
first_in-requires c =
    let few = c.self.invariant.few in
    let whole = c.self.invariant.whole in
    let same = ap (λ (xs : List ℕ). length xs) c.deref.ensures.value in
    omega arith

pub returns-clause-what : goal.returns-clause-what
returns-clause-what c =
    let f = c.self.inside in
    first_seen f.size c.args.at f.words.items c.args.self.now c.first_in.result c.self.view_is c.self.invariant.below
    (subst (λ (xs : List ℕ). IsFirstFrom (has_in xs) c.args.at c.first_in.result) c.deref.ensures.value
    c.first_in.ensures)

pub returns-clause-less : goal.returns-clause-less
returns-clause-less c =
    let f = c.self.inside in
    first_less is_set c.args.self.now c.args.at c.first_in.result
    (first_seen f.size c.args.at f.words.items c.args.self.now c.first_in.result c.self.view_is c.self.invariant.below
    (subst (λ (xs : List ℕ). IsFirstFrom (has_in xs) c.args.at c.first_in.result) c.deref.ensures.value
    c.first_in.ensures))
