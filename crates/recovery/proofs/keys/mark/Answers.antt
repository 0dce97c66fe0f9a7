use Rattle.recovery.proofs.Common.{IsIndex, IsKey, Key, arith, index_known, key_of, shape_of_numbers, subst, sym}
use Rattle.recovery.proofs.key_order.LostKeys.{key_marked, other_stays}
use Rattle.recovery.proofs.keys.mark.Goals as goal

pub returns-in-Some-clause-same : goal.returns-in-Some-clause-same
returns-in-Some-clause-same c = λ k i index apart.
    other_stays (shape_of_numbers c.args.numbers.now) c.args.marked.now (key_of c.args.tag) c.in-Some.index
    (subst (λ (k : Key). IsIndex (shape_of_numbers c.args.numbers.now) k c.in-Some.index) c.key_of.ensures
    c.in-Some.ensures.is)
    k i index (λ e. apart e c.if-tag-low.false)

pub returns-in-Some-clause-here : goal.returns-in-Some-clause-here
returns-in-Some-clause-here c = λ low i index.
    key_marked (shape_of_numbers c.args.numbers.now) c.args.marked.now (key_of c.args.tag) c.in-Some.index
    (subst (λ (k : Key). IsIndex (shape_of_numbers c.args.numbers.now) k c.in-Some.index) c.key_of.ensures
    c.in-Some.ensures.is)
    (omega (arith, c.in-Some.ensures.known.1)) i index

pub returns-in_default-clause-here : goal.returns-in_default-clause-here
returns-in_default-clause-here c = λ low i index.
    absurd (c.in_default.ensures.is
    (subst (λ (k : Key). IsKey (shape_of_numbers c.args.numbers.now) k) (sym c.key_of.ensures)
    (index_known (shape_of_numbers c.args.numbers.now) (key_of c.args.tag) i index)))
