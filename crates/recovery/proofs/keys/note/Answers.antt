use Rattle.recovery.proofs.Common.{IsIndex, IsKey, Key, arith, shape_of_numbers, subst, sym, ◌∙◌}
use Rattle.recovery.proofs.key_order.Entries.{entry_stays, entry_taken, unknown_passed}
use Rattle.recovery.proofs.keys.note.Goals as goal

pub returns-then-is_newer : goal.returns-then-is_newer
returns-then-is_newer c =
    entry_taken (shape_of_numbers c.args.numbers.now) c.args.fence c.args.kept c.args.entries.now c.args.page
    c.in-Some.index
    (subst (λ (k : Key). IsIndex (shape_of_numbers c.args.numbers.now) k c.in-Some.index) c.key_of.ensures
    c.in-Some.ensures.is)
    (omega (arith, c.in-Some.ensures.known.1))
    (sym c.is_fenced.ensures ∙ c.if-is_fenced.false)
    c.if-page-kept.false
    (sym c.is_newer.ensures ∙ c.if-is_newer.true)

pub returns-else-is_newer : goal.returns-else-is_newer
returns-else-is_newer c =
    entry_stays (shape_of_numbers c.args.numbers.now) c.args.fence c.args.kept c.args.entries.now c.args.page
    c.in-Some.index
    (subst (λ (k : Key). IsIndex (shape_of_numbers c.args.numbers.now) k c.in-Some.index) c.key_of.ensures
    c.in-Some.ensures.is)
    (sym c.is_newer.ensures ∙ c.if-is_newer.false)

pub returns-in_default : goal.returns-in_default
returns-in_default c =
    unknown_passed (shape_of_numbers c.args.numbers.now) c.args.fence c.args.kept c.args.entries.now c.args.page
    (λ is. c.in_default.ensures.is
    (subst (λ (k : Key). IsKey (shape_of_numbers c.args.numbers.now) k) (sym c.key_of.ensures) is))
