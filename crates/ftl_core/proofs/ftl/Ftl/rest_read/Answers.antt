use Rattle.ftl_core.proofs.Common.{Core, List, Pending, Some, ap, arith, false, first_waiting_from, length}
use Rattle.ftl_core.proofs.Common.{option_and_then, owes_rest, rest_read_of, rules, slice_get, sym, true, ◌∙◌, ◌≡◌}
use Rattle.ftl_core.proofs.FirstWaiting.{first_found, none_yet}
use Rattle.ftl_core.proofs.rests_owed.NoneOwed.{none_owed, none_owed_to}
use Rattle.ftl_core.proofs.ftl.Ftl.rest_read.Goals as goal

pub overflow_add-from : goal.overflow_add-from
overflow_add-from c = omega (arith, c.in-Some.ensures.small)

pub returns-then-owes_rest : goal.returns-then-owes_rest
returns-then-owes_rest c =
    let core = c.args.self.now in
    let page = c.in_ok-page.page.now in
    let same = ap (λ (z : Core). z.pages) c.self.view_is in
    let next = none_owed_to core.rows c.args.die core.pages c.loop-at.from c.in-Some.at c.loop-at.invariant
    (c.in-Some.ensures.what ∙ ap (λ (qs : List Pending). first_waiting_from qs c.loop-at.from) same) in
    let there : slice_get core.pages c.in-Some.at ≡ Some page = search rules in
    let owes : owes_rest core.rows c.args.die page ≡ true = search rules in
    c.rest_read_of.ensures
    ∙ sym (ap (option_and_then rest_read_of)
    (first_found (owes_rest core.rows c.args.die) core.pages c.in-Some.at page next.0 there owes))

pub loop-at-smaller : goal.loop-at-smaller
loop-at-smaller c =
    let core = c.args.self.now in
    let same = ap (λ (z : Core). z.pages) c.self.view_is in
    let long = ap (λ (qs : List Pending). length qs) same in
    let next = none_owed_to core.rows c.args.die core.pages c.loop-at.from c.in-Some.at c.loop-at.invariant
    (c.in-Some.ensures.what ∙ ap (λ (qs : List Pending). first_waiting_from qs c.loop-at.from) same) in
    let less = c.in-Some.ensures.less in
    let behind = next.1 in
    omega (arith, long, less, behind)

pub loop-at-preserved : goal.loop-at-preserved
loop-at-preserved c =
    let core = c.args.self.now in
    let page = c.in_ok-page.page.now in
    let same = ap (λ (z : Core). z.pages) c.self.view_is in
    let next = none_owed_to core.rows c.args.die core.pages c.loop-at.from c.in-Some.at c.loop-at.invariant
    (c.in-Some.ensures.what ∙ ap (λ (qs : List Pending). first_waiting_from qs c.loop-at.from) same) in
    let there : slice_get core.pages c.in-Some.at ≡ Some page = search rules in
    let fails : owes_rest core.rows c.args.die page ≡ false = search rules in
    none_yet (owes_rest core.rows c.args.die) core.pages c.in-Some.at page next.0 there fails

pub returns : goal.returns
returns c =
    let same = ap (λ (z : Core). z.pages) c.self.view_is in
    sym (ap (option_and_then rest_read_of)
    (none_owed c.args.self.now.rows c.args.die c.args.self.now.pages c.loop-at.from c.loop-at.invariant
    (c.in_default.ensures.what ∙ ap (λ (qs : List Pending). first_waiting_from qs c.loop-at.from) same)))
