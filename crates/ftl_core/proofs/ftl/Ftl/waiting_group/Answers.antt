use Rattle.ftl_core.proofs.Common.{Core, List, Pending, Some, ap, arith, false, length, option_map, page_waits, rules}
use Rattle.ftl_core.proofs.Common.{slice_get, sym, true, ◌∙◌, ◌≡◌}
use Rattle.write_cache.specs.Ready.{first_ready_from}
use Rattle.ftl_core.specs.Takes.{waiting_page}
use Rattle.ftl_core.proofs.FirstWaiting.{first_found, none_after_all, none_to, none_yet}
use Rattle.ftl_core.proofs.ftl.Ftl.waiting_group.Goals as goal

pub overflow_add-from : goal.overflow_add-from
overflow_add-from c = omega (arith, c.in-Some.ensures.small)

pub returns-then-page_waits : goal.returns-then-page_waits
returns-then-page_waits c =
    let rows = c.args.self.now.rows in
    let ps = c.args.self.now.pages in
    let page = c.in_ok-page.page.now in
    let same = ap (λ (z : Core). z.pages) c.self.view_is in
    let next = none_to rows ps c.loop-at.from c.in-Some.at c.loop-at.invariant
    (c.in-Some.ensures.what ∙ ap (λ (qs : List Pending). first_ready_from qs c.loop-at.from) same) in
    let there : slice_get ps c.in-Some.at ≡ Some page = search rules in
    let waits : page_waits rows page ≡ true = search rules in
    let is : c.waiting_page.result ≡ waiting_page page = search rules in
    ap (λ z. Some z) is
    ∙ sym (ap (option_map waiting_page) (first_found (page_waits rows) ps c.in-Some.at page next.0 there waits))

pub loop-at-smaller : goal.loop-at-smaller
loop-at-smaller c =
    let same = ap (λ (z : Core). z.pages) c.self.view_is in
    let long = ap (λ (qs : List Pending). length qs) same in
    let next = none_to c.args.self.now.rows c.args.self.now.pages c.loop-at.from c.in-Some.at c.loop-at.invariant
    (c.in-Some.ensures.what ∙ ap (λ (qs : List Pending). first_ready_from qs c.loop-at.from) same) in
    let less = c.in-Some.ensures.less in
    let behind = next.1 in
    omega (arith, long, less, behind)

pub loop-at-preserved : goal.loop-at-preserved
loop-at-preserved c =
    let rows = c.args.self.now.rows in
    let ps = c.args.self.now.pages in
    let page = c.in_ok-page.page.now in
    let same = ap (λ (z : Core). z.pages) c.self.view_is in
    let next = none_to rows ps c.loop-at.from c.in-Some.at c.loop-at.invariant
    (c.in-Some.ensures.what ∙ ap (λ (qs : List Pending). first_ready_from qs c.loop-at.from) same) in
    let there : slice_get ps c.in-Some.at ≡ Some page = search rules in
    let fails : page_waits rows page ≡ false = search rules in
    none_yet (page_waits rows) ps c.in-Some.at page next.0 there fails

pub returns : goal.returns
returns c =
    let same = ap (λ (z : Core). z.pages) c.self.view_is in
    sym (ap (option_map waiting_page)
    (none_after_all c.args.self.now.rows c.args.self.now.pages c.loop-at.from c.loop-at.invariant
    (c.in_default.ensures.what ∙ ap (λ (qs : List Pending). first_ready_from qs c.loop-at.from) same)))
