use Rattle.ftl_core.proofs.Common.{ap, arith, drop, refl, rest_unpinned, sym, without_pins, ◌∙◌}
use Rattle.ftl_core.specs.Rests.{rest_unpinned_at}
use Rattle.ftl_core.proofs.live_pages.RestPins.{filled_bare, next_unpinned, none_unpinned, walked_on}
use Rattle.ftl_core.proofs.ftl.pin_counts.unpin_rests.Goals as goal

pub overflow_add-from : goal.overflow_add-from
overflow_add-from c = omega (arith, c.in-Some.ensures.small)

pub loop-at-smaller : goal.loop-at-smaller
loop-at-smaller c =
    let next = next_unpinned c.args.name c.args.cache.now.pages c.loop-at.from c.in-Some.at c.loop-at.live
    (sym c.in-Some.ensures.what) in
    let less = c.in-Some.ensures.less in
    let behind = next.1 in
    omega (arith, less, behind)

pub loop-at-preserved : goal.loop-at-preserved
loop-at-preserved c =
    walked_on (rest_unpinned c.args.name) (rest_unpinned_at c.args.name) (λ l. refl) (λ l p. refl)
    c.args.cache.now.pages c.in-Some.at c.loop-at.live c.unpin_rest.new.live c.unpin_rest.ensures
    ∙ sym (next_unpinned c.args.name c.args.cache.now.pages c.loop-at.from c.in-Some.at c.loop-at.live
    (sym c.in-Some.ensures.what)).0
    ∙ c.loop-at.invariant

pub returns-clause-is : goal.returns-clause-is
returns-clause-is c =
    sym (none_unpinned c.args.name c.args.cache.now.pages c.loop-at.from c.loop-at.live (sym c.in_default.ensures.what))
    ∙ c.loop-at.invariant

pub returns-clause-same : goal.returns-clause-same
returns-clause-same c =
    sym (filled_bare c.args.name (drop c.loop-at.from c.args.cache.now.pages) c.loop-at.live)
    ∙ ap without_pins c.loop-at.invariant
    ∙ filled_bare c.args.name c.args.cache.now.pages c.args.live.now
