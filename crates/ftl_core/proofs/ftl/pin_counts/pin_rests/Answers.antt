use Rattle.ftl_core.proofs.Common.{ap, drop, refl, rest_pinned, sym, without_pins, ◌∙◌}
use Rattle.ftl_core.specs.Rests.{rest_pinned_at}
use Rattle.ftl_core.proofs.live_pages.RestPins.{behind_bare, walked_on}
use Rattle.ftl_core.proofs.ftl.pin_counts.pin_rests.Goals as goal

pub loop-at-preserved : goal.loop-at-preserved
loop-at-preserved c =
    walked_on rest_pinned rest_pinned_at (λ l. refl) (λ l p. refl) c.args.cache.now.pages c.loop-at.at c.loop-at.live
    c.pin_rest.new.live c.pin_rest.ensures
    ∙ c.loop-at.invariant

pub returns-clause-same : goal.returns-clause-same
returns-clause-same c =
    sym (behind_bare (drop c.loop-at.at c.args.cache.now.pages) c.loop-at.live)
    ∙ ap without_pins c.loop-at.invariant
    ∙ behind_bare (drop c.args.before c.args.cache.now.pages) c.args.live.now
