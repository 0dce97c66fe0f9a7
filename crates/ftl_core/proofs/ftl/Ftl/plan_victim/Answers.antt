use Rattle.ftl_core.proofs.Common.{Bool, Core, Inside, ap, core_of, has_few_free, subst, sym, victim, ◌∙◌, ◌≡◌}
use Rattle.std.proofs.Common.{is_some}
use Rattle.collector.specs.Plans.{IsPlanned, Plans}
use Rattle.ftl_core.specs.Turns.{IsBegunIf}
use Rattle.ftl_core.proofs.collected.VictimsFound.{begun_if, planned_if}
use Rattle.ftl_core.proofs.ftl.Ftl.plan_victim.Goals as goal

-- what is planned where blocks are scarce by what is kept
planned : (f : Inside) (p : Plans) (scarce : Bool) (c : Core) → core_of f ≡ c → scarce ≡ has_few_free c →
    IsPlanned f.plan f.live f.blocks scarce f.places f.cache.pages p →
    IsPlanned f.plan f.live f.blocks (has_few_free (core_of f)) f.places f.cache.pages p
planned f p scarce c same is h = subst (λ (b : Bool). IsPlanned f.plan f.live f.blocks b f.places f.cache.pages p)
    (is ∙ ap has_few_free (sym same)) h

pub returns-clause-due : goal.returns-clause-due
returns-clause-due c =
    let h = planned c.self.inside c.plan.new.self c.has_few_free-scarce.result c.args.self.now c.self.view_is
    c.has_few_free-scarce.ensures c.plan.ensures.after in
    c.plan.ensures.any
    ∙ planned_if c.self.inside c.plan.new.self c.self.invariant h
    ∙ ap (λ (z : Core). is_some (victim z)) c.self.view_is

pub returns-clause-after : goal.returns-clause-after
returns-clause-after c =
    let new = core_of (record c.self.inside { plan = c.plan.new.self }) in
    let none = ap (λ (z : Core). z.plan) c.self.view_is ∙ c.requires in
    let h = planned c.self.inside c.plan.new.self c.has_few_free-scarce.result c.args.self.now c.self.view_is
    c.has_few_free-scarce.ensures c.plan.ensures.after in
    subst (λ (z : Core). IsBegunIf z c.plan.result new) c.self.view_is
    (subst (λ (b : Bool). IsBegunIf (core_of c.self.inside) b new) (sym c.plan.ensures.any)
    (begun_if c.self.inside c.plan.new.self c.self.invariant h none))
