use Rattle.device.proofs.Common.{Ok, Phase, Plan, Result, Status, rules, subst, sym, ◌≡◌}
use Rattle.device.specs.Calls.{HasBegun, HasKept}
use Rattle.device.specs.declared.plans.Plan.TheVariants as plan
use Rattle.device.proofs.device.Device.begin.Goals as goal

pub returns-in-Ok-Read-clause-begun : goal.returns-in-Ok-Read-clause-begun
returns-in-Ok-Read-clause-begun c = λ t claims h.
    let x = c.in-Ok-Read in
    let is : c.args.planned ≡ Ok (plan.Read x.key x.blocks x.length) = search rules in
    subst (λ (o : Result Plan Status). HasBegun c.begin_read.new.self.ftl t claims c.args.tag o c.begin_read.result)
    (sym is)
    (subst
    (λ (first : Phase). HasKept c.begin_read.new.self.ftl t claims c.args.tag x.key x.blocks first c.begin_read.result)
    c.sending_first.ensures (c.begin_read.ensures.begun t claims h))

pub returns-in-Ok-Compare-clause-begun : goal.returns-in-Ok-Compare-clause-begun
returns-in-Ok-Compare-clause-begun c = λ t claims h.
    let x = c.in-Ok-Compare in
    let is : c.args.planned ≡ Ok (plan.Compare x.key x.blocks) = search rules in
    let after = c.begin_read-in-Ok-Compare in
    subst (λ (o : Result Plan Status). HasBegun after.new.self.ftl t claims c.args.tag o after.result) (sym is)
    (subst (λ (first : Phase). HasKept after.new.self.ftl t claims c.args.tag x.key x.blocks first after.result)
    c.comparing_first.ensures (after.ensures.begun t claims h))

pub returns-in-Ok-Gather-clause-begun : goal.returns-in-Ok-Gather-clause-begun
returns-in-Ok-Gather-clause-begun c = λ t claims h.
    let x = c.in-Ok-Gather in
    let is : c.args.planned ≡ Ok (plan.Gather x.wanted x.slots) = search rules in
    subst (λ (o : Result Plan Status). HasBegun c.begin_gather.new.self.ftl t claims c.args.tag o c.begin_gather.result)
    (sym is) (c.begin_gather.ensures.begun t claims h)

pub returns-in-Ok-Verify-clause-begun : goal.returns-in-Ok-Verify-clause-begun
returns-in-Ok-Verify-clause-begun c = λ t claims h.
    let x = c.in-Ok-Verify in
    let is : c.args.planned ≡ Ok (plan.Verify x.key x.blocks) = search rules in
    subst (λ (o : Result Plan Status). HasBegun c.begin_verify.new.self.ftl t claims c.args.tag o c.begin_verify.result)
    (sym is) (c.begin_verify.ensures.begun t claims h)
