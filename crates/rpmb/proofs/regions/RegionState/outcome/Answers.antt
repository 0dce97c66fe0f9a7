use Rattle.std.proofs.Common.{◌∙◌, ◌∷◌, ap, refl}
use Rattle.ufs_spec.specs.Rpmb.{command_in, first_failed, outcome_after}
use Rattle.rpmb.proofs.AskedChecks.{checks_asked}
use Rattle.rpmb.proofs.regions.RegionState.outcome.Goals as goal

pub returns-in-Some-clause-outcome : goal.returns-in-Some-clause-outcome
returns-in-Some-clause-outcome c = λ number region f fs kept e is.
    ap (outcome_after region (command_in number f fs))
    (ap first_failed (checks_asked c.args.self.now region c.args.locked c.args.request.now f fs kept is)
    ∙ c.in-Some.ensures.first f fs e)
    ∙ c.failed.ensures.outcome number region (f ∷ fs) (command_in number f fs) kept

pub returns-in-None-clause-outcome : goal.returns-in-None-clause-outcome
returns-in-None-clause-outcome c = λ number region f fs kept e is.
    ap (outcome_after region (command_in number f fs))
    (ap first_failed (checks_asked c.args.self.now region c.args.locked c.args.request.now f fs kept is)
    ∙ c.in-None.ensures.first f fs e)
    ∙ c.passed.ensures.outcome number region f fs kept is

pub returns-in-Some-clause-unlocked : goal.returns-in-Some-clause-unlocked
returns-in-Some-clause-unlocked c = c.failed.ensures.unlocked c.args.locked

pub returns-in-None-clause-unlocked : goal.returns-in-None-clause-unlocked
returns-in-None-clause-unlocked c =
    c.passed.ensures.unlocked c.args.locked (c.in-None.ensures.unlocked refl)
