use Rattle.ftl_core.proofs.Common.{WriteCache, ap, next_number, ◌∙◌}
use Rattle.ftl_core.proofs.live_pages.RestRooms.{roomy_claimed}
use Rattle.ftl_core.proofs.ftl.Ftl.append.Goals as goal

-- by hand, so that another number does not fit at once
pub returns-clause-number : goal.returns-clause-number
returns-clause-number c = c.append.ensures.number ∙ ap next_number c.self.view_is

-- its pages have no rests, so no block has a pin more
pub invariant_of-self : goal.invariant_of-self
invariant_of-self c =
    roomy_claimed c.self.inside c.append.new.self c.args.key _ _ _ c.self.invariant
    (ap (λ (w : WriteCache). w.slots) c.append.ensures.after) (ap (λ (w : WriteCache). w.pages) c.append.ensures.after)
