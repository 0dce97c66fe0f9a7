use Rattle.ftl_core.proofs.Common.{Core, ap, is_bad_with_live, list_any, spots_in, ◌∙◌}
use Rattle.ftl_core.proofs.collected.VictimsFound.{bad_found}
use Rattle.ftl_core.proofs.ftl.Ftl.has_bad_with_live.Goals as goal

pub returns : goal.returns
returns c =
    c.has_bad_with_live.ensures
    ∙ bad_found c.self.inside c.self.invariant
    ∙ ap (λ (z : Core). list_any (is_bad_with_live z) (spots_in z.live.sizes)) c.self.view_is
