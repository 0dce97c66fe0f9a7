use Rattle.std.proofs.Common.{◌≡◌, ◌∙◌, map, sym, ap}
use Rattle.std.specs.Prelude.{replicate}
use Rattle.std.proofs.lemmas.Result.{IfOk-at_ok}
use Rattle.ufs_spec.specs.Dies.{new_die}
use Rattle.power_loss.proofs.die_pages.BlankOutsideDies.{new_fit}
use Rattle.device.proofs.dies_of_world.OpenedWorld.{IsOpenedOver}
use Rattle.lanes.proofs.Opened.{are_new, lent_dies_opened}
use Rattle.test_lanes.proofs.sharing.shared_over.Goals as goal

pub open-requires : goal.open-requires
open-requires g c =
    let n = c.two_dies_config-config.result in
    let is = c.two_dies_config-config.ensures in
    let slice = c.as_mut_slice.result.now in
    let new : map g.D.Die.state slice ≡ replicate n.dies (new_die n.blocks n.pages) =
    ap (map g.D.Die.state) c.as_mut_slice.ensures.value ∙ c.requires
    ∙ (λ i. replicate (sym is.0 i) (new_die (sym is.1 i) (sym is.2 i))) in
    record { fit = new_fit n (map g.D.Die.state slice) (are_new n (map g.D.Die.state slice) new) }

pub new-requires : goal.new-requires
new-requires g c =
    let n = c.two_dies_config-config.result in
    let is = c.two_dies_config-config.ensures in
    let slice = c.as_mut_slice.result.now in
    lent_dies_opened g.D.Die.state n c.args.dies slice c.open.new.dies c.expect-device.result
    c.as_mut_slice.ensures.value
    (c.requires ∙ (λ i. replicate (sym is.0 i) (new_die (sym is.1 i) (sym is.2 i)))) c.open.ensures.same
    (IfOk-at_ok (IsOpenedOver n (map g.D.Die.state slice)) c.expect-device.ensures c.open.ensures.described)

pub returns-clause-lanes : goal.returns-clause-lanes
returns-clause-lanes g c = λ k d less. (c.in-Ok.ensures.lanes.1 k d less).no_job.1

pub returns-clause-ports : goal.returns-clause-ports
returns-clause-ports g c = λ k d less. (c.in-Ok.ensures.ports.1 k d less).table
