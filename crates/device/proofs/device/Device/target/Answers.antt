use Rattle.device.proofs.Common.{DeviceCore, ap, ◌∙◌}
use Rattle.ufs_spec.specs.declared.exchanges.Status.TheVariants.{CheckCondition}
use Rattle.lun_route.specs.Luns.{lun_in}
use Rattle.device.proofs.described.SameDevice.{same_layer}
use Rattle.device.proofs.host_messages.Routed.{blocks_so, named_so, named_there, refused_there, unit_there, unrouted}
use Rattle.device.proofs.device.Device.target.Goals as goal

pub returns-in-Err : goal.returns-in-Err
returns-in-Err c = λ s r h bare lun flags operation.
    unrouted s r c.numbers.result.now c.self.inside.boot c.args.lun c.args.row
    (c.numbers.ensures.described s.translation (same_layer _ _ s.translation c.self.view_is h))
    (ap (λ (d : DeviceCore). d.boot) c.self.view_is ∙ bare.boot_is) lun operation (CheckCondition c.in-Err.sense)
    c.in-Err.ensures.refused

pub returns-in-Some : goal.returns-in-Some
returns-in-Some c = λ s r h bare lun flags operation.
    let numbers = c.numbers.ensures.described s.translation (same_layer _ _ s.translation c.self.view_is h) in
    let boot = ap (λ (d : DeviceCore). d.boot) c.self.view_is ∙ bare.boot_is in
    let its = lun_in c.in-Ok.route.lun in
    refused_there s r c.args.self.now.volatile its bare.volatile_is
    (named_so s r c.numbers.result.now c.self.inside.boot c.args.lun c.args.row numbers boot lun operation its
    c.in-Ok.ensures.lun) c.args.flags c.args.row flags operation
    (unit_there s r c.numbers.result.now c.self.inside.boot c.args.lun c.args.row numbers boot lun operation
    c.in-Ok.ensures.refused) c.routing_refusal.result (c.routing_refusal.ensures s.translation h) c.in-Some.sense
    c.in-Some.is

pub returns-in-None : goal.returns-in-None
returns-in-None c = λ s r h bare lun flags operation.
    let numbers = c.numbers.ensures.described s.translation (same_layer _ _ s.translation c.self.view_is h) in
    let boot = ap (λ (d : DeviceCore). d.boot) c.self.view_is ∙ bare.boot_is in
    let its = lun_in c.in-Ok.route.lun in
    let named =
    named_so s r c.numbers.result.now c.self.inside.boot c.args.lun c.args.row numbers boot lun operation its
    c.in-Ok.ensures.lun in (
      named_there s r c.args.self.now.volatile its bare.volatile_is named c.args.flags c.args.row flags operation
          (unit_there s r c.numbers.result.now c.self.inside.boot c.args.lun c.args.row numbers boot lun operation
          c.in-Ok.ensures.refused) c.routing_refusal.result (c.routing_refusal.ensures s.translation h) c.in-None.is,
      c.target_on.ensures s r h bare lun named
          (blocks_so s r c.numbers.result.now c.self.inside.boot c.args.lun c.args.row numbers boot lun operation its
          c.in-Ok.route.unit c.in-Ok.ensures.lun c.in-Ok.ensures.unit),
    )
