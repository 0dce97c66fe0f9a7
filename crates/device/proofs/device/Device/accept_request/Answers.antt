use Rattle.device.proofs.Common.{DeviceCore, HasAccepted, HasPut, List, ap, bytes_of, core_of, frames_of, subst, sym}
use Rattle.device.proofs.Common.{write_group, ℕ, ◌∙◌}
use Rattle.task_set.specs.declared.tasks.TaskEvent.TheVariants as event
use Rattle.device.proofs.host_messages.RequestPut.{no_write_accepted, write_accepted}
use Rattle.device.proofs.device.Device.accept_request.Goals as goal

pub returns-in-Write-clause-accepted : goal.returns-in-Write-clause-accepted
returns-in-Write-clause-accepted c =
    let core = core_of c.self.inside in
    let new = c.put_write-number.new.self in
    let number = c.put_write-number.result in
    let page = c.page-settings.result in
    let told = event.RequestAccepted c.args.code number in
    let fs = frames_of c.args.frames.now in
    subst (λ (d : DeviceCore). HasAccepted d new c.args.tag c.args.region fs c.args.code c.args.accepted.now told) c.self.view_is
    (subst (λ (d : DeviceCore). HasAccepted core d c.args.tag c.args.region fs c.args.code c.args.accepted.now told)
    (sym c.put_write-number.ensures.left)
    (write_accepted core c.apply.new.self new.ftl c.args.tag c.args.region fs c.args.code number c.args.accepted.now page
    c.apply.ensures.registers c.apply.ensures.each (λ r. c.apply.ensures.region r fs) c.apply.ensures.others
    (c.page-settings.ensures ∙ ap bytes_of c.settings.ensures) c.in-Write.address c.in-Write.is
    (subst (λ (bs : List ℕ). HasPut core.ftl new.ftl c.args.tag (write_group c.args.region c.in-Write.address bs page) number)
    (c.as_slice.ensures.value ∙ c.all_data.ensures.joined) c.put_write-number.ensures.put)))

pub returns-in_default : goal.returns-in_default
returns-in_default c =
    let core = core_of c.self.inside in
    let new = c.put_settings-number.new.self in
    let number = c.put_settings-number.result in
    let page = c.page-settings.result in
    let told = event.RequestAccepted c.args.code number in
    let fs = frames_of c.args.frames.now in
    let left = c.put_settings-number.ensures.left in
    record {
      left =
          left
          ∙ (λ i. record (c.self.view_is i) { ftl = new.ftl; rpmb = sym (ap (λ (d : DeviceCore). d.rpmb) left) i });
      accepted =
          subst (λ (d : DeviceCore). HasAccepted d new c.args.tag c.args.region fs c.args.code c.args.accepted.now told)
          c.self.view_is
          (subst (λ (d : DeviceCore). HasAccepted core d c.args.tag c.args.region fs c.args.code c.args.accepted.now told) (sym left)
          (no_write_accepted core c.apply.new.self new.ftl c.args.tag c.args.region fs c.args.code number c.args.accepted.now page
          c.apply.ensures.registers c.apply.ensures.each (λ r. c.apply.ensures.region r fs) c.apply.ensures.others
          (c.page-settings.ensures ∙ ap bytes_of c.settings.ensures) c.in_default.not-Write
          c.put_settings-number.ensures.put));
    }
