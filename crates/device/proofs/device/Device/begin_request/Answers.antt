use Rattle.device.proofs.Common.{DeviceCore, List, Machine, ap, core_of, frames_of, subst, with_held, with_zeros, ◌∙◌}
use Rattle.device.proofs.Common.{◌≡◌}
use Rattle.device.specs.Calls.{with_event}
use Rattle.device.specs.Frames.{IsDecided, with_emptied}
use Rattle.device.proofs.device.Device.begin_request.Goals as goal

pub returns : goal.returns
returns c =
    let kept = with_held c.args.self.now c.args.index (with_zeros c.args.frames.now) in
    let new = c.decide-event.new.self in
    let left : new ≡ record kept { ftl = new.ftl; rpmb = new.rpmb } =
    c.decide-event.ensures.left
    ∙ ap (λ (d : DeviceCore). record d { ftl = new.ftl; rpmb = new.rpmb }) c.keep_bytes.ensures in
    record {
      layer = new.ftl;
      rpmb = new.rpmb;
      event = c.decide-event.result;
      decided =
          subst (λ (d : DeviceCore). IsDecided kept d c.args.tag c.args.region (frames_of c.args.frames.now) c.args.code
          c.args.accepted.now c.decide-event.result) left
          (subst (λ (d : DeviceCore). IsDecided d new c.args.tag c.args.region (frames_of c.args.frames.now) c.args.code
          c.args.accepted.now c.decide-event.result) c.keep_bytes.ensures c.decide-event.ensures.done);
      after_is =
          c.happen.ensures
          ∙ (ap (λ (ms : List Machine). with_event (record (core_of c.self.inside) { rpmb = ms }) c.args.index
          c.decide-event.result) c.begin.ensures
          ∙ ap (λ (d : DeviceCore). with_event (with_emptied d c.args.region (frames_of c.args.frames.now)) c.args.index
          c.decide-event.result) (c.self.view_is ∙ left));
    }
