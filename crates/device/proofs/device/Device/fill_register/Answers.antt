use Rattle.device.proofs.Common.{DeviceCore, IsLayerWith, Some, ap, slice_get, subst, sym, to_answer, ◌∙◌, ◌≡◌}
use Rattle.task_set.specs.declared.tasks.TaskEvent.TheVariants as event
use Rattle.device.specs.Calls.{with_event}
use Rattle.device.specs.Frames.{HasFilledBy}
use Rattle.device.proofs.described.Responded.{Answers, answers_at}
use Rattle.device.proofs.device.Device.fill_register.Goals as goal

pub returns-in-Some : goal.returns-in-Some
returns-in-Some c =
    λ t claims h.
    let is : to_answer t c.args.self.now ≡ Some c.in-Some.index = sym (c.to_answer.ensures.what t h.0) ∙ c.in-Some.is in
    let x : Answers t c.args.self.now c.in-Some.index = answers_at t c.args.self.now c.in-Some.index is in
    let left = c.answer.ensures.left in
    subst (HasFilledBy c.args.self.now c.end_request.new.self t claims) (sym is)
    (record {
      task = x.task;
      there = x.there;
      due = x.due;
      code = x.code;
      decided = x.decided;
      layer = c.end_request.new.self.ftl;
      layer_is =
          c.end_request.ensures.layer t claims x.task
          (subst (λ (d : DeviceCore). IsLayerWith d.ftl t claims) (sym left) h)
          (ap (λ (d : DeviceCore). slice_get d.tasks c.in-Some.index) left ∙ x.there);
      rpmb = c.answer.new.self.rpmb;
      responded = c.answer.ensures.responded t x.task x.code h.0 x.there x.decided;
      after_is =
          c.end_request.ensures.left
          ∙ ap (λ (d : DeviceCore). record (with_event d c.in-Some.index event.RegisterFilled) {
            ftl = c.end_request.new.self.ftl;
          }) left;
    })
