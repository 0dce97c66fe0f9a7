use Rattle.device.proofs.Common.{DeviceCore, frames_of, subst, sym, ◌∙◌}
use Rattle.device.specs.Frames.{HasAnswered}
use Rattle.task_set.specs.declared.tasks.TaskEvent.TheVariants as event
use Rattle.device.proofs.described.AreaKept.{answered_at_once, asked_then}
use Rattle.device.proofs.device.Device.answer_request.Goals as goal

pub returns-in-None-clause-answered : goal.returns-in-None-clause-answered
returns-in-None-clause-answered c =
    let fs = frames_of c.args.frames.now in
    subst
    (λ (d : DeviceCore). HasAnswered d.ftl c.release.new.self c.args.tag c.args.region fs c.args.code
    (event.RequestAnswered c.args.code)) c.self.view_is
    (answered_at_once c.self.inside.ftl c.release.new.self c.args.tag c.args.region fs c.args.code
    (sym c.asked_area.ensures ∙ c.in-None.is)
    (λ t claims h. (
      c.release.ensures.described_blocks t (claims c.args.tag) h.0 (h.1 c.args.tag),
      c.release.ensures.claims claims h.1,
    )))

pub returns-in-Some-clause-answered : goal.returns-in-Some-clause-answered
returns-in-Some-clause-answered c =
    let fs = frames_of c.args.frames.now in
    subst
    (λ (d : DeviceCore). HasAnswered d.ftl c.ask_area.new.self.ftl c.args.tag c.args.region fs c.args.code c.ask_area.result)
    c.self.view_is
    (asked_then c.self.inside.ftl c.release.new.self c.ask_area.new.self.ftl c.args.tag c.args.region fs c.args.code c.in-Some.asked
    c.ask_area.result (sym c.asked_area.ensures ∙ c.in-Some.is)
    (λ t claims h. (
      c.release.ensures.described_blocks t (claims c.args.tag) h.0 (h.1 c.args.tag),
      c.release.ensures.claims claims h.1,
    )) c.ask_area.ensures.event c.ask_area.ensures.kept)
