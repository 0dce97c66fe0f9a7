use Rattle.device.proofs.Common.{DeviceCore, Volatile, ap, newly_open, subst, sym, with_task, ◌∙◌}
use Rattle.ftl_core.specs.Public.{Describes}
use Rattle.device.specs.Attentions.{volatile_left}
use Rattle.device.specs.Plans.{expected_for}
use Rattle.device.specs.Frames.{frames_brought, region_brought, sent_kept}
use Rattle.device.proofs.device.Device.open_task.Goals as goal

pub returns : goal.returns
returns c = record {
  layer = c.begin-phase.new.self.ftl;
  phase = c.begin-phase.result;
  todo = c.plan-planned.result;
  plan = c.plan-planned.ensures;
  begun = c.begin-phase.ensures.begun;
  more =
      λ t layer.
      let ended =
      c.end_attention.ensures.left
      ∙ ap (λ (v : Volatile). record c.begin-phase.new.self { volatile = v }) (c.end_attention.ensures.ended t layer) in
      let kept = subst (λ (d : DeviceCore). Describes d.ftl t) (sym ended) layer in
      let there = subst (λ (d : DeviceCore). Describes d.ftl t) (sym c.push_task.ensures) kept in
      c.keep_sent.ensures t there
      ∙ ap (λ (d : DeviceCore). sent_kept t.numbers d c.plan-planned.result)
      (c.push_task.ensures
      ∙ ((λ i. with_task (ended i) (newly_open (record {
        tag = c.args.tag;
        lun = c.args.lun;
        expected = c.counted.ensures i;
        phase = c.begin-phase.result;
        frames = c.frames_of.ensures i;
        region = c.region_of.ensures i;
      })))
      ∙ (λ i. with_task (record (c.begin-phase.ensures.left i) {
        volatile = volatile_left t.numbers c.args.lun c.plan-planned.result (c.begin-phase.ensures.left i).volatile;
      }) (newly_open (record {
        tag = c.args.tag;
        lun = c.args.lun;
        expected = expected_for c.args.expected c.plan-planned.result;
        phase = c.begin-phase.result;
        frames = frames_brought c.plan-planned.result;
        region = region_brought c.plan-planned.result;
      })))));
}
