use Rattle.device.proofs.Common.{AreClaimed, DeviceCore, IsLayerWith, None, Option, Some, Wanted, false, false≢true}
use Rattle.device.proofs.Common.{is_some, refl, subst, sym, true, true≢false, wanted_block, with_block, ℕ, ◌∙◌, ◌≡◌}
use Rattle.device.specs.Calls.{HasGatheredThen}
use Rattle.task_set.specs.declared.tasks.TaskEvent.TheVariants as event
use Rattle.device.proofs.device.Device.gather.Goals as goal

no_more : (o : Option Wanted) → is_some o ≡ false → o ≡ None
no_more None h = refl
no_more (Some x) h = absurd (true≢false h)

one_more : (o : Option Wanted) → is_some o ≡ true → (x : Wanted) × (o ≡ Some x)
one_more None h = absurd (false≢true h)
one_more (Some x) h = (x, refl)

-- by hand, so that another block does not fit at once
pub returns-then-is_some-clause-taken : goal.returns-then-is_some-clause-taken
returns-then-is_some-clause-taken c = λ t claims h.
    let its = subst (λ (d : DeviceCore). IsLayerWith d.ftl t claims) (sym c.self.view_is) h in
    let more = one_more _ (sym c.is_some.ensures ∙ c.if-is_some.true) in
    subst
    (λ (o : Option Wanted). HasGatheredThen c.fill.new.self t
    (with_block claims c.args.tag (wanted_block c.args.wanted) c.args.bytes.now) c.args.tag c.args.key
    event.BlockGathered o)
    (sym more.1 ∙ c.next.ensures) (
      refl,
      (
        c.fill.ensures.described t its.0,
        subst (λ (n : ℕ). AreClaimed c.fill.new.self
            (with_block claims c.args.tag n c.args.bytes.now)) c.block.ensures (c.fill.ensures.claims claims its.1),
      ),
    )

pub returns-else-is_some-clause-taken : goal.returns-else-is_some-clause-taken
returns-else-is_some-clause-taken c = λ t claims h.
    let its = subst (λ (d : DeviceCore). IsLayerWith d.ftl t claims) (sym c.self.view_is) h in
    subst
    (λ (o : Option Wanted). HasGatheredThen c.accept.new.self.ftl t
    (with_block claims c.args.tag (wanted_block c.args.wanted) c.args.bytes.now) c.args.tag c.args.key
    c.accept.result o)
    (sym (no_more _ (sym c.is_some.ensures ∙ c.if-is_some.false)) ∙ c.next.ensures)
    (c.accept.ensures.taken t (with_block claims c.args.tag (wanted_block c.args.wanted) c.args.bytes.now) (
      c.fill.ensures.described t its.0,
      subst (λ (n : ℕ). AreClaimed c.fill.new.self
          (with_block claims c.args.tag n c.args.bytes.now)) c.block.ensures (c.fill.ensures.claims claims its.1),
    ))
