use Rattle.device.proofs.Common.{Some}
use Rattle.ufs_spec.specs.declared.events.Output.TheVariants as output
use Rattle.device.proofs.described.SameDevice.{same_core, same_world}
use Rattle.device.proofs.dies_of_world.WentRight.{replied_went, silent_went}
use Rattle.device.proofs.world.World.reply.Goals as goal

pub returns-then-not-reply-clause-went : goal.returns-then-not-reply-clause-went
returns-then-not-reply-clause-went c =
    λ s h.
    let f = same_world _ _ s c.self.view_is h in
    silent_went _ c.reply.new.self s f (c.reply.ensures.silent s (same_core _ _ s c.deref_mut.ensures.value f.describes)
    c.if-not-reply.true)

pub returns-clause-went : goal.returns-clause-went
returns-clause-went c =
    λ s h.
    let f = same_world _ _ s c.self.view_is h in
    replied_went _ c.reply.new.self s c.reply.new.into.items (output.Reply (Some c.reply.new.into)) (λ m is. is) f
    (c.reply.ensures.replied s (same_core _ _ s c.deref_mut.ensures.value f.describes)
    c.if-not-reply.false)
