use Rattle.std.proofs.Common.{◌∙◌, ℕ, List, [], refl, rules, sym, ap, subst}
use Rattle.ufs_spec.specs.Machine.{OfReply, Reply}
use Rattle.std.specs.Prelude.{None}
use Rattle.device.specs.Describes.{IsAnswered, IsReplied}
use Rattle.ufs_handle.specs.Kept.{HeldState}
use Rattle.ufs_handle.proofs.Told.{told_so}
use Rattle.ufs_handle.proofs.held.Held.reply.Goals as goal

pub returns-then-not-reply : goal.returns-then-not-reply
returns-then-not-reply c = (
  [],
  record {
    rest = search rules;
    replied = (
      refl,
      (c.reply.ensures.nothing c.if-not-reply.true).0
          ∙ c.deref_mut.ensures.value ∙ ap (λ (h : HeldState). h.core) c.self.view_is,
      told_so (λ s. IsAnswered s Reply (OfReply None) c.reply.new.self) c.deref_mut.result.now c.args.self.now.core
          (c.deref_mut.ensures.value ∙ ap (λ (h : HeldState). h.core) c.self.view_is)
          (λ s d. c.reply.ensures.silent s d c.if-not-reply.true),
    );
  },
  (refl, refl),
)

pub returns : goal.returns
returns c = (
  c.as_slice.result.now,
  record {
    rest = search rules;
    replied =
        told_so (λ s. IsReplied s c.as_slice.result.now c.reply.new.self) c.deref_mut.result.now c.args.self.now.core
        (c.deref_mut.ensures.value ∙ ap (λ (h : HeldState). h.core) c.self.view_is)
        (λ s d.
        subst (λ (bytes : List ℕ). IsReplied s bytes c.reply.new.self) (sym c.as_slice.ensures.value)
        (c.reply.ensures.replied s d c.if-not-reply.false));
  },
  c.hand_out.ensures,
)
