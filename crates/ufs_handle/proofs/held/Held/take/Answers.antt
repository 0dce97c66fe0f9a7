use Rattle.std.proofs.Common.{◌∙◌, refl, rules, sym, ap}
use Rattle.std.specs.Prelude.{Some, None}
use Rattle.ufs_handle.specs.Kept.{HeldState}
use Rattle.ufs_handle.proofs.Told.{given_so}
use Rattle.ufs_handle.proofs.held.Held.take.Goals as goal

pub returns-in-Some : goal.returns-in-Some
returns-in-Some c = (
  Some c.in-Some.job,
  refl,
  record {
    rest = search rules;
    nothing = tt;
    given =
        given_so c.args.die c.deref_mut.result.now c.args.self.now.core c.take.new.self c.note.new.self.core
        c.take.result (Some c.in-Some.job)
        (c.deref_mut.ensures.value ∙ ap (λ (h : HeldState). h.core) c.self.view_is)
        (ap (λ (h : HeldState). h.core) (sym c.note.ensures)) c.in-Some.is c.take.ensures.given;
  },
  search rules,
)

pub returns-in-None : goal.returns-in-None
returns-in-None c = (
  None,
  refl,
  record {
    rest = search rules;
    nothing = search rules;
    given =
        given_so c.args.die c.deref_mut.result.now c.args.self.now.core c.take.new.self c.take.new.self
        c.take.result None
        (c.deref_mut.ensures.value ∙ ap (λ (h : HeldState). h.core) c.self.view_is) refl c.in-None.is
        c.take.ensures.given;
  },
  refl,
)
