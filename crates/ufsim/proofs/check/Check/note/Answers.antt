use Rattle.std.proofs.Common.{◌≡◌, ◌∙◌, Bool, OnOk, ap, if◌then◌else◌, subst, sym, ℕ}
use Rattle.ufsim.specs.Checked.{GoesOn, given_in}
use Rattle.ufsim.proofs.check.Check.note.Goals as goal

pub returns-in-Take : goal.returns-in-Take
returns-in-Take c = record {
  counted = subst
      (λ (given : ℕ). OnOk c.stop_here.result (GoesOn given c.args.self.now.life.tries c.args.self.now.tally
      c.stop_here.new.self.life.tries c.stop_here.new.self.tally)) (sym one) c.stop_here.ensures.counted;
}
  where
    one : given_in c.args.output.now ≡ 1
    one =
        ap given_in c.in-Take.is ∙ c.is_write.ensures ∙ ap (λ (b : Bool). if b then 1 else 0) c.if-is_write.true

pub returns-in-Stopped : goal.returns-in-Stopped
returns-in-Stopped c = record {
  counted = subst
      (λ (given : ℕ). OnOk c.begin_over.result (GoesOn given c.args.self.now.life.tries c.args.self.now.tally
      c.begin_over.new.self.life.tries c.begin_over.new.self.tally)) (sym (ap given_in c.in-Stopped.is))
      c.begin_over.ensures.counted;
}
