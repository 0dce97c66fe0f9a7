use Rattle.device.proofs.Common.{Event, Ok, OnOk, Went, subst, sym}
use Rattle.ufs_spec.specs.declared.events.Output.TheVariants as output
use Rattle.device.specs.Worlds.{IsReopened}
use Rattle.device.proofs.dies_of_world.OpenedWorld.{on_ok}
use Rattle.device.proofs.world.World.perform.Goals as goal

pub returns-in-Host-clause-went : goal.returns-in-Host-clause-went
returns-in-Host-clause-went c =
    λ s h. subst (λ (e : Event). Went s e c.hear.new.self (Ok (output.Host c.hear.result))) (sym c.in-Host.is)
    (c.hear.ensures.went s h)

pub returns-in-Reply-clause-went : goal.returns-in-Reply-clause-went
returns-in-Reply-clause-went c =
    λ s h. subst (λ (e : Event). Went s e c.reply.new.self (Ok (output.Reply c.reply.result))) (sym c.in-Reply.is)
    (c.reply.ensures.went s h)

pub returns-in-Take-clause-went : goal.returns-in-Take-clause-went
returns-in-Take-clause-went c =
    λ s h. subst (λ (e : Event). Went s e c.take.new.self (Ok (output.Take c.take.result))) (sym c.in-Take.is)
    (c.take.ensures.went s h)

pub returns-in-Finish-clause-went : goal.returns-in-Finish-clause-went
returns-in-Finish-clause-went c =
    λ s h. subst (λ (e : Event). Went s e c.finish.new.self (c.finish.result)) (sym c.in-Finish.is)
    (c.finish.ensures.went s h)

pub returns-in-Turn-clause-went : goal.returns-in-Turn-clause-went
returns-in-Turn-clause-went c =
    λ s h. subst (λ (e : Event). Went s e c.turn.new.self (Ok (output.Turn c.turn.result))) (sym c.in-Turn.is)
    (c.turn.ensures.went s h)

pub returns-in-Host-clause-reopened : goal.returns-in-Host-clause-reopened
returns-in-Host-clause-reopened c = subst (λ (e : Event). IsReopened e c.hear.new.self) (sym c.in-Host.is) tt

pub returns-in-Reply-clause-reopened : goal.returns-in-Reply-clause-reopened
returns-in-Reply-clause-reopened c = subst (λ (e : Event). IsReopened e c.reply.new.self) (sym c.in-Reply.is) tt

pub returns-in-Take-clause-reopened : goal.returns-in-Take-clause-reopened
returns-in-Take-clause-reopened c = subst (λ (e : Event). IsReopened e c.take.new.self) (sym c.in-Take.is) tt

pub returns-in-Finish-clause-reopened : goal.returns-in-Finish-clause-reopened
returns-in-Finish-clause-reopened c =
    subst (λ (e : Event). OnOk c.finish.result (IsReopened e c.finish.new.self)) (sym c.in-Finish.is)
    (on_ok c.finish.result tt)

pub returns-in-Fail-clause-reopened : goal.returns-in-Fail-clause-reopened
returns-in-Fail-clause-reopened c =
    subst (λ (e : Event). OnOk c.fail.result (IsReopened e c.fail.new.self)) (sym c.in-Fail.is) (on_ok c.fail.result tt)

pub returns-in-Turn-clause-reopened : goal.returns-in-Turn-clause-reopened
returns-in-Turn-clause-reopened c = subst (λ (e : Event). IsReopened e c.turn.new.self) (sym c.in-Turn.is) tt

pub returns-in-Stop-clause-reopened : goal.returns-in-Stop-clause-reopened
returns-in-Stop-clause-reopened c =
    subst (λ (e : Event). OnOk c.stop.result (IsReopened e c.stop.new.self)) (sym c.in-Stop.is) c.stop.ensures.reopened
