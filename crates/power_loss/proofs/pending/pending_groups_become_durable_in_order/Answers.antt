use Rattle.power_loss.proofs.pending_groups.DurableInOrder.{accept, all, first, front, opened, others, stops}
use Rattle.power_loss.proofs.pending.pending_groups_become_durable_in_order.Goals as goal

pub returns-clause-accept : goal.returns-clause-accept
returns-clause-accept c t move g v may is = accept t move v may g is

pub returns-clause-front : goal.returns-clause-front
returns-clause-front c = front

pub returns-clause-others : goal.returns-clause-others
returns-clause-others c = others

pub returns-clause-stops : goal.returns-clause-stops
returns-clause-stops c = stops

pub returns-clause-opened : goal.returns-clause-opened
returns-clause-opened c = opened

pub returns-clause-first : goal.returns-clause-first
returns-clause-first c = first

pub returns-clause-all : goal.returns-clause-all
returns-clause-all c = all
