use Rattle.ftl_core.proofs.Common.{false, rules, ◌∙◌, ◌≡◌}
use Rattle.ftl_core.specs.Turns.{is_turn_due}
use Rattle.ftl_core.proofs.steps_ordered.Turns.{turns_due, turns_told}
use Rattle.ftl_core.proofs.stopped.EachStop.{stops_right}
use Rattle.ftl_core.proofs.ftl.Ftl.turn.Goals as goal

pub returns-then-is_some-clause-described : goal.returns-then-is_some-clause-described
returns-then-is_some-clause-described c = turns_told c.args.self.now _ false (search rules) (search rules)

pub returns-then-is_some-clause-described_due : goal.returns-then-is_some-clause-described_due
returns-then-is_some-clause-described_due c =
    let due : false ≡ is_turn_due c.args.self.now = search rules in
    λ t h. due ∙ turns_due c.args.self.now t h

pub returns-in-Unmarked-clause-described_due : goal.returns-in-Unmarked-clause-described_due
returns-in-Unmarked-clause-described_due c =
    let due : c.turn_mark.result ≡ is_turn_due c.args.self.now = search rules in
    λ t h. due ∙ turns_due c.args.self.now t h

pub returns-in-Unmarked-clause-described : goal.returns-in-Unmarked-clause-described
returns-in-Unmarked-clause-described c = turns_told c.args.self.now _ c.turn_mark.result (search rules) (search rules)

pub returns-in-Repairing-clause-described_due : goal.returns-in-Repairing-clause-described_due
returns-in-Repairing-clause-described_due c =
    let due : c.turn_repair.result ≡ is_turn_due c.args.self.now = search rules in
    λ t h. due ∙ turns_due c.args.self.now t h

pub returns-in-Repairing-clause-described : goal.returns-in-Repairing-clause-described
returns-in-Repairing-clause-described c =
    turns_told c.args.self.now _ c.turn_repair.result (search rules) (search rules)

pub returns-then-is_some-clause-stop : goal.returns-then-is_some-clause-stop
returns-then-is_some-clause-stop c = λ t h. stops_right _ _ (returns-then-is_some-clause-described c t h)

pub returns-in-Unmarked-clause-stop : goal.returns-in-Unmarked-clause-stop
returns-in-Unmarked-clause-stop c = λ t h. stops_right _ _ (returns-in-Unmarked-clause-described c t h)

pub returns-in-Repairing-clause-stop : goal.returns-in-Repairing-clause-stop
returns-in-Repairing-clause-stop c = λ t h. stops_right _ _ (returns-in-Repairing-clause-described c t h)

pub returns-in-Mended-clause-described_due : goal.returns-in-Mended-clause-described_due
returns-in-Mended-clause-described_due c =
    let due : c.turn_collection.result ≡ is_turn_due c.args.self.now = search rules in
    λ t h. due ∙ turns_due c.args.self.now t h

pub returns-in-Mended-clause-described : goal.returns-in-Mended-clause-described
returns-in-Mended-clause-described c =
    turns_told c.args.self.now _ c.turn_collection.result (search rules) (search rules)

pub returns-in-Mended-clause-stop : goal.returns-in-Mended-clause-stop
returns-in-Mended-clause-stop c = λ t h. stops_right _ _ (returns-in-Mended-clause-described c t h)
