use Rattle.readers.proofs.Common.{filter_same, rules}
use Rattle.readers.proofs.walks.drop_pins.Goals as goal

pub returns-clause-left : goal.returns-clause-left
returns-clause-left c = filter_same _ _ _ (λ x b f' k. search rules) _ _ c.retain.ensures.filtered
