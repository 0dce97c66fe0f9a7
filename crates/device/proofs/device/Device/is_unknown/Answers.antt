use Rattle.device.proofs.Common.{false≢true, sym, ◌∙◌}
use Rattle.device.proofs.device.Device.is_unknown.Goals as goal

pub returns-then-has_event_code : goal.returns-then-has_event_code
returns-then-has_event_code c = record {
  event = λ e. c.has_event_code.ensures.0 c.if-has_event_code.true;
  zero = λ t layer e. sym (c.is_of_profile_0.ensures t layer) ∙ e;
  other = λ t layer e none is. sym (c.is_of_profile_0.ensures t layer) ∙ e;
}

pub returns : goal.returns
returns c = record {
  event = λ e. absurd (false≢true e);
  zero = λ t layer e. absurd (false≢true e);
  other =
      λ t layer e none is.
      absurd (false≢true (sym c.if-has_event_code.false ∙ c.has_event_code.ensures.1 (none, is)));
}
