use Rattle.device.proofs.Common.{query_with}
use Rattle.device.proofs.described.SameDevice.{same_layer}
use Rattle.device.proofs.host_messages.QueriesAnswered.{answer_is}
use Rattle.device.proofs.device.Device.query_answer.Goals as goal

pub returns-clause-is : goal.returns-clause-is
returns-clause-is c =
    λ s h bare.
    answer_is s c.args.self.now c.numbers.result.now c.query_settings-settings.result c.may_set.result
    c.request_of-request.result (query_with c.args.query c.args.value) c.answer.result bare
    (c.numbers.ensures.described s.translation (same_layer _ _ s.translation c.self.view_is h))
    (c.query_settings-settings.ensures s.translation h) (c.may_set.ensures.what s h) c.request_of-request.ensures c.answer.ensures.code
    c.answer.ensures.succeeds c.answer.ensures.says c.answer.ensures.may
