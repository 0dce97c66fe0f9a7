use Rattle.std.proofs.Common.{◌∙◌, ℕ, ap, sym}
use Rattle.upiu.specs.Reading.{named_by}
use Rattle.upiu.proofs.fields.message_in.Goals as goal

pub returns-in-22 : goal.returns-in-22
returns-in-22 c =
    c.query_request_in.ensures ∙ ap (λ (code : ℕ). named_by code c.args.bytes.now) (sym c.in-22.is ∙ c.code.ensures)
