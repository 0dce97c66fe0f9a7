use Rattle.std.proofs.Common.{◌≡◌, Ok, ap, sym, subst, ◌∙◌}
use Rattle.std.proofs.lemmas.Bool.{false≢true}
use Rattle.ufs_spec.specs.Messages.{Spells}
use Rattle.ufs_spec.specs.declared.messages.Message.{Message}
use Rattle.upiu.proofs.Spelled.{named}
use Rattle.upiu.proofs.reading.read_fields.Goals as goal

pub returns-then-is_spelled-clause-taken : goal.returns-then-is_spelled-clause-taken
returns-then-is_spelled-clause-taken c =
    λ message spells. ap Ok
    (c.message_in-message.ensures ∙ (named c.args.bytes.now message spells).same)

pub returns-else-is_spelled-clause-taken : goal.returns-else-is_spelled-clause-taken
returns-else-is_spelled-clause-taken c =
    λ message spells.
    (let same : c.message_in-message.result ≡ message =
    c.message_in-message.ensures ∙ (named c.args.bytes.now message spells).same in
    let here : Spells c.message_in-message.result c.args.bytes.now = subst (λ (m : Message). Spells m c.args.bytes.now)
    (sym same) spells in
    absurd (false≢true (sym c.if-is_spelled.false ∙ c.is_spelled.ensures.1 here)))
