use Rattle.std.proofs.Common.{sym, ◌∙◌, arith}
use Rattle.std.proofs.lemmas.Bool.{false≢true}
use Rattle.upiu.proofs.HostSpelled.{data_out_around, data_out_kind, data_out_read}
use Rattle.upiu.proofs.host_messages.read_data_out.Goals as goal

pub returns-then-not-is_of_kind-clause-other : goal.returns-then-not-is_of_kind-clause-other
returns-then-not-is_of_kind-clause-other c =
    λ lun tag offset sent spells. absurd (false≢true (sym c.if-not-is_of_kind.true
    ∙ c.is_of_kind.ensures.1 (data_out_kind c.args.bytes.now lun tag offset sent spells)))

pub returns-then-surround-clause-read : goal.returns-then-surround-clause-read
returns-then-surround-clause-read c =
    let kind = c.is_of_kind.ensures.0 c.if-not-is_of_kind.false in (
      kind.0,
      data_out_read c.args.bytes.now (λ place. omega (arith, c.type_inv.bytes place)) kind c.data_out_in-said.result
          c.data_out_in-said.ensures c.transfer_header-header.result c.transfer_header-header.ensures
          (c.surround.ensures.0 c.if-surround.true),
    )

pub returns-else-surround-clause-other : goal.returns-else-surround-clause-other
returns-else-surround-clause-other c =
    λ lun tag offset sent spells. absurd (false≢true (sym c.if-surround.false
    ∙ c.surround.ensures.1
    (data_out_around c.args.bytes.now (λ place. omega (arith, c.type_inv.bytes place)) lun tag offset sent spells
    c.data_out_in-said.result c.data_out_in-said.ensures c.transfer_header-header.result
    c.transfer_header-header.ensures)))
