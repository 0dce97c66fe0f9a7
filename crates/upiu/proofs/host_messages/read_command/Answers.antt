use Rattle.std.proofs.Common.{refl, sym, ◌∙◌, arith}
use Rattle.std.proofs.lemmas.Bool.{false≢true}
use Rattle.ufs_spec.specs.Messages.{header_of}
use Rattle.upiu.specs.HostMessages.{command_of}
use Rattle.upiu.proofs.HostSpelled.{command_around, command_kind, command_read, host_passes}
use Rattle.upiu.proofs.host_messages.read_command.Goals as goal
use Rattle.upiu.proofs.host_messages.read_command.Goals.{else-are_command_flags-via-then-are_command_flags+else-surround}
use Rattle.upiu.proofs.host_messages.read_command.Goals.{else-are_command_flags-via-else-are_command_flags}

pub surround-requires : goal.surround-requires
surround-requires c =
    host_passes c.args.bytes.now (c.is_of_kind.ensures.0 c.if-not-is_of_kind.false).0

pub returns-then-not-is_of_kind-clause-other : goal.returns-then-not-is_of_kind-clause-other
returns-then-not-is_of_kind-clause-other c =
    λ flags lun tag expected cdb spells. absurd (false≢true (sym c.if-not-is_of_kind.true
    ∙ c.is_of_kind.ensures.1 (command_kind c.args.bytes.now flags lun tag expected cdb spells)))

pub returns-then-surround-clause-read : goal.returns-then-surround-clause-read
returns-then-surround-clause-read c =
    let kind = c.is_of_kind.ensures.0 c.if-not-is_of_kind.false in (
      kind.0,
      command_read c.args.bytes.now (λ place. omega (arith, c.type_inv.bytes place)) kind c.command_in-said.result
          c.command_in-said.ensures (sym c.are_command_flags.ensures ∙ c.if-are_command_flags.true) c.command_header.result
          c.command_header.ensures (c.surround.ensures.0 c.if-surround.true),
    )

pub returns-else-are_command_flags-clause-other : goal.returns-else-are_command_flags-clause-other
returns-else-are_command_flags-clause-other c =
    λ flags lun tag expected cdb spells.
    elim c.else-are_command_flags.branch [
      | else-are_command_flags-via-then-are_command_flags+else-surround w ↦
          absurd
          (false≢true
          (sym w.if-surround.false
          ∙ w.surround.ensures.1
          (command_around c.args.bytes.now flags lun tag expected cdb spells c.command_in-said.result
          c.command_in-said.ensures w.command_header.result w.command_header.ensures).1))
      | else-are_command_flags-via-else-are_command_flags w ↦
          absurd
          (false≢true
          (sym w.if-are_command_flags.false
          ∙ c.are_command_flags.ensures
          ∙ (command_around c.args.bytes.now flags lun tag expected cdb spells c.command_in-said.result
          c.command_in-said.ensures (header_of (command_of c.command_in-said.result)) refl).0))
    ]
