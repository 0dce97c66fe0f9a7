use Rattle.device.proofs.Common.{ap, sym, ◌∙◌}
use Rattle.device.specs.Unmaps.{unmapping_of}
use Rattle.device.proofs.device.Device.unmapping.Goals as goal

pub returns-in-Malformed-clause-is : goal.returns-in-Malformed-clause-is
returns-in-Malformed-clause-is c = λ t layer there of.
    ap (unmapping_of t c.args.unit) (sym c.in-Malformed.is ∙ c.read_unmap_list.ensures.list t.numbers (c.command_blocks.ensures.is t layer))

pub returns-in-HeaderOnly-clause-is : goal.returns-in-HeaderOnly-clause-is
returns-in-HeaderOnly-clause-is c = λ t layer there of.
    ap (unmapping_of t c.args.unit) (sym c.in-HeaderOnly.is ∙ c.read_unmap_list.ensures.list t.numbers (c.command_blocks.ensures.is t layer))

pub returns-in-Descriptor-clause-is : goal.returns-in-Descriptor-clause-is
returns-in-Descriptor-clause-is c = λ t layer there of.
    c.blocks_unmapped.ensures.is t layer there
    ∙ ap (unmapping_of t c.args.unit) (sym c.in-Descriptor.is ∙ c.read_unmap_list.ensures.list t.numbers (c.command_blocks.ensures.is t layer))
