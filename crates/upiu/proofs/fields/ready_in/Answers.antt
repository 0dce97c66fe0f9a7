use Rattle.std.proofs.Common.{◌∙◌, List, ℕ, ap, slice_index}
use Rattle.ufs_bytes.specs.Fields.{field_at}
use Rattle.ufs_spec.specs.declared.messages.Message.{Message}
use Rattle.ufs_spec.specs.declared.messages.Message.TheVariants.{ReadyToTransfer}
use Rattle.upiu.proofs.fields.ready_in.Goals as goal

pub returns : goal.returns
returns c =
    let bytes : List ℕ = c.args.bytes.now in
    let named : ℕ → ℕ → Message =
    λ (offset : ℕ) (count : ℕ). ReadyToTransfer (slice_index bytes 2) (slice_index bytes 3) offset count in
    ap (λ (offset : ℕ). named offset c.read_u32-2.result) c.read_u32.ensures
    ∙ ap (named (field_at 4 12 bytes)) c.read_u32-2.ensures
