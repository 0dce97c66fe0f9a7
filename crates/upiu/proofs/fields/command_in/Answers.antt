use Rattle.std.proofs.Common.{◌∙◌, List, ℕ, ap, slice_index}
use Rattle.ufs_bytes.specs.Fields.{field_at}
use Rattle.ufs_spec.specs.declared.messages.Message.{Message}
use Rattle.ufs_spec.specs.declared.messages.Message.TheVariants.{Command}
use Rattle.upiu.proofs.fields.command_in.Goals as goal

pub returns : goal.returns
returns c =
    let bytes : List ℕ = c.args.bytes.now in
    let named : ℕ → List ℕ → Message =
    λ (expected : ℕ) (cdb : List ℕ).
    Command (slice_index bytes 1) (slice_index bytes 2) (slice_index bytes 3) expected cdb
    in
    ap (λ (expected : ℕ). named expected c.copy_from_slice.new.self) c.read_u32.ensures
    ∙ ap (named (field_at 4 12 bytes)) c.copy_from_slice.ensures.after
