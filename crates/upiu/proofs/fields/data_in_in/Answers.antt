use Rattle.std.proofs.Common.{◌∙◌, List, ℕ, ap, slice_index}
use Rattle.arrayvec.specs.ArrayVec.{ArrayVec}
use Rattle.ufs_bytes.specs.Fields.{field_at}
use Rattle.ufs_spec.specs.declared.messages.Message.{Message}
use Rattle.ufs_spec.specs.declared.messages.Message.TheVariants.{DataIn}
use Rattle.upiu.proofs.fields.data_in_in.Goals as goal

pub returns : goal.returns
returns c =
    let bytes : List ℕ = c.args.bytes.now in
    let named : ℕ → ArrayVec ℕ → Message =
    λ (offset : ℕ) («data» : ArrayVec ℕ). DataIn (slice_index bytes 2) (slice_index bytes 3) offset «data» in
    ap (λ (offset : ℕ). named offset c.data_in.result) c.read_u32.ensures
    ∙ ap (named (field_at 4 12 bytes)) c.data_in.ensures
