use Rattle.std.proofs.Common.{◌∙◌, List, ℕ, ap, slice_index}
use Rattle.ufs_bytes.specs.Fields.{field_at}
use Rattle.upiu.specs.declared.host_messages.DataOut.{DataOut}
use Rattle.upiu.proofs.host_messages.data_out_in.Goals as goal

pub returns : goal.returns
returns c =
    let bytes : List ℕ = c.args.bytes.now in
    let named : ℕ → ℕ → DataOut =
    λ (offset : ℕ) (count : ℕ).
    record { lun = slice_index bytes 2; tag = slice_index bytes 3; offset = offset; count = count }
    in
    ap (λ (offset : ℕ). named offset c.stated_length.result) c.read_u32.ensures
    ∙ ap (named (field_at 4 12 bytes)) c.stated_length.ensures
