use Rattle.std.proofs.Common.{◌∙◌, List, ℕ, ap, slice_index}
use Rattle.arrayvec.specs.ArrayVec.{ArrayVec}
use Rattle.ufs_bytes.specs.Fields.{field_at}
use Rattle.ufs_spec.specs.declared.messages.Asked.{Asked}
use Rattle.ufs_spec.specs.declared.messages.Message.{Message}
use Rattle.ufs_spec.specs.declared.messages.Message.TheVariants.{QueryRequest}
use Rattle.upiu.specs.Reading.{asked_in}
use Rattle.upiu.proofs.fields.query_request_in.Goals as goal

pub returns : goal.returns
returns c =
    let bytes : List ℕ = c.args.bytes.now in
    let named : Asked → ℕ → ℕ → ArrayVec ℕ → Message =
    λ (asked : Asked) (size : ℕ) (value : ℕ) («data» : ArrayVec ℕ).
    QueryRequest (slice_index bytes 3) (slice_index bytes 5) asked size value «data»
    in
    ap (λ (asked : Asked). named asked c.read_u16.result c.read_u32.result c.data_in.result) c.asked_in.ensures
    ∙ ap (λ (size : ℕ). named (asked_in bytes) size c.read_u32.result c.data_in.result) c.read_u16.ensures
    ∙ ap (λ (value : ℕ). named (asked_in bytes) (field_at 2 18 bytes) value c.data_in.result) c.read_u32.ensures
    ∙ ap (named (asked_in bytes) (field_at 2 18 bytes) (field_at 4 20 bytes)) c.data_in.ensures
