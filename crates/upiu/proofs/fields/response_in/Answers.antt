use Rattle.std.proofs.Common.{◌∙◌, List, ℕ, Option, ap, slice_index}
use Rattle.ufs_bytes.specs.Fields.{field_at}
use Rattle.ufs_spec.specs.declared.messages.Message.{Message}
use Rattle.ufs_spec.specs.declared.messages.Message.TheVariants.{Response}
use Rattle.upiu.proofs.fields.response_in.Goals as goal

pub returns : goal.returns
returns c =
    let bytes : List ℕ = c.args.bytes.now in
    let named : ℕ → Option (List ℕ) → Message =
    λ (residual : ℕ) (sense : Option (List ℕ)).
    Response (slice_index bytes 1) (slice_index bytes 2) (slice_index bytes 3) (slice_index bytes 6)
    (slice_index bytes 7) residual sense
    in
    ap (λ (residual : ℕ). named residual c.sense_in.result) c.read_u32.ensures
    ∙ ap (named (field_at 4 12 bytes)) c.sense_in.ensures
