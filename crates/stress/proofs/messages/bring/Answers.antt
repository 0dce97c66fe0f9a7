use Rattle.std.proofs.Common.{◌∙◌, ℕ, List, ap}
use Rattle.ufs_spec.specs.Messages.{spelling}
use Rattle.ufs_spec.specs.declared.Message.TheVariants.{DataOut}
use Rattle.stress.proofs.messages.bring.Goals as goal

pub returns : goal.returns
returns c =
    let same = c.as_slice.ensures.value ∙ c.content_of-content.ensures.content in
    c.write.ensures ∙ ap spelling c.data_out.ensures.message
    ∙ ap (λ (xs : List ℕ). spelling (DataOut 0 c.args.host 0 (record { items = xs }))) same
