use Rattle.std.proofs.Common.{◌∙◌, ℕ, List, ap}
use Rattle.ufs_spec.specs.Messages.{spelling}
use Rattle.ufs_spec.specs.declared.Message.TheVariants.{DataIn}
use Rattle.stress.proofs.messages.shown.Goals as goal

pub returns : goal.returns
returns c =
    let same = c.as_slice.ensures.value ∙ c.content_of-content.ensures.content in
    c.write_data_in.ensures ∙ ap (λ (xs : List ℕ). spelling (DataIn 0 c.args.host 0 (record { items = xs }))) same
