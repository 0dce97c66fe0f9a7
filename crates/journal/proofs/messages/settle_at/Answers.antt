use Rattle.std.proofs.Common.{◌∙◌, ap, map, slice_set, sym}
use Rattle.std.proofs.lemmas.List.{get_or-map, map-set}
use Rattle.journal.specs.Entries.{Noted, Refused, noted_of}
use Rattle.journal.specs.Heard.{settled}
use Rattle.journal.proofs.messages.settle_at.Goals as goal

pub returns : goal.returns
returns c =
    let items = c.args.entries.now.items in
    let place = c.args.place in
    let here = get_or-map noted_of items place c.index_mut.result.now Refused c.requires in
    map-set noted_of items place c.settle.new.entry
    ∙ ap (λ (e : Noted). slice_set (map noted_of items) place e)
    (c.settle.ensures
    ∙ ap (settled c.args.is_locked c.args.code) (ap noted_of c.index_mut.ensures.value ∙ sym here))
