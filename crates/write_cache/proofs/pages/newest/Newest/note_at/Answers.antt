use Rattle.write_cache.proofs.Common.{Numbers, ap, sym, ◌∙◌}
use Rattle.std.proofs.lemmas.List.{set_past}
use Rattle.geometry.specs.Keys.{index_of}
use Rattle.ufs_spec.specs.Plain.{shape_of_numbers}
use Rattle.write_cache.specs.Newest.{positions_noted}
use Rattle.write_cache.proofs.pages.newest.Newest.note_at.Goals as goal

pub returns-in_default-get_mut-clause-at : goal.returns-in_default-get_mut-clause-at
returns-in_default-get_mut-clause-at c =
    let item = c.in_default-get_mut.ensures.item in
    let index =
    ap (λ (n : Numbers). index_of (shape_of_numbers n) c.args.key) (sym c.numbers.ensures.value)
    ∙ sym c.key_index.ensures.value ∙ c.in-Some.is in
    sym (ap (positions_noted c.args.self.now.at.items c.args.position) index
    ∙ set_past c.args.self.now.at.items c.in-Some.index c.args.position item.3)
