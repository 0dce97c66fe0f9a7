use Rattle.std.proofs.Common.{◌∙◌, ◌<◌, arith, length, sym}
use Rattle.unit_map.specs.Tables.{page_index}
use Rattle.unit_map.proofs.PageIndexes.{few_keys, page_within}
use Rattle.unit_map.proofs.TableKept.{shared_told}
use Rattle.unit_map.proofs.key_table.KeyTable.note.Goals as goal

pub index-requires : goal.index-requires
index-requires c =
    omega (
      arith,
      page_within c.args.numbers.now c.args.place c.in-Some.page (sym c.page_index.ensures ∙ c.in-Some.is),
      c.requires.room,
    )

pub overflow_cast-index : goal.overflow_cast-index
overflow_cast-index c = omega (arith, few_keys c.args.numbers.now c.requires.in_range)

pub returns-clause-shared : goal.returns-clause-shared
returns-clause-shared c =
    let at = sym c.page_index.ensures ∙ c.in-Some.is in
    let within : c.in-Some.page < length c.args.self.now.keys.items =
    omega (arith, page_within c.args.numbers.now c.args.place c.in-Some.page at, c.requires.room) in
    shared_told c.args.places.now c.args.self.now.keys.items (page_index c.args.numbers.now c.args.place)
    c.args.place c.args.index c.in-Some.page c.index.result.now c.args.self.now.shared c.is_other_there.result at
    within c.index.ensures c.is_other_there.ensures
