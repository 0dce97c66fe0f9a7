use Rattle.std.proofs.Common.{sym, ◌∙◌}
use Rattle.std.proofs.lemmas.Option.{slice_get-get_or}
use Rattle.ufs_spec.specs.Queries.{class_of, is_row_of}
use Rattle.descriptors.proofs.Found.{found_there, none_there}
use Rattle.descriptors.proofs.table.row_in.Goals as goal

pub returns-in-None : goal.returns-in-None
returns-in-None c =
    none_there (is_row_of c.args.numbers.now (class_of c.args.asked.now.opcode) c.args.asked.now.idn) c.args.rows.now
    (sym c.place_in.ensures.place ∙ c.in-None.is)

pub returns-in-Some : goal.returns-in-Some
returns-in-Some c =
    sym (slice_get-get_or c.args.rows.now c.in-Some.place _ c.in-Some.ensures.within)
    ∙ found_there (is_row_of c.args.numbers.now (class_of c.args.asked.now.opcode) c.args.asked.now.idn) c.args.rows.now
    c.in-Some.place (sym c.place_in.ensures.place ∙ c.in-Some.is)
