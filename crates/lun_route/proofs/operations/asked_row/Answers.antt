use Rattle.std.proofs.Common.{sym, ◌∙◌}
use Rattle.std.proofs.lemmas.Option.{slice_get-get_or}
use Rattle.ufs_spec.specs.Identities.{is_asked}
use Rattle.scsi_cdb.proofs.ReadRows.{found_there, none_there}
use Rattle.lun_route.specs.Operations.{is_taken_and_asked, is_unit_row}
use Rattle.lun_route.proofs.OperationRows.{find_filtered}
use Rattle.lun_route.proofs.operations.asked_row.Goals as goal

pub returns-in-None : goal.returns-in-None
returns-in-None c =
    none_there (is_taken_and_asked c.args.select) c.args.rows.now (sym c.asked_place.ensures.place ∙ c.in-None.is)
    ∙ find_filtered is_unit_row (is_asked c.args.select) c.args.rows.now

pub returns-in-Some : goal.returns-in-Some
returns-in-Some c =
    sym (slice_get-get_or c.args.rows.now c.in-Some.place _ c.in-Some.ensures.within)
    ∙ found_there (is_taken_and_asked c.args.select) c.args.rows.now c.in-Some.place
    (sym c.asked_place.ensures.place ∙ c.in-Some.is)
    ∙ find_filtered is_unit_row (is_asked c.args.select) c.args.rows.now
