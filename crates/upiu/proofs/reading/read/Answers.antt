use Rattle.std.proofs.Common.{◌≡◌, Some, None, sym, ◌∙◌}
use Rattle.upiu.proofs.Spelled.{clear, passes}
use Rattle.upiu.proofs.reading.read.Goals as goal

pub read_fields-requires : goal.read_fields-requires
read_fields-requires c = passes _ (sym c.in-None.ensures)

pub returns-in-Some-clause-taken : goal.returns-in-Some-clause-taken
returns-in-Some-clause-taken c =
    λ message taken spells.
    (let told : Some c.in-Some.fault ≡ None = c.in-Some.ensures ∙ clear c.args.bytes.now message spells in
    cc)
