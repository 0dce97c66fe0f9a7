use Rattle.std.proofs.Common.{length}
use Rattle.ufsim.proofs.first_lines.FirstLines.read_units.Given as goal

abbrev pub decreases-loop-unit : goal.decreases-loop-unit
decreases-loop-unit l = length l.lines.rest.now
