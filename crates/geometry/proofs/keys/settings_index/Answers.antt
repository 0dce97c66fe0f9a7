use Rattle.std.proofs.Common.{arith}
use Rattle.geometry.proofs.Areas.{all_pages}
use Rattle.geometry.proofs.keys.settings_index.Goals as goal

pub returns-clause-value : goal.returns-clause-value
returns-clause-value c = let pages = all_pages c.args.numbers.now (omega arith) in cc
