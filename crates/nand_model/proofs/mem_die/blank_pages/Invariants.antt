use Rattle.std.proofs.Common.{◌≡◌, replicate}
use Rattle.ufs_spec.specs.Dies.{blank_page}
use Rattle.nand_model.proofs.mem_die.blank_pages.Given as goal

abbrev pub invariant-loop : goal.invariant-loop
invariant-loop l = l.all.items ≡ replicate l.counter blank_page
