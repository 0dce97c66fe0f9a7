use Rattle.std.proofs.Common.{◌≡◌, ◌++◌, replicate, drop}
use Rattle.ufs_spec.specs.Dies.{blank_page}
use Rattle.nand_model.proofs.mem_die.erase_all.Given as goal

abbrev pub invariant-loop-page : goal.invariant-loop-page
invariant-loop-page l = l.pages ≡ replicate l.page-index blank_page ++ drop l.page-index l.initial.pages
