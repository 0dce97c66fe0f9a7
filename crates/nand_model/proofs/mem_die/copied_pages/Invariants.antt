use Rattle.std.proofs.Common.{◌≡◌, take}
use Rattle.nand_model.proofs.mem_die.copied_pages.Given as goal

abbrev pub invariant-loop-page : goal.invariant-loop-page
invariant-loop-page l = l.all.items ≡ take l.page-index l.pages
