use Rattle.recovery.proofs.Common.{filter, is_outside, take, ◌≡◌}
use Rattle.recovery.proofs.outside.outside_pages.Given as goal

abbrev pub invariant-loop-page : goal.invariant-loop-page
invariant-loop-page l = l.all.items ≡ filter (is_outside l.blocks l.free) (take l.page-index l.pages)
