use Rattle.std.proofs.Common.{◌<◌, ◌≤◌, ℕ, map}
use Rattle.journal.specs.Shown.{IsShownAt}
use Rattle.journal.proofs.kept.difference_in.Given as goal

-- so it is at each address before this one
abbrev pub invariant-loop-address : goal.invariant-loop-address
invariant-loop-address l = (a : ℕ) → l.from ≤ a → a < l.address →
    IsShownAt (map (λ v. v.items) l.found) l.plain l.unit a
