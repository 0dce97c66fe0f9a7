use Rattle.std.proofs.Common.{◌≡◌, ◌<◌, ◌≤◌, ◌==◌, ℕ, map}
use Rattle.std.specs.Prelude.{take}
use Rattle.ufs_spec.specs.Plain.{Plain, shape_of, shape_of_numbers}
use Rattle.journal.specs.Entries.{IsAfter, noted_of, same_flag, surely_after}
use Rattle.journal.specs.Shown.{ShowsAll}
use Rattle.journal.proofs.EntryFacts.{boot_after, permanent_after}
use Rattle.journal.proofs.kept.is_kept.Given as goal

-- the plain device is the one that the entries so far make for sure, and it is known which settings may be there; none
-- that fewer entries may make is shown
abbrev pub invariant-loop-index : goal.invariant-loop-index
invariant-loop-index l = record {
  shape : shape_of l.plain ≡ shape_of_numbers l.numbers;
  now : l.plain ≡ surely_after l.fn.base (take l.index (map noted_of l.entries));
  boot :
      l.may.boot
      ≡ boot_after l.rest.boot (l.fn.base.boot == l.rest.boot) (take l.index (map noted_of l.entries));
  permanent :
      l.may.permanent
      ≡ permanent_after l.rest.is_permanent (same_flag l.fn.base.permanent l.rest.is_permanent)
      (take l.index (map noted_of l.entries));
  none :
      (k : ℕ) → l.held ≤ k → k < l.index → (p : Plain) → IsAfter l.fn.base (take k (map noted_of l.entries)) p →
      ShowsAll (map (λ v. v.items) l.found) l.rest p → ⊥;
}
