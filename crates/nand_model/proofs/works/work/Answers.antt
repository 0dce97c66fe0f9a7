-- A finished erase and a failed one are what the die's clauses say of them.
use Rattle.std.proofs.Common.{◌≡◌, ℕ, ◌<◌, ◌≤◌, Result, Ok, Err, OnOk, OnErr, MatchResult}
use Rattle.ufs_spec.specs.Dies.{DieState, Did, IsFailedErase, die_erased}
use Rattle.ufs_spec.specs.declared.flash.Outcome.{Outcome}
use Rattle.ufs_spec.specs.declared.flash.Outcome.TheVariants.{Done, Failed}
use Rattle.ufs_spec.specs.declared.flash.Job.TheVariants.{Erase}
use Rattle.nand_model.proofs.works.work.Goals as goal

erase_ends : {A B : Type 0} (ended : Result A B) (o : Outcome) (failed now : ℕ) (before after : DieState)
    (die block : ℕ) → MatchResult ended (λ _. o ≡ Done) (λ _. o ≡ Failed) →
    OnOk ended (after ≡ die_erased before block) → OnErr ended (IsFailedErase before block after) →
    OnOk ended (failed ≤ now) → OnErr ended (failed < now) → Did failed now before (Erase die block) o after
erase_ends (Ok x) o failed now before after die block is done left ok err = rw is (done, ok)
erase_ends (Err x) o failed now before after die block is done left ok err = rw is (left, err)

pub returns-in-Erase : goal.returns-in-Erase
returns-in-Erase g c =
    let e = c.erase.ensures in
    rw c.in-Erase.is (erase_ends c.erase.result _ _ _ _ _ c.in-Erase.die _ c.ending-in-Erase.ensures e.done e.left
    e.counted_ok e.counted_err)
