-- What a block is when a life begins: it is not being filled, and it is bad only if it was.
use Rattle.power_loss.proofs.Common.{◌≡◌, ℕ, Bool, Option, sym, ap, ◌∙◌, ⊎_elim, cases_Bool, Cells, Mark, BlockState}
use Rattle.power_loss.proofs.Common.{Filling, Spot, AreFirstBlocks}
use Rattle.ufs_spec.specs.Translation.{is_bad}
use Rattle.power_loss.proofs.jobs.StandsSecurely.{closed_is_not_filling, filling_is_not_bad, free_is_not_filling}

pub never_filling : {c : Cells} {m : Option Mark} {bad : Spot → Bool} {blocks : Spot → BlockState} {s : Spot}
    {next : ℕ} → AreFirstBlocks c m bad blocks → blocks s ≡ Filling next → ⊥
never_filling {bad = bad} {s = s} x h = ⊎_elim (λ e. filling_is_not_bad h (x.were_bad s e))
    (λ e. ⊎_elim (λ free. free_is_not_filling free h) (λ closed. closed_is_not_filling closed h) (x.were_good s e))
    (cases_Bool (bad s))

pub bad_as_before : {c : Cells} {m : Option Mark} {bad : Spot → Bool} {blocks : Spot → BlockState} (s : Spot) →
    AreFirstBlocks c m bad blocks → is_bad (blocks s) ≡ bad s
bad_as_before {bad = bad} s x = ⊎_elim (λ e. ap is_bad (x.were_bad s e) ∙ sym e)
    (λ e. ⊎_elim (λ free. ap is_bad free ∙ sym e) (λ closed. ap is_bad closed ∙ sym e) (x.were_good s e))
    (cases_Bool (bad s))
