-- The blocks of an opening are one: what each block is follows from what the older ones are.
use Rattle.power_loss.proofs.Common.{◌≡◌, ℕ, zero, suc, ◌<◌, Bool, Option, sym, ap, ◌∙◌, ⊎_elim, arith, cases_Bool}
use Rattle.power_loss.proofs.Common.{AreWithin, Cells, Mark, BlockState, Closed, Free, Spot, spot_of, AreFirstBlocks}
use Rattle.power_loss.proofs.Common.{Numbers}
use Rattle.ufs_spec.specs.Openings.{IsFree, IsItOrFreeBefore, IsOlder}
use Rattle.power_loss.proofs.openings.BlocksByAge.{IsInside, inside_spot, rank, older_rank}
use Rattle.power_loss.proofs.openings.PagesThatMayGo.{spare_less}

module _ (n : Numbers) (c : Cells) (within : AreWithin n c) (m : Option Mark) (bad : Spot → Bool)
    (a b : Spot → BlockState) (x : AreFirstBlocks c m bad a) (y : AreFirstBlocks c m bad b) where
  -- a free block is free in the other too, if the older ones are
  not_closed : (f g : Spot → BlockState) → AreFirstBlocks c m bad f → AreFirstBlocks c m bad g → (s : Spot) →
      ((o : Spot) → IsOlder c o s → IsInside n c within o → g o ≡ f o) → f s ≡ Free → g s ≡ Closed → ⊥
  not_closed f g u v s same free closed =
      let k = v.oldest_first s closed in
      k.3 (spare_less m (IsFree f) (IsItOrFreeBefore c g s) (c k.0)
      (λ q is z. ⊎_elim (λ it. ap f it ∙ free)
      (λ w. sym (same (spot_of q) w.1 (inside_spot n c within q is)) ∙ w.0) z)
      (u.spare k.0 (ap f k.1 ∙ free) k.2))

  one_by : (s : Spot) → ((o : Spot) → IsOlder c o s → IsInside n c within o → a o ≡ b o) → a s ≡ b s
  one_by s same = ⊎_elim (λ e. x.were_bad s e ∙ sym (y.were_bad s e))
      (λ e. ⊎_elim
      (λ h. ⊎_elim (λ k. h ∙ sym k) (λ k. absurd (not_closed a b x y s (λ o l i. sym (same o l i)) h k))
      (y.were_good s e))
      (λ h. ⊎_elim (λ k. absurd (not_closed b a y x s same k h)) (λ k. h ∙ sym k) (y.were_good s e))
      (x.were_good s e)) (cases_Bool (bad s))

  one_below : (fuel : ℕ) (s : Spot) → rank n c within s < fuel → a s ≡ b s
  one_below zero s l = absurd (omega arith)
  one_below (suc fuel) s l = one_by s (λ o older i. one_below fuel o
      (let k = older_rank n c within o s older i in omega arith))

  -- each block is the same in both
  pub blocks_one : (s : Spot) → a s ≡ b s
  blocks_one s = one_below (suc (rank n c within s)) s (omega arith)
