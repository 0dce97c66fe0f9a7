-- There is a device that was opened over new dies.
use Rattle.ufs_laws.proofs.Common.{IsIdle, IsNew, State, ap, false, locked, mended, refl, row, true, ◌≡◌}
use Rattle.ufs_laws.proofs.new_dies.FirstLife.{opens_new}
use Rattle.ufs_laws.proofs.new_dies.NewDeviceState.{first_is, open_in}
use Rattle.ufs_laws.proofs.worked_run.RunStates.{marked}
use Rattle.ufs_spec.specs.Dies.{blank_page}

pub new_opens : (s : State) × IsNew s
new_opens =
    let h = opens_new row (λ p. blank_page) (λ b. false) (λ p. refl) in
    (h.0, record { array = λ p. blank_page; bad = λ b. false; blank = λ p. refl; none_bad = λ b. refl; opened = h.1 })

-- and once its first mark is finished it is mended and idle
pub mended_idle : (s : State) × IsIdle s × (mended s ≡ true)
unfolding marked
mended_idle = (marked (open_in new_opens.0), record { numbers = refl; no_tasks = refl; no_shorts = refl }, refl)

-- a device that begins with all its blocks bad is locked, and not mended
pub locked_new : (s : State) × IsIdle s × (mended s ≡ false) × (locked s ≡ true)
locked_new =
    let h = opens_new row (λ p. blank_page) (λ b. true) (λ p. refl) in
    let same = first_is row (λ p. blank_page) (λ b. true) h.0 (λ p. refl) h.1 in (
      h.0,
      record {
        numbers = ap (λ (s : State). s.translation.numbers) same;
        no_tasks = ap (λ (s : State). s.tasks) same;
        no_shorts = ap (λ (s : State). s.shorts) same;
      },
      ap mended same,
      ap locked same,
    )
