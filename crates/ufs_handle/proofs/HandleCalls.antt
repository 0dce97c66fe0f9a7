-- Calls of a handle that holds a device, by what they are of the device.
use Rattle.std.proofs.Common.{◌≡◌, ◌∙◌, ◌<◌, ◌==◌, ℕ, zero, suc, Bool, false, List, Option, Some, ap, arith, inr, length}
use Rattle.std.proofs.Common.{subst, sym}
use Rattle.std.specs.Prelude.{IfErr, OnErr, OnOk, Result, Ok, Err}
use Rattle.ufs_spec.proofs.Facts.{true≢false}
use Rattle.ufs_handle.specs.Calls.{IsUnopened, Stopped, StopsSo, dies_stopped, left_off}
use Rattle.ufs_handle.specs.Exports.{GivesJob, HandsJob}
use Rattle.ufs_handle.specs.Kept.{HeldState}
use Rattle.ufs_handle.specs.declared.fault.Fault.{Fault}
use Rattle.ufs_handle.specs.declared.left.Left.{Left}
use Rattle.ufs_handle.specs.declared.plain.PlainJob.{PlainJob}

pub not_empty : (n : ℕ) (b : Bool) → b ≡ (n == 0) → b ≡ false → 0 < n
not_empty zero b is e = absurd (true≢false (sym is ∙ e))
not_empty (suc n) b is e = omega arith

-- a stop of a device with dies in memory
stops : (lefts : List Left) (h after : HeldState) (answer : Result (Unit {0}) Fault) → 0 < length h.dies →
    OnOk answer (Stopped lefts h after) → IfErr answer (IsUnopened h.config (dies_stopped lefts h)) →
    OnErr answer (after ≡ left_off lefts h) → StopsSo lefts (Some h) (Some answer) (Some after)
stops lefts h after (Ok x) some stopped refused off = (some, stopped)
stops lefts h after (Err f) some stopped refused off = inr (some, refused, off)

pub stops_so : (lefts : List Left) (before behind : Option HeldState) (h same after : HeldState)
    (answer : Result (Unit {0}) Fault) → before ≡ Some h → same ≡ h → behind ≡ Some after → 0 < length h.dies →
    OnOk answer (Stopped lefts same after) → IfErr answer (IsUnopened same.config (dies_stopped lefts same)) →
    OnErr answer (after ≡ left_off lefts same) → StopsSo lefts before (Some answer) behind
stops_so lefts before behind h same after answer held is put some stopped refused off =
    subst (λ (b : Option HeldState). StopsSo lefts b (Some answer) behind) (sym held)
    (subst (λ (b : Option HeldState). StopsSo lefts (Some h) (Some answer) b) (sym put)
    (stops lefts h after answer some
    (subst (λ (x : HeldState). OnOk answer (Stopped lefts x after)) is stopped)
    (subst (λ (x : HeldState). IfErr answer (IsUnopened x.config (dies_stopped lefts x))) is refused)
    (subst (λ (x : HeldState). OnErr answer (after ≡ left_off lefts x)) is off)))

-- a job that is asked for of a device
pub gives_job : (die : ℕ) (shown other : PlainJob) (before behind : Option HeldState) (h same after : HeldState)
    (flag : Bool) → before ≡ Some h → h.is_off ≡ false → same ≡ h → behind ≡ Some after →
    HandsJob die shown other same flag after → GivesJob die shown other before (Some flag) behind
gives_job die shown other before behind h same after flag held on is put given =
    subst (λ (b : Option HeldState). GivesJob die shown other b (Some flag) behind) (sym held)
    (subst (λ (b : Option HeldState). GivesJob die shown other (Some h) (Some flag) b) (sym put)
    (its (subst (λ (x : HeldState). HandsJob die shown other x flag after) is given)))
  where
    its : HandsJob die shown other h flag after → GivesJob die shown other (Some h) (Some flag) (Some after)
    its x = (Some x.0, ap (λ (b : Bool). Some b) x.1, (on, x.2), x.3)
