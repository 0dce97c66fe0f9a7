-- A list of calls of a handle whose dies are the program's own is a run, and keeps its promise.
use Rattle.std.proofs.Common.{◌≡◌, ◌++◌, ◌∷◌, [], List, Some, refl, sym, subst}
use Rattle.std.specs.declared.alloc.Global.{Global}
use Rattle.ufs_spec.specs.Configs.{IsConfig}
use Rattle.ufs_spec.specs.Dies.{DieState}
use Rattle.ufs_spec.specs.Lives.{Runs, array_of, bad_of}
use Rattle.ufs_spec.specs.Refusals.{State, numbers_of}
use Rattle.ufs_spec.specs.Sound.{Sound}
use Rattle.ufs_spec.specs.declared.configs.Numbers.{Numbers}
use Rattle.ufs_spec.specs.declared.events.Event.{Event}
use Rattle.ufs_spec.specs.declared.events.Output.{Output}
use Rattle.power_loss.proofs.die_pages.BlankOutsideDies.{fit_inside}
use Rattle.power_loss.proofs.lives.NextLife.{sound_left}
use Rattle.power_loss.proofs.openings.EachSoundArrayOpens.{any_opens}
use Rattle.heard_laws.proofs.lives.HeardLives.{headline_is_heard}
use Rattle.device.proofs.dies_of_world.Runs.{promise, runs_numbers}
use Rattle.ufs_handle.specs.Calls.{GivesUp, IsOpen}
use Rattle.ufs_handle.specs.Kept.{HeldState}
use Rattle.ufs_handle.specs.OwnDies.{AreAnOwnRun, FitsOwn, OwnCall, OwnMakeAll, OwnShowAll}
use Rattle.ufs_handle.specs.Runs.{FitsHeld}
use Rattle.ufs_handle.proofs.CallLists.{opened_stands, runs_then}
use Rattle.ufs_handle.proofs.OwnDies.{own_call}
use Rattle.ufs_handle.proofs.StopsAreEvents.{nothing_left}

-- what the calls show, and what the handle and the dies fit behind them
record Shown (cs : List OwnCall) (s : State) (after : HeldState) (others : List DieState) : Type 0 where
  pub events : List Event
  pub outputs : List Output
  pub shown : OwnShowAll cs events outputs
  pub next : State
  pub runs : Runs (numbers_of s) s events outputs next
  pub fits : FitsOwn after others next

all_events : (heap : Global) (cs : List OwnCall) (h after : HeldState) (dies others : List DieState) (s : State) →
    FitsOwn h dies s → OwnMakeAll cs h dies after others → Shown cs s after others
all_events heap [] h after dies others s fits (same, as_before) =
    record {
      events = [];
      outputs = [];
      shown = (refl, refl);
      next = s;
      runs = refl;
      fits =
          subst (λ (x : HeldState). FitsOwn x others s) (sym same)
          (subst (λ (ds : List DieState). FitsOwn h ds s) (sym as_before) fits);
    }
all_events heap (c ∷ cs) h after dies others s fits (next, between, is, rest) =
    let first = own_call heap c h next dies between s fits is in
    let later = all_events heap cs next after between others first.next first.fits rest in
    let numbers = runs_numbers (numbers_of s) s first.next first.events first.outputs refl first.runs in
    record {
      events = first.events ++ later.events;
      outputs = first.outputs ++ later.outputs;
      shown = (first.events, later.events, first.outputs, later.outputs, first.shows, later.shown, refl, refl);
      next = later.next;
      runs =
          runs_then (numbers_of s) s first.next later.next first.events later.events first.outputs later.outputs
          first.runs (subst (λ (n : Numbers). Runs n first.next later.events later.outputs later.next) numbers later.runs);
      fits = later.fits;
    }

-- dies in memory are given up, and the program's own hold what they held
pub given_up : (h after : HeldState) (s : State) → FitsHeld h s → GivesUp h tt after → FitsOwn after h.dies s
given_up h after s fits gives =
    subst (λ (x : HeldState). FitsOwn x h.dies s) (sym gives)
    (record { on = fits.on; none = refl; world = fits.world })

pub are_an_own_run : (heap : Global) (n : Numbers) (dies others : List DieState) (cs : List OwnCall)
    (first h after : HeldState) → Sound (array_of dies) → IsOpen n dies (Some first) → GivesUp first tt h →
    OwnMakeAll cs h dies after others → AreAnOwnRun n dies cs others
are_an_own_run heap n dies others cs first h after sound opened gives made =
    let opens = opened.4 in
    let o = any_opens n (array_of dies) (bad_of dies) (fit_inside n dies opens.fit) sound opens.suits in
    let numbers : numbers_of o.0 ≡ n = o.1.translation.numbers in
    let held = opened_stands n dies first o.0 opened sound o.1 in
    let fits : FitsOwn h dies o.0 =
    subst (λ (ds : List DieState). FitsOwn h ds o.0) opened.2 (given_up first h o.0 held gives) in
    let all = all_events heap cs h after dies others o.0 fits made in
    let runs = subst (λ (m : Numbers). Runs m o.0 all.events all.outputs all.next) numbers all.runs in
    let config : IsConfig n = subst IsConfig numbers held.world.valid.tied.config in
    let kept =
    promise n dies all.events all.outputs o.0 all.next config (record { fit = opens.fit; suits = opens.suits }) sound
    o.1 runs in
    record {
      events = all.events;
      outputs = all.outputs;
      shown = all.shown;
      promise = kept;
      heard = headline_is_heard n dies all.events all.outputs config kept.headline kept.right;
      sound =
          subst Sound all.fits.world.dies_fit.pages
          (sound_left all.next all.fits.world.valid [] all.next.array (nothing_left all.next));
    }
