-- A list of calls of a handle is a run, and keeps its promise.
use Rattle.std.proofs.Common.{◌≡◌, ◌∙◌, ◌++◌, ◌∷◌, [], List, Some, inl, inr, refl, sym, subst}
use Rattle.std.proofs.lemmas.Bool.{true≢false}
use Rattle.std.specs.declared.alloc.Global.{Global}
use Rattle.ufs_spec.specs.Configs.{IsConfig}
use Rattle.ufs_spec.specs.Dies.{DieState}
use Rattle.ufs_spec.specs.Lives.{IsOpened, Runs, array_of, bad_of}
use Rattle.ufs_spec.specs.Refusals.{State, numbers_of}
use Rattle.ufs_spec.specs.Sound.{Sound}
use Rattle.ufs_spec.specs.declared.configs.Numbers.{Numbers}
use Rattle.ufs_spec.specs.declared.events.Event.{Event}
use Rattle.ufs_spec.specs.declared.events.Output.{Output}
use Rattle.power_loss.proofs.die_pages.BlankOutsideDies.{fit_inside}
use Rattle.power_loss.proofs.lives.NextLife.{sound_left}
use Rattle.power_loss.proofs.openings.EachSoundArrayOpens.{any_opens}
use Rattle.device.proofs.dies_of_world.OpenedWorld.{opened_fits}
use Rattle.heard_laws.proofs.lives.HeardLives.{headline_is_heard}
use Rattle.device.proofs.dies_of_world.Runs.{promise, runs_numbers}
use Rattle.ufs_handle.specs.Calls.{IsOpen}
use Rattle.ufs_handle.specs.Kept.{HeldState}
use Rattle.ufs_handle.specs.Runs.{AreARun, Call, Fail, FitsHeld, Host, IsEvent, IsOffAfter, MakeAll, Makes, Reply, Save}
use Rattle.ufs_handle.specs.Runs.{ShowAll, StandsAt, Stop, Take, Turn, Work, world_held}
use Rattle.ufs_handle.proofs.CallsAreEvents.{fails, hears, replies, takes, turns, works}
use Rattle.ufs_handle.proofs.StopsAreEvents.{nothing_left, saves_off, saves_on, stops_off, stops_on}

-- ## One call

its_event : (heap : Global) (c : Call) (h after : HeldState) (s : State) → FitsHeld h s → Makes c h after → IsEvent c s after
its_event heap (Host message answer) h after s fits (on, is) = hears h after s fits message answer is
its_event heap (Reply bytes due) h after s fits (on, is) = replies h after s fits bytes due is
its_event heap (Turn due) h after s fits (on, is) = turns h after s fits due is
its_event heap (Take die given) h after s fits (on, is) = takes h after s fits die given is
its_event heap (Work die did) h after s fits (on, is) = works h after s fits die did is
its_event heap (Fail die x did) h after s fits (on, is) = fails h after s fits heap die x did is
its_event heap (Stop lefts answer) h after s fits is = stops_on heap h s fits lefts answer after is
its_event heap Save h after s fits is = saves_on heap h after s fits is

-- with the power off
off_event : (c : Call) (h after : HeldState) (s : State) → IsOffAfter h s → Makes c h after → IsEvent c s after
off_event (Stop lefts answer) h after s o is = stops_off h s o lefts answer after is
off_event Save h after s o is = saves_off h after s o is
off_event (Host message answer) h after s o (on, is) = absurd (true≢false (sym o.off ∙ on))
off_event (Reply bytes due) h after s o (on, is) = absurd (true≢false (sym o.off ∙ on))
off_event (Turn due) h after s o (on, is) = absurd (true≢false (sym o.off ∙ on))
off_event (Take die given) h after s o (on, is) = absurd (true≢false (sym o.off ∙ on))
off_event (Work die did) h after s o (on, is) = absurd (true≢false (sym o.off ∙ on))
off_event (Fail die x did) h after s o (on, is) = absurd (true≢false (sym o.off ∙ on))

pub one_event : (heap : Global) (c : Call) (h after : HeldState) (s : State) → StandsAt h s → Makes c h after →
    IsEvent c s after
one_event heap c h after s (inl fits) is = its_event heap c h after s fits is
one_event heap c h after s (inr off) is = off_event c h after s off is

-- ## Several calls

-- some events, and others behind them
pub runs_then : (n : Numbers) (s t u : State) (es more : List Event) (os later : List Output) → Runs n s es os t →
    Runs n t more later u → Runs n s (es ++ more) (os ++ later) u
runs_then n s t u [] more [] later one other = subst (λ (x : State). Runs n x more later u) one other
runs_then n s t u (e ∷ es) more (o ∷ os) later one other =
    (one.0, one.1, runs_then n one.0 t u es more os later one.2 other)
runs_then n s t u [] more (o ∷ os) later one other = absurd one
runs_then n s t u (e ∷ es) more [] later one other = absurd one

-- what the calls show, and where the handle stands behind them
record Shown (cs : List Call) (s : State) (after : HeldState) : Type 0 where
  pub events : List Event
  pub outputs : List Output
  pub shown : ShowAll cs events outputs
  pub next : State
  pub runs : Runs (numbers_of s) s events outputs next
  pub stands : StandsAt after next

all_events : (heap : Global) (cs : List Call) (h after : HeldState) (s : State) → StandsAt h s → MakeAll cs h after →
    Shown cs s after
all_events heap [] h after s stands same =
    record {
      events = [];
      outputs = [];
      shown = (refl, refl);
      next = s;
      runs = refl;
      stands = subst (λ (x : HeldState). StandsAt x s) (sym same) stands;
    }
all_events heap (c ∷ cs) h after s stands (next, is, rest) =
    let first = one_event heap c h next s stands is in
    let later = all_events heap cs next after first.next first.stands rest in
    let numbers = runs_numbers (numbers_of s) s first.next first.events first.outputs refl first.runs in
    record {
      events = first.events ++ later.events;
      outputs = first.outputs ++ later.outputs;
      shown = (first.events, later.events, first.outputs, later.outputs, first.shows, later.shown, refl, refl);
      next = later.next;
      runs =
          runs_then (numbers_of s) s first.next later.next first.events later.events first.outputs later.outputs
          first.runs (subst (λ (n : Numbers). Runs n first.next later.events later.outputs later.next) numbers later.runs);
      stands = later.stands;
    }

-- ## From an opening on

-- the handle stands at each state that the definitions open over its dies
pub opened_stands : (n : Numbers) (dies : List DieState) (h : HeldState) (s : State) → IsOpen n dies (Some h) →
    Sound (array_of dies) → IsOpened n (array_of dies) (bad_of dies) s → FitsHeld h s
opened_stands n dies h s (on, config, same, jobs, opens) sound opened =
    record {
      on = on;
      world = opened_fits (world_held h) n dies s opens.fit config same jobs opens.described sound opened;
    }

-- the dies that a handle holds between two calls are sound
stands_sound : (h : HeldState) (s : State) → StandsAt h s → Sound (array_of h.dies)
stands_sound h s (inl fits) =
    subst Sound fits.world.dies_fit.pages (sound_left s fits.world.valid [] s.array (nothing_left s))
stands_sound h s (inr off) = sound_left s off.valid off.lefts.items (array_of h.dies) off.stops

pub are_a_run : (heap : Global) (n : Numbers) (dies : List DieState) (cs : List Call) (first after : HeldState) →
    Sound (array_of dies) → IsOpen n dies (Some first) → MakeAll cs first after → AreARun n dies cs after
are_a_run heap n dies cs first after sound opened made =
    let opens = opened.4 in
    let o = any_opens n (array_of dies) (bad_of dies) (fit_inside n dies opens.fit) sound opens.suits in
    let numbers : numbers_of o.0 ≡ n = o.1.translation.numbers in
    let fits = opened_stands n dies first o.0 opened sound o.1 in
    let all = all_events heap cs first after o.0 (inl fits) made in
    let runs = subst (λ (m : Numbers). Runs m o.0 all.events all.outputs all.next) numbers all.runs in
    let config : IsConfig n = subst IsConfig numbers fits.world.valid.tied.config in
    let kept =
    promise n dies all.events all.outputs o.0 all.next config (record { fit = opens.fit; suits = opens.suits }) sound
    o.1 runs in
    record {
      events = all.events;
      outputs = all.outputs;
      shown = all.shown;
      promise = kept;
      heard = headline_is_heard n dies all.events all.outputs config kept.headline kept.right;
      start = o.0;
      now = all.next;
      runs = runs;
      stands = all.stands;
      sound = stands_sound after all.next all.stands;
    }
