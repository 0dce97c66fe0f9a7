-- A world whose device was opened over its dies.
use Rattle.device.proofs.Common.{Describes, DeviceCore, DieState, Err, Fit, FitState, Fits, HasScanned, IsConfig}
use Rattle.device.proofs.Common.{IsOpened, Job, List, None, Numbers, Ok, OnOk, Option, Result, Sound, State, Suits}
use Rattle.device.proofs.Common.{WorldState, ap, array_of, bad_of, fit_inside, length, map, map-id, subst, sym, ◌∙◌}
use Rattle.device.proofs.Common.{◌≡◌}
use Rattle.std.specs.Prelude.{Vec, replicate}
use Rattle.std.specs.Vec.{with_items}
use Rattle.std.proofs.lemmas.List.{with_items_is}
use Rattle.power_loss.proofs.openings.OpenedStates.{opened_state}
use Rattle.device.proofs.dies_of_world.DiesFit.{opens_fit}

-- what is written over a list as it was leaves it
pub written_same : {X Z : Type 0} (v : Vec X Z) (ws : List X) → ws ≡ v.items → (with_items v ws).items ≡ v.items
written_same v ws same = with_items_is v ws (ap length same ∙ sym v.ok.0) ∙ same

-- a die in memory is its own state
pub fit_same : (n : Numbers) (dies others : List DieState) → dies ≡ others →
    Fit n (map (λ (die : DieState). die) dies) → Fit n others
fit_same n dies others same fit = subst (Fit n) (map-id dies ∙ same) fit

-- the device is the one that the definitions open over the dies
abbrev pub IsOpenedOver : Numbers → List DieState → DeviceCore → Type 0
IsOpenedOver n dies core =
    (s : State) → Sound (array_of dies) → IsOpened n (array_of dies) (bad_of dies) s → Describes core s

pub opened_over : (n m : Numbers) (dies others : List DieState) (core : DeviceCore) → m ≡ n → others ≡ dies →
    IsOpenedOver m others core → IsOpenedOver n dies core
opened_over n m dies others core same_numbers same h =
    subst (λ (x : Numbers). IsOpenedOver x dies core) same_numbers
    (subst (λ (ds : List DieState). IsOpenedOver m ds core) same h)

pub suits_over : (n m : Numbers) (dies others : List DieState) → m ≡ n → others ≡ dies →
    Suits m (array_of others) → Suits n (array_of dies)
suits_over n m dies others same_numbers same h =
    subst (λ (x : Numbers). Suits x (array_of dies)) same_numbers
    (subst (λ (ds : List DieState). Suits m (array_of ds)) same h)

pub scanned_over : (n m : Numbers) (dies others : List DieState) (core : DeviceCore) → m ≡ n → others ≡ dies →
    HasScanned m others core → HasScanned n dies core
scanned_over n m dies others core same_numbers same h =
    subst (λ (x : Numbers). HasScanned x dies core) same_numbers
    (subst (λ (ds : List DieState). HasScanned m ds core) same h)

-- over sound dies that fit, with no job in flight, it fits that state
pub opened_fits : (w : WorldState) (n : Numbers) (dies : List DieState) (s : State) → Fit n dies → w.config ≡ n →
    w.dies ≡ dies → w.jobs ≡ replicate (length dies) None → IsOpenedOver n dies w.core → Sound (array_of dies) →
    IsOpened n (array_of dies) (bad_of dies) s → Fits w s
opened_fits w n dies s fit same_config same_dies none opens sound opened =
    let describes = opens s sound opened in
    let config : IsConfig n = subst IsConfig opened.translation.numbers describes.tied.config in
    record {
      config = same_config ∙ sym opened.translation.numbers;
      describes = describes;
      valid = opened_state n (array_of dies) (bad_of dies) s config (fit_inside n dies fit) sound opened;
      dies_fit =
          subst (λ (ds : List DieState). FitState ds w.jobs s) (sym same_dies)
          (subst (λ (js : List (Option Job)). FitState dies js s) (sym none) (opens_fit n dies s fit opened));
    }

-- what holds does so where the call was well
pub on_ok : {A E P : Type 0} (r : Result A E) → P → OnOk r P
on_ok (Ok a) p = p
on_ok (Err e) p = tt
