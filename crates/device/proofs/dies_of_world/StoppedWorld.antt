-- What a stop makes of a world.
use Rattle.device.proofs.Common.{All-contains, All-weaker, AreLeftovers, Bool, DeviceCore, DieState, Err, Fit, FitState}
use Rattle.device.proofs.Common.{Fits, IfOk, IsArrayOf, IsLawfulLeftover, IsLeftoverOf, IsOfDie, IsOpened}
use Rattle.device.proofs.Common.{IsOpeningFault, Leftover, List, MayDieLeave, None, Numbers, Ok, OnOk, Output, Result}
use Rattle.device.proofs.Common.{RunFaultKind, Sound, Spot, State, Suits, Went, WorldState, [], ap, arith, array_of}
use Rattle.device.proofs.Common.{bad_of, die_of, dies_left, dies_left_by, fit_inside, inr, length, map, numbers_of}
use Rattle.device.proofs.Common.{power_cycle_ended, refl, slice_index_or, subst, suc, sym, take, ℕ, ◌++◌, ◌+◌, ◌<◌, ◌∙◌}
use Rattle.device.proofs.Common.{◌∷◌, ◌≡◌, ◌≢◌}
use Rattle.std.specs.Global.{Vec}
use Rattle.std.specs.Prelude.{All, AllPairs, Contains, IfErr, replicate}
use Rattle.std.proofs.Math.Seq.{take-suc}
use Rattle.std.proofs.lemmas.List.Elements.{All-contains_itself}
use Rattle.ufs_spec.specs.Lives.{Stops, bad_in}
use Rattle.ufs_spec.specs.declared.events.Event.TheVariants as event
use Rattle.ufs_spec.specs.declared.events.Output.TheVariants as output
use Rattle.ufs_spec.specs.declared.events.RunFaultKind.TheVariants as kind
use Rattle.power_loss.proofs.lives.NextLife.{sound_left, suits_left}
use Rattle.power_loss.proofs.openings.EachSoundArrayOpens.{any_opens}
use Rattle.power_loss.proofs.openings.OpenedStates.{opened_state}
use Rattle.device.specs.Worlds.{IsRefusedAs, dies_refused, dies_stopped}
use Rattle.device.proofs.dies_of_world.DiesFit.{opens_fit}
use Rattle.device.proofs.dies_of_world.LeftDies.{leftovers_on_dies, stopped_bad, stopped_fits, stops_by}
use Rattle.device.proofs.dies_of_world.LeftoversChecked.{lawful_of, may_of, of_flight, to_die}
use Rattle.device.proofs.dies_of_world.OpenedWorld.{IsOpenedOver}
use Rattle.device.proofs.dies_of_world.OpeningRefused.{not_another}

abbrev pub AreApart : List Leftover → Type 0
AreApart lefts = AllPairs (λ l m. die_of l ≢ die_of m) lefts

abbrev pub AreOfDies : WorldState → List Leftover → Type 0
AreOfDies w lefts = All (λ l. IsOfDie w (die_of l) l) lefts

abbrev pub MayAllBeLeft : WorldState → List Leftover → Type 0
MayAllBeLeft w lefts = All (λ l. MayDieLeave w (die_of l) l) lefts

abbrev pub AreLawful : State → List Leftover → Type 0
AreLawful s lefts = (l : Leftover) → Contains lefts l → IsLawfulLeftover s l

-- One leftover more

left_next : (ls : List Leftover) (dies : List DieState) (l : Leftover) →
    dies_left dies (ls ++ l ∷ []) ≡ dies_left_by (dies_left dies ls) l
left_next [] dies l = refl
left_next (m ∷ ls) dies l = left_next ls (dies_left_by dies m) l

pub left_more : (dies : List DieState) (ls : List Leftover) (k : ℕ) (l : Leftover) → k < length ls →
    l ≡ slice_index_or ls k l →
    dies_left_by (dies_left dies (take k ls)) l ≡ dies_left dies (take (k + 1) ls)
left_more dies ls k l less is =
    let next : take (suc k) ls ≡ take k ls ++ l ∷ [] =
    take-suc ls k l less ∙ ap (λ (x : Leftover). take k ls ++ x ∷ []) (sym is) in
    let same : suc k ≡ k + 1 = omega arith in
    sym (left_next (take k ls) dies l)
    ∙ ap (λ (xs : List Leftover). dies_left dies xs) (sym next ∙ ap (λ (j : ℕ). take j ls) same)

-- What is checked

module _ (w : WorldState) (s : State) (lefts : List Leftover) (fit : Fits w s) where
  pub are_leftovers : AreOfDies w lefts → AreApart lefts → AreLeftovers s lefts
  are_leftovers all apart = (
    All-weaker (λ l. IsOfDie w (die_of l) l)
        (λ l. IsLeftoverOf (numbers_of s) (s.translation.disk.flights (die_of l)) l)
        (λ l is. of_flight w s (die_of l) l fit is) lefts all,
    apart,
  )

  pub are_of_dies : AreLeftovers s lefts → AreOfDies w lefts
  are_of_dies are =
      All-weaker (λ l. IsLeftoverOf (numbers_of s) (s.translation.disk.flights (die_of l)) l)
      (λ l. IsOfDie w (die_of l) l) (λ l is. to_die w s (die_of l) l fit is) lefts are.0

  pub are_lawful : AreOfDies w lefts → MayAllBeLeft w lefts → AreLawful s lefts
  are_lawful all may l there =
      lawful_of w s (die_of l) l fit (All-contains (λ m. IsOfDie w (die_of m) m) lefts l all there)
      (All-contains (λ m. MayDieLeave w (die_of m) m) lefts l may there)

  pub may_all : AreOfDies w lefts → AreLawful s lefts → MayAllBeLeft w lefts
  may_all all lawful =
      All-weaker (Contains lefts) (λ l. MayDieLeave w (die_of l) l)
      (λ l there. may_of w s (die_of l) l fit (All-contains (λ m. IsOfDie w (die_of m) m) lefts l all there)
      (lawful l there)) lefts (All-contains_itself lefts)

-- The dies after the stop

module _ (w : WorldState) (s : State) (lefts : Vec Leftover) (fit : Fits w s) (are : AreLeftovers s lefts.items)
    (lawful : AreLawful s lefts.items) where
  abbrev n : Numbers
  n = numbers_of s

  abbrev after : List DieState
  after = dies_stopped w.dies lefts.items

  stops : Stops s lefts.items (array_of after)
  stops = stops_by s fit.valid w.dies lefts.items fit.dies_fit.sizes fit.dies_fit.pages are lawful

  fits : Fit n after
  fits = stopped_fits n w.dies lefts.items fit.dies_fit.sizes (leftovers_on_dies s fit.valid lefts.items are)

  bads : bad_in s ≡ bad_of after
  bads =
      (λ i spot. fit.dies_fit.blocks_fit.bad spot i)
      ∙ sym (stopped_bad n w.dies lefts.items fit.dies_fit.sizes (leftovers_on_dies s fit.valid lefts.items are))

  inside : IsArrayOf n (array_of after)
  inside = fit_inside n after fits

  sound : Sound (array_of after)
  sound = sound_left s fit.valid lefts.items (array_of after) stops

  suits : Suits n (array_of after)
  suits = suits_left s fit.valid lefts.items (array_of after) stops

  -- a device that is opened over them goes on
  pub stop_went : (core : DeviceCore) →
      IsOpenedOver w.config after core →
      Went s (event.Stop lefts) (record w {
        core = core;
        dies = after;
        jobs = replicate (length w.jobs) None;
      }) (Ok output.Stopped)
  stop_went core described =
      let o = any_opens n (array_of after) (bad_of after) inside sound suits in (
        o.0,
        inr (array_of after, stops, subst (λ (b : Spot → Bool). IsOpened n (array_of after) b o.0) (sym bads) o.1),
        record {
          config = fit.config ∙ sym o.1.translation.numbers;
          describes =
              described o.0 sound
              (subst (λ (m : Numbers). IsOpened m (array_of after) (bad_of after) o.0) (sym fit.config) o.1);
          valid = opened_state n (array_of after) (bad_of after) o.0 fit.valid.tied.config inside sound o.1;
          dies_fit =
              subst (λ (count : ℕ). FitState after (replicate count None) o.0)
              (sym (fit.dies_fit.as_many ∙ fit.dies_fit.sizes.0 ∙ sym fits.0)) (opens_fit n after o.0 fits o.1);
        },
      )

  -- it is refused for want of memory alone
  pub stop_refused : (k : RunFaultKind) → IsOpeningFault w.config after k → IsRefusedAs s (event.Stop lefts) k
  stop_refused kind.NoMemory h = (array_of after, stops)
  stop_refused kind.BadLeftover h = absurd h
  stop_refused kind.WrongEvent h =
      absurd (not_another w.config after (h (subst (λ (m : Numbers). Fit m after) (sym fit.config) fits)) sound
      (subst (λ (m : Numbers). Suits m (array_of after)) (sym fit.config) suits))

  pub stop_leaves : (k : RunFaultKind) → IsOpeningFault w.config after k →
      after ≡ dies_refused k w.dies (event.Stop lefts)
  stop_leaves kind.NoMemory h = refl
  stop_leaves kind.BadLeftover h = absurd h
  stop_leaves kind.WrongEvent h =
      absurd (not_another w.config after (h (subst (λ (m : Numbers). Fit m after) (sym fit.config) fits)) sound
      (subst (λ (m : Numbers). Suits m (array_of after)) (sym fit.config) suits))

-- The world after the stop

-- no job is in flight any more
abbrev pub stopped : WorldState → List Leftover → WorldState
stopped w lefts = record w { dies = dies_stopped w.dies lefts; jobs = replicate (length w.jobs) None }

-- what the leftovers and the end of the power make of a world
pub stopped_by : (w left off : WorldState) (xs lefts : List Leftover) → xs ≡ lefts →
    left ≡ record w { dies = dies_left w.dies xs } →
    off ≡ record left { dies = map power_cycle_ended left.dies; jobs = replicate (length left.jobs) None } →
    off ≡ stopped w lefts
stopped_by w left off xs lefts same is off_is =
    off_is
    ∙ ap
    (λ (x : WorldState). record x { dies = map power_cycle_ended x.dies; jobs = replicate (length x.jobs) None }) is
    ∙ ap (λ (ls : List Leftover). stopped w ls) same

-- the same but for its device
abbrev pub IsReopened : WorldState → WorldState → Type 0
IsReopened before after = (core : DeviceCore) × (after ≡ record before { core = core })

module _ (w : WorldState) (s : State) (lefts : Vec Leftover) (fit : Fits w s) (are : AreLeftovers s lefts.items)
    (lawful : AreLawful s lefts.items) (off after : WorldState) (is : off ≡ stopped w lefts.items)
    (same : IsReopened off after) where
  reopened : after ≡ record (stopped w lefts.items) { core = same.0 }
  reopened = same.1 ∙ ap (λ (x : WorldState). record x { core = same.0 }) is

  pub stop_shown : (r : Result Output RunFaultKind) → IfOk r (λ o. o ≡ output.Stopped) →
      OnOk r (IsOpenedOver off.config off.dies after.core) → IfErr r (λ k. IsOpeningFault off.config off.dies k) →
      Went s (event.Stop lefts) after r
  stop_shown (Ok o) shown opened refused =
      let over : IsOpenedOver w.config (dies_stopped w.dies lefts.items) same.0 =
      subst (λ (x : WorldState). IsOpenedOver w.config (dies_stopped w.dies lefts.items) x.core) reopened
      (subst (λ (x : WorldState). IsOpenedOver x.config x.dies after.core) is opened) in
      subst (λ (x : Output). Went s (event.Stop lefts) after (Ok x)) (sym shown)
      (subst (λ (x : WorldState). Went s (event.Stop lefts) x (Ok output.Stopped)) (sym reopened)
      (stop_went w s lefts fit are lawful same.0 over))
  stop_shown (Err k) shown opened refused =
      stop_refused w s lefts fit are lawful k (subst (λ (x : WorldState). IsOpeningFault x.config x.dies k) is refused)

  pub stop_dies : (r : Result Output RunFaultKind) → IfErr r (λ k. IsOpeningFault off.config off.dies k) →
      IfErr r (λ k. after.dies ≡ dies_refused k w.dies (event.Stop lefts))
  stop_dies (Ok o) refused = tt
  stop_dies (Err k) refused =
      ap (λ (x : WorldState). x.dies) reopened
      ∙ stop_leaves w s lefts fit are lawful k
      (subst (λ (x : WorldState). IsOpeningFault x.config x.dies k) is refused)
