-- In the first life of new dies each die with a block that is not bad is given an erase behind the first step.
use Rattle.ufs_laws.proofs.Common.{Array, Bool, Erasing, IsOpened, List, MayTake, None, Numbers, OfTurn, Some, Spot}
use Rattle.ufs_laws.proofs.Common.{State, TakeStep, Translation, Turn, [], ap, below, below_at, false, false≢true, find}
use Rattle.ufs_laws.proofs.Common.{has_room_for_groups, is_ready, is_stale, is_untouched, lowest_vacant, map}
use Rattle.ufs_laws.proofs.Common.{may_be_used, next_flight, next_place, none_passes, not, observe, or_right, refl}
use Rattle.ufs_laws.proofs.Common.{slice_get-map, subst, sym, true, waiting_step, with_moves, ℕ, ◌<◌, ◌||◌, ◌∙◌, ◌∷◌}
use Rattle.ufs_laws.proofs.Common.{◌≡◌}
use Rattle.std.proofs.Common.{filter_map, is_some}
use Rattle.std.specs.Prelude.{option_map}
use Rattle.ufs_laws.proofs.array_cells.EmptyCells.{fresh_block}
use Rattle.ufs_laws.proofs.jobs.JobsInFlight.{told_layer}
use Rattle.ufs_laws.proofs.jobs.JobsOnTheirDies.{spot_at}
use Rattle.ufs_laws.proofs.exchanges.RequestsSettled.{settled_is}
use Rattle.ufs_laws.proofs.new_dies.NewDeviceState.{Open, first_is, first_layer, first_state, no_stale, none_ready}
use Rattle.ufs_laws.proofs.new_dies.NewDeviceState.{none_stale, open_in}
use Rattle.ufs_laws.proofs.array_cells.StandsForSomething.{AllBlank}
use Rattle.ufs_spec.proofs.Facts.{lt-ltb}
use Rattle.ufs_spec.proofs.Lists.{find_some}
use Rattle.ufs_spec.specs.Translation.{MarkStep, has_open_block, mark_ordered, may_open_for_step, next_in, step_cell}
use Rattle.ufs_spec.specs.Translation.{turned}

-- no block of new dies is being filled
none_filling : (bad : Spot → Bool) (die : ℕ) (blocks : List ℕ) →
    filter_map (λ s. next_in s (fresh_block (bad s))) (map (spot_at die) blocks) ≡ []
none_filling bad die [] = refl
none_filling bad die (block ∷ more) =
    rw (not_filling (spot_at die block) (bad (spot_at die block))) (none_filling bad die more)
  where
    not_filling : (s : Spot) (b : Bool) → next_in s (fresh_block b) ≡ None
    not_filling s true = refl
    not_filling s false = refl

module _ (n : Numbers) (bad : Spot → Bool) (o : Open) (good : Spot) (there : good.die < n.dies)
    (within : good.block < n.blocks)
    (right : bad good ≡ false) where
  -- behind the first step, which orders a mark
  abbrev t : Translation
  t = mark_ordered (first_layer n bad o) None

  found : (spot : Spot) × (find (may_be_used t is_untouched) (map (spot_at good.die) (below n.blocks)) ≡ Some spot)
  found =
      find_some (may_be_used t is_untouched) (map (spot_at good.die) (below n.blocks)) good.block good
      (slice_get-map (spot_at good.die) (below n.blocks) good.block
      ∙ ap (option_map (spot_at good.die)) (below_at n.blocks good.block within))
      (rw right refl)

  waits : waiting_step t t.work.step ≡ Some (step_cell t (MarkStep 1 None))
  waits = rw (none_passes (λ (die : ℕ). false) (below n.dies) (λ k die at e. false≢true e)) refl

  place : next_place t good.die ≡ None
  place = rw (none_filling bad good.die (below n.blocks)) refl

  -- no block is open yet, so one may be opened
  closed : has_open_block t ≡ false
  closed =
      let fills = none_passes (λ die. is_some (next_place t die)) (below n.dies)
      (λ k die at e. false≢true (sym (ap is_some (nowhere die)) ∙ e)) in
      let erases = none_passes (λ (die : ℕ). false) (below n.dies) (λ k die at e. false≢true e) in
      λ i. fills i || erases i
    where
      nowhere : (die : ℕ) → next_place t die ≡ None
      nowhere die = rw (none_filling bad die (below n.blocks)) refl

  opens : may_open_for_step t ≡ true
  opens = or_right (has_room_for_groups t) (not (has_open_block t)) (ap not closed)

  stale : lowest_vacant t is_stale good.die ≡ None
  stale = none_stale n bad o good.die

  ready : lowest_vacant t is_ready good.die ≡ None
  ready = none_ready n bad o good.die

  flight : next_flight t good.die ≡ Some (Erasing found.0)
  flight = rw (stale, waits, place, opens, ready, found.1) refl

  first_erase : (spot : Spot) × MayTake t good.die (Some (Erasing spot))
  first_erase = (found.0, (rw (lt-ltb good.die n.dies there) refl, (refl, flight)))

  turned_to : turned (first_layer n bad o) ≡ t
  turned_to = rw (no_stale n bad o) refl

  reached : (observe (first_state n bad o) Turn (OfTurn true)).translation ≡ t
  reached =
      let s : State = with_moves (first_state n bad o) (TakeStep ∷ []) in
      ap (λ (v : State). v.translation) (settled_is s tt) ∙ told_layer s ∙ turned_to

  behind_step :
      (spot : Spot)
      × MayTake (observe (first_state n bad o) Turn (OfTurn true)).translation good.die (Some (Erasing spot))
  behind_step = subst (λ v. (spot : Spot) × MayTake v good.die (Some (Erasing spot))) (sym reached) first_erase

pub first_job : (n : Numbers) (array : Array) (bad : Spot → Bool) (s : State) → AllBlank array →
    IsOpened n array bad s →
    (good : Spot) → good.die < n.dies → good.block < n.blocks → bad good ≡ false →
    (spot : Spot) × MayTake (observe s Turn (OfTurn true)).translation good.die (Some (Erasing spot))
first_job n array bad s blank h good there within right =
    subst (λ u. (spot : Spot) × MayTake (observe u Turn (OfTurn true)).translation good.die (Some (Erasing spot)))
    (sym (first_is n array bad s blank h)) (behind_step n bad (open_in s) good there within right)
