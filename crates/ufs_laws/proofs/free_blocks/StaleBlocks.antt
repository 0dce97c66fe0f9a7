-- What waits for the erase of stale blocks: any step, and any other job but a read.
use Rattle.ufs_laws.proofs.Common.{Bool, Contains, Erasing, Flight, Free, IsVacantOn, MayTake, None, Option, Some, Spot}
use Rattle.ufs_laws.proofs.Common.{Stale, Translation, [], any_here, ap, false, has_stale, if◌then◌else◌, inl, inr}
use Rattle.ufs_laws.proofs.Common.{is_idle, is_none, is_stale, is_step_due, is_vacant, lowest_vacant, next_erase}
use Rattle.ufs_laws.proofs.Common.{next_flight, none-some, not, option_map, refl, same_Some, spots, sym, true}
use Rattle.ufs_laws.proofs.Common.{true≢false, wants_on, ℕ, ◌&&◌, ◌∙◌, ◌≡◌}
use Rattle.std.proofs.Common.{is_some}
use Rattle.ufs_laws.proofs.free_blocks.ErasesInOrder.{lowest_some, stale_erase}
use Rattle.ufs_laws.proofs.jobs.OneJob.{is_next}
use Rattle.ufs_spec.proofs.Lists.{contained_at}
use Rattle.ufs_spec.specs.Translation.{Order, next_order}

-- ## Steps

pub no_step : (t : Translation) (s : Spot) → Contains (spots t.numbers) s → t.disk.blocks s ≡ Free →
    t.disk.vacancies s ≡ Stale → is_step_due t ≡ false
no_step t s there free stale = none_due (is_none t.work.step) (next_order t t.work.mending t.work.plan) waits
  where
    waits : has_stale t ≡ true
    waits =
        let at = contained_at (spots t.numbers) s there in
        any_here (is_vacant t is_stale) (spots t.numbers) at.0 s at.1 (rw (free, stale) refl)

    none_due : (idle : Bool) (o : Option Order) → has_stale t ≡ true →
        is_some (if idle && not (has_stale t) then o else None) ≡ false
    none_due true o e = rw e refl
    none_due false o e = refl

-- ## Jobs

module _ (t : Translation) (die : ℕ) (s : Spot) (h : IsVacantOn t die s Stale) where
  found : (x : Spot) × (lowest_vacant t is_stale die ≡ Some x)
  found = lowest_some t is_stale Stale refl die s h

  erased : next_erase t is_stale die ≡ Some (Erasing found.0)
  erased = ap (option_map Erasing) found.1

  next : next_flight t die ≡ Some (Erasing found.0)
  next = rw erased refl

  pub job : (flight : Flight) → wants_on t die ≡ [] → MayTake t die (Some flight) →
      (spot : Spot) × (flight ≡ Erasing spot) × IsVacantOn t die spot Stale
  job flight none may =
      let owed = is_next t die flight none may.1 in
      (found.0, same_Some flight (Erasing found.0) (sym owed ∙ next), stale_erase t die found.0 erased)

  pub some_job : is_idle t die ≡ true → MayTake t die None → ⊥
  some_job idle (inl busy) = true≢false (sym idle ∙ busy)
  some_job idle (inr none) = none-some (Erasing found.0) (sym none.1 ∙ next)
