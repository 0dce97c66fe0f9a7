-- What is in blocks when a life begins, and what their dies are owed for it.
use Rattle.ufs_laws.proofs.Common.{Array, Bool, Cells, Disk, Erasing, Flight, IsOpened, IsVacantOn, Mark, MayTake, None}
use Rattle.ufs_laws.proofs.Common.{Nothing, Numbers, Option, Place, Ready, Some, Spot, Stale, State, Untouched, Vacancy}
use Rattle.ufs_laws.proofs.Common.{flight_or, is_stale, lowest_vacant, next_flight, none-some, option_map, refl}
use Rattle.ufs_laws.proofs.Common.{same_Some, spot_of, sym, ℕ, ◌∙◌, ◌≡◌, ◌≢◌}
use Rattle.ufs_laws.proofs.free_blocks.ErasesInOrder.{stale_erase}
use Rattle.ufs_laws.proofs.jobs.OneJob.{is_next}
use Rattle.ufs_laws.proofs.new_dies.FirstLife.{no_flight, no_wants}
use Rattle.ufs_spec.specs.Openings.{IsOpenedDisk, IsVacancyAt}

-- ## By cells

stale_at : (c : Cells) (p : Place) (v : Vacancy) → c p ≢ Nothing → IsVacancyAt c (spot_of p) v → v ≡ Stale
stale_at c p Stale some h = refl
stale_at c p Untouched some h = absurd (some (h p refl))
stale_at c p Ready some h = absurd h

untouched_at : (c : Cells) (s : Spot) (v : Vacancy) → ((p : Place) → spot_of p ≡ s → c p ≡ Nothing) →
    IsVacancyAt c s v → v ≡ Untouched
untouched_at c s Untouched none h = refl
untouched_at c s Stale none h = absurd (h.2 (none h.0 h.1))
untouched_at c s Ready none h = absurd h

module _ (c : Cells) (m : Option Mark) (bad : Spot → Bool) (d : Disk) (h : IsOpenedDisk c m bad d) where
  pub stale : (p : Place) → c p ≢ Nothing → d.vacancies (spot_of p) ≡ Stale
  stale p some = stale_at c p (d.vacancies (spot_of p)) some (h.vacancies (spot_of p))

  pub untouched : (s : Spot) → ((p : Place) → spot_of p ≡ s → c p ≡ Nothing) → d.vacancies s ≡ Untouched
  untouched s none = untouched_at c s (d.vacancies s) none (h.vacancies s)

-- ## Jobs

-- what is found is erased, where no other job is
erase_alone : (o : Option Spot) (other : Option Flight) (flight : Flight) → other ≡ None →
    flight_or (option_map Erasing o) other ≡ Some flight → (s : Spot) × (flight ≡ Erasing s) × (o ≡ Some s)
erase_alone (Some s) other flight none e = (s, sym (same_Some (Erasing s) flight e), refl)
erase_alone None other flight none e = absurd (none-some flight (sym none ∙ e))

pub first_jobs : (n : Numbers) (array : Array) (bad : Spot → Bool) (s : State) → IsOpened n array bad s →
    (die : ℕ) (flight : Flight) → MayTake s.translation die (Some flight) →
    (spot : Spot) × (flight ≡ Erasing spot) × IsVacantOn s.translation die spot Stale
first_jobs n array bad s h die flight may =
    let t = s.translation in
    let u = h.translation in
    let owed : next_flight t die ≡ Some flight =
    is_next t die flight (no_wants t die u.no_pins u.no_step u.no_rests) may.1 in
    let none = no_flight t die u.no_step u.ledger.none_new u.ledger.none_repaired in
    let erased = erase_alone (lowest_vacant t is_stale die) _ flight none owed in
    (erased.0, erased.1, stale_erase t die erased.0 (ap_erasing erased.2))
  where
    ap_erasing : {o : Option Spot} {x : Spot} → o ≡ Some x → option_map Erasing o ≡ Some (Erasing x)
    ap_erasing e = rw e refl
