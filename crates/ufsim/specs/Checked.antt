-- What a check is about, and what it has counted.
use Rattle.std.specs.Prelude.{◌≡◌, ◌+◌, ◌*◌, ◌∷◌, [], ℕ, List, Option, None, Some, map, slice_get}
use Rattle.ufs_spec.specs.Plain.{Plain}
use Rattle.ufs_spec.specs.declared.configs.Numbers.{Numbers}
use Rattle.ufs_spec.specs.declared.flash.Job.{Job}
use Rattle.ufs_spec.specs.declared.flash.Job.TheVariants as job
use Rattle.ufs_spec.specs.declared.events.Output.{Output}
use Rattle.ufs_spec.specs.declared.events.Output.TheVariants as output
use Rattle.journal.specs.declared.found.FoundRest.{FoundRest}
use Rattle.ufsim.specs.Trials.{Counts, Found, IsWhole, Trial, capped, plain_of}
use Rattle.ufsim.specs.declared.check.Check.{Check}
use Rattle.ufsim.specs.declared.check.Life.{Life}
use Rattle.ufsim.specs.declared.check.Stops.{Stops}
use Rattle.ufsim.specs.declared.check.Stops.TheVariants.{One}
use Rattle.ufsim.specs.declared.reading.Holdings.{Holdings}
use Rattle.ufsim.specs.declared.regions.Region.{Region}

-- ## What was read

-- the key, the counter and the area of a region that was read
abbrev pub key_read : Option Region → Option (List ℕ)
key_read None = None
key_read (Some r) = r.key

abbrev pub counter_read : Option Region → ℕ
counter_read None = 0
counter_read (Some r) = r.counter

abbrev pub area_read : Option Region → List ℕ
area_read None = []
area_read (Some r) = r.area.items

-- what is compared beside the blocks is what was read: both settings, and of each region its key, counter and area
pub record IsRest (h : Holdings) (rest : FoundRest) : Type 0 where
  pub boot : rest.boot ≡ h.settings.boot
  pub permanent : rest.is_permanent ≡ h.settings.is_permanent
  pub keys : map (λ f. f.key) rest.regions
      ≡ map (λ n. key_read (slice_get h.regions.items n)) (0 ∷ 1 ∷ 2 ∷ 3 ∷ [])
  pub counters : map (λ f. f.counter) rest.regions
      ≡ map (λ n. counter_read (slice_get h.regions.items n)) (0 ∷ 1 ∷ 2 ∷ 3 ∷ [])
  pub areas : map (λ f. f.area.now) rest.regions
      ≡ map (λ n. area_read (slice_get h.regions.items n)) (0 ∷ 1 ∷ 2 ∷ 3 ∷ [])

-- the same with the blocks, and of what was read or not
abbrev pub IsToldAs : Option Holdings → Option Found → Type 0
IsToldAs None None = Unit {0}
IsToldAs (Some h) (Some f) = (f.units ≡ map (λ v. v.items) h.units.items) × IsRest h f.rest
IsToldAs h f = ⊥

-- the plain device was made of what was read; none is made only if that is not whole
abbrev pub IsMade : Numbers → Option Found → Option Plain → Type 0
IsMade n began None = IsWhole n began → ⊥
IsMade n began (Some p) = p ≡ plain_of n began

-- a stop in this life after which this was read. Where it was not told rightly it does not matter what the life began
-- with
abbrev pub IsReadBy : Life → Option Holdings → Trial → Type 0
IsReadBy l None t = t.found ≡ None
IsReadBy l (Some h) t = IsToldAs l.base t.began × IsToldAs (Some h) t.found

abbrev pub IsTrialIn : Life → Option Holdings → Trial → Type 0
IsTrialIn l found t = (t.numbers ≡ l.config) × (t.heard ≡ l.journal) × IsReadBy l found t

-- ## How many stops are tried

-- how many programs or erases a die is given with this
abbrev pub given_by : Option Job → ℕ
given_by None = 0
given_by (Some (job.Read place)) = 0
given_by (Some other) = 1

-- the same with what an event showed
abbrev pub given_in : Output → ℕ
given_in (output.Take job) = given_by job
given_in other = 0

-- with one stop at each program and each erase: so many of them more, and three stops more for each
abbrev pub GoesOn : ℕ → Stops → Counts → Stops → Counts → Type 0
GoesOn more before old after new =
    (after ≡ before)
    × (before ≡ One → (n s : ℕ) → old.moments ≡ capped n → old.stops ≡ capped s →
    (new.moments ≡ capped (n + more)) × (new.stops ≡ capped (s + 3 * more)))

-- the same of a check, if the script is checked
abbrev pub NotesMore : ℕ → Option Check → Option Check → Type 0
NotesMore more None new = new ≡ None
NotesMore more (Some old) None = ⊥
NotesMore more (Some old) (Some new) = GoesOn more old.life.tries old.tally new.life.tries new.tally
