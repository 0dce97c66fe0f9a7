-- What is found is what the definitions open over the same pages.
use Rattle.std.specs.Prelude.{◌≡◌, ◌≢◌, ℕ, ◌≤◌, AllPairs, List, Option, Some, None, length, slice_get}
use Rattle.ufs_spec.specs.Pages.{greatest_number}
use Rattle.ufs_spec.specs.Disk.{Spot, Untouched, Vacancy}
use Rattle.ufs_spec.specs.Disk as disk
use Rattle.ufs_spec.specs.Openings.{number_of}
use Rattle.ufs_spec.specs.Plain.{shape_of_numbers}
use Rattle.ufs_spec.specs.Translation.{Translation, Unmarked, name_of, spots}
use Rattle.ufs_spec.specs.declared.configs.Numbers.{Numbers}
use Rattle.ufs_spec.specs.declared.flash.Fence.{Fence}
use Rattle.ufs_spec.specs.declared.flash.Key.{Key}
use Rattle.ufs_spec.specs.declared.flash.Place.{Place}
use Rattle.ufs_spec.specs.declared.layer.Name.{Name}
use Rattle.recovery.specs.Found.{newest_found}
use Rattle.geometry.specs.Keys.{IsIndex}
use Rattle.recovery.specs.KeysInOrder.{state_of_found}
use Rattle.recovery.specs.declared.keys.FoundBlock.{FoundBlock}
use Rattle.recovery.specs.declared.keys.FoundBlock.TheVariants.{Bad, Closed, Free, Stale}
use Rattle.recovery.specs.declared.pages.FoundPage.{FoundPage}
use Rattle.recovery.specs.declared.found.Found.{Found}

-- the page that was found is the one of this name
abbrev pub IsPageOf : (ℕ → ℕ → Option Place) → Option FoundPage → Option Name → Type 0
IsPageOf standing None None = Unit {0}
IsPageOf standing (Some e) (Some name) =
    (name ≡ name_of e.tag) × (standing name.number name.index ≡ Some e.place)
IsPageOf standing e name = ⊥

-- the fence of the first mark is over the lost numbers, or there is none where none is lost
abbrev pub IsFenceFound : Found → Option Fence → Type 0
IsFenceFound f None = Unit {0}
IsFenceFound f (Some fence) = (fence.first ≡ f.first_lost) × (fence.last ≡ f.greatest_seen)

-- what is in a block that was found to be so, if it is free
abbrev pub IsVacancyOf : FoundBlock → Vacancy → Type 0
IsVacancyOf Free v = v ≡ Untouched
IsVacancyOf Stale v = v ≡ disk.Stale
IsVacancyOf Closed v = Unit {0}
IsVacancyOf Bad v = Unit {0}

-- the layer that is opened has what was found
pub record OpensFound (n : Numbers) (f : Found) (t : Translation) : Type 0 where
  pub newest : newest_found f ≡ t.ledger.newest
  pub marks : t.ledger.marks ≡ number_of (newest_found f)
  pub marks_within : number_of (newest_found f) ≤ greatest_number
  pub greatest_seen : f.greatest_seen ≡ t.ledger.greatest_seen
  pub seen_within : f.greatest_seen ≤ greatest_number
  pub first_lost : f.first_lost ≡ t.ledger.first_lost
  pub contents : (k : Key) (i : ℕ) → IsIndex (shape_of_numbers n) k i →
      (e : Option FoundPage) × (slice_get f.contents.items i ≡ Some e)
      × IsPageOf t.ledger.standing e (t.ledger.first_page k)
  -- the mending that is due, with the keys that have a lost page
  pub lost : (fence : Option Fence) (lost : List Key) → t.work.mending ≡ Unmarked fence lost →
      (lost ≡ f.lost.items) × IsFenceFound f fence
  pub differ : AllPairs (λ a b. a ≢ b) f.lost.items
  pub as_many : length f.blocks.items ≡ length (spots n)
  pub blocks : (i : ℕ) (s : Spot) → slice_get (spots n) i ≡ Some s →
      (b : FoundBlock) × (slice_get f.blocks.items i ≡ Some b) × (t.disk.blocks s ≡ state_of_found b)
      × IsVacancyOf b (t.disk.vacancies s)
