-- Which pages are known to be live: those where the durable content of a key stands, and those that are written of
-- pending groups (this profile).
use Rattle.std.specs.Prelude.{◌≡◌, ◌⊎◌, ◌*◌, false, true, List, [], ◌∷◌, fold, length, replicate, take, Option, Some}
use Rattle.std.specs.Prelude.{None}
use Rattle.ufs_spec.specs.Plain.{shape_of_numbers}
use Rattle.ufs_spec.specs.declared.configs.Numbers.{Numbers}
use Rattle.ufs_spec.specs.declared.flash.Key.{Key}
use Rattle.ufs_spec.specs.declared.flash.Place.{Place}
use Rattle.block_table.specs.Lives.{Lives, is_live, with_live}
use Rattle.block_table.specs.declared.Sizes.{Sizes}
use Rattle.geometry.specs.Keys.{key_total}
use Rattle.unit_map.specs.Places.{stored_in}
use Rattle.unit_map.specs.declared.Stored.{Stored}
use Rattle.write_cache.specs.declared.slots.Pending.{Pending}

-- What is kept of it

-- how many dies, blocks of a die and pages of a block the configuration has
abbrev pub sizes_of : Numbers → Sizes
sizes_of n = record { dies = n.dies; blocks = n.blocks; pages = n.pages }

-- no page is live, and no block has a pin
abbrev pub none_live : Sizes → Lives
none_live n = record {
  sizes = n;
  live = replicate (n.dies * n.blocks * n.pages) false;
  pins = replicate (n.dies * n.blocks) 0;
}

-- the page where the content stands is live; where it stands nowhere, all stays
abbrev pub with_stored : Lives → Option Stored → Lives
with_stored l None = l
with_stored l (Some s) = with_live l s.place true

-- the page where the content stood is not live any more; where it stood nowhere, all stays
abbrev pub without_stored : Lives → Option Stored → Lives
without_stored l None = l
without_stored l (Some s) = with_live l s.place false

-- the pages of the contents of all keys are live
abbrev pub lives_of_places : Numbers → List (Option Stored) → Lives
lives_of_places n places = fold with_stored (none_live (sizes_of n)) (take (key_total (shape_of_numbers n)) places)

-- a content that stood there, or nowhere, stands here from now on
abbrev pub live_moved : Lives → Option Stored → Place → Lives
live_moved l old place = with_live (without_stored l old) place true

-- the page that was written there is not live any more; where none was written, all stays
abbrev pub without_page : Lives → Option Place → Lives
without_page l None = l
without_page l (Some p) = with_live l p false

-- a page of a pending group is live where it is written now, and no more where it was written before
abbrev pub page_moved : Lives → Option Place → Place → Lives
page_moved l old place = with_live (without_page l old) place true

-- What it means

-- the durable content of a key stands there
abbrev pub StandsAt : Numbers → List (Option Stored) → Place → Type 0
StandsAt n stored p = (k : Key) × (s : Stored) × (stored_in n stored k ≡ Some s) × (s.place ≡ p)

-- a page of a pending group is written there
abbrev pub IsWrittenAt : List Pending → Place → Type 0
IsWrittenAt [] p = ⊥
IsWrittenAt (q ∷ qs) p = (q.written ≡ Some p) ⊎ IsWrittenAt qs p

-- the page is needed: the durable content of a key stands there, or a page of a pending group is written there
abbrev pub IsHeld : Numbers → List (Option Stored) → List Pending → Place → Type 0
IsHeld n stored pages p = StandsAt n stored p ⊎ IsWrittenAt pages p

-- a page is live exactly if the durable content of some key stands there, or a page of a pending group is written there
pub record KnowsLive (n : Numbers) (stored : List (Option Stored)) (pages : List Pending) (l : Lives) : Type 0 where
  pub sizes : l.sizes ≡ sizes_of n
  -- each page of the dies has its mark
  pub marks : length l.live ≡ n.dies * n.blocks * n.pages
  pub held : (p : Place) → is_live l p ≡ true → IsHeld n stored pages p
  pub lives : (p : Place) → IsHeld n stored pages p → is_live l p ≡ true
