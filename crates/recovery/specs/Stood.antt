-- The plain state that the dies stand for, and that what was found on them tells.
use Rattle.std.specs.Prelude.{◌≡◌, ℕ, ◌+◌, List, Option, Some, None, slice_get, sum}
use Rattle.ufs_spec.specs.Cells.{Array, Opens}
use Rattle.ufs_spec.specs.Keys.{area_pages, content}
use Rattle.ufs_spec.specs.Kept.{StandsFor}
use Rattle.ufs_spec.specs.Plain.{Plain, shape_of_numbers, zero_block}
use Rattle.ufs_spec.specs.declared.configs.Numbers.{Numbers}
use Rattle.ufs_spec.specs.declared.flash.Key.{Key}
use Rattle.geometry.specs.Keys.{IsIndex}
use Rattle.settings.specs.Told.{settings_in}
use Rattle.settings.specs.declared.page.Settings.{Settings}
use Rattle.recovery.specs.declared.found.Found.{Found}
use Rattle.recovery.specs.declared.pages.FoundPage.{FoundPage}

-- the page that was found has this content; where none was found, the content is zeros
abbrev pub HasContent : Array → Option FoundPage → List ℕ → Type 0
HasContent array None x = x ≡ zero_block
HasContent array (Some e) x = Opens (array e.place) e.tag x

-- the settings are what the content of the page says that was found for them
abbrev pub AreReadSettings : Numbers → Array → List (Option FoundPage) → Settings → Type 0
AreReadSettings n array contents s =
    (e : Option FoundPage) (x : List ℕ) →
    slice_get contents (sum (shape_of_numbers n).blocks + area_pages (shape_of_numbers n)) ≡ Some e →
    HasContent array e x → s ≡ settings_in x

-- the array stands for the plain state, and what was found for each key has its content there
pub record IsStoodFor (n : Numbers) (array : Array) (f : Found) (p : Plain) : Type 0 where
  pub stands : StandsFor n array p
  pub contents : (k : Key) (i : ℕ) → IsIndex (shape_of_numbers n) k i →
      (e : Option FoundPage) × (slice_get f.contents.items i ≡ Some e) × HasContent array e (content p k)
