-- What a settings page says, and what commands make of it.
use Rattle.std.specs.Prelude.{Bool, List, Some, [], fold, map, slice_get, slice_set, true, ℕ, ◌++◌, ◌+◌, ◌∷◌, ◌≡◌}
use Rattle.ufs_spec.specs.Commands.{Command, RpmbWrite, SetBoot, SetKey, SetPermanent, Write, Zero}
use Rattle.ufs_spec.specs.Keys.{Group, Item, said_by, said_of, settings_bytes, settings_key}
use Rattle.ufs_spec.specs.Plain.{Plain, region_of}
use Rattle.ufs_spec.specs.Refusals.{State}
use Rattle.ufs_spec.specs.declared.flash.KeyAndCounter.{KeyAndCounter}

-- what a settings page says: the boot setting (bBootLunEn), the permanent protection (fPermanentWPEn), and of each RPMB
-- region the key and the write counter
pub record Settings : Type 0 where
  pub boot : ℕ
  pub permanent : Bool
  pub said : List KeyAndCounter

-- those of a plain state
abbrev pub settings_in : Plain → Settings
settings_in p = record { boot = p.boot; permanent = p.permanent; said = map said_by p.regions }

-- the settings with another key and counter of one region
abbrev pub with_said : ℕ → KeyAndCounter → Settings → Settings
with_said region r s = record s { said = slice_set s.said region r }

-- those of a plain state, with one write more counted by a region
abbrev pub counted : Plain → ℕ → Settings
counted p region =
    with_said region
    (record { key = (region_of p region).key; counter = (region_of p region).counter + 1 }) (settings_in p)

-- what a command makes of them: it changes the boot setting, the protection, or the key or the counter of the region
-- that it names, and leaves all else
abbrev pub settings_after : Settings → Command → Settings
settings_after s (SetBoot boot) = record s { boot = boot }
settings_after s SetPermanent = record s { permanent = true }
settings_after s (SetKey region bytes) = with_said region (record (said_of s.said region) { key = Some bytes }) s
settings_after s (RpmbWrite region address bytes) =
    with_said region (record (said_of s.said region) { counter = (said_of s.said region).counter + 1 }) s
settings_after s (Write unit address blocks) = s
settings_after s (Zero unit address count) = s

-- what commands make of them, one after another
abbrev pub settings_after_all : Settings → List Command → Settings
settings_after_all s commands = fold settings_after s commands

-- the command changes them: a setting, a key, or a write to an area
abbrev pub ChangesSettings : Command → Type 0
ChangesSettings (SetBoot boot) = Unit {0}
ChangesSettings SetPermanent = Unit {0}
ChangesSettings (SetKey region bytes) = Unit {0}
ChangesSettings (RpmbWrite region address bytes) = Unit {0}
ChangesSettings (Write unit address blocks) = ⊥
ChangesSettings (Zero unit address count) = ⊥

-- the settings page that says them
abbrev pub page_of : Settings → Item
page_of s = record { key = settings_key; body = settings_bytes s.boot s.permanent s.said }

-- the group has one settings page, and that says these settings
pub record HasSettingsPage (g : Group) (settings : Settings) : Type 0 where
  pub index : ℕ
  pub page : slice_get g index ≡ Some (page_of settings)
  pub no_other : (i : ℕ) (item : Item) → slice_get g i ≡ Some item → item.key ≡ settings_key → i ≡ index

-- one group came behind all that were accepted before it, and its settings page says these settings
abbrev pub AddsPage : State → State → Settings → Type 0
AddsPage before now settings =
    (g : Group) × (now.translation.ledger.groups ≡ before.translation.ledger.groups ++ g ∷ [])
    × HasSettingsPage g settings
