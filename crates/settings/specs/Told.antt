-- What a settings page says, and the settings of a plain state (this profile; JESD220, 12.4 and 14).
use Rattle.std.specs.Prelude.{◌==◌, false, List, None, map, replicate, slice_index, ℕ}
use Rattle.ufs_spec.specs.Keys.{said_by, said_in, settings_bytes}
use Rattle.ufs_spec.specs.Plain.{Plain, regions}
use Rattle.settings.specs.declared.page.Settings.{Settings}

-- the settings that the bytes of a settings page say
abbrev pub settings_in : List ℕ → Settings
settings_in page = record {
  boot = slice_index page 0;
  is_permanent = slice_index page 1 == 1;
  regions = said_in page;
}

-- the bytes of the settings page that says these settings
abbrev pub bytes_of : Settings → List ℕ
bytes_of s = settings_bytes s.boot s.is_permanent s.regions

-- the settings of a new device: nothing is set, and nothing was counted
abbrev pub new_settings : Settings
new_settings =
    record { boot = 0; is_permanent = false; regions = replicate regions (record { key = None; counter = 0 }) }

-- the settings of a plain state, with the key and the counter of each RPMB region
abbrev pub settings_now : Plain → Settings
settings_now p = record { boot = p.boot; is_permanent = p.permanent; regions = map said_by p.regions }
