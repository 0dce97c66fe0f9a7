-- The groups of RPMB requests and of settings that are accepted (JESD220, 12.4 and 14): the pages of the area that a
-- write brings, most often in part, and the settings with the key and the counter.
use Rattle.std.specs.Prelude.{IsTrue, List, [], drop, if◌then◌else◌, length, map, nat_le, replicate, take, ℕ, ◌%◌, ◌*◌}
use Rattle.std.specs.Prelude.{◌++◌, ◌+◌, ◌-◌, ◌/◌, ◌∷◌, ◌≡◌}
use Rattle.ufs_spec.specs.Keys.{Group, Item, area_key, settings_key}
use Rattle.ufs_spec.specs.Ledger.{all_contents, next_number}
use Rattle.ufs_spec.specs.Moves.{Accept, IsAllowedMove, moved}
use Rattle.ufs_spec.specs.Plain.{with_part, zero_block}
use Rattle.ufs_spec.specs.Translation.{Translation}
use Rattle.ufs_spec.specs.declared.flash.Key.{Key}
use Rattle.ftl_core.specs.Public.{Claims, Core, Describes, has_number, with_claimed}
use Rattle.ftl_core.specs.declared.books.Brought.{Brought}
use Rattle.rpmb.specs.Kept.{said_kept}
use Rattle.rpmb.specs.declared.outcomes.Accepted.{Accepted}
use Rattle.rpmb.specs.declared.outcomes.Accepted.TheVariants as accepted
use Rattle.settings.specs.declared.page.Settings.{Settings}
use Rattle.device.specs.Kept.{DeviceCore, IsLayerWith}

-- the settings that the device keeps
abbrev pub settings_kept : DeviceCore → Settings
settings_kept d = record {
  boot = d.boot;
  is_permanent = d.is_permanent;
  regions = map said_kept d.rpmb;
}

-- what is accepted gets a number, so there has to be one left
abbrev pub HasNumberFor : Accepted → Core → Type 0
HasNumberFor accepted.Nothing c = Unit {0}
HasNumberFor (accepted.Key bytes) c = IsTrue (has_number c)
HasNumberFor (accepted.Write address) c = IsTrue (has_number c)

-- Pages

-- this page of a group is brought: these bytes, from a block of 256 bytes of it on
pub record IsBrought (key : Key) (first : ℕ) (bytes : List ℕ) (x : Brought) : Type 0 where
  pub key_is : x.key ≡ key
  pub first_is : x.part.first ≡ first
  pub many : 256 * x.part.blocks ≡ length bytes
  pub bytes_are : x.bytes.now ≡ bytes

-- a page in which these bytes lie from a block of 256 bytes on, over what its key has after all groups
abbrev pub laid_item : Translation → Key → (first : ℕ) → List ℕ → Item
laid_item t k first bytes = record { key = k; body = with_part (256 * first) bytes (all_contents t.ledger k) }

-- a page of the area of a region with these bytes, and the settings page, which they are as a whole
abbrev pub area_item : Translation → (region page first : ℕ) → List ℕ → Item
area_item t region page first bytes = laid_item t (area_key region page) first bytes

abbrev pub settings_item : Translation → List ℕ → Item
settings_item t page = laid_item t settings_key 0 page

-- how many bytes there are from a block of a page to its end
abbrev pub room_from : ℕ → ℕ
room_from first = 256 * (16 - first)

-- the pages of data that begin at a block of a page: what does not fit into it lies in the next one
abbrev pub area_items : Translation → (region page first : ℕ) → List ℕ → Group
area_items t region page first bytes =
    if nat_le (length bytes) (room_from first) then area_item t region page first bytes ∷ []
    else area_item t region page first (take (room_from first) bytes)
    ∷ area_item t region (page + 1) 0 (drop (room_from first) bytes) ∷ []

-- Groups

-- the group of a key or of a setting: the settings alone
abbrev pub key_group : List ℕ → Translation → Group
key_group page t = settings_item t page ∷ []

-- the group of data that are written from this block of the area of a region on: its pages, and the settings behind
-- them
abbrev pub write_group : (region address : ℕ) → List ℕ → List ℕ → Translation → Group
write_group region address bytes page t =
    area_items t region (address / 16) (address % 16) bytes ++ settings_item t page ∷ []

-- the group is put behind all that are pending under the next number, in the place of the slots that its tag has
-- claimed
pub record HasPut (before after : Core) (tag : ℕ) (group : Translation → Group) (number : ℕ) : Type 0 where
  pub number_is : (t : Translation) → Describes before t → number ≡ next_number t.ledger
  pub layer : (t : Translation) (claims : Claims) (claimed : ℕ) → IsLayerWith before t claims →
      claims tag ≡ replicate claimed zero_block → IsAllowedMove t (Accept claimed (group t)) →
      IsLayerWith after (moved t (Accept claimed (group t))) (with_claimed claims tag [])
