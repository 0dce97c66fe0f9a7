-- Keys name what a device holds piece by piece, each piece as long as the data of a page: a block of a unit,
-- 4096 bytes of the area of an RPMB region, or the settings with the keys and counters of the RPMB regions. A plain
-- state is the same as a content for each key (this profile).
use Rattle.std.specs.Prelude.{◌≡◌, ℕ, ◌+◌, ◌-◌, ◌*◌, ◌/◌, ◌<◌, ◌≤◌, ◌^◌, ◌==◌, ◌&&◌, Bool, true, false}
use Rattle.std.specs.Prelude.{if◌then◌else◌, List, [], ◌∷◌, ◌++◌, All, length, take, drop, map, replicate, slice_index}
use Rattle.std.specs.Prelude.{slice_index_or, sum, Option, Some, None}
use Rattle.std.specs.List.{flat_map}
use Rattle.byteorder.specs.Endian.{big_bytes}
use Rattle.ufs_bytes.specs.Fields.{field_at}
use Rattle.ufs_spec.specs.Messages.{AreBytes}
use Rattle.ufs_spec.specs.Pages.{zero_filled}
use Rattle.ufs_spec.specs.Plain.{CanApply, Plain, Region, Shape, apply, block_at, region_of, regions}
pub use Rattle.ufs_spec.specs.Counting.{below}
use Rattle.ufs_spec.specs.Commands.{Command}
use Rattle.ufs_spec.specs.Commands as cmd
use Rattle.ufs_spec.specs.declared.flash.Key.{Key}
use Rattle.ufs_spec.specs.declared.flash.KeyAndCounter.{KeyAndCounter}

-- Keys

-- a block of a unit, by its address: kind 1
abbrev pub data_key : ℕ → ℕ → Key
data_key unit address = record { kind = 1; unit = unit; address = address }

-- sixteen blocks of the area of an RPMB region, 4096 bytes, by their page: kind 2, with the region as its unit
abbrev pub area_key : ℕ → ℕ → Key
area_key region page = record { kind = 2; unit = region; address = page }

-- the settings, the RPMB keys and the write counters: kind 3
abbrev pub settings_key : Key
settings_key = record { kind = 3; unit = 0; address = 0 }

-- how many keys the area of each RPMB region has, one for each 4096 bytes
abbrev pub region_pages : Shape → List ℕ
region_pages s = map (λ bytes. bytes / 4096) s.areas

-- how many keys the areas of all RPMB regions have
abbrev pub area_pages : Shape → ℕ
area_pages s = sum (region_pages s)

-- a device of this shape has the key
pub data IsKey (s : Shape) : Key → Type 0 where
  IsData : (unit address : ℕ) → unit < length s.blocks → address < slice_index_or s.blocks unit 0 →
      IsKey s (data_key unit address)
  IsArea : (region page : ℕ) → region < regions → page < slice_index_or (region_pages s) region 0 →
      IsKey s (area_key region page)
  IsSettings : IsKey s settings_key

-- compares two keys by kind, unit and address
abbrev pub same_key : Key → Key → Bool
same_key j k = (j.kind == k.kind) && (j.unit == k.unit) && (j.address == k.address)

-- Settings pages

-- a flag as a byte: 1 if it is set
abbrev pub flag_byte : Bool → ℕ
flag_byte true = 1
flag_byte false = 0

-- as a byte whether an RPMB key is programmed: 1 if it is
abbrev pub key_flag : Option (List ℕ) → ℕ
key_flag None = 0
key_flag (Some bytes) = 1

-- the 32 bytes of an RPMB key; zeros without one
abbrev pub key_bytes : Option (List ℕ) → List ℕ
key_bytes None = replicate 32 0
key_bytes (Some bytes) = bytes

-- forty bytes of a settings page: four, and the key and the write counter of an RPMB region
abbrev pub forty_bytes : List ℕ → KeyAndCounter → List ℕ
forty_bytes four r = four ++ key_bytes r.key ++ big_bytes 4 r.counter

-- the first forty, with region 0: bBootLunEn, fPermanentWPEn, whether the key is programmed, and a zero
abbrev pub first_bytes : ℕ → Bool → KeyAndCounter → List ℕ
first_bytes boot permanent r = forty_bytes (boot ∷ flag_byte permanent ∷ key_flag r.key ∷ 0 ∷ []) r

-- the forty of each other region: whether the key is programmed, and three zeros
abbrev pub region_bytes : KeyAndCounter → List ℕ
region_bytes r = forty_bytes (key_flag r.key ∷ 0 ∷ 0 ∷ 0 ∷ []) r

-- what is said of the region of a number; of one that is not there, that it has no key and counted no write
abbrev pub said_of : List KeyAndCounter → ℕ → KeyAndCounter
said_of said region = slice_index_or said region (record { key = None; counter = 0 })

-- the 4096 bytes of a settings page: forty for each RPMB region, and zeros behind them. Those of a new device are all
-- zero
abbrev pub settings_bytes : ℕ → Bool → List KeyAndCounter → List ℕ
settings_bytes boot permanent said =
    zero_filled 4096
    (first_bytes boot permanent (said_of said 0) ++ region_bytes (said_of said 1) ++ region_bytes (said_of said 2)
    ++ region_bytes (said_of said 3))

-- the ranges of a key and a counter: the key has 32 bytes, the write counter 32 bits (JESD220, 12.4)
pub record IsKeyAndCounter (r : KeyAndCounter) : Type 0 where
  pub key_length : (bytes : List ℕ) → r.key ≡ Some bytes → (length bytes ≡ 32) × AreBytes bytes
  pub counter_fits : r.counter < 2 ^ 32

-- the ranges of what a settings page says: bBootLunEn is at most 2, and of each RPMB region a key and a counter are
-- said that are in their ranges
pub record AreSettings (boot : ℕ) (said : List KeyAndCounter) : Type 0 where
  pub boot_bound : boot ≤ 2
  pub count : length said ≡ regions
  pub each : All IsKeyAndCounter said

-- the body of a settings page: these bytes spell settings in their ranges
pub record IsSettingsBody (body : List ℕ) : Type 0 where
  pub boot : ℕ
  pub permanent : Bool
  pub said : List KeyAndCounter
  pub ranges : AreSettings boot said
  pub bytes : body ≡ settings_bytes boot permanent said

-- Contents

-- a content for each key
abbrev pub Contents : Type 0
Contents = Key → List ℕ

-- the 4096 bytes of an RPMB area that are this page of it
abbrev pub area_page : ℕ → List ℕ → List ℕ
area_page page area = take 4096 (drop (4096 * page) area)

-- what the settings say of an RPMB region
abbrev pub said_by : Region → KeyAndCounter
said_by region = record { key = region.key; counter = region.counter }

-- the settings page of a plain state
abbrev pub settings_of : Plain → List ℕ
settings_of p = settings_bytes p.boot p.permanent (map said_by p.regions)

-- the content of a key in a plain state: a block of a unit, a page of the area of an RPMB region, or the settings
abbrev pub content : Plain → Contents
content p k =
    if k.kind == 1 then block_at k.unit k.address p
    else if k.kind == 2 then area_page k.address (region_of p k.unit).area
    else settings_of p

-- 4096 bytes
abbrev pub IsBlock : List ℕ → Type 0
IsBlock bytes = (length bytes ≡ 4096) × AreBytes bytes

-- what an RPMB region is made of: a key of 32 bytes, an area of bytes in whole pages, and a counter of 32 bits
-- (JESD220, 12.4)
pub record IsRegion (r : Region) : Type 0 where
  pub key_length : (bytes : List ℕ) → r.key ≡ Some bytes → (length bytes ≡ 32) × AreBytes bytes
  pub area : length r.area ≡ 4096 * (length r.area / 4096)
  pub area_bytes : AreBytes r.area
  pub counter_fits : r.counter < 2 ^ 32

-- what a plain state is made of: blocks of 4096 bytes, a boot setting in its range, and as many RPMB regions as
-- there are
pub record IsPlain (p : Plain) : Type 0 where
  pub blocks : All (All IsBlock) p.units
  pub boot_bound : p.boot ≤ 2
  pub regions_count : length p.regions ≡ regions
  pub each_region : All IsRegion p.regions

-- a shape that plain states have: as many RPMB areas as there are regions, each in whole pages
pub record HasWholeAreas (s : Shape) : Type 0 where
  pub count : length s.areas ≡ regions
  pub whole : All (λ bytes. bytes ≡ 4096 * (bytes / 4096)) s.areas

-- contents that a plain state may have: 4096 bytes for each key, and settings in their ranges
pub record AreContents (s : Shape) (f : Contents) : Type 0 where
  pub blocks : (k : Key) → IsKey s k → IsBlock (f k)
  pub settings : IsSettingsBody (f settings_key)

-- Back from contents

-- the byte of the forty of an RPMB region that says whether its key is programmed
abbrev pub flag_place : ℕ → ℕ
flag_place number = if number == 0 then 2 else 0

-- the key that forty bytes name; none if the byte at this place is not 1
abbrev pub key_named : ℕ → List ℕ → Option (List ℕ)
key_named place forty = if slice_index forty place == 1 then Some (take 32 (drop 4 forty)) else None

-- the key of an RPMB region that the bytes of a settings page name
abbrev pub key_in : ℕ → List ℕ → Option (List ℕ)
key_in number body = key_named (flag_place number) (drop (40 * number) body)

-- the write counter of an RPMB region that they name
abbrev pub counter_in : ℕ → List ℕ → ℕ
counter_in number body = field_at 4 36 (drop (40 * number) body)

-- what they say of each RPMB region
abbrev pub said_in : List ℕ → List KeyAndCounter
said_in body = map (λ number. record { key = key_in number body; counter = counter_in number body }) (below regions)

-- the RPMB region of a number that these contents have: the pages of its area, and the key and the counter of the
-- settings
abbrev pub region_in : Shape → Contents → ℕ → Region
region_in s f number =
    record {
      key = key_in number (f settings_key);
      area = flat_map (λ page. f (area_key number page)) (below (slice_index_or (region_pages s) number 0));
      counter = counter_in number (f settings_key);
    }

-- the plain state of this shape that has these contents
abbrev pub plain_of : Shape → Contents → Plain
plain_of s f =
    record {
      units = map (λ unit. map (λ address. f (data_key unit address)) (below (slice_index_or s.blocks unit 0)))
          (below (length s.blocks));
      boot = slice_index (f settings_key) 0;
      permanent = slice_index (f settings_key) 1 == 1;
      regions = map (region_in s f) (below regions);
    }

-- Commands

-- the data of a command are bytes, and of a write they are whole blocks
abbrev pub IsCommand : Command → Type 0
IsCommand (cmd.Write unit address blocks) = All IsBlock blocks
IsCommand (cmd.SetKey region bytes) = AreBytes bytes
IsCommand (cmd.RpmbWrite region address bytes) = AreBytes bytes
IsCommand _ = Unit {0}

-- the commands may come one after another, each in the state that those before it leave
abbrev pub CanApplyAll : Plain → List Command → Type 0
CanApplyAll p [] = Unit {0}
CanApplyAll p (c ∷ cs) = IsCommand c × CanApply p c × CanApplyAll (apply p c) cs

-- the keys of n blocks of a unit, from an address on
abbrev pub data_keys : ℕ → ℕ → ℕ → List Key
data_keys unit address n = map (λ i. data_key unit (address + i)) (below n)

-- the keys of the area pages of a region from that of one block of 256 bytes to that of another, in rising order
abbrev pub area_keys : ℕ → ℕ → ℕ → List Key
area_keys region first last =
    map (λ i. area_key region (first / 16 + i)) (below (last / 16 + 1 - first / 16))

-- the keys that a command touches, in the order in which its group has them. A setting or a key touches the
-- settings alone; an RPMB write touches its area pages and then the settings, which have the counter
abbrev pub keys : Command → List Key
keys (cmd.Write unit address blocks) = data_keys unit address (length blocks)
keys (cmd.Zero unit address count) = data_keys unit address count
keys (cmd.SetKey region bytes) = settings_key ∷ []
keys (cmd.RpmbWrite region address bytes) =
    area_keys region address (address + length bytes / 256 - 1) ++ settings_key ∷ []
keys (cmd.SetBoot boot) = settings_key ∷ []
keys cmd.SetPermanent = settings_key ∷ []

-- Groups

-- one page of a group: a key and its content
pub record Item : Type 0 where
  pub key : Key
  pub body : List ℕ

-- the pages of one command, in the order of their indexes
abbrev pub Group : Type 0
Group = List Item

-- the group of a command: its keys, with their content in the state after it. So an area page of which the command
-- has only some blocks also holds what the command leaves of the others
abbrev pub group_of : Plain → Command → Group
group_of p c = map (λ k. record { key = k; body = content (apply p c) k }) (keys c)

-- the groups of commands, one after another, each made in the state that those before it leave
abbrev pub groups_of : Plain → List Command → List Group
groups_of p [] = []
groups_of p (c ∷ cs) = group_of p c ∷ groups_of (apply p c) cs

-- contents with a group's keys replaced; all other keys keep their content
abbrev pub put_group : Contents → Group → Contents
put_group f [] k = f k
put_group f (item ∷ items) k = if same_key item.key k then item.body else put_group f items k

-- contents after groups, one after another: of several with one key the last one shows
abbrev pub put_groups : Contents → List Group → Contents
put_groups f [] = f
put_groups f (g ∷ gs) = put_groups (put_group f g) gs
