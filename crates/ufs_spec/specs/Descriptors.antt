-- Descriptors: what a device tells of itself (JESD220, 14.1.4; the values that a configuration does not give are this
-- profile's).
use Rattle.std.specs.Prelude.{Bool, List, None, Option, Some, [], if◌then◌else◌, length, not, replicate, slice_get, ℕ}
use Rattle.std.specs.Prelude.{◌*◌, ◌++◌, ◌+◌, ◌-◌, ◌==◌, ◌∷◌}
use Rattle.std.specs.List.{flat_map, list_any}
use Rattle.byteorder.specs.Endian.{big_bytes}
use Rattle.hex.specs.Hex.{encode_lower}
use Rattle.ufs_spec.specs.Configs.{unit_blocks}
use Rattle.ufs_spec.specs.Identities.{product_name, revision, vendor_name}
use Rattle.ufs_spec.specs.Keys.{below, flag_byte}
use Rattle.ufs_spec.specs.Plain.{steps_of}
use Rattle.ufs_spec.specs.declared.configs.Numbers.{Numbers}
use Rattle.ufs_spec.specs.declared.configs.UnitSpec.{UnitSpec}
use Rattle.ufs_spec.specs.declared.messages.Asked.{Asked}

-- the unit has boot number A or B, so that the boot setting can name it
abbrev pub boots : UnitSpec → Bool
boots u = not (u.boot == 0)

-- some unit boots
abbrev pub has_boot : Numbers → Bool
has_boot n = list_any boots n.units.items

-- the device descriptor of profile 0, 64 bytes: its length; the number of units in byte 6, four well-known units, whether
-- it boots, and 1; RPMB in byte Dh; version 0210h in bytes 10h and 11h (JESD220, 14.1.4.2)
abbrev pub short_device_descriptor : Numbers → List ℕ
short_device_descriptor n =
    (0x40 ∷ 0 ∷ 0 ∷ 0 ∷ 0 ∷ 0 ∷ length n.units.items ∷ 0x04 ∷ flag_byte (has_boot n) ∷ 0x01 ∷ [])
    ++ (0 ∷ 0 ∷ 0 ∷ 0x01 ∷ 0 ∷ 0 ∷ 0x02 ∷ 0x10 ∷ []) ++ replicate 46 0

-- that of profile 1 (JESD220, 14.1.4.2): the subclass says in byte 4 that it does not boot; it is active after power-on
-- (Ah), no unit has priority (Bh), background operations end in 10 ms (Eh); made in November 2025 (12h, BCD); strings 1 to 5
-- (14h to 17h, 2Ah); unit parameters begin at 10h of a configuration descriptor and have 10h bytes (1Ah, 1Bh); 32 READY TO
-- TRANSFERs (1Ch) and one queue of 32 commands (21h); device version 1 (22h)
abbrev pub long_device_descriptor : Numbers → List ℕ
long_device_descriptor n =
    (0x40 ∷ 0 ∷ 0 ∷ 0 ∷ flag_byte (not (has_boot n)) ∷ 0 ∷ length n.units.items ∷ 0x04 ∷ flag_byte (has_boot n) ∷ 0x01
    ∷ [])
    ++ (0x01 ∷ 0x7F ∷ 0 ∷ 0x01 ∷ 0x01 ∷ 0 ∷ 0x02 ∷ 0x10 ∷ 0x11 ∷ 0x25 ∷ 0x01 ∷ 0x02 ∷ 0x03 ∷ 0x04 ∷ [])
    ++ (0 ∷ 0 ∷ 0x10 ∷ 0x10 ∷ 0x20 ∷ 0 ∷ 0 ∷ 0 ∷ 0 ∷ 0x20 ∷ 0 ∷ 0x01 ∷ []) ++ replicate 6 0 ++ 0x05 ∷ replicate 21 0

-- the device descriptor of the device's profile
abbrev pub device_descriptor : Numbers → List ℕ
device_descriptor n = if n.profile == 0 then short_device_descriptor n else long_device_descriptor n

-- the geometry descriptor of 72 bytes (JESD220, 14.1.4.4): its length, 7; in bytes 4 to Bh the capacity of all units in
-- 512 bytes; eight units; a segment of 4096 bytes in bytes Dh to 10h, and an allocation unit of one segment (11h); blocks
-- of 4096 bytes (12h to 14h), transfers (15h, 16h) and RPMB commands (17h) of eight times 512 bytes; five contexts (1Ah);
-- one way of secure removal (1Dh); normal memory and RPMB (1Eh)
abbrev pub geometry_descriptor : Numbers → List ℕ
geometry_descriptor n =
    (0x48 ∷ 0x07 ∷ 0 ∷ 0 ∷ []) ++ big_bytes 8 (8 * unit_blocks n) ++ (0 ∷ []) ++ big_bytes 4 8
    ++ (0x01 ∷ 0x08 ∷ 0x08 ∷ 0x08 ∷ 0x08 ∷ 0x08 ∷ 0x08 ∷ 0 ∷ 0 ∷ 0x05 ∷ 0 ∷ 0 ∷ 0x01 ∷ 0x80 ∷ 0x01 ∷ []) ++ replicate 40 0

-- ## Units

-- a unit's descriptor of 35 bytes: its length, 2, its index and that it is enabled; boot and protection; 4096 bytes a
-- block; its blocks, twice; an erase block of one (JESD220, 14.1.4.5)
abbrev pub unit_descriptor : ℕ → UnitSpec → List ℕ
unit_descriptor index u =
    (0x23 ∷ 0x02 ∷ index ∷ 0x01 ∷ u.boot ∷ u.protect ∷ 0 ∷ 0 ∷ 0 ∷ 0x01 ∷ 0x0C ∷ [])
    ++ big_bytes 8 u.blocks ++ big_bytes 4 1 ++ (0x03 ∷ []) ++ big_bytes 8 u.blocks ++ replicate 3 0

-- that of a unit which is not there: it is not enabled, and has no blocks
abbrev pub absent_unit_descriptor : ℕ → List ℕ
absent_unit_descriptor index =
    (0x23 ∷ 0x02 ∷ index ∷ 0x00 ∷ 0 ∷ 0 ∷ 0 ∷ 0 ∷ 0 ∷ 0x01 ∷ 0x0C ∷ [])
    ++ big_bytes 8 0 ++ big_bytes 4 1 ++ (0x03 ∷ []) ++ big_bytes 8 0 ++ replicate 3 0

-- the descriptor of the unit at an index
abbrev pub unit_descriptor_at : ℕ → Option UnitSpec → List ℕ
unit_descriptor_at index None = absent_unit_descriptor index
unit_descriptor_at index (Some u) = unit_descriptor index u

-- the index of the RPMB unit
abbrev pub rpmb_unit : ℕ
rpmb_unit = 0xC4

-- how many frames of 256 bytes the area of the first region has: 512 a step of 128 KiB
abbrev pub rpmb_blocks : Numbers → ℕ
rpmb_blocks n = 512 * steps_of n 0

-- the descriptor of the RPMB unit, as long as a unit's (JESD220, 14.1.4.6): one command at a time, memory of its own kind,
-- 256 bytes a block; its blocks, twice
abbrev pub rpmb_descriptor : Numbers → List ℕ
rpmb_descriptor n =
    (0x23 ∷ 0x02 ∷ rpmb_unit ∷ 0x01 ∷ 0 ∷ 0 ∷ 0x01 ∷ 0 ∷ 0x0F ∷ 0 ∷ 0x08 ∷ [])
    ++ big_bytes 8 (rpmb_blocks n) ++ replicate 5 0 ++ big_bytes 8 (rpmb_blocks n) ++ replicate 3 0

-- the unit descriptor with an index
abbrev pub unit_or_rpmb_descriptor : Numbers → ℕ → List ℕ
unit_or_rpmb_descriptor n index =
    if index == rpmb_unit then rpmb_descriptor n else unit_descriptor_at index (slice_get n.units.items index)

-- ## Configuration (JESD220, 14.1.4.3)

-- what a host may configure of a unit, 16 bytes: that it is enabled; boot and protection; normal memory; how many allocation
-- units it has, which are blocks; data are reliable; 4096 bytes a block; thin provisioning, and zeros behind an UNMAP
abbrev pub unit_configuration : UnitSpec → List ℕ
unit_configuration u =
    (0x01 ∷ u.boot ∷ u.protect ∷ 0 ∷ []) ++ big_bytes 4 u.blocks ++ (0x01 ∷ 0x0C ∷ 0x03 ∷ []) ++ replicate 5 0

-- the same of the unit with a number, and zeros if it is not there
abbrev pub unit_configuration_at : Option UnitSpec → List ℕ
unit_configuration_at None = replicate 16 0
unit_configuration_at (Some u) = unit_configuration u

-- the configuration descriptor of 144 bytes: its length, 1, that no other follows; whether it boots, and as the device
-- descriptor has it; then the eight units that there may be
abbrev pub configuration_descriptor : Numbers → List ℕ
configuration_descriptor n =
    (0x90 ∷ 0x01 ∷ 0 ∷ flag_byte (has_boot n) ∷ 0x01 ∷ 0x01 ∷ 0x7F ∷ []) ++ replicate 9 0
    ++ flat_map (λ number. unit_configuration_at (slice_get n.units.items number)) (below 8)

-- ## Strings, link and power

-- characters of one byte each in UTF-16
abbrev pub wide : List ℕ → List ℕ
wide characters = flat_map (λ character. 0 ∷ character ∷ []) characters

-- a string's characters: the maker, the product, the serial number in sixteen hexadecimal digits, the maker once more for
-- the customer's name, and the revision
abbrev pub string_of : Numbers → ℕ → List ℕ
string_of n index =
    if index == 2 then product_name
    else if index == 3 then encode_lower (big_bytes 8 n.serial)
    else if index == 5 then revision
    else vendor_name

-- a string descriptor: its length, 5, and the characters without an end mark (JESD220, 14.1.4.9)
abbrev pub string_descriptor : Numbers → ℕ → List ℕ
string_descriptor n index =
    (2 + 2 * length (string_of n index)) ∷ 0x05 ∷ wide (string_of n index)

-- the interconnect descriptor: UniPro 1.60 and M-PHY 3.0, in BCD (JESD220, 14.1.4.8)
abbrev pub interconnect_descriptor : List ℕ
interconnect_descriptor = 0x06 ∷ 0x04 ∷ 0x01 ∷ 0x60 ∷ 0x03 ∷ 0x00 ∷ []

-- the power parameters descriptor of 98 bytes: nothing is told of sixteen levels of three supplies (JESD220, 14.1.4.7)
abbrev pub power_descriptor : List ℕ
power_descriptor = 0x62 ∷ 0x08 ∷ replicate 96 0

-- ## The one that is asked for

-- the descriptor with an IDN and an index, of those that the table of parameters has
abbrev pub descriptor : Numbers → Asked → List ℕ
descriptor n a =
    if a.idn == 0x00 then device_descriptor n
    else if a.idn == 0x01 then configuration_descriptor n
    else if a.idn == 0x04 then interconnect_descriptor
    else if a.idn == 0x05 then string_descriptor n a.index
    else if a.idn == 0x07 then geometry_descriptor n
    else if a.idn == 0x08 then power_descriptor
    else unit_or_rpmb_descriptor n a.index
