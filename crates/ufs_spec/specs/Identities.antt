-- What a unit tells of itself and of the other units: INQUIRY, MODE SENSE, REPORT LUNS and REPORT SUPPORTED OPERATION
-- CODES (SPC), READ CAPACITY (SBC).
use Rattle.std.specs.Prelude.{Bool, List, [], None, Option, Some, false, filter, find, if◌then◌else◌, is_some}
use Rattle.std.specs.Prelude.{length, map, nat_lt, not, slice_index, slice_range, true, unwrap_or, ℕ, ◌%◌, ◌&&◌, ◌*◌}
use Rattle.std.specs.Prelude.{◌++◌, ◌+◌, ◌-◌, ◌==◌, ◌^◌, ◌∷◌}
use Rattle.std.specs.List.{flat_map, list_any}
use Rattle.byteorder.specs.Endian.{big_bytes}
use Rattle.hex.specs.Hex.{encode_lower}
use Rattle.ufs_spec.specs.CdbFields.{action_in, all_modes, mode_page_of, operation_in, page_control, reporting_of}
use Rattle.ufs_spec.specs.CdbFields.{usage, wants_timeouts}
use Rattle.ufs_spec.specs.Configs.{command_blocks}
use Rattle.ufs_spec.specs.Keys.{below}
use Rattle.ufs_spec.specs.Messages.{is_among, zeros}
use Rattle.ufs_spec.specs.declared.configs.Numbers.{Numbers}
use Rattle.ufs_spec.specs.declared.configs.UnitSpec.{UnitSpec}
use Rattle.ufs_spec.specs.declared.operations.Row.{Row}
use Rattle.ufs_spec.specs.declared.operations.TheConstants.{COMMANDS}

-- the peripheral device type (SPC): 00h of a unit of the configuration, a direct access device; 1Eh of a well-known unit
abbrev pub device_type : ℕ → ℕ
device_type lun = if nat_lt lun 8 then 0x00 else 0x1E

-- the names that a device tells (this profile): vendor `PROFILE `, product `UFS PROFILE 2.1 ` and revision `0001`
abbrev pub vendor_name : List ℕ
vendor_name = 0x50 ∷ 0x52 ∷ 0x4F ∷ 0x46 ∷ 0x49 ∷ 0x4C ∷ 0x45 ∷ 0x20 ∷ []

abbrev pub product_name : List ℕ
product_name =
    (0x55 ∷ 0x46 ∷ 0x53 ∷ 0x20 ∷ 0x50 ∷ 0x52 ∷ 0x4F ∷ 0x46 ∷ 0x49 ∷ 0x4C ∷ 0x45 ∷ 0x20 ∷ 0x32 ∷ 0x2E ∷ 0x31 ∷ 0x20
    ∷ [])

abbrev pub revision : List ℕ
revision = 0x30 ∷ 0x30 ∷ 0x30 ∷ 0x31 ∷ []

-- what INQUIRY tells, 36 bytes (SPC, standard INQUIRY data): this device type; version 06h and response format 02h; how
-- many bytes follow; then vendor, product and revision
abbrev pub inquiry_bytes : (type : ℕ) → List ℕ
inquiry_bytes type =
    (type ∷ 0 ∷ 0x06 ∷ 0x02 ∷ 0x1F ∷ 0 ∷ 0 ∷ 0x02 ∷ []) ++ vendor_name ++ product_name ++ revision

-- an entry of REPORT LUNS: two bytes that name a unit, and six zeros (SPC)
abbrev pub unit_entry : ℕ → ℕ → List ℕ
unit_entry high low = (high ∷ low ∷ []) ++ zeros 6

-- the entries that are selected: 00h the units of the configuration, 01h the well-known ones (C1h, and the LUN byte
-- without its highest bit), 02h both (SPC)
abbrev pub luns_listed : Numbers → ℕ → List (List ℕ)
luns_listed n select =
    (if select == 1 then [] else map (unit_entry 0x00) (below (length n.units.items)))
    ++ (if select == 0 then [] else map (unit_entry 0xC1) (0x01 ∷ 0x30 ∷ 0x44 ∷ 0x50 ∷ []))

-- what REPORT LUNS tells (SPC): how many bytes the list has, four zeros, and the list
abbrev pub luns_bytes : Numbers → ℕ → List ℕ
luns_bytes n select =
    big_bytes 4 (8 * length (luns_listed n select)) ++ zeros 4 ++ flat_map (λ entry. entry) (luns_listed n select)

-- ## Capacity

-- what READ CAPACITY(10) sends (SBC): the unit's last address, and 4096 as the length of a block. Without a unit
-- the command is refused before
abbrev pub capacity_bytes : Option UnitSpec → List ℕ
capacity_bytes None = zeros 8
capacity_bytes (Some u) = big_bytes 4 (u.blocks - 1) ++ big_bytes 4 4096

-- what READ CAPACITY(16) sends, 32 bytes (SBC): the same with a longer address, and C0h in byte 14: blocks may be unmapped
-- (LBPME), and read as zeros then (LBPRZ)
abbrev pub long_capacity_bytes : Option UnitSpec → List ℕ
long_capacity_bytes None = zeros 32
long_capacity_bytes (Some u) = big_bytes 8 (u.blocks - 1) ++ big_bytes 4 4096 ++ (0 ∷ 0 ∷ 0xC0 ∷ []) ++ zeros 17

-- ## Vital product data (SPC)

-- the pages that there are: supported pages 00h, unit serial number 80h, device identification 83h, mode page policy 87h; of
-- a unit of the configuration block limits B0h, block device characteristics B1h and logical block provisioning B2h too (SBC)
abbrev pub vpd_pages : ℕ → List ℕ
vpd_pages lun =
    (0x00 ∷ 0x80 ∷ 0x83 ∷ 0x87 ∷ []) ++ (if nat_lt lun 8 then 0xB0 ∷ 0xB1 ∷ 0xB2 ∷ [] else [])

-- a designator of the unit: binary, of the unit, NAA locally assigned, eight bytes: 30h, "FS", the low four bytes of the
-- serial number, and the LUN byte
abbrev pub designator : ℕ → ℕ → List ℕ
designator serial lun =
    (0x01 ∷ 0x03 ∷ 0x00 ∷ 0x08 ∷ 0x30 ∷ 0x46 ∷ 0x53 ∷ []) ++ big_bytes 4 (serial % 2 ^ 32) ++ lun ∷ []

-- block limits (SBC): granularity 1; the greatest and the best length of a command; no prefetch; as many blocks unmapped by
-- one descriptor, at a granularity of 1, whose alignment is known to be 0
abbrev pub limits : ℕ → List ℕ
limits most =
    (0 ∷ 0 ∷ []) ++ big_bytes 2 1 ++ big_bytes 4 most ++ big_bytes 4 most ++ big_bytes 4 0 ++ big_bytes 4 most
    ++ big_bytes 4 1 ++ big_bytes 4 1 ++ big_bytes 4 0x80000000 ++ zeros 28

-- what a page has behind its first four bytes: the pages that there are; the sixteen digits of the serial number; the
-- designator; all mode pages are shared; the limits; it does not rotate; unmapped by UNMAP, read as zeros, thin
abbrev pub page_body : Numbers → ℕ → ℕ → List ℕ
page_body n lun page =
    if page == 0x00 then vpd_pages lun
    else if page == 0x80 then encode_lower (big_bytes 8 n.serial)
    else if page == 0x83 then designator n.serial lun
    else if page == 0x87 then 0x3F ∷ 0xFF ∷ 0 ∷ 0 ∷ []
    else if page == 0xB0 then limits (command_blocks n)
    else if page == 0xB1 then 0 ∷ 0x01 ∷ zeros 58
    else 0 ∷ 0x84 ∷ 0x02 ∷ 0 ∷ []

-- a page: the device type, its code, how many bytes follow, and these. A page that the unit does not have is refused before
abbrev pub page_bytes : Numbers → ℕ → ℕ → List ℕ
page_bytes n lun page =
    if is_among (vpd_pages lun) page then
    (device_type lun ∷ page ∷ []) ++ big_bytes 2 (length (page_body n lun page)) ++ page_body n lun page
    else []

-- ## Mode pages (SPC, SBC)

-- the pages as they are, and as they are at delivery, since nothing of them changes: read-write error recovery 01h, with
-- automatic write reallocation; caching 08h, with a write cache (WCE); control 0Ah, with unrestricted reordering, and a busy
-- time without limit
abbrev pub mode_page : ℕ → List ℕ
mode_page page =
    if page == 0x01 then 0x01 ∷ 0x0A ∷ 0x80 ∷ zeros 9
    else if page == 0x08 then 0x08 ∷ 0x12 ∷ 0x04 ∷ zeros 17
    else 0x0A ∷ 0x0A ∷ 0x00 ∷ 0x10 ∷ 0 ∷ 0 ∷ 0 ∷ 0 ∷ 0xFF ∷ 0xFF ∷ 0 ∷ 0 ∷ []

-- which of their bits may be changed: none
abbrev pub mode_mask : ℕ → List ℕ
mode_mask page =
    if page == 0x01 then 0x01 ∷ 0x0A ∷ zeros 10
    else if page == 0x08 then 0x08 ∷ 0x12 ∷ zeros 18
    else 0x0A ∷ 0x0A ∷ zeros 10

-- a page of which these values are asked for: 1 stands for changeable ones
abbrev pub mode_values : (control page : ℕ) → List ℕ
mode_values control page = if control == 1 then mode_mask page else mode_page page

-- the pages that are selected: one, or all of them
abbrev pub modes_bytes : ℕ → List ℕ
modes_bytes select =
    if mode_page_of select == all_modes then
    mode_values (page_control select) 0x01 ++ mode_values (page_control select) 0x08
    ++ mode_values (page_control select) 0x0A
    else mode_values (page_control select) (mode_page_of select)

-- the device-specific parameter (SBC): DPOFUA, since FUA is taken, and WP where the unit takes no writes now
abbrev pub device_parameter : Bool → ℕ
device_parameter guarded = if guarded then 0x90 else 0x10

-- what MODE SENSE(10) tells: how many bytes follow the first two, medium type 0, the device-specific parameter, no block
-- descriptors, and the pages
abbrev pub modes_told : ℕ → Bool → List ℕ
modes_told select guarded =
    big_bytes 2 (6 + length (modes_bytes select)) ++ (0 ∷ device_parameter guarded ∷ []) ++ zeros 4 ++ modes_bytes select

-- the same of MODE SENSE(6), whose header has four bytes
abbrev pub short_modes_told : ℕ → Bool → List ℕ
short_modes_told select guarded =
    ((3 + length (modes_bytes select)) ∷ 0 ∷ device_parameter guarded ∷ 0 ∷ []) ++ modes_bytes select

-- ## Commands (SPC, REPORT SUPPORTED OPERATION CODES)

-- the rows of the table that a unit of the configuration takes. A device of profile 1 has them all, and neither one of
-- profile 0 nor another LUN is asked for them
abbrev pub unit_commands : List Row
unit_commands = filter (λ (row : Row). row.takers.units) COMMANDS

-- commands share this operation code, and differ by their service actions
abbrev pub has_actions : ℕ → Bool
has_actions operation = list_any (λ (row : Row). (row.operation == operation) && is_some row.action) COMMANDS

-- the commands that are reported: all of them (0), the one with an operation code that has no service actions (1), or
-- the one with a code and a service action (2). There are no other reporting options
abbrev pub is_reported : ℕ → Bool
is_reported select =
    if reporting_of select == 0 then true
    else if reporting_of select == 1 then not (has_actions (operation_in select))
    else if reporting_of select == 2 then has_actions (operation_in select)
    else false

-- how many bytes a CDB has by its operation code: six, ten, sixteen or twelve
abbrev pub cdb_length : ℕ → ℕ
cdb_length operation =
    if nat_lt operation 0x20 then 6 else if nat_lt operation 0x60 then 10 else if nat_lt operation 0xA0 then 16 else 12

-- the command timeouts descriptor, where it is asked for: ten bytes follow, and no time is told
abbrev pub timeouts : Bool → List ℕ
timeouts timed = if timed then 0x00 ∷ 0x0A ∷ zeros 10 else []

-- CTDP, bit 1, where the descriptor of timeouts follows, and SERVACTV, bit 0, where there is a service action
abbrev pub entry_flags : Bool → Option ℕ → ℕ
entry_flags timed action = (if timed then 2 else 0) + (if is_some action then 1 else 0)

-- what is told of each of all commands: its operation code, its service action, these flags, and the length of its CDB
abbrev pub command_entry : Bool → Row → List ℕ
command_entry timed row =
    (row.operation ∷ 0 ∷ []) ++ big_bytes 2 (unwrap_or row.action 0) ++ (0 ∷ entry_flags timed row.action ∷ [])
    ++ big_bytes 2 (cdb_length row.operation) ++ timeouts timed

-- how many bytes the entries have, and the entries
abbrev pub all_commands : Bool → List ℕ
all_commands timed =
    let entries : List ℕ = flat_map (command_entry timed) unit_commands in big_bytes 4 (length entries) ++ entries

-- CDB usage data: the operation code itself, and of the other bytes of the CDB the bits that profile 1 takes; in byte 1
-- the service action itself, if there is one, in place of its bits
abbrev pub usage_told : Row → List ℕ
usage_told row =
    row.operation
    ∷ slice_range (usage 1 (unwrap_or row.action (slice_index row.options 1)) row.layout) 1 (cdb_length row.operation)

-- CTDP, bit 7, where the descriptor of timeouts follows, above what is known of the command: 1 that it is not there, 3
-- that it is as the standard has it
abbrev pub support : Bool → ℕ → ℕ
support timed known = (if timed then 0x80 else 0x00) + known

-- what is told of one command: the length of its CDB and its usage data; of one that is not there bytes 2 and 3 are zero,
-- and no usage data follow
abbrev pub one_command : Bool → Option Row → List ℕ
one_command timed None = (0 ∷ support timed 1 ∷ 0 ∷ 0 ∷ []) ++ timeouts timed
one_command timed (Some row) =
    (0 ∷ support timed 3 ∷ []) ++ big_bytes 2 (cdb_length row.operation) ++ usage_told row ++ timeouts timed

-- the command has the service action that is asked for, if it has one
abbrev pub has_action : ℕ → Option ℕ → Bool
has_action asked None = true
has_action asked (Some action) = action == asked

-- the row is that of the operation code that is asked for, and of its service action
abbrev pub is_asked : ℕ → Row → Bool
is_asked select row = (row.operation == operation_in select) && has_action (action_in select) row.action

-- what is told of the commands that are selected
abbrev pub operations_told : (select : ℕ) → List ℕ
operations_told select =
    if reporting_of select == 0 then all_commands (wants_timeouts select)
    else one_command (wants_timeouts select) (find (is_asked select) unit_commands)
