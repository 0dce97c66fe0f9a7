-- The command that the sixteen bytes of a CDB spell, by the table of the commands (SPC, SBC). SPC is SPC-4 everywhere, and
-- SBC is SBC-3; they are cited by the titles of their clauses.
use Rattle.std.specs.Prelude.{ℕ, List, [], ◌∷◌, ◌++◌, Bool, not, ◌==◌, ◌&&◌, ◌||◌, ◌-◌, ◌*◌, ◌+◌, ◌^◌, ◌/◌, ◌%◌}
use Rattle.std.specs.Prelude.{nat_le, nat_lt}
use Rattle.std.specs.Prelude.{bit_and, find, replicate, slice_index, if◌then◌else◌, Option, Some, None, false, true}
use Rattle.std.specs.List.{list_all, list_any}
use Rattle.ufs_bytes.specs.Fields.{field_at}
use Rattle.ufs_spec.specs.Counting.{below}
use Rattle.ufs_spec.specs.Plain.{regions}
use Rattle.ufs_spec.specs.declared.operations.Fields.{Fields}
use Rattle.ufs_spec.specs.declared.operations.Kind.{Kind}
use Rattle.ufs_spec.specs.declared.operations.Kind.TheVariants as kind
use Rattle.ufs_spec.specs.declared.operations.Layout.{Layout}
use Rattle.ufs_spec.specs.declared.operations.Layout.TheVariants as layout
use Rattle.ufs_spec.specs.declared.operations.Row.{Row}
use Rattle.ufs_spec.specs.declared.operations.TheConstants.{ACTION, COMMANDS, REPORTING}
use Rattle.ufs_spec.specs.declared.operations.Told.{Told}
use Rattle.ufs_spec.specs.declared.operations.Told.TheVariants as told
use Rattle.ufs_spec.specs.declared.scsi.Cdb.{Cdb}
use Rattle.ufs_spec.specs.declared.scsi.Cdb.TheVariants as cdb

-- ## The row

-- the service action in bits 4..0 of byte 1 is this one, if commands share the operation code (SPC)
abbrev pub acts : Option ℕ → List ℕ → Bool
acts None bytes = true
acts (Some action) bytes = bit_and (slice_index bytes 1) ACTION == action

-- the row is that of the operation code, and of the service action if it has one
abbrev pub is_row_of : List ℕ → Row → Bool
is_row_of bytes row = (row.operation == slice_index bytes 0) && acts row.action bytes

-- the row of the command whose operation code is byte 0 of the CDB, if the table has one
abbrev pub row_of : List ℕ → Option Row
row_of bytes = find (is_row_of bytes) COMMANDS

-- ## Bits that no field takes

-- the bits of the group number of READ, WRITE, SYNCHRONIZE CACHE and PRE-FETCH, and those of the page of INQUIRY: no
-- device of profile 0 takes them
abbrev pub group_bits : ℕ → ℕ
group_bits profile = if profile == 0 then 0 else 0x1F

abbrev pub page_bits : ℕ → ℕ
page_bits profile = if profile == 0 then 0 else 0xFF

-- which bits of each byte are the operation code's or a field's on a device of a profile, with these options in byte 1
-- (SPC, CDB usage data)
abbrev pub usage : (profile options : ℕ) → Layout → List ℕ
usage profile options layout.Bare = 0xFF ∷ options ∷ replicate 14 0
usage profile options layout.Six = 0xFF ∷ 0x1F ∷ replicate 3 0xFF ++ replicate 11 0
usage profile options layout.Ten =
    0xFF ∷ options ∷ replicate 4 0xFF ++ group_bits profile ∷ replicate 2 0xFF ++ replicate 7 0
usage profile options layout.Sixteen =
    0xFF ∷ options ∷ replicate 12 0xFF ++ group_bits profile ∷ 0 ∷ []
usage profile options layout.SenseRequest = 0xFF ∷ replicate 3 0 ++ 0xFF ∷ replicate 11 0
usage profile options layout.UnitRequest =
    0xFF ∷ options ∷ page_bits profile ∷ replicate 2 0xFF ++ replicate 11 0
usage profile options layout.ActionRequest = 0xFF ∷ options ∷ replicate 8 0 ++ replicate 4 0xFF ++ replicate 2 0
usage profile options layout.ModesSix = 0xFF ∷ options ∷ replicate 3 0xFF ++ replicate 11 0
usage profile options layout.ModesTen =
    0xFF ∷ options ∷ replicate 2 0xFF ++ replicate 3 0 ++ replicate 2 0xFF ++ replicate 7 0
usage profile options layout.ParameterList = 0xFF ∷ replicate 6 0 ++ replicate 2 0xFF ++ replicate 7 0
usage profile options layout.Selection = 0xFF ∷ 0 ∷ 0xFF ∷ replicate 3 0 ++ replicate 4 0xFF ++ replicate 6 0
usage profile options layout.Security = replicate 4 0xFF ++ replicate 2 0 ++ replicate 4 0xFF ++ replicate 6 0
usage profile options layout.OperationsRequest = 0xFF ∷ options ∷ REPORTING ∷ replicate 7 0xFF ++ replicate 6 0

-- the same of a row
abbrev pub usage_of : ℕ → Row → List ℕ
usage_of profile row = usage profile (slice_index row.options profile) row.layout

-- the byte has no bit set that is not one of these
abbrev pub is_within : ℕ → ℕ → Bool
is_within taken byte = (taken == 0xFF) || (bit_and byte (0xFF - taken) == 0)

-- no bit is set that no field takes: a device refuses such a CDB
abbrev pub has_only : List ℕ → List ℕ → Bool
has_only taken bytes = list_all (λ place. is_within (slice_index taken place) (slice_index bytes place)) (below 16)

-- ## Fields

-- what the count holds where a CDB has none: so it limits nothing
abbrev pub no_limit : ℕ
no_limit = 2 ^ 32 - 1

-- the address of READ(6) and WRITE(6): bits 4..0 of byte 1 and bytes 2 and 3, the lowest 21 bits of bytes 0..3
abbrev pub six_address : List ℕ → ℕ
six_address bytes = bit_and (field_at 4 0 bytes) 0x1FFFFF

-- a count of blocks in one byte, where 0 means 256 (SBC, READ(6) and WRITE(6))
abbrev pub six_blocks : ℕ → ℕ
six_blocks blocks = if blocks == 0 then 256 else blocks

-- this option is set in byte 1 (SBC: FUA of READ and WRITE, IMMED of SYNCHRONIZE CACHE, the lower bit of VERIFY's BYTCHK;
-- SPC: EVPD of INQUIRY, SELFTEST of SEND DIAGNOSTIC)
abbrev pub is_optional : ℕ → List ℕ → Bool
is_optional option bytes = not (bit_and (slice_index bytes 1) option == 0)

-- blocks from an address on, of a group
abbrev pub range_fields : ℕ → ℕ → ℕ → Bool → Fields
range_fields address count group option =
    record { address = address; count = count; select = 0; protocol = 0; group = group; option = option }

-- a count of bytes, and what is selected
abbrev pub data_fields : ℕ → ℕ → ℕ → Bool → Fields
data_fields protocol select count option =
    record { address = 0; count = count; select = select; protocol = protocol; group = 0; option = option }

-- what the fields of a CDB of this layout hold
abbrev pub fields_in : ℕ → Layout → List ℕ → Fields
fields_in option layout.Bare bytes = data_fields 0 0 no_limit (is_optional option bytes)
fields_in option layout.Six bytes = range_fields (six_address bytes) (six_blocks (slice_index bytes 4)) 0 false
fields_in option layout.Ten bytes =
    range_fields (field_at 4 2 bytes) (field_at 2 7 bytes) (slice_index bytes 6) (is_optional option bytes)
fields_in option layout.Sixteen bytes =
    range_fields (field_at 8 2 bytes) (field_at 4 10 bytes) (slice_index bytes 14) (is_optional option bytes)
fields_in option layout.SenseRequest bytes = data_fields 0 0 (slice_index bytes 4) false
fields_in option layout.UnitRequest bytes =
    data_fields 0 (slice_index bytes 2) (field_at 2 3 bytes) (is_optional option bytes)
fields_in option layout.ActionRequest bytes = data_fields 0 0 (field_at 4 10 bytes) false
fields_in option layout.ModesSix bytes = data_fields 0 (field_at 2 2 bytes) (slice_index bytes 4) false
fields_in option layout.ModesTen bytes = data_fields 0 (field_at 2 2 bytes) (field_at 2 7 bytes) false
fields_in option layout.ParameterList bytes = data_fields 0 0 (field_at 2 7 bytes) false
fields_in option layout.Selection bytes = data_fields 0 (slice_index bytes 2) (field_at 4 6 bytes) false
fields_in option layout.Security bytes =
    data_fields (256 * slice_index bytes 1 + slice_index bytes 3) (slice_index bytes 2) (field_at 4 6 bytes) false
fields_in option layout.OperationsRequest bytes = data_fields 0 (field_at 4 2 bytes) (field_at 4 6 bytes) false

-- ## Commands

-- the parts of what MODE SENSE selects by its bytes 2 and 3 (SPC): which values are asked for (0 current, 1 changeable,
-- 2 default, 3 saved), the page, and the subpage
abbrev pub page_control : ℕ → ℕ
page_control select = select / 16384

abbrev pub mode_page_of : ℕ → ℕ
mode_page_of select = select / 256 % 64

abbrev pub subpage_of : ℕ → ℕ
subpage_of select = select % 256

-- the mode pages (SPC, SBC): 01h read-write error recovery, 08h caching, 0Ah control, and 3Fh, which stands for all of them
abbrev pub all_modes : ℕ
all_modes = 0x3F

abbrev pub is_mode_page : ℕ → Bool
is_mode_page page = list_any (λ (known : ℕ). known == page) (0x01 ∷ 0x08 ∷ 0x0A ∷ all_modes ∷ [])

-- MODE SENSE selects one of these pages without a subpage, or all with FFh for all subpages too (SPC)
abbrev pub selects_modes : ℕ → Bool
selects_modes select =
    is_mode_page (mode_page_of select)
    && ((subpage_of select == 0) || ((mode_page_of select == all_modes) && (subpage_of select == 0xFF)))

-- the parts of what REPORT SUPPORTED OPERATION CODES selects by its bytes 2 to 5 (SPC): whether command timeouts are
-- asked for too (RCTD), the reporting options, the operation code, and its service action
abbrev pub wants_timeouts : ℕ → Bool
wants_timeouts select = nat_le (2 ^ 31) select

abbrev pub reporting_of : ℕ → ℕ
reporting_of select = select / 2 ^ 24 % 8

abbrev pub operation_in : ℕ → ℕ
operation_in select = select / 2 ^ 16 % 256

abbrev pub action_in : ℕ → ℕ
action_in select = select % 2 ^ 16

-- REPORT LUNS selects by 00h, 01h or 02h (SPC), and standard INQUIRY data have no page. Which pages of vital product data
-- there are depends on the unit, and which commands are reported on the table (`lacks_page` and `lacks_operation` in
-- Refusals). What else is told has no selection
abbrev pub selects : Told → ℕ → Bool
selects told.Units select = nat_le select 2
selects told.Identity select = select == 0
selects told.Modes select = selects_modes select
selects told.ShortModes select = selects_modes select
selects what select = true

-- what is told where the option is set: a page of vital product data in place of standard INQUIRY data (SPC)
abbrev pub told_with : Bool → Told → Told
told_with true told.Identity = told.Page
told_with option what = what

-- a group number is at most 10h (JESD220, GROUP NUMBER values)
abbrev pub is_group : ℕ → Bool
is_group group = nat_le group 0x10

-- the protocol of RPMB: ECh, and 01h in the low byte of its specific field (JESD220, 12.4)
abbrev pub rpmb_protocol : ℕ
rpmb_protocol = 0xEC01

-- the protocol is that of RPMB, and the region is one of the four. Whether it is there depends on the device
-- (`lacks_region` in Refusals)
abbrev pub names_region : Fields → Bool
names_region f = (f.protocol == rpmb_protocol) && nat_lt f.select regions

-- the command, if its fields are as the table wants them
abbrev pub taken_if : Bool → Cdb → Option Cdb
taken_if right command = if right then Some command else None

-- the command of a kind with these fields; none if one of them has a value that is none of its own
abbrev pub command_of : Kind → Fields → Option Cdb
command_of kind.Nothing f = Some cdb.Nothing
command_of (kind.Tell what) f =
    taken_if (selects (told_with f.option what) f.select) (cdb.Tell (told_with f.option what) f.select f.count)
command_of kind.Read f = taken_if (is_group f.group) (cdb.Read f.address f.count)
command_of kind.Write f = taken_if (is_group f.group) (cdb.Write f.address f.count f.option)
command_of kind.Flush f = taken_if (is_group f.group) (cdb.Flush f.option)
command_of kind.Verify f = taken_if (is_group f.group) (cdb.Verify f.address f.count f.option)
command_of kind.Prefetch f = taken_if (is_group f.group) (cdb.Prefetch f.address f.count)
command_of kind.Diagnose f = Some (cdb.Diagnose f.option)
command_of kind.Unmap f = Some (cdb.Unmap f.count)
command_of kind.SecurityIn f = taken_if (names_region f) (cdb.SecurityIn f.select f.count)
command_of kind.SecurityOut f = taken_if (names_region f) (cdb.SecurityOut f.select f.count)

-- a page of vital product data is told by INQUIRY
abbrev pub asked_as : Told → Told
asked_as told.Page = told.Identity
asked_as what = what

-- the kind of a command
abbrev pub kind_of : Cdb → Kind
kind_of cdb.Nothing = kind.Nothing
kind_of (cdb.Tell what select allocation) = kind.Tell (asked_as what)
kind_of (cdb.Read address blocks) = kind.Read
kind_of (cdb.Write address blocks forced) = kind.Write
kind_of (cdb.Flush immediate) = kind.Flush
kind_of (cdb.Verify address blocks compared) = kind.Verify
kind_of (cdb.Prefetch address blocks) = kind.Prefetch
kind_of (cdb.Diagnose tests) = kind.Diagnose
kind_of (cdb.Unmap list) = kind.Unmap
kind_of (cdb.SecurityIn region length) = kind.SecurityIn
kind_of (cdb.SecurityOut region length) = kind.SecurityOut

-- the command that a CDB of this row spells, if no bit is set that no field takes. It is spelled for profile 1, which
-- takes all that profile 0 takes; what profile 0 does not take is refused by a line of the table (`is_beyond` in Refusals)
abbrev pub spelled_by : List ℕ → Row → Option Cdb
spelled_by bytes row =
    if has_only (usage_of 1 row) bytes then command_of row.kind (fields_in row.option row.layout bytes) else None

-- the same, if there is a row
abbrev pub spelled_in : List ℕ → Option Row → Option Cdb
spelled_in bytes None = None
spelled_in bytes (Some row) = spelled_by bytes row

-- the command that the bytes spell, if they spell one
abbrev pub spelled_cdb : List ℕ → Option Cdb
spelled_cdb bytes = spelled_in bytes (row_of bytes)
