-- Queries: descriptors, attributes and flags, and the table by which a query is refused: the first line that applies
-- decides (JESD220, 10.7.8 and 14; the order of the lines and the values that a configuration does not give are this
-- profile's).
use Rattle.std.specs.Prelude.{Bool, List, None, Option, Some, [], false, find, if◌then◌else◌, is_none, length}
use Rattle.std.specs.Prelude.{nat_lt, not, take, true, ℕ, ◌&&◌, ◌==◌, ◌||◌, ◌∷◌}
use Rattle.ufs_spec.specs.Commands.{Command, SetBoot, SetPermanent}
use Rattle.ufs_spec.specs.Configs.{is_between}
use Rattle.ufs_spec.specs.Descriptors.{descriptor, rpmb_unit}
use Rattle.ufs_spec.specs.Keys.{flag_byte}
use Rattle.ufs_spec.specs.Messages.{is_among}
use Rattle.ufs_spec.specs.Plain.{Plain}
use Rattle.ufs_spec.specs.declared.configs.Numbers.{Numbers}
use Rattle.ufs_spec.specs.declared.messages.Asked.{Asked}
use Rattle.ufs_spec.specs.declared.parameters.Access.{Access}
use Rattle.ufs_spec.specs.declared.parameters.Class.{Class}
use Rattle.ufs_spec.specs.declared.parameters.Class.TheVariants as class
use Rattle.ufs_spec.specs.declared.parameters.Indexes.{Indexes}
use Rattle.ufs_spec.specs.declared.parameters.Indexes.TheVariants as indexes
use Rattle.ufs_spec.specs.declared.parameters.Parameter.{Parameter}
use Rattle.ufs_spec.specs.declared.parameters.TheConstants.{PARAMETERS}
use Rattle.ufs_spec.specs.declared.volatile.Volatile.{Volatile}

-- a QUERY REQUEST (JESD220, 10.7.8): standard read (01h) or standard write (81h), opcode with IDN, index and selector,
-- the length field and the value
pub record Query : Type 0 where
  pub function : ℕ
  pub asked : Asked
  pub length : ℕ
  pub value : ℕ

-- ## What a query names

-- what the opcode of a query is about: 1 and 2 read and write a descriptor; 3 and 4 an attribute; 5 to 8 read, set, clear
-- and toggle a flag. No operation and opcodes that are none are about nothing
abbrev pub class_of : ℕ → Option Class
class_of opcode =
    if is_among (1 ∷ 2 ∷ []) opcode then Some class.Descriptor
    else if is_among (3 ∷ 4 ∷ []) opcode then Some class.Attribute
    else if is_among (5 ∷ 6 ∷ 7 ∷ 8 ∷ []) opcode then Some class.Flag
    else None

-- whether two classes are the same
abbrev pub same_class : Class → Class → Bool
same_class class.Descriptor class.Descriptor = true
same_class class.Attribute class.Attribute = true
same_class class.Flag class.Flag = true
same_class one other = false

-- the row is of this class
abbrev pub is_of_class : Option Class → Parameter → Bool
is_of_class None row = false
is_of_class (Some class) row = same_class class row.class

-- each device has the rows of profile 0, and one of profile 1 has the others too
abbrev pub has_row : Numbers → Parameter → Bool
has_row n row = (row.profile == 0) || (row.profile == n.profile)

-- the row is that of a class and an IDN, and a device with this configuration has it
abbrev pub is_row_of : Numbers → Option Class → (idn : ℕ) → Parameter → Bool
is_row_of n class idn row = is_of_class class row && (row.idn == idn) && has_row n row

-- the row of what is asked for, if the table has one
abbrev pub parameter_of : Numbers → Asked → Option Parameter
parameter_of n a = find (is_row_of n (class_of a.opcode) a.idn) PARAMETERS

-- the unit with this number is there
abbrev pub is_unit : Numbers → ℕ → Bool
is_unit n number = nat_lt number (length n.units.items)

-- the index is of a unit that a device may have, or of the RPMB unit; a device of profile 0 has its units alone
abbrev pub is_any_unit : Numbers → ℕ → Bool
is_any_unit n index = if n.profile == 0 then is_unit n index else nat_lt index 8 || (index == rpmb_unit)

-- the index names one of those that a row stands for
abbrev pub is_index : Numbers → Indexes → ℕ → Bool
is_index n indexes.One index = index == 0
is_index n indexes.Units index = is_unit n index
is_index n indexes.AllUnits index = is_any_unit n index
is_index n indexes.Strings index = is_between 1 5 index
is_index n indexes.Contexts index = is_unit n index

-- and so does the selector
abbrev pub is_selector : Indexes → ℕ → Bool
is_selector indexes.One selector = selector == 0
is_selector indexes.Units selector = selector == 0
is_selector indexes.AllUnits selector = selector == 0
is_selector indexes.Strings selector = selector == 0
is_selector indexes.Contexts selector = is_between 1 15 selector

-- ## Refusals

-- a line says nothing of what the table does not have, since that is refused before
abbrev pub of_row : (Parameter → Bool) → Option Parameter → Bool
of_row applies None = false
of_row applies (Some row) = applies row

-- line 1 (FEh): an opcode above 8, or one that its function does not have
abbrev pub has_wrong_opcode : Query → Bool
has_wrong_opcode q =
    nat_lt 8 q.asked.opcode
    || (is_among (1 ∷ 3 ∷ 5 ∷ []) q.asked.opcode && (q.function == 0x81))
    || (is_among (2 ∷ 4 ∷ 6 ∷ 7 ∷ 8 ∷ []) q.asked.opcode && (q.function == 0x01))

-- line 3 (FDh): an IDN that its class does not have
abbrev pub has_wrong_idn : Numbers → Query → Bool
has_wrong_idn n q = is_none (parameter_of n q.asked)

-- line 4 (FCh): an index that names none
abbrev pub has_wrong_index : Numbers → Query → Bool
has_wrong_index n q =
    of_row (λ row. not (is_index n row.indexes q.asked.index)) (parameter_of n q.asked)

-- line 5 (FBh): a selector that names none
abbrev pub has_wrong_selector : Numbers → Query → Bool
has_wrong_selector n q =
    of_row (λ row. not (is_selector row.indexes q.asked.selector)) (parameter_of n q.asked)

-- line 6 (F6h): what is not read. No other opcode reads
abbrev pub is_not_readable : Numbers → Query → Bool
is_not_readable n q =
    is_among (1 ∷ 3 ∷ 5 ∷ []) q.asked.opcode && of_row (λ row. not row.access.reads) (parameter_of n q.asked)

-- an opcode that writes is one that the row takes
abbrev pub may_write : (opcode : ℕ) → Access → Bool
may_write opcode access =
    if opcode == 7 then access.clears else if opcode == 8 then access.toggles else access.writes

-- line 7 (F7h): what is not written, set, cleared or toggled
abbrev pub is_not_writable : Numbers → Query → Bool
is_not_writable n q =
    is_among (2 ∷ 4 ∷ 6 ∷ 7 ∷ 8 ∷ []) q.asked.opcode
    && of_row (λ row. not (may_write q.asked.opcode row.access)) (parameter_of n q.asked)

-- line 8 (F9h): a descriptor is read with a length of 0, or an attribute or a flag has a length
abbrev pub has_wrong_size : Query → Bool
has_wrong_size q = if q.asked.opcode == 1 then q.length == 0 else not (q.length == 0)

-- line 9 (FAh): an attribute is written with a value that it cannot have
abbrev pub has_wrong_value : Numbers → Query → Bool
has_wrong_value n q =
    (q.asked.opcode == 4)
    && of_row (λ row. not (is_between row.least row.greatest q.value)) (parameter_of n q.asked)

-- fPermanentWPEn is set; no query clears it again
abbrev pub sets_permanent : Query → Bool
sets_permanent q = (q.asked.opcode == 6) && (q.asked.idn == 0x02)

-- bConfigDescrLock is written, which is locked from the start
abbrev pub writes_lock : Query → Bool
writes_lock q = (q.asked.opcode == 4) && (q.asked.idn == 0x0B)

-- line 10 (F8h): what is written once was written
abbrev pub was_written : Plain → Query → Bool
was_written p q = writes_lock q || (sets_permanent q && p.permanent)

-- bBootLunEn is written
abbrev pub writes_boot : Query → Bool
writes_boot q = (q.asked.opcode == 4) && (q.asked.idn == 0x00)

-- the command of a query that is a setting: writing bBootLunEn, and setting fPermanentWPEn.
-- It becomes an accepted command
abbrev pub setting_of : Query → Option Command
setting_of q =
    if writes_boot q then Some (SetBoot q.value) else if sets_permanent q then Some SetPermanent else None

-- line 11 (FFh): a setting, while none can be accepted (`may_accept`)
abbrev pub is_shut : Bool → Query → Bool
is_shut may_accept q = not (is_none (setting_of q)) && not may_accept

-- a line of the table: whether it applies to the query, and the response code that it gives
pub record QueryLine : Type 0 where
  pub applies : Bool
  pub code : ℕ

-- a line with these two parts; it stands in the list below in one row
abbrev pub query_line : Bool → ℕ → QueryLine
query_line applies code = record { applies = applies; code = code }

-- the code of the first line that applies; 00h, success, if none does
abbrev pub first_code : List QueryLine → ℕ
first_code [] = 0x00
first_code (l ∷ ls) = if l.applies then l.code else first_code ls

-- the response of a query (JESD220, 10.7.9), by eleven lines. One has no definition of its own: opcode 0, no operation
-- (line 2, 00h)
abbrev pub query_code : Numbers → Plain → Bool → Query → ℕ
query_code n p may_accept q =
    first_code
    (query_line (has_wrong_opcode q) 0xFE
    ∷ query_line (q.asked.opcode == 0) 0x00
    ∷ query_line (has_wrong_idn n q) 0xFD
    ∷ query_line (has_wrong_index n q) 0xFC
    ∷ query_line (has_wrong_selector n q) 0xFB
    ∷ query_line (is_not_readable n q) 0xF6
    ∷ query_line (is_not_writable n q) 0xF7
    ∷ query_line (has_wrong_size q) 0xF9
    ∷ query_line (has_wrong_value n q) 0xFA
    ∷ query_line (was_written p q) 0xF8
    ∷ query_line (is_shut may_accept q) 0xFF
    ∷ [])

-- ## What a query that succeeds tells

-- the first bytes of a descriptor, as many as were asked for; other queries bring no data
abbrev pub descriptor_told : Numbers → Query → List ℕ
descriptor_told n q = if q.asked.opcode == 1 then take q.length (descriptor n q.asked) else []

-- the value of an attribute: the boot setting, that the device is active, the greatest current, 8 times 512 bytes in a
-- DATA IN and in a READY TO TRANSFER, the frequency of the clock, and that the configuration is locked. Any other is 0
abbrev pub attribute_told : Plain → Volatile → (idn : ℕ) → ℕ
attribute_told p volatile idn =
    if idn == 0x00 then p.boot
    else if idn == 0x02 then 0x11
    else if idn == 0x03 then volatile.current_level
    else if (idn == 0x07) || (idn == 0x08) then 8
    else if idn == 0x0A then volatile.clock
    else if idn == 0x0B then 1
    else 0

-- the value of a flag, 0 or 1: one that can be set, or is of the device. Any other is 0
abbrev pub flag_told : Plain → Volatile → (idn : ℕ) → ℕ
flag_told p volatile idn =
    if idn == 0x01 then flag_byte volatile.initializing
    else if idn == 0x02 then flag_byte p.permanent
    else if idn == 0x03 then flag_byte volatile.power_on
    else if idn == 0x04 then flag_byte volatile.background
    else 0

-- the value that the response tells: the attribute or flag as it is after the query, from the plain state that the
-- query leaves and from what is volatile then
abbrev pub value_told : Plain → Volatile → Query → ℕ
value_told p volatile q =
    if is_among (3 ∷ 4 ∷ []) q.asked.opcode then attribute_told p volatile q.asked.idn
    else if is_among (5 ∷ 6 ∷ 7 ∷ 8 ∷ []) q.asked.opcode then flag_told p volatile q.asked.idn
    else 0

-- fPowerOnWPEn is set, which lasts until the next power cycle and is no command
abbrev pub sets_power_on : Query → Bool
sets_power_on q = (q.asked.opcode == 6) && (q.asked.idn == 0x03)

-- fDeviceInit is set on a device of profile 1; one of profile 0 has nothing to initialize
abbrev pub sets_initializing : Numbers → Query → Bool
sets_initializing n q = nat_lt 0 n.profile && ((q.asked.opcode == 6) && (q.asked.idn == 0x01))

-- an attribute is written
abbrev pub writes_attribute : (idn : ℕ) → Query → Bool
writes_attribute idn q = (q.asked.opcode == 4) && (q.asked.idn == idn)

-- fBackgroundOpsEn after the query: set, cleared, toggled, or as it was
abbrev pub background_after : Bool → Query → Bool
background_after was q =
    if not (q.asked.idn == 0x04) then was
    else if q.asked.opcode == 6 then true
    else if q.asked.opcode == 7 then false
    else if q.asked.opcode == 8 then not was
    else was

-- what is volatile once the query passed. fDeviceInit is 1 from when it is set until the device is mended (JESD220, 14.2)
abbrev pub volatile_after : Numbers → (mended : Bool) → Volatile → Query → Volatile
volatile_after n mended volatile q =
    record volatile {
      power_on = volatile.power_on || sets_power_on q;
      initializing = (volatile.initializing || sets_initializing n q) && not mended;
      current_level = if writes_attribute 0x03 q then q.value else volatile.current_level;
      clock = if writes_attribute 0x0A q then q.value else volatile.clock;
      background = background_after volatile.background q;
    }
