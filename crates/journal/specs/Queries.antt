-- The settings that queries ask for (JESD220, 10.7.8, 14.2 and 14.3).
use Rattle.std.specs.Prelude.{Bool, List, None, Option, Some, if◌then◌else◌, nat_lt, not, slice_index, ℕ, ◌&&◌, ◌==◌, ◌||◌}
use Rattle.ufs_bytes.specs.Fields.{field_at}
use Rattle.ufs_spec.specs.Queries.{Query, sets_permanent}
use Rattle.journal.specs.declared.entries.Setting.{Setting}
use Rattle.journal.specs.declared.entries.Setting.TheVariants as setting

-- the query of a QUERY REQUEST: its function; opcode, IDN, index and selector; its length and its value
abbrev pub query_in : List ℕ → Query
query_in message =
    record {
      function = slice_index message 5;
      asked =
          record {
            opcode = slice_index message 12;
            idn = slice_index message 13;
            index = slice_index message 14;
            selector = slice_index message 15;
          };
      length = field_at 2 18 message;
      value = field_at 4 20 message;
    }

-- what no setting has: the function of a read, an index, a selector or a length
abbrev pub is_no_setting : Query → Bool
is_no_setting q =
    (q.function == 0x01) || not (q.asked.index == 0) || not (q.asked.selector == 0) || not (q.length == 0)

-- bBootLunEn becomes this value, if it is at most 2
abbrev pub boot_setting : ℕ → Option Setting
boot_setting value = if nat_lt 2 value then None else Some (setting.Boot value)

-- the setting that a query asks for, if it is one that a device accepts which can accept one: writing bBootLunEn, or
-- setting fPermanentWPEn. It is refused by no line of the table of queries but, if fPermanentWPEn is set already, by
-- that for it, and then it would change nothing
abbrev pub asked_setting : Query → Option Setting
asked_setting q =
    if is_no_setting q then None
    else if (q.asked.opcode == 4) && (q.asked.idn == 0x00) then boot_setting q.value
    else if sets_permanent q then Some setting.Permanent
    else None
