-- The queries that are written, as the definitions have them (JESD220, 10.7.8 and 14).
use Rattle.std.specs.Prelude.{ℕ, List, [], ◌∷◌, if◌then◌else◌}
use Rattle.ufs_spec.specs.Codes.{query_request_code}
use Rattle.ufs_spec.specs.Messages.{header, is_among, query_fields}
use Rattle.ufs_spec.specs.Queries.{Query}
use Rattle.ufs_spec.specs.declared.messages.Asked.{Asked}
use Rattle.ufstool.specs.declared.queries.FlagCall.{FlagCall}
use Rattle.ufstool.specs.declared.queries.FlagCall.TheVariants.{Read, Set, Clear, Toggle}
use Rattle.ufstool.specs.declared.queries.HostQuery.{HostQuery}
use Rattle.ufstool.specs.declared.queries.HostQuery.TheVariants as host
use Rattle.ufstool.specs.declared.queries.Named.{Named}

-- the opcodes READ FLAG, SET FLAG, CLEAR FLAG and TOGGLE FLAG
abbrev pub call_opcode : FlagCall → ℕ
call_opcode Read = 5
call_opcode Set = 6
call_opcode Clear = 7
call_opcode Toggle = 8

-- an opcode with what it is about
abbrev pub asked_for : ℕ → Named → Asked
asked_for opcode named =
    record { opcode = opcode; idn = named.idn; index = named.index; selector = named.selector }

-- opcode, IDN, index and selector of a query: READ DESCRIPTOR (1), READ ATTRIBUTE (3) and WRITE ATTRIBUTE (4), and
-- those of the flags
abbrev pub asked_by : HostQuery → Asked
asked_by (host.ReadDescriptor descriptor length) = asked_for 1 descriptor
asked_by (host.ReadAttribute attribute) = asked_for 3 attribute
asked_by (host.WriteAttribute attribute value) = asked_for 4 attribute
asked_by (host.Flag call flag) = asked_for (call_opcode call) flag

-- standard read (01h) with the opcodes that read, else standard write (81h)
abbrev pub function_of : ℕ → ℕ
function_of opcode = if is_among (1 ∷ 3 ∷ 5 ∷ []) opcode then 0x01 else 0x81

-- how many bytes of a descriptor are asked for
abbrev pub length_in : HostQuery → ℕ
length_in (host.ReadDescriptor descriptor length) = length
length_in query = 0

-- what an attribute is written with
abbrev pub value_in : HostQuery → ℕ
value_in (host.WriteAttribute attribute value) = value
value_in query = 0

-- the query that is asked
abbrev pub query_asked : HostQuery → Query
query_asked query = record {
  function = function_of (asked_by query).opcode;
  asked = asked_by query;
  length = length_in query;
  value = value_in query;
}

-- the 32 bytes of a QUERY REQUEST without data
abbrev pub query_spelled : ℕ → Query → List ℕ
query_spelled tag q =
    header query_request_code 0 0 tag q.function 0 0 0 (query_fields q.asked q.length q.value)
