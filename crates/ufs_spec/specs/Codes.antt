-- The transaction codes of the twelve kinds of messages: bits 5..0 of byte 0 (JESD220, 10.5).
use Rattle.std.specs.Prelude.{ℕ}

-- what a host sends

-- asks whether the device answers at all
abbrev pub nop_out_code : ℕ
nop_out_code = 0x00

-- carries a CDB
abbrev pub command_code : ℕ
command_code = 0x01

-- carries data to the device
abbrev pub data_out_code : ℕ
data_out_code = 0x02

-- asks for a task management function
abbrev pub task_request_code : ℕ
task_request_code = 0x04

-- asks for a descriptor, an attribute or a flag
abbrev pub query_request_code : ℕ
query_request_code = 0x16

-- what stands between a host and the device sends

-- tells of a reset (this profile; JESD220 has no message of this code)
abbrev pub link_event_code : ℕ
link_event_code = 0x1F

-- what a device sends

-- answers a NOP OUT
abbrev pub nop_in_code : ℕ
nop_in_code = 0x20

-- ends a command with its status
abbrev pub response_code : ℕ
response_code = 0x21

-- carries data to the host
abbrev pub data_in_code : ℕ
data_in_code = 0x22

-- answers a task management request
abbrev pub task_response_code : ℕ
task_response_code = 0x24

-- says which data the host may send now
abbrev pub ready_to_transfer_code : ℕ
ready_to_transfer_code = 0x31

-- answers a query
abbrev pub query_response_code : ℕ
query_response_code = 0x36
