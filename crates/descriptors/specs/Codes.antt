-- The bytes of response codes (JESD220, 10.7.9).
use Rattle.std.specs.Prelude.{ℕ, Option, Some, None}
use Rattle.descriptors.specs.declared.responses.ResponseCode.{ResponseCode}
use Rattle.descriptors.specs.declared.responses.ResponseCode.TheVariants as response

-- the byte of a response code
abbrev pub response_byte : ResponseCode → ℕ
response_byte response.Success = 0x00
response_byte response.NotReadable = 0xF6
response_byte response.NotWriteable = 0xF7
response_byte response.AlreadyWritten = 0xF8
response_byte response.InvalidLength = 0xF9
response_byte response.InvalidValue = 0xFA
response_byte response.InvalidSelector = 0xFB
response_byte response.InvalidIndex = 0xFC
response_byte response.InvalidIdn = 0xFD
response_byte response.InvalidOpcode = 0xFE
response_byte response.GeneralFailure = 0xFF

-- the byte of what a line says; 00h, success, if no line applies
abbrev pub code_or_success : Option ResponseCode → ℕ
code_or_success None = 0x00
code_or_success (Some code) = response_byte code
