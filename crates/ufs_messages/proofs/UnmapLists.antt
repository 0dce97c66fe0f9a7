-- The list of an UNMAP as the device reads it.
use Rattle.std.proofs.Common.{◌<◌, ◌^◌, ℕ, ◌++◌, refl, replicate}
use Rattle.byteorder.specs.Endian.{big_bytes}
use Rattle.byteorder.specs.Numbers.{big_number-reads_back}
use Rattle.ufs_messages.specs.Commands.{IsListOf, list_bytes}

pub reads : (address count : ℕ) → address < 2 ^ 64 → count < 2 ^ 32 → IsListOf address count (list_bytes address count)
reads address count fits few = record {
  long = refl;
  header = refl;
  address_is = big_number-reads_back 8 address (big_bytes 4 count ++ replicate 4 0) fits;
  count_is = big_number-reads_back 4 count (replicate 4 0) few;
  rest = refl;
}
