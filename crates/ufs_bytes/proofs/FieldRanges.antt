-- A number that is read from bytes is below the bound of its width.
use Rattle.std.proofs.Common.{◌+◌, ◌<◌, ◌^◌, ℕ, List, drop, slice_index}
use Rattle.std.proofs.lemmas.List.{get_or-drop}
use Rattle.byteorder.specs.Numbers.{big_from-lt}
use Rattle.ufs_bytes.specs.Fields.{field_at}

pub field_fits : (n offset : ℕ) (bytes : List ℕ) → ((place : ℕ) → slice_index bytes place < 256) →
    field_at n offset bytes < 256 ^ n
field_fits n offset bytes h =
    big_from-lt 0 n (drop offset bytes) (λ place. rw (get_or-drop offset bytes place 0) (h (offset + place)))
