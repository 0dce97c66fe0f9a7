-- What each host writes, and where; and what it aborts.
use Rattle.std.specs.Prelude.{ℕ, ◌+◌, ◌*◌, ◌%◌, ◌==◌, if◌then◌else◌, List, ◌++◌, replicate}
use Rattle.stress.specs.declared.aborted.Aborted.{Aborted}
use Rattle.stress.specs.declared.aborted.Aborted.TheVariants.{Nothing, ReadAtOnce, ReadBehindData, WriteAtOnce, WriteBehindData}

-- each host has 32 addresses of its own, and takes them in turn
abbrev pub address_of : ℕ → ℕ → ℕ
address_of host write = host * 32 + write % 32

-- half a block of bytes with the host's number, and half a block of bytes with the number of the write
unfoldable pub content_of : ℕ → ℕ → List ℕ
content_of host write = replicate 2048 host ++ replicate 2048 write

-- what is aborted beside a write: each kind in turn, beside each second write
abbrev pub aborted_beside : ℕ → Aborted
aborted_beside write =
    if write % 8 == 1 then WriteAtOnce
    else if write % 8 == 3 then WriteBehindData
    else if write % 8 == 5 then ReadAtOnce
    else if write % 8 == 7 then ReadBehindData
    else Nothing
