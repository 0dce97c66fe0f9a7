use Rattle.std.proofs.Common.{List, ap, length, ℕ, ◌++◌, ◌∙◌}
use Rattle.byteorder.specs.Endian.{big_bytes}
use Rattle.lun_route.proofs.operations.all_commands.Goals as goal

pub returns : goal.returns
returns c =
    c.counted.ensures ∙ ap (λ (bytes : List ℕ). big_bytes 4 (length bytes) ++ bytes) c.entries_of-entries.ensures
