use Rattle.std.proofs.Common.{◌≡◌, ◌+◌, ◌*◌, ◌∷◌, length, take}
use Rattle.arrayvec.specs.ArrayVec.{array_vec_len}
use Rattle.ufs_spec.specs.Descriptors.{wide}
use Rattle.descriptors.proofs.descriptors.string_of.Given as goal

-- the characters so far are there
abbrev pub invariant-loop-character : goal.invariant-loop-character
invariant-loop-character l = record {
  bytes : l.told.items ≡ (2 + 2 * length l.characters) ∷ 0x05 ∷ wide (take l.character-index l.characters);
  length : array_vec_len l.told ≡ 2 + 2 * l.character-index;
}
