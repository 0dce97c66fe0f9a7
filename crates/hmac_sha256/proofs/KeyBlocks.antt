-- How a key becomes the block of bytes that a hash begins with.
use Rattle.std.proofs.Common.{◌≡◌, ◌≤◌, ◌<◌, ◌++◌, ◌+◌, ℕ, List, ap, arith, drop, get_or, length, map}
use Rattle.std.proofs.Common.{length-append, length-drop, length-take, refl, replicate, set, take, bit_xor}
use Rattle.std.proofs.lemmas.Bool.{le-ltb}
use Rattle.std.proofs.lemmas.List.{drop-replicate, get_or_default, length-map}
use Rattle.std.proofs.lemmas.List.Edits.{map_over_more}
use Rattle.ufs_spec.specs.Rpmb.{padded_key}

-- a key of at most 64 bytes, written over the first ones of 64 zeros
pub short_filled : (key written : List ℕ) → length key ≤ 64 → written ≡ key
    → written ++ drop (length key) (replicate 64 0) ≡ padded_key key
short_filled key written short same =
    rw (same, le-ltb 64 (length key) short, drop-replicate {X = ℕ} (length key) 64 0) refl

-- one more byte of a block is xor the pad
pub xored_more : (pad : ℕ) (block xored : List ℕ) (i : ℕ) → i < length block
    → xored ≡ map (λ b. bit_xor b pad) (take i block) ++ drop i block
    → set xored i (bit_xor (get_or xored i 0) pad)
    ≡ map (λ b. bit_xor b pad) (take (i + 1) block) ++ drop (i + 1) block
xored_more pad block xored i inside before =
    let within : i < length xored = omega (
      arith,
      ap length before,
      length-append (map (λ b. bit_xor b pad) (take i block)) (drop i block),
      length-map (take i block) (λ b. bit_xor b pad),
      length-take i block,
      length-drop i block,
    ) in
    map_over_more (λ b. bit_xor b pad) block xored i (get_or xored i 0) inside before
    (get_or_default xored i 0 (get_or xored i 0) within)
