-- A command changes the region of a plain state as it changes the state, and the words of laws about MACs.
use Rattle.ufs_laws.proofs.Common.{AreBytes, Command, List, Plain, Region, RpmbWrite, SetKey, Some, [], ap, apply}
use Rattle.ufs_laws.proofs.Common.{changed_by, cond-false, cond-true, drop, empty_region, get_or-set_same, length, map}
use Rattle.ufs_laws.proofs.Common.{nat_lt, none-some, refl, region_of, replicate, same_Some, sym, true, with_region, ℕ}
use Rattle.ufs_laws.proofs.Common.{◌++◌, ◌-◌, ◌<◌, ◌∙◌, ◌∷◌, ◌≡◌}
use Rattle.std.proofs.Common.{bit_xor}
use Rattle.std.proofs.lemmas.List.{get_or-set_other}
use Rattle.sha2.proofs.Facts256.{length-sha256}
use Rattle.sha2.specs.Sha256.{sha256}
use Rattle.ufs_spec.specs.Frames.{frame_in}
use Rattle.ufs_spec.specs.Rpmb.{frames_mac, mac, short_key}
use Rattle.ufs_laws.specs.RpmbWrites.{region_named}
use Rattle.ufs_laws.proofs.rpmb_frames.FramesRead.{covered}

set_there : (p : Plain) (number named : ℕ) (new : ℕ → Region) → number < length p.regions → Some named ≡ Some number →
    region_of (with_region named (new named) p) number ≡ new number
set_there p number named new there e =
    let same = same_Some named number e in
    ap (λ (n : ℕ). region_of (with_region n (new n) p) number) same
    ∙ get_or-set_same p.regions number (new number) empty_region there

pub named_changed : (p : Plain) (c : Command) (number : ℕ) → number < length p.regions → region_named c ≡ Some number →
    region_of (apply p c) number ≡ changed_by (region_of p number) c
named_changed p (SetKey named bytes) number there e =
    set_there p number named (λ (n : ℕ). changed_by (region_of p n) (SetKey named bytes)) there e
named_changed p (RpmbWrite named address bytes) number there e =
    set_there p number named (λ (n : ℕ). changed_by (region_of p n) (RpmbWrite named address bytes)) there e
named_changed p c number there e = absurd (none-some number e)

others_set : (p : Plain) (number named : ℕ) (new : Region) → (Some named ≡ Some number → ⊥) →
    region_of (with_region named new p) number ≡ region_of p number
others_set p number named new other =
    get_or-set_other p.regions named number new empty_region (λ e. other (ap Some (sym e)))

pub others_stay : (p : Plain) (c : Command) (number : ℕ) → (region_named c ≡ Some number → ⊥) →
    region_of (apply p c) number ≡ region_of p number
others_stay p (SetKey named bytes) number other =
    others_set p number named (changed_by (region_of p named) (SetKey named bytes)) other
others_stay p (RpmbWrite named address bytes) number other =
    others_set p number named (changed_by (region_of p named) (RpmbWrite named address bytes)) other
others_stay p c number other = refl

-- the key that stands for a long one is short itself
hashed : (key : List ℕ) → nat_lt 64 (length key) ≡ true → short_key key ≡ short_key (sha256 key)
hashed key long =
    cond-true (nat_lt 64 (length key)) (sha256 key) key long
    ∙ sym (cond-false (nat_lt 64 (length (sha256 key))) (sha256 (sha256 key)) (sha256 key)
    (ap (nat_lt 64) (length-sha256 key)))

-- a MAC reads no more of a key than what stands for it
mac_of : List ℕ → List ℕ → List ℕ
mac_of short m =
    sha256 (map (λ (b : ℕ). bit_xor b 0x5C) (short ++ replicate (64 - length short) 0)
    ++ sha256 (map (λ (b : ℕ). bit_xor b 0x36) (short ++ replicate (64 - length short) 0) ++ m))

pub long_key : (key m : List ℕ) → nat_lt 64 (length key) ≡ true → mac key m ≡ mac (sha256 key) m
unfolding mac_of
long_key key m long = ap (λ (k : List ℕ). mac_of k m) (hashed key long)

-- the MAC of two frames is over the last 284 bytes of each
pub two_covered : (key a b : List ℕ) → length a ≡ 512 → AreBytes a → length b ≡ 512 → AreBytes b →
    frames_mac key (frame_in a ∷ frame_in b ∷ []) ≡ mac key (drop 228 a ++ (drop 228 b ++ []))
two_covered key a b long are long_too are_too =
    let first = covered a long are in
    let second = covered b long_too are_too in
    λ i. mac key (first i ++ (second i ++ []))
