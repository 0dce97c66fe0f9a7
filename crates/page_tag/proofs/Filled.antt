-- A row of bytes that is filled from its start on, with zeros behind.
use Rattle.std.proofs.Common.{◌≡◌, ◌∙◌, ◌+◌, ◌-◌, ◌*◌, ◌<◌, arith, ℕ, List, [], ◌++◌, Option, Some, None, refl, sym, ap}
use Rattle.std.proofs.Common.{drop, get_or, length, length-append, length-take, append_assoc, replicate, take}
use Rattle.std.specs.List.{flat_map}
use Rattle.std.proofs.lemmas.List.{append-nil, drop-replicate, drop_at, flat_map_more, take_at, take_more}
use Rattle.ufs_spec.specs.Pages.{fence_bytes, numbers_bytes, unit_bytes, zero_filled}
use Rattle.ufs_spec.specs.declared.configs.Numbers.{Numbers}
use Rattle.ufs_spec.specs.declared.configs.UnitSpec.{UnitSpec}
use Rattle.ufs_spec.specs.declared.flash.Fence.{Fence}
use borrow.Rule.Slice.PartMut.{put_mid}
use Rattle.ufs_spec.proofs.SealedPages.{units_length}

-- zeros with bytes written over their first ones
pub zero_filled-first : (n k : ℕ) (bytes part : List ℕ) → length bytes ≡ k → part ≡ bytes
    → part ++ drop k (replicate n 0) ≡ zero_filled n (bytes ++ [])
unfolding zero_filled
zero_filled-first n k bytes part long same =
    rw (same, append-nil bytes, drop-replicate {X = ℕ} k n 0, long) refl

-- filled bytes with more written right behind them
zero_filled-more : (n at k : ℕ) (bytes more : List ℕ) → length bytes ≡ at → length more ≡ k
    → put_mid at k (zero_filled n bytes) more ≡ zero_filled n (bytes ++ more)
unfolding zero_filled
zero_filled-more n at k bytes more long next =
    let zeros : List ℕ = replicate (n - length bytes) 0 in
    let before : take at (bytes ++ zeros) ≡ bytes = take_at bytes zeros at long in
    let after : drop at (bytes ++ zeros) ≡ zeros = drop_at bytes zeros at long in
    let fewer : drop k zeros ≡ replicate (n - length bytes - k) 0 = drop-replicate {X = ℕ} k (n - length bytes) 0 in
    let count : n - length bytes - k ≡ n - length (bytes ++ more) = omega (arith, length-append bytes more) in
    rw (before, after, fewer, count, append_assoc) refl

-- the bytes before the entries of a mark are 32
pub length-head : (n : Numbers) (fence : Option Fence) → length (fence_bytes fence ++ numbers_bytes n) ≡ 32
length-head n None = refl
length-head n (Some fence) = refl

-- the entry of the unit at i, written behind those before it
pub entry_written : (head : List ℕ) (units : List UnitSpec) (i k : ℕ) (other : UnitSpec) (body entry : List ℕ)
    → length head ≡ 32 → i < length units → k ≡ 8
    → body ≡ zero_filled 4096 (head ++ flat_map unit_bytes (take i units))
    → entry ≡ unit_bytes (get_or units i other)
    → put_mid (32 + 8 * i) k body entry ≡ zero_filled 4096 (head ++ flat_map unit_bytes (take (i + 1) units))
entry_written head units i k other body entry long inside eight filled same =
    let front : List ℕ = head ++ flat_map unit_bytes (take i units) in
    let count : length (take i units) ≡ i = omega (arith, length-take {A = UnitSpec}) in
    let at : length front ≡ 32 + 8 * i =
    omega (arith, length-append head (flat_map unit_bytes (take i units)), units_length (take i units)) in
    let next : length entry ≡ k = ap length same ∙ sym eight in
    ap (λ (b : List ℕ). put_mid (32 + 8 * i) k b entry) filled
    ∙ zero_filled-more 4096 (32 + 8 * i) k front entry at next
    ∙ ap (λ (e : List ℕ). zero_filled 4096 (front ++ e)) same
    ∙ ap (zero_filled 4096) (flat_map_more unit_bytes head (take i units) (get_or units i other))
    ∙ ap (λ (us : List UnitSpec). zero_filled 4096 (head ++ flat_map unit_bytes us))
    (sym (take_more units i other inside))
