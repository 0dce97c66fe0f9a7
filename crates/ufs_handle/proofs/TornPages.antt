-- A torn page fails its check.
use Rattle.std.proofs.Common.{◌≡◌, ◌≢◌, ◌≤◌, ◌<◌, ◌∙◌, ◌++◌, ◌+◌, ◌-◌, ◌==◌, ℕ, Bool, true, false, List, ap, arith, drop, length, refl, sym, take}
use Rattle.std.specs.Prelude.{◌%◌, if◌then◌else◌, slice_index}
use Rattle.std.proofs.lemmas.Bool.{true≢false}
use Rattle.std.proofs.lemmas.List.{get_or-set_same, length-take-le}
use Rattle.std.proofs.Math.Seq.{drop-append_seam, take-append_seam}
use Rattle.sha2.proofs.Facts256.{length-sha256}
use Rattle.ufs_spec.specs.Pages.{IsCheckRight, check_of}
use Rattle.ufs_spec.specs.declared.flash.Page.{Page}
use Rattle.ufs_handle.specs.Left.{bit_turned, first_turned, torn_page}

-- a byte with a bit turned is another one
turned_differs : (b : ℕ) → bit_turned b ≢ b
turned_differs b = by (b % 2 == 0) refl
  where
    by : (even : Bool) → (b % 2 == 0) ≡ even → (if even then b + 1 else b - 1) ≡ b → ⊥
    by true is same = omega (arith, same)
    by false is same =
        let none : b ≡ 0 = omega (arith, same) in
        true≢false (ap (λ (n : ℕ). 0 % 2 == 0) none ∙ ap (λ (n : ℕ). n % 2 == 0) (sym none) ∙ is)

first_differs : (bytes : List ℕ) → 0 < length bytes → first_turned bytes ≢ bytes
first_differs bytes some same =
    turned_differs (slice_index bytes 0)
    (sym (get_or-set_same bytes 0 (bit_turned (slice_index bytes 0)) 0 some)
    ∙ ap (λ (xs : List ℕ). slice_index xs 0) same)

-- where its first 64 spare bytes are there, whatever they say
pub torn_fails : (page : Page) → 64 ≤ length page.spare → IsCheckRight (torn_page page) → ⊥
torn_fails page long right =
    let front = take 64 page.spare in
    let check = check_of page.body front in
    let wide : length front ≡ 64 = length-take-le 64 page.spare long in
    let rest : drop 64 (front ++ first_turned check) ≡ first_turned check =
    ap (λ (n : ℕ). drop n (front ++ first_turned check)) (sym wide) ∙ drop-append_seam front (first_turned check) in
    let first : take 64 (front ++ first_turned check) ≡ front =
    ap (λ (n : ℕ). take n (front ++ first_turned check)) (sym wide) ∙ take-append_seam front (first_turned check) in
    let long_check : length check ≡ 32 = length-sha256 (page.body ++ front) in
    first_differs check (omega (arith, long_check)) (sym rest ∙ right ∙ ap (check_of page.body) first)
