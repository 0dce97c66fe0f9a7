-- Some element passes a test where at least one is counted.
use Rattle.block_table.proofs.Common.{Bool, List, [], ap, arith, count_by, false, list_any, nat_lt, refl, true, ◌∙◌}
use Rattle.block_table.proofs.Common.{◌∷◌, ◌≡◌}
use Rattle.std.proofs.Common.{lt-ltb}
use Rattle.std.specs.Prelude.{cond, ℕ, ◌+◌, ◌||◌}
use Rattle.std.proofs.lemmas.List.Sums.{sum_by-cons}

pub counted_any : {A : Type 0} (p : A → Bool) (xs : List A) → nat_lt 0 (count_by p xs) ≡ list_any p xs
counted_any p [] = refl
counted_any p (x ∷ xs) = ap (nat_lt 0) (sum_by-cons (λ y. cond (p y) 1 0) x xs) ∙ by (p x) (counted_any p xs)
  where
    by : (b : Bool) → nat_lt 0 (count_by p xs) ≡ list_any p xs →
        nat_lt 0 (cond b 1 0 + count_by p xs) ≡ (b || list_any p xs)
    by true h = above (count_by p xs)
      where
        above : (n : ℕ) → nat_lt 0 (1 + n) ≡ true
        above n = lt-ltb 0 (1 + n) (omega arith)
    by false h = ap (nat_lt 0) (from_none (count_by p xs)) ∙ h
      where
        from_none : (n : ℕ) → 0 + n ≡ n
        from_none n = omega arith
