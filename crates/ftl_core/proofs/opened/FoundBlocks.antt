-- What is kept of the blocks is what was found of each.
use Rattle.ftl_core.proofs.Common.{BlocksKept, Bool, Found, List, Numbers, Some, Spot, [], ap, arith, block_kept, false}
use Rattle.ftl_core.proofs.Common.{if◌then◌else◌, length, list_any, map, nat_lt, nat_tests, refl, same_Some, slice_get}
use Rattle.ftl_core.proofs.Common.{spots, subst, suc, sum_by-cons, sym, true, ℕ, ◌+◌, ◌||◌, ◌∙◌, ◌∷◌, ◌≡◌}
use Rattle.std.specs.Prelude.{count_by}
use Rattle.ufs_spec.specs.Disk as disk
use Rattle.recovery.specs.KeysInOrder.{state_of_found as layer_state}
use Rattle.recovery.specs.Opened.{IsVacancyOf}
use Rattle.recovery.specs.declared.keys.FoundBlock.{FoundBlock}
use Rattle.recovery.specs.declared.keys.FoundBlock.TheVariants as found
use Rattle.ftl_core.specs.Moves.{state_of_found}

-- Some block is bad

pub some_one : {A : Type 0} (test : A → Bool) (xs : List A) → list_any test xs ≡ nat_lt 0 (count_by test xs)
some_one test [] = refl
some_one {A} test (x ∷ xs) = by (test x) (count_by test xs) (some_one test xs)
    ∙ sym (ap (nat_lt 0) (sum_by-cons (λ (y : A). if test y then 1 else 0) x xs))
  where
    by : (b : Bool) (n : ℕ) → list_any test xs ≡ nat_lt 0 n →
        (b || list_any test xs) ≡ nat_lt 0 ((if b then 1 else 0) + n)
    by true n e = some_more n
      where
        some_more : (m : ℕ) → true ≡ nat_lt 0 (1 + m)
        some_more m = grind (arith, nat_tests)
    by false n e = e ∙ ap (nat_lt 0) (omega arith)

pub any_mapped : {A B : Type 0} (test : B → Bool) (g : A → B) (xs : List A) →
    list_any test (map g xs) ≡ list_any (λ (x : A). test (g x)) xs
any_mapped test g [] = refl
any_mapped test g (x ∷ xs) = ap (λ (b : Bool). test (g x) || b) (any_mapped test g xs)

-- Blocks by their order

-- as many are listed, and each stands for its block
all_alike : {A B C : Type 0} (f : A → C) (g : B → C) (xs : List A) (ys : List B) → length ys ≡ length xs →
    ((i : ℕ) (x : A) → slice_get xs i ≡ Some x → (y : B) × (slice_get ys i ≡ Some y) × (f x ≡ g y)) →
    map g ys ≡ map f xs
all_alike f g [] [] long each = refl
all_alike f g [] (y ∷ ys) long each = absurd (omega (arith, long))
all_alike f g (x ∷ xs) [] long each = absurd (omega (arith, long))
all_alike {A} {B} {C} f g (x ∷ xs) (y ∷ ys) long each =
    let r = each 0 x refl in
    let here : g y ≡ f x = ap g (same_Some y r.0 r.1) ∙ sym r.2 in
    let behind = all_alike f g xs ys (omega (arith, long)) (λ i z at. each (suc i) z at) in
    (λ i. here i ∷ behind i)

-- what was found of a block is kept as its state, with what is in it if it is free
state_same : (b : FoundBlock) (x : disk.BlockState) (v : disk.Vacancy) → x ≡ layer_state b → IsVacancyOf b v →
    block_kept x v ≡ state_of_found b
state_same found.Free x v is in_it = (λ i. block_kept (is i) (in_it i))
state_same found.Stale x v is in_it = (λ i. block_kept (is i) (in_it i))
state_same found.Closed x v is in_it = ap (λ (y : disk.BlockState). block_kept y v) is
state_same found.Bad x v is in_it = ap (λ (y : disk.BlockState). block_kept y v) is

pub blocks_found : (n m : Numbers) (f : Found) (blocks : Spot → disk.BlockState) (vacancies : Spot → disk.Vacancy) →
    n ≡ m → length f.blocks.items ≡ length (spots n) →
    ((i : ℕ) (s : Spot) → slice_get (spots n) i ≡ Some s →
    (b : FoundBlock) × (slice_get f.blocks.items i ≡ Some b) × (blocks s ≡ layer_state b)
    × IsVacancyOf b (vacancies s)) →
    BlocksKept m blocks vacancies (map state_of_found f.blocks.items)
blocks_found n m f blocks vacancies same as_many each =
    subst (λ (x : Numbers). BlocksKept x blocks vacancies (map state_of_found f.blocks.items)) same
    (all_alike (λ (s : Spot). block_kept (blocks s) (vacancies s)) state_of_found (spots n) f.blocks.items as_many
    (λ i s at. let r = each i s at in (r.0, r.1, state_same r.0 (blocks s) (vacancies s) r.2 r.3)))
