-- One die of a list does a job: what it holds, and the counts of failures.
use Rattle.recovery.proofs.Common.{DieState, Fit, IsOfSize, LiesOnDie, List, NoLower, Numbers, OpenFault, Place, [], ap}
use Rattle.recovery.proofs.Common.{arith, get_or, length, map, new_die, place_at, refl, slice_index_or, slice_set}
use Rattle.recovery.proofs.Common.{subst, suc, sym, zero, ℕ, ◌+◌, ◌<◌, ◌∙◌, ◌∷◌, ◌≡◌, ◌≤◌}
use Rattle.std.proofs.lemmas.List.Elements.{All-get_or}
use Rattle.ufs_spec.specs.DieLaws.{pages_in}
use Rattle.ufs_spec.specs.declared.faults.OpenFault.TheVariants as fault
use Rattle.recovery.specs.Reading.{IsBlockFault, IsDieFault, IsFaultOf, IsPageFault, IsReadingFault}

-- what is told of the one stays, and so does what is told of each
pub map_stays : {A B : Type 0} (f : A → B) (xs : List A) (i : ℕ) (d y : A) → f y ≡ f (get_or xs i d)
    → map f (slice_set xs i y) ≡ map f xs
map_stays f [] i d y same = refl
map_stays f (z ∷ zs) zero d y same = ap (λ b. b ∷ map f zs) same
map_stays f (z ∷ zs) (suc i) d y same = ap (λ bs. f z ∷ bs) (map_stays f zs i d y same)

module _ {A : Type 0} (f : A → ℕ) where
  -- a count that is no lower
  pub counts_stay : (xs : List A) (i : ℕ) (d y : A) → f (get_or xs i d) ≤ f y
      → NoLower (map f xs) (map f (slice_set xs i y))
  counts_stay [] i d y up die = omega arith
  counts_stay (z ∷ zs) zero d y up zero = up
  counts_stay (z ∷ zs) zero d y up (suc die) = omega arith
  counts_stay (z ∷ zs) (suc i) d y up zero = omega arith
  counts_stay (z ∷ zs) (suc i) d y up (suc die) = counts_stay zs i d y up die

  -- one that rose
  pub count_rose : (xs : List A) (i : ℕ) (d y : A) → i < length xs → f (get_or xs i d) < f y
      → get_or (map f xs) i 0 < get_or (map f (slice_set xs i y)) i 0
  count_rose [] i d y inside up = absurd (omega (arith, inside))
  count_rose (z ∷ zs) zero d y inside up = up
  count_rose (z ∷ zs) (suc i) d y inside up = count_rose zs i d y (omega (arith, inside)) up

pub no_lower : (counts : List ℕ) → NoLower counts counts
no_lower counts die = omega arith

pub no_lower_after : (a b d : List ℕ) → NoLower a b → NoLower b d → NoLower a d
no_lower_after a b d h k die = omega (arith, h die, k die)

-- a fault of what came later is one of all
pub fault_later : (a b d : List ℕ) (e : OpenFault) → NoLower a b → IsReadingFault b d e → IsReadingFault a d e
fault_later a b d fault.NoMemory h k = tt
fault_later a b d (fault.ReadFault p) h k = omega (arith, h p.die, k)
fault_later a b d fault.OtherConfig h k = k

pub die_fault_later : (number a b d : ℕ) (e : OpenFault) → a ≤ b → IsDieFault number b d e → IsDieFault number a d e
die_fault_later number a b d fault.NoMemory h k = tt
die_fault_later number a b d (fault.ReadFault p) h k = (k.0, omega (arith, h, k.1))
die_fault_later number a b d fault.OtherConfig h k = k

pub block_fault_later : (die block a b d : ℕ) (e : OpenFault) → a ≤ b → IsBlockFault die block b d e
    → IsBlockFault die block a d e
block_fault_later die block a b d fault.NoMemory h k = tt
block_fault_later die block a b d (fault.ReadFault p) h k = (k.0, k.1, omega (arith, h, k.2))
block_fault_later die block a b d fault.OtherConfig h k = k

-- a fault of one of its pages is one of the block, and that is one of its die
pub fault_of_page : (die block page a b : ℕ) (e : OpenFault) → IsPageFault (place_at die block page) a b e
    → IsBlockFault die block a b e
fault_of_page die block page a b e h = subst (IsBlockFault die block a b) (sym h.0) (refl, refl, h.1)

pub fault_of_block : (die block a b : ℕ) (e : OpenFault) → IsBlockFault die block a b e → IsDieFault die a b e
fault_of_block die block a b fault.NoMemory h = tt
fault_of_block die block a b (fault.ReadFault p) h = (h.0, h.2)
fault_of_block die block a b fault.OtherConfig h = h

-- so is one of a page of one of the dies
pub fault_of_place : (p : Place) (a b : List ℕ) (e : OpenFault)
    → IsPageFault p (slice_index_or a p.die 0) (slice_index_or b p.die 0) e → IsReadingFault a b e
fault_of_place p a b e h = subst (IsReadingFault a b) (sym h.0) h.1

pub fault_of_later : (first : ℕ) (a b d : List ℕ) (e : OpenFault) → NoLower a b → IsFaultOf first b d e
    → IsFaultOf first a d e
fault_of_later first a b d fault.NoMemory h k = tt
fault_of_later first a b d (fault.ReadFault p) h k = (k.0, k.1, omega (arith, h k.0, k.2))
fault_of_later first a b d fault.OtherConfig h k = k

-- a fault of one of the dies
pub fault_of_one : {A : Type 0} (f : A → ℕ) (xs : List A) (first i number : ℕ) (d y : A) (e : OpenFault)
    → number ≡ first + i → i < length xs → IsDieFault number (f (get_or xs i d)) (f y) e
    → IsFaultOf first (map f xs) (map f (slice_set xs i y)) e
fault_of_one f xs first i number d y fault.NoMemory is inside k = tt
fault_of_one f xs first i number d y (fault.ReadFault p) is inside k =
    (i, k.0 ∙ is, count_rose f xs i d y inside k.1)
fault_of_one f xs first i number d y fault.OtherConfig is inside k = k

-- each page of the sizes lies on its die
pub lies_there : (n : Numbers) (state : DieState) (b g : ℕ) → IsOfSize n.blocks n.pages state → b < n.blocks
    → g < n.pages → LiesOnDie state b g
lies_there n state b g size block page =
    let pages = pages_in state b n.blocks n.pages block size in
    (omega (arith, size.0, block), omega (arith, pages, page))

pub lies : (n : Numbers) (dies : List DieState) (d b g : ℕ) → Fit n dies → d < n.dies → b < n.blocks → g < n.pages
    → LiesOnDie (slice_index_or dies d (new_die 0 0)) b g
lies n dies d b g fit die block page =
    let inside : d < length dies = omega (arith, fit.0, die) in
    lies_there n (slice_index_or dies d (new_die 0 0)) b g
    (All-get_or (IsOfSize n.blocks n.pages) dies d (new_die 0 0) inside fit.1) block page
