-- A block of a WRITE comes, on the device and in the journal; the last one decides.
use Rattle.heard_laws.proofs.Common.{ArrayVec, Bool, DataOut, List, None, Some, Write, WriteBegun, [], ap, arith}
use Rattle.heard_laws.proofs.Common.{blocks_in, cond-true, drop, false, if◌then◌else◌, length, length-append, nat_lt}
use Rattle.heard_laws.proofs.Common.{padding, refl, spelling, suc, sym, take, true, zero, ℕ, ◌*◌, ◌++◌, ◌<◌, ◌∙◌, ◌∷◌}
use Rattle.heard_laws.proofs.Common.{◌≡◌}
use Rattle.std.proofs.Common.{nat_le}
use Rattle.std.proofs.lemmas.Bool.{le-leb}
use Rattle.std.proofs.lemmas.List.{drop-append-le, length-drop, take-append-le, take_all}
use Rattle.ufs_spec.proofs.Facts.{leb-true, ltb-false, ltb-true}
use Rattle.journal.specs.Heard.{block_of}
use Rattle.journal.specs.Writes.{is_whole, with_block, write_of}
use Rattle.heard_laws.proofs.agreement.Agreement.{SameWrite}
use Rattle.heard_laws.proofs.messages.HeardMessages.{data_of}

-- ## The block of a message

pub block_is : (lun tag offset : ℕ) («data» : ArrayVec ℕ) → length «data».items ≡ 4096 →
    block_of (spelling (DataOut lun tag offset «data»)) ≡ Some «data».items
block_is lun tag offset «data» whole =
    let m : List ℕ = spelling (DataOut lun tag offset «data») in
    let none : padding (length «data».items) ≡ 0 = ap padding whole in
    let rest = data_of lun tag offset «data» none in
    let split = length-drop 32 m in
    let same = ap length rest in
    cond-true (nat_le 4128 (length m)) (Some (take 4096 (drop 32 m))) None
    (le-leb 4128 (length m) (omega (arith, split, same, whole)))
    ∙ ap (λ (xs : List ℕ). Some (take 4096 xs)) rest
    ∙ ap Some (take_all 4096 «data».items (omega (arith, whole)))

-- ## The blocks of all data

-- one block more
pub blocks_more : (k : ℕ) (gathered more : List ℕ) → length gathered ≡ 4096 * k → length more ≡ 4096 →
    blocks_in (suc k) (gathered ++ more) ≡ blocks_in k gathered ++ more ∷ []
blocks_more zero [] more e whole = ap (λ (xs : List ℕ). xs ∷ []) (take_all 4096 more (omega (arith, whole)))
blocks_more zero (x ∷ xs) more e whole = absurd (omega (arith, e))
blocks_more (suc k) gathered more e whole =
    let front = take-append-le 4096 gathered more (omega (arith, e)) in
    let rest = drop-append-le 4096 gathered more (omega (arith, e)) in
    let long = length-drop 4096 gathered in
    ap (λ (xs : List ℕ). xs ∷ blocks_in (suc k) (drop 4096 (gathered ++ more))) front
    ∙ ap (λ (bs : List (List ℕ)). take 4096 gathered ∷ bs)
    (ap (blocks_in (suc k)) rest ∙ blocks_more k (drop 4096 gathered) more (omega (arith, e, long)) whole)

pub write_more : {unit address blocks : ℕ} {forced : Bool} {gathered : List ℕ} {w : WriteBegun} (more : List ℕ) →
    length more ≡ 4096 → SameWrite unit address blocks forced gathered w →
    SameWrite unit address blocks forced (gathered ++ more) (with_block w more)
write_more {unit} {address} {blocks} {forced} {gathered} {w} more whole s =
    let one : length (w.blocks ++ more ∷ []) ≡ suc (length w.blocks) =
    (let l = length-append w.blocks (more ∷ []) in omega (arith, l)) in
    record {
      unit_is = s.unit_is;
      address_is = s.address_is;
      count_is = s.count_is;
      forced_is = s.forced_is;
      came = ap (λ (bs : List (List ℕ)). bs ++ more ∷ []) s.came
          ∙ (sym (blocks_more (length w.blocks) gathered more s.long whole)
          ∙ ap (λ (n : ℕ). blocks_in n (gathered ++ more)) (sym one));
      long = let l = length-append gathered more in let k = s.long in omega (arith, l, k, one, whole);
    }

-- it is whole just where all data came
pub whole_told : {unit address blocks total : ℕ} {forced : Bool} {gathered : List ℕ} {w : WriteBegun} →
    total ≡ 4096 * blocks → SameWrite unit address blocks forced gathered w → (b : Bool) →
    nat_lt (length gathered) total ≡ b → is_whole w ≡ (if b then false else true)
whole_told {unit} {address} {blocks} {total} {forced} {gathered} {w} size s true e =
    let l = ltb-true (length gathered) total e in
    let k = s.long in
    let c = s.count_is in
    below (omega (arith, l, k, c, size))
  where
    below : length w.blocks < w.count → nat_le w.count (length w.blocks) ≡ false
    below l = by (nat_le w.count (length w.blocks)) refl
      where
        by : (b : Bool) → nat_le w.count (length w.blocks) ≡ b → b ≡ false
        by true e = let k = leb-true w.count (length w.blocks) e in absurd (omega (arith, l, k))
        by false e = refl
whole_told {unit} {address} {blocks} {total} {forced} {gathered} {w} size s false e =
    let l = ltb-false (length gathered) total e in
    let k = s.long in
    let c = s.count_is in
    le-leb w.count (length w.blocks) (omega (arith, l, k, c, size))

-- the command of a whole WRITE
pub command_is : {unit address blocks : ℕ} {forced : Bool} {gathered : List ℕ} {w : WriteBegun} →
    length gathered ≡ 4096 * blocks → SameWrite unit address blocks forced gathered w →
    write_of w ≡ Write unit address (blocks_in blocks gathered)
command_is {unit} {address} {blocks} {forced} {gathered} {w} all s =
    let same : length w.blocks ≡ blocks = (let k = s.long in omega (arith, k, all)) in
    let came : w.blocks ≡ blocks_in blocks gathered = s.came ∙ ap (λ (n : ℕ). blocks_in n gathered) same in
    λ i. Write (s.unit_is i) (s.address_is i) (came i)
