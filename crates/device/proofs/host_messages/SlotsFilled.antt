-- What lies in the slots of a WRITE while its blocks come, and once all of them came.
use Rattle.device.proofs.Common.{List, [], ap, arith, blocks_gathered, cond, drop, le-ltb, length, length-append}
use Rattle.device.proofs.Common.{length-drop, refl, slice_set, suc, sym, take-append-le, take_all, zero, ℕ, ◌*◌, ◌++◌}
use Rattle.device.proofs.Common.{◌<◌, ◌∙◌, ◌∷◌, ◌≡◌}
use Rattle.std.proofs.Common.{take}
use Rattle.std.proofs.lemmas.List.{drop-append-le, drop_all}
use Rattle.ufs_spec.specs.Machine.{blocks_in}
use Rattle.ufs_spec.specs.Plain.{zero_block}
use Rattle.device.specs.Describes.{block_or_zeros}

-- One block comes

whole_block : (bytes : List ℕ) → length bytes ≡ 4096 → block_or_zeros bytes ≡ bytes
whole_block bytes long =
    ap (λ b. cond b zero_block (take 4096 bytes)) (le-ltb (length bytes) 4096 (omega arith))
    ∙ take_all 4096 bytes (omega arith)

-- the first block, where more bytes come
first_stays : (bytes more : List ℕ) (n : ℕ) → length bytes ≡ 4096 * suc n →
    block_or_zeros (bytes ++ more) ≡ block_or_zeros bytes
first_stays bytes more n long =
    let joined = length-append bytes more in
    ap (λ b. cond b zero_block (take 4096 (bytes ++ more))) (le-ltb (length (bytes ++ more)) 4096 (omega arith))
    ∙ (take-append-le 4096 bytes more (omega arith)
    ∙ sym (ap (λ b. cond b zero_block (take 4096 bytes)) (le-ltb (length bytes) 4096 (omega arith))))

no_bytes : (bytes : List ℕ) → length bytes ≡ 4096 * 0 → bytes ≡ []
no_bytes [] h = refl
no_bytes (x ∷ xs) h = absurd (omega arith)

-- the next block of a WRITE comes: it lies in the slot of its index
pub next_filled : (n g : ℕ) (gathered bytes : List ℕ) → g < n → length gathered ≡ 4096 * g → length bytes ≡ 4096 →
    slice_set (blocks_gathered n gathered) g bytes ≡ blocks_gathered n (gathered ++ bytes)
next_filled zero g gathered bytes less came long = absurd (omega arith)
next_filled (suc n) zero gathered bytes less came long =
    let none = no_bytes gathered came in
    let over : drop 4096 gathered ≡ drop 4096 (gathered ++ bytes) =
    let joined = length-append gathered bytes in
    drop_all 4096 gathered (omega arith) ∙ sym (drop_all 4096 (gathered ++ bytes) (omega arith)) in
    let first : block_or_zeros (gathered ++ bytes) ≡ bytes =
    ap (λ xs. block_or_zeros (xs ++ bytes)) none ∙ whole_block bytes long in
    λ j. sym first j ∷ blocks_gathered n (over j)
next_filled (suc n) (suc g) gathered bytes less came long =
    let left = length-drop 4096 gathered in
    let rest = next_filled n g (drop 4096 gathered) bytes (omega arith) (omega arith) long in
    let over : drop 4096 gathered ++ bytes ≡ drop 4096 (gathered ++ bytes) =
    sym (drop-append-le 4096 gathered bytes (omega arith)) in
    λ j. sym (first_stays gathered bytes g came) j ∷ (rest ∙ ap (blocks_gathered n) over) j

-- All of them came

pub all_came : (n : ℕ) (bytes : List ℕ) → length bytes ≡ 4096 * n → blocks_gathered n bytes ≡ blocks_in n bytes
all_came zero bytes long = refl
all_came (suc n) bytes long =
    let left = length-drop 4096 bytes in
    let first : block_or_zeros bytes ≡ take 4096 bytes =
    ap (λ b. cond b zero_block (take 4096 bytes)) (le-ltb (length bytes) 4096 (omega arith)) in
    let rest = all_came n (drop 4096 bytes) (omega arith) in
    λ j. first j ∷ rest j
