-- Images: where their blocks begin, and what is known of one that is read.
use Rattle.std.proofs.Common.{◌≡◌, ◌∙◌, ◌+◌, ◌<◌, ◌≤◌, ⊎_elim, ℕ, List, [], ◌∷◌, ◌++◌, ap, arith, drop}
use Rattle.std.proofs.Common.{length, subst, sym, take, length-append}
use Rattle.std.specs.Prelude.{Err, IfErr, IfSome, None, Ok, Option, Result, Some, slice_index}
use Rattle.std.specs.Io.KnownBytes.{Consumes, IsAtEnd, Keeps}
use Rattle.std.proofs.KnownBytes.{Consumes-kept, Consumes-trans}
use Rattle.std.proofs.Math.Nat.{add-mul, mul-lt-mul_of_pos_right}
use Rattle.std.proofs.Math.Seq.{get_or-append_seam}
use Rattle.std.proofs.lemmas.Bool.{cases_lt}
use Rattle.std.proofs.lemmas.List.{append-nil, append_assoc, get_or_append_left, take_all, take-append-le}
use Rattle.byteorder.specs.Endian.{big_bytes, big_number}
use Rattle.byteorder.specs.Numbers.{big_number-reads_back}
use Rattle.ufstool.specs.Images.{AreInRange, IsFault, IsHeadFault, IsHeadPlace, IsImage, IsPlace, IsReadTo, block_count}
use Rattle.ufstool.specs.Images.{block_place, head_bytes, image_length, pages_length}
use Rattle.ufstool.specs.declared.images.ImageFault.{ImageFault}
use Rattle.ufstool.specs.declared.images.ImageFault.TheVariants.{File, Malformed, Output}
use Rattle.ufstool.specs.declared.images.Sizes.{Sizes}
use Rattle.ufstool.specs.declared.images.Trouble.{Trouble}
use Rattle.ufstool.specs.declared.images.Trouble.TheVariants.{Bad, Long, Name, Range, Short, Zero}

-- ## Places

-- the next block begins behind the pages of this one
pub place_next : (s : Sizes) (n : ℕ) → block_place s (n + 1) ≡ block_place s n + (1 + pages_length s)
place_next s n = omega (arith, add-mul n 1 (1 + pages_length s))

-- an earlier block begins before
pub place_below : (s : Sizes) (k n : ℕ) → k < n → block_place s k < block_place s n
place_below s k n below =
    let apart = mul-lt-mul_of_pos_right {m = k} {n = n} {k = 1 + pages_length s} below (omega arith) in omega (arith, apart)

-- ## Heads

-- no two sizes have the same head
pub same_sizes : (s t : Sizes) → AreInRange s → AreInRange t → head_bytes s ≡ head_bytes t → s ≡ t
same_sizes s t one two is =
    let dies = ap (λ (h : List ℕ). slice_index h 8) is in
    let blocks : s.blocks ≡ t.blocks =
    sym (big_number-reads_back 2 s.blocks (big_bytes 2 s.pages) (omega (arith, one.few_blocks)))
    ∙ ap (λ (h : List ℕ). big_number 2 (drop 10 h)) is
    ∙ big_number-reads_back 2 t.blocks (big_bytes 2 t.pages) (omega (arith, two.few_blocks)) in
    let pages : s.pages ≡ t.pages =
    sym (big_number-reads_back 2 s.pages [] (omega (arith, one.few_pages)))
    ∙ ap (λ (h : List ℕ). big_number 2 (drop 12 h)) is
    ∙ big_number-reads_back 2 t.pages [] (omega (arith, two.few_pages)) in
    λ i. record { dies = dies i; blocks = blocks i; pages = pages i }

-- an image that begins so is one of these sizes
pub of_sizes : (s t : Sizes) (bytes seen rest : List ℕ) → AreInRange s → IsImage t bytes → bytes ≡ seen ++ rest
    → 14 ≤ length seen → take 14 seen ≡ head_bytes s → t ≡ s
of_sizes s t bytes seen rest in_range image is long head =
    same_sizes t s image.in_range in_range
    (sym image.head ∙ ap (take 14) is ∙ take-append-le 14 seen rest long ∙ head)

-- ## Blocks

-- a block more is read
pub block_read : (s : Sizes) (n byte : ℕ) (pages : List ℕ) (start now after done : Option (List ℕ))
    → IsReadTo s n start now → Consumes now after (byte ∷ []) → byte ≤ 1 → Consumes after done pages
    → length pages ≡ pages_length s → IsReadTo s (n + 1) start done
block_read s n byte pages start now after done r first told rest long =
    let seen : List ℕ = r.seen in
    let behind : List ℕ = byte ∷ pages in
    let joined : (byte ∷ []) ++ pages ≡ behind = append_assoc (byte ∷ []) [] pages in
    record {
      seen = seen ++ behind;
      consumed =
          Consumes-trans start now done seen behind r.consumed
          (Consumes-trans now after done (byte ∷ []) pages first rest);
      long = omega (arith, length-append seen behind, r.long, long, place_next s n);
      head = take-append-le 14 seen behind (omega (arith, r.long)) ∙ r.head;
      told = λ k below. ⊎_elim
          (λ (earlier : k < n).
          subst (λ (b : ℕ). b ≤ 1)
          (sym (get_or_append_left seen behind 0 (block_place s k) (omega (arith, r.long, place_below s k n earlier))))
          (r.told k earlier))
          (λ (late : n ≤ k).
          let same : k ≡ n = omega arith in
          let place : block_place s k ≡ length seen = ap (block_place s) same ∙ sym r.long in
          subst (λ (b : ℕ). b ≤ 1)
          (sym (ap (slice_index (seen ++ behind)) place ∙ get_or-append_seam seen byte pages 0)) told)
          (cases_lt k n);
    }

-- a later block begins later, or at the same place
place_up : (s : Sizes) (k n : ℕ) → k ≤ n → block_place s k ≤ block_place s n
place_up s k n up =
    ⊎_elim (λ (below : k < n). let apart = place_below s k n below in omega arith)
    (λ (above : n ≤ k). let same : k ≡ n = omega arith in omega (arith, ap (block_place s) same)) (cases_lt k n)

-- ## Faults

-- a block begins with a byte that says nothing
pub bad_told : (s : Sizes) (n byte die block : ℕ) (start now after : Option (List ℕ)) → AreInRange s
    → n < block_count s → IsReadTo s n start now → Consumes now after (byte ∷ []) → 1 < byte
    → IfSome start (IsFault (Malformed (block_place s n) (Bad die block byte)))
bad_told s n byte die block None now after in_range there r first bad = tt
bad_told s n byte die block (Some bytes) None after in_range there r first bad = absurd r.consumed
bad_told s n byte die block (Some bytes) (Some left) None in_range there r first bad = absurd first
bad_told s n byte die block (Some bytes) (Some left) (Some rest) in_range there r first bad =
    let seen : List ℕ = r.seen in
    let is : bytes ≡ seen ++ byte ∷ rest = r.consumed ∙ ap (λ (l : List ℕ). seen ++ l) first in
    let at : slice_index bytes (block_place s n) ≡ byte =
    ap (λ (l : List ℕ). slice_index l (block_place s n)) is
    ∙ ap (slice_index (seen ++ byte ∷ rest)) (sym r.long) ∙ get_or-append_seam seen byte rest 0 in
    record {
      stands = omega (arith, ap length is, length-append seen (byte ∷ rest), r.long);
      no_image = λ t image.
          let same : t ≡ s = of_sizes s t bytes seen (byte ∷ rest) in_range image is (omega (arith, r.long)) r.head in
          let told : slice_index bytes (block_place s n) ≤ 1 =
          subst (λ (u : Sizes). slice_index bytes (block_place u n) ≤ 1) same
          (image.told n (subst (λ (u : Sizes). n < block_count u) (sym same) there)) in
          omega (arith, at, told, bad);
    }

-- the bytes end before those of all dies
pub cut_told : (s : Sizes) (place : ℕ) (needed : Option ℕ) (seen : List ℕ) (start end : Option (List ℕ)) → AreInRange s
    → Consumes start end seen → IsAtEnd end → 14 ≤ length seen → take 14 seen ≡ head_bytes s
    → length seen < image_length s → place ≡ length seen → IfSome start (IsFault (Malformed place (Short needed)))
cut_told s place needed seen None end in_range read at_end long head short is_place = tt
cut_told s place needed seen (Some bytes) None in_range read at_end long head short is_place = absurd read
cut_told s place needed seen (Some bytes) (Some rest) in_range read at_end long head short is_place =
    let all : length bytes ≡ length seen =
    ap length (read ∙ ap (λ (l : List ℕ). seen ++ l) at_end ∙ append-nil seen) in
    record {
      stands = is_place ∙ sym all;
      no_image = λ t image.
          let same : t ≡ s = of_sizes s t bytes seen rest in_range image read long head in
          omega (arith, image.long, ap image_length same, all, short);
    }

-- they end where a block is to begin
pub no_block : (s : Sizes) (n : ℕ) (needed : Option ℕ) (start now after : Option (List ℕ)) → AreInRange s
    → n < block_count s → IsReadTo s n start now → Keeps now after → IsAtEnd after
    → IfSome start (IsFault (Malformed (block_place s n) (Short needed)))
no_block s n needed start now after in_range there r kept at_end =
    cut_told s (block_place s n) needed r.seen start after in_range
    (Consumes-kept start now after r.seen r.consumed kept) at_end (omega (arith, r.long)) r.head
    (omega (arith, r.long, place_below s n (block_count s) there)) (sym r.long)

-- they end in the pages of a block
pub no_pages : (s : Sizes) (n byte : ℕ) (pages : List ℕ) (needed : Option ℕ) (start now after end : Option (List ℕ))
    → AreInRange s → n < block_count s → IsReadTo s n start now → Consumes now after (byte ∷ [])
    → Consumes after end pages → IsAtEnd end → length pages < pages_length s
    → IfSome start (IsFault (Malformed (block_place s n + 1 + length pages) (Short needed)))
no_pages s n byte pages needed start now after end in_range there r first rest at_end few =
    let seen : List ℕ = r.seen in
    let behind : List ℕ = byte ∷ pages in
    let next = place_up s (n + 1) (block_count s) (omega arith) in
    let long = length-append seen behind in
    cut_told s (block_place s n + 1 + length pages) needed (seen ++ behind) start end in_range
    (Consumes-trans start now end seen behind r.consumed (Consumes-trans now after end (byte ∷ []) pages first rest))
    at_end (omega (arith, long, r.long)) (take-append-le 14 seen behind (omega (arith, r.long)) ∙ r.head)
    (omega (arith, long, r.long, next, place_next s n, few)) (omega (arith, long, r.long))

-- where a head is wrong, the bytes are
place_told : (trouble : Trouble) (place : ℕ) (head bytes : List ℕ) → IsHeadPlace trouble place head
    → length head ≤ length bytes → (length head < 14 → length bytes ≡ length head) → IsPlace trouble place bytes
place_told Name place head bytes wrong more end = omega (arith, wrong, more)
place_told (Zero byte) place head bytes wrong more end = omega (arith, wrong, more)
place_told (Range range) place head bytes wrong more end = omega (arith, wrong, more)
place_told (Bad die block byte) place head bytes wrong more end = omega (arith, wrong, more)
place_told (Short needed) place head bytes wrong more end = wrong.0 ∙ sym (end wrong.1)
place_told Long place head bytes wrong more end = omega (arith, wrong, more)

-- a head is wrong
pub head_told : (fault : ImageFault) (head : List ℕ) (start now : Option (List ℕ)) → length head ≤ 14
    → (length head < 14 → IsAtEnd now) → Consumes start now head → IsHeadFault fault head → IfSome start (IsFault fault)
head_told fault head None now few end read wrong = tt
head_told fault head (Some bytes) None few end read wrong = absurd read
head_told File head (Some bytes) (Some rest) few end read wrong = absurd wrong
head_told Output head (Some bytes) (Some rest) few end read wrong = absurd wrong
head_told (Malformed place trouble) head (Some bytes) (Some rest) few end read wrong =
    let short : length head < 14 → length bytes ≡ length head =
    λ less. ap length (read ∙ ap (λ (l : List ℕ). head ++ l) (end less) ∙ append-nil head) in
    record {
      stands = place_told trouble place head bytes wrong.0 (omega (arith, ap length read, length-append head rest)) short;
      no_image = λ s image.
          ⊎_elim
          (λ (less : length head < 14). let all = short less in omega (arith, all, image.long))
          (λ (whole : 14 ≤ length head).
          wrong.1 s image.in_range
          (sym (take_all 14 head few) ∙ sym (take-append-le 14 head rest whole) ∙ sym (ap (take 14) read) ∙ image.head))
          (cases_lt (length head) 14);
    }

-- what follows of a fault
pub err_then : {A E : Type 0} (r : Result A E) (P Q : E → Type 0) → ((fault : E) → P fault → Q fault) → IfErr r P
    → IfErr r Q
err_then (Ok x) P Q then is = tt
err_then (Err fault) P Q then is = then fault is
