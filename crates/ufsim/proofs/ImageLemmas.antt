-- What stands in an image behind what.
use Rattle.std.proofs.Common.{◌≡◌, ◌≢◌, ◌∙◌, ◌+◌, ◌<◌, ◌++◌, ℕ, List, [], ◌∷◌, All, ap, append-nil, arith, length, refl, subst, suc, sym, take, zero}
use Rattle.std.specs.Prelude.{Bool, true, false, IfSome, Option, Some, None, Result, Ok, Err, OnOk, slice_index_or}
use Rattle.std.specs.List.{flat_map}
use Rattle.std.specs.Io.KnownBytes.{Appends, Consumes, IsAtEnd, Keeps}
pub use Rattle.std.proofs.KnownBytes.{Keeps-trans as kept_more}
use Rattle.std.proofs.lemmas.List.{append_assoc, flat_map_more, get_or-set_same, take_more}
use Rattle.std.proofs.lemmas.List.Elements.{All-push}
use Rattle.ufs_spec.specs.Dies.{DieState, is_bad_block, pages_of}
use Rattle.ufsim.specs.Images.{IsBlockRead, IsElseSame, IsOfImage, bad_byte, block_bytes, blocks_bytes, die_bytes, marked}
use Rattle.ufsim.specs.Images.{IsImage, IsSomeImage, page_bytes}

-- What is written and read

-- nothing is appended
pub appends_none : (a : Option (List ℕ)) → Appends a a []
appends_none None = tt
appends_none (Some a) = sym (append-nil a)

-- what is appended twice is appended once
pub appends_more : (a b c : Option (List ℕ)) (xs ys zs : List ℕ) → Appends a b xs → Appends b c ys → xs ++ ys ≡ zs →
    Appends a c zs
appends_more None b c xs ys zs one two is = tt
appends_more (Some a) None c xs ys zs one two is = absurd one
appends_more (Some a) (Some b) None xs ys zs one two is = absurd two
appends_more (Some a) (Some b) (Some c) xs ys zs one two is =
    two ∙ ap (λ t. t ++ ys) one ∙ append_assoc a xs ys ∙ ap (λ t. a ++ t) is

-- what is kept then is appended still
pub appends_kept : (a b c : Option (List ℕ)) (xs : List ℕ) → Appends a b xs → Keeps b c → Appends a c xs
appends_kept None b c xs one kept = tt
appends_kept (Some a) None c xs one kept = absurd one
appends_kept (Some a) (Some b) None xs one kept = absurd kept
appends_kept (Some a) (Some b) (Some c) xs one kept = kept ∙ one

-- nothing is read
pub consumes_none : (a : Option (List ℕ)) → Consumes a a []
consumes_none None = tt
consumes_none (Some a) = refl

-- what is read in two parts is read
pub consumes_more : (a b c : Option (List ℕ)) (xs ys zs : List ℕ) → Consumes a b xs → Consumes b c ys →
    xs ++ ys ≡ zs → Consumes a c zs
consumes_more None b c xs ys zs one two is = tt
consumes_more (Some a) None c xs ys zs one two is = absurd one
consumes_more (Some a) (Some b) None xs ys zs one two is = absurd two
consumes_more (Some a) (Some b) (Some c) xs ys zs one two is =
    one ∙ ap (λ t. xs ++ t) two ∙ sym (append_assoc xs ys c) ∙ ap (λ t. t ++ c) is

-- a read of nothing shows the end
pub at_end : (a b c : Option (List ℕ)) → Keeps a b → Consumes b c [] → IsAtEnd c → IsAtEnd a
at_end None b c one two end = tt
at_end (Some a) None c one two end = absurd one
at_end (Some a) (Some b) None one two end = absurd two
at_end (Some a) (Some b) (Some c) one two end = sym one ∙ two ∙ end

-- what follows from what holds at Ok holds there
pub then_ok : {A E : Type 0} (r : Result A E) (P Q : Type 0) → (P → Q) → OnOk r P → OnOk r Q
then_ok (Ok x) P Q f p = f p
then_ok (Err e) P Q f p = p

-- a list with one element more
pub length_more : {A : Type 0} (xs : List A) (x : A) → length (xs ++ x ∷ []) ≡ length xs + 1
length_more [] x = refl
length_more (y ∷ ys) x = let rest = length_more ys x in omega arith

-- Blocks

pub apart_below : (a b : ℕ) → a < b → a ≢ b
apart_below a b below same = absurd (omega arith)

pub apart_above : (a b : ℕ) → b < a → a ≢ b
apart_above a b above same = absurd (omega arith)

-- whether a block is bad that was good before
pub bad_read : (before after : DieState) (block : ℕ) (bad : Bool) → block < length before.bad →
    is_bad_block before block ≡ false → after.bad ≡ (marked before block bad).bad → is_bad_block after block ≡ bad
bad_read before after block true there good is =
    ap (λ t. slice_index_or t block false) is ∙ get_or-set_same before.bad block true false there
bad_read before after block false there good is = ap (λ t. slice_index_or t block false) is ∙ good

-- the bytes of the block that was read
pub joined : (before middle after : DieState) (block : ℕ) (bad : Bool) → block < length before.blocks →
    length before.bad ≡ length before.blocks → is_bad_block before block ≡ false → middle ≡ marked before block bad →
    IsElseSame middle block after →
    (bad_byte bad ∷ []) ++ flat_map page_bytes (pages_of after block) ≡ block_bytes after block
joined before middle after block bad there long good is same =
    let inside : block < length before.bad = omega (long, there, arith) in
    let told = bad_read before after block bad inside good (same.0 ∙ ap (λ (d : DieState). d.bad) is) in
    ap (λ t. bad_byte t ∷ flat_map page_bytes (pages_of after block)) (sym told)

-- one block more
pub blocks_more : (die : DieState) (block : ℕ) →
    blocks_bytes die block ++ block_bytes die block ≡ blocks_bytes die (block + 1)
blocks_more die block = let one : suc block ≡ block + 1 = omega arith in ap (blocks_bytes die) one

-- equal blocks have equal bytes
pub blocks_same : (die other : DieState) (count : ℕ) →
    ((block : ℕ) → block < count → block_bytes die block ≡ block_bytes other block) →
    blocks_bytes die count ≡ blocks_bytes other count
blocks_same die other zero same = refl
blocks_same die other (suc count) same =
    ap (λ t. t ++ block_bytes die count) (blocks_same die other count (λ block below. same block (omega arith)))
    ∙ ap (λ t. blocks_bytes other count ++ t) (same count (omega arith))

-- the block after the ones that were read
pub block_read : (before after : DieState) (block : ℕ) → IsBlockRead before block after →
    blocks_bytes before block ++ block_bytes after block ≡ blocks_bytes after (block + 1)
block_read before after block read =
    ap (λ t. t ++ block_bytes after block)
    (blocks_same before after block (λ other below. sym (read.3 other (apart_below other block below)))) ∙ blocks_more after block

-- Dies

-- one die more: its bytes, what all are, and how many
pub dies_more : (head : List ℕ) (xs ys : List DieState) (x : DieState) → ys ≡ xs ++ x ∷ [] →
    (head ++ flat_map die_bytes xs) ++ die_bytes x ≡ head ++ flat_map die_bytes ys
dies_more head xs ys x is = flat_map_more die_bytes head xs x ∙ ap (λ t. head ++ flat_map die_bytes t) (sym is)

pub all_more : (blocks pages : ℕ) (xs ys : List DieState) (x : DieState) → ys ≡ xs ++ x ∷ [] →
    All (IsOfImage blocks pages) xs → IsOfImage blocks pages x → All (IsOfImage blocks pages) ys
all_more blocks pages xs ys x is all one =
    subst (All (IsOfImage blocks pages)) (sym is) (All-push (IsOfImage blocks pages) xs x all one)

pub count_more : (xs ys : List DieState) (x : DieState) (count : ℕ) → ys ≡ xs ++ x ∷ [] → length xs ≡ count →
    length ys ≡ count + 1
count_more xs ys x count is long = ap length is ∙ length_more xs x ∙ ap (λ t. t + 1) long

-- all dies are written
pub all_written : (a b c : Option (List ℕ)) (head : List ℕ) (front all : List DieState) → front ≡ all →
    Appends a b (head ++ flat_map die_bytes front) → Keeps b c → Appends a c (head ++ flat_map die_bytes all)
all_written a b c head front all same written kept =
    subst (λ (t : List DieState). Appends a c (head ++ flat_map die_bytes t)) same (appends_kept a b c _ written kept)

-- the front of the dies with the next one
pub front_more : (xs : List DieState) (i : ℕ) (x : DieState) → i < length xs → slice_index_or xs i x ≡ x →
    take (i + 1) xs ≡ take i xs ++ x ∷ []
front_more xs i x inside is = take_more xs i x inside ∙ ap (λ (t : DieState). take i xs ++ t ∷ []) is

-- an image of these sizes is an image
pub some_image : (found : Option (List ℕ)) (dies blocks pages : ℕ) → IfSome found (IsImage dies blocks pages) →
    IfSome found IsSomeImage
some_image None dies blocks pages is = is
some_image (Some bytes) dies blocks pages is = (dies, blocks, pages, is)
