-- Bytes in a row that are read part by part: when all were read, and when what is left cannot be them.
use Rattle.std.proofs.Common.{◌≡◌, ◌≢◌, ◌∙◌, ◌+◌, ◌-◌, ◌*◌, ◌<◌, ◌≤◌, ◌++◌, ℕ, List, [], ◌∷◌, ap, append-nil, arith, drop_at, length}
use Rattle.std.proofs.Common.{length-take-le, refl, slice_range, subst, suc, sym, take, zero}
use borrow.Rule.Slice.PartMut.{put_mid, post_of}
use lib.Seq.{take-add, take-append-le}
use Rattle.std.specs.Prelude.{Bool, true, false, Option, Some, None, IfSome, IfErr, IsErrAnd, Result, Ok, Err}
use Rattle.std.specs.Io.KnownBytes.{Consumes, IsAtEnd}
use Rattle.std.proofs.KnownBytes.{Consumes-nil, Consumes-trans}
use Rattle.std.proofs.lemmas.List.{append_assoc, length-append}
use Rattle.ufs_spec.specs.Dies.{DieState, pages_of}
use Rattle.ufsim.specs.Images.{AreParts, InTurn, IsBadByte, IsBlock, IsDie, IsLong, IsPage, Lacks, Reads, Took, marked}
use Rattle.ufsim.specs.declared.image.ImageFault.{ImageFault}
use Rattle.ufsim.specs.declared.image.ImageFault.TheVariants.{File, Malformed, Memory}

-- ## Reads into a part of an array

pub front_joined : (a b : ℕ) (old new : List ℕ) → a ≤ b → take a new ≡ take a old →
    take a old ++ slice_range new a b ≡ take b new
front_joined a b old new h front =
    let same : a + (b - a) ≡ b = omega arith in
    ap (λ l. l ++ slice_range new a b) (sym front) ∙ sym (take-add a (b - a) new) ∙ ap (λ n. take n new) same

pub part_put : (a k n : ℕ) (xs ys : List ℕ) → a ≤ length xs → n ≤ length ys →
    slice_range (put_mid a k xs ys) a (a + n) ≡ take n ys
part_put a k n xs ys within fits =
    let same : (a + n) - a ≡ n = omega arith in
    let after = post_of a k xs in
    ap (take ((a + n) - a)) (drop_at (take a xs) (ys ++ after) a (length-take-le a xs within))
    ∙ ap (λ m. take m (ys ++ after)) same
    ∙ take-append-le n ys after fits

-- ## Lengths

suc_times : (count one : ℕ) → suc count * one ≡ one + count * one
suc_times count one = omega arith

-- all bytes of the kind are so many
abbrev pub HasLength : (List ℕ → Type 0) → ℕ → Type 0
HasLength Is count = (bytes : List ℕ) → Is bytes → length bytes ≡ count

pub turn_length : (A B : List ℕ → Type 0) (a b : ℕ) → HasLength A a → HasLength B b → HasLength (InTurn A B) (a + b)
turn_length A B a b one two bytes both =
    let long = length-append both.0 both.1 in
    let first = one both.0 both.3 in
    let rest = two both.1 both.4 in
    ap length both.2 ∙ omega (arith, long, first, rest)

pub parts_length : (Is : List ℕ → Type 0) (one count : ℕ) → HasLength Is one → HasLength (AreParts Is count) (count * one)
parts_length Is one zero each bytes none = let long = ap length none in omega (arith, long)
parts_length Is one (suc count) each bytes parts =
    let long = turn_length Is (AreParts Is count) one (count * one) each (parts_length Is one count each) bytes parts in
    let more = suc_times count one in
    long ∙ sym more

pub bad_byte_length : HasLength IsBadByte 1
bad_byte_length bytes is = ap length is.1

pub page_length : HasLength IsPage 4192
page_length = turn_length (IsLong 4096) (IsLong 96) 4096 96 (λ bytes is. is) (λ bytes is. is)

pub block_length : (pages : ℕ) → HasLength (IsBlock pages) (1 + pages * 4192)
block_length pages =
    turn_length IsBadByte (AreParts IsPage pages) 1 (pages * 4192) bad_byte_length (parts_length IsPage 4192 pages page_length)

pub die_length : (blocks pages : ℕ) → HasLength (IsDie blocks pages) (blocks * (1 + pages * 4192))
die_length blocks pages = parts_length (IsBlock pages) (1 + pages * 4192) blocks (block_length pages)

-- ## Splits

-- the same bytes fall into equal parts, where the first ones are equally long
same_split : (xs ys us vs : List ℕ) → length xs ≡ length us → xs ++ ys ≡ us ++ vs → (xs ≡ us) × (ys ≡ vs)
same_split [] ys [] vs long is = (refl, is)
same_split [] ys (u ∷ us) vs long is = absurd (omega (arith, long))
same_split (x ∷ xs) ys [] vs long is = absurd (omega (arith, long))
same_split (x ∷ xs) ys (u ∷ us) vs long is =
    let rest = same_split xs ys us vs (omega (arith, long)) (cc is) in
    let head : x ≡ u = cc is in
    (ap (λ t. x ∷ t) rest.0 ∙ ap (λ h. h ∷ us) head, rest.1)

-- ## What was read

pub took_none : (Is : List ℕ → Type 0) (a : Option (List ℕ)) → Took (AreParts Is 0) a a
took_none Is a = ([], refl, Consumes-nil a)

pub took_turn : (A B : List ℕ → Type 0) (a b c : Option (List ℕ)) → Took A a b → Took B b c → Took (InTurn A B) a c
took_turn A B a b c one two =
    (one.0 ++ two.0, (one.0, two.0, refl, one.1, two.1), Consumes-trans a b c one.0 two.0 one.2 two.2)

-- one part more behind the others
parts_more : (Is : List ℕ → Type 0) (count : ℕ) (bytes more : List ℕ) → AreParts Is count bytes → Is more →
    AreParts Is (suc count) (bytes ++ more)
parts_more Is zero bytes more none is = (more, [], ap (λ t. t ++ more) none ∙ sym (append-nil more), is, refl)
parts_more Is (suc count) bytes more parts is = (
  parts.0,
  parts.1 ++ more,
  ap (λ t. t ++ more) parts.2 ∙ append_assoc parts.0 parts.1 more,
  parts.3,
  parts_more Is count parts.1 more parts.4 is,
)

pub took_more : (Is : List ℕ → Type 0) (count : ℕ) (a b c : Option (List ℕ)) → Took (AreParts Is count) a b →
    Took Is b c → Took (AreParts Is (count + 1)) a c
took_more Is count a b c some one =
    let next : suc count ≡ count + 1 = omega arith in (
      some.0 ++ one.0,
      subst (λ n. AreParts Is n (some.0 ++ one.0)) next (parts_more Is count some.0 one.0 some.1 one.1),
      Consumes-trans a b c some.0 one.0 some.2 one.2,
    )

-- ## What is lacking

pub lacks_first : (A B : List ℕ → Type 0) (a : Option (List ℕ)) → Lacks A a → Lacks (InTurn A B) a
lacks_first A B None lacks = lacks
lacks_first A B (Some all) lacks =
    λ bytes rest both is.
    lacks both.0 (both.1 ++ rest) both.3
    (is ∙ ap (λ t. t ++ rest) both.2 ∙ append_assoc both.0 both.1 rest)

pub lacks_rest : (A B : List ℕ → Type 0) (long : ℕ) (a b : Option (List ℕ)) → HasLength A long → Took A a b →
    Lacks B b → Lacks (InTurn A B) a
lacks_rest A B long None b each took lacks = tt
lacks_rest A B long (Some all) None each took lacks = absurd took.2
lacks_rest A B long (Some all) (Some left) each took lacks =
    λ bytes rest both is.
    let mine = each took.0 took.1 in
    let other = each both.0 both.3 in
    let split = same_split took.0 left both.0 (both.1 ++ rest) (mine ∙ sym other)
    (sym took.2 ∙ is ∙ ap (λ t. t ++ rest) both.2 ∙ append_assoc both.0 both.1 rest) in
    lacks both.1 rest both.4 split.1

-- behind some parts one is lacking, so not all are there
pub lacks_part : (Is : List ℕ → Type 0) (one done count : ℕ) (a b : Option (List ℕ)) → HasLength Is one →
    Took (AreParts Is done) a b → Lacks Is b → done < count → Lacks (AreParts Is count) a
lacks_part Is one done count None b each took lacks less = tt
lacks_part Is one done count (Some all) None each took lacks less = absurd took.2
lacks_part Is one done zero (Some all) (Some left) each took lacks less = absurd (omega (arith, less))
lacks_part Is one zero (suc count) (Some all) (Some left) each took lacks less =
    λ bytes rest both is.
    lacks both.0 (both.1 ++ rest) both.3
    (sym (took.2 ∙ ap (λ t. t ++ left) took.1) ∙ is ∙ ap (λ t. t ++ rest) both.2 ∙ append_assoc both.0 both.1 rest)
lacks_part Is one (suc done) (suc count) (Some all) (Some left) each took lacks less =
    let parts = took.1 in
    let first : Took Is (Some all) (Some (parts.1 ++ left)) =
    (parts.0, parts.3, took.2 ∙ ap (λ t. t ++ left) parts.2 ∙ append_assoc parts.0 parts.1 left) in
    lacks_rest Is (AreParts Is count) one (Some all) (Some (parts.1 ++ left)) each first
    (lacks_part Is one done count (Some (parts.1 ++ left)) (Some left) each (parts.1, parts.4, refl) lacks
    (omega (arith, less)))

-- too few bytes are left
pub lacks_long : (long : ℕ) (a : Option (List ℕ)) → IfSome a (λ all. length all < long) → Lacks (IsLong long) a
lacks_long long None few = tt
lacks_long long (Some all) few =
    λ bytes rest is all_is.
    let whole = length-append bytes rest in
    let same = ap length all_is in
    absurd (omega (arith, few, whole, same, is))

-- a read gave nothing before all bytes came
pub lacks_ended : (long : ℕ) (a b c : Option (List ℕ)) (front none : List ℕ) → Consumes a b front →
    Consumes b c none → length none ≡ 0 → IsAtEnd c → length front < long → Lacks (IsLong long) a
lacks_ended long None b c front none took last none_read end few = tt
lacks_ended long (Some all) None c front none took last none_read end few = absurd took
lacks_ended long (Some all) (Some left) None front none took last none_read end few = absurd last
lacks_ended long (Some all) (Some left) (Some more) front none took last none_read end few =
    lacks_long long (Some all)
    (let one = ap length took in
    let two = ap length last in
    let three = ap length end in
    let four = length-append front left in
    let five = length-append none more in
    omega (arith, one, two, three, four, five, none_read, few))

-- other bytes of that length are left
pub lacks_other : (wanted found : List ℕ) (a b : Option (List ℕ)) → length found ≡ length wanted →
    (found ≡ wanted → ⊥) → Consumes a b found → Lacks (λ bytes. bytes ≡ wanted) a
lacks_other wanted found None b long other took = tt
lacks_other wanted found (Some all) None long other took = absurd took
lacks_other wanted found (Some all) (Some left) long other took =
    λ bytes rest is all_is.
    other (same_split found left wanted rest long (sym took ∙ all_is ∙ ap (λ t. t ++ rest) is)).0

-- what a narrower kind names is lacking too
pub lacks_narrower : (A B : List ℕ → Type 0) (a : Option (List ℕ)) → ((bytes : List ℕ) → A bytes → B bytes) →
    Lacks B a → Lacks A a
lacks_narrower A B None narrower lacks = tt
lacks_narrower A B (Some all) narrower lacks = λ bytes rest is all_is. lacks bytes rest (narrower bytes is) all_is

-- ## A row of parts behind a first part

pub turn_begun : (A Is : List ℕ → Type 0) (a b : Option (List ℕ)) (first : List ℕ) → A first → Consumes a b first →
    Took (InTurn A (AreParts Is 0)) a b
turn_begun A Is a b first is took = (first, (first, [], sym (append-nil first), is, refl), took)

pub turn_more : (A Is : List ℕ → Type 0) (count : ℕ) (a b c : Option (List ℕ)) →
    Took (InTurn A (AreParts Is count)) a b → Took Is b c → Took (InTurn A (AreParts Is (count + 1))) a c
turn_more A Is count a b c some one =
    let both = some.1 in
    let next : suc count ≡ count + 1 = omega arith in (
      some.0 ++ one.0,
      (
        both.0,
        both.1 ++ one.0,
        ap (λ t. t ++ one.0) both.2 ∙ append_assoc both.0 both.1 one.0,
        both.3,
        subst (λ n. AreParts Is n (both.1 ++ one.0)) next (parts_more Is count both.1 one.0 both.4 one.1),
      ),
      Consumes-trans a b c some.0 one.0 some.2 one.2,
    )

pub lacks_turn_part : (A Is : List ℕ → Type 0) (long one done count : ℕ) (a b : Option (List ℕ)) → HasLength A long →
    HasLength Is one → Took (InTurn A (AreParts Is done)) a b → Lacks Is b → done < count →
    Lacks (InTurn A (AreParts Is count)) a
lacks_turn_part A Is long one done count None b first each took lacks less = tt
lacks_turn_part A Is long one done count (Some all) None first each took lacks less = absurd took.2
lacks_turn_part A Is long one done count (Some all) (Some left) first each took lacks less =
    let both = took.1 in
    let begun : Took A (Some all) (Some (both.1 ++ left)) =
    (both.0, both.3, took.2 ∙ ap (λ t. t ++ left) both.2 ∙ append_assoc both.0 both.1 left) in
    lacks_rest A (AreParts Is count) long (Some all) (Some (both.1 ++ left)) first begun
    (lacks_part Is one done count (Some (both.1 ++ left)) (Some left) each (both.1, both.4, refl) lacks less)

-- ## Results

-- only a fault that is told as malformed says what is lacking
abbrev pub OfMalformed : ImageFault → Type 0
OfMalformed Malformed = Unit {0}
OfMalformed File = ⊥
OfMalformed Memory = ⊥

memory_is_other : Memory ≡ Malformed → ⊥
memory_is_other same = subst OfMalformed (sym same) tt

-- a fault is passed on
pub passed_on : {T : Type 0} (Is : List ℕ → Type 0) (a b : Option (List ℕ)) (r : Result T ImageFault) (fault : ImageFault) →
    IsErrAnd r (λ e. e ≡ fault) → (fault ≡ Malformed → Lacks Is a) → Reads Is a b r
passed_on Is a b (Ok value) fault is lacks = absurd is
passed_on Is a b (Err e) fault is lacks = λ m. lacks (sym is ∙ m)

-- memory was refused
pub refused : {T : Type 0} (Is : List ℕ → Type 0) (a b : Option (List ℕ)) (r : Result T ImageFault) →
    IsErrAnd r (λ e. e ≡ Memory) → Reads Is a b r
refused Is a b (Ok value) is = absurd is
refused Is a b (Err e) is = λ m. absurd (memory_is_other (sym is ∙ m))

-- what is read behind a first part
pub reads_rest : {T : Type 0} (A B : List ℕ → Type 0) (long : ℕ) (a b c : Option (List ℕ)) (r : Result T ImageFault) →
    HasLength A long → Took A a b → Reads B b c r → Reads (InTurn A B) a c r
reads_rest A B long a b c (Ok value) each first rest = took_turn A B a b c first rest
reads_rest A B long a b c (Err e) each first rest = λ m. lacks_rest A B long a b each first (rest m)

-- the same of what a fault says of the whole
pub whole_passed_on : {T : Type 0} (r : Result T ImageFault) (fault : ImageFault) (X : Type 0) →
    IsErrAnd r (λ e. e ≡ fault) → (fault ≡ Malformed → X) → IfErr r (λ e. e ≡ Malformed → X)
whole_passed_on (Ok value) fault X is says = absurd is
whole_passed_on (Err e) fault X is says = λ m. says (sym is ∙ m)

pub whole_refused : {T : Type 0} (r : Result T ImageFault) (X : Type 0) → IsErrAnd r (λ e. e ≡ Memory) →
    IfErr r (λ e. e ≡ Malformed → X)
whole_refused (Ok value) X is = absurd is
whole_refused (Err e) X is = λ m. absurd (memory_is_other (sym is ∙ m))

-- the pages of a die do not depend on which blocks are bad
pub pages_marked : (die : DieState) (block other : ℕ) (bad : Bool) →
    pages_of (marked die block bad) other ≡ pages_of die other
pages_marked die block other true = refl
pages_marked die block other false = refl

-- ## The whole

pub whole_image : (Is : List ℕ → Type 0) (a b : Option (List ℕ)) → Took Is a b → IsAtEnd b → IfSome a Is
whole_image Is None b took end = tt
whole_image Is (Some all) None took end = absurd took.2
whole_image Is (Some all) (Some left) took end =
    subst Is (sym (took.2 ∙ ap (λ t. took.0 ++ t) end ∙ append-nil took.0)) took.1

pub no_image : (Is : List ℕ → Type 0) (a : Option (List ℕ)) → Lacks Is a → IfSome a (λ all. Is all → ⊥)
no_image Is None lacks = tt
no_image Is (Some all) lacks = λ is. lacks all [] is (sym (append-nil all))

-- bytes are left behind an image
pub no_image_and_more : (Is : List ℕ → Type 0) (long : ℕ) (a b : Option (List ℕ)) → HasLength Is long → Took Is a b →
    IfSome b (λ left. left ≢ []) → IfSome a (λ all. Is all → ⊥)
no_image_and_more Is long None b each took more = tt
no_image_and_more Is long (Some all) None each took more = absurd took.2
no_image_and_more Is long (Some all) (Some left) each took more =
    λ is.
    let mine = each took.0 took.1 in
    more (same_split took.0 left all [] (mine ∙ sym (each all is)) (sym took.2 ∙ sym (append-nil all))).1
