-- Dies of one image hold the same pages, and the same blocks of them are bad.
use Rattle.std.proofs.Common.{◌≡◌, ◌<◌, ◌≤◌, ◌∙◌, ◌+◌, ◌*◌, ◌++◌, ◌∷◌, [], ℕ, zero, suc, Bool, true, false, List, ap, arith, inl, inr, length, map, refl, sym, subst, take}
use Rattle.std.specs.List.{flat_map}
use Rattle.std.specs.Prelude.{All, slice_index_or, sum_by}
use Rattle.std.proofs.lemmas.Bool.{cases_lt}
use Rattle.std.proofs.lemmas.List.{append_cancel_left, get_or_past, length-append}
use Rattle.std.proofs.lemmas.List.Concat.{flat_map-cons, length-flat_map}
use Rattle.std.proofs.lemmas.List.Elements.{All-get_or, All-head, All-tail}
use Rattle.std.proofs.Math.ListN.{get_or-map}
use Rattle.std.proofs.Math.Nat.{le_refl, suc-mul, zero-mul}
use Rattle.std.proofs.Math.Seq.{take-append_seam}
use Rattle.ufs_spec.specs.Dies.{DieState, IsOfSize, blank_page, is_bad_block, new_die, page_at, pages_of}
use Rattle.ufs_spec.specs.DieLaws.{pages_in}
use Rattle.ufs_spec.specs.Lives.{Fit, array_of, bad_of}
use Rattle.ufs_spec.specs.declared.configs.Numbers.{Numbers}
use Rattle.ufs_spec.specs.declared.flash.Page.{Page}
use Rattle.ufsim.specs.Images.{bad_byte, block_bytes, blocks_bytes, die_bytes, page_bytes}
use Rattle.ufs_images.specs.Saved.{AreWhole, IsWhole}

-- ## Rows of equal length

parts_same : {A : Type 0} (xs ys zs ws : List A) → length xs ≡ length ys → xs ++ zs ≡ ys ++ ws → (xs ≡ ys) × (zs ≡ ws)
parts_same {A} xs ys zs ws long same =
    let first : xs ≡ ys =
    sym (take-append_seam xs zs) ∙ ap (λ (l : List A). take (length xs) l) same
    ∙ ap (λ (n : ℕ). take n (ys ++ ws)) long ∙ take-append_seam ys ws in
    (first, append_cancel_left ys zs ws (ap (λ (l : List A). l ++ zs) (sym first) ∙ same))

module _ {A : Type 0} (f : A → List ℕ) (long : ℕ) where
  abbrev AreLong : List A → Type 0
  AreLong xs = All (λ x. length (f x) ≡ long) xs

  rows_same : (xs ys : List A) → length xs ≡ length ys → AreLong xs → AreLong ys → flat_map f xs ≡ flat_map f ys →
      map f xs ≡ map f ys
  rows_same [] [] as_many one other same = refl
  rows_same (x ∷ xs) (y ∷ ys) as_many one other same =
      let first = All-head (λ z. length (f z) ≡ long) x xs one in
      let second = All-head (λ z. length (f z) ≡ long) y ys other in
      let parts =
      parts_same (f x) (f y) (flat_map f xs) (flat_map f ys) (first ∙ sym second)
      (sym (flat_map-cons f x xs) ∙ same ∙ flat_map-cons f y ys) in
      ap (λ (z : List ℕ). z ∷ map f xs) parts.0
      ∙ ap (λ (zs : List (List ℕ)). f y ∷ zs)
      (rows_same xs ys (omega (arith, as_many)) (All-tail (λ z. length (f z) ≡ long) x xs one)
      (All-tail (λ z. length (f z) ≡ long) y ys other) parts.1)
  rows_same [] (y ∷ ys) as_many one other same = absurd (none as_many)
    where
      none : 0 ≡ suc (length ys) → ⊥
      none h = omega (arith, h)
  rows_same (x ∷ xs) [] as_many one other same = absurd (none as_many)
    where
      none : suc (length xs) ≡ 0 → ⊥
      none h = omega (arith, h)

-- ## Pages

page_is : (p q : Page) → p.body ≡ q.body → p.spare ≡ q.spare → p ≡ q
page_is p q body spare = λ i. record { body = body i; spare = spare i }

page_long : (p : Page) → IsWhole p → length (page_bytes p) ≡ 4192
page_long p h =
    let all = length-append p.body p.spare in
    let body = h.0 in
    let spare = h.1 in
    omega (arith, all, body, spare)

pages_same : (ps qs : List Page) → All IsWhole ps → All IsWhole qs → map page_bytes ps ≡ map page_bytes qs → ps ≡ qs
pages_same [] [] one other same = refl
pages_same (p ∷ ps) (q ∷ qs) one other same =
    let first = All-head IsWhole p ps one in
    let second = All-head IsWhole q qs other in
    let heads : page_bytes p ≡ page_bytes q = head_of (page_bytes p) (page_bytes q) (map page_bytes ps) (map page_bytes qs) same in
    let parts = parts_same p.body q.body p.spare q.spare (first.0 ∙ sym second.0) heads in
    ap (λ (x : Page). x ∷ ps) (page_is p q parts.0 parts.1)
    ∙ ap (λ (xs : List Page). q ∷ xs)
    (pages_same ps qs (All-tail IsWhole p ps one) (All-tail IsWhole q qs other)
    (tail_of (page_bytes p) (page_bytes q) (map page_bytes ps) (map page_bytes qs) same))
  where
    head_of : (x y : List ℕ) (xs ys : List (List ℕ)) → x ∷ xs ≡ y ∷ ys → x ≡ y
    head_of x y xs ys e = cc

    tail_of : (x y : List ℕ) (xs ys : List (List ℕ)) → x ∷ xs ≡ y ∷ ys → xs ≡ ys
    tail_of x y xs ys e = cc
pages_same [] (q ∷ qs) one other same = absurd (none same)
  where
    none : [] ≡ page_bytes q ∷ map page_bytes qs → ⊥
    none e = cc
pages_same (p ∷ ps) [] one other same = absurd (none same)
  where
    none : page_bytes p ∷ map page_bytes ps ≡ [] → ⊥
    none e = cc

-- ## Blocks

bad_same : (a b : Bool) → bad_byte a ≡ bad_byte b → a ≡ b
bad_same true true e = refl
bad_same false false e = refl
bad_same true false e = absurd (none e)
  where
    none : bad_byte true ≡ bad_byte false → ⊥
    none h = omega (arith, h)
bad_same false true e = absurd (none e)
  where
    none : bad_byte false ≡ bad_byte true → ⊥
    none h = omega (arith, h)

-- both hold one thing in a block
abbrev pub HoldOne : DieState → DieState → ℕ → Type 0
HoldOne d e block = (is_bad_block d block ≡ is_bad_block e block) × (pages_of d block ≡ pages_of e block)

module _ (blocks pages : ℕ) (d e : DieState) (size : IsOfSize blocks pages d) (other : IsOfSize blocks pages e)
    (whole : AreWhole d) (also : AreWhole e) where
  long_of : (x : DieState) → IsOfSize blocks pages x → AreWhole x → (block : ℕ) → block < blocks →
      length (flat_map page_bytes (pages_of x block)) ≡ 4192 * pages
  long_of x is all block less =
      many (pages_of x block) (all block) ∙ ap (λ (n : ℕ). 4192 * n) (pages_in x block blocks pages less is)
    where
      many : (ps : List Page) → All IsWhole ps → length (flat_map page_bytes ps) ≡ 4192 * length ps
      many [] h = refl
      many (p ∷ ps) h =
          let first = page_long p (All-head IsWhole p ps h) in
          let rest = many ps (All-tail IsWhole p ps h) in
          let all_of = length-append (page_bytes p) (flat_map page_bytes ps) in
          ap (λ (l : List ℕ). length l) (flat_map-cons page_bytes p ps) ∙ omega (arith, first, rest, all_of)

  block_same : (block : ℕ) → block < blocks → block_bytes d block ≡ block_bytes e block → HoldOne d e block
  block_same block less same = (
    bad_same (is_bad_block d block) (is_bad_block e block)
        (head_of (bad_byte (is_bad_block d block)) (bad_byte (is_bad_block e block))
        (flat_map page_bytes (pages_of d block)) (flat_map page_bytes (pages_of e block)) same),
    pages_same (pages_of d block) (pages_of e block) (whole block) (also block)
        (rows_same page_bytes 4192 (pages_of d block) (pages_of e block)
        (pages_in d block blocks pages less size ∙ sym (pages_in e block blocks pages less other))
        (are_long d whole) (are_long e also)
        (tail_of (bad_byte (is_bad_block d block)) (bad_byte (is_bad_block e block))
        (flat_map page_bytes (pages_of d block)) (flat_map page_bytes (pages_of e block)) same)),
  )
    where
      head_of : (x y : ℕ) (xs ys : List ℕ) → x ∷ xs ≡ y ∷ ys → x ≡ y
      head_of x y xs ys h = cc

      tail_of : (x y : ℕ) (xs ys : List ℕ) → x ∷ xs ≡ y ∷ ys → xs ≡ ys
      tail_of x y xs ys h = cc

      are_long : (x : DieState) → AreWhole x → All (λ p. length (page_bytes p) ≡ 4192) (pages_of x block)
      are_long x all = λ k p inside. page_long _ (all block k p inside)

  long_block : (x : DieState) → IsOfSize blocks pages x → AreWhole x → (block : ℕ) → block < blocks →
      length (block_bytes x block) ≡ suc (4192 * pages)
  long_block x is all block less = ap suc (long_of x is all block less)

  long_blocks : (x : DieState) → IsOfSize blocks pages x → AreWhole x → (k : ℕ) → k ≤ blocks →
      length (blocks_bytes x k) ≡ k * suc (4192 * pages)
  long_blocks x is all zero less = sym (zero-mul (suc (4192 * pages)))
  long_blocks x is all (suc k) less =
      length-append (blocks_bytes x k) (block_bytes x k)
      ∙ ap (λ (n : ℕ). n + length (block_bytes x k)) (long_blocks x is all k (omega (arith, less)))
      ∙ ap (λ (n : ℕ). k * suc (4192 * pages) + n) (long_block x is all k (omega (arith, less)))
      ∙ grow
    where
      grow : k * suc (4192 * pages) + suc (4192 * pages) ≡ suc k * suc (4192 * pages)
      grow = let more = suc-mul k (suc (4192 * pages)) in omega (arith, more)

  blocks_same : (k : ℕ) → k ≤ blocks → blocks_bytes d k ≡ blocks_bytes e k → (block : ℕ) → block < k → HoldOne d e block
  blocks_same zero less same block below = absurd (none below)
    where
      none : block < 0 → ⊥
      none h = omega (arith, h)
  blocks_same (suc k) less same block below =
      let under : k ≤ blocks = omega (arith, less) in
      let parts =
      parts_same (blocks_bytes d k) (blocks_bytes e k) (block_bytes d k) (block_bytes e k)
      (long_blocks d size whole k under ∙ sym (long_blocks e other also k under)) same in
      elim (cases_lt block k) [
        | inl earlier ↦ blocks_same k under parts.0 block earlier
        | inr later ↦
            let is : k ≡ block = omega (arith, below, later) in
            subst (HoldOne d e) is (block_same k (omega (arith, less)) parts.1)
      ]

-- ## Dies

die_long : (blocks pages : ℕ) (d : DieState) → IsOfSize blocks pages d → AreWhole d →
    length (die_bytes d) ≡ blocks * suc (4192 * pages)
die_long blocks pages d size whole =
    ap (λ (k : ℕ). length (blocks_bytes d k)) size.0
    ∙ long_blocks blocks pages d d size size whole whole d size whole blocks (le_refl blocks)

-- a block that no die has
past_block : (blocks pages : ℕ) (d : DieState) (block : ℕ) → IsOfSize blocks pages d → blocks ≤ block →
    (is_bad_block d block ≡ false) × (pages_of d block ≡ [])
past_block blocks pages d block size past = (
  get_or_past d.bad block false (subst (λ (k : ℕ). k ≤ block) (sym size.3) past),
  get_or_past d.blocks block [] (subst (λ (k : ℕ). k ≤ block) (sym size.0) past),
)

die_same : (blocks pages : ℕ) (d e : DieState) → IsOfSize blocks pages d → IsOfSize blocks pages e → AreWhole d →
    AreWhole e → die_bytes d ≡ die_bytes e → (block : ℕ) → HoldOne d e block
die_same blocks pages d e size other whole also same block =
    elim (cases_lt block blocks) [
      | inl less ↦
          blocks_same blocks pages d e size other whole also blocks (le_refl blocks)
          (ap (λ (k : ℕ). blocks_bytes d k) (sym size.0) ∙ same ∙ ap (λ (k : ℕ). blocks_bytes e k) other.0) block less
      | inr past ↦
          let one = past_block blocks pages d block size past in
          let two = past_block blocks pages e block other past in
          (one.0 ∙ sym two.0, one.1 ∙ sym two.1)
    ]

module _ (n : Numbers) (dies others : List DieState) (fit : Fit n dies) (also : Fit n others)
    (whole : All AreWhole dies) (too : All AreWhole others)
    (same : flat_map die_bytes dies ≡ flat_map die_bytes others) where
  long_all : (ds : List DieState) → All (IsOfSize n.blocks n.pages) ds → All AreWhole ds →
      All (λ d. length (die_bytes d) ≡ n.blocks * suc (4192 * n.pages)) ds
  long_all ds sizes all = λ k d less. die_long n.blocks n.pages _ (sizes k d less) (all k d less)

  bytes_same : map die_bytes dies ≡ map die_bytes others
  bytes_same =
      rows_same die_bytes (n.blocks * suc (4192 * n.pages)) dies others (fit.0 ∙ sym also.0)
      (long_all dies fit.1 whole) (long_all others also.1 too) same

  abbrev at : List DieState → ℕ → DieState
  at ds die = slice_index_or ds die (new_die 0 0)

  one_same : (die : ℕ) → die < n.dies → die_bytes (at dies die) ≡ die_bytes (at others die)
  one_same die less =
      sym (get_or-map die_bytes dies die (new_die 0 0))
      ∙ ap (λ (xs : List (List ℕ)). slice_index_or xs die (die_bytes (new_die 0 0))) bytes_same
      ∙ get_or-map die_bytes others die (new_die 0 0)

  holds : (die block : ℕ) → HoldOne (at dies die) (at others die) block
  holds die block =
      elim (cases_lt die n.dies) [
        | inl less ↦
            let here : die < length dies = subst (λ (k : ℕ). die < k) (sym fit.0) less in
            let there : die < length others = subst (λ (k : ℕ). die < k) (sym also.0) less in
            die_same n.blocks n.pages (at dies die) (at others die)
            (All-get_or (IsOfSize n.blocks n.pages) dies die (new_die 0 0) here fit.1)
            (All-get_or (IsOfSize n.blocks n.pages) others die (new_die 0 0) there also.1)
            (All-get_or AreWhole dies die (new_die 0 0) here whole)
            (All-get_or AreWhole others die (new_die 0 0) there too) (one_same die less) block
        | inr past ↦
            let none = get_or_past dies die (new_die 0 0) (subst (λ (k : ℕ). k ≤ die) (sym fit.0) past) in
            let neither = get_or_past others die (new_die 0 0) (subst (λ (k : ℕ). k ≤ die) (sym also.0) past) in
            subst (λ (d : DieState). HoldOne d (at others die) block) (sym none)
            (subst (λ (d : DieState). HoldOne (new_die 0 0) d block) (sym neither) (refl, refl))
      ]

  pub pages_are_same : array_of others ≡ array_of dies
  pages_are_same = λ i p. ap (λ (ps : List Page). slice_index_or ps p.page blank_page) (sym (holds p.die p.block).1) i

  pub bad_are_same : bad_of others ≡ bad_of dies
  bad_are_same = λ i spot. sym (holds spot.die spot.block).0 i
