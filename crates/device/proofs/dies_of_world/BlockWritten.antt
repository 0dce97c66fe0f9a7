-- The pages of a block, written one after another.
use Rattle.device.proofs.Common.{DieState, IsOfSize, List, Page, [], ap, arith, get_or-set_same, length, length-set}
use Rattle.device.proofs.Common.{pages_in, pages_of, refl, slice_index_or, slice_set, suc, sym, take, zero, ℕ, ◌++◌}
use Rattle.device.proofs.Common.{◌+◌, ◌<◌, ◌∙◌, ◌∷◌, ◌≡◌}
use Rattle.std.specs.Prelude.{drop}
use Rattle.std.proofs.lemmas.List.{set-get_or, set-set}
use Rattle.ufs_spec.specs.Dies.{LiesOnDie, with_block, with_page}

-- Lists

-- the first ones are written over
abbrev pub over : {A : Type 0} → ℕ → List A → List A → List A
over i new old = take i new ++ drop i old

over_length : {A : Type 0} (i : ℕ) (new old : List A) → length new ≡ length old → length (over i new old) ≡ length old
over_length zero new old same = refl
over_length (suc i) [] [] same = refl
over_length (suc i) [] (y ∷ old) same = absurd (omega (same, arith))
over_length (suc i) (x ∷ new) [] same = absurd (omega (same, arith))
over_length (suc i) (x ∷ new) (y ∷ old) same = ap suc (over_length i new old (omega (same, arith)))

over_next : {A : Type 0} (i : ℕ) (new old : List A) (d : A) → length new ≡ length old → i < length new →
    slice_set (over i new old) i (slice_index_or new i d) ≡ over (suc i) new old
over_next i [] old d same less = absurd (omega (less, arith))
over_next i (x ∷ new) [] d same less = absurd (omega (same, arith))
over_next zero (x ∷ new) (y ∷ old) d same less = refl
over_next (suc i) (x ∷ new) (y ∷ old) d same less =
    ap (λ zs. x ∷ zs) (over_next i new old d (omega (same, arith)) (omega (less, arith)))

-- A die

-- so many pages of the block are written
abbrev pub written_to : DieState → ℕ → List Page → ℕ → DieState
written_to d block pages i = with_block d block (over i pages (pages_of d block))

pub none_written : (d : DieState) (block : ℕ) (pages : List Page) → d ≡ written_to d block pages 0
none_written d block pages =
    sym (ap (λ (blocks : List (List Page)). record d { blocks = blocks }) (set-get_or d.blocks block []))

pages_there : (d : DieState) (block : ℕ) (pages : List Page) → block < length d.blocks →
    pages_of (with_block d block pages) block ≡ pages
pages_there d block pages l = get_or-set_same d.blocks block pages [] l

pub lies_there : (d : DieState) (block : ℕ) (pages : List Page) (i : ℕ) → block < length d.blocks →
    length pages ≡ length (pages_of d block) → i < length pages → LiesOnDie (written_to d block pages i) block i
lies_there d block pages i l same less =
    let new = over i pages (pages_of d block) in
    let blocks : length (slice_set d.blocks block new) ≡ length d.blocks = length-set d.blocks block new in
    let long : length (pages_of (written_to d block pages i) block) ≡ length (pages_of d block) =
    ap length (pages_there d block new l) ∙ over_length i pages (pages_of d block) same in
    (omega arith, omega arith)

one_written : (d : DieState) (block : ℕ) (pages : List Page) (i : ℕ) (none : Page) → block < length d.blocks →
    length pages ≡ length (pages_of d block) → i < length pages →
    with_page (written_to d block pages i) block i (slice_index_or pages i none) ≡ written_to d block pages (i + 1)
one_written d block pages i none l same less =
    let old = pages_of d block in
    let new = over i pages old in
    let x = slice_index_or pages i none in
    ap (λ (ps : List Page). with_block (with_block d block new) block (slice_set ps i x)) (pages_there d block new l)
    ∙ ap (λ (blocks : List (List Page)). record d { blocks = blocks })
    (set-set d.blocks block new (slice_set new i x))
    ∙ ap (with_block d block) (over_next i pages old none same less)
    ∙ ap (λ (k : ℕ). written_to d block pages k) (next i)
  where
    next : (k : ℕ) → suc k ≡ k + 1
    next k = omega arith

pub next_written : (d now after : DieState) (block : ℕ) (pages : List Page) (i : ℕ) (none : Page) →
    now ≡ written_to d block pages i → after ≡ with_page now block i (slice_index_or pages i none) →
    block < length d.blocks → length pages ≡ length (pages_of d block) → i < length pages →
    after ≡ written_to d block pages (i + 1)
next_written d now after block pages i none before is l same less =
    is ∙ (ap (λ (x : DieState). with_page x block i (slice_index_or pages i none)) before
    ∙ one_written d block pages i none l same less)

-- as many pages as each block has
pub pages_many : (d : DieState) (block pages : ℕ) → block < length d.blocks → IsOfSize (length d.blocks) pages d →
    length (pages_of d block) ≡ pages
pages_many d block pages l size = pages_in d block (length d.blocks) pages l size
