-- The states of all blocks, in order by die and block.
use Rattle.ftl_core.proofs.Common.{BlockState, BlocksKept, Bool, IsFilling, List, None, Numbers, OpenBlock, Option}
use Rattle.ftl_core.proofs.Common.{Place, Some, Spot, [], ap, arith, at_spot, below, block_kept, cases_lt, cond}
use Rattle.ftl_core.proofs.Common.{cons_option, eqb_tells, false, filter_map, filter_map-append, find, found_or, get_or}
use Rattle.ftl_core.proofs.Common.{inl, inr, is_bad, length, map, map-append, next_place, option_map, refl, slice_get}
use Rattle.ftl_core.proofs.Common.{slice_get-map, slice_set, spot_at, spots, subst, suc, sym, true, zero, ℕ, ◌++◌, ◌+◌}
use Rattle.ftl_core.proofs.Common.{◌-◌, ◌<◌, ◌==◌, ◌∙◌, ◌∷◌, ◌≡◌, ◌≢◌, ◌≤◌, ◌⊎◌}
use Rattle.std.proofs.Common.{flat_map, set}
use Rattle.std.specs.Prelude.{count_by, ◌*◌}
use Rattle.std.specs.Option.{option_or}
use Rattle.std.proofs.Math.Nat.{mul-le-mul_left}
use Rattle.std.proofs.lemmas.List.{get_or-append_right, get_or-set_other, get_or-set_same, get_or_append_left}
use Rattle.std.proofs.lemmas.List.{length-set, set-append_left, set-append_right}
use Rattle.std.proofs.lemmas.List.Folds.{find-append, fold-map}
use Rattle.std.proofs.lemmas.Option.{slice_get-get_or}
use Rattle.ufs_spec.specs.Disk as disk
use Rattle.ufs_spec.specs.Translation as layer
use Rattle.ufs_spec.specs.Translation.{first_of, next_in, spots_of}
use Rattle.ufs_laws.proofs.plain_contents.ListParts.{get_or-made, joined_next, joined_same, length-joined, length-made}
use Rattle.ufs_laws.proofs.plain_contents.ListParts.{made_of, made_same}
use Rattle.power_loss.proofs.jobs.StandsSecurely.{at_spot_here, at_spot_other}
use Rattle.block_table.specs.declared.BlockState.TheVariants as state
use Rattle.block_table.specs.Blocks.{is_free}
use Rattle.ftl_core.specs.Takes.{lowest_below}

-- Rows of the same length

-- the elements of each row, in order by row and column
abbrev joined : {X : Type 0} → (ℕ → ℕ → X) → ℕ → ℕ → List X
joined f columns rows = flat_map (λ row. map (f row) (below columns)) (below rows)

length-row : {X : Type 0} (f : ℕ → ℕ → X) (columns row : ℕ) → length (map (f row) (below columns)) ≡ columns
length-row f columns row = length-made (f row) columns

length-rows : {X : Type 0} (f : ℕ → ℕ → X) (columns rows : ℕ) → length (joined f columns rows) ≡ columns * rows
length-rows f columns rows = length-joined (λ row. map (f row) (below columns)) columns rows
    (λ row lt. length-row f columns row)

next_row : {X : Type 0} (f : ℕ → ℕ → X) (columns rows : ℕ) →
    joined f columns (suc rows) ≡ joined f columns rows ++ map (f rows) (below columns)
next_row f columns rows = joined_next (λ row. map (f row) (below columns)) rows

-- a place of a row before the last
place_before : (columns rows row column : ℕ) → row < rows → column < columns → row * columns + column < columns * rows
place_before columns rows row column low within =
    let room : columns * suc row ≤ columns * rows = mul-le-mul_left columns low in
    omega arith

-- the element of a row and a column
element_there : {X : Type 0} (f : ℕ → ℕ → X) (columns rows row column : ℕ) (d : X) → row < rows → column < columns →
    get_or (joined f columns rows) (row * columns + column) d ≡ f row column
element_there f columns zero row column d there within = absurd (omega arith)
element_there {X} f columns (suc rows) row column d there within =
    let front : length (joined f columns rows) ≡ columns * rows = length-rows f columns rows in
    ap (λ (xs : List X). get_or xs (row * columns + column) d) (next_row f columns rows)
    ∙ elim (cases_lt row rows) [
      | inl low ↦
          (let place = place_before columns rows row column low within in
          let here : row * columns + column < length (joined f columns rows) = omega arith in
          get_or_append_left (joined f columns rows) (map (f rows) (below columns)) d (row * columns + column) here
          ∙ element_there f columns rows row column d low within)
      | inr high ↦
          (let same : rows ≡ row = omega arith in
          let long : length (joined f columns rows) ≡ row * columns = front ∙ ap (λ (k : ℕ). columns * k) same
          ∙ omega arith in
          let rest : row * columns + column - row * columns ≡ column = omega arith in
          get_or-append_right (joined f columns rows) (map (f rows) (below columns)) (row * columns)
          (row * columns + column) d long (omega arith)
          ∙ (ap (λ (k : ℕ). get_or (map (f rows) (below columns)) k d) rest
          ∙ (get_or-made (f rows) columns column d within ∙ ap (λ (k : ℕ). f k column) same)))
    ]

-- a function of each element
mapped : {X Y : Type 0} (g : X → Y) (f : ℕ → ℕ → X) (columns rows : ℕ) →
    map g (joined f columns rows) ≡ joined (λ row column. g (f row column)) columns rows
mapped g f columns zero = refl
mapped {X} {Y} g f columns (suc rows) =
    ap (map g) (next_row f columns rows)
    ∙ (map-append g (joined f columns rows) (map (f rows) (below columns))
    ∙ (ap (λ (ys : List Y). ys ++ map g (map (f rows) (below columns))) (mapped g f columns rows)
    ∙ (ap (λ (ys : List Y). joined (λ row column. g (f row column)) columns rows ++ ys) (row_mapped (below columns))
    ∙ sym (next_row (λ row column. g (f row column)) columns rows))))
  where
    row_mapped : (ks : List ℕ) → map g (map (f rows) ks) ≡ map (λ column. g (f rows column)) ks
    row_mapped [] = refl
    row_mapped (k ∷ ks) = ap (λ (ys : List Y). g (f rows k) ∷ ys) (row_mapped ks)

-- one element of a row is another
row_set : {X : Type 0} (f g : ℕ → X) (columns column : ℕ) → column < columns → ((c : ℕ) → c ≢ column → g c ≡ f c) →
    map g (below columns) ≡ set (map f (below columns)) column (g column)
row_set {X} f g columns column within other =
    made_of g columns (set (map f (below columns)) column (g column))
    (length-set (map f (below columns)) column (g column) ∙ length-made f columns)
    (λ (i : ℕ) (d : X) lt. at i d lt (eqb_tells i column))
  where
    long : length (map f (below columns)) ≡ columns
    long = length-made f columns

    at : (i : ℕ) (d : X) → i < columns →
        (((i == column) ≡ true) × (i ≡ column)) ⊎ (((i == column) ≡ false) × (i ≢ column)) →
        g i ≡ get_or (set (map f (below columns)) column (g column)) i d
    at i d lt (inl h) =
        ap g h.1 ∙ sym (ap (λ (k : ℕ). get_or (set (map f (below columns)) column (g column)) k d) h.1
        ∙ get_or-set_same (map f (below columns)) column (g column) d (subst (λ (k : ℕ). column < k) (sym long) within))
    at i d lt (inr h) =
        other i h.1 ∙ (sym (get_or-made f columns i d lt)
        ∙ sym (get_or-set_other (map f (below columns)) column i (g column) d h.1))

-- one element of all is another
rows_set : {X : Type 0} (f g : ℕ → ℕ → X) (columns rows row column : ℕ) → row < rows → column < columns →
    ((r c : ℕ) → ((r ≡ row) × (c ≡ column) → ⊥) → g r c ≡ f r c) →
    joined g columns rows ≡ set (joined f columns rows) (row * columns + column) (g row column)
rows_set f g columns zero row column there within other = absurd (omega arith)
rows_set {X} f g columns (suc rows) row column there within other =
    next_row g columns rows
    ∙ (elim (cases_lt row rows) as (λ w. joined g columns rows ++ map (g rows) (below columns)
    ≡ set (joined f columns rows ++ map (f rows) (below columns)) (row * columns + column) (g row column)) [
      | inl low ↦
          (let place = place_before columns rows row column low within in
          let long : length (joined f columns rows) ≡ columns * rows = front in
          let here : row * columns + column < length (joined f columns rows) = omega arith in
          let apart : (c : ℕ) → (rows ≡ row) × (c ≡ column) →
          ⊥ = λ (c : ℕ) (e : (rows ≡ row) × (c ≡ column)). (let same = e.0 in omega arith) in
          let last : map (g rows) (below columns) ≡ map (f rows) (below columns) =
          made_same (g rows) (f rows) columns (λ (c : ℕ) lt. other rows c (apart c)) in
          ap (λ (ys : List X). joined g columns rows ++ ys) last
          ∙ (ap (λ (xs : List X). xs ++ map (f rows) (below columns))
          (rows_set f g columns rows row column low within other)
          ∙ sym (set-append_left (joined f columns rows) (map (f rows) (below columns)) (row * columns + column)
          (g row column) here)))
      | inr high ↦
          (let same : rows ≡ row = omega arith in
          let long : length (joined f columns rows) ≡ row * columns = front ∙ ap (λ (k : ℕ). columns * k) same
          ∙ omega arith in
          let rest : column ≡ row * columns + column - row * columns = omega arith in
          let before : joined g columns rows ≡ joined f columns rows = same_front same in
          let last : map (g rows) (below columns) ≡ set (map (f rows) (below columns)) column (g rows column) =
          row_set (f rows) (g rows) columns column within
          (λ c apart. other rows c (λ (e : (rows ≡ row) × (c ≡ column)). apart e.1)) in
          ap (λ (xs : List X). xs ++ map (g rows) (below columns)) before
          ∙ (ap (λ (ys : List X). joined f columns rows ++ ys)
          (last
          ∙ (ap (λ (k : ℕ). set (map (f rows) (below columns)) k (g rows column)) rest
          ∙ ap (λ (r : ℕ). set (map (f rows) (below columns)) (row * columns + column - row * columns) (g r column))
          same))
          ∙ sym (set-append_right (joined f columns rows) (map (f rows) (below columns)) (row * columns)
          (row * columns + column) (g row column) long (omega arith))))
    ]
    ∙ ap (λ (xs : List X). set xs (row * columns + column) (g row column)) (sym (next_row f columns rows)))
  where
    front : length (joined f columns rows) ≡ columns * rows
    front = length-rows f columns rows

    same_front : rows ≡ row → joined g columns rows ≡ joined f columns rows
    same_front same =
        joined_same (λ r. map (g r) (below columns)) (λ r. map (f r) (below columns)) rows
        (λ (r : ℕ) (lt : r < rows). made_same (g r) (f r) columns (λ (c : ℕ) low. other r c (apart r c lt same)))
      where
        apart : (r c : ℕ) → r < rows → rows ≡ row → (r ≡ row) × (c ≡ column) → ⊥
        apart r c lt same e = let one = e.0 in omega arith

-- The blocks

-- the block of a die and a number
spot_there : (n : Numbers) (die block : ℕ) (d : Spot) → die < n.dies → block < n.blocks →
    get_or (spots n) (die * n.blocks + block) d ≡ spot_at die block
spot_there n die block d there within = element_there spot_at n.blocks n.dies die block d there within

place_of_block : (n : Numbers) (die block : ℕ) → die < n.dies → block < n.blocks →
    die * n.blocks + block < length (spots n)
place_of_block n die block there within =
    let low = place_before n.blocks n.dies die block there within in
    let long : length (spots n) ≡ n.blocks * n.dies = length-rows spot_at n.blocks n.dies in
    omega arith

-- its state
pub state_there : (n : Numbers) (f : Spot → BlockState) (die block : ℕ) → die < n.dies → block < n.blocks →
    slice_get (map f (spots n)) (die * n.blocks + block) ≡ Some (f (spot_at die block))
state_there n f die block there within =
    let here = place_of_block n die block there within in
    slice_get-map f (spots n) (die * n.blocks + block)
    ∙ ap (option_map f) (slice_get-get_or (spots n) (die * n.blocks + block) (spot_at die block) here
    ∙ ap (λ (s : Spot). Some s) (spot_there n die block (spot_at die block) there within))

pub same_free : (s : disk.BlockState) (v : disk.Vacancy) → is_free (block_kept s v) ≡ layer.is_free s
same_free disk.Free disk.Untouched = refl
same_free disk.Free disk.Stale = refl
same_free disk.Free disk.Ready = refl
same_free (disk.Filling next) v = refl
same_free disk.Closed v = refl
same_free disk.Bad v = refl

pub same_bad : (s : disk.BlockState) (v : disk.Vacancy) → is_bad (block_kept s v) ≡ layer.is_bad s
same_bad disk.Free disk.Untouched = refl
same_bad disk.Free disk.Stale = refl
same_bad disk.Free disk.Ready = refl
same_bad (disk.Filling next) v = refl
same_bad disk.Closed v = refl
same_bad disk.Bad v = refl

-- the free blocks, counted by either of their states
pub free_counted : (n : Numbers) (f : Spot → disk.BlockState) (g : Spot → disk.Vacancy) →
    count_by is_free (map (λ (s : Spot). block_kept (f s) (g s)) (spots n))
    ≡ count_by (λ (s : Spot). layer.is_free (f s)) (spots n)
free_counted n f g =
    fold-map (λ (a : ℕ) (x : BlockState). a + cond (is_free x) 1 0) (λ (s : Spot). block_kept (f s) (g s)) 0 (spots n)
    ∙ ap (λ (test : Spot → Bool). count_by test (spots n)) (λ i s. same_free (f s) (g s) i)

-- the bad blocks, counted by either of their states
pub bad_counted : (n : Numbers) (f : Spot → disk.BlockState) (g : Spot → disk.Vacancy) →
    count_by is_bad (map (λ (s : Spot). block_kept (f s) (g s)) (spots n))
    ≡ count_by (λ (s : Spot). layer.is_bad (f s)) (spots n)
bad_counted n f g =
    fold-map (λ (a : ℕ) (x : BlockState). a + cond (is_bad x) 1 0) (λ (s : Spot). block_kept (f s) (g s)) 0 (spots n)
    ∙ ap (λ (test : Spot → Bool). count_by test (spots n)) (λ i s. same_bad (f s) (g s) i)

found_last : {X : Type 0} (g : ℕ → X) (o : Option ℕ) (b : Bool) (n : ℕ) →
    option_or (option_map g o) (cond b (Some (g n)) None) ≡ option_map g (found_or o b n)
found_last g None true n = refl
found_last g None false n = refl
found_last g (Some k) b n = refl

found_in : (die : ℕ) (test : Spot → Bool) (n : ℕ) →
    find test (map (spot_at die) (below n)) ≡ option_map (spot_at die) (lowest_below (λ b. test (spot_at die b)) n)
unfolding lowest_below
found_in die test zero = refl
found_in die test (suc n) =
    ap (find test) (map-append (spot_at die) (below n) (n ∷ []))
    ∙ (find-append test (map (spot_at die) (below n)) (spot_at die n ∷ [])
    ∙ (ap (λ (o : Option Spot). option_or o (find test (spot_at die n ∷ []))) (found_in die test n)
    ∙ found_last (spot_at die) (lowest_below (λ b. test (spot_at die b)) n) (test (spot_at die n)) n))

-- the first block of a die that passes is the lowest
pub found_lowest : (n : Numbers) (die : ℕ) (test : Spot → Bool) →
    find test (spots_of n die) ≡ option_map (spot_at die) (lowest_below (λ b. test (spot_at die b)) n.blocks)
found_lowest n die test = found_in die test n.blocks

-- the next pages of the first blocks of the die
abbrev nexts : (Spot → disk.BlockState) → ℕ → ℕ → List Place
nexts blocks die n = filter_map (λ (s : Spot). next_in s (blocks s)) (map (spot_at die) (below n))

nexts_more : (blocks : Spot → disk.BlockState) (die n : ℕ) →
    nexts blocks die (suc n) ≡ nexts blocks die n ++ cons_option (next_in (spot_at die n) (blocks (spot_at die n))) []
nexts_more blocks die n =
    ap (filter_map (λ (s : Spot). next_in s (blocks s))) (map-append (spot_at die) (below n) (n ∷ []))
    ∙ filter_map-append (λ (s : Spot). next_in s (blocks s)) (map (spot_at die) (below n)) (spot_at die n ∷ [])

no_next : (s : Spot) (b : disk.BlockState) → ((next : ℕ) → b ≡ disk.Filling next → ⊥) → next_in s b ≡ None
no_next s disk.Free none = refl
no_next s (disk.Filling next) none = absurd (none next refl)
no_next s disk.Closed none = refl
no_next s disk.Bad none = refl

none_next : (blocks : Spot → disk.BlockState) (die n : ℕ) →
    ((block next : ℕ) → block < n → blocks (spot_at die block) ≡ disk.Filling next → ⊥) →
    nexts blocks die n ≡ []
none_next blocks die zero none = refl
none_next blocks die (suc n) none =
    nexts_more blocks die n
    ∙ (ap (λ (xs : List Place). xs ++ cons_option (next_in (spot_at die n) (blocks (spot_at die n))) [])
    (none_next blocks die n (λ block next lt. none block next (omega arith)))
    ∙ ap (λ (o : Option Place). cons_option o [])
    (no_next (spot_at die n) (blocks (spot_at die n)) (λ next. none n next (omega arith))))

one_next : (blocks : Spot → disk.BlockState) (die n : ℕ) (o : OpenBlock) → o.block < n →
    blocks (spot_at die o.block) ≡ disk.Filling o.next →
    ((block next : ℕ) → block < n → blocks (spot_at die block) ≡ disk.Filling next → block ≡ o.block) →
    nexts blocks die n ≡ next_place die o ∷ []
one_next blocks die zero o there is one = absurd (omega arith)
one_next blocks die (suc n) o there is one =
    nexts_more blocks die n ∙ elim (cases_lt o.block n) [
      | inl low ↦
          (let before = one_next blocks die n o low is (λ block next lt. one block next (omega arith)) in
          let last : (next : ℕ) → blocks (spot_at die n) ≡ disk.Filling next → ⊥ =
          λ (next : ℕ) e. (let same : n ≡ o.block = one n next (omega arith) e in omega arith) in
          ap (λ (xs : List Place). xs ++ cons_option (next_in (spot_at die n) (blocks (spot_at die n))) []) before
          ∙ ap (λ (p : Option Place). next_place die o ∷ cons_option p [])
          (no_next (spot_at die n) (blocks (spot_at die n)) last))
      | inr high ↦
          (let same : n ≡ o.block = omega arith in
          let before = none_next blocks die n
          (λ block next lt e. (let here : block ≡ o.block = one block next (omega arith) e in omega arith)) in
          let last : next_in (spot_at die n) (blocks (spot_at die n)) ≡ Some (next_place die o) =
          ap (λ (k : ℕ). next_in (spot_at die k) (blocks (spot_at die k))) same
          ∙ ap (next_in (spot_at die o.block)) is in
          ap (λ (xs : List Place). xs ++ cons_option (next_in (spot_at die n) (blocks (spot_at die n))) []) before
          ∙ ap (λ (p : Option Place). cons_option p []) last)
    ]

-- the next page of a die's open block
pub next_found : (n : Numbers) (blocks : Spot → disk.BlockState) (die : ℕ) (filling : Option OpenBlock) →
    IsFilling n blocks die filling →
    first_of (filter_map (λ (s : Spot). next_in s (blocks s)) (spots_of n die)) ≡ option_map (next_place die) filling
next_found n blocks die None h = ap (λ (xs : List Place). first_of xs) (none_next blocks die n.blocks h)
next_found n blocks die (Some o) h = ap (λ (xs : List Place). first_of xs) (one_next blocks die n.blocks o h.0 h.1 h.2)

-- the state of one block is another
states_put : (n : Numbers) (was is : Spot → BlockState) (s : Spot) → s.die < n.dies → s.block < n.blocks →
    ((t : Spot) → t ≢ s → is t ≡ was t) →
    slice_set (map was (spots n)) (s.die * n.blocks + s.block) (is s) ≡ map is (spots n)
states_put n was is s there within other =
    ap (λ (xs : List BlockState). set xs (s.die * n.blocks + s.block) (is s)) (mapped was spot_at n.blocks n.dies)
    ∙ (sym (rows_set (λ die block. was (spot_at die block)) (λ die block. is (spot_at die block)) n.blocks n.dies s.die
    s.block there within
    (λ r c apart. other (spot_at r c)
    (λ e. apart (ap (λ (u : Spot). u.die) e, ap (λ (u : Spot). u.block) e))))
    ∙ sym (mapped is spot_at n.blocks n.dies))

-- a block and what is in it change
block_changed : (n : Numbers) (blocks now : Spot → disk.BlockState) (vacancies held : Spot → disk.Vacancy)
    (states : List BlockState) (s : Spot) → BlocksKept n blocks vacancies states →
    s.die < n.dies → s.block < n.blocks → ((t : Spot) → t ≢ s → now t ≡ blocks t) →
    ((t : Spot) → t ≢ s → held t ≡ vacancies t) →
    BlocksKept n now held (slice_set states (s.die * n.blocks + s.block) (block_kept (now s) (held s)))
block_changed n blocks now vacancies held states s h die block others beside =
    ap (λ (xs : List BlockState). set xs (s.die * n.blocks + s.block) (block_kept (now s) (held s))) h
    ∙ states_put n (λ (t : Spot). block_kept (blocks t) (vacancies t)) (λ (t : Spot). block_kept (now t) (held t)) s
    die block (λ t apart. (λ i. block_kept (others t apart i) (beside t apart i)))

-- a block's state changes
pub block_put : (n : Numbers) (blocks : Spot → disk.BlockState) (vacancies : Spot → disk.Vacancy)
    (states : List BlockState) (s : Spot) (x : disk.BlockState) →
    BlocksKept n blocks vacancies states → s.die < n.dies → s.block < n.blocks →
    BlocksKept n (at_spot blocks s x) vacancies
    (slice_set states (s.die * n.blocks + s.block) (block_kept x (vacancies s)))
block_put n blocks vacancies states s x h die block =
    subst (λ (y : disk.BlockState). BlocksKept n (at_spot blocks s x) vacancies
    (slice_set states (s.die * n.blocks + s.block) (block_kept y (vacancies s)))) (at_spot_here blocks s x s refl)
    (block_changed n blocks (at_spot blocks s x) vacancies vacancies states s h die block
    (λ t apart. at_spot_other blocks s x t apart) (λ t apart. refl))

-- a block is free from now on, and what is in it is so
pub block_vacant : (n : Numbers) (blocks : Spot → disk.BlockState) (vacancies : Spot → disk.Vacancy)
    (states : List BlockState) (s : Spot) (v : disk.Vacancy) →
    BlocksKept n blocks vacancies states → s.die < n.dies → s.block < n.blocks →
    BlocksKept n (at_spot blocks s disk.Free) (at_spot vacancies s v)
    (slice_set states (s.die * n.blocks + s.block) (block_kept disk.Free v))
block_vacant n blocks vacancies states s v h die block =
    subst (λ (y : BlockState). BlocksKept n (at_spot blocks s disk.Free) (at_spot vacancies s v)
    (slice_set states (s.die * n.blocks + s.block) y))
    (λ i. block_kept (at_spot_here blocks s disk.Free s refl i) (at_spot_here vacancies s v s refl i))
    (block_changed n blocks (at_spot blocks s disk.Free) vacancies (at_spot vacancies s v) states s h die block
    (λ t apart. at_spot_other blocks s disk.Free t apart) (λ t apart. at_spot_other vacancies s v t apart))

-- a block goes bad, whatever is in it
pub block_lost : (n : Numbers) (blocks : Spot → disk.BlockState) (vacancies held : Spot → disk.Vacancy)
    (states : List BlockState) (s : Spot) →
    BlocksKept n blocks vacancies states → s.die < n.dies → s.block < n.blocks →
    ((t : Spot) → t ≢ s → held t ≡ vacancies t) →
    BlocksKept n (at_spot blocks s disk.Bad) held (slice_set states (s.die * n.blocks + s.block) state.Bad)
block_lost n blocks vacancies held states s h die block beside =
    subst (λ (y : disk.BlockState). BlocksKept n (at_spot blocks s disk.Bad) held
    (slice_set states (s.die * n.blocks + s.block) (block_kept y (held s)))) (at_spot_here blocks s disk.Bad s refl)
    (block_changed n blocks (at_spot blocks s disk.Bad) vacancies held states s h die block
    (λ t apart. at_spot_other blocks s disk.Bad t apart) beside)
