-- What the pages of some dies are, die by die.
use Rattle.recovery.proofs.Common.{Cells, DieState, IsCell, IsOfSize, List, Shows, ShowsDies, Some, ap, arith, array_of}
use Rattle.recovery.proofs.Common.{get_front, get_or, get_or_from_slice_get, length, length-map, map, new_die}
use Rattle.recovery.proofs.Common.{option_map, page_at, slice_get, slice_get-get_or, slice_get-map, slice_index_or}
use Rattle.recovery.proofs.Common.{subst, sym, ℕ, ◌++◌, ◌+◌, ◌<◌, ◌∙◌, ◌≡◌}
use Rattle.std.proofs.lemmas.List.Elements.{All-get_or}
use Rattle.std.specs.List.{All}
use Rattle.recovery.proofs.tables.Joined.{in_back}

-- the state of a die of the list
pub state_at : {D : Type 0} (state : D → DieState) (dies : List D) (states : List DieState) (i : ℕ) (d : D) →
    map state dies ≡ states → i < length dies → slice_get states i ≡ Some (state (get_or dies i d))
state_at state dies states i d same inside =
    ap (λ (ss : List DieState). slice_get ss i) (sym same)
    ∙ (slice_get-map state dies i ∙ ap (option_map state) (slice_get-get_or dies i d inside))

pub as_long : {D : Type 0} (state : D → DieState) (new old : List D) → map state new ≡ map state old →
    length new ≡ length old
as_long state new old same = sym (length-map new state) ∙ (ap length same ∙ length-map old state)

-- it has the sizes of all
pub size_at : {D : Type 0} (state : D → DieState) (dies : List D) (states : List DieState) (blocks pages i : ℕ)
    (d : D) → map state dies ≡ states → i < length dies → All (IsOfSize blocks pages) states →
    IsOfSize blocks pages (state (get_or dies i d))
size_at state dies states blocks pages i d same inside sizes =
    let at = state_at state dies states i d same inside in
    let long : length states ≡ length dies = ap length (sym same) ∙ length-map dies state in
    subst (IsOfSize blocks pages)
    (get_or_from_slice_get states i (state (get_or dies i d)) (new_die 0 0) at)
    (All-get_or (IsOfSize blocks pages) states i (new_die 0 0) (omega (arith, inside, long)) sizes)

-- what the array shows the dies show
pub all_shown : (states : List DieState) (c : Cells) → Shows (array_of states) c → ShowsDies 0 states c
all_shown states c shown i state at p e =
    subst (λ (s : DieState). IsCell (page_at s p.block p.page) (c p))
    (ap (λ (k : ℕ). slice_index_or states k (new_die 0 0)) (e ∙ from_none i)
    ∙ get_or_from_slice_get states i state (new_die 0 0) at) (shown p)
  where
    from_none : (i : ℕ) → 0 + i ≡ i
    from_none i = omega arith

-- dies and the dies behind them
pub front_shown : (first : ℕ) (xs ys : List DieState) (c : Cells) → ShowsDies first (xs ++ ys) c → ShowsDies first xs c
front_shown first xs ys c shown i state at = shown i state (get_front xs ys i state at)

pub back_shown : (first : ℕ) (xs ys : List DieState) (c : Cells) → ShowsDies first (xs ++ ys) c →
    ShowsDies (first + length xs) ys c
back_shown first xs ys c shown i state at p e =
    shown (length xs + i) state (in_back xs ys i ∙ at) p (e ∙ further first (length xs) i)
  where
    further : (a b k : ℕ) → (a + b) + k ≡ a + (b + k)
    further a b k = omega arith
