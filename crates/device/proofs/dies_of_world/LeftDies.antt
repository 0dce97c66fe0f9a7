-- What leftovers make of dies: their sizes, their pages and their bad blocks.
use Rattle.device.proofs.Common.{All-contains, All-weaker, AreLeftovers, Array, Bool, DieState, Erasing, Fit, Flight}
use Rattle.device.proofs.Common.{IsInside, IsLawfulLeftover, IsLeft, IsLeftoverOf, IsOfSize, IsPlace, Leftover, List}
use Rattle.device.proofs.Common.{None, Numbers, Option, Page, Place, Programming, Some, Spot, State, [], ap, arith}
use Rattle.device.proofs.Common.{array_of, bad_of, blank_page, die_at, die_of, dies_left, dies_left_by, false}
use Rattle.device.proofs.Common.{get_or-set_same, get_or_from_slice_get, get_or_past, has_page, inl, inr, length}
use Rattle.device.proofs.Common.{length-map, length-set, map, new_die, none-some, numbers_of, page_at, pages_in}
use Rattle.device.proofs.Common.{pages_of, power_cycle_ended, refl, slice_get, slice_index_or, slice_set, spot_of}
use Rattle.device.proofs.Common.{subst, sym, true, ℕ, ⊎_elim, ◌<◌, ◌∙◌, ◌∷◌, ◌≡◌, ◌≢◌, ◌≤◌, ◌⊎◌}
use Rattle.std.proofs.Common.{Contains, if◌then◌else◌}
use Rattle.std.proofs.Math.ListN.{get_or-map}
use Rattle.std.proofs.lemmas.List.Elements.{All-map, All-set}
use Rattle.std.proofs.lemmas.Option.{slice_get_cases}
use Rattle.ufs_spec.specs.DieLaws.{power_cycle_size, with_block_elsewhere, with_block_size}
use Rattle.ufs_spec.specs.DieLaws.{with_page_elsewhere_in_block, with_page_size, with_page_there}
use Rattle.ufs_spec.specs.Dies.{is_bad_block, with_block, with_page}
use Rattle.ufs_spec.specs.Disk.{same_spot}
use Rattle.ufs_spec.specs.Lives.{Stops, page_left}
use Rattle.ufs_spec.specs.declared.events.Leftover.TheVariants as leftover
use Rattle.power_loss.proofs.books.SmallFacts.{place_is, spot_cases}
use Rattle.ufs_spec.proofs.Equalities.{place_cases}
use Rattle.power_loss.proofs.stops.LeftoverLists.{contained_cases, first_contained, later_contained, none_contained}
use Rattle.power_loss.proofs.stops.LeftoverLists.{only_contained}
use Rattle.power_loss.specs.Exchange.{IsSpot, ValidState}
use Rattle.device.specs.Worlds.{block_of, die_left, dies_stopped}
use Rattle.device.proofs.dies_of_world.DieParts.{die_size, pages_put, put_bad}

-- Leftovers that lie on the dies

abbrev pub spot_left : Leftover → Spot
spot_left l = record { die = die_of l; block = block_of l }

pub on_a_die : (n : Numbers) (l : Leftover) → IsInside n l → die_of l < n.dies
on_a_die n (leftover.Page p page) h = h.die
on_a_die n (leftover.Block die block pages) h = h.0.die

pub in_a_block : (n : Numbers) (l : Leftover) → IsInside n l → block_of l < n.blocks
in_a_block n (leftover.Page p page) h = h.block
in_a_block n (leftover.Block die block pages) h = h.0.block

pub is_of_dies : (n : Numbers) (dies : List DieState) (l : Leftover) → Fit n dies → IsInside n l →
    die_of l < length dies
is_of_dies n dies l fit h =
    let many = fit.0 in
    let less = on_a_die n l h in omega arith

-- One die

pub left_size : (n : Numbers) (d : DieState) (l : Leftover) → IsInside n l → IsOfSize n.blocks n.pages d →
    IsOfSize n.blocks n.pages (die_left d l)
left_size n d (leftover.Page p page) h size = with_page_size d p.block p.page n.blocks n.pages page size
left_size n d (leftover.Block die block pages) h size = with_block_size d block n.blocks n.pages pages.items h.1 size

pub left_elsewhere : (d : DieState) (l : Leftover) (c i : ℕ) → c ≢ block_of l →
    page_at (die_left d l) c i ≡ page_at d c i
left_elsewhere d (leftover.Page p page) c i differ =
    with_block_elsewhere d p.block c i (slice_set (pages_of d p.block) p.page page) differ
left_elsewhere d (leftover.Block die block pages) c i differ = with_block_elsewhere d block c i pages.items differ

pub left_keeps_bad : (d : DieState) (l : Leftover) → (die_left d l).bad ≡ d.bad
left_keeps_bad d (leftover.Page p page) = refl
left_keeps_bad d (leftover.Block die block pages) = refl

pub left_keeps_ready : (d : DieState) (l : Leftover) → (die_left d l).ready ≡ d.ready
left_keeps_ready d (leftover.Page p page) = refl
left_keeps_ready d (leftover.Block die block pages) = refl

-- the page is one that the leftover names, or it is as it was and the leftover names it not
abbrev BecomesOf : Leftover → Place → Page → Page → Type 0
BecomesOf l p before now = page_left l p now ⊎ (((page : Page) → page_left l p page → ⊥) × (now ≡ before))

-- the pages of a block that was set
block_there : (d : DieState) (block i : ℕ) (pages : List Page) → block < length d.blocks →
    page_at (with_block d block pages) block i ≡ slice_index_or pages i blank_page
block_there d block i pages l =
    ap (λ (x : List Page). slice_index_or x i blank_page) (get_or-set_same d.blocks block pages [] l)

other_page : (p q : Place) → spot_of p ≡ spot_of q → p ≢ q → p.page ≢ q.page
other_page p q e differ same =
    differ (place_is p q (ap (λ (s : Spot). s.die) e) (ap (λ (s : Spot). s.block) e) same)

becomes_in : (n : Numbers) (d : DieState) (l : Leftover) (p : Place) → IsInside n l → IsOfSize n.blocks n.pages d →
    spot_of p ≡ spot_left l →
    BecomesOf l p (page_at d (block_of l) p.page) (page_at (die_left d l) (block_of l) p.page)
becomes_in n d (leftover.Page q page) p on size e =
    ⊎_elim
    (λ (h : (_ ≡ true) × (p ≡ q)).
    inl (
      sym h.1,
      ap (λ (z : Place). page_at (with_page d q.block q.page page) q.block z.page) h.1
          ∙ with_page_there d q.block q.page page (has_page d q.block q.page n.blocks n.pages on.block on.page size),
    ))
    (λ (h : (_ ≡ false) × (p ≢ q)).
    inr
    ((λ x k. h.1 (sym k.0)), with_page_elsewhere_in_block d q.block q.page p.page page (other_page p q e h.1)))
    (place_cases p q)
becomes_in n d (leftover.Block die block pages) p on size e =
    let now = page_at (with_block d block pages.items) block p.page in
    let many = size.0 in
    let less = on.0.block in
    let there = block_there d block p.page pages.items (omega arith) in
    let long = on.1 in
    let wide = pages_in d block n.blocks n.pages less size in
    ⊎_elim
    (λ (h : (x : Page) × (p.page < length pages.items) × (slice_get pages.items p.page ≡ Some x)
    × (slice_index_or pages.items p.page x ≡ x)).
    let is : now ≡ h.0 = there ∙ get_or_from_slice_get pages.items p.page h.0 blank_page h.2 in
    inl (e, h.2 ∙ ap (λ (x : Page). Some x) (sym is)))
    (λ (h : (length pages.items ≤ p.page) × (slice_get pages.items p.page ≡ None)).
    let past = h.0 in
    inr (
      (λ x k. none-some x (sym h.1 ∙ k.1)),
      there ∙ get_or_past pages.items p.page blank_page past
          ∙ sym (get_or_past (pages_of d block) p.page blank_page (omega arith)),
    ))
    (slice_get_cases pages.items p.page).1

named_spot : (l : Leftover) (p : Place) (page : Page) → page_left l p page → spot_of p ≡ spot_left l
named_spot (leftover.Page q left) p page h = ap spot_of (sym h.0)
named_spot (leftover.Block die block pages) p page h = h.0

-- Several dies, of which one holds what the leftover says

module _ (n : Numbers) (dies : List DieState) (l : Leftover) (fit : Fit n dies) (on : IsInside n l) (x : DieState)
    (same : (c i : ℕ) → page_at x c i ≡ page_at (die_left (die_at dies (die_of l)) l) c i) where
  abbrev d : DieState
  d = die_at dies (die_of l)

  abbrev after : List DieState
  after = slice_set dies (die_of l) x

  put : (q : Place) (b : Bool) → same_spot (spot_of q) (spot_left l) ≡ b →
      array_of after q ≡ (if b then page_at x (block_of l) q.page else array_of dies q)
  put q b e =
      pages_put dies (spot_left l) x q (is_of_dies n dies l fit on)
      (λ c i differ. same c i ∙ left_elsewhere d l c i differ) b e

  becomes : (q : Place) → BecomesOf l q (array_of dies q) (array_of after q)
  becomes q =
      ⊎_elim
      (λ (h : (same_spot (spot_of q) (spot_left l) ≡ true) × (spot_of q ≡ spot_left l)).
      subst (BecomesOf l q (array_of dies q)) (sym (put q true h.0 ∙ same (block_of l) q.page))
      (subst (λ (before : Page). BecomesOf l q before (page_at (die_left d l) (block_of l) q.page))
      (sym (ap (λ (s : Spot). page_at (die_at dies s.die) s.block q.page) h.1))
      (becomes_in n d l q on (die_size n dies (die_of l) fit (is_of_dies n dies l fit on)) h.1)))
      (λ (h : (same_spot (spot_of q) (spot_left l) ≡ false) × (spot_of q ≢ spot_left l)).
      inr ((λ page k. h.1 (named_spot l q page k)), put q false h.0))
      (spot_cases (spot_of q) (spot_left l))

  -- a page that the leftover names is as it says, and each other one as it was
  pub one_is_left : IsLeft (array_of dies) (l ∷ []) (array_of after)
  one_is_left p =
      ⊎_elim (λ (h : page_left l p (array_of after p)). inl (l, first_contained [], h))
      (λ (h : ((page : Page) → page_left l p page → ⊥) × (array_of after p ≡ array_of dies p)).
      inr
      ((λ m page there k. h.0 page (subst (λ (z : Leftover). page_left z p page) (only_contained there) k)), h.1))
      (becomes p)

-- Sizes and bad blocks

pub put_fit : (n : Numbers) (dies : List DieState) (die : ℕ) (x : DieState) → Fit n dies →
    IsOfSize n.blocks n.pages x → Fit n (slice_set dies die x)
put_fit n dies die x fit size =
    (length-set dies die x ∙ fit.0, All-set (IsOfSize n.blocks n.pages) dies die x size fit.1)

-- One leftover

pub left_by_fits : (n : Numbers) (dies : List DieState) (l : Leftover) → Fit n dies → IsInside n l →
    Fit n (dies_left_by dies l)
left_by_fits n dies l fit on =
    put_fit n dies (die_of l) (die_left (die_at dies (die_of l)) l) fit
    (left_size n (die_at dies (die_of l)) l on (die_size n dies (die_of l) fit (is_of_dies n dies l fit on)))

pub left_by_is : (n : Numbers) (dies : List DieState) (l : Leftover) → Fit n dies → IsInside n l →
    IsLeft (array_of dies) (l ∷ []) (array_of (dies_left_by dies l))
left_by_is n dies l fit on = one_is_left n dies l fit on (die_left (die_at dies (die_of l)) l) (λ c i. refl)

pub left_by_bad : (n : Numbers) (dies : List DieState) (l : Leftover) (spot : Spot) → Fit n dies → IsInside n l →
    bad_of (dies_left_by dies l) spot ≡ bad_of dies spot
left_by_bad n dies l spot fit on =
    put_bad dies (die_of l) (die_left (die_at dies (die_of l)) l) spot (is_of_dies n dies l fit on)
    (left_keeps_bad (die_at dies (die_of l)) l)

-- Several

abbrev pub AreInside : Numbers → List Leftover → Type 0
AreInside n ls = (l : Leftover) → Contains ls l → IsInside n l

pub left_fits : (n : Numbers) (ls : List Leftover) (dies : List DieState) → Fit n dies → AreInside n ls →
    Fit n (dies_left dies ls)
left_fits n [] dies fit on = fit
left_fits n (l ∷ ls) dies fit on =
    left_fits n ls (dies_left_by dies l) (left_by_fits n dies l fit (on l (first_contained ls)))
    (λ m there. on m (later_contained ls there))

pub left_bad : (n : Numbers) (ls : List Leftover) (dies : List DieState) (spot : Spot) → Fit n dies →
    AreInside n ls → bad_of (dies_left dies ls) spot ≡ bad_of dies spot
left_bad n [] dies spot fit on = refl
left_bad n (l ∷ ls) dies spot fit on =
    let here = on l (first_contained ls) in
    left_bad n ls (dies_left_by dies l) spot (left_by_fits n dies l fit here)
    (λ m there. on m (later_contained ls there))
    ∙ left_by_bad n dies l spot fit here

-- what a list leaves behind what a leftover leaves, the leftover and the list leave
left_then : (array between after : Array) (l : Leftover) (ls : List Leftover) → IsLeft array (l ∷ []) between →
    IsLeft between ls after → IsLeft array (l ∷ ls) after
left_then array between after l ls first rest p =
    ⊎_elim
    (λ (h : (m : Leftover) × Contains ls m × page_left m p (after p)). inl (h.0, later_contained ls h.1, h.2))
    (λ (h : ((m : Leftover) (page : Page) → Contains ls m → page_left m p page → ⊥) × (after p ≡ between p)).
    ⊎_elim
    (λ (k : (m : Leftover) × Contains (l ∷ []) m × page_left m p (between p)).
    inl (
      l,
      first_contained ls,
      subst (page_left l p) (sym h.1)
          (subst (λ (m : Leftover). page_left m p (between p)) (only_contained k.1) k.2),
    ))
    (λ (k : ((m : Leftover) (page : Page) → Contains (l ∷ []) m → page_left m p page → ⊥) × (between p ≡ array p)).
    inr (
      (λ m page there names.
          ⊎_elim
          (λ (is : m ≡ l).
          k.0 l page (first_contained []) (subst (λ (z : Leftover). page_left z p page) is names))
          (λ (later : Contains ls m). h.0 m page later names) (contained_cases ls there)),
      h.1 ∙ k.1,
    ))
    (first p))
    (rest p)

pub left_is : (n : Numbers) (ls : List Leftover) (dies : List DieState) → Fit n dies → AreInside n ls →
    IsLeft (array_of dies) ls (array_of (dies_left dies ls))
left_is n [] dies fit on = λ p. inr ((λ l page there h. absurd (none_contained there)), refl)
left_is n (l ∷ ls) dies fit on =
    let here = on l (first_contained ls) in
    left_then (array_of dies) (array_of (dies_left_by dies l)) (array_of (dies_left dies (l ∷ ls))) l ls
    (left_by_is n dies l fit here)
    (left_is n ls (dies_left_by dies l) (left_by_fits n dies l fit here) (λ m there. on m (later_contained ls there)))

-- The end of a power cycle

cycled_die : (dies : List DieState) (die : ℕ) →
    die_at (map power_cycle_ended dies) die ≡ power_cycle_ended (die_at dies die)
cycled_die dies die = get_or-map power_cycle_ended dies die (new_die 0 0)

pub cycled_pages : (dies : List DieState) → array_of (map power_cycle_ended dies) ≡ array_of dies
cycled_pages dies = λ i p. ap (λ (d : DieState). page_at d p.block p.page) (cycled_die dies p.die) i

pub cycled_bad : (dies : List DieState) (spot : Spot) → bad_of (map power_cycle_ended dies) spot ≡ bad_of dies spot
cycled_bad dies spot = ap (λ (d : DieState). is_bad_block d spot.block) (cycled_die dies spot.die)

pub cycled_fits : (n : Numbers) (dies : List DieState) → Fit n dies → Fit n (map power_cycle_ended dies)
cycled_fits n dies fit = (
  length-map dies power_cycle_ended ∙ fit.0,
  All-map (IsOfSize n.blocks n.pages) power_cycle_ended dies
      (All-weaker (IsOfSize n.blocks n.pages) (λ d. IsOfSize n.blocks n.pages (power_cycle_ended d))
      (λ d. power_cycle_size d n.blocks n.pages) dies fit.1),
)

-- A stop

pub stopped_fits : (n : Numbers) (dies : List DieState) (ls : List Leftover) → Fit n dies → AreInside n ls →
    Fit n (dies_stopped dies ls)
stopped_fits n dies ls fit on = cycled_fits n (dies_left dies ls) (left_fits n ls dies fit on)

pub stopped_bad : (n : Numbers) (dies : List DieState) (ls : List Leftover) → Fit n dies → AreInside n ls →
    bad_of (dies_stopped dies ls) ≡ bad_of dies
stopped_bad n dies ls fit on = λ i spot. (cycled_bad (dies_left dies ls) spot ∙ left_bad n ls dies spot fit on) i

pub stopped_is : (n : Numbers) (dies : List DieState) (ls : List Leftover) → Fit n dies → AreInside n ls →
    IsLeft (array_of dies) ls (array_of (dies_stopped dies ls))
stopped_is n dies ls fit on =
    subst (IsLeft (array_of dies) ls) (sym (cycled_pages (dies_left dies ls))) (left_is n ls dies fit on)

-- The leftovers of the jobs in flight of a state

module _ (s : State) (v : ValidState s) where
  abbrev n : Numbers
  n = numbers_of s

  pub leftover_on_dies : (die : ℕ) (o : Option Flight) (l : Leftover) → s.translation.disk.flights die ≡ o →
      IsLeftoverOf n o l → IsInside n l
  leftover_on_dies die (Some (Programming p cell)) (leftover.Page q page) flies h =
      subst (IsPlace n) (sym h) (v.tied.valid.flights.programs die p cell flies).place
  leftover_on_dies die (Some (Erasing spot)) (leftover.Block other block pages) flies h =
      (subst (IsSpot n) h.0 (v.erases die spot flies), h.1)
  leftover_on_dies die o l flies h = absurd h

  pub leftovers_on_dies : (ls : List Leftover) → AreLeftovers s ls → AreInside n ls
  leftovers_on_dies ls are l there =
      leftover_on_dies (die_of l) (s.translation.disk.flights (die_of l)) l refl
      (All-contains (λ m. IsLeftoverOf n (s.translation.disk.flights (die_of m)) m) ls l are.0 there)

  module _ (dies : List DieState) (ls : List Leftover) (fit : Fit n dies) (pages : s.array ≡ array_of dies)
      (are : AreLeftovers s ls) where
    pub stopped_left : IsLeft s.array ls (array_of (dies_stopped dies ls))
    stopped_left =
        subst (λ (array : Array). IsLeft array ls (array_of (dies_stopped dies ls))) (sym pages)
        (stopped_is n dies ls fit (leftovers_on_dies ls are))

    -- a stop that leaves lawful leftovers leaves these dies
    pub stops_by : ((l : Leftover) → Contains ls l → IsLawfulLeftover s l) →
        Stops s ls (array_of (dies_stopped dies ls))
    stops_by lawful = record {
      fit = are;
      is_left = stopped_left;
      crash = λ p.
          ⊎_elim
          (λ (h : (l : Leftover) × Contains ls l × page_left l p (array_of (dies_stopped dies ls) p)).
          inr (lawful h.0 h.1 p (array_of (dies_stopped dies ls) p) h.2))
          (λ (h : ((l : Leftover) (page : Page) → Contains ls l → page_left l p page → ⊥)
          × (array_of (dies_stopped dies ls) p ≡ s.array p)). inl h.1)
          (stopped_left p);
    }
