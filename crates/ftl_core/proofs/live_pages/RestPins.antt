-- Each block goes on to have as many pins as rests are still to be read from it, while rests come and go.
use Rattle.ftl_core.proofs.Common.{ArePinsCounted, Bool, Claimed, Key, List, Lives, Looked, Name, None, OnPage, Option}
use Rattle.ftl_core.proofs.Common.{OwedSource, Pending, Pin, Place, Rest, Some, Spot, Unwritten, [], ap, arith}
use Rattle.ftl_core.proofs.Common.{awaited_by, completed, completed_by, cond, drop, false, filter, filter-append}
use Rattle.ftl_core.proofs.Common.{first_waiting_from, fold, if◌then◌else◌, is_named, is_some, length, length-append}
use Rattle.ftl_core.proofs.Common.{map, most_pins, none-some, page_claimed, read_by, refl, rest_pinned, rest_unpinned}
use Rattle.ftl_core.proofs.Common.{same_Some, same_name, slice_get, slice_set, suc, sym, true, true≢false, without_pins}
use Rattle.ftl_core.proofs.Common.{written_at, written_if, zero, ℕ, ◌++◌, ◌+◌, ◌∙◌, ◌∷◌, ◌≡◌, ◌≤◌}
use Rattle.std.specs.List.{position_from}
use Rattle.write_cache.specs.declared.rests.OwedSource.TheVariants as owed
use Rattle.write_cache.specs.Rests.{awaits, comes_by, own_name, rests_filled, waits}
use Rattle.write_cache.specs.Slots.{page_written}
use Rattle.ftl_core.specs.Pinned.{keeps_page, look_of_source, reads_block, rest_look}
use Rattle.ftl_core.specs.PinCounts.{pins_on, rests_on}
use Rattle.readers.specs.Pins.{block_unpinned}
use Rattle.ftl_core.specs.Rests.{first_unpinned}
use Rattle.ftl_core.proofs.live_pages.PinsCounted.{HasCounts, bit, block_counted, block_uncounted, counts_as, on_block}
use Rattle.ftl_core.proofs.live_pages.PinsCounted.{one_more, passed_few, pins_few}
use Rattle.readers.proofs.BarePins.{pinned_bare, unpinned_bare}

-- Rests of a list

rests_next : (s : Spot) (p : Pending) (ps : List Pending) →
    rests_on s (p ∷ ps) ≡ on_block s (rest_look p.rest) + rests_on s ps
rests_next s p ps = one_more p (filter (reads_block s.die s.block) ps) (reads_block s.die s.block p)

rests_behind : (s : Spot) (ps qs : List Pending) → rests_on s (ps ++ qs) ≡ rests_on s ps + rests_on s qs
rests_behind s ps qs =
    ap length (filter-append (reads_block s.die s.block) ps qs)
    ∙ length-append (filter (reads_block s.die s.block) ps) (filter (reads_block s.die s.block) qs)

-- Pages behind

more_counted : (ps : List Pending) (l : Lives) (c : Spot → ℕ) → HasCounts l c →
    ((s : Spot) → length ps + c s ≤ 8192) → HasCounts (fold rest_pinned l ps) (λ s. rests_on s ps + c s)
more_counted [] l c kept few = counts_as l c (λ s. rests_on s [] + c s) (λ s. omega arith) kept
more_counted (p ∷ ps) l c kept few =
    counts_as (fold rest_pinned (rest_pinned l p) ps) (λ s. rests_on s ps + (on_block s k + c s))
    (λ s. rests_on s (p ∷ ps) + c s) (λ s. let e = rests_next s p ps in omega (arith, e))
    (more_counted ps (rest_pinned l p) (λ s. on_block s k + c s)
    (block_counted l k c (λ s. on_block s k + c s) kept (λ s. let f = few s in omega (arith, f)) (λ s. refl))
    (λ s. let f = few s in let g = bit (keeps_page s.die s.block k) in omega (arith, f, g)))
  where
    k : Looked
    k = rest_look p.rest

-- the blocks of the rests of pages behind have their pins
pub behind_counted : (l : Lives) (pins : List Pin) (ps qs : List Pending) → ArePinsCounted l pins ps →
    length pins ≤ most_pins → length ps + length qs ≤ 1024 → ArePinsCounted (fold rest_pinned l qs) pins (ps ++ qs)
behind_counted l pins ps qs kept few few_pages =
    counts_as (fold rest_pinned l qs) (λ s. rests_on s qs + (pins_on s pins + rests_on s ps))
    (λ s. pins_on s pins + rests_on s (ps ++ qs)) (λ s. let e = rests_behind s ps qs in omega (arith, e))
    (more_counted qs l (λ s. pins_on s pins + rests_on s ps) kept
    (λ s.
    let e = pins_few s pins in
    let f = passed_few (reads_block s.die s.block) ps in omega (arith, e, f, few, few_pages)))

-- pages that have no rest to be read need no pin
none_claimed : (s : Spot) (k : Key) (number size : ℕ) (cs : List Claimed) →
    rests_on s (map (page_claimed k number size) cs) ≡ 0
none_claimed s k number size [] = refl
none_claimed s k number size (x ∷ xs) = none_claimed s k number size xs

pub claimed_counted : (l : Lives) (pins : List Pin) (ps : List Pending) (k : Key) (number size : ℕ)
    (cs : List Claimed) → ArePinsCounted l pins ps → ArePinsCounted l pins (ps ++ map (page_claimed k number size) cs)
claimed_counted l pins ps k number size cs kept =
    counts_as l (λ s. pins_on s pins + rests_on s ps)
    (λ s. pins_on s pins + rests_on s (ps ++ map (page_claimed k number size) cs))
    (λ s.
    let e = rests_behind s ps (map (page_claimed k number size) cs) in
    let f = none_claimed s k number size cs in omega (arith, e, f)) kept

-- The first page goes

pub landed_counted : (l : Lives) (pins : List Pin) (ps : List Pending) → ArePinsCounted l pins ps →
    ArePinsCounted (first_unpinned l (slice_get ps 0)) pins (drop 1 ps)
landed_counted l pins [] kept = kept
landed_counted l pins (p ∷ ps) kept =
    block_uncounted l (rest_look p.rest) (λ s. pins_on s pins + rests_on s (p ∷ ps))
    (λ s. pins_on s pins + rests_on s ps) kept (λ s. let e = rests_next s p ps in omega (arith, e))

-- A page is written

set_same : (s : Spot) (place : Place) (ps : List Pending) (k : ℕ) (p : Pending) → slice_get ps k ≡ Some p →
    rests_on s (slice_set ps k (record p { written = Some place })) ≡ rests_on s ps
set_same s place [] k p at = absurd (none-some p at)
set_same s place (x ∷ ps) zero p at =
    ap (λ (y : Pending). rests_on s (record y { written = Some place } ∷ ps)) (sym (same_Some x p at))
    ∙ rests_next s (record x { written = Some place }) ps
    ∙ sym (rests_next s x ps)
set_same s place (x ∷ ps) (suc k) p at =
    let e = rests_next s x (slice_set ps k (record p { written = Some place })) in
    let f = rests_next s x ps in
    let g = set_same s place ps k p at in omega (arith, e, f, g)

written_same : (s : Spot) (place : Place) (ps : List Pending) (o : Option ℕ) →
    rests_on s (written_if ps place o) ≡ rests_on s ps
written_same s place ps None = refl
written_same s place ps (Some k) = by (slice_get ps k) refl
  where
    by : (o : Option Pending) → slice_get ps k ≡ o → rests_on s (written_at ps k place o) ≡ rests_on s ps
    by None at = refl
    by (Some p) at = set_same s place ps k p at

pub written_counted : (l : Lives) (pins : List Pin) (ps : List Pending) (number index : ℕ) (place : Place) →
    ArePinsCounted l pins ps → ArePinsCounted l pins (page_written ps number index place)
written_counted l pins ps number index place kept =
    counts_as l (λ s. pins_on s pins + rests_on s ps)
    (λ s. pins_on s pins + rests_on s (page_written ps number index place))
    (λ s. ap (λ (n : ℕ). pins_on s pins + n) (sym (written_same s place ps _))) kept

-- The read of a rest

-- the page, if it awaits that read, has its rest
abbrev page_filled : Name → List ℕ → Pending → Pending
page_filled name base p = cond (awaits name p) (completed base p) p

-- and the next one has its rest from it
next_filled : (name : Name) (base : List ℕ) (p : Pending) (ps : List Pending) →
    rests_filled name base (p ∷ ps)
    ≡ page_filled name base p ∷ rests_filled name (cond (awaits name p) (completed base p).body base) ps
next_filled name base p ps = by (awaits name p)
  where
    by : (b : Bool) →
        cond b (completed base p ∷ rests_filled name (completed base p).body ps) (p ∷ rests_filled name base ps)
        ≡ cond b (completed base p) p ∷ rests_filled name (cond b (completed base p).body base) ps
    by true = refl
    by false = refl

rest_gone : (base : List ℕ) (o : Option Rest) (p : Pending) → p.rest ≡ o → (completed_by base o p).rest ≡ None
rest_gone base None p e = e
rest_gone base (Some r) p e = refl

look_filled : (name : Name) (base : List ℕ) (p : Pending) →
    rest_look (page_filled name base p).rest ≡ cond (awaits name p) Unwritten (rest_look p.rest)
look_filled name base p = by (awaits name p)
  where
    by : (b : Bool) → rest_look (cond b (completed base p) p).rest ≡ cond b Unwritten (rest_look p.rest)
    by true = ap rest_look (rest_gone base p.rest p refl)
    by false = refl

source_counted : (name own : Name) (x : OwedSource) (l : Lives) (c : Spot → ℕ) →
    HasCounts l (λ s. on_block s (look_of_source x) + c s) →
    HasCounts (if same_name own name then block_unpinned l (look_of_source x) else l)
    (λ s. on_block s (cond (same_name (read_by own x) name) Unwritten (look_of_source x)) + c s)
source_counted name own (owed.Page n place) l c kept = by (same_name own name)
  where
    by : (b : Bool) → HasCounts (if b then block_unpinned l (OnPage n place) else l)
        (λ s. on_block s (cond b Unwritten (OnPage n place)) + c s)
    by true = block_uncounted l (OnPage n place) (λ s. on_block s (OnPage n place) + c s)
        (λ s. on_block s Unwritten + c s) kept (λ s. omega arith)
    by false = kept
source_counted name own (owed.Slot n) l c kept = by (same_name own name) (same_name n name)
  where
    by : (b d : Bool) → HasCounts (if b then l else l) (λ s. on_block s (cond d Unwritten Unwritten) + c s)
    by true true = kept
    by true false = kept
    by false true = kept
    by false false = kept

rest_counted : (name own : Name) (o : Option Rest) (l : Lives) (c : Spot → ℕ) →
    HasCounts l (λ s. on_block s (rest_look o) + c s) →
    HasCounts (if same_name own name then block_unpinned l (rest_look o) else l)
    (λ s. on_block s (cond (comes_by name (awaited_by own o)) Unwritten (rest_look o)) + c s)
rest_counted name own None l c kept = by (same_name own name)
  where
    by : (b : Bool) → HasCounts (if b then l else l) (λ s. on_block s Unwritten + c s)
    by true = kept
    by false = kept
rest_counted name own (Some r) l c kept = source_counted name own r.source l c kept

filled : (name : Name) (base : List ℕ) (ps : List Pending) (l : Lives) (c : Spot → ℕ) →
    HasCounts l (λ s. rests_on s ps + c s) →
    HasCounts (fold (rest_unpinned name) l ps) (λ s. rests_on s (rests_filled name base ps) + c s)
filled name base [] l c kept = kept
filled name base (p ∷ ps) l c kept =
    counts_as (fold (rest_unpinned name) m ps) (λ s. rests_on s (rests_filled name next ps) + (on_block s k + c s))
    (λ s. rests_on s (rests_filled name base (p ∷ ps)) + c s)
    (λ s.
    let e = rests_next s (page_filled name base p) (rests_filled name next ps) in
    let f = ap (rests_on s) (next_filled name base p ps) in
    let g = ap (on_block s) (look_filled name base p) in omega (arith, e, f, g))
    (filled name next ps m (λ s. on_block s k + c s)
    (counts_as m (λ s. on_block s k + (rests_on s ps + c s)) (λ s. rests_on s ps + (on_block s k + c s))
    (λ s. omega arith)
    (rest_counted name (own_name p) p.rest l (λ s. rests_on s ps + c s)
    (counts_as l (λ s. rests_on s (p ∷ ps) + c s) (λ s. on_block s (rest_look p.rest) + (rests_on s ps + c s))
    (λ s. let e = rests_next s p ps in omega (arith, e)) kept))))
  where
    m : Lives
    m = rest_unpinned name l p

    next : List ℕ
    next = cond (awaits name p) (completed base p).body base

    k : Looked
    k = cond (awaits name p) Unwritten (rest_look p.rest)

-- the blocks of the rests that came have no pins for them any more
pub filled_counted : (name : Name) (base : List ℕ) (l : Lives) (pins : List Pin) (ps : List Pending) →
    ArePinsCounted l pins ps → ArePinsCounted (fold (rest_unpinned name) l ps) pins (rests_filled name base ps)
filled_counted name base l pins ps kept =
    counts_as (fold (rest_unpinned name) l ps) (λ s. rests_on s (rests_filled name base ps) + pins_on s pins)
    (λ s. pins_on s pins + rests_on s (rests_filled name base ps)) (λ s. omega arith)
    (filled name base ps l (λ s. pins_on s pins)
    (counts_as l (λ s. pins_on s pins + rests_on s ps) (λ s. rests_on s ps + pins_on s pins) (λ s. omega arith) kept))

-- Which pages are live, without the pins of blocks

pub behind_bare : (ps : List Pending) (l : Lives) → without_pins (fold rest_pinned l ps) ≡ without_pins l
behind_bare [] l = refl
behind_bare (p ∷ ps) l = behind_bare ps (rest_pinned l p) ∙ pinned_bare l (rest_look p.rest)

pub filled_bare : (name : Name) (ps : List Pending) (l : Lives) →
    without_pins (fold (rest_unpinned name) l ps) ≡ without_pins l
filled_bare name [] l = refl
filled_bare name (p ∷ ps) l = filled_bare name ps (rest_unpinned name l p) ∙ by (same_name (own_name p) name)
  where
    by : (b : Bool) → without_pins (if b then block_unpinned l (rest_look p.rest) else l) ≡ without_pins l
    by true = unpinned_bare l (rest_look p.rest)
    by false = refl

pub landed_bare : (l : Lives) (o : Option Pending) → without_pins (first_unpinned l o) ≡ without_pins l
landed_bare l None = refl
landed_bare l (Some p) = unpinned_bare l (rest_look p.rest)

-- One page further in a walk over all of them

module _ (f : Lives → Pending → Lives) (at : Lives → Option Pending → Lives) (none : (l : Lives) → at l None ≡ l)
    (some : (l : Lives) (p : Pending) → at l (Some p) ≡ f l p) where
  further : (ps : List Pending) (k : ℕ) (l : Lives) →
      fold f (at l (slice_get ps k)) (drop (suc k) ps) ≡ fold f l (drop k ps)
  further [] zero l = none l
  further [] (suc k) l = none l
  further (p ∷ ps) zero l = ap (λ (m : Lives). fold f m ps) (some l p)
  further (p ∷ ps) (suc k) l = further ps k l

  suc_is : (k : ℕ) → k + 1 ≡ suc k
  suc_is k = omega arith

  pub walked_on : (ps : List Pending) (k : ℕ) (l m : Lives) → m ≡ at l (slice_get ps k) →
      fold f m (drop (k + 1) ps) ≡ fold f l (drop k ps)
  walked_on ps k l m is =
      ap (λ (n : ℕ). fold f m (drop n ps)) (suc_is k)
      ∙ ap (λ (x : Lives). fold f x (drop (suc k) ps)) is
      ∙ further ps k l

  -- at the end nothing is left
  pub walked : (ps : List Pending) (l : Lives) → fold f l (drop (length ps) ps) ≡ l
  walked [] l = refl
  walked (p ∷ ps) l = walked ps l

-- And to the next page that waits

still : (name : Name) (l : Lives) (p : Pending) (o : Option Rest) → p.rest ≡ o → is_some o ≡ false →
    rest_unpinned name l p ≡ l
still name l p None e w =
    ap (λ (o : Option Rest). if is_named name.number name.index p then block_unpinned l (rest_look o) else l) e
    ∙ by (is_named name.number name.index p)
  where
    by : (b : Bool) → (if b then l else l) ≡ l
    by true = refl
    by false = refl
still name l p (Some r) e w = absurd (true≢false w)

passed : (name : Name) (ps : List Pending) (i at : ℕ) (l : Lives) → position_from waits i ps ≡ Some at →
    (m : ℕ) × (at ≡ i + m) × (fold (rest_unpinned name) l ps ≡ fold (rest_unpinned name) l (drop m ps))
passed name [] i at l e = absurd (none-some at e)
passed name (p ∷ ps) i at l e = by (waits p) refl e (passed name ps (i + 1) at l)
  where
    by : (b : Bool) → waits p ≡ b → cond b (Some i) (position_from waits (i + 1) ps) ≡ Some at →
        (position_from waits (i + 1) ps ≡ Some at →
        (m : ℕ) × (at ≡ i + 1 + m) × (fold (rest_unpinned name) l ps ≡ fold (rest_unpinned name) l (drop m ps))) →
        (m : ℕ) × (at ≡ i + m) × (fold (rest_unpinned name) l (p ∷ ps) ≡ fold (rest_unpinned name) l (drop m (p ∷ ps)))
    by true w e more = (0, (let same = same_Some i at e in omega (arith, same)), refl)
    by false w e more =
        let r = more e in
        let is = r.1 in (
          suc r.0,
          omega (arith, is),
          ap (λ (x : Lives). fold (rest_unpinned name) x ps) (still name l p p.rest refl w) ∙ r.2,
        )

-- the pages before it have no pin
pub next_unpinned : (name : Name) (ps : List Pending) (from at : ℕ) (l : Lives) →
    first_waiting_from ps from ≡ Some at →
    (fold (rest_unpinned name) l (drop from ps) ≡ fold (rest_unpinned name) l (drop at ps)) × (from ≤ at)
next_unpinned name ps from at l is =
    let r = passed name (drop from ps) from at l is in
    let e = r.1 in
    (r.2 ∙ ap (fold (rest_unpinned name) l) (twice from r.0 at ps e), omega (arith, e))
  where
    twice : (n m k : ℕ) (ps : List Pending) → k ≡ n + m → drop m (drop n ps) ≡ drop k ps
    twice zero m k ps e = ap (λ (j : ℕ). drop j ps) (let f : m ≡ k = omega (arith, e) in f)
    twice (suc n) m zero ps e = absurd (omega (arith, e))
    twice (suc n) zero (suc k) [] e = refl
    twice (suc n) (suc m) (suc k) [] e = refl
    twice (suc n) m (suc k) (p ∷ ps) e = twice n m k ps (omega (arith, e))

-- and where there is none, no page has one
pub none_unpinned : (name : Name) (ps : List Pending) (from : ℕ) (l : Lives) → first_waiting_from ps from ≡ None →
    fold (rest_unpinned name) l (drop from ps) ≡ l
none_unpinned name ps from l is = all (drop from ps) from is
  where
    all : (qs : List Pending) (i : ℕ) → position_from waits i qs ≡ None → fold (rest_unpinned name) l qs ≡ l
    all [] i e = refl
    all (p ∷ qs) i e = by (waits p) refl e (all qs (i + 1))
      where
        by : (b : Bool) → waits p ≡ b → cond b (Some i) (position_from waits (i + 1) qs) ≡ None →
            (position_from waits (i + 1) qs ≡ None → fold (rest_unpinned name) l qs ≡ l) →
            fold (rest_unpinned name) l (p ∷ qs) ≡ l
        by true w e more = absurd (none-some i (sym e))
        by false w e more =
            ap (λ (x : Lives). fold (rest_unpinned name) x qs) (still name l p p.rest refl w) ∙ more e
