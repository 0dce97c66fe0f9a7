-- The layer's fields go on to be right after what changes the pending pages and the pins of their rests.
use Rattle.ftl_core.proofs.Common.{ArePinsCounted, Claimed, Inside, IsRoomy, Key, List, Lives, Name, Pending, Place}
use Rattle.ftl_core.proofs.Common.{WriteCache, ap, drop, fold, length, map, page_claimed, rest_pinned, rest_unpinned}
use Rattle.ftl_core.proofs.Common.{slice_get, subst, sym, without_pins, ℕ, ◌++◌, ◌+◌, ◌∙◌, ◌≡◌, ◌≤◌}
use Rattle.write_cache.specs.Rests.{rests_filled}
use Rattle.write_cache.specs.Slots.{page_written}
use Rattle.ftl_core.specs.Rests.{first_unpinned}
use Rattle.ftl_core.proofs.live_pages.RestPins.{behind_bare, behind_counted, claimed_counted, filled_bare}
use Rattle.ftl_core.proofs.live_pages.RestPins.{filled_counted, landed_bare, landed_counted, written_counted}

-- other pending pages, and as many pins as there are rests now of each block
roomy_over : (f : Inside) (l : Lives) (w : WriteCache) → IsRoomy f → without_pins l ≡ without_pins f.live →
    w.slots ≡ f.cache.slots → ArePinsCounted l f.pins w.pages → IsRoomy (record f { live = l; cache = w })
roomy_over f l w h same slots counted = record {
  blocks = h.blocks;
  block_pages = h.block_pages;
  keys = h.keys;
  slots = slots ∙ h.slots;
  first_mark = h.first_mark;
  last_mark = h.last_mark;
  step = h.step;
  pins = h.pins;
  units = h.units;
  plan_pages = h.plan_pages;
  live_dies = ap (λ (m : Lives). m.sizes.dies) same ∙ h.live_dies;
  live_blocks = ap (λ (m : Lives). m.sizes.blocks) same ∙ h.live_blocks;
  pinned = counted;
}

counted_over : (f : Inside) (l m : Lives) (ps qs : List Pending) → l ≡ m → ps ≡ qs →
    ArePinsCounted m f.pins qs → ArePinsCounted l f.pins ps
counted_over f l m ps qs e g h =
    subst (λ (z : Lives). ArePinsCounted z f.pins ps) (sym e)
    (subst (λ (z : List Pending). ArePinsCounted m f.pins z) (sym g) h)

-- a page is written
pub roomy_written : (f : Inside) (w : WriteCache) (number index : ℕ) (place : Place) → IsRoomy f →
    w ≡ record f.cache { pages = page_written f.cache.pages number index place } → IsRoomy (record f { cache = w })
roomy_written f w number index place h is =
    roomy_over f f.live w h (λ i. without_pins f.live) (ap (λ (z : WriteCache). z.slots) is)
    (counted_over f f.live f.live w.pages (page_written f.cache.pages number index place) (λ i. f.live)
    (ap (λ (z : WriteCache). z.pages) is)
    (written_counted f.live f.pins f.cache.pages number index place h.pinned))

-- pages of data blocks behind, which have no rests
pub roomy_claimed : (f : Inside) (w : WriteCache) (k : Key) (number size : ℕ) (cs : List Claimed) → IsRoomy f →
    w.slots ≡ f.cache.slots → w.pages ≡ f.cache.pages ++ map (page_claimed k number size) cs →
    IsRoomy (record f { cache = w })
roomy_claimed f w k number size cs h slots is =
    roomy_over f f.live w h (λ i. without_pins f.live) slots
    (counted_over f f.live f.live w.pages (f.cache.pages ++ map (page_claimed k number size) cs) (λ i. f.live) is
    (claimed_counted f.live f.pins f.cache.pages k number size cs h.pinned))

-- pages behind, with the pins of their rests
pub roomy_behind : (f : Inside) (l : Lives) (w : WriteCache) (qs : List Pending) → IsRoomy f →
    w.slots ≡ f.cache.slots → w.pages ≡ f.cache.pages ++ qs → l ≡ fold rest_pinned f.live qs →
    length f.cache.pages + length qs ≤ 1024 → IsRoomy (record f { live = l; cache = w })
roomy_behind f l w qs h slots is pinned few =
    roomy_over f l w h (ap without_pins pinned ∙ behind_bare qs f.live) slots
    (counted_over f l (fold rest_pinned f.live qs) w.pages (f.cache.pages ++ qs) pinned is
    (behind_counted f.live f.pins f.cache.pages qs h.pinned h.pins few))

-- the first page goes, with the pin of its rest
pub roomy_landed : (f : Inside) (l : Lives) (w : WriteCache) → IsRoomy f →
    w ≡ record f.cache { pages = drop 1 f.cache.pages } → l ≡ first_unpinned f.live (slice_get f.cache.pages 0) →
    IsRoomy (record f { live = l; cache = w })
roomy_landed f l w h is unpinned =
    roomy_over f l w h (ap without_pins unpinned ∙ landed_bare f.live (slice_get f.cache.pages 0))
    (ap (λ (z : WriteCache). z.slots) is)
    (counted_over f l (first_unpinned f.live (slice_get f.cache.pages 0)) w.pages (drop 1 f.cache.pages) unpinned
    (ap (λ (z : WriteCache). z.pages) is)
    (landed_counted f.live f.pins f.cache.pages h.pinned))

-- rests come, and go with their pins
pub roomy_filled : (f : Inside) (l : Lives) (w : WriteCache) (name : Name) (base : List ℕ) → IsRoomy f →
    w ≡ record f.cache { pages = rests_filled name base f.cache.pages } →
    l ≡ fold (rest_unpinned name) f.live f.cache.pages → IsRoomy (record f { live = l; cache = w })
roomy_filled f l w name base h is unpinned =
    roomy_over f l w h (ap without_pins unpinned ∙ filled_bare name f.cache.pages f.live)
    (ap (λ (z : WriteCache). z.slots) is)
    (counted_over f l (fold (rest_unpinned name) f.live f.cache.pages) w.pages (rests_filled name base f.cache.pages)
    unpinned (ap (λ (z : WriteCache). z.pages) is)
    (filled_counted name base f.live f.pins f.cache.pages h.pinned))
