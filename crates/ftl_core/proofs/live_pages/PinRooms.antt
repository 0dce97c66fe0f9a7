-- The layer's fields go on to be right after what changes pins.
use Rattle.ftl_core.proofs.Common.{ArePinsCounted, Bool, DieRow, Inside, IsRoomy, List, Lives, Option, Pending, Pin}
use Rattle.ftl_core.proofs.Common.{Sizes, Stored, [], ap, arith, filter, fold, length, length-append, length-map}
use Rattle.ftl_core.proofs.Common.{length-replicate, map, most_pins, moved_pin, none_live, subst, sym, with_stored}
use Rattle.ftl_core.proofs.Common.{without_pins, ◌++◌, ◌<◌, ◌∙◌, ◌∷◌, ◌≡◌, ◌≤◌}
use Rattle.std.proofs.Common.{not, replicate}
use Rattle.block_table.specs.Rows.{idle_row}
use Rattle.readers.specs.Pins.{block_pinned, let_go, pin_moves}
use Rattle.ftl_core.proofs.live_pages.PinsCounted.{gone_counted, looked_counted, moved_counted, none_counted}
use Rattle.ftl_core.proofs.live_pages.PinsCounted.{passed_few, pinned_counted, stored_counted, stored_sizes}
use Rattle.readers.proofs.BarePins.{gone_bare, moves_bare, pinned_bare}

pub counted_as : (l m : Lives) (ps qs : List Pin) (pages : List Pending) → l ≡ m → ps ≡ qs →
    ArePinsCounted m qs pages → ArePinsCounted l ps pages
counted_as l m ps qs pages e g h =
    subst (λ (z : Lives). ArePinsCounted z ps pages) (sym e)
    (subst (λ (z : List Pin). ArePinsCounted m z pages) (sym g) h)

-- other pins, and as many as there are now of each block
roomy_on : (f : Inside) (l : Lives) (ps : List Pin) → IsRoomy f → without_pins l ≡ without_pins f.live →
    length ps ≤ most_pins → ArePinsCounted l ps f.cache.pages → IsRoomy (record f { live = l; pins = ps })
roomy_on f l ps h same few counted = record {
  blocks = h.blocks;
  block_pages = h.block_pages;
  keys = h.keys;
  slots = h.slots;
  first_mark = h.first_mark;
  last_mark = h.last_mark;
  step = h.step;
  pins = few;
  units = h.units;
  plan_pages = h.plan_pages;
  live_dies = ap (λ (m : Lives). m.sizes.dies) same ∙ h.live_dies;
  live_blocks = ap (λ (m : Lives). m.sizes.blocks) same ∙ h.live_blocks;
  pinned = counted;
}

-- a pin more
pub roomy_pinned : (f : Inside) (l : Lives) (ps : List Pin) (p : Pin) → IsRoomy f →
    l ≡ block_pinned f.live p.looked → ps ≡ f.pins ++ p ∷ [] → length f.pins < most_pins →
    length f.cache.pages ≤ 1024 → IsRoomy (record f { live = l; pins = ps })
roomy_pinned f l ps p h is items few few_pages =
    roomy_on f l ps h (ap without_pins is ∙ pinned_bare f.live p.looked)
    (let e = ap (λ (xs : List Pin). length xs) items in
    let g = length-append f.pins (p ∷ []) in omega (arith, e, g, few))
    (counted_as l (block_pinned f.live p.looked) ps (f.pins ++ p ∷ []) f.cache.pages is items
    (pinned_counted f.live f.pins f.cache.pages p h.pinned h.pins few_pages))

-- pins that go
pub roomy_left : (goes : Pin → Bool) (f : Inside) (l : Lives) (ps : List Pin) → IsRoomy f →
    l ≡ fold (let_go goes) f.live f.pins → ps ≡ filter (λ p. not (goes p)) f.pins →
    IsRoomy (record f { live = l; pins = ps })
roomy_left goes f l ps h is items =
    roomy_on f l ps h (ap without_pins is ∙ gone_bare goes f.pins f.live)
    (let e = ap (λ (xs : List Pin). length xs) items in
    let g = passed_few (λ p. not (goes p)) f.pins in let k = h.pins in omega (arith, e, g, k))
    (counted_as l (fold (let_go goes) f.live f.pins) ps (filter (λ p. not (goes p)) f.pins) f.cache.pages is items
    (gone_counted goes f.pins f.cache.pages f.live h.pinned))

-- pins that keep a page in the place of its slot
pub roomy_moved : (st : Stored) (f : Inside) (l : Lives) (ps : List Pin) → IsRoomy f →
    l ≡ fold (pin_moves st) f.live f.pins → ps ≡ map (moved_pin st) f.pins → length f.cache.pages ≤ 1024 →
    IsRoomy (record f { live = l; pins = ps })
roomy_moved st f l ps h is items few_pages =
    roomy_on f l ps h (ap without_pins is ∙ moves_bare st f.pins f.live)
    (let e = ap (λ (xs : List Pin). length xs) items in
    let g = length-map f.pins (moved_pin st) in let k = h.pins in omega (arith, e, g, k))
    (counted_as l (fold (pin_moves st) f.live f.pins) ps (map (moved_pin st) f.pins) f.cache.pages is items
    (moved_counted st f.pins f.cache.pages f.live h.pinned h.pins few_pages))

-- pins that look at the same
pub roomy_looked : (g : Pin → Pin) (f : Inside) (ps : List Pin) → IsRoomy f →
    ((p : Pin) → (g p).looked ≡ p.looked) → ps ≡ map g f.pins → IsRoomy (record f { pins = ps })
roomy_looked g f ps h same items =
    roomy_on f f.live ps h (λ i. without_pins f.live)
    (let e = ap (λ (xs : List Pin). length xs) items in
    let m = length-map f.pins g in let k = h.pins in omega (arith, e, m, k))
    (subst (λ (z : List Pin). ArePinsCounted f.live z f.cache.pages) (sym items)
    (looked_counted g same f.live f.pins f.cache.pages h.pinned))

-- at first there are none
pub first_counted : (n : Sizes) (l : Lives) (places : List (Option Stored)) (ps : List Pin) →
    (pages : List Pending) → l ≡ fold with_stored (none_live n) places → ps ≡ [] → pages ≡ [] →
    ArePinsCounted l ps pages
first_counted n l places ps pages is none no_pages =
    counted_as l (fold with_stored (none_live n) places) ps [] pages is none
    (subst (λ (qs : List Pending). ArePinsCounted (fold with_stored (none_live n) places) [] qs) (sym no_pages)
    (stored_counted places (none_live n) [] [] (none_counted n)))

first_sizes : (n : Sizes) (l : Lives) (places : List (Option Stored)) → l ≡ fold with_stored (none_live n) places →
    l.sizes ≡ n
first_sizes n l places is = ap (λ (m : Lives). m.sizes) is ∙ stored_sizes places (none_live n)

pub first_dies : (n : Sizes) (l : Lives) (places : List (Option Stored)) (rows : List DieRow) →
    l ≡ fold with_stored (none_live n) places → rows ≡ replicate n.dies idle_row → l.sizes.dies ≡ length rows
first_dies n l places rows is idle =
    ap (λ (m : Sizes). m.dies) (first_sizes n l places is)
    ∙ sym (ap (λ (rs : List DieRow). length rs) idle ∙ length-replicate n.dies idle_row)

pub first_blocks : (n : Sizes) (l : Lives) (places : List (Option Stored)) →
    l ≡ fold with_stored (none_live n) places → l.sizes.blocks ≡ n.blocks
first_blocks n l places is = ap (λ (m : Sizes). m.blocks) (first_sizes n l places is)
