-- What a stop leaves has few lost keys: those of the repairs of its life, or of pages that are pending.
use Rattle.power_loss.proofs.Common.{◌≡◌, ℕ, suc, ◌+◌, ◌-◌, ◌<◌, ◌≤◌, ◌⊎◌, false, List, length, map, drop, Option}
use Rattle.power_loss.proofs.Common.{Some, None, slice_get, refl, sym, ap, ◌∙◌, subst, inl, inr, ⊎_elim, arith}
use Rattle.power_loss.proofs.Common.{Contains, flat_map, length-map, slice_get_within, at_most, before_accepted, Cells}
use Rattle.power_loss.proofs.Common.{GroupPage, Mark, key_of, Group, Item, HasPage, IsKept, IsNewestMark, IsWhole}
use Rattle.power_loss.proofs.Common.{fence_in, recorded_in, Entry, lost_from, Mended, Mending, Repairing, Translation}
use Rattle.power_loss.proofs.Common.{Unmarked, is_mended, pending_pages, Fence, Key, Place, Tag, AreLost, IsPageAt}
use Rattle.power_loss.proofs.Common.{IsWholeOld, IsPlainMark, book, Valid, Numbers, Spot, Move, CellsRight, AreWithin}
use Rattle.power_loss.proofs.Common.{CellsSound, IsOpenedTranslation, Bool}
use Rattle.ufs_spec.specs.Ledger.{pending}
use Rattle.power_loss.specs.FewRepairs.{HasFewLost, HasFewRepairs, LostFromRight}
use Rattle.power_loss.specs.Losing.{is_marked}
use Rattle.power_loss.specs.Mending.{AreAllowedMoves, moved_by}
use Rattle.std.proofs.Common.{sum_by}
use Rattle.std.proofs.lemmas.List.Concat.{length-flat_map}
use Rattle.power_loss.proofs.books.FrontierClimbs.{get_drop}
use Rattle.power_loss.proofs.books.LayerParts.{MarksOf, MendingOf, StopLeaves}
use Rattle.power_loss.proofs.books.PagesByName.{entry_for, is_old, old_page, page_new}
use Rattle.power_loss.proofs.openings.OpenedIsValid.{opening_valid}
use Rattle.power_loss.proofs.ordered_lists.ElementsAndOrders.{at_has, in_contained, in_flat, in_map}
use Rattle.power_loss.proofs.repaired_keys.NoMoreKeys.{lost_no_more}
use Rattle.power_loss.proofs.repaired_keys.RepairsStayFew.{all_few, opening_few}
use Rattle.power_loss.proofs.stops.ImagePages.{kept_covers}
use Rattle.power_loss.proofs.stops.LeftCells.{known}
use Rattle.power_loss.proofs.stops.BookImage.{Changed, Image, IsRepairing, Unchanged, finished_parts, image}
use Rattle.power_loss.proofs.stops.BookImage.{newest_or_later, newest_stays, shown}
use Rattle.power_loss.proofs.stops.LeftImage.{all_repairs, outcome}

module _ {t : Translation} {c : Cells} (v : Valid t) (crash : StopLeaves t c) where
  -- Whole groups stay whole

  -- of a group that the newest mark does not record each page is left, if it is not lost
  page_left : (n i : ℕ) {e : Entry} → recorded_in t.ledger.newest < n → n < t.ledger.first_lost →
      t.ledger.entries_before n i ≡ Some e → HasPage c n i
  page_left n i {e} up below is =
      let seen = v.book_right.old_within n i e is in
      let high = v.frontier.above in
      ⊎_elim (λ h. h) (λ o. absurd (let a = o.0.newer in let b = o.0.within in omega arith))
      (shown v crash n i e (omega arith) (old_page (book t) n i seen is)
      (λ lost. let a = lost.from in omega arith))

  whole_left : (n : ℕ) → recorded_in t.ledger.newest < n → n < t.ledger.first_lost → IsWholeOld (book t) n →
      IsWhole c n
  whole_left n up below w = record {
    size = w.size;
    some = w.some;
    one_size = λ p tag body h number.
        let first = v.book_right.first_lost in
        let is = is_old (book t) tag.number tag.index (entry_for tag body) (omega arith) (known v crash p tag body h) in
        w.one_size tag.index (entry_for tag body) (sym (ap (λ z. t.ledger.entries_before z tag.index) number) ∙ is);
    each = λ i l. let x = w.each i l in page_left n i up below x.1;
  }

  -- Where the lost numbers begin

  recorded_under : (newest : Option Mark) {kept : ℕ} → IsNewestMark c newest → IsKept c newest kept →
      recorded_in newest ≤ kept
  recorded_under None newest k = omega arith
  recorded_under (Some m) newest k =
      let a = k.recorded.marks newest.0.0 m newest.0.1 in let b = k.above in omega arith

  -- they begin no lower than those of the life where its first mark is not there
  still_low : {kept : ℕ} → LostFromRight (book t) t.ledger.newest → IsNewestMark c t.ledger.newest →
      IsKept c t.ledger.newest kept → (fence : Option Fence) → fence_in t.ledger.newest ≡ fence →
      t.ledger.first_lost ≤ lost_from fence kept
  still_low r newest k (Some f) is = let e = r.fence f is in omega arith
  still_low {kept} r newest k None is = ⊎_elim (λ l. l)
      (λ l. absurd (k.stops (whole_left (suc kept) (let a = recorded_under t.ledger.newest newest k in omega arith) l
      (r.whole (suc kept) is (let a = recorded_under t.ledger.newest newest k in omega arith) l))))
      (at_most t.ledger.first_lost (suc kept))

  -- nor where it is
  image_low : {m : Mark} {kept : ℕ} → Image (book t) t.ledger.frontier (recorded_in t.ledger.newest) c m →
      IsKept c (Some m) kept → IsRepairing (book t) m ⊎ IsPlainMark (book t) m →
      t.ledger.first_lost ≤ lost_from m.fence kept
  image_low {kept = kept} x k (inl r) =
      let e = ap (λ f. lost_from f kept) r.fence.is in let f = r.fence.first in omega arith
  image_low {kept = kept} x k (inr r) =
      let e = ap (λ f. lost_from f kept) r.none in
      let far = kept_covers x k in
      let above = v.frontier.above in
      let first = v.book_right.first_lost in
      omega arith

  -- Before the device is mended

  -- a page with such a number is of a key that the life had to repair
  repaired_key : (f : HasFewRepairs t) → is_mended t.work.mending ≡ false → (p : Place) (tag : Tag) (body : List ℕ) →
      c p ≡ GroupPage tag body → t.ledger.first_lost ≤ tag.number → Contains f.keys (key_of tag)
  repaired_key f unmended p tag body h low = ⊎_elim old new (at_most tag.number t.ledger.greatest_seen)
    where
      page : IsPageAt (book t) tag.number tag.index (entry_for tag body)
      page = known v crash p tag body h

      old : tag.number ≤ t.ledger.greatest_seen → Contains f.keys (key_of tag)
      old l = f.lost tag.number tag.index (entry_for tag body) (record { from = low; to = l })
          (is_old (book t) tag.number tag.index (entry_for tag body) l page)

      new : t.ledger.greatest_seen < tag.number → Contains f.keys (key_of tag)
      new l =
          let g = page_new (book t) tag.number l page in
          let w = slice_get_within t.ledger.groups (tag.number - t.ledger.greatest_seen - 1) g.group g.is in
          let all = (v.history.mending unmended).0 in
          f.repaired (tag.number - t.ledger.greatest_seen - 1) tag.index g.group (entry_for tag body).item (omega arith)
          g.is g.item

  unmended_few : HasFewRepairs t → is_mended t.work.mending ≡ false → {low top : ℕ} {lost : List Key} →
      t.ledger.first_lost ≤ low → AreLost c low top lost → length lost ≤ t.numbers.slots
  unmended_few f unmended under are =
      let l = lost_no_more f.keys are (λ p tag body h from to. repaired_key f unmended p tag body h (omega arith)) in
      let few = f.few in
      omega arith

  -- Once it is mended

  -- the keys of the pages that are pending
  abbrev pending_keys : List Key
  pending_keys = flat_map (λ (g : Group). map (λ (item : Item). item.key) g) (pending t.ledger)

  so_many : length pending_keys ≡ pending_pages t.ledger
  so_many = length-flat_map (λ (g : Group). map (λ (item : Item). item.key) g) (pending t.ledger)
      ∙ ap (λ (count : Group → ℕ). sum_by count (pending t.ledger)) (λ i g. length-map g (λ (item : Item). item.key) i)

  pending_key : before_accepted t.ledger ≤ t.ledger.frontier → (p : Place) (tag : Tag) (body : List ℕ) →
      c p ≡ GroupPage tag body → t.ledger.frontier < tag.number → Contains pending_keys (key_of tag)
  pending_key durable p tag body h far =
      let above = v.frontier.above in
      let g = page_new (book t) tag.number (omega arith) (known v crash p tag body h) in
      in_contained pending_keys
      (in_flat (λ (x : Group). map (λ (item : Item). item.key) x) g.group (key_of tag) (pending t.ledger)
      (at_has (pending t.ledger) (tag.number - 1 - t.ledger.frontier) g.group (at g.group g.is))
      (in_map (λ (item : Item). item.key) (entry_for tag body).item g.group
      (at_has g.group tag.index (entry_for tag body).item g.item)))
    where
      index : (r top frontier n : ℕ) → top + r ≤ frontier → frontier < n →
          r + (frontier - (top + r) + (n - 1 - frontier)) ≡ n - top - 1
      index r top frontier n l u = omega arith

      at : (g : Group) → slice_get t.ledger.groups (tag.number - t.ledger.greatest_seen - 1) ≡ Some g →
          slice_get (pending t.ledger) (tag.number - 1 - t.ledger.frontier) ≡ Some g
      at g is =
          get_drop (drop t.ledger.repairs t.ledger.groups) (t.ledger.frontier - before_accepted t.ledger)
          (tag.number - 1 - t.ledger.frontier)
          ∙ get_drop t.ledger.groups t.ledger.repairs
          (t.ledger.frontier - before_accepted t.ledger + (tag.number - 1 - t.ledger.frontier))
          ∙ ap (slice_get t.ledger.groups)
          (index t.ledger.repairs t.ledger.greatest_seen t.ledger.frontier tag.number durable far) ∙ is

  mended_few : before_accepted t.ledger ≤ t.ledger.frontier → {low top : ℕ} {lost : List Key} →
      t.ledger.frontier < low → AreLost c low top lost → length lost ≤ t.numbers.slots
  mended_few durable under are =
      let l = lost_no_more pending_keys are (λ p tag body h from to. pending_key durable p tag body h (omega arith)) in
      let e = so_many in
      let slots = v.slots.within in
      omega arith

  -- The newest mark

  -- once a mark of the life is finished, or where it needed none
  image_of : {first m : Mark} (r : MarksOf t first) → t.ledger.newest ≡ Some first →
      IsRepairing (book t) first ⊎ IsPlainMark (book t) first → IsNewestMark c (Some m) →
      Image (book t) t.ledger.frontier (recorded_in t.ledger.newest) c m
  image_of {first} r is good n =
      image v crash (finished_parts v crash r is good n.0.1 (n.1 r.stands.place first (newest_stays v crash r)))

  -- behind a mark without a fence none has one
  no_fence : {first m : Mark} → MarksOf t first → IsPlainMark (book t) first → IsNewestMark c (Some m) →
      m.fence ≡ None
  no_fence {first} r plain n = ⊎_elim (λ e. ap (λ (x : Mark). x.fence) e ∙ plain.none) (λ l. l.plain.none)
      (newest_or_later v crash n.0.0 r n.0.1 (n.1 r.stands.place first (newest_stays v crash r)))

  none_newest : {first : Mark} → MarksOf t first → IsNewestMark c None → ⊥
  none_newest {first} r n = n r.stands.place first (newest_stays v crash r)

  -- What is left

  unmarked_low : {fence : Option Fence} {lost : List Key} (m : Option Mark) {kept : ℕ} → HasFewRepairs t →
      t.work.mending ≡ Unmarked fence lost → IsNewestMark c m → IsKept c m kept →
      t.ledger.first_lost ≤ lost_from (fence_in m) kept
  unmarked_low m {kept} f is n k = ⊎_elim same changed (outcome v crash n)
    where
      same : Unchanged (book t) t.ledger.newest c m → t.ledger.first_lost ≤ lost_from (fence_in m) kept
      same u = subst (λ z. t.ledger.first_lost ≤ lost_from (fence_in z) kept) (sym u.newest_is)
          (still_low (f.from (ap is_marked is)) (subst (IsNewestMark c) u.newest_is n)
          (subst (λ z. IsKept c z kept) u.newest_is k) (fence_in t.ledger.newest) refl)

      changed : Changed (book t) t.ledger.frontier (recorded_in t.ledger.newest) c m →
          t.ledger.first_lost ≤ lost_from (fence_in m) kept
      changed u = subst (λ z. t.ledger.first_lost ≤ lost_from (fence_in z) kept) (sym u.is)
          (image_low u.image (subst (λ z. IsKept c z kept) u.is k) u.image.good)

  few_lost : (m : Option Mark) {kept top : ℕ} {lost : List Key} → HasFewRepairs t → IsNewestMark c m →
      IsKept c m kept → AreLost c (lost_from (fence_in m) kept) top lost → (w : Mending) → t.work.mending ≡ w →
      MendingOf t w → length lost ≤ t.numbers.slots
  few_lost m f n k are (Unmarked fence keys) is r = unmended_few f (ap is_mended is) (unmarked_low m f is n k) are
  few_lost None f n k are (Repairing left) is r = absurd (none_newest r.right n)
  few_lost (Some m) f n k are (Repairing left) is r =
      let x = image_of r.right r.is (inl record { fence = r.more.fence; repairs = all_repairs v is }) n in
      unmended_few f (ap is_mended is) (image_low x k x.good) are
  few_lost None f n k are Mended is r = absurd (none_newest r.right n)
  few_lost (Some m) {kept} f n k are Mended is r =
      let x = image_of r.right r.is (inr r.more) n in
      let e = ap (λ z. lost_from z kept) (no_fence r.right r.more n) in
      let far = kept_covers x k in
      mended_few (f.durable (ap is_mended is)) (omega arith) are

pub stop_few : (t : Translation) (c : Cells) (m : Option Mark) → Valid t → HasFewRepairs t → StopLeaves t c →
    IsNewestMark c m → HasFewLost t.numbers c m
stop_few t c m v f crash n kept top lost k greatest are = few_lost v crash m f n k are t.work.mending refl v.mending

-- whatever moves come in a life
pub life_leaves_few : (n : Numbers) (c left : Cells) (bad : Spot → Bool) (t : Translation) (m : Option Mark)
    (moves : List Move) → 1 ≤ n.pages → CellsRight c → AreWithin n c → CellsSound c t.ledger.newest →
    HasFewLost n c t.ledger.newest → IsOpenedTranslation n c bad t → AreAllowedMoves t moves →
    StopLeaves (moved_by t moves) left → IsNewestMark left m → HasFewLost n left m
life_leaves_few n c left bad t m moves pages right within sound few start may crash newest =
    let r = all_few t moves (opening_valid n c bad t pages right within sound start)
    (opening_few n c bad t pages right within sound few start) may in
    subst (λ z. HasFewLost z left m) (r.numbers ∙ start.numbers)
    (stop_few (moved_by t moves) left m r.valid r.few crash newest)
