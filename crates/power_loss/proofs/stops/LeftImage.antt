-- What a stop leaves of a life: what the life began with, or an image of its book with a mark that stands.
use Rattle.power_loss.proofs.Common.{◌≡◌, ℕ, List, Option, Some, slice_get, refl, ap, inl, inr, arith, slice_get_within}
use Rattle.power_loss.proofs.Common.{Cells, Mark, Group, Item, IsNewestMark, Mended, Mending, Repairing, Translation}
use Rattle.power_loss.proofs.Common.{Unmarked, is_mended, Key, Valid}
use Rattle.power_loss.proofs.books.LayerParts.{StopLeaves, MendingOf}
use Rattle.power_loss.proofs.stops.BookImage.{Outcome, finished}
use Rattle.power_loss.proofs.stops.LeftUnmarked.{started}

pub all_repairs : {t : Translation} {left : List Key} → Valid t → t.work.mending ≡ Repairing left →
    (j i : ℕ) (g : Group) (item : Item) → slice_get t.ledger.groups j ≡ Some g → slice_get g i ≡ Some item →
    item.body ≡ t.ledger.base item.key
all_repairs {t} v e j i g item h l =
    let r = (v.history.mending (ap is_mended e)).0 in
    let w = slice_get_within t.ledger.groups j g h in
    v.history.contents j i g item (omega arith) h l

by_mending : {t : Translation} (c : Cells) (m : Option Mark) (w : Mending) → Valid t → StopLeaves t c →
    IsNewestMark c m → t.work.mending ≡ w → MendingOf t w → Outcome t c m
by_mending {t} c m (Unmarked fence lost) v crash n e r = started c (lost, r) m v crash n
by_mending {t} c m (Repairing left) v crash n e r =
    finished v crash r.mark m r.right r.is (inl record { fence = r.more.fence; repairs = all_repairs v e }) n
by_mending c m Mended v crash n e r = finished v crash r.mark m r.right r.is (inr r.more) n

pub outcome : {t : Translation} {c : Cells} {m : Option Mark} → Valid t → StopLeaves t c → IsNewestMark c m →
    Outcome t c m
outcome {t} {c} {m} v crash n = by_mending c m t.work.mending v crash n refl v.mending
