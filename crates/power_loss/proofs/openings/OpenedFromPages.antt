-- What pages that open say of an opened translation layer: the ends of fences, and entries and numbers that fit.
use Rattle.power_loss.proofs.Common.{◌≡◌, ℕ, ◌<◌, ◌≤◌, Bool, List, Option, Some, None, length, sym, ap, ◌∙◌, subst}
use Rattle.power_loss.proofs.Common.{⊎_elim, arith, AreWithin, Array, Cells, DataHold, GroupPage, IsCell, Mark}
use Rattle.power_loss.proofs.Common.{MarkPage, Opens, Shows, mark_tag, Spot, IsNewestMark, fence_in, recorded_in, Entry}
use Rattle.power_loss.proofs.Common.{IsAtMost, number_of, CellsSound, Translation, Numbers, Fence, Place, Tag}
use Rattle.power_loss.proofs.Common.{CellsRight, book, last_number}
use Rattle.power_loss.proofs.MachineWords.{BookFits, EntryFits, IsArrayOf}
use Rattle.ufs_laws.proofs.pages.BlankPages.{blank_is_nothing}
use Rattle.ufs_spec.specs.Pages.{greatest_number}
use Rattle.ufs_spec.specs.Cells.{IsMarkBody}
use Rattle.power_loss.proofs.openings.OpenedByName.{OldPage, Opened, low_cases, old_page, only_old}

-- Pages

-- a page of a group opens to its tag and block
pub group_opens : (array : Array) (c : Cells) {p : Place} {t : Tag} {body : List ℕ} → Shows array c →
    c p ≡ GroupPage t body → Opens (array p) t body × DataHold t body
group_opens array c {p} shows e = let is = subst (IsCell (array p)) e (shows p) in (is.0, is.1)

-- a mark opens to its tag and its body
pub mark_opens : (array : Array) (c : Cells) (p : Place) (m : Mark) → Shows array c → c p ≡ MarkPage m →
    (body : List ℕ) × Opens (array p) (mark_tag m) body × IsMarkBody m.fence m.numbers body
mark_opens array c p m shows e = subst (IsCell (array p)) e (shows p)

pub cells_right : (array : Array) {c : Cells} → Shows array c → CellsRight c
cells_right array {c} shows = record {
  fences = λ p m f e fence. let is = mark_opens array c p m shows e in (is.2.fence_right f fence).ordered;
}

pub cells_within : {n : Numbers} {array : Array} (c : Cells) → IsArrayOf n array → Shows array c → AreWithin n c
cells_within c blank shows p out = blank_is_nothing (c p) (subst (λ page. IsCell page (c p)) (blank p out) (shows p))

-- Numbers that fit

-- no frontier that a mark records, and no number of one, is above 2^62
mark_fits : (array : Array) (c : Cells) {p : Place} (m : Mark) → Shows array c → c p ≡ MarkPage m →
    (m.records ≤ greatest_number) × (m.number ≤ greatest_number)
mark_fits array c {p} m shows e = let is = mark_opens array c p m shows e in
    (is.1.tag_right.frontier_fits, is.1.tag_right.number_given.1)

recorded_fits : (array : Array) (c : Cells) (m : Option Mark) → Shows array c → IsNewestMark c m →
    recorded_in m ≤ greatest_number
recorded_fits array c None shows newest = omega arith
recorded_fits array c (Some m) shows newest = (mark_fits array c m shows newest.0.1).0

pub number_fits : (array : Array) (c : Cells) (m : Option Mark) → Shows array c → IsNewestMark c m →
    number_of m ≤ greatest_number
number_fits array c None shows newest = omega arith
number_fits array c (Some m) shows newest = (mark_fits array c {p = newest.0.0} m shows newest.0.1).1

pub all_fit : (array : Array) {c : Cells} {m : Option Mark} → Shows array c → CellsSound c m → IsNewestMark c m →
    IsAtMost c m greatest_number
all_fit array {c} {m} shows sound newest = record {
  numbers = λ p t body e. let is = group_opens array c shows e in is.0.tag_right.number_given.1;
  frontiers = λ p t body e. let is = group_opens array c shows e in is.0.tag_right.frontier_fits;
  marks = λ p other e. (mark_fits array c other shows e).0;
  fence = λ f e. subst (λ n. n ≤ greatest_number) (sound.fence f e) (recorded_fits array c m shows newest);
}

-- the last number of the newest mark's fence is a number
fence_some : (array : Array) (c : Cells) (m : Option Mark) {f : Fence} → Shows array c → IsNewestMark c m →
    fence_in m ≡ Some f → 0 < f.last
fence_some array c None shows newest e = cc
fence_some array c (Some m) {f} shows newest e =
    let is = mark_opens array c newest.0.0 m shows newest.0.1 in (is.2.fence_right f e).some

-- The book

module _ (array : Array) (bad : Spot → Bool) (t : Translation) (o : Opened bad t)
    (shows : Shows array t.disk.cells) where
  entry_fits : {n i : ℕ} {e : Entry} → OldPage t.disk.cells n i e → EntryFits e i × (1 ≤ n)
  entry_fits page =
      let is = group_opens array t.disk.cells shows page.there in
      let tag = is.0.tag_right in
      let size = page.size in
      let index = page.index in
      let number = page.number in
      let long = tag.group_not_long.1 in
      let inside = tag.index_in_group in
      let given = tag.number_given.0 in (
        record {
          block = is.0.body_right;
          settings = λ kind. is.1.settings (sym (ap (λ k. k.kind) page.key) ∙ kind);
          size = omega arith;
          inside = omega arith;
        },
        omega arith,
      )

  top_fits : t.ledger.greatest_seen ≤ greatest_number
  top_fits = o.start.ledger.greatest_seen.1 greatest_number (all_fit array shows o.sound o.start.ledger.newest)

  last_fits : last_number (book t) ≤ greatest_number
  last_fits =
      let none = ap length o.start.ledger.none_new in
      let same : t.ledger.greatest_seen ≡ last_number (book t) = omega arith in
      subst (λ n. n ≤ greatest_number) same top_fits

  lost_some : t.ledger.first_lost ≤ t.ledger.greatest_seen → 1 ≤ t.ledger.greatest_seen
  lost_some lost = ⊎_elim
      (λ z. let low = z.1 in
      omega arith)
      (λ z.
      let some = fence_some array t.disk.cells t.ledger.newest shows o.start.ledger.newest z.1 in
      let within = o.start.ledger.greatest_seen.0.fence z.0 z.1 in
      omega arith) (low_cases o)

  pub book_fits : BookFits (book t)
  book_fits = record {
    entries = λ n i e is. entry_fits (old_page o (only_old o n i is));
    last = last_fits;
    lost = lost_some;
  }
