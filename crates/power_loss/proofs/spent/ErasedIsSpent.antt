-- A block that is given to a die to be erased holds only pages that may go.
use Rattle.power_loss.proofs.Common.{◌≡◌, ◌≢◌, ℕ, ◌<◌, ◌≤◌, true, false, ◌⊎◌, List, Option, Some, None, refl, sym, ap}
use Rattle.power_loss.proofs.Common.{◌∙◌, subst, inl, inr, ⊎_elim, arith, Cell, GroupPage, Mark, MarkPage, Nothing}
use Rattle.power_loss.proofs.Common.{key_of, BlockState, Erasing, Free, HasCopy, IsNewestFinished, IsReplaced, MayErase}
use Rattle.power_loss.proofs.Common.{Spent, SpentBy, Spot, spot_of, with_erasing, IsFenced, recorded_in, Entry, MayTake}
use Rattle.power_loss.proofs.Common.{Mended, Mending, Repairing, Translation, Unmarked, is_pinned, Fence, Place, Tag}
use Rattle.power_loss.proofs.Common.{at_most, cases_Bool, Book, IsKnown, IsLostNumber, IsPageAt, IsPlainMark, IsWritten}
use Rattle.power_loss.proofs.Common.{book, page_at, IsFenceMark, IsSafe, Valid, same_Some, HasStandIn, IsSpare}
use Rattle.power_loss.proofs.Common.{MayBeErased, number_of, mark_not_nothing, one_mark, page_not_nothing, true≢false}
use Rattle.ufs_spec.specs.Disk.{Stands}
use Rattle.power_loss.proofs.books.LayerParts.{MarksOf, MendingOf, OwnMarkOf, SecureOf}
use Rattle.power_loss.proofs.jobs_owed.ProgramsAndErases.{erase_owed}
use Rattle.power_loss.proofs.jobs.StandsSecurely.{at_spot_other, free_is_not_bad}
use Rattle.power_loss.proofs.stops.LeftUnmarked.{disk_mark, newest_there, not_erasing, opened_below, page_no_mark}
use Rattle.power_loss.proofs.stops.LeftUnmarked.{Started}
pub use Rattle.power_loss.proofs.books.PagesByName.{entry_for, is_old as old_page}

-- Pages of the book

-- a known page has what is at its name
pub known_one : (b : Book) {n i : ℕ} {x : Entry} (tag : Tag) {body : List ℕ} → IsPageAt b n i x → IsKnown b tag body →
    tag.number ≡ n → tag.index ≡ i → x ≡ entry_for tag body
known_one b tag h k e f = same_Some _ _ (sym h ∙ sym (ap (page_at b) (λ j. record { number = e j; index = f j })) ∙ k)

pub lost_or_not : {b : Book} {n : ℕ} → IsLostNumber b n ⊎ (IsLostNumber b n → ⊥)
lost_or_not {b} {n} = ⊎_elim (λ l. ⊎_elim (λ k. inl record { from = l; to = k })
    (λ k. inr (λ o. let z = o.to in omega arith)) (at_most n b.greatest_seen))
    (λ l. inr (λ o. let z = o.from in omega arith)) (at_most b.first_lost n)

-- Copies and newer pages

-- what is needed is not in a free block
pub outside : (blocks : Spot → BlockState) {s a : Spot} → blocks s ≡ Free → blocks a ≢ Free → a ≢ s
outside blocks free needed h = needed (ap blocks h ∙ free)

copied : (t : Translation) (s : Spot) (tag : Tag) {body : List ℕ} → Valid t → t.disk.blocks s ≡ Free →
    IsKnown (book t) tag body → SecureOf t tag.number tag.index → HasCopy (with_erasing t.disk s) tag body
copied t s tag v free known c =
    let e = known_one (book t) c.tag known (v.pages.known c.place c.tag c.body c.there) c.number c.index in
    record {
      place = c.place;
      tag = c.tag;
      there = c.there ∙ ap (GroupPage c.tag) (sym (ap (λ x. x.item.body) e));
      same = (ap (λ x. x.item.key) e, sym c.number, sym c.index, ap (λ x. x.size) e, refl);
      finished = c.ended;
      stays = at_spot_other t.disk.erasing s true (spot_of c.place) (outside t.disk.blocks free c.needed) ∙ c.stays;
    }

pub fenced_none : (f : Option Fence) (n : ℕ) → f ≡ None → IsFenced f n → ⊥
fenced_none f n e h = subst (λ z. IsFenced z n) e h

-- the pages of a free block are finished
pub is_finished : {t : Translation} {s : Spot} → Valid t → t.disk.blocks s ≡ Free → (p : Place) → spot_of p ≡ s →
    t.disk.finished p ≡ true
is_finished {t} v free p at = ⊎_elim (λ h. h)
    (λ h. absurd (free_is_not_bad free (sym (ap t.disk.blocks at) ∙ v.blocks.unfinished p h)))
    (cases_Bool (t.disk.finished p))

replaced : {t : Translation} (s : Spot) {m : Mark} {tag : Tag} {n i : ℕ} {x : Entry} → Valid t →
    (IsFenced m.fence n → ⊥) → SecureOf t n i → IsPageAt (book t) n i x → x.item.key ≡ key_of tag → tag.number < n →
    n ≤ m.records → IsReplaced (with_erasing t.disk s) m tag
replaced {t} s {m} {tag} {n} {i} {x} v free c is key newer within =
    let e = known_one (book t) {n = n} {i = i} {x = x} c.tag {body = c.body} is
    (v.pages.known c.place c.tag c.body c.there) c.number c.index in
    let number = c.number in
    record {
      place = c.place;
      tag = c.tag;
      body = c.body;
      there = c.there;
      counts = λ f. free (subst (IsFenced m.fence) c.number f);
      key = sym (ap (λ x. x.item.key) e) ∙ key;
      newer = omega arith;
      recorded = omega arith;
    }

-- What a mark says of the lost numbers: its fence holds only lost ones, and a page with a lost one is in the fence, or
-- its key is written in this life at or under what the mark records
pub record Judges (t : Translation) (m : Mark) : Type 0 where
  pub fenced : (n : ℕ) → IsFenced m.fence n → IsLostNumber (book t) n
  pub lost : (n i : ℕ) (x : Entry) → IsLostNumber (book t) n → t.ledger.entries_before n i ≡ Some x →
      IsFenced m.fence n ⊎ IsWritten (book t) x.item.key m.records

-- the page of a name that is safe may go
safe_spent : {t : Translation} (s : Spot) {m : Mark} {tag : Tag} {n i : ℕ} {x : Entry} → Valid t → Judges t m →
    (IsLostNumber (book t) n → ⊥) → IsPageAt (book t) n i x → x.item.key ≡ key_of tag → tag.number < n →
    n ≤ m.records → IsSafe (book t) m.records t.ledger.standing t.disk.cells t.disk.finished t.disk.blocks
    t.disk.erasing n i x.item.key → IsReplaced (with_erasing t.disk s) m tag
safe_spent {t} s {m} {tag} {n} {i} {x} v judge out is key newer within (inl c) =
    replaced s {n = n} {i = i} {x = x} v (λ f. out (judge.fenced n f)) c is key newer within
safe_spent {t} s {m} {tag} v judge out is key newer within (inr o) =
    let l = o.by.newer in
    replaced s v (λ f. o.by.free (judge.fenced o.by.number f)) o.secure o.by.is (o.by.key ∙ key) (omega arith)
    o.by.within

module _ (t : Translation) (s : Spot) (v : Valid t) (free : t.disk.blocks s ≡ Free) (m : Mark)
    (is : t.ledger.newest ≡ Some m) (judge : Judges t m)
    (right : MarksOf t m) where
  safe_at : {n : ℕ} (i : ℕ) (x : Entry) {q : Place} → IsPageAt (book t) n i x → t.ledger.standing n i ≡ Some q →
      (IsLostNumber (book t) n → ⊥) → IsSafe (book t) m.records t.ledger.standing t.disk.cells t.disk.finished
      t.disk.blocks t.disk.erasing n i x.item.key
  safe_at {n} i x {q} h k out =
      subst (λ z. IsSafe (book t) z t.ledger.standing t.disk.cells t.disk.finished t.disk.blocks t.disk.erasing n i
      x.item.key) (ap recorded_in is) (v.safe.safe n i x q h k out)

  written_spent : {tag : Tag} → tag.number ≤ t.ledger.greatest_seen → IsWritten (book t) (key_of tag) m.records →
      IsReplaced (with_erasing t.disk s) m tag
  written_spent {tag} l w =
      let new = w.new in
      let within = w.within in
      let under = right.within in
      let out : IsLostNumber (book t) w.number → ⊥ = λ o. let z = o.to in omega arith in
      let q = v.frontier.stand w.number w.index w.page (omega arith) w.is in
      safe_spent s v judge out w.is w.key (omega arith) w.within (safe_at w.index w.page w.is q.1 out)

  page_spent : {tag : Tag} {body : List ℕ} (p : Place) {q : Place} → t.disk.cells p ≡ GroupPage tag body →
      t.ledger.standing tag.number tag.index ≡ Some q → IsLostNumber (book t) tag.number ⊎
      (IsLostNumber (book t) tag.number → ⊥) → SpentBy (with_erasing t.disk s) m (GroupPage tag body)
  page_spent {tag} {body} p h k (inl lost) =
      ⊎_elim (λ f. inl f) (λ w. inr (inr (written_spent lost.to w)))
      (judge.lost tag.number tag.index (entry_for tag body) lost (old_page (book t) tag.number tag.index
      (entry_for tag body) lost.to (v.pages.known p tag body h)))
  page_spent {tag} {body} p {q} h k (inr kept) =
      ⊎_elim (λ c. inr (inl (copied t s tag v free (v.pages.known p tag body h) c)))
      (λ o. inr (inr (replaced s v (λ f. o.by.free (judge.fenced o.by.number f)) o.secure o.by.is o.by.key o.by.newer
      o.by.within)))
      (safe_at tag.index (entry_for tag body) (v.pages.known p tag body h) k kept)

  newest_finished : IsNewestFinished (with_erasing t.disk s) m
  newest_finished = record {
    stands = record {
      place = right.stands.place;
      there = right.stands.there;
      finished = right.stands.ended;
      stays = at_spot_other t.disk.erasing s true (spot_of right.stands.place)
          (outside t.disk.blocks free right.stands.needed) ∙ right.stands.stays;
    };
    newest = right.ended;
  }

  cell_spent : (p : Place) (cell : Cell) → spot_of p ≡ s → t.disk.cells p ≡ cell → cell ≢ Nothing →
      SpentBy (with_erasing t.disk s) m cell
  cell_spent p Nothing at h some = some refl
  cell_spent p (GroupPage tag body) at h some =
      let q = v.pages.stands p tag body h (is_finished v free p at) in
      page_spent p h q.1 (lost_or_not)
  cell_spent p (MarkPage other) at h some = right.freed p other h (ap t.disk.blocks at ∙ free)

  pub marked_spent : (p : Place) → spot_of p ≡ s → t.disk.cells p ≢ Nothing → Spent t.disk p
  marked_spent p at some =
      subst (λ q. (x : Mark) × IsNewestFinished (with_erasing t.disk q) x × SpentBy (with_erasing t.disk q) x
      (t.disk.cells p)) (sym at) (m, newest_finished, cell_spent p (t.disk.cells p) at refl some)

-- Before the first mark of the life is finished

module _ (t : Translation) (s : Spot) (v : Valid t) (free : t.disk.blocks s ≡ Free) {fence : Option Fence}
    (u : Started t fence) where
  -- what stands where no page may go is finished, unless it is a mark of this life
  ended : (p : Place) → t.disk.cells p ≢ Nothing →
      ((m : Mark) → t.disk.cells p ≡ MarkPage m → OwnMarkOf t fence m → ⊥) → t.disk.finished p ≡ true
  ended p some not_own = ⊎_elim (λ h. h)
      (λ h. ⊎_elim (λ k. absurd (some k)) (λ k. absurd (not_own k.0 k.1 k.2)) (u.1.unfinished p h))
      (cases_Bool (t.disk.finished p))

  page_ended : (p : Place) {tag : Tag} {body : List ℕ} → t.disk.cells p ≡ GroupPage tag body →
      t.disk.finished p ≡ true
  page_ended p h = ended p (page_not_nothing _ _ _ h) (λ m e own. page_no_mark (sym h ∙ e))

  stays_out : (q : Place) → (MayBeErased t.disk.blocks t.disk.erasing (spot_of q) → ⊥) →
      (with_erasing t.disk s).erasing (spot_of q) ≡ false
  stays_out q out = at_spot_other t.disk.erasing s true (spot_of q)
      (λ at. out (inl (ap t.disk.blocks at ∙ free))) ∙ not_erasing t out

  module _ (m : Mark) (is : t.ledger.newest ≡ Some m) where
    first_finished : IsNewestFinished (with_erasing t.disk s) m
    first_finished =
        let n = newest_there t u is in
        let same = ap number_of is in
        record {
          stands = record {
            place = n.0;
            there = n.2;
            finished = ended n.0 (mark_not_nothing _ _ n.2) (λ other e own.
                let z = ap (λ (x : Mark). x.number) (one_mark other m (sym e ∙ n.2)) in
                let newer = own.newer in
                omega arith);
            stays = stays_out n.0 n.3;
          };
          newest = λ p other h fin. ⊎_elim
              (λ k. let l = opened_below u.1.opening t.ledger.newest u.1.opened.is_newest k in omega arith)
              (λ own. absurd (true≢false (sym fin ∙ own.0))) (disk_mark t u other h);
        }

    stand_in_spends : {tag : Tag} {body : List ℕ} →
        HasStandIn t.disk.cells m (MayBeErased t.disk.blocks t.disk.erasing) tag body →
        HasCopy (with_erasing t.disk s) tag body ⊎ IsReplaced (with_erasing t.disk s) m tag
    stand_in_spends k = ⊎_elim
        (λ same. inl record {
          place = k.place;
          tag = k.tag;
          there = k.there ∙ ap (GroupPage k.tag) (sym same.4);
          same = (same.0, same.1, same.2, same.3, refl);
          finished = page_ended k.place k.there;
          stays = stays_out k.place k.outside;
        })
        (λ over. inr record {
          place = k.place;
          tag = k.tag;
          body = k.other;
          there = k.there;
          counts = over.counts;
          key = over.key;
          newer = over.newer;
          recorded = over.recorded;
        }) k.instead

    spare_spent : (cell : Cell) → IsSpare t.disk.cells (Some m) (MayBeErased t.disk.blocks t.disk.erasing) cell →
        SpentBy (with_erasing t.disk s) m cell
    spare_spent Nothing k = absurd k
    spare_spent (MarkPage other) k = k
    spare_spent (GroupPage tag body) (inl f) = inl f
    spare_spent (GroupPage tag body) (inr k) = inr (stand_in_spends k)

  -- in a free block stands only what stood at the opening
  pub opened_here : (p : Place) → spot_of p ≡ s → t.disk.cells p ≢ Nothing → t.disk.cells p ≡ u.1.opening p
  opened_here p at some = ⊎_elim (λ k. k)
      (λ k. ⊎_elim (λ none. absurd (some none))
      (λ own. absurd (free_is_not_bad free (sym (ap t.disk.blocks at) ∙ v.blocks.unfinished p own.0))) k) (u.1.same p)

  started_by : (newest : Option Mark) → t.ledger.newest ≡ newest → (p : Place) → spot_of p ≡ s →
      t.disk.cells p ≢ Nothing → IsSpare t.disk.cells newest (MayBeErased t.disk.blocks t.disk.erasing)
      (t.disk.cells p) → Spent t.disk p
  started_by None is p at some k = absurd k
  started_by (Some m) is p at some k =
      subst (λ q. (x : Mark) × IsNewestFinished (with_erasing t.disk q) x × SpentBy (with_erasing t.disk q) x
      (t.disk.cells p)) (sym at) (m, first_finished m is, spare_spent m is (t.disk.cells p) k)

  started_spent : (p : Place) → spot_of p ≡ s → t.disk.cells p ≢ Nothing → Spent t.disk p
  started_spent p at some =
      let same = opened_here p at some in
      ⊎_elim (λ k. absurd (k.1 (inl (ap t.disk.blocks at ∙ free))))
      (λ k. started_by t.ledger.newest refl p at some (subst (IsSpare t.disk.cells t.ledger.newest
      (MayBeErased t.disk.blocks t.disk.erasing)) (sym same) k)) (u.1.spare p (λ z. some (same ∙ z)))

-- Whatever is under way

pub judges_plain : {t : Translation} {m : Mark} → IsPlainMark (book t) m → Judges t m
judges_plain {m = m} plain = record {
  fenced = λ n f. absurd (fenced_none m.fence n plain.none f);
  lost = λ n i x lost is. inr (plain.repaired n i x lost is);
}

pub judges_fence : {t : Translation} {m : Mark} → IsFenceMark (book t) m → Judges t m
judges_fence {t} {m} r = record {
  fenced = λ n f.
      let g : IsFenced (Some r.fence) n = subst (λ z. IsFenced z n) r.is f in
      let l = g.0 in
      let u = g.1 in
      let a = r.first in
      let b = r.last in
      record { from = omega arith; to = omega arith };
  lost = λ n i x lost is. inl (subst (λ z. IsFenced z n) (sym r.is)
      (let a = r.first in let b = r.last in let x = lost.from in let y = lost.to in (omega arith, omega arith)));
}

spent_in : (t : Translation) (s : Spot) (w : Mending) → Valid t → t.disk.blocks s ≡ Free → MendingOf t w →
    MayErase t.disk s
spent_in t s (Unmarked fence lost) v free u p at some = started_spent t s v free (lost, u) p at some
spent_in t s (Repairing left) v free r p at some =
    marked_spent t s v free r.mark r.is (judges_fence r.more.fence) r.right p at some
spent_in t s Mended v free r p at some = marked_spent t s v free r.mark r.is (judges_plain r.more) r.right p at some

-- each page of a free block may go
pub free_are_spent : (t : Translation) (s : Spot) → Valid t → t.disk.blocks s ≡ Free → MayErase t.disk s
free_are_spent t s v free = spent_in t s t.work.mending v free v.mending

pub erased_are_spent : (t : Translation) (die : ℕ) (s : Spot) → Valid t → MayTake t die (Some (Erasing s)) →
    MayErase t.disk s × (is_pinned t s ≡ false)
erased_are_spent t die s v may = let o = erase_owed t die s may in (
  free_are_spent t s v o.free,
  o.unkept,
)

-- by a finished mark that stands where no block is being erased
pub erased_by_some_mark : (t : Translation) (die : ℕ) (s : Spot) (p : Place) → Valid t →
    MayTake t die (Some (Erasing s)) → spot_of p ≡ s → t.disk.cells p ≢ Nothing → (m : Mark) × Stands
    (with_erasing t.disk s) m × SpentBy (with_erasing t.disk s) m (t.disk.cells p)
erased_by_some_mark t die s p v may at some =
    let go = (erased_are_spent t die s v may).0 p at some in
    subst (λ q. (x : Mark) × Stands (with_erasing t.disk q) x × SpentBy (with_erasing t.disk q) x (t.disk.cells p)) at
    (go.0, go.1.stands, go.2)
