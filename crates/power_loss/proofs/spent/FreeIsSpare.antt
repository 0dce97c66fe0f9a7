-- A page of a free block is spare: what stands in for it lies outside of all free blocks.
use Rattle.power_loss.proofs.Common.{◌≡◌, ◌≢◌, ℕ, ◌<◌, ◌≤◌, ◌⊎◌, List, Some, refl, sym, ap, ◌∙◌, subst, inl, inr}
use Rattle.power_loss.proofs.Common.{⊎_elim, arith, Cell, GroupPage, Mark, MarkPage, Nothing, key_of, Free, spot_of}
use Rattle.power_loss.proofs.Common.{IsFenced, recorded_in, Entry, HasStandIn, IsSpare, Mended, Mending, Repairing}
use Rattle.power_loss.proofs.Common.{Translation, Unmarked, Place, Tag, IsLostNumber, IsPageAt, book, IsSafe, IsWritten}
use Rattle.power_loss.proofs.Common.{MayBeErased, Valid}
use Rattle.ufs_spec.specs.Openings.{IsFree}
use Rattle.power_loss.proofs.books.LayerParts.{MarksOf, MendingOf, SecureOf}
use Rattle.power_loss.proofs.jobs.DiskChanges.{spare_moves}
use Rattle.power_loss.proofs.spent.ErasedIsSpent.{Judges, entry_for, is_finished, judges_fence, judges_plain, known_one}
use Rattle.power_loss.proofs.spent.ErasedIsSpent.{lost_or_not, old_page, opened_here}

-- Once a mark of the life is finished

module _ (t : Translation) (v : Valid t) (m : Mark) (is : t.ledger.newest ≡ Some m) (judge : Judges t m)
    (right : MarksOf t m) where
  abbrev StandIn : Tag → List ℕ → Type 0
  StandIn tag body = HasStandIn t.disk.cells m (IsFree t.disk.blocks) tag body

  -- a newer page that stands securely
  by_newer : {tag : Tag} (body : List ℕ) (n i : ℕ) (x : Entry) → (IsLostNumber (book t) n → ⊥) → SecureOf t n i →
      IsPageAt (book t) n i x → x.item.key ≡ key_of tag → tag.number < n → n ≤ m.records → StandIn tag body
  by_newer {tag} body n i x kept c page key newer far =
      let e = known_one (book t) {n = n} {i = i} {x = x} c.tag {body = c.body} page
      (v.pages.known c.place c.tag c.body c.there) c.number c.index in
      let number = c.number in
      record {
        place = c.place;
        tag = c.tag;
        other = c.body;
        there = c.there;
        outside = c.needed;
        instead = inr record {
          key = sym (ap (λ z. z.item.key) e) ∙ key;
          newer = omega arith;
          recorded = omega arith;
          counts = λ f. kept (judge.fenced n (subst (IsFenced m.fence) c.number f));
        };
      }

  by_safe : {tag : Tag} (body : List ℕ) (n i : ℕ) (x : Entry) → (IsLostNumber (book t) n → ⊥) →
      IsPageAt (book t) n i x → x.item.key ≡ key_of tag → tag.number < n → n ≤ m.records →
      IsSafe (book t) m.records t.ledger.standing t.disk.cells t.disk.finished t.disk.blocks t.disk.erasing n i
      x.item.key → StandIn tag body
  by_safe body n i x kept page key newer far (inl c) = by_newer body n i x kept c page key newer far
  by_safe {tag} body n i x kept page key newer far (inr o) =
      let l = o.by.newer in
      by_newer body o.by.number o.by.index o.by.page o.by.free o.secure o.by.is (o.by.key ∙ key) (omega arith)
      o.by.within

  safe_at : (n i : ℕ) (x : Entry) {q : Place} → IsPageAt (book t) n i x → t.ledger.standing n i ≡ Some q →
      (IsLostNumber (book t) n → ⊥) → IsSafe (book t) m.records t.ledger.standing t.disk.cells t.disk.finished
      t.disk.blocks t.disk.erasing n i x.item.key
  safe_at n i x {q} h k out =
      subst (λ z. IsSafe (book t) z t.ledger.standing t.disk.cells t.disk.finished t.disk.blocks t.disk.erasing n i
      x.item.key) (ap recorded_in is) (v.safe.safe n i x q h k out)

  by_written : {tag : Tag} (body : List ℕ) → tag.number ≤ t.ledger.greatest_seen →
      IsWritten (book t) (key_of tag) m.records → StandIn tag body
  by_written {tag} body l w =
      let new = w.new in
      let within = w.within in
      let under = right.within in
      let out : IsLostNumber (book t) w.number → ⊥ = λ o. let z = o.to in omega arith in
      let q = v.frontier.stand w.number w.index w.page (omega arith) w.is in
      by_safe body w.number w.index w.page out w.is w.key (omega arith) w.within
      (safe_at w.number w.index w.page w.is q.1 out)

  -- it is secure itself, or a newer one is
  by_itself : (tag : Tag) (body : List ℕ) (p : Place) → t.disk.cells p ≡ GroupPage tag body →
      IsSafe (book t) m.records t.ledger.standing t.disk.cells t.disk.finished t.disk.blocks t.disk.erasing tag.number
      tag.index (key_of tag) → StandIn tag body
  by_itself tag body p there (inl c) =
      let e = known_one (book t) c.tag (v.pages.known p tag body there)
      (v.pages.known c.place c.tag c.body c.there) c.number c.index in
      record {
        place = c.place;
        tag = c.tag;
        other = c.body;
        there = c.there;
        outside = c.needed;
        instead = inl (
          ap (λ x. x.item.key) e,
          sym c.number,
          sym c.index,
          ap (λ x. x.size) e,
          ap (λ x. x.item.body) e,
        );
      }
  by_itself tag body p there (inr o) =
      by_newer body o.by.number o.by.index o.by.page o.by.free o.secure o.by.is o.by.key o.by.newer o.by.within

  page_spare : (p : Place) (tag : Tag) (body : List ℕ) → t.disk.blocks (spot_of p) ≡ Free →
      t.disk.cells p ≡ GroupPage tag body → IsFenced m.fence tag.number ⊎ StandIn tag body
  page_spare p tag body free there =
      let known = v.pages.known p tag body there in
      let q = v.pages.stands p tag body there (is_finished v free p refl) in
      ⊎_elim
      (λ lost. ⊎_elim (λ f. inl f) (λ w. inr (by_written body lost.to w))
      (judge.lost tag.number tag.index (entry_for tag body) lost (old_page (book t) tag.number tag.index
      (entry_for tag body) lost.to known)))
      (λ kept. inr (by_itself tag body p there (safe_at tag.number tag.index (entry_for tag body) known q.1 kept)))
      (lost_or_not)

  cell_spare : (p : Place) (cell : Cell) → t.disk.blocks (spot_of p) ≡ Free → t.disk.cells p ≡ cell →
      cell ≢ Nothing → IsSpare t.disk.cells (Some m) (IsFree t.disk.blocks) cell
  cell_spare p Nothing free there some = absurd (some refl)
  cell_spare p (GroupPage tag body) free there some = page_spare p tag body free there
  cell_spare p (MarkPage other) free there some = right.freed p other there free

  marked_spare : (p : Place) → t.disk.blocks (spot_of p) ≡ Free → t.disk.cells p ≢ Nothing →
      IsSpare t.disk.cells t.ledger.newest (IsFree t.disk.blocks) (t.disk.cells p)
  marked_spare p free some = subst (λ z. IsSpare t.disk.cells z (IsFree t.disk.blocks) (t.disk.cells p)) (sym is)
      (cell_spare p (t.disk.cells p) free refl some)

-- Whatever is under way

spare_in : (t : Translation) (w : Mending) (p : Place) → Valid t → t.disk.blocks (spot_of p) ≡ Free → MendingOf t w →
    t.disk.cells p ≢ Nothing → IsSpare t.disk.cells t.ledger.newest (IsFree t.disk.blocks) (t.disk.cells p)
spare_in t (Unmarked fence lost) p v free u some =
    let same = opened_here t (spot_of p) v free (lost, u) p refl some in
    ⊎_elim (λ k. absurd (k.1 (inl free)))
    (λ k. spare_moves t.disk.cells t.disk.cells t.ledger.newest (MayBeErased t.disk.blocks t.disk.erasing)
    (IsFree t.disk.blocks) (t.disk.cells p) (λ s f. inl f) (λ q was out. refl)
    (subst (IsSpare t.disk.cells t.ledger.newest (MayBeErased t.disk.blocks t.disk.erasing)) (sym same) k))
    (u.spare p (λ z. some (same ∙ z)))
spare_in t (Repairing left) p v free r some =
    marked_spare t v r.mark r.is (judges_fence r.more.fence) r.right p free some
spare_in t Mended p v free r some = marked_spare t v r.mark r.is (judges_plain r.more) r.right p free some

pub free_is_spare : (t : Translation) (p : Place) → Valid t → t.disk.blocks (spot_of p) ≡ Free →
    t.disk.cells p ≢ Nothing → IsSpare t.disk.cells t.ledger.newest (IsFree t.disk.blocks) (t.disk.cells p)
free_is_spare t p v free some = spare_in t t.work.mending p v free v.mending some
