-- What an opened translation layer knows of the dies: the frontier, pages, blocks and jobs.
use Rattle.power_loss.proofs.Common.{◌≡◌, ◌≢◌, ℕ, suc, ◌<◌, ◌≤◌, ◌⊎◌, Bool, true, List, Option, Some, None, refl, sym}
use Rattle.power_loss.proofs.Common.{ap, ◌∙◌, subst, inl, inr, ⊎_elim, arith, cases_Bool, Cell, GroupPage, Mark}
use Rattle.power_loss.proofs.Common.{MarkPage, Nothing, BlockState, Bad, Closed, Filling, Flight, Free, Spot, spot_of}
use Rattle.power_loss.proofs.Common.{Counts, IsFenced, IsNewestMark, fence_in, recorded_in, Entry, Name, HasStandIn}
use Rattle.power_loss.proofs.Common.{IsFirst, IsSpare, Overwrites, StandsAt, number_of, Translation, is_free, name_of}
use Rattle.power_loss.proofs.Common.{Key, Place, Tag, mark_not_nothing, page_not_nothing, none-some, true≢false}
use Rattle.power_loss.proofs.Common.{IsLostNumber, IsPageAt, book, AreNumbered, BlocksRight, FlightsRight}
use Rattle.power_loss.proofs.Common.{FrontierRight, HasKey, PagesRight, Ready, SafeRight, Stale, Untouched, Vacancy}
use Rattle.power_loss.proofs.Common.{VacanciesRight}
use Rattle.power_loss.specs.Invariant.{IsSecurelyOverwritten}
use Rattle.ufs_spec.specs.Kept.{IsNewest}
use Rattle.ufs_spec.specs.Openings.{IsFree, IsVacancyAt}
use Rattle.power_loss.proofs.books.LayerParts.{SecureOf}
use Rattle.power_loss.proofs.jobs.StandsSecurely.{closed_is_not_filling, filling_is_not_bad, free_is_not_filling}
use Rattle.power_loss.proofs.openings.OpenedByName.{Opened, from_old, is_known, low_cases, old_page, old_within}
use Rattle.power_loss.proofs.openings.OpenedByName.{only_old, page_is_old, recorded_kept, shown, stands, stands_there}
use Rattle.power_loss.proofs.spent.ErasedIsSpent.{known_one}

-- a page of the name
record PageThere (t : Translation) (n i : ℕ) (p : Place) : Type 0 where
  pub tag : Tag
  pub body : List ℕ
  pub there : t.disk.cells p ≡ GroupPage tag body
  pub number : tag.number ≡ n
  pub index : tag.index ≡ i

is_free_told : {x : BlockState} → true ≡ is_free x → x ≡ Free
is_free_told {x = Free} e = refl
is_free_told {x = Filling next} e = cc
is_free_told {x = Closed} e = cc
is_free_told {x = Bad} e = cc

pub free_or_not : (x : BlockState) → (x ≡ Free) ⊎ (x ≢ Free)
free_or_not Free = inl refl
free_or_not (Filling next) = inr (λ e. cc)
free_or_not Closed = inr (λ e. cc)
free_or_not Bad = inr (λ e. cc)

module _ {bad : Spot → Bool} {t : Translation} (o : Opened bad t) where
  -- a page of a free block is spare
  free_spare : (p : Place) → t.disk.blocks (spot_of p) ≡ Free → t.disk.cells p ≢ Nothing →
      IsSpare t.disk.cells t.ledger.newest (IsFree t.disk.blocks) (t.disk.cells p)
  free_spare p free some = o.start.disk.blocks.spare p free some

  -- a mark in a free block is older than the newest
  pub free_mark : (p : Place) {m other : Mark} → t.ledger.newest ≡ Some m → t.disk.cells p ≡ MarkPage other →
      t.disk.blocks (spot_of p) ≡ Free → other.number < m.number
  free_mark p is h free =
      subst (λ (z : Option Mark × Cell). IsSpare t.disk.cells z.0 (IsFree t.disk.blocks) z.1) (λ i. (is i, h i))
      (free_spare p free (mark_not_nothing _ _ h))

  pub mark_not_free : (p : Place) {m : Mark} → t.ledger.newest ≡ Some m → t.disk.cells p ≡ MarkPage m →
      t.disk.blocks (spot_of p) ≢ Free
  mark_not_free p {m} is h free = below (free_mark p is h free)
    where
      below : m.number < m.number → ⊥
      below l = omega arith

  pub not_erasing : {s : Spot} → t.disk.erasing s ≡ true → ⊥
  not_erasing {s} h = true≢false (sym h ∙ o.start.disk.none_erasing s)

  not_filling : {s : Spot} {next : ℕ} → t.disk.blocks s ≡ Filling next → ⊥
  not_filling {s} h = ⊎_elim (λ e. filling_is_not_bad h (o.start.disk.blocks.were_bad s e))
      (λ e. ⊎_elim (λ free. free_is_not_filling free h) (λ closed. closed_is_not_filling closed h)
      (o.start.disk.blocks.were_good s e)) (cases_Bool (bad s))

  pub blocks_are_right : BlocksRight t.numbers t.disk.cells t.disk.finished t.disk.blocks t.disk.erasing
  blocks_are_right = record {
    unfinished = λ p h. absurd (true≢false (sym (o.start.disk.finished p) ∙ h));
    filling = λ s next h. absurd (not_filling h);
    blank = λ p next h l. absurd (not_filling h);
    erased = λ s h. absurd (not_erasing h);
  }

  pub vacancies_are_right : VacanciesRight t.disk.cells t.disk.blocks t.disk.vacancies t.disk.erasing
  vacancies_are_right = record {
    empty = λ p free full. empty p (t.disk.vacancies (spot_of p)) (o.start.disk.vacancies (spot_of p)) full;
    ready = λ s free is. o.start.disk.none_erasing s;
  }
    where
      empty : (p : Place) (x : Vacancy) → IsVacancyAt t.disk.cells (spot_of p) x → x ≢ Stale → t.disk.cells p ≡ Nothing
      empty p Untouched h full = h p refl
      empty p Stale h full = absurd (full refl)
      empty p Ready h full = absurd h

  -- The frontier and pages

  old_stands : (n i : ℕ) (e : Entry) → IsPageAt (book t) n i e → (q : Place) × (t.ledger.standing n i ≡ Some q)
  old_stands n i e h =
      let y = old_page o (only_old o n i h) in
      let z = stands o y.there in
      (z.0, sym (λ j. t.ledger.standing (y.number j) (y.index j)) ∙ z.1)

  page_there : {n i : ℕ} {p : Place} → t.ledger.standing n i ≡ Some p → PageThere t n i p
  page_there {n} {i} h =
      let x = stands_there o n i h in
      record { tag = x.0; body = x.1; there = x.2; number = ap (λ z. z.number) x.3; index = ap (λ z. z.index) x.3 }

  standing_known : (n i : ℕ) {p : Place} → t.ledger.standing n i ≡ Some p → (e : Entry) × IsPageAt (book t) n i e
  standing_known n i h =
      let x = page_there h in (
        shown x.tag x.body,
        from_old o (sym (λ j. t.ledger.entries_before (x.number j) (x.index j)) ∙ page_is_old o x.there),
      )

  pub frontier_is_right : FrontierRight (book t) t.ledger.standing t.ledger.frontier
  frontier_is_right =
      let f = o.start.ledger.frontier in
      record {
        above = omega arith;
        within = omega arith;
        stand = λ n i e l h. old_stands n i e h;
        known = λ n i p h. standing_known n i h;
      }

  pub pages_are_right : PagesRight (book t) t.ledger.standing t.ledger.frontier t.disk.cells t.disk.finished
  pages_are_right = record {
    within = o.within;
    known = λ p tag body h. is_known o h;
    recorded = λ p tag body h. let f = o.start.ledger.frontier in let z = o.start.ledger.greatest_seen.0.frontiers p tag
        body h in omega arith;
    stands = λ p tag body h ended. stands o h;
  }

  -- Jobs

  pub none_flies : {die : ℕ} {flight : Flight} → t.disk.flights die ≡ Some flight → ⊥
  none_flies {die} {flight} h = none-some _ (sym (o.start.disk.idle die) ∙ h)

  pub flights_are_right : FlightsRight (book t) t.ledger.frontier t.ledger.marks t.disk.blocks t.disk.erasing
      t.disk.flights t.work.step
  flights_are_right = record {
    programs = λ die p cell h. absurd (none_flies h);
    erases = λ die s h. absurd (none_flies h);
    something = λ die p h. none_flies h;
    known = λ die p tag body h. absurd (none_flies h);
    recorded = λ die p tag body h. absurd (none_flies h);
    mark = λ die p m h. absurd (none_flies h);
    one_mark = λ d e p q m other h l. absurd (none_flies h);
  }

  -- What stands is safe

  secure_outside : (n i : ℕ) {p : Place} → t.ledger.standing n i ≡ Some p → t.disk.blocks (spot_of p) ≢ Free →
      SecureOf t n i
  secure_outside n i {p} h out =
      let x = page_there h in
      record {
        place = p;
        tag = x.tag;
        body = x.body;
        known = h;
        there = x.there;
        number = x.number;
        index = x.index;
        ended = o.start.disk.finished p;
        stays = o.start.disk.none_erasing (spot_of p);
        needed = out;
      }

  -- a page of which a place lies outside the free blocks is taken to be at such a place
  taken_outside : (n i : ℕ) {p q : Place} {tag : Tag} {body : List ℕ} → t.ledger.standing n i ≡ Some p →
      t.disk.cells q ≡ GroupPage tag body → tag.number ≡ n → tag.index ≡ i → t.disk.blocks (spot_of q) ≢ Free →
      t.disk.blocks (spot_of p) ≢ Free
  taken_outside n i {p} {q} {tag} {body} h there number index out free =
      let stands : StandsAt t.disk.cells t.disk.blocks (record { number = n; index = i }) (Some p) =
      subst (StandsAt t.disk.cells t.disk.blocks (record { number = n; index = i })) h (o.start.ledger.standing n i) in
      ⊎_elim (λ k. k.0 free)
      (λ k. out (is_free_told (sym (ap is_free free) ∙ k.0)))
      (stands.1 q (tag, body, there, λ j. record { number = number j; index = index j }))

  -- what a page in a free block is, whose name stands nowhere else: shut out by a fence, or overwritten
  record FreePage (n i : ℕ) (p : Place) : Type 0 where
    mark : Mark
    is : t.ledger.newest ≡ Some mark
    page : PageThere t n i p
    why : IsFenced mark.fence n ⊎ ((k : HasStandIn t.disk.cells mark (IsFree t.disk.blocks) page.tag page.body) ×
        Overwrites mark k.tag page.tag)

  free_page : (n i : ℕ) {p : Place} → t.ledger.standing n i ≡ Some p → t.disk.blocks (spot_of p) ≡ Free →
      FreePage n i p
  free_page n i {p} h free = by t.ledger.newest refl
    where
      x : PageThere t n i p
      x = page_there h

      spare : (newest : Option Mark) → t.ledger.newest ≡ newest →
          IsSpare t.disk.cells newest (IsFree t.disk.blocks) (GroupPage x.tag x.body)
      spare newest is = subst (λ (z : Option Mark × Cell). IsSpare t.disk.cells z.0 (IsFree t.disk.blocks) z.1)
          (λ j. (is j, x.there j)) (free_spare p free (page_not_nothing _ _ _ x.there))

      told : (m : Mark) → IsSpare t.disk.cells (Some m) (IsFree t.disk.blocks) (GroupPage x.tag x.body) →
          IsFenced m.fence n ⊎ ((k : HasStandIn t.disk.cells m (IsFree t.disk.blocks) x.tag x.body) ×
          Overwrites m k.tag x.tag)
      told m (inl f) = inl (subst (IsFenced m.fence) x.number f)
      told m (inr k) = ⊎_elim
          (λ same. absurd (taken_outside n i h k.there (sym same.1 ∙ x.number) (sym same.2 ∙ x.index) k.outside free))
          (λ over. inr (k, over)) k.instead

      by : (newest : Option Mark) → t.ledger.newest ≡ newest → FreePage n i p
      by None is = absurd (spare None is)
      by (Some m) is = record { mark = m; is = is; page = x; why = told m (spare (Some m) is) }

  -- a page that counts at or under what the newest mark records is not lost
  recorded_not_lost : {m : Mark} (n : ℕ) → t.ledger.newest ≡ Some m → (IsFenced m.fence n → ⊥) → n ≤ m.records →
      IsLostNumber (book t) n → ⊥
  recorded_not_lost {m} n is free far lost = ⊎_elim
      (λ z.
      let a = z.1 in
      let b = recorded_kept o in
      let c = ap recorded_in is in
      let d = lost.from in
      omega arith)
      (λ z.
      let a = z.2 in
      let b = o.sound.fence z.0 z.1 in
      let c = ap recorded_in is in
      let d = lost.from in
      free (subst (λ f. IsFenced f n) (sym z.1 ∙ ap fence_in is) (omega arith, omega arith))) (low_cases o)

  fenced_is_lost : {m : Mark} (n : ℕ) → t.ledger.newest ≡ Some m → IsFenced m.fence n → n ≤ t.ledger.greatest_seen →
      IsLostNumber (book t) n
  fenced_is_lost {m} n is f seen = ⊎_elim
      (λ z. absurd (subst (λ x. IsFenced x n) (sym (ap fence_in is) ∙ z.0) f))
      (λ z.
      let g : IsFenced (Some z.0) n = subst (λ x. IsFenced x n) (sym (ap fence_in is) ∙ z.1) f in
      let a = z.2 in
      let b = g.0 in
      record { from = omega arith; to = seen }) (low_cases o)

  -- a page that is overwritten from outside the free blocks is so securely
  overwritten_securely : (n i : ℕ) (e : Entry) {p : Place} → IsPageAt (book t) n i e → (x : FreePage n i p) →
      (k : HasStandIn t.disk.cells x.mark (IsFree t.disk.blocks) x.page.tag x.page.body) →
      Overwrites x.mark k.tag x.page.tag → IsSecurelyOverwritten (book t) (recorded_in t.ledger.newest)
      t.ledger.standing t.disk.cells t.disk.finished t.disk.blocks t.disk.erasing n e.item.key
  overwritten_securely n i e is x k over =
      let y = known_one (book t) x.page.tag is (is_known o x.page.there) x.page.number x.page.index in
      let at = stands o k.there in
      let number = x.page.number in
      let newer = over.newer in
      let far = over.recorded in
      let same = ap recorded_in x.is in
      record {
        by = record {
          number = k.tag.number;
          index = k.tag.index;
          page = shown k.tag k.other;
          is = is_known o k.there;
          key = over.key ∙ sym (ap (λ z. z.item.key) y);
          newer = omega arith;
          within = omega arith;
          free = recorded_not_lost k.tag.number x.is over.counts over.recorded;
        };
        secure = secure_outside k.tag.number k.tag.index at.1
            (taken_outside k.tag.number k.tag.index at.1 k.there refl refl k.outside);
      }

  pub all_safe : SafeRight (book t) (recorded_in t.ledger.newest) t.ledger.standing t.disk.cells t.disk.finished
      t.disk.blocks t.disk.erasing
  all_safe = record {
    safe = λ n i e p is h kept. ⊎_elim
        (λ free.
        let x = free_page n i h free in
        ⊎_elim (λ f. absurd (kept (fenced_is_lost n x.is f (old_within o (only_old o n i is)))))
        (λ k. inr (overwritten_securely n i e is x k.0 k.1)) x.why)
        (λ out. inl (secure_outside n i h out)) (free_or_not (t.disk.blocks (spot_of p)));
  }

  -- the page that a key begins with stands outside the free blocks
  pub first_stands : (k : Key) (name : Name) (p : Place) → HasKey (book t) k → t.ledger.first_page k ≡ Some name →
      t.ledger.standing name.number name.index ≡ Some p → SecureOf t name.number name.index
  first_stands k name p has first h = ⊎_elim
      (λ free. absurd (not_free (free_page name.number name.index h free)))
      (λ out. secure_outside name.number name.index h out) (free_or_not (t.disk.blocks (spot_of p)))
    where
      newest : (q : Place) × (u : Tag) × (body : List ℕ) ×
          IsNewest t.disk.cells t.ledger.newest (suc o.start.ledger.kept) k q u body × (name_of u ≡ name)
      newest = subst (IsFirst t.disk.cells t.ledger.newest o.start.ledger.kept k) first
          (o.start.ledger.first_page k has)

      not_free : FreePage name.number name.index p → ⊥
      not_free x =
          let u = newest.1 in
          let number = ap (λ (z : Name). z.number) newest.4 in
          ⊎_elim
          (λ f. newest.3.counts.free (subst (IsFenced (fence_in t.ledger.newest)) (sym number)
          (subst (λ z. IsFenced z name.number) (sym (ap fence_in x.is)) f)))
          (λ y.
          let stand = y.0 in
          let over = y.1 in
          let a = over.newer in
          let b = over.recorded in
          let c = recorded_kept o in
          let d = ap recorded_in x.is in
          let e = x.page.number in
          let counts : Counts t.disk.cells t.ledger.newest stand.place stand.tag stand.other =
          record {
            there = stand.there;
            free = λ f. over.counts (subst (λ z. IsFenced z stand.tag.number) (ap fence_in x.is) f);
          } in
          let same_page = o.sound.pages p newest.0 x.page.tag u x.page.body newest.2 x.page.there
          newest.3.counts.there (x.page.number ∙ sym number)
          (inl (x.page.index ∙ sym (ap (λ (z : Name). z.index) newest.4))) in
          let z = newest.3.greatest stand.place stand.tag stand.other counts
          (over.key ∙ same_page.0 ∙ newest.3.key) (omega arith) in
          omega arith) x.why

  -- Marks have numbers

  pub numbered : AreNumbered t.ledger.marks t.disk.cells
  numbered p m h = subst (λ z. m.number ≤ z) (sym o.start.ledger.marks) (go t.ledger.newest o.start.ledger.newest)
    where
      go : (x : Option Mark) → IsNewestMark t.disk.cells x → m.number ≤ number_of x
      go None x = absurd (x p m h)
      go (Some newest) x = x.1 p m h
