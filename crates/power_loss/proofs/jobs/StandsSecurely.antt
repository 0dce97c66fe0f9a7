-- What stands finished, in a block that is needed and that no erase is near, stands so behind each change of the disk.
pub use Rattle.ufs_spec.proofs.CellKinds.{page_not_nothing as page_is_some}
use Rattle.power_loss.proofs.Common.{◌≡◌, ◌≢◌, ℕ, ◌+◌, ◌≤◌, ◌==◌, Bool, true, false, ◌⊎◌, Option, Some, None, refl, sym}
use Rattle.power_loss.proofs.Common.{ap, ◌∙◌, subst, inl, inr, ⊎_elim, eqb_tells, Cell, Cells, Mark, Nothing}
use Rattle.power_loss.proofs.Common.{BlockState, Bad, CellCrash, Closed, Disk, Erasing, Filling, Flight, Free}
use Rattle.power_loss.proofs.Common.{Programming, Spot, Touches, at_place, at_spot, job_begun, erase_failed, erased}
use Rattle.power_loss.proofs.Common.{flight_alone, program_failed, programmed, same_spot, spot_of, state_after, Key}
use Rattle.power_loss.proofs.Common.{Place, mark_not_nothing, page_not_nothing, cases_Bool, cond-false, cond-true}
use Rattle.power_loss.proofs.Common.{place_cases, spot_cases, Book, IsSafe, IsSecure, MarkStands, SafeRight, Standing}
use Rattle.power_loss.proofs.Common.{Numbers, BlocksRight, Ready, Stale, Vacancy, VacanciesRight, at_spot_is}
use Rattle.power_loss.proofs.books.PagesByName.{overwritten_more}

-- What a change keeps

-- the page there is as it was, and stays
pub record Still (d e : Disk) (q : Place) : Type 0 where
  pub there : e.cells q ≡ d.cells q
  pub ended : e.finished q ≡ true
  pub stays : e.erasing (spot_of q) ≡ false
  pub needed : e.blocks (spot_of q) ≢ Free

abbrev pub Keeps : Disk → Disk → Type 0
Keeps d e = (q : Place) → d.cells q ≢ Nothing → d.finished q ≡ true → d.erasing (spot_of q) ≡ false →
    d.blocks (spot_of q) ≢ Free → Still d e q

-- what stands securely does so behind a change, where its cell is as it was and it has a place still
pub secure_from : {old new : Standing} {c after : Cells} {f ended : Place → Bool} {b blocks : Spot →
    BlockState} {e erasing : Spot → Bool} {n i : ℕ} (s : IsSecure old c f b e n i) → new n i ≡ Some s.place →
    after s.place ≡ c s.place → ended s.place ≡ true → erasing (spot_of s.place) ≡ false →
    blocks (spot_of s.place) ≢ Free → IsSecure new after ended blocks erasing n i
secure_from s known same ended stays needed = record {
  place = s.place;
  tag = s.tag;
  body = s.body;
  known = known;
  there = same ∙ s.there;
  number = s.number;
  index = s.index;
  ended = ended;
  stays = stays;
  needed = needed;
}

pub secure_moves : {d e : Disk} {standing : Standing} {n i : ℕ} → Keeps d e →
    IsSecure standing d.cells d.finished d.blocks d.erasing n i →
    IsSecure standing e.cells e.finished e.blocks e.erasing n i
secure_moves k s =
    let r = k s.place (page_not_nothing _ _ _ s.there) s.ended s.stays s.needed in
    secure_from s s.known r.there r.ended r.stays r.needed

pub safe_moves : {b : Book} {marked marked' : ℕ} {d e : Disk} {standing : Standing} {n i : ℕ} {k : Key} → Keeps d e →
    marked ≤ marked' → IsSafe b marked standing d.cells d.finished d.blocks d.erasing n i k →
    IsSafe b marked' standing e.cells e.finished e.blocks e.erasing n i k
safe_moves keeps l (inl s) = inl (secure_moves keeps s)
safe_moves keeps l (inr s) = inr record { by = overwritten_more l s.by; secure = secure_moves keeps s.secure }

pub all_safe : {b : Book} {marked marked' : ℕ} {d e : Disk} {standing : Standing} → Keeps d e → marked ≤ marked' →
    SafeRight b marked standing d.cells d.finished d.blocks d.erasing →
    SafeRight b marked' standing e.cells e.finished e.blocks e.erasing
all_safe keeps l r = record { safe = λ n i x p h k u. safe_moves keeps l (r.safe n i x p h k u) }

pub mark_stands_moves : {d e : Disk} {m : Mark} → Keeps d e → MarkStands d.cells d.finished d.blocks d.erasing m →
    MarkStands e.cells e.finished e.blocks e.erasing m
mark_stands_moves k s =
    let r = k s.place (mark_not_nothing _ _ s.there) s.ended s.stays s.needed in
    record { place = s.place; there = r.there ∙ s.there; ended = r.ended; stays = r.stays; needed = r.needed }

-- One value more, elsewhere

pub at_spot_other : {A : Type 0} (f : Spot → A) (s : Spot) (x : A) (t : Spot) → t ≢ s → at_spot f s x t ≡ f t
at_spot_other f s x t h = ⊎_elim (λ k. absurd (h k.1)) (λ k. cond-false (same_spot t s) x (f t) k.0) (spot_cases t s)

pub at_spot_here : {A : Type 0} (f : Spot → A) (s : Spot) (x : A) (t : Spot) → t ≡ s → at_spot f s x t ≡ x
at_spot_here f s x t h = ⊎_elim (λ k. cond-true (same_spot t s) x (f t) k.0) (λ k. absurd (k.1 h)) (spot_cases t s)

pub at_place_other : {A : Type 0} (f : Place → A) (p : Place) (x : A) (q : Place) → q ≢ p → at_place f p x q ≡ f q
at_place_other f p x q h = ⊎_elim (λ k. absurd (h k.1)) (λ k. cond-false _ x (f q) k.0) (place_cases q p)

pub at_place_here : {A : Type 0} (f : Place → A) (p : Place) (x : A) (q : Place) → q ≡ p → at_place f p x q ≡ x
at_place_here f p x q h = ⊎_elim (λ k. cond-true _ x (f q) k.0) (λ k. absurd (k.1 h)) (place_cases q p)

-- what an erase leaves where it is not, and where it is
pub erased_other : (d : Disk) (s : Spot) (q : Place) → spot_of q ≢ s → (erased d s).cells q ≡ d.cells q
erased_other d s q h = ⊎_elim (λ k. absurd (h k.1)) (λ k. cond-false (same_spot (spot_of q) s) Nothing (d.cells q) k.0)
    (spot_cases (spot_of q) s)

pub erased_here : (d : Disk) {s : Spot} (q : Place) → spot_of q ≡ s → (erased d s).cells q ≡ Nothing
erased_here d {s} q h = ⊎_elim (λ k. cond-true (same_spot (spot_of q) s) Nothing (d.cells q) k.0) (λ k. absurd (k.1 h))
    (spot_cases (spot_of q) s)

-- States of blocks

pub free_is_not_filling : {x : BlockState} {next : ℕ} → x ≡ Free → x ≡ Filling next → ⊥
free_is_not_filling e f = cc

pub free_is_not_bad : {x : BlockState} → x ≡ Free → x ≡ Bad → ⊥
free_is_not_bad e f = cc

pub closed_is_not_filling : {x : BlockState} {next : ℕ} → x ≡ Closed → x ≡ Filling next → ⊥
closed_is_not_filling e f = cc

pub filling_is_not_bad : {x : BlockState} {next : ℕ} → x ≡ Filling next → x ≡ Bad → ⊥
filling_is_not_bad e f = cc

pub true_is_not_false : {x : Bool} → x ≡ true → x ≡ false → ⊥
true_is_not_false e f = cc

pub closed_is_not_free : {x : BlockState} → x ≡ Closed → x ≡ Free → ⊥
closed_is_not_free e f = cc

pub one_filling : {m n : ℕ} → Filling m ≡ Filling n → m ≡ n
one_filling e = cc

-- a block keeps its state where one of another state gets a new one
pub state_kept : (f : Spot → BlockState) (s : Spot) (x : BlockState) {a : Spot} {y : BlockState} → f a ≡ y →
    (f s ≡ y → ⊥) → at_spot f s x a ≡ y
state_kept f s x {a} is other = at_spot_other f s x a (λ e. other (sym (ap f e) ∙ is)) ∙ is

pub victim_kept : (f : Spot → BlockState) (s : Spot) (x : BlockState) {a : Spot} → (f s ≡ Closed → ⊥) →
    (f s ≡ Bad → ⊥) → (f a ≡ Closed) ⊎ (f a ≡ Bad) → (at_spot f s x a ≡ Closed) ⊎ (at_spot f s x a ≡ Bad)
victim_kept f s x closed bad h = ⊎_elim (λ k. inl (state_kept f s x k closed)) (λ k. inr (state_kept f s x k bad)) h

-- a block becomes bad
pub blocks_bad : {n : Numbers} {cells left : Cells} {finished ended : Place → Bool} {blocks : Spot → BlockState}
    {erasing : Spot → Bool} (s : Spot) → BlocksRight n cells finished blocks erasing →
    ((q : Place) → ended q ≡ false → (spot_of q ≡ s) ⊎ (finished q ≡ false)) →
    ((q : Place) → spot_of q ≢ s → cells q ≡ Nothing → left q ≡ Nothing) →
    BlocksRight n left ended (at_spot blocks s Bad) erasing
blocks_bad {blocks = blocks} s r unfinished blank = record {
  unfinished = λ q h. ⊎_elim (λ e. at_spot_here blocks s Bad (spot_of q) e) (λ k. bad (spot_of q) (r.unfinished q k))
      (unfinished q h);
  filling = λ a next h. ⊎_elim (λ k. absurd (filling_is_not_bad k.1 refl)) (λ k. r.filling a next k.1)
      (at_spot_is blocks s Bad a (Filling next) h);
  blank = λ q next h l. ⊎_elim (λ k. absurd (filling_is_not_bad k.1 refl)) (λ k. blank q k.0 (r.blank q next k.1 l))
      (at_spot_is blocks s Bad (spot_of q) (Filling next) h);
  erased = λ a h. ⊎_elim (λ f. ⊎_elim (λ e. inr (at_spot_here blocks s Bad a e.1))
      (λ o. inl (at_spot_other blocks s Bad a o.1 ∙ f)) (spot_cases a s)) (λ f. inr (bad a f)) (r.erased a h);
}
  where
    bad : (a : Spot) → blocks a ≡ Bad → at_spot blocks s Bad a ≡ Bad
    bad a h = ⊎_elim (λ e. at_spot_here blocks s Bad a e.1) (λ o. at_spot_other blocks s Bad a o.1 ∙ h) (spot_cases a s)

pub ready_is_not_stale : {x : Vacancy} → x ≡ Ready → x ≡ Stale → ⊥
ready_is_not_stale e f = cc

-- a block gets a state that is not free
pub vacancies_put : {cells left : Cells} {blocks : Spot → BlockState} {vacancies : Spot → Vacancy}
    {erasing : Spot → Bool} (s : Spot) (x : BlockState) → x ≢ Free → VacanciesRight cells blocks vacancies erasing →
    ((q : Place) → spot_of q ≢ s → cells q ≡ Nothing → left q ≡ Nothing) →
    VacanciesRight left (at_spot blocks s x) vacancies erasing
vacancies_put {blocks = blocks} s x some r blank = record {
  empty = λ q free full. ⊎_elim (λ k. absurd (some k.1)) (λ k. blank q k.0 (r.empty q k.1 full))
      (at_spot_is blocks s x (spot_of q) Free free);
  ready = λ a free is. ⊎_elim (λ k. absurd (some k.1)) (λ k. r.ready a k.1 is) (at_spot_is blocks s x a Free free);
}

-- a block behind a program is closed or is being filled
pub behind_is_not_free : (pages page : ℕ) → state_after pages page ≢ Free
behind_is_not_free pages page h = ⊎_elim
    (λ e. closed_is_not_free refl (sym (cond-true (page + 1 == pages) Closed (Filling (page + 1)) e) ∙ h))
    (λ e. free_is_not_filling (sym (cond-false (page + 1 == pages) Closed (Filling (page + 1)) e) ∙ h) refl)
    (cases_Bool (page + 1 == pages))

-- What a failed job leaves

alone_is : (f : ℕ → Option Flight) (die e : ℕ) → (flight_alone f die e ≡ f die) ⊎ (flight_alone f die e ≡ None)
alone_is f die e = ⊎_elim (λ h. inl (cond-true (e == die) (f e) None h.0 ∙ ap f h.1))
    (λ h. inr (cond-false (e == die) (f e) None h.0)) (eqb_tells e die)

abbrev IsTouched : Cells → Cells → Option Flight → Place → Type 0
IsTouched cells left flight q =
    (left q ≡ cells q) ⊎ ((intended : Cell) × Touches flight q intended × ((left q ≡ intended) ⊎ (left q ≡ Nothing)))

touched_alone : (d : Disk) {die : ℕ} {flight : Flight} (left : Cells) (q : Place) {f : Option Flight} →
    d.flights die ≡ Some flight → (f ≡ d.flights die) ⊎ (f ≡ None) → IsTouched d.cells left f q → IsTouched d.cells left
    (Some flight) q
touched_alone d left q e (inl h) t = subst (λ z. IsTouched d.cells left z q) (h ∙ e) t
touched_alone d {flight} left q e (inr h) t = none (subst (λ z. IsTouched d.cells left z q) h t)
  where
    none : IsTouched d.cells left None q → IsTouched d.cells left (Some flight) q
    none (inl k) = inl k
    none (inr k) = absurd k.1

left_is : (d : Disk) (die : ℕ) {flight : Flight} {left : Cells} → d.flights die ≡ Some flight →
    CellCrash d.cells (flight_alone d.flights die) left → (q : Place) → IsTouched d.cells left (Some flight) q
left_is d die {left} e crash q = touched_alone d left q e (alone_is d.flights die q.die) (crash q)

pub erase_left : (d : Disk) (die : ℕ) {s : Spot} (left : Cells) → d.flights die ≡ Some (Erasing s) →
    CellCrash d.cells (flight_alone d.flights die) left → (q : Place) →
    (left q ≡ d.cells q) ⊎ ((spot_of q ≡ s) × (left q ≡ Nothing))
erase_left d die {s} left e crash q = told (left_is d die e crash q)
  where
    told : IsTouched d.cells left (Some (Erasing s)) q → (left q ≡ d.cells q) ⊎ ((spot_of q ≡ s) × (left q ≡ Nothing))
    told (inl k) = inl k
    told (inr (intended, (at, is), k)) = inr (sym at, ⊎_elim (λ h. h ∙ is) (λ h. h) k)

pub program_left : (d : Disk) (die : ℕ) {p : Place} {cell : Cell} (left : Cells) → d.flights die ≡ Some
    (Programming p cell) → CellCrash d.cells (flight_alone d.flights die) left → (q : Place) →
    (left q ≡ d.cells q) ⊎ ((q ≡ p) × ((left q ≡ cell) ⊎ (left q ≡ Nothing)))
program_left d die {p} {cell} left e crash q = told (left_is d die e crash q)
  where
    told : IsTouched d.cells left (Some (Programming p cell)) q →
        (left q ≡ d.cells q) ⊎ ((q ≡ p) × ((left q ≡ cell) ⊎ (left q ≡ Nothing)))
    told (inl k) = inl k
    told (inr (intended, (at, is), k)) = inr (sym at, ⊎_elim (λ h. inl (h ∙ is)) (λ h. inr h) k)

-- Each change of the disk

pub keeps_erase_begun : {d : Disk} (die : ℕ) (s : Spot) → d.blocks s ≡ Free → Keeps d (job_begun d die (Erasing s))
keeps_erase_begun {d} die s free q some ended stays needed = record {
  there = refl;
  ended = ended;
  stays = at_spot_other d.erasing s true (spot_of q) (λ h. needed (ap d.blocks h ∙ free)) ∙ stays;
  needed = needed;
}

pub keeps_erased : {d : Disk} (s : Spot) → d.erasing s ≡ true → Keeps d (erased d s)
keeps_erased {d} s erasing q some ended stays needed = record {
  there = erased_other d s q out;
  ended = ended;
  stays = at_spot_other d.erasing s false (spot_of q) out ∙ stays;
  needed = needed;
}
  where
    out : spot_of q ≢ s
    out h = true_is_not_false erasing (sym (ap d.erasing h) ∙ stays)

pub keeps_erase_failed : {d : Disk} (s : Spot) {left : Cells} → d.erasing s ≡ true → ((q : Place) → spot_of q ≢ s →
    left q ≡ d.cells q) → Keeps d (erase_failed d s left)
keeps_erase_failed {d} s erasing same q some ended stays needed = record {
  there = same q out;
  ended = ended;
  stays = stays;
  needed = λ h. needed (sym (at_spot_other d.blocks s Bad (spot_of q) out) ∙ h);
}
  where
    out : spot_of q ≢ s
    out h = true_is_not_false erasing (sym (ap d.erasing h) ∙ stays)

-- a block that is not free stays so where it gets a state that is not free
pub put_needed : (f : Spot → BlockState) (s : Spot) {t : Spot} {x : BlockState} → x ≢ Free → f t ≢ Free →
    at_spot f s x t ≢ Free
put_needed f s {t} {x} here there h = ⊎_elim (λ k. here (sym (at_spot_here f s x t k.1) ∙ h))
    (λ k. there (sym (at_spot_other f s x t k.1) ∙ h)) (spot_cases t s)

pub keeps_program : (pages : ℕ) (d : Disk) (p : Place) (cell : Cell) → d.cells p ≡ Nothing →
    Keeps d (programmed pages d p cell)
keeps_program pages d p cell blank q some ended stays needed = record {
  there = at_place_other d.cells p cell q out;
  ended = at_place_other d.finished p true q out ∙ ended;
  stays = stays;
  needed = put_needed d.blocks (spot_of p) (behind_is_not_free pages p.page) needed;
}
  where
    out : q ≢ p
    out h = some (ap d.cells h ∙ blank)

pub keeps_program_failed : {d : Disk} (p : Place) {left : Cells} → d.cells p ≡ Nothing →
    ((q : Place) → q ≢ p → left q ≡ d.cells q) → Keeps d (program_failed d p left)
keeps_program_failed {d = d} p blank same q some ended stays needed = record {
  there = same q out;
  ended = at_place_other d.finished p false q out ∙ ended;
  stays = stays;
  needed = put_needed d.blocks (spot_of p) bad needed;
}
  where
    out : q ≢ p
    out h = some (ap d.cells h ∙ blank)

    bad : Bad ≡ Free → ⊥
    bad e = cc
