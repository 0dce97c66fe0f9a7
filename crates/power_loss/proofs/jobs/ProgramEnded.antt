-- A program that ended well: its cell stands where nothing stood, what stood firmly goes on standing, and what is safe
-- stays safe where a block is freed behind it.
use Rattle.power_loss.proofs.Common.{◌≡◌, ◌≢◌, ℕ, zero, suc, ◌+◌, ◌<◌, ◌≤◌, ◌⊎◌, ◌==◌, Bool, true, false, List, Some}
use Rattle.power_loss.proofs.Common.{None, refl, sym, ap, ◌∙◌, inl, inr, ⊎_elim, arith, eqb_tells, Cell, Cells}
use Rattle.power_loss.proofs.Common.{GroupPage, IsPlace, Nothing, BlockState, Bad, Closed, Disk, Filling, Flight, Free}
use Rattle.power_loss.proofs.Common.{Spot, at_die, at_place, at_spot, programmed, spot_of, state_after, Entry, at_name}
use Rattle.power_loss.proofs.Common.{name_of, Numbers, Key, Place, Tag, page_not_nothing, cases_Bool, cond-false}
use Rattle.power_loss.proofs.Common.{cond-true, none-some, true≢false, at_die_is, at_name_cases, at_place_is}
use Rattle.power_loss.proofs.Common.{at_spot_cases, at_spot_is, Book, IsLostNumber, IsOverwritten, IsPageAt}
use Rattle.power_loss.proofs.Common.{BlocksRight, EraseRight, Flights, FrontierRight, IsSafe, IsSecure}
use Rattle.power_loss.proofs.Common.{ProgramRight, SafeRight, Stale, Standing, VacanciesRight, Vacancy}
use Rattle.ufs_spec.specs.Moves.{freed_state}
use Rattle.power_loss.proofs.books.PagesByName.{overwritten_more, overwritten_twice}
use Rattle.power_loss.proofs.books.FrontierClimbs.{stood}
use Rattle.power_loss.proofs.kept_pages.PagesStay.{StayThere, stay_written}
use Rattle.power_loss.proofs.jobs.StandsSecurely.{Keeps, all_safe, at_place_here, at_place_other, at_spot_other}
use Rattle.power_loss.proofs.jobs.StandsSecurely.{behind_is_not_free, closed_is_not_filling, filling_is_not_bad}
use Rattle.power_loss.proofs.jobs.StandsSecurely.{free_is_not_filling, keeps_program, secure_from, closed_is_not_free}
use Rattle.power_loss.proofs.jobs.StandsSecurely.{free_is_not_bad, one_filling, ready_is_not_stale, vacancies_put}
use Rattle.power_loss.proofs.jobs.StandsSecurely.{victim_kept}

-- a block behind a program is filled up to its next page
behind_filling : {pages page next : ℕ} → page < pages → state_after pages page ≡ Filling next →
    (page + 1 ≡ next) × (next < pages)
behind_filling {pages} {page} {next} l e = ⊎_elim (λ k. absurd (closed_is_not_filling refl
    (sym (cond-true (page + 1 == pages) Closed (Filling (page + 1)) k.0) ∙ e)))
    (λ k. let f = one_filling (sym (cond-false (page + 1 == pages) Closed (Filling (page + 1)) k.0) ∙ e) in
    let o = k.1 in (f, omega (arith, f, o, l))) (eqb_tells (page + 1) pages)

-- Where a program goes

pub record GoesTo (n : Numbers) (d : Disk) (p : Place) : Type 0 where
  pub place : IsPlace n p
  pub next : d.blocks (spot_of p) ≡ Filling p.page
  pub blank : d.cells p ≡ Nothing
  pub stays : d.erasing (spot_of p) ≡ false

pub goes_to : {n : Numbers} {d : Disk} {die : ℕ} {p : Place} → BlocksRight n d.cells d.finished d.blocks d.erasing →
    ProgramRight n d.blocks die p → GoesTo n d p
goes_to r g = record {
  place = g.place;
  next = g.next;
  blank = r.blank _ _ g.next (omega arith);
  stays = ⊎_elim
      (λ h. absurd (⊎_elim (λ f. free_is_not_filling f g.next) (λ f. filling_is_not_bad g.next f) (r.erased _ h)))
      (λ h. h) (cases_Bool _);
}

-- the blocks behind it
abbrev pub blocks_behind : Numbers → Disk → Place → Spot → BlockState
blocks_behind n d p = at_spot d.blocks (spot_of p) (state_after n.pages p.page)

-- what flies behind it flew on another die
pub other_flight : (flights : Flights) {die e : ℕ} {f : Flight} → at_die flights die None e ≡ Some f →
    (e ≢ die) × (flights e ≡ Some f)
other_flight flights h = ⊎_elim (λ k. absurd (none-some _ k.1)) (λ k. k) (at_die_is flights _ None _ _ h)

module _ {n : Numbers} {d : Disk} {p : Place} (g : GoesTo n d p) where
  -- the block of another state is another one
  pub not_there : {s : Spot} → (d.blocks s ≡ Closed) ⊎ (d.blocks s ≡ Bad) → s ≢ spot_of p
  not_there st e = ⊎_elim (λ f. closed_is_not_filling f (ap d.blocks e ∙ g.next))
      (λ f. filling_is_not_bad (ap d.blocks e ∙ g.next) f) st

  -- what is free behind the program was free, and is elsewhere
  pub still_free : {s : Spot} → blocks_behind n d p s ≡ Free → (s ≢ spot_of p) × (d.blocks s ≡ Free)
  still_free {s} h = ⊎_elim (λ k. absurd (behind_is_not_free n.pages p.page k.1)) (λ k. k)
      (at_spot_is d.blocks (spot_of p) (state_after n.pages p.page) s Free h)

  still : {s : Spot} {x : BlockState} → d.blocks s ≡ x → (Filling p.page ≡ x → ⊥) → blocks_behind n d p s ≡ x
  still {s} e other = ⊎_elim (λ h. absurd (other (sym g.next ∙ ap d.blocks (sym h.0) ∙ e))) (λ h. h.1 ∙ e)
      (at_spot_cases d.blocks (spot_of p) (state_after n.pages p.page) s)

  pub still_victim : {s : Spot} → (d.blocks s ≡ Closed) ⊎ (d.blocks s ≡ Bad) → (blocks_behind n d p s ≡ Closed) ⊎
      (blocks_behind n d p s ≡ Bad)
  still_victim = victim_kept d.blocks (spot_of p) (state_after n.pages p.page)
      (λ c. closed_is_not_filling c g.next) (filling_is_not_bad g.next)

  -- what is free behind it was free
  pub was_free : (s : Spot) → blocks_behind n d p s ≡ Free → d.blocks s ≡ Free
  was_free s h = ⊎_elim (λ k. absurd (behind_is_not_free n.pages p.page k.1)) (λ k. k.1)
      (at_spot_is d.blocks (spot_of p) (state_after n.pages p.page) s Free h)

  pub blocks_programmed : (y : Cell) → BlocksRight n d.cells d.finished d.blocks d.erasing →
      BlocksRight n (at_place d.cells p y) (at_place d.finished p true) (blocks_behind n d p) d.erasing
  blocks_programmed y r = record {
    unfinished = λ q h. ⊎_elim (λ k. absurd (true≢false k.1))
        (λ k. still (r.unfinished q k.1) (filling_is_not_bad refl)) (at_place_is d.finished p true q false h);
    filling = λ s next h. ⊎_elim (λ k. (behind_filling g.place.page k.1).1) (λ k. r.filling s next k.1)
        (at_spot_is d.blocks (spot_of p) (state_after n.pages p.page) s (Filling next) h);
    blank = λ q next h l. ⊎_elim
        (λ k. let u = (behind_filling g.place.page k.1).0 in
        at_place_other d.cells p y q (λ e. let z = ap (λ (w : Place). w.page) e in omega (arith, u, l, z))
        ∙ r.blank q p.page (ap d.blocks k.0 ∙ g.next) (omega (arith, u, l)))
        (λ k. at_place_other d.cells p y q (λ e. k.0 (ap spot_of e)) ∙ r.blank q next k.1 l)
        (at_spot_is d.blocks (spot_of p) (state_after n.pages p.page) (spot_of q) (Filling next) h);
    erased = λ s h. ⊎_elim (λ e. inl (still e (λ k. free_is_not_filling k refl)))
        (λ e. inr (still e (filling_is_not_bad refl))) (r.erased s h);
  }

  pub vacancies_programmed : (y : Cell) {vacancies : Spot → Vacancy} →
      VacanciesRight d.cells d.blocks vacancies d.erasing →
      VacanciesRight (at_place d.cells p y) (blocks_behind n d p) vacancies d.erasing
  vacancies_programmed y r = vacancies_put (spot_of p) (state_after n.pages p.page)
      (behind_is_not_free n.pages p.page) r
      (λ q out h. at_place_other d.cells p y q (λ e. out (ap spot_of e)) ∙ h)

  -- programs and erases of other dies go on
  pub program_goes_on : {q : Place} {e : ℕ} → ProgramRight n d.blocks e q → e ≢ p.die →
      ProgramRight n (blocks_behind n d p) e q
  program_goes_on r other = record {
    at_home = r.at_home;
    place = r.place;
    next = at_spot_other d.blocks (spot_of p) _ _ (λ h. other (sym r.at_home ∙ ap (λ (s : Spot). s.die) h)) ∙ r.next;
  }

  pub erase_goes_on : {e : ℕ} {s : Spot} → EraseRight d.blocks d.erasing e s → e ≢ p.die →
      EraseRight (blocks_behind n d p) d.erasing e s
  erase_goes_on r other = record {
    at_home = r.at_home;
    free = at_spot_other d.blocks (spot_of p) _ _ (λ h. other (sym r.at_home ∙ ap (λ (s : Spot). s.die) h)) ∙ r.free;
    counted = r.counted;
  }

  -- What stands firmly

  pub keeps : (y : Cell) → Keeps d (programmed n.pages d p y)
  keeps y = keeps_program n.pages d p y g.blank

  pub stay : (y : Cell) → StayThere d.cells d.finished d.erasing (at_place d.cells p y)
      (at_place d.finished p true) d.erasing
  stay y = stay_written d.cells d.finished d.erasing p y g.blank

  pub needed_now : blocks_behind n d p (spot_of p) ≢ Free
  needed_now h = (still_free h).0 refl

  -- a group's page is written: it is secure, and what was secure is
  pub secure_written : {standing : Standing} {m i : ℕ} (tag : Tag) (body : List ℕ) →
      IsSecure standing d.cells d.finished d.blocks d.erasing m i ⊎ ((m ≡ tag.number) × (i ≡ tag.index)) →
      IsSecure (at_name standing (name_of tag) (Some p)) (at_place d.cells p (GroupPage tag body))
      (at_place d.finished p true) (blocks_behind n d p) d.erasing m i
  secure_written {standing} {m} {i} tag body h = ⊎_elim
      (λ k. record {
        place = p;
        tag = tag;
        body = body;
        known = k.2;
        there = at_place_here d.cells p (GroupPage tag body) p refl;
        number = sym k.0;
        index = sym k.1;
        ended = at_place_here d.finished p true p refl;
        stays = g.stays;
        needed = needed_now;
      })
      (λ k. ⊎_elim
      (λ s.
      let r = keeps (GroupPage tag body) s.place (page_not_nothing _ _ _ s.there) s.ended s.stays s.needed in
      secure_from s (k.1 ∙ s.known) r.there r.ended r.stays r.needed) (λ s. absurd (k.0 s)) h)
      (at_name_cases standing (name_of tag) (Some p) m i)

  pub safe_written : {b : Book} {marked : ℕ} {standing : Standing} (tag : Tag) (body : List ℕ) →
      SafeRight b marked standing d.cells d.finished d.blocks d.erasing → SafeRight b marked
      (at_name standing (name_of tag) (Some p)) (at_place d.cells p (GroupPage tag body)) (at_place d.finished p true)
      (blocks_behind n d p) d.erasing
  safe_written {standing = standing} tag body r = record {
    safe = λ m i e q is h free. ⊎_elim (λ k. inl (secure_written tag body (inr (k.0, k.1)))) (λ k. ⊎_elim
        (λ s. inl (secure_written tag body (inl s)))
        (λ s. inr record { by = s.by; secure = secure_written tag body (inl s.secure) }) (r.safe m i e q is k.1 free))
        (stood standing p m i q h);
  }

  -- a mark is written
  pub safe_marked : {b : Book} {marked : ℕ} {standing : Standing} (y : Cell) →
      SafeRight b marked standing d.cells d.finished d.blocks d.erasing → SafeRight b marked standing
      (at_place d.cells p y) (at_place d.finished p true) (blocks_behind n d p) d.erasing
  safe_marked y r = all_safe (keeps y) (omega arith) r

-- A block that is freed

-- states before and after some blocks are freed
pub record Frees (before after : Spot → BlockState) (IsVictim : Spot → Type 0) : Type 0 where
  pub filling : (s : Spot) (next : ℕ) → after s ≡ Filling next → before s ≡ Filling next
  pub fills : (s : Spot) (next : ℕ) → before s ≡ Filling next → after s ≡ Filling next
  pub bad : (s : Spot) → before s ≡ Bad → after s ≡ Bad
  pub free : (s : Spot) → before s ≡ Free → after s ≡ Free
  pub needed : (s : Spot) → before s ≢ Free → (after s ≢ Free) ⊎ IsVictim s
  pub freed : (s : Spot) → after s ≡ Free → (before s ≡ Free) ⊎ IsVictim s

pub frees_none : {blocks : Spot → BlockState} → Frees blocks blocks (λ s. ⊥)
frees_none = record {
  filling = λ s next h. h;
  fills = λ s next h. h;
  bad = λ s h. h;
  free = λ s h. h;
  needed = λ s h. inl h;
  freed = λ s h. inl h;
}

freed_filling : (x : BlockState) {next : ℕ} → freed_state x ≡ Filling next → ⊥
freed_filling Free e = cc
freed_filling (Filling n) e = cc
freed_filling Closed e = cc
freed_filling Bad e = cc

pub frees_one : {blocks : Spot → BlockState} {victim : Spot} → (blocks victim ≡ Closed) ⊎ (blocks victim ≡ Bad) →
    Frees blocks (at_spot blocks victim (freed_state (blocks victim))) (λ s. s ≡ victim)
frees_one {blocks} {victim} state = record {
  filling = λ s next h. ⊎_elim (λ k. absurd (freed_filling (blocks victim) k.1)) (λ k. k.1)
      (at_spot_is blocks victim (freed_state (blocks victim)) s (Filling next) h);
  fills = λ s next h. ⊎_elim (λ k. absurd (never (λ c. closed_is_not_filling c (ap blocks (sym k.0) ∙ h))
      (λ b. filling_is_not_bad (ap blocks (sym k.0) ∙ h) b))) (λ k. k.1 ∙ h) (at victim s);
  bad = λ s h. ⊎_elim (λ k. k.1 ∙ ap freed_state (ap blocks (sym k.0) ∙ h)) (λ k. k.1 ∙ h) (at victim s);
  free = λ s h. ⊎_elim (λ k. absurd (never (λ c. closed_is_not_free c (ap blocks (sym k.0) ∙ h))
      (λ b. free_is_not_bad (ap blocks (sym k.0) ∙ h) b))) (λ k. k.1 ∙ h) (at victim s);
  needed = λ s h. ⊎_elim (λ k. inr k.0) (λ k. inl (λ f. h (sym k.1 ∙ f))) (at victim s);
  freed = λ s h. ⊎_elim (λ k. inr k.0) (λ k. inl k.1) (at_spot_is blocks victim (freed_state (blocks victim)) s Free h);
}
  where
    at : (v s : Spot) → ((s ≡ v) × (at_spot blocks v (freed_state (blocks v)) s ≡ freed_state (blocks v))) ⊎
        ((s ≢ v) × (at_spot blocks v (freed_state (blocks v)) s ≡ blocks s))
    at v s = at_spot_cases blocks v (freed_state (blocks v)) s

    never : (blocks victim ≡ Closed → ⊥) → (blocks victim ≡ Bad → ⊥) → ⊥
    never c b = ⊎_elim c b state

pub blocks_freed : {n : Numbers} {cells : Cells} {finished : Place → Bool} {blocks after : Spot →
    BlockState} {erasing : Spot → Bool} {IsVictim : Spot → Type 0} → Frees blocks after IsVictim →
    BlocksRight n cells finished blocks erasing → BlocksRight n cells finished after erasing
blocks_freed f r = record {
  unfinished = λ q h. f.bad (spot_of q) (r.unfinished q h);
  filling = λ s next h. r.filling s next (f.filling s next h);
  blank = λ q next h l. r.blank q next (f.filling (spot_of q) next h) l;
  erased = λ s h. ⊎_elim (λ e. inl (f.free s e)) (λ e. inr (f.bad s e)) (r.erased s h);
}

-- what is free behind it was so and has what it had, or is a victim and to be erased for what is in it
abbrev pub FreesStale : (before after : Spot → BlockState) (had has : Spot → Vacancy) (IsVictim : Spot → Type 0) →
    Type 0
FreesStale before after had has IsVictim =
    (s : Spot) → after s ≡ Free → ((before s ≡ Free) × (has s ≡ had s)) ⊎ ((has s ≡ Stale) × IsVictim s)

pub frees_stale : {blocks after : Spot → BlockState} (vacancies : Spot → Vacancy) {victim : Spot} →
    Frees blocks after (λ s. s ≡ victim) → FreesStale blocks after vacancies (at_spot vacancies victim Stale)
    (λ s. s ≡ victim)
frees_stale vacancies {victim} f s h = ⊎_elim (λ k. inr (k.1, k.0))
    (λ k. inl (⊎_elim (λ free. free) (λ e. absurd (k.0 e)) (f.freed s h), k.1)) (at_spot_cases vacancies victim Stale s)

pub vacancies_freed : {cells : Cells} {before after : Spot → BlockState} {had has : Spot → Vacancy}
    {erasing : Spot → Bool} {IsVictim : Spot → Type 0} → FreesStale before after had has IsVictim →
    VacanciesRight cells before had erasing →
    VacanciesRight cells after has erasing
vacancies_freed f r = record {
  empty = λ q free full. ⊎_elim (λ k. r.empty q k.0 (λ e. full (k.1 ∙ e))) (λ k. absurd (full k.0))
      (f (spot_of q) free);
  ready = λ s free is. ⊎_elim (λ k. r.ready s k.0 (sym k.1 ∙ is)) (λ k. absurd (ready_is_not_stale is k.0)) (f s free);
}

-- what stands in what is freed is overwritten at or under the bound
abbrev pub AreOverwritten : Book → Standing → (Spot → Type 0) → ℕ → Type 0
AreOverwritten b standing IsVictim bound =
    (n i : ℕ) (e : Entry) (q : Place) → IsPageAt b n i e → standing n i ≡ Some q → IsVictim (spot_of q) →
    (IsLostNumber b n → ⊥) → IsOverwritten b n e.item.key bound

module _ {b : Book} {bound frontier : ℕ} {standing : Standing} {blocks after : Spot → BlockState}
    {IsVictim : Spot → Type 0} (f : FrontierRight b standing frontier) (frees : Frees blocks after IsVictim)
    (bl : bound ≤ frontier) (flown : AreOverwritten b standing IsVictim bound) {marked : ℕ} {cells : Cells}
    {finished : Place → Bool} {erasing : Spot → Bool} (ml : marked ≤ bound)
    (r : SafeRight b marked standing cells finished blocks erasing) where
  -- a newer page of the key, at or under the bound, is safe
  IsNewerSafe : ℕ → Type 0
  IsNewerSafe n = (m j : ℕ) (x : Entry) (q : Place) → n < m → m ≤ bound → IsPageAt b m j x → standing m j ≡ Some q →
      (IsLostNumber b m → ⊥) → IsSafe b bound standing cells finished after erasing m j x.item.key

  -- what is overwritten by a safe page is safe
  chained : {n i : ℕ} {k : Key} → IsNewerSafe n → IsOverwritten b n k bound →
      IsSafe b bound standing cells finished after erasing n i k
  unfolding IsNewerSafe
  chained newer o =
      let st = f.stand o.number o.index o.page (let w = o.within in omega arith) o.is in
      ⊎_elim (λ s. inr record { by = o; secure = s })
      (λ s. inr record { by = overwritten_twice o s.by; secure = s.secure })
      (newer o.number o.index o.page st.0 o.newer o.within o.is st.1 o.free)

  freed_step : {n i : ℕ} {e : Entry} → IsNewerSafe n → IsPageAt b n i e → (IsLostNumber b n → ⊥) →
      IsSafe b marked standing cells finished blocks erasing n i e.item.key →
      IsSafe b bound standing cells finished after erasing n i e.item.key
  freed_step {n} {i} {e} newer is free (inl s) = ⊎_elim
      (λ needed. inl (secure_from s s.known refl s.ended s.stays needed))
      (λ v. chained newer (flown n i e s.place is s.known v free)) (frees.needed (spot_of s.place) s.needed)
  freed_step newer is free (inr (s)) = ⊎_elim
      (λ needed. inr record {
        by = overwritten_more ml s.by;
        secure = secure_from s.secure s.secure.known refl s.secure.ended s.secure.stays needed;
      })
      (λ v. chained newer (overwritten_twice s.by
      (flown s.by.number s.by.index s.by.page s.secure.place s.by.is s.secure.known v s.by.free)))
      (frees.needed (spot_of s.secure.place) s.secure.needed)

  freed_chain : (fuel : ℕ) {n i : ℕ} {e : Entry} {q : Place} → bound ≤ n + fuel → IsPageAt b n i e →
      standing n i ≡ Some q → (IsLostNumber b n → ⊥) → IsSafe b bound standing cells finished after erasing n i
      e.item.key
  unfolding IsNewerSafe
  freed_chain zero {n} {i} {e} {q} l is known free =
      freed_step (λ m j x p low up at st no. absurd (omega (arith, l, low, up))) is free (r.safe n i e q is known free)
  freed_chain (suc fuel) {n} {i} {e} {q} l is known free =
      freed_step (λ m j x p low up at st no. freed_chain fuel (omega (arith, l, low)) at st no) is free
      (r.safe n i e q is known free)

  -- what stood and is not lost is safe behind a greater recorded frontier, though blocks are freed
  pub safe_freed : SafeRight b bound standing cells finished after erasing
  safe_freed = record { safe = λ n i e q is known free. freed_chain bound (omega arith) is known free }
