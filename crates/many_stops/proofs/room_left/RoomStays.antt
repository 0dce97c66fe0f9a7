-- What leaves the room that groups leave: where no fewer blocks are free, and none is taken beside what the plan needs.
use Rattle.many_stops.proofs.Common.{Bad, BlockState, Bool, Cell, Cells, Closed, CopyStep, Entry, Fence, Filling}
use Rattle.many_stops.proofs.Common.{Flight, Flights, Free, GroupPage, HasHandedOut, HasOwnRoom, IsHandedOut}
use Rattle.many_stops.proofs.Common.{IsOneShort, LeavesRoom, List, Mark, MarkPage, MarkStep, Name, None, Numbers}
use Rattle.many_stops.proofs.Common.{Option, Place, Plan, Programming, RepairStep, Some, Spot, Standing, Step, StepKind}
use Rattle.many_stops.proofs.Common.{Tag, Translation, Valid, ap, arith, at_spot, at_spot_is, bad_count, bad_told}
use Rattle.many_stops.proofs.Common.{before_accepted, book, cases_Bool, count_blocks, div_ceil, false, false≢true}
use Rattle.many_stops.proofs.Common.{free_count, if◌then◌else◌, inl, inr, is_bad, is_kind_of, is_mended, is_plan_of_bad}
use Rattle.many_stops.proofs.Common.{kept_room, least_room, left_by_groups, mending_blocks, mul-le-mul_left, name_told}
use Rattle.many_stops.proofs.Common.{own_room, page_of_group, page_within, pages_of_plan, refl, room_on_dies, same_Some}
use Rattle.many_stops.proofs.Common.{state_after, step_there, sym, true, ℕ, ⊎_elim, ◌*◌, ◌+◌, ◌-◌, ◌<◌, ◌==◌, ◌∙◌, ◌≡◌}
use Rattle.many_stops.proofs.Common.{◌≢◌, ◌≤◌, ◌⊎◌}
use Rattle.std.proofs.Common.{max}
use Rattle.ufs_spec.specs.Translation.{wanted_room}
use Rattle.power_loss.specs.Book.{IsPageAt}
use Rattle.power_loss.proofs.room_to_mend.AloneKept.{AreFewer}
use Rattle.many_stops.specs.RoomOfGroups.{FliesBehind, HasRoomForBad, PlanGains, ShowsBehind, StandsBehind}
use Rattle.many_stops.proofs.CountedBlocks.{bad_alike}
use Rattle.many_stops.proofs.room_left.RoomInOpenBlocks.{fewer_pages, rooms_no_less}

-- Numbers

pub no_less : (a b c : ℕ) → a ≤ b → b ≤ c → a ≤ c
no_less a b c l k = omega (arith, l, k)

still_short : (a b c : ℕ) → a ≤ b + 1 → b ≤ c → a ≤ c + 1
still_short a b c l k = omega (arith, l, k)

-- Steps

abbrev pub step_of : StepKind → Bool → Step
step_of kind there = record { kind = kind; there = there }

pub mark_is_no_copy : {number : ℕ} {fence : Option Fence} {name : Name} {from : Place} →
    MarkStep number fence ≡ CopyStep name from → ⊥
mark_is_no_copy e = cc

pub repair_is_no_copy : {one : Name} {at : Option Place} {name : Name} {from : Place} →
    RepairStep one at ≡ CopyStep name from → ⊥
repair_is_no_copy e = cc

pub one_copy : {one name : Name} {at from : Place} → CopyStep one at ≡ CopyStep name from → one ≡ name
one_copy e = cc

-- States and cells

pub closed_is_not_bad : {x : BlockState} → x ≡ Closed → x ≢ Bad
closed_is_not_bad e h = let no : Closed ≡ Bad = sym e ∙ h in cc

pub bad_is_not_free : {x : BlockState} → x ≡ Bad → x ≢ Free
bad_is_not_free e h = let no : Bad ≡ Free = sym e ∙ h in cc

pub mark_is_no_page : {m : Mark} {tag : Tag} {body : List ℕ} → MarkPage m ≡ GroupPage tag body → ⊥
mark_is_no_page e = cc

-- Fewer programs in flight

pub flies_fewer : {before : ℕ} {flights now : Flights} → AreFewer flights now → FliesBehind before now →
    FliesBehind before flights
flies_fewer fewer f = record {
  die = f.die;
  place = f.place;
  tag = f.tag;
  body = f.body;
  behind = f.behind;
  flies = fewer f.die f.place (GroupPage f.tag f.body) f.flies;
}

pub handed_fewer : {before : ℕ} {standing : Standing} {cells : Cells} {flights now : Flights} → AreFewer flights now →
    IsHandedOut before standing cells now → IsHandedOut before standing cells flights
handed_fewer fewer (inl s) = inl s
handed_fewer fewer (inr (inl f)) = inr (inl (flies_fewer fewer f))
handed_fewer fewer (inr (inr c)) = inr (inr c)

-- a page that is there now was there, or was being programmed
pub shows_from : {before : ℕ} {cells now : Cells} {flights : Flights} →
    ((p : Place) (tag : Tag) (body : List ℕ) → now p ≡ GroupPage tag body → (cells p ≡ GroupPage tag body)
    ⊎ ((die : ℕ) × (flights die ≡ Some (Programming p (GroupPage tag body))))) →
    ShowsBehind before now → FliesBehind before flights ⊎ ShowsBehind before cells
shows_from from c = ⊎_elim
    (λ here. inr (record { place = c.place; tag = c.tag; body = c.body; behind = c.behind; there = here }))
    (λ job. inl (record {
      die = job.0;
      place = c.place;
      tag = c.tag;
      body = c.body;
      behind = c.behind;
      flies = job.1;
    })) (from c.place c.tag c.body c.there)

-- Room that stays

-- where as many blocks are bad, as much room is kept
pub kept_alike : (n : Numbers) (was now : Spot → BlockState) → bad_count n now ≡ bad_count n was →
    kept_room n now ≡ kept_room n was
kept_alike n was now same = ap (λ bad. 2 * mending_blocks n + 1 + (n.spare - bad)) same

-- where the same blocks are bad, a plan is of a bad block if it was
pub plan_alike : (was now : Spot → BlockState) → ((s : Spot) → is_bad (now s) ≡ is_bad (was s)) → (plan : Option Plan) →
    is_plan_of_bad now plan ≡ is_plan_of_bad was plan
plan_alike was now same None = refl
plan_alike was now same (Some plan) = same plan.victim

-- where so many blocks more are free beyond those that are kept, the blocks that are being filled may have less room by
-- so many
pub bad_room_stays : (lost : ℕ) (n : Numbers) (blocks after : Spot → BlockState) (flights flown : Flights)
    (step now : Option Step) (plan : Option Plan) →
    kept_room n after + free_count n blocks + lost ≤ kept_room n blocks + free_count n after →
    ((more : ℕ) → pages_of_plan plan step ≤ room_on_dies n blocks step flights + more →
    pages_of_plan plan now ≤ room_on_dies n after now flown + more + n.pages * lost) →
    HasRoomForBad n blocks flights step plan → HasRoomForBad n after flown now plan
bad_room_stays lost n blocks after flights flown step now plan counts fits h = record {
  kept = let k = h.kept in omega (arith, counts, k);
  fits = still _ _ _ _ _ (fits (n.pages * (free_count n blocks - kept_room n blocks)) h.fits)
      (over n.pages (free_count n blocks - kept_room n blocks) lost (free_count n after - kept_room n after)
      (let k = h.kept in omega (arith, counts, k)));
}
  where
    still : (p room more less now : ℕ) → p ≤ room + more + less → more + less ≤ now → p ≤ room + now
    still p room more less now l k = omega (arith, l, k)

    over : (pages was lost now : ℕ) → was + lost ≤ now → pages * was + pages * lost ≤ pages * now
    over pages was lost now l = let k = mul-le-mul_left pages l in omega (arith, k)

-- what leaves the room where no fewer blocks are free, and no less room is open beside what the plan takes
abbrev pub IsNoLess : Numbers → (Spot → BlockState) → (Spot → BlockState) → Flights → Flights → Option Step →
    Option Step → Option Plan → Type 0
IsNoLess n blocks after flights flown step now plan = (more : ℕ) →
    pages_of_plan plan step ≤ room_on_dies n blocks step flights + more →
    pages_of_plan plan now ≤ room_on_dies n after now flown + more

-- so it is where the pages of the plan stay, and no less room is open
pub same_pages : (was now room after : ℕ) → now ≤ was → room ≤ after → (more : ℕ) → was ≤ room + more →
    now ≤ after + more
same_pages was now room after pages l more fits = omega (arith, pages, l, fits)

pub room_stays : (n : Numbers) (blocks after : Spot → BlockState) (flights flown : Flights)
    (step now : Option Step) (plan : Option Plan) → ((s : Spot) → is_bad (after s) ≡ is_bad (blocks s)) →
    free_count n blocks ≤ free_count n after → IsNoLess n blocks after flights flown step now plan →
    HasOwnRoom n blocks flights step plan → HasOwnRoom n after flown now plan
room_stays n blocks after flights flown step now plan same free room h = record {
  any = ⊎_elim (λ l. let k = kept in inl (omega (arith, k, l, free))) (λ o. inr (short o)) h.any;
  bad = λ is. bad_room_stays 0 n blocks after flights flown step now plan (let k = kept in omega (arith, k, free))
      (λ more fits. let l = room more fits in omega (arith, l)) (h.bad (sym (plan_alike blocks after same plan) ∙ is));
}
  where
    kept : kept_room n after ≡ kept_room n blocks
    kept = kept_alike n blocks after (bad_alike n blocks after same)

    short : IsOneShort n blocks flights step plan → IsOneShort n after flown now plan
    short o = record {
      short = let k = kept in let l = o.short in omega (arith, k, l, free);
      under_way = o.under_way;
      is = o.is;
      good = λ bad. o.good (bad_told (blocks o.under_way.victim) (sym (same o.under_way.victim) ∙ ap is_bad bad));
      fits = let f = o.fits in let l = room 0 (omega (arith, f)) in omega (arith, l);
    }

-- Plans of bad blocks

-- the device's own pages need no less than is kept
pub own_enough : (n : Numbers) (blocks : Spot → BlockState) → 1 ≤ n.dies →
    kept_room n blocks ≤ own_room n (bad_count n blocks)
own_enough n blocks dies = enough n.dies (div_ceil n.slots n.pages) (n.spare - bad_count n blocks) dies
  where
    enough : (dies filled more : ℕ) → 1 ≤ dies → 2 * (filled + 1) + 1 + more ≤ dies + 2 + 2 * filled + more
    enough dies filled more l = omega (arith, l)

own_wanted : (n : Numbers) (bad : ℕ) → own_room n bad + 2 ≤ wanted_room n bad
own_wanted n bad = by (least_room n) (2 * n.dies + 4) (n.spare - bad)
  where
    by : (least some more : ℕ) → least + more + 2 ≤ max some (least + 2) + more
    by least some more = grind arith

pub left_is : (t : Translation) {b : Bool} → is_plan_of_bad t.disk.blocks t.work.plan ≡ b → left_by_groups t ≡
    (if b then wanted_room t.numbers (count_blocks t is_bad) else own_room t.numbers (count_blocks t is_bad))
left_is t is = ap (λ (b : Bool). if b then wanted_room t.numbers (count_blocks t is_bad)
    else own_room t.numbers (count_blocks t is_bad)) is

-- so groups leave as much, and two blocks more while a bad block is collected
pub left_enough_for_bad : (t : Translation) → 1 ≤ t.numbers.dies →
    is_plan_of_bad t.disk.blocks t.work.plan ≡ true → kept_room t.numbers t.disk.blocks + 2 ≤ left_by_groups t
left_enough_for_bad t dies bad = enough _ _ _ _ (left_is t bad) (own_wanted t.numbers (count_blocks t is_bad))
    (own_enough t.numbers t.disk.blocks dies)
  where
    enough : (kept left own wanted : ℕ) → left ≡ wanted → own + 2 ≤ wanted → kept ≤ own → kept + 2 ≤ left
    enough kept left own wanted e l k = omega (arith, e, l, k)

pub left_enough : (t : Translation) → 1 ≤ t.numbers.dies → kept_room t.numbers t.disk.blocks ≤ left_by_groups t
left_enough t dies = ⊎_elim
    (λ bad. let l = left_enough_for_bad t dies bad in omega (arith, l))
    (λ good. enough _ _ _ (left_is t good) (own_enough t.numbers t.disk.blocks dies))
    (cases_Bool (is_plan_of_bad t.disk.blocks t.work.plan))
  where
    enough : (kept left own : ℕ) → left ≡ own → kept ≤ own → kept ≤ left
    enough kept left own e l = omega (arith, e, l)

-- a plan of a bad block has a page left, at least its mark
pub bad_plan_pages : (blocks : Spot → BlockState) (plan : Option Plan) (step : Option Step) →
    is_plan_of_bad blocks plan ≡ true → 1 ≤ pages_of_plan plan step
bad_plan_pages blocks None step bad = absurd (false≢true bad)
bad_plan_pages blocks (Some plan) step bad = omega arith

-- each plan fits into two blocks
pub plan_most : {n : Numbers} {blocks : Spot → BlockState} {step : Option Step} (plan : Option Plan) →
    ((pl : Plan) → plan ≡ Some pl → PlanGains n blocks step pl) → pages_of_plan plan step ≤ 2 * n.pages
plan_most None gains = omega arith
plan_most (Some pl) gains = (gains pl refl).most

-- so it has room where two blocks more are free than are kept
pub bad_room_begins : (n : Numbers) (blocks : Spot → BlockState) (flights : Flights) (step : Option Step)
    (plan : Option Plan) → pages_of_plan plan step ≤ 2 * n.pages → kept_room n blocks + 2 ≤ free_count n blocks →
    HasRoomForBad n blocks flights step plan
bad_room_begins n blocks flights step plan most more = record {
  kept = omega (arith, more);
  fits = fit _ _ _ _ most (mul-le-mul_left n.pages (over _ _ more));
}
  where
    over : (a b : ℕ) → a + 2 ≤ b → 2 ≤ b - a
    over a b l = omega (arith, l)

    fit : (p room pages over : ℕ) → p ≤ 2 * pages → pages * 2 ≤ over → p ≤ room + over
    fit p room pages over l k = omega (arith, l, k)

pub fewer_leaves : {n : Numbers} {before : ℕ} {standing : Standing} {cells : Cells}
    {blocks : Spot → BlockState} {flights : Flights} {mended : Bool} {step : Option Step} {plan : Option Plan}
    (now : Flights) → AreFewer flights now →
    LeavesRoom n before standing cells blocks flights mended step plan →
    LeavesRoom n before standing cells blocks now mended step plan
fewer_leaves {n} {before} {standing} {cells} {blocks} {flights} {mended} {step} {plan} now fewer r = record {
  one_die = λ d e p q a b x y h k s.
      r.one_die d e p q a b x y (fewer d p (GroupPage a x) h) (fewer e q (GroupPage b y) k) s;
  copied = r.copied;
  planned = r.planned;
  gains = r.gains;
  room = λ h. room_stays n blocks blocks flights now step step plan (λ s. refl) (omega arith)
      (same_pages _ _ _ _ (omega arith)
      (rooms_no_less n blocks blocks step step flights now (λ die. omega arith) (fewer_pages step fewer)))
      (r.room (handed_fewer fewer h));
}

-- No page came

pub gone_leaves : {n : Numbers} {before : ℕ} {standing : Standing} {cells : Cells}
    {blocks : Spot → BlockState} {flights : Flights} {mended : Bool} {step : Option Step} {plan : Option Plan}
    (now : Cells) →
    ((p : Place) (tag : Tag) (body : List ℕ) → now p ≡ GroupPage tag body → cells p ≡ GroupPage tag body) →
    LeavesRoom n before standing cells blocks flights mended step plan →
    LeavesRoom n before standing now blocks flights mended step plan
gone_leaves {n} {before} {standing} {cells} {blocks} {flights} {mended} {step} {plan} now was r = record {
  one_die = r.one_die;
  copied = r.copied;
  planned = r.planned;
  gains = r.gains;
  room = λ h. r.room (handed h);
}
  where
    handed : IsHandedOut before standing now flights → IsHandedOut before standing cells flights
    handed (inl s) = inl s
    handed (inr (inl f)) = inr (inl f)
    handed (inr (inr c)) = inr (shows_from (λ p tag body e. inl (was p tag body e)) c)

-- Programs go to blocks that are not bad

pub not_bad_after : (pages page : ℕ) → state_after pages page ≢ Bad
not_bad_after pages page = by (page + 1 == pages)
  where
    by : (b : Bool) → (if b then Closed else Filling (page + 1)) ≡ Bad → ⊥
    by true e = cc
    by false e = cc

-- a block that is not bad stays so where another state that is not bad is put in
pub still_good : (blocks : Spot → BlockState) (s : Spot) (x : BlockState) (a : Spot) → x ≢ Bad → blocks a ≢ Bad →
    at_spot blocks s x a ≢ Bad
still_good blocks s x a put good h = ⊎_elim (λ k. put k.1) (λ k. good k.1) (at_spot_is blocks s x a Bad h)

-- The content of the step came

pub there_leaves : {n : Numbers} {before : ℕ} {standing : Standing} {cells : Cells}
    {blocks : Spot → BlockState} {flights : Flights} {mended : Bool} {plan : Option Plan} (step : Option Step) →
    LeavesRoom n before standing cells blocks flights mended step plan →
    LeavesRoom n before standing cells blocks flights mended (step_there step) plan
there_leaves None r = r
there_leaves {n} {blocks = blocks} {flights = flights} {plan = plan} (Some s) r = record {
  one_die = r.one_die;
  copied = λ name from there e. r.copied name from s.there (ap Some (kind (same_Some _ _ e)));
  planned = λ mended other e. r.planned mended s refl;
  gains = λ pl e. let g = r.gains pl e in record { inside = g.inside; most = g.most; less = g.less };
  room = λ h. room_stays n blocks blocks flights flights (Some s) (Some (record s { there = true })) plan (λ a. refl)
      (omega arith)
      (same_pages _ _ _ _ (as_many plan)
      (rooms_no_less n blocks blocks (Some s) (Some (record s { there = true })) flights flights (λ die. omega arith)
      (λ die. pages (flights die)))) (r.room h);
}
  where
    kind : {name : Name} {from : Place} {there : Bool} →
        record s { there = true } ≡ record { kind = CopyStep name from; there = there } →
        s ≡ record { kind = CopyStep name from; there = s.there }
    kind e = λ i. record { kind = ap (λ (x : Step). x.kind) e i; there = s.there }

    pages : (o : Option Flight) → page_of_group (Some (record s { there = true })) o ≤ page_of_group (Some s) o
    pages (Some (Programming p (GroupPage tag body))) = omega arith
    pages o = omega arith

    as_many : (pl : Option Plan) → pages_of_plan pl (Some (record s { there = true })) ≤ pages_of_plan pl (Some s)
    as_many None = omega arith
    as_many (Some x) = omega arith

-- the step of one name programs no page of another
pub kind_name : (a b : Name) (kind : StepKind) → is_kind_of a kind ≡ true → is_kind_of b kind ≡ true → a ≡ b
kind_name a b (MarkStep number fence) h k = absurd (false≢true h)
kind_name a b (CopyStep name from) h k = name_told a name h ∙ sym (name_told b name k)
kind_name a b (RepairStep name from) h k = name_told a name h ∙ sym (name_told b name k)

module _ {t : Translation} (v : Valid t) where
  -- nothing of the host is handed out before the device is mended
  pub handed_mended : HasHandedOut t → is_mended t.work.mending ≡ true
  handed_mended h = by (is_mended t.work.mending) refl
    where
      low : (number index : ℕ) (e : Entry) → IsPageAt (book t) number index e →
          is_mended t.work.mending ≡ false → before_accepted t.ledger < number → ⊥
      low number index e is un behind =
          let all = (v.history.mending un).0 in
          let within = page_within (book t) number index e is in
          omega (arith, all, within, behind)

      by : (b : Bool) → is_mended t.work.mending ≡ b → b ≡ true
      by true e = refl
      by false e = absurd (⊎_elim
          (λ (s : StandsBehind (before_accepted t.ledger) t.ledger.standing).
          let k = v.frontier.known s.number s.index s.place s.stands in
          low s.number s.index k.0 k.1 e s.behind)
          (λ k. ⊎_elim
          (λ (f : FliesBehind (before_accepted t.ledger) t.disk.flights).
          low f.tag.number f.tag.index _ (v.flights.known f.die f.place f.tag f.body f.flies) e f.behind)
          (λ (c : ShowsBehind (before_accepted t.ledger) t.disk.cells).
          low c.tag.number c.tag.index _ (v.pages.known c.place c.tag c.body c.there) e c.behind) k) h)

  pub home_of : (die : ℕ) {p : Place} {cell : Cell} → t.disk.flights die ≡ Some (Programming p cell) →
      die < t.numbers.dies
  home_of die {p} {cell} h =
      let r = v.flights.programs die p cell h in
      let e = r.at_home in
      let l = r.place.die in
      omega (arith, e, l)
