-- A program that is given to a die leaves the room: that of a group is given where there is enough, and below it that
-- of a step opens a block only where none is being filled.
use Rattle.many_stops.proofs.Common.{Bad, BlockState, Cell, CopyStep, Entry, Filling, Flights, GroupPage, HasHandedOut}
use Rattle.many_stops.proofs.Common.{HasOwnRoom, IsHandedOut, IsOneShort, LeavesOwnRoom, List, MarkStep, MayTake, Name}
use Rattle.many_stops.proofs.Common.{None, Nothing, OpensReady, Option, Place, Plan, Programming, RepairStep, Some}
use Rattle.many_stops.proofs.Common.{Spot, Step, StepKind, StepKindRight, Tag, Translation, Valid, ap, arith, at_die}
use Rattle.many_stops.proofs.Common.{at_die_cases, at_most, at_spot, at_spot_cases, before_accepted, book, cases_Bool}
use Rattle.many_stops.proofs.Common.{count_blocks, false, filling_is_not_bad, filling_room, free_count}
use Rattle.many_stops.proofs.Common.{free_is_not_filling, if◌then◌else◌, inl, inr, is_bad, is_free, is_kind_of}
use Rattle.many_stops.proofs.Common.{is_mended, is_plan_of_bad, kept_room, left_by_groups, mul-le-mul_left, name_of}
use Rattle.many_stops.proofs.Common.{none-some, page_of_group, page_within, pages_of_plan, program_owed, refl}
use Rattle.many_stops.proofs.Common.{room_on_dies, spot_of, subst, suc, sym, taken, true, true≢false, zero, ℕ, ⊎_elim}
use Rattle.many_stops.proofs.Common.{◌*◌, ◌+◌, ◌-◌, ◌<◌, ◌∙◌, ◌≡◌, ◌≢◌, ◌≤◌, ◌⊎◌}
use Rattle.ufs_spec.proofs.Equalities.{name_self}
use Rattle.ufs_spec.specs.Ledger.{entry_of}
use Rattle.ufs_spec.specs.Translation.{cell_of_entry, step_cell, tag_of, waiting_name, waiting_step}
use Rattle.power_loss.proofs.jobs_owed.OneDieForEachJob.{one_page}
use Rattle.power_loss.proofs.jobs_owed.ProgramsAndErases.{ProgramOwed, StepOwed, idle_below, step_owed}
use Rattle.power_loss.proofs.jobs_owed.RoomLeft.{block_room, none_filled, page_room}
use Rattle.power_loss.proofs.jobs_owed.BegunPrograms.{is_this}
use Rattle.many_stops.specs.RoomOfGroups.{HasRoomForBad}
use Rattle.many_stops.proofs.CountedBlocks.{bad_alike, bad_stays, none_fewer, one_fewer}
use Rattle.many_stops.proofs.room_left.RoomInOpenBlocks.{die_room, opened_room, room_is_filled, rooms_hold}
use Rattle.many_stops.proofs.room_left.RoomInOpenBlocks.{rooms_no_less, same_room}
use Rattle.many_stops.proofs.room_left.RoomStays.{bad_is_not_free, bad_plan_pages, bad_room_begins, handed_mended}
use Rattle.many_stops.proofs.room_left.RoomStays.{home_of, kept_alike, left_enough, left_enough_for_bad}
use Rattle.many_stops.proofs.room_left.RoomStays.{mark_is_no_page, no_less, plan_alike, plan_most, room_stays}
use Rattle.many_stops.proofs.room_left.RoomStays.{same_pages, still_good}

-- What a die programs

page_now : (name : Name) (o : Option Entry) (frontier : ℕ) {tag : Tag} {body : List ℕ} →
    cell_of_entry name o frontier ≡ GroupPage tag body → name ≡ name_of tag
page_now name None frontier {tag} {body} h = absurd (apart h)
  where
    apart : Nothing ≡ GroupPage tag body → ⊥
    apart e = cc
page_now name (Some e) frontier {tag} {body} h = ap name_of (tags h)
  where
    tags : GroupPage (tag_of name e frontier) e.item.body ≡ GroupPage tag body → tag_of name e frontier ≡ tag
    tags e = cc

-- the page of the step is none of a group
entry_is_no_groups : (step : Step) (name : Name) (p : Place) (o : Option Entry) (frontier : ℕ) →
    is_kind_of name step.kind ≡ true →
    page_of_group (Some step) (Some (Programming p (cell_of_entry name o frontier))) ≡ 0
entry_is_no_groups step name p None frontier h = refl
entry_is_no_groups step name p (Some e) frontier h = ap (λ b. if b then 0 else 1) h

steps_page : (t : Translation) (step : Step) (kind : StepKind) (p : Place) → step.kind ≡ kind →
    page_of_group (Some step) (Some (Programming p (step_cell t kind))) ≡ 0
steps_page t step (MarkStep number fence) p e = refl
steps_page t step (CopyStep name from) p e = entry_is_no_groups step name p (entry_of t.ledger name) t.ledger.frontier
    (ap (is_kind_of name) e ∙ name_self name)
steps_page t step (RepairStep name from) p e = entry_is_no_groups step name p (entry_of t.ledger name) t.ledger.frontier
    (ap (is_kind_of name) e ∙ name_self name)

module _ {t : Translation} (v : Valid t) (r : LeavesOwnRoom t) where
  -- A program begins

  -- a page of the host that the step programs stands
  step_stands : (s : Step) (kind : StepKind) {tag : Tag} {body : List ℕ} → t.work.step ≡ Some s → s.kind ≡ kind →
      step_cell t kind ≡ GroupPage tag body → before_accepted t.ledger < tag.number → HasHandedOut t
  step_stands s (MarkStep number fence) is k e behind = absurd (mark_is_no_page e)
  step_stands s (CopyStep name from) {tag} is k e behind =
      let same = page_now name (entry_of t.ledger name) t.ledger.frontier e in
      let c = r.copied name from s.there (is ∙ ap (λ z. Some (record { kind = z; there = s.there })) k) in
      inl (record {
        number = tag.number;
        index = tag.index;
        place = c.0;
        behind = behind;
        stands = ap (λ (z : Name). t.ledger.standing z.number z.index) (sym same) ∙ c.1;
      })
  step_stands s (RepairStep name from) {tag} is k e behind =
      let right : StepKindRight (book t) t.ledger.marks t.disk.cells t.work.mending t.work.plan (RepairStep name from) =
      subst (StepKindRight (book t) t.ledger.marks t.disk.cells t.work.mending t.work.plan) k (v.step.kind s is) in
      let all = (v.history.mending (ap is_mended right.1)).0 in
      let within = page_within (book t) name.number name.index right.2.0 right.2.1 in
      let same = ap (λ (z : Name). z.number) (page_now name (entry_of t.ledger name) t.ledger.frontier e) in
      absurd (omega (arith, all, within, same, behind))

  module _ (die : ℕ) (p : Place) (cell : Cell) (may : MayTake t die (Some (Programming p cell))) where
    abbrev flown : Flights
    flown = at_die t.disk.flights die (Some (Programming p cell))

    abbrev after : Spot → BlockState
    after = at_spot t.disk.blocks (spot_of p) (Filling p.page)

    owed : ProgramOwed t die p cell (waiting_step t t.work.step) (waiting_name t)
    owed = program_owed t die p cell may

    -- where it begins a block that is being filled, as many are free; else one less
    free_after : t.disk.blocks (spot_of p) ≡ Filling p.page → count_blocks t is_free ≤ free_count t.numbers after
    free_after is =
        none_fewer t.numbers t.disk.blocks (spot_of p) (Filling p.page) (λ free. free_is_not_filling free is)

    opened_after : count_blocks t is_free ≤ 1 + free_count t.numbers after
    opened_after = one_fewer t.numbers t.disk.blocks (spot_of p) (Filling p.page)

    some_die : 1 ≤ t.numbers.dies
    some_die = let l = idle_below t die may.0 in omega (arith, l)

    -- what groups leave is enough for what is kept
    left_is_enough : kept_room t.numbers t.disk.blocks ≤ left_by_groups t
    left_is_enough = left_enough t some_die

    -- and while a bad block is collected for two blocks more
    left_for_bad : is_plan_of_bad t.disk.blocks t.work.plan ≡ true →
        kept_room t.numbers t.disk.blocks + 2 ≤ left_by_groups t
    left_for_bad = left_enough_for_bad t some_die

    -- For a group

    below_more : (a b c : ℕ) → a < b → b ≤ 1 + c → a ≤ c
    below_more a b c l k = omega (arith, l, k)

    -- the block is good, before and after
    was_good : t.disk.blocks (spot_of p) ≢ Bad
    was_good bad = ⊎_elim (λ filled. filling_is_not_bad filled bad)
        (λ (o : OpensReady t p). bad_is_not_free bad o.free) owed.place.next

    bad_after : (s : Spot) → is_bad (after s) ≡ is_bad (t.disk.blocks s)
    bad_after = bad_stays t.disk.blocks (spot_of p) (Filling p.page) was_good (filling_is_not_bad refl)

    kept_after : kept_room t.numbers after ≡ kept_room t.numbers t.disk.blocks
    kept_after = kept_alike t.numbers t.disk.blocks after (bad_alike t.numbers t.disk.blocks after bad_after)

    plan_after : is_plan_of_bad after t.work.plan ≡ is_plan_of_bad t.disk.blocks t.work.plan
    plan_after = plan_alike t.disk.blocks after bad_after t.work.plan

    good_after : (s : Spot) → t.disk.blocks s ≢ Bad → after s ≢ Bad
    good_after s = still_good t.disk.blocks (spot_of p) (Filling p.page) s (filling_is_not_bad refl)

    good_before : (s : Spot) → after s ≢ Bad → t.disk.blocks s ≢ Bad
    good_before s good bad = good (⊎_elim (λ k. absurd (was_good (ap t.disk.blocks (sym k.0) ∙ bad))) (λ k. k.1 ∙ bad)
        (at_spot_cases t.disk.blocks (spot_of p) (Filling p.page) s))

    for_group : waiting_step t t.work.step ≡ None → left_by_groups t ≤ free_count t.numbers after
    for_group none = ⊎_elim
        (λ filled. no_less (left_by_groups t) (count_blocks t is_free) (free_count t.numbers after)
        (⊎_elim (λ w. absurd (waits w)) (λ l. l) (page_room t die p cell may)) (free_after filled))
        (λ (o : OpensReady t p). below_more (left_by_groups t) (count_blocks t is_free) (free_count t.numbers after)
        (⊎_elim (λ w. absurd (waits w.1)) (λ l. l) (block_room t die (Programming p cell) may o.free)) opened_after)
        owed.place.next
      where
        waits : {c : Cell} → waiting_step t t.work.step ≡ Some c → ⊥
        waits {c} w = none-some c (sym none ∙ w)

    -- For the step

    module _ (s : StepOwed t cell) where
      none_of_group : page_of_group t.work.step (Some (Programming p cell)) ≡ 0
      none_of_group = ap (λ z. page_of_group z (Some (Programming p cell))) s.under_way
          ∙ ap (λ c. page_of_group (Some s.step) (Some (Programming p c))) (sym s.is)
          ∙ steps_page t s.step s.step.kind p refl

      handed_before : IsHandedOut (before_accepted t.ledger) t.ledger.standing t.disk.cells flown → HasHandedOut t
      handed_before (inl h) = inl h
      handed_before (inr (inl f)) = ⊎_elim
          (λ k. step_stands s.step s.step.kind s.under_way refl (s.is ∙ k.2) f.behind)
          (λ k. inr (inl (record {
            die = f.die;
            place = f.place;
            tag = f.tag;
            body = f.body;
            behind = f.behind;
            flies = k;
          }))) (is_this t f.flies)
      handed_before (inr (inr c)) = inr (inr c)

      pages_after : (d : ℕ) → page_of_group t.work.step (flown d) ≤ page_of_group t.work.step (t.disk.flights d)
      pages_after d = ⊎_elim
          (λ k. let e = ap (page_of_group t.work.step) k.1 ∙ none_of_group in omega (arith, e))
          (λ k. let e = ap (page_of_group t.work.step) k.1 in omega (arith, e))
          (at_die_cases t.disk.flights die (Some (Programming p cell)) d)

      filled_after : t.disk.blocks (spot_of p) ≡ Filling p.page →
          HasOwnRoom t.numbers t.disk.blocks t.disk.flights t.work.step t.work.plan →
          HasOwnRoom t.numbers after flown t.work.step t.work.plan
      filled_after is =
          room_stays t.numbers t.disk.blocks after t.disk.flights flown t.work.step t.work.step t.work.plan
          bad_after (free_after is)
          (same_pages _ _ _ _ (omega arith)
          (rooms_no_less t.numbers t.disk.blocks after t.work.step t.work.step t.disk.flights flown
          (λ d. same_room t.numbers t.disk.blocks (spot_of p) (Filling p.page) d
          (let e = ap (filling_room t.numbers.pages) is in omega (arith, e))) pages_after))

      -- the block that is opened has room for all of a plan
      room_opened : (o : OpensReady t p) → t.numbers.pages ≤ room_on_dies t.numbers after t.work.step flown
      room_opened o =
          let i = owed.place.inside in
          let l = idle_below t die may.0 in
          let home : p.die ≡ die = i.at_home in
          let at : die_room t.numbers after die ≡
          die_room t.numbers (at_spot t.disk.blocks (spot_of p) (Filling 0)) p.die =
          ap (λ d. die_room t.numbers after d) (sym home)
          ∙ ap (λ k. die_room t.numbers (at_spot t.disk.blocks (spot_of p) (Filling k)) p.die) o.first in
          let whole = opened_room t.numbers t.disk.blocks (spot_of p) i.block in
          let here : page_of_group t.work.step (flown die) ≡ 0 =
          ⊎_elim (λ k. ap (page_of_group t.work.step) k.1 ∙ none_of_group) (λ k. absurd (k.0 refl))
          (at_die_cases t.disk.flights die (Some (Programming p cell)) die) in
          let held = rooms_hold t.numbers after t.work.step flown die l in
          enough t.numbers.pages _ _ _ _ whole at here held
        where
          enough : (pages a b c d : ℕ) → pages ≤ b → a ≡ b → c ≡ 0 → a - c ≤ d → pages ≤ d
          enough pages a b c d l e z k = omega (arith, l, e, z, k)

      -- below the room a block is opened only where none is being filled
      none_open : (o : OpensReady t p) → count_blocks t is_free < left_by_groups t →
          1 ≤ room_on_dies t.numbers t.disk.blocks t.work.step t.disk.flights → ⊥
      none_open o few some =
          let f = room_is_filled t.numbers t.disk.blocks t.work.step t.disk.flights some in
          none_filled t die (Programming p cell) f.spot f.next may o.free few f.inside f.is

      -- the plan is not of a bad block
      module _ (good : is_plan_of_bad t.disk.blocks t.work.plan ≡ false) where
        victim_good : (pl : Plan) → t.work.plan ≡ Some pl → t.disk.blocks pl.victim ≢ Bad
        victim_good pl is bad = true≢false (sym (ap is_bad bad) ∙ (sym (ap (is_plan_of_bad t.disk.blocks) is) ∙ good))

        opened_so : (o : OpensReady t p) → is_mended t.work.mending ≡ true →
            kept_room t.numbers t.disk.blocks ≤ count_blocks t is_free →
            IsOneShort t.numbers after flown t.work.step t.work.plan
        opened_so o mended l =
            let pl = r.planned mended s.step s.under_way in
            let g = r.gains pl.0 pl.1 in
            let e = ap (λ z. pages_of_plan z t.work.step) pl.1 in
            record {
              short = one_less _ _ (count_blocks t is_free) (free_count t.numbers after) kept_after l opened_after;
              under_way = pl.0;
              is = pl.1;
              good = good_after pl.0.victim (victim_good pl.0 pl.1);
              fits = fit _ _ _ _ e (g.less (victim_good pl.0 pl.1)) (room_opened o);
            }
          where
            one_less : (x a b c : ℕ) → x ≡ a → a ≤ b → b ≤ 1 + c → x ≤ c + 1
            one_less x a b c e l k = omega (arith, e, l, k)

            fit : (a b c d : ℕ) → a ≡ b → b ≤ c → c ≤ d → a ≤ d
            fit a b c d e l k = omega (arith, e, l, k)

        -- where no plan fits into blocks that are being filled, none is one short
        none_fits : (o : OpensReady t p) → count_blocks t is_free < left_by_groups t →
            IsOneShort t.numbers t.disk.blocks t.disk.flights t.work.step t.work.plan → ⊥
        none_fits o few short =
            let e = ap (λ z. pages_of_plan z t.work.step) short.is in
            none_open o few (some _ _ _ e short.fits)
          where
            some : (a b c : ℕ) → a ≡ b + 1 → a ≤ c → 1 ≤ c
            some a b c e l = omega (arith, e, l)

        opened_for_good : (o : OpensReady t p) → is_mended t.work.mending ≡ true →
            HasOwnRoom t.numbers t.disk.blocks t.disk.flights t.work.step t.work.plan →
            HasOwnRoom t.numbers after flown t.work.step t.work.plan
        opened_for_good o mended h = record {
          any = inr (opened_so o mended (⊎_elim (λ l. l)
              (λ short. ⊎_elim (λ l. let k = left_is_enough in omega (arith, l, k))
              (λ few. absurd (none_fits o few short)) (at_most (left_by_groups t) (count_blocks t is_free))) h.any));
          bad = λ is. absurd (true≢false (sym is ∙ (plan_after ∙ good)));
        }

      -- it is of one: then so many more blocks were free, or what is left fits into one block less and the opened one
      opened_for_bad : (o : OpensReady t p) → is_plan_of_bad t.disk.blocks t.work.plan ≡ true →
          HasRoomForBad t.numbers t.disk.blocks t.disk.flights t.work.step t.work.plan →
          HasRoomForBad t.numbers after flown t.work.step t.work.plan
      opened_for_bad o bad h = ⊎_elim enough few (at_most (left_by_groups t) (count_blocks t is_free))
        where
          over : (pages kept free now after : ℕ) → now ≡ kept → kept + 2 ≤ free → free ≤ 1 + after →
              pages * 1 ≤ pages * (after - now)
          over pages kept free now after e l k = mul-le-mul_left pages (omega (arith, e, l, k))

          two : (p pages room more : ℕ) → p ≤ 2 * pages → pages ≤ room → pages * 1 ≤ more → p ≤ room + more
          two p pages room more most l k = omega (arith, most, l, k)

          enough : left_by_groups t ≤ count_blocks t is_free →
              HasRoomForBad t.numbers after flown t.work.step t.work.plan
          enough l =
              let more = no_less _ _ _ (left_for_bad bad) l in
              record {
                kept = let e = kept_after in let k = opened_after in omega (arith, more, e, k);
                fits = two _ _ _ _ (plan_most t.work.plan r.gains) (room_opened o)
                    (over t.numbers.pages _ _ _ _ kept_after more opened_after);
              }

          -- what fits into no block fills none
          some_over : (p pages over : ℕ) → 1 ≤ p → p ≤ pages * over → 1 ≤ over
          some_over p pages zero some fits = absurd (omega (arith, some, fits))
          some_over p pages (suc over) some fits = omega arith

          one_less : (p pages over after room : ℕ) → p ≤ pages * over → over ≤ 1 + after → pages ≤ room →
              p ≤ room + pages * after
          one_less p pages over after room fits l k =
              let m : pages * over ≤ pages * (1 + after) = mul-le-mul_left pages l in omega (arith, fits, m, k)

          few : count_blocks t is_free < left_by_groups t →
              HasRoomForBad t.numbers after flown t.work.step t.work.plan
          few l =
              let fits : pages_of_plan t.work.plan t.work.step
              ≤ t.numbers.pages * (count_blocks t is_free - kept_room t.numbers t.disk.blocks) =
              alone _ _ _ h.fits (none_open o l) in
              let some = some_over _ _ _ (bad_plan_pages t.disk.blocks t.work.plan t.work.step bad) fits in
              record {
                kept = let e = kept_after in let k = opened_after in omega (arith, some, e, k);
                fits = one_less _ _ _ _ _ fits (apart _ _ _ _ kept_after opened_after) (room_opened o);
              }
            where
              alone : (p room more : ℕ) → p ≤ room + more → (1 ≤ room → ⊥) → p ≤ more
              alone p room more l none = ⊎_elim (λ some. absurd (none some)) (λ k. omega (arith, l, k)) (at_most 1 room)

              apart : (kept free now after : ℕ) → now ≡ kept → free ≤ 1 + after → free - kept ≤ 1 + (after - now)
              apart kept free now after e l = omega (arith, e, l)

      opened_after_all : (o : OpensReady t p) → HasHandedOut t →
          HasOwnRoom t.numbers after flown t.work.step t.work.plan
      opened_after_all o handed = ⊎_elim
          (λ bad.
          let b = opened_for_bad o bad ((r.room handed).bad bad) in
          record { any = inl b.kept; bad = λ is. b })
          (λ good. opened_for_good good o (handed_mended v handed) (r.room handed))
          (cases_Bool (is_plan_of_bad t.disk.blocks t.work.plan))

      for_step : HasHandedOut t → HasOwnRoom t.numbers after flown t.work.step t.work.plan
      for_step handed = ⊎_elim (λ filled. filled_after filled (r.room handed)) (λ o. opened_after_all o handed)
          owed.place.next

    -- where groups may go on, so many blocks are left that any plan has room
    own_left : left_by_groups t ≤ free_count t.numbers after → HasOwnRoom t.numbers after flown t.work.step t.work.plan
    own_left l = record {
      any = inl (let k = left_is_enough in let e = kept_after in omega (arith, l, k, e));
      bad = λ is. bad_room_begins t.numbers after flown t.work.step t.work.plan (plan_most t.work.plan r.gains)
          (let k = left_for_bad (sym plan_after ∙ is) in let e = kept_after in omega (arith, l, k, e));
    }

    pub program_leaves : LeavesOwnRoom (taken t die (Programming p cell))
    program_leaves = record {
      one_die = λ d e q z a b x y h k same. one d e q z a b x y (is_this t h) (is_this t k) same;
      copied = r.copied;
      planned = r.planned;
      gains = λ pl e.
          let g = r.gains pl e in
          record { inside = g.inside; most = g.most; less = λ good. g.less (good_before pl.victim good) };
      room = λ h. ⊎_elim
          (λ w. let s = step_owed t t.work.step cell refl w in for_step s (handed_before s h))
          (λ w. own_left (for_group w.0)) owed.is;
    }
      where
        other_name : (e : ℕ) (q : Place) (a b : Tag) (x y : List ℕ) → cell ≡ GroupPage a x →
            t.disk.flights e ≡ Some (Programming q (GroupPage b y)) → name_of b ≡ name_of a → ⊥
        other_name e q a b x y is flies same =
            one_page t die e p q a b x y (subst (λ c. MayTake t die (Some (Programming p c))) is may)
            (home_of v e flies) flies same

        one : (d e : ℕ) (q z : Place) (a b : Tag) (x y : List ℕ) →
            ((d ≡ die) × (p ≡ q) × (cell ≡ GroupPage a x))
            ⊎ (t.disk.flights d ≡ Some (Programming q (GroupPage a x))) →
            ((e ≡ die) × (p ≡ z) × (cell ≡ GroupPage b y))
            ⊎ (t.disk.flights e ≡ Some (Programming z (GroupPage b y))) → name_of a ≡ name_of b → d ≡ e
        one d e q z a b x y (inl h) (inl k) same = h.0 ∙ sym k.0
        one d e q z a b x y (inl h) (inr k) same = absurd (other_name e z a b x y h.2 k (sym same))
        one d e q z a b x y (inr h) (inl k) same = absurd (other_name d q b a y x k.2 h same)
        one d e q z a b x y (inr h) (inr k) same = r.one_die d e q z a b x y h k same
