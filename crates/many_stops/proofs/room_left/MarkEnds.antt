-- A mark that was programmed leaves the room: that of a plan frees its block.
use Rattle.many_stops.proofs.Common.{Bad, BlockState, Cells, Closed, Filling, Free, GroupPage, HasHandedOut}
use Rattle.many_stops.proofs.Common.{IsHandedOut, IsOneShort, LeavesOwnRoom, LeavesRoom, Mark, MarkPage, None, Option}
use Rattle.many_stops.proofs.Common.{Place, Plan, Programming, Some, Spot, Translation, Valid, ap, arith, at_die}
use Rattle.many_stops.proofs.Common.{at_place, at_place_cases, at_spot, at_spot_cases, before_accepted}
use Rattle.many_stops.proofs.Common.{closed_is_not_free, count_blocks, ended_fewer, false≢true, filling_is_not_bad}
use Rattle.many_stops.proofs.Common.{free_count, free_is_not_filling, freed, freed_state, inl, inr, is_bad, is_free}
use Rattle.many_stops.proofs.Common.{is_mended, is_plan_of_bad, kept_room, mark_written, mending_after, none-some}
use Rattle.many_stops.proofs.Common.{programmed, refl, spot_of, state_after, sym, ℕ, ⊎_elim, ◌+◌, ◌∙◌, ◌≡◌, ◌≢◌, ◌≤◌}
use Rattle.many_stops.proofs.Common.{◌⊎◌}
use Rattle.many_stops.proofs.CountedBlocks.{bad_alike, bad_stays, no_fewer, one_more, others_free}
use Rattle.many_stops.proofs.room_left.RoomStays.{bad_is_not_free, closed_is_not_bad, flies_fewer, handed_mended}
use Rattle.many_stops.proofs.room_left.RoomStays.{kept_alike, mark_is_no_page, not_bad_after, shows_from, still_good}

module _ {t : Translation} (v : Valid t) (r : LeavesOwnRoom t) where
  -- A mark is programmed

  module _ (die : ℕ) (p : Place) (m : Mark) (job : t.disk.flights die ≡ Some (Programming p (MarkPage m))) where
    abbrev marked : Spot → BlockState
    marked = at_spot t.disk.blocks (spot_of p) (state_after t.numbers.pages p.page)

    mark_is : t.disk.blocks (spot_of p) ≡ Filling p.page
    mark_is = (v.flights.programs die p (MarkPage m) job).next

    abbrev put : Cells
    put = at_place t.disk.cells p (MarkPage m)

    marked_bad : (s : Spot) → is_bad (marked s) ≡ is_bad (t.disk.blocks s)
    marked_bad = bad_stays t.disk.blocks (spot_of p) (state_after t.numbers.pages p.page) (filling_is_not_bad mark_is)
        (not_bad_after t.numbers.pages p.page)

    -- the plan that is under way is of a bad block
    abbrev IsOfBad : Type 0
    IsOfBad = (pl : Plan) × (t.work.plan ≡ Some pl) × (t.disk.blocks pl.victim ≡ Bad)

    -- once something is handed out, the mark is one of a plan
    its_plan : HasHandedOut t → (pl : Plan) × (t.work.plan ≡ Some pl)
    its_plan handed = r.planned (handed_mended v handed) _ (v.flights.mark die p m job).step_is

    mark_handed : IsHandedOut (before_accepted t.ledger) t.ledger.standing put (at_die t.disk.flights p.die None) →
        HasHandedOut t
    mark_handed (inl s) = inl s
    mark_handed (inr (inl f)) = inr (inl (flies_fewer (ended_fewer t.disk.flights p.die) f))
    mark_handed (inr (inr c)) = inr (shows_from
        (λ q other bytes e. ⊎_elim (λ k. absurd (mark_is_no_page (sym k.1 ∙ e))) (λ k. inl (sym k.1 ∙ e))
        (at_place_cases t.disk.cells p (MarkPage m) q)) c)

    abbrev LeftBy : (Spot → BlockState) → Type 0
    LeftBy blocks = LeavesRoom t.numbers (before_accepted t.ledger) t.ledger.standing put blocks
        (at_die t.disk.flights p.die None) (is_mended (mending_after t.work.mending)) None None

    -- a block more is free, or the plan was of a bad block and as many are
    mark_leaves_with : (blocks : Spot → BlockState) → ((s : Spot) → is_bad (blocks s) ≡ is_bad (t.disk.blocks s)) →
        (HasHandedOut t → (1 + count_blocks t is_free ≤ free_count t.numbers blocks)
        ⊎ ((count_blocks t is_free ≤ free_count t.numbers blocks) × IsOfBad)) → LeftBy blocks
    mark_leaves_with blocks bad free = record {
      one_die = λ d e q z a b x y h k s. r.one_die d e q z a b x y
          (ended_fewer t.disk.flights p.die d q (GroupPage a x) h)
          (ended_fewer t.disk.flights p.die e z (GroupPage b y) k) s;
      copied = λ name from there e. absurd (none-some _ e);
      planned = λ mended s e. absurd (none-some s e);
      gains = λ pl e. absurd (none-some pl e);
      room = λ h.
          let handed = mark_handed h in
          record {
            any = inl (⊎_elim (λ more. with_more more (r.room handed).any) (λ k. of_bad k.0 k.1 handed) (free handed));
            bad = λ is. absurd (false≢true is);
          };
    }
      where
        alike : kept_room t.numbers blocks ≡ kept_room t.numbers t.disk.blocks
        alike = kept_alike t.numbers t.disk.blocks blocks (bad_alike t.numbers t.disk.blocks blocks bad)

        with_more : 1 + count_blocks t is_free ≤ free_count t.numbers blocks →
            (kept_room t.numbers t.disk.blocks ≤ count_blocks t is_free)
            ⊎ IsOneShort t.numbers t.disk.blocks t.disk.flights t.work.step t.work.plan →
            kept_room t.numbers blocks ≤ free_count t.numbers blocks
        with_more more (inl l) = let k = alike in omega (arith, k, l, more)
        with_more more (inr o) = let k = alike in let l = o.short in omega (arith, k, l, more)

        of_bad : count_blocks t is_free ≤ free_count t.numbers blocks → IsOfBad → HasHandedOut t →
            kept_room t.numbers blocks ≤ free_count t.numbers blocks
        of_bad more b handed =
            let k = alike in
            let l = ((r.room handed).bad (ap (is_plan_of_bad t.disk.blocks) b.1 ∙ ap is_bad b.2)).kept in
            omega (arith, k, l, more)

    abbrev freed_with : Option Plan → Spot → BlockState
    freed_with o = (freed (programmed t.numbers.pages t.disk p (MarkPage m)) o).blocks

    pub mark_leaves : LeavesOwnRoom (mark_written t p m)
    mark_leaves = by t.work.plan refl
      where
        with_flights : (o : Option Plan) → LeftBy (freed_with o) →
            LeavesRoom t.numbers (before_accepted t.ledger) t.ledger.standing
            (freed (programmed t.numbers.pages t.disk p (MarkPage m)) o).cells (freed_with o)
            (freed (programmed t.numbers.pages t.disk p (MarkPage m)) o).flights
            (is_mended (mending_after t.work.mending)) None None
        with_flights None h = h
        with_flights (Some pl) h = h

        same_bad : (x : BlockState) → is_bad (freed_state x) ≡ is_bad x
        same_bad Bad = refl
        same_bad Free = refl
        same_bad Closed = refl
        same_bad (Filling next) = refl

        freed_good : (x : BlockState) → x ≢ Bad → freed_state x ≡ Free
        freed_good Bad h = absurd (h refl)
        freed_good x h = refl

        freed_bad : (pl : Plan) (s : Spot) → is_bad (freed_with (Some pl) s) ≡ is_bad (t.disk.blocks s)
        freed_bad pl s = ⊎_elim
            (λ k. ap is_bad k.1 ∙ same_bad (marked pl.victim) ∙ marked_bad pl.victim
            ∙ ap (λ z. is_bad (t.disk.blocks z)) (sym k.0)) (λ k. ap is_bad k.1 ∙ marked_bad s)
            (at_spot_cases marked pl.victim (freed_state (marked pl.victim)) s)

        -- what was free is
        stay : (s : Spot) → t.disk.blocks s ≡ Free → marked s ≡ Free
        stay s h = others_free t.disk.blocks (spot_of p) (state_after t.numbers.pages p.page)
            (λ free. free_is_not_filling free mark_is) s h

        now : (pl : Plan) → t.disk.blocks pl.victim ≡ Closed → freed_state (marked pl.victim) ≡ Free
        now pl closed = freed_good (marked pl.victim)
            (still_good t.disk.blocks (spot_of p) (state_after t.numbers.pages p.page) pl.victim
            (not_bad_after t.numbers.pages p.page) (closed_is_not_bad closed))

        of_good : (pl : Plan) → t.work.plan ≡ Some pl → t.disk.blocks pl.victim ≡ Closed →
            1 + count_blocks t is_free ≤ free_count t.numbers (freed_with (Some pl))
        of_good pl is closed =
            one_more t.numbers t.disk.blocks (freed_with (Some pl)) pl.victim (r.gains pl is).inside
            (λ s on h. ⊎_elim (λ k. k.1 ∙ now pl closed) (λ k. k.1 ∙ stay s h)
            (at_spot_cases marked pl.victim (freed_state (marked pl.victim)) s)) (closed_is_not_free closed)
            (⊎_elim (λ k. k.1 ∙ now pl closed) (λ k. absurd (k.0 refl))
            (at_spot_cases marked pl.victim (freed_state (marked pl.victim)) pl.victim))

        of_worse : (pl : Plan) → t.disk.blocks pl.victim ≡ Bad →
            count_blocks t is_free ≤ free_count t.numbers (freed_with (Some pl))
        of_worse pl bad = no_fewer t.numbers t.disk.blocks (freed_with (Some pl))
            (λ s on h. ⊎_elim (λ k. absurd (bad_is_not_free bad (sym (ap t.disk.blocks k.0) ∙ h))) (λ k. k.1 ∙ stay s h)
            (at_spot_cases marked pl.victim (freed_state (marked pl.victim)) s))

        of_plan : (pl : Plan) → t.work.plan ≡ Some pl → LeftBy (freed_with (Some pl))
        of_plan pl is = mark_leaves_with (freed_with (Some pl)) (freed_bad pl)
            (λ handed. ⊎_elim (λ closed. inl (of_good pl is closed)) (λ bad. inr (of_worse pl bad, (pl, is, bad)))
            (v.plan.one pl is).state)

        by : (o : Option Plan) → t.work.plan ≡ o →
            LeavesRoom t.numbers (before_accepted t.ledger) t.ledger.standing
            (freed (programmed t.numbers.pages t.disk p (MarkPage m)) o).cells (freed_with o)
            (freed (programmed t.numbers.pages t.disk p (MarkPage m)) o).flights
            (is_mended (mending_after t.work.mending)) None None
        by None is = with_flights None (mark_leaves_with (freed_with None) marked_bad
            (λ handed. absurd (let pl = its_plan handed in none-some pl.0 (sym is ∙ pl.1))))
        by (Some pl) is = with_flights (Some pl) (of_plan pl is)
