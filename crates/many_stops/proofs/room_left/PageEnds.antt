-- A page that was programmed leaves the room: that of a group gives back what it took, and that of a step takes one of
-- those that its plan needs.
use Rattle.many_stops.proofs.Common.{Bad, BlockState, Bool, Cells, CopyStep, Filling, Flight, Flights, GroupPage}
use Rattle.many_stops.proofs.Common.{HasHandedOut, IsHandedOut, LeavesOwnRoom, LeavesRoom, List, MarkStep, Name, None}
use Rattle.many_stops.proofs.Common.{Option, Place, Plan, Programming, RepairStep, Some, Spot, Standing, Step, StepKind}
use Rattle.many_stops.proofs.Common.{StepKindRight, Tag, Translation, Valid, ap, arith, at_die, at_die_cases, at_place}
use Rattle.many_stops.proofs.Common.{at_place_cases, at_spot, at_spot_cases, before_accepted, book, count_blocks}
use Rattle.many_stops.proofs.Common.{ended_fewer, false, false≢true, filling_is_not_bad, free_count}
use Rattle.many_stops.proofs.Common.{free_is_not_filling, if◌then◌else◌, inl, inr, is_bad, is_free, is_kind_of}
use Rattle.many_stops.proofs.Common.{is_mended, length, name_of, none-some, page_of_group, page_written, pages_of_plan}
use Rattle.many_stops.proofs.Common.{programs_name, refl, room_on_dies, spot_of, state_after, step_after, subst, sym}
use Rattle.many_stops.proofs.Common.{true, true≢false, ℕ, ⊎_elim, ◌+◌, ◌-◌, ◌<◌, ◌∙◌, ◌≡◌, ◌≢◌, ◌≤◌}
use Rattle.ufs_spec.proofs.Updates.{at_name_cases}
use Rattle.ufs_spec.specs.Ledger.{at_name}
use Rattle.many_stops.specs.RoomOfGroups.{open_room, pages_of_copy, room_on}
use Rattle.many_stops.proofs.CountedBlocks.{bad_stays, none_fewer}
use Rattle.many_stops.proofs.room_left.RoomInOpenBlocks.{die_room, other_dies, program_takes, rooms_less}
use Rattle.many_stops.proofs.room_left.RoomStays.{IsNoLess, flies_fewer, handed_mended, kind_name, shows_from}
use Rattle.many_stops.proofs.room_left.RoomStays.{not_bad_after, room_stays, same_pages}

module _ {t : Translation} (v : Valid t) (r : LeavesOwnRoom t) where
  -- A page is programmed

  module _ (die : ℕ) (p : Place) (tag : Tag) (body : List ℕ)
      (job : t.disk.flights die ≡ Some (Programming p (GroupPage tag body))) where
    abbrev filled_blocks : Spot → BlockState
    filled_blocks = at_spot t.disk.blocks (spot_of p) (state_after t.numbers.pages p.page)

    abbrev ended_flights : Flights
    ended_flights = at_die t.disk.flights p.die None

    abbrev stood : Standing
    stood = at_name t.ledger.standing (name_of tag) (Some p)

    page_is : t.disk.blocks (spot_of p) ≡ Filling p.page
    page_is = (v.flights.programs die p (GroupPage tag body) job).next

    page_within_block : p.page < t.numbers.pages
    page_within_block = (v.flights.programs die p (GroupPage tag body) job).place.page

    page_home : p.die ≡ die
    page_home = (v.flights.programs die p (GroupPage tag body) job).at_home

    abbrev put : Cells
    put = at_place t.disk.cells p (GroupPage tag body)

    -- as the block was good and is, the same blocks are bad
    page_bad : (s : Spot) → is_bad (filled_blocks s) ≡ is_bad (t.disk.blocks s)
    page_bad = bad_stays t.disk.blocks (spot_of p) (state_after t.numbers.pages p.page) (filling_is_not_bad page_is)
        (not_bad_after t.numbers.pages p.page)

    page_free : count_blocks t is_free ≤ free_count t.numbers filled_blocks
    page_free = none_fewer t.numbers t.disk.blocks (spot_of p) (state_after t.numbers.pages p.page)
        (λ free. free_is_not_filling free page_is)

    -- the page that is put is the one that was being programmed
    job_at : (q : Place) (other : Tag) (bytes : List ℕ) → q ≡ p → GroupPage tag body ≡ GroupPage other bytes →
        t.disk.flights die ≡ Some (Programming q (GroupPage other bytes))
    job_at q other bytes at same = job ∙ (λ i. Some (Programming (sym at i) (same i)))

    -- a page that ended was in flight
    page_handed : IsHandedOut (before_accepted t.ledger) stood put ended_flights → HasHandedOut t
    page_handed (inl s) = ⊎_elim
        (λ k. inr (inl (record {
          die = die;
          place = p;
          tag = tag;
          body = body;
          behind = let e = k.0 in let l = s.behind in omega (arith, e, l);
          flies = job;
        })))
        (λ k. inl (record {
          number = s.number;
          index = s.index;
          place = s.place;
          behind = s.behind;
          stands = sym k.1 ∙ s.stands;
        })) (at_name_cases t.ledger.standing (name_of tag) (Some p) s.number s.index)
    page_handed (inr (inl f)) = inr (inl (flies_fewer (ended_fewer t.disk.flights p.die) f))
    page_handed (inr (inr c)) = inr (shows_from
        (λ q other bytes e. ⊎_elim (λ k. inr (die, job_at q other bytes k.0 (sym k.1 ∙ e)))
        (λ k. inl (sym k.1 ∙ e)) (at_place_cases t.disk.cells p (GroupPage tag body) q)) c)

    -- a name that stood stands
    page_stands_still : (name : Name) → (q : Place) × (t.ledger.standing name.number name.index ≡ Some q) →
        (q : Place) × (stood name.number name.index ≡ Some q)
    page_stands_still name (q, is) = ⊎_elim (λ k. (p, k.2)) (λ k. (q, k.1 ∙ is))
        (at_name_cases t.ledger.standing (name_of tag) (Some p) name.number name.index)

    page_leaves_with : (now : Option Step) → ((s : Step) → now ≡ Some s → t.work.step ≡ Some s) →
        pages_of_copy now ≤ pages_of_copy t.work.step →
        (HasHandedOut t → IsNoLess t.numbers t.disk.blocks filled_blocks t.disk.flights ended_flights t.work.step now
        t.work.plan) →
        LeavesRoom t.numbers (before_accepted t.ledger) stood put filled_blocks ended_flights
        (is_mended t.work.mending) now t.work.plan
    page_leaves_with now keeps copies room = record {
      one_die = λ d e q z a b x y h k s. r.one_die d e q z a b x y
          (ended_fewer t.disk.flights p.die d q (GroupPage a x) h)
          (ended_fewer t.disk.flights p.die e z (GroupPage b y) k) s;
      copied = λ name from there e. page_stands_still name (r.copied name from there (keeps _ e));
      planned = λ mended s e. r.planned mended s (keeps s e);
      gains = λ pl e.
          let g = r.gains pl e in
          record {
            inside = g.inside;
            most = less (length pl.copies) _ _ _ g.most copies;
            less = λ good. less (length pl.copies) _ _ _ (g.less (was_good pl.victim good)) copies;
          };
      room = λ h.
          let handed = page_handed h in
          room_stays t.numbers t.disk.blocks filled_blocks t.disk.flights ended_flights t.work.step now t.work.plan
          page_bad page_free (room handed) (r.room handed);
    }
      where
        was_good : (s : Spot) → filled_blocks s ≢ Bad → t.disk.blocks s ≢ Bad
        was_good s good bad = good (⊎_elim (λ k. absurd (filling_is_not_bad page_is (ap t.disk.blocks (sym k.0) ∙ bad)))
            (λ k. k.1 ∙ bad) (at_spot_cases t.disk.blocks (spot_of p) (state_after t.numbers.pages p.page) s))

        less : (a b c d : ℕ) → a + b + 1 ≤ d → c ≤ b → a + c + 1 ≤ d
        less a b c d l k = omega (arith, l, k)

    -- on other dies nothing changes but what the step programs
    other_room : (now : Option Step) →
        ((d : ℕ) → d ≢ die → page_of_group now (t.disk.flights d) ≤ page_of_group t.work.step (t.disk.flights d)) →
        (d : ℕ) → d ≢ p.die → room_on t.numbers t.disk.blocks t.work.step t.disk.flights d ≤
        room_on t.numbers filled_blocks now ended_flights d
    other_room now pages d other =
        let rooms = other_dies t.numbers t.disk.blocks (spot_of p) (state_after t.numbers.pages p.page) d other in
        let same : page_of_group now (ended_flights d) ≡ page_of_group now (t.disk.flights d) =
        ⊎_elim (λ k. absurd (other k.0)) (λ k. ap (page_of_group now) k.1) (at_die_cases t.disk.flights p.die None d) in
        let taken = pages d (λ e. other (e ∙ sym page_home)) in
        minus _ _ _ _ _ rooms same taken
      where
        minus : (a b c d e : ℕ) → a ≤ b → d ≡ e → e ≤ c → a - c ≤ b - d
        minus a b c d e l s k = omega (arith, l, s, k)

    here_now : (now : Option Step) → page_of_group now (ended_flights p.die) ≡ 0
    here_now now = ⊎_elim (λ k. ap (page_of_group now) k.1) (λ k. absurd (k.0 refl))
        (at_die_cases t.disk.flights p.die None p.die)

    here_room : die_room t.numbers t.disk.blocks p.die ≤ 1 + die_room t.numbers filled_blocks p.die
    here_room = program_takes t.numbers t.disk.blocks p page_within_block page_is

    job_here : t.disk.flights p.die ≡ Some (Programming p (GroupPage tag body))
    job_here = ap t.disk.flights page_home ∙ job

    -- the page of a group gives back the room that it took
    groups_room : programs_name t.work.step (name_of tag) ≡ false →
        room_on_dies t.numbers t.disk.blocks t.work.step t.disk.flights ≤
        room_on_dies t.numbers filled_blocks t.work.step ended_flights
    groups_room other = without _ _
        (rooms_less t.numbers 0 p.die t.disk.blocks filled_blocks t.work.step t.work.step t.disk.flights ended_flights
        (other_room t.work.step (λ d apart. omega arith))
        (let one : page_of_group t.work.step (t.disk.flights p.die) ≡ 1 =
        ap (page_of_group t.work.step) job_here ∙ ap (λ b. if b then 0 else 1) other in
        back _ _ _ _ here_room one (here_now t.work.step)))
      where
        without : (a b : ℕ) → a ≤ 0 + b → a ≤ b
        without a b l = omega (arith, l)

        back : (a b c d : ℕ) → a ≤ 1 + b → c ≡ 1 → d ≡ 0 → a - c ≤ 0 + (b - d)
        back a b c d l e z = omega (arith, l, e, z)

    group_ends : step_after (name_of tag) t.work.step ≡ t.work.step →
        programs_name t.work.step (name_of tag) ≡ false → LeavesOwnRoom (page_written t p tag body)
    group_ends same other = subst
        (λ now. LeavesRoom t.numbers (before_accepted t.ledger) stood put filled_blocks ended_flights
        (is_mended t.work.mending) now t.work.plan) (sym same)
        (page_leaves_with t.work.step (λ s e. e) (omega arith)
        (λ handed. same_pages _ _ _ _ (omega arith) (groups_room other)))

    -- the page of the step takes one of its plan
    module _ (s : Step) (is : t.work.step ≡ Some s) (of : is_kind_of (name_of tag) s.kind ≡ true) where
      other_pages : (d : ℕ) → d ≢ die →
          page_of_group None (t.disk.flights d) ≤ page_of_group t.work.step (t.disk.flights d)
      other_pages d other = by (t.disk.flights d) refl
        where
          one : (b : Bool) → b ≡ false → 1 ≤ (if b then 0 else 1)
          one b e = let k = ap {B = ℕ} (λ (z : Bool). if z then 0 else 1) e in omega (arith, k)

          unnamed : (q : Place) (b : Tag) (y : List ℕ) → t.disk.flights d ≡ Some (Programming q (GroupPage b y)) →
              (x : Bool) → is_kind_of (name_of b) s.kind ≡ x → x ≡ false
          unnamed q b y h true k = absurd (other
              (r.one_die d die q p b tag y body h job (kind_name (name_of b) (name_of tag) s.kind k of)))
          unnamed q b y h false k = refl

          by : (o : Option Flight) → t.disk.flights d ≡ o → page_of_group None o ≤ page_of_group t.work.step o
          by (Some (Programming q (GroupPage b y))) h = one (programs_name t.work.step (name_of b))
              (ap (λ z. programs_name z (name_of b)) is
              ∙ unnamed q b y h (is_kind_of (name_of b) s.kind) refl)
          by o h = omega arith

      steps_room : room_on_dies t.numbers t.disk.blocks t.work.step t.disk.flights ≤
          1 + room_on_dies t.numbers filled_blocks None ended_flights
      steps_room =
          rooms_less t.numbers 1 p.die t.disk.blocks filled_blocks t.work.step None t.disk.flights ended_flights
          (other_room None other_pages) (took _ _ _ _ here_room (here_now None))
        where
          took : (a b c d : ℕ) → a ≤ 1 + b → d ≡ 0 → a - c ≤ 1 + (b - d)
          took a b c d l z = omega (arith, l, z)

      copies_one : HasHandedOut t → (kind : StepKind) → s.kind ≡ kind → pages_of_copy t.work.step ≡ 1
      copies_one handed (MarkStep number fence) k = absurd (false≢true (sym (ap (is_kind_of (name_of tag)) k) ∙ of))
      copies_one handed (CopyStep name from) k = ap pages_of_copy is ∙ ap (λ z. pages_of_copy (Some (record {
        kind = z;
        there = s.there;
      }))) k
      copies_one handed (RepairStep name from) k =
          let right : StepKindRight (book t) t.ledger.marks t.disk.cells t.work.mending t.work.plan
          (RepairStep name from) =
          subst (StepKindRight (book t) t.ledger.marks t.disk.cells t.work.mending t.work.plan) k (v.step.kind s is) in
          absurd (true≢false (sym (handed_mended v handed) ∙ ap is_mended right.1))

      fits_still : HasHandedOut t → IsNoLess t.numbers t.disk.blocks filled_blocks t.disk.flights ended_flights
          t.work.step None t.work.plan
      fits_still handed more fits = by t.work.plan fits
        where
          by : (o : Option Plan) → pages_of_plan o t.work.step ≤ open_room t + more →
              pages_of_plan o None ≤ room_on_dies t.numbers filled_blocks None ended_flights + more
          by None l = omega arith
          by (Some pl) l =
              less (length pl.copies) _ _ _ more l (copies_one handed s.kind refl) steps_room
            where
              less : (a b c d more : ℕ) → a + b + 1 ≤ c + more → b ≡ 1 → c ≤ 1 + d → a + 0 + 1 ≤ d + more
              less a b c d more l e k = omega (arith, l, e, k)

      step_ends : step_after (name_of tag) t.work.step ≡ None → LeavesOwnRoom (page_written t p tag body)
      step_ends over = subst
          (λ now. LeavesRoom t.numbers (before_accepted t.ledger) stood put filled_blocks ended_flights
          (is_mended t.work.mending) now t.work.plan) (sym over)
          (page_leaves_with None (λ x e. absurd (none-some x e)) (omega arith) fits_still)

    pub page_leaves : LeavesOwnRoom (page_written t p tag body)
    page_leaves = by t.work.step refl
      where
        of_step : (s : Step) → t.work.step ≡ Some s → (b : Bool) → is_kind_of (name_of tag) s.kind ≡ b →
            LeavesOwnRoom (page_written t p tag body)
        of_step s is true of = step_ends s is of
            (ap (step_after (name_of tag)) is ∙ ap (λ b. if b then None else Some s) of)
        of_step s is false of = group_ends
            (ap (step_after (name_of tag)) is ∙ ap (λ b. if b then None else Some s) of ∙ sym is)
            (ap (λ z. programs_name z (name_of tag)) is ∙ of)

        by : (o : Option Step) → t.work.step ≡ o → LeavesOwnRoom (page_written t p tag body)
        by None is = group_ends (ap (step_after (name_of tag)) is ∙ sym is) (ap (λ z. programs_name z (name_of tag)) is)
        by (Some s) is = of_step s is (is_kind_of (name_of tag) s.kind) refl
