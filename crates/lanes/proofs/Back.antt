-- The core is put back after a step, and the rule is kept.
use Rattle.lanes.proofs.Common.{Allows, Apart, AtHome, DeviceCore, DieState, Entry, Fits, IsLegal, IsOut, IsStart, Kept}
use Rattle.lanes.proofs.Common.{Knows, LaneView, Legal, List, Made, Meets, None, Opening, Option, Some, State, Stepped}
use Rattle.lanes.proofs.Common.{View, WorldState, [], ap, append-nil, arith, die_at, false, inl, job_at, length, mine}
use Rattle.lanes.proofs.Common.{new_die, refl, set, set_else, set_here, step_by, subst, sym, true, ℕ, ⊎_elim, ◌++◌, ◌<◌}
use Rattle.lanes.proofs.Common.{◌∙◌, ◌∷◌, ◌≡◌, ◌≢◌, ◌≤◌}
use Rattle.std.proofs.Common.{get_or-set_other, get_or-set_same, length-set}
use mathlib.Core.Option as maybe
use lib.ListN.{get_elem?}
use mathlib.Core.Logic.{dite}
use native.Mathlib.Decide.{ℕ_discrete}
use Rattle.atomic_table.specs.Table as table
use Rattle.atomic_table.specs.Table.{gives}
use Rattle.ufs_spec.specs.Dies.{CanDo}
use Rattle.device.proofs.dies_of_world.WentRight.{finish_can}
use Rattle.lanes.specs.Rule.{AgreesIf, CanWork, Deals, IsLegalIf, SameDie, placed}
use Rattle.lanes.proofs.Growing.{begins_more, legal_more, mine-other}
use Rattle.lanes.proofs.Opened.{begins}
use Rattle.lanes.proofs.Moves.{apart_flip, each_set, none_home, some_not_none, some_one, true_false, two_set}

module _ {D : Type 0} (state : D → DieState) where
  -- who holds the core is the one that the rule says
  holder_is : (opening : Opening D) (s : table.State DeviceCore (View D)) (id : ℕ) (v : View D) (before : DeviceCore)
      (k : Kept state opening s) → get_elem? s.views id ≡ maybe.some v → v.held ≡ Some before
      → (v.seen ≡ k.list) × (k.world.core ≡ before)
  holder_is opening s id v before k at has =
      ⊎_elim
      (λ (home : AtHome s k.world.core). absurd (none_home state s k.world.core id v before home at has))
      (λ (out : IsOut s k.list k.world.core). dite (ℕ_discrete id out.holder) (same out) (λ apart. absurd
      (some_not_none v.held before has (out.others id v at apart))))
      k.place
    where
      same : (out : IsOut s k.list k.world.core) → id ≡ out.holder → (v.seen ≡ k.list) × (k.world.core ≡ before)
      same out is =
          let one : out.view ≡ v = maybe.some-injective _ _ (sym out.there ∙ ap (get_elem? s.views) (sym is) ∙ at) in (
            ap (λ (u : View D). u.seen) (sym one) ∙ out.all_seen,
            some_one _ _ (sym out.held
                ∙ ap (λ (u : View D). u.held) one ∙ has),
          )

  -- no other seat has it
  others_rest : (opening : Opening D) (s : table.State DeviceCore (View D)) (id : ℕ) (v : View D) (before : DeviceCore)
      (k : Kept state opening s) → get_elem? s.views id ≡ maybe.some v → v.held ≡ Some before
      → (j : ℕ) (u : View D) → j ≢ id → get_elem? s.views j ≡ maybe.some u → u.held ≡ None
  others_rest opening s id v before k at has j u apart there =
      ⊎_elim
      (λ (home : AtHome s k.world.core). home.none j u there)
      (λ (out : IsOut s k.list k.world.core). dite (ℕ_discrete id out.holder) (λ is. out.others j u there (λ e. apart
      (e ∙ sym is))) (λ other. absurd (some_not_none v.held before has (out.others id v at other))))
      k.place

  -- the longer list leads to the core and the dies as they are then
  leads_more : (opening : Opening D) (list : List Entry) (w : WorldState) (before after : DeviceCore) (by : ℕ) (step :
      Made) (lane lane' : Option (LaneView D))
      → ((start : State) → IsStart state opening start → (now : State) × Legal start list now × Fits w now)
      → w.core ≡ before → AgreesIf state w lane → Meets state before step after lane lane'
      → (start : State) → IsStart state opening start → (now : State)
      × Legal start (list ++ step_by by step ∷ []) now × Fits (placed state w after lane') now
  leads_more opening list w before after by step lane lane' leads core agrees meets start opened =
      let l = leads start opened in
      let next = meets.leads w core agrees l.0 l.2 in
      (next.0, legal_more start l.0 next.0 list (step_by by step) l.1 next.1, next.2)

  -- another lane's die is as it was
  agrees_other : (w : WorldState) (after : DeviceCore) (lane' mine' : Option (LaneView D)) → ((l m : LaneView D) →
      lane' ≡ Some l → mine' ≡ Some m → l.die ≢ m.die) → AgreesIf state w mine' →
      AgreesIf state (placed state w after lane') mine'
  agrees_other w after lane' None apart a = tt
  agrees_other w after None (Some m) apart a = record {
    there = a.there;
    has_job = a.has_job;
    content = a.content;
    job
        = a.job;
  }
  agrees_other w after (Some l) (Some m) apart a =
      let other : m.die ≢ l.die = λ e. apart l m refl refl (sym e) in record {
        there = subst (λ n. m.die < n) (sym (length-set w.dies l.die (state l.content))) a.there;
        has_job = subst (λ n. m.die < n) (sym (length-set w.jobs l.die l.job)) a.has_job;
        content = get_or-set_other w.dies l.die m.die (state l.content) (new_die 0 0) other ∙ a.content;
        job = get_or-set_other w.jobs l.die m.die l.job None other ∙ a.job;
      }

  -- the own die is as the lane says
  agrees_own : (w : WorldState) (after : DeviceCore) (lane lane' : Option (LaneView D)) → SameDie lane lane' →
      AgreesIf state w lane → AgreesIf state (placed state w after lane') lane'
  agrees_own w after None None same a = tt
  agrees_own w after (Some l) (Some m) same a =
      let there : m.die < length w.dies = subst (λ n. n < length w.dies) (sym same) a.there in
      let has_job : m.die < length w.jobs = subst (λ n. n < length w.jobs) (sym same) a.has_job in record {
        there = subst (λ n. m.die < n) (sym (length-set w.dies m.die (state m.content))) there;
        has_job = subst (λ n. m.die < n) (sym (length-set w.jobs m.die m.job)) has_job;
        content = get_or-set_same w.dies m.die (state m.content) (new_die 0 0) there;
        job = get_or-set_same w.jobs m.die m.job None has_job;
      }
  agrees_own w after None (Some m) same a = absurd same
  agrees_own w after (Some l) None same a = absurd same

  -- a lane that has a die after a step had it before
  had_die : (lane lane' : Option (LaneView D)) (l : LaneView D) → SameDie lane lane' → lane' ≡ Some l →
      (o : LaneView D) × (lane ≡ Some o) × (l.die ≡ o.die)
  had_die None None l same is = absurd (cc)
  had_die (Some o) (Some m) l same is = (o, refl, ap (λ (x : LaneView D). x.die) (sym (some_one m l is)) ∙ same)
  had_die None (Some m) l same is = absurd same
  had_die (Some o) None l same is = absurd same

  placed_many : (w : WorldState) (after : DeviceCore) (lane' : Option (LaneView D)) (n : ℕ) → (length w.dies ≡ n)
      × (length w.jobs ≡ n)
      → (length (placed state w after lane').dies ≡ n) × (length (placed state w after lane').jobs ≡ n)
  placed_many w after None n same = same
  placed_many w after (Some l) n same = (
    length-set w.dies l.die (state l.content)
        ∙ same.0,
    length-set w.jobs l.die l.job ∙ same.1,
  )

  -- dies beyond the lanes are as they were
  placed_beyond : (w : WorldState) (after : DeviceCore) (lane' : Option (LaneView D)) (n : ℕ) → ((l : LaneView D) →
      lane' ≡ Some l → n ≢ l.die)
      → (die_at (placed state w after lane').dies n ≡ die_at w.dies n)
      × (job_at (placed state w after lane').jobs n ≡ job_at w.jobs n)
  placed_beyond w after None n apart = (refl, refl)
  placed_beyond w after (Some l) n apart = (
    get_or-set_other w.dies l.die n (state l.content) (new_die 0 0) (apart l
        refl),
    get_or-set_other w.jobs l.die n l.job None (apart l refl),
  )

  placed_core : (w : WorldState) (after : DeviceCore) (lane' : Option (LaneView D)) →
      (placed state w after lane').core ≡ after
  placed_core w after None = refl
  placed_core w after (Some l) = refl

  -- the seat that deals is not the one that steps
  deals_more : (opening : Opening D) (views : List (View D)) (list : List Entry) (w : WorldState) (after : DeviceCore)
      (id : ℕ) (v new : View D) (step : Made)
      → get_elem? views id ≡ maybe.some v → v.steps ≡ true → new.steps ≡ v.steps → new.by ≡ v.by →
      SameDie v.lane new.lane
      → Deals state opening views list w →
      Deals state opening (set views id new) (list ++ step_by v.by step ∷ []) (placed state w after new.lane)
  deals_more opening views list w after id v new step at steps same_steps same_by same d =
      let not_first : 0 ≢ id = λ e. true_false v.steps steps (ap (λ (u : View D). u.steps) (maybe.some-injective _ _
      (sym at ∙ ap (get_elem? views) (sym e) ∙ d.there)) ∙ d.no_steps) in
      let own_below = d.below id v at steps in
      let own_die : (l : LaneView D) → new.lane ≡ Some l →
      d.dealer.lanes ≤ l.die = λ l is. let o = had_die v.lane new.lane l same is in subst (λ n. d.dealer.lanes ≤ n)
      (sym o.2) (d.dies_above id v o.0 at o.1) in record {
        dealer = d.dealer;
        there = set_else views id 0 new not_first ∙ d.there;
        no_steps = d.no_steps;
        opened = d.opened;
        below = each_set (λ k u. u.steps ≡ true →
            u.by < d.dealer.numbers) views id new (λ k u apart there. d.below k u there) (λ _. subst (λ n. n <
            d.dealer.numbers) (sym same_by) own_below);
        unused = λ n far. mine-other v.by n step list (λ e. absurd (omega arith)) ∙ d.unused n far;
        dies_above = λ k u l there is. each_set (λ k u. (l : LaneView D) → u.lane ≡ Some l →
            d.dealer.lanes ≤ l.die) views id new (λ k u apart there l is. d.dies_above k u l there is) own_die k u
            there l is;
        undealt = λ n far. let b = placed_beyond w after new.lane n (λ l is e. let q = own_die l is in absurd (omega
            arith)) in let u = d.undealt n far in (b.0 ∙ u.0, b.1 ∙ u.1);
      }

  back_kept : (opening : Opening D) (s : table.State DeviceCore (View D)) (id : ℕ) (v : View D) (before after :
      DeviceCore) (step : Made) (lane' : Option (LaneView D)) (k : Kept state opening s)
      → get_elem? s.views id ≡ maybe.some v → v.steps ≡ true → v.held ≡ Some before → 0 < length s.homes →
      Meets state before step after v.lane lane'
      → Kept state opening (table.stepped s 0 0 id ((0, after) ∷ []) (record v {
        seen = v.seen ++ step_by v.by step ∷
            [];
        held = None;
        lane = lane';
        looks = false;
      }) gives)
  back_kept opening s id v before after step lane' k at steps has wide meets =
      let e : Entry = step_by v.by step in
      let w : View D = record v { seen = v.seen ++ e ∷ []; held = None; lane = lane'; looks = false } in
      let own = k.seats id v at in
      let is = holder_is opening s id v before k at has in record {
        list = k.list ++ e ∷ [];
        world = placed state k.world after lane';
        one_word = length-set s.words 0 0 ∙ k.one_word;
        opens = k.opens;
        leads = leads_more opening k.list k.world before after v.by step v.lane lane' k.leads is.1 own.agrees meets;
        as_many = placed_many k.world after lane' _ k.as_many;
        seats = each_set (λ j u. Knows state opening (k.list ++ e ∷ []) (placed state k.world after lane') u) s.views
            id w
            (λ j u apart there. let knows = k.seats j u there in let two = k.apart id j v u at there (λ x. apart (sym
            x)) in record {
              opened = knows.opened;
              begins = begins_more u.seen k.list e knows.begins;
              own = λ st. mine-other v.by u.by step k.list (two.numbers steps st) ∙ knows.own st;
              agrees = agrees_other k.world after lane' u.lane (λ l m il im. let o = had_die v.lane lane' l
                  meets.one_die il in λ x. two.dies o.0 m o.1 im (sym o.2 ∙ x)) knows.agrees;
              compared = knows.compared;
            })
            record {
              opened = own.opened;
              begins = ([], ap (λ (l : List Entry). l ++ e ∷ []) (sym is.0) ∙ sym (append-nil (v.seen ++ e ∷ [])));
              own = λ _. ap (λ (l : List Entry). mine v.by (l ++ e ∷ [])) (sym is.0);
              agrees = agrees_own k.world after v.lane lane' meets.one_die own.agrees;
              compared = λ looks. absurd (cc);
            };
        apart = two_set Apart s.views id w apart_flip k.apart (λ j u apart there. let a = k.apart id j v u at there (λ
            x. apart (sym x)) in record {
              numbers = a.numbers;
              dies = λ l m il im x. let o = had_die v.lane lane' l meets.one_die il in
                  a.dies o.0 m o.1 im (sym o.2 ∙ x);
            });
        deals = deals_more opening s.views k.list k.world after id v w step at steps refl refl meets.one_die k.deals;
        place = inl record {
          word = get_or-set_same s.words 0 0 0 (let one = k.one_word in omega arith);
          there = set_here s.homes 0 (maybe.some after) wide
              ∙ ap (λ (c : DeviceCore). maybe.some (maybe.some c)) (sym (placed_core k.world after lane'));
          none = each_set (λ j u. u.held ≡ None) s.views id w (λ j u apart there. others_rest opening s id v before k
              at has j u apart there) refl;
        };
      }

  -- the job that the lane has then may be asked of its die
  can_work : (w : WorldState) (t : State) (lane' : Option (LaneView D)) → Fits w t → AgreesIf state w lane' →
      CanWork state lane'
  can_work w t None fits a = tt
  can_work w t (Some l) fits a = λ j is. subst (λ (d : DieState). CanDo d j) a.content (finish_can w t l.die j fits
      (a.job ∙ is))

  -- the list that the seat has seen then is legal
  legal_told : (opening : Opening D) (list seen : List Entry) (e : Entry) (w : WorldState) → ((start : State) →
      IsStart state opening start → (now : State) × Legal start (list ++ e ∷ []) now × Fits w now)
      → seen ≡ list → IsLegal state opening (seen ++ e ∷ [])
  legal_told opening list seen e w leads same = λ start opened. let l = leads start opened in (
    l.0,
    subst (λ (es : List
        Entry). Legal start (es ++ e ∷ []) l.0) (sym same) l.1,
  )

  pub puts_back : (opening : Opening D) (slots id : ℕ) (v : View D) (before after : DeviceCore) (step : Made) (lane' :
      Option (LaneView D)) → 0 < slots → v.steps ≡ true → v.held ≡ Some before →
      Meets state before step after v.lane lane'
      → Allows (Kept state opening) slots id (v, (0, after) ∷ []) 0 (λ _. 0) (λ _. Stepped state v step lane')
  puts_back opening slots id v before after step lane' wide steps has meets s k slots_are at _ =
      let e : Entry = step_by v.by step in
      let own = k.seats id v at in
      let is = holder_is opening s id v before k at has in
      let leads = leads_more opening k.list k.world before after v.by step v.lane lane' k.leads is.1 own.agrees meets in
      let start = begins state opening k.opens in
      let first = leads start.0 start.1 in (
        record v { seen = v.seen ++ e ∷ []; held = None; lane = lane'; looks = false },
        gives,
        tt,
        back_kept opening s id v before after step lane' k at steps has (subst (λ n. 0 < n) (sym slots_are) wide) meets,
        (
          refl,
          subst (λ (o : Option (Opening D)). IsLegalIf state o (v.seen ++ e ∷ [])) (sym (own.opened steps)) (legal_told
              opening k.list v.seen e (placed state k.world after lane') leads is.0),
          can_work (placed state k.world after lane') first.0 lane' first.2 (agrees_own k.world after v.lane lane'
              meets.one_die own.agrees),
        ),
      )
