-- The table as it opens, and a seat that is dealt.
use Rattle.lanes.proofs.Common.{All, Apart, AtHome, DeviceCore, DieState, IsOpening, IsOut, Job, Kept, Knows, LaneView}
use Rattle.lanes.proofs.Common.{List, None, Opening, Option, Some, Splits, Undealt, View, WorldState, [], ap}
use Rattle.lanes.proofs.Common.{append_assoc, arith, die_at, false, inl, inr, job_at, length, length-replicate, map}
use Rattle.lanes.proofs.Common.{new_die, refl, set, set_else, set_here, slice_index_or, subst, suc, sym, true, zero, ℕ}
use Rattle.lanes.proofs.Common.{⊎_elim, ◌++◌, ◌+◌, ◌<◌, ◌∙◌, ◌∷◌, ◌≡◌, ◌≢◌, ◌≤◌}
use Rattle.std.proofs.Common.{◌-◌, ◌⊎◌}
use Rattle.std.specs.Prelude.{slice_get}
use Rattle.std.proofs.lemmas.List.{get_or-replicate}
use mathlib.Core.Option as maybe
use lib.ListN.{get_elem?}
use Rattle.atomic_table.specs.Table as table
use Rattle.atomic_table.proofs.Lists.{at_longer}
use Rattle.lanes.specs.Rule.{AgreesIf, first_view, lane_at, lane_dealt}
use Rattle.lanes.specs.Rule.{new_lane, new_lane_of, new_port, newcomer, opened_world, port_dealt}
use Rattle.lanes.proofs.Opened.{fits_first, length_kept}
use Rattle.lanes.proofs.Moves.{apart_flip, below, each_set, some_one, true_false, two_set}

-- what stands in a list with one more behind
pub at_more : {A : Type 0} (l : List A) (a b : A) (j : ℕ) → get_elem? (l ++ a ∷ []) j ≡ maybe.some b →
    (get_elem? l j ≡ maybe.some b) ⊎ ((j ≡ length l) × (a ≡ b))
at_more [] a b zero e = inr (refl, maybe.some-injective _ _ e)
at_more [] a b (suc j) e = absurd (maybe.some-ne-none b (sym e))
at_more (x ∷ xs) a b zero e = inl e
at_more (x ∷ xs) a b (suc j) e = ⊎_elim (λ t. inl t) (λ t. inr (ap suc t.0, t.1)) (at_more xs a b j e)

module _ {D : Type 0} where
  pub each_more : (P : View D → Type 0) (views : List (View D)) (new : View D) → ((k : ℕ) (v : View D) →
      get_elem? views k ≡ maybe.some v → P v) → P new → (k : ℕ) (v : View D) →
      get_elem? (views ++ new ∷ []) k ≡ maybe.some v → P v
  each_more P views new old one k v at = ⊎_elim (λ there. old k v there) (λ (t : (k ≡ length views)
      × (new ≡ v)). subst P t.1 one) (at_more views new v k at)

  pub two_more : (views : List (View D)) (new : View D) → ((j k : ℕ) (u v : View D) →
      get_elem? views j ≡ maybe.some u → get_elem? views k ≡ maybe.some v → j ≢ k → Apart u v)
      → ((k : ℕ) (v : View D) → get_elem? views k ≡ maybe.some v → Apart new v)
      → (j k : ℕ) (u v : View D) → get_elem? (views ++ new ∷ []) j ≡ maybe.some u →
      get_elem? (views ++ new ∷ []) k ≡ maybe.some v → j ≢ k → Apart u v
  two_more views new old one j k u v atj atk apart =
      ⊎_elim
      (λ (a : get_elem? views j ≡ maybe.some u).
      ⊎_elim (λ (b : get_elem? views k ≡ maybe.some v). old j k u v a b apart) (λ (b : (k ≡ length views)
      × (new ≡ v)). subst (λ z. Apart u z) b.1 (apart_flip new u (one j u a))) (at_more views new v k atk))
      (λ (a : (j ≡ length views) × (new ≡ u)).
      ⊎_elim (λ (b : get_elem? views k ≡ maybe.some v). subst (λ z. Apart z v) a.1 (one k v b)) (λ (b : (k ≡ length
      views) × (new ≡ v)). absurd (apart (a.0 ∙ sym b.0))) (at_more views new v k atk))
      (at_more views new u j atj)

module _ {D : Type 0} (state : D → DieState) where
  -- a seat is dealt
  dealt_kept : (opening : Opening D) (s : table.State DeviceCore (View D)) (v : View D) (lanes : ℕ) (l : Option
      (LaneView D)) (k : Kept state opening s) → get_elem? s.views 0 ≡ maybe.some v
      → lanes ≤ v.lanes → ((m : LaneView D) → l ≡ Some m → (lanes ≤ m.die) × (m.die < v.lanes)) →
      AgreesIf state k.world l
      → Kept state opening record {
        words = s.words;
        homes = s.homes;
        views = set s.views 0 (record v {
          numbers =
              v.numbers + 1;
          lanes = lanes;
        }) ++ newcomer v l ∷ [];
      }
  dealt_kept opening s v lanes l k at fewer between agrees =
      let d = k.deals in
      let same : v ≡ d.dealer = maybe.some-injective _ _ (sym at ∙ d.there) in
      let silent : v.steps ≡ false = ap (λ (u : View D). u.steps) same ∙ d.no_steps in
      let numbers : v.numbers ≡ d.dealer.numbers = ap (λ (u : View D). u.numbers) same in
      let had : v.lanes ≡ d.dealer.lanes = ap (λ (u : View D). u.lanes) same in
      let left : View D = record v { numbers = v.numbers + 1; lanes = lanes } in
      let right : View D = newcomer v l in
      let own = k.seats 0 v at in
      let views = set s.views 0 left in record {
        list = k.list;
        world = k.world;
        one_word = k.one_word;
        opens = k.opens;
        leads = k.leads;
        as_many = k.as_many;
        seats = each_more (Knows state opening k.list k.world) views right
            (each_set (λ j u. Knows state opening k.list k.world u) s.views 0 left (λ j u apart there. k.seats j u
            there)
            record {
              opened = own.opened;
              begins = own.begins;
              own = own.own;
              agrees = own.agrees;
              compared = λ looks.
                  let c = own.compared looks in record { before = c.before; other = c.other; same = c.same };
            })
            record {
              opened = λ _. ap (λ (u : View D). u.opening) same ∙ d.opened;
              begins = (k.list, refl);
              own = λ _. d.unused v.numbers (subst (λ n. d.dealer.numbers ≤ n) (sym numbers) (omega arith));
              agrees = agrees;
              compared = λ looks. absurd (cc);
            };
        apart = two_more views right
            (two_set Apart s.views 0 left apart_flip k.apart (λ j u apart there. let a = k.apart 0 j v u at there (λ e.
            apart (sym e)) in record { numbers = a.numbers; dies = a.dies }))
            (each_set (λ j u. Apart right u) s.views 0 left
            (λ j u apart there. record {
              numbers = λ _ st e. let b = d.below j u there st in absurd (omega arith);
              dies = λ m n is is' e. let b = (between m is).1 in let a = d.dies_above j u n there is' in absurd (omega
                  arith);
            })
            record {
              numbers = λ _ st e. absurd (true_false v.steps st silent);
              dies = λ m n is is' e. let b = (between m is).1 in let a = d.dies_above 0 v n at is' in absurd (omega
                  arith);
            });
        deals = record {
          dealer = left;
          there = at_longer views (right ∷ []) 0 left (set_here s.views 0 left (below s.views 0 v at));
          no_steps = silent;
          opened = ap (λ (u : View D). u.opening) same ∙ d.opened;
          below = each_more (λ u. u.steps ≡ true → u.by < v.numbers + 1) views right
              (each_set (λ j u. u.steps ≡ true →
              u.by < v.numbers + 1) s.views 0 left (λ j u apart there st. let b = d.below j u there st in omega
              arith) (λ st. absurd (true_false v.steps st silent)))
              (λ _. omega arith);
          unused = λ n far. d.unused n (omega arith);
          dies_above = λ j u m there is. each_more (λ u. (m : LaneView D) → u.lane ≡ Some m → lanes ≤ m.die) views right
              (each_set (λ j u. (m : LaneView D) → u.lane ≡ Some m →
              lanes ≤ m.die) s.views 0 left (λ j u apart there m is. let a = d.dies_above j u m there is in omega
              arith) (λ m is. let a = d.dies_above 0 v m at is in omega arith))
              (λ m is. (between m is).0) j u there m is;
          undealt = λ n near. d.undealt n (omega arith);
        };
        place =
            ⊎_elim
            (λ (home : AtHome s k.world.core). inl record {
              word = home.word;
              there = home.there;
              none = each_more (λ u. u.held ≡ None) views right (each_set (λ j u. u.held ≡ None) s.views 0 left (λ j u
                  apart there. home.none j u there) (home.none 0 v at)) refl;
            })
            (λ (out : IsOut s k.list k.world.core).
            let apart : out.holder ≢ 0 = λ e. true_false out.view.steps out.steps (ap (λ (u : View D). u.steps)
            (maybe.some-injective _ _ (sym out.there ∙ ap (get_elem? s.views) e ∙ at)) ∙ silent) in inr record {
              word = out.word;
              holder = out.holder;
              view = out.view;
              there = at_longer views (right ∷ []) out.holder out.view (set_else s.views 0 out.holder left apart
                  ∙ out.there);
              steps = out.steps;
              held = out.held;
              all_seen = out.all_seen;
              others = λ j u there other.
                  ⊎_elim
                  (λ (x : get_elem? views j ≡ maybe.some u). each_set (λ j u. j ≢ out.holder →
                  u.held ≡ None) s.views 0 left (λ j u apart there other. out.others j u there other) (λ other.
                  out.others 0 v at other) j u x other)
                  (λ (x : (j ≡ length views) × (right ≡ u)). subst (λ (z : View D). z.held ≡ None) x.1 refl)
                  (at_more views right u j there);
            })
            k.place;
      }

  pub deals_port : (opening : Opening D) (v : View D) → Splits (Kept state opening) 0 v (port_dealt v) (new_port v)
  deals_port opening v s k at = dealt_kept opening s v v.lanes None k at (omega arith) (λ m is. absurd (cc)) tt

  there_is : (xs : List D) (n : ℕ) (x : D) → slice_get xs n ≡ Some x → (n < length xs)
      × (slice_index_or (map state xs) n (new_die 0 0) ≡ state x)
  there_is [] n x e = absurd (cc)
  there_is (y ∷ ys) zero x e = (omega arith, ap state (some_one y x e))
  there_is (y ∷ ys) (suc n) x e = let t = there_is ys n x e in ((let l = t.0 in omega arith), t.1)

  lane_agrees : (opening : Opening D) (w : WorldState) (n : ℕ) (o : Option D) →
      slice_get opening.dies.value.items n ≡ o → (length w.dies ≡ length opening.dies.value.items)
      × (length w.jobs ≡ length opening.dies.value.items)
      → (die_at w.dies n ≡ die_at (map state opening.dies.value.items) n) × (job_at w.jobs n ≡ None) →
      AgreesIf state w (new_lane_of n o)
  lane_agrees opening w n None is many undealt = tt
  lane_agrees opening w n (Some d) is many undealt =
      let t = there_is opening.dies.value.items n d is in record {
        there = subst (λ m. n < m) (sym many.0) t.0;
        has_job = subst (λ m. n < m) (sym many.1) t.0;
        content = undealt.0 ∙ t.1;
        job = undealt.1;
      }

  lane_die : (n : ℕ) (o : Option D) (m : LaneView D) → new_lane_of n o ≡ Some m → m.die ≡ n
  lane_die n None m is = absurd (cc)
  lane_die n (Some d) m is = ap (λ (x : LaneView D). x.die) (sym (some_one _ m is))

  pub deals_lane : (opening : Opening D) (v : View D) → 0 < v.lanes →
      Splits (Kept state opening) 0 v (lane_dealt v) (new_lane v)
  deals_lane opening v some s k at =
      let d = k.deals in
      let n : ℕ = v.lanes - 1 in
      let same : v ≡ d.dealer = maybe.some-injective _ _ (sym at ∙ d.there) in
      let had : v.lanes ≡ d.dealer.lanes = ap (λ (u : View D). u.lanes) same in
      let opened : v.opening ≡ Some opening = ap (λ (u : View D). u.opening) same ∙ d.opened in
      let lane : lane_at v.opening n ≡ new_lane_of n (slice_get opening.dies.value.items n) = ap (λ (o : Option
      (Opening D)). lane_at o n) opened in
      dealt_kept opening s v n (lane_at v.opening n) k at (omega arith)
      (λ m is. let e : m.die ≡ n = lane_die n (slice_get opening.dies.value.items n) m (sym lane
      ∙ is) in (omega arith, omega arith))
      (subst (AgreesIf state k.world) (sym lane) (lane_agrees opening k.world n (slice_get opening.dies.value.items n)
      refl k.as_many (d.undealt n (omega arith))))

  -- The table as it opens

  only_first : (P : ℕ → View D → Type 0) (v : View D) → P 0 v → (k : ℕ) (u : View D) →
      get_elem? (v ∷ []) k ≡ maybe.some u → P k u
  only_first P v one zero u at = subst (P 0) (maybe.some-injective _ _ at) one
  only_first P v one (suc k) u at = absurd (maybe.some-ne-none u (sym at))

  only_one : (v : View D) (j k : ℕ) (a b : View D) → get_elem? (v ∷ []) j ≡ maybe.some a →
      get_elem? (v ∷ []) k ≡ maybe.some b → j ≢ k → ⊥
  only_one v zero zero a b x y apart = apart refl
  only_one v (suc j) k a b x y apart = maybe.some-ne-none a (sym x)
  only_one v zero (suc k) a b x y apart = maybe.some-ne-none b (sym y)

  abbrev no_job : Option Job
  no_job = None

  pub opens : (opening : Opening D) → IsOpening state opening →
      Kept state opening (table.opening (0 ∷ []) (opening.device.value ∷ []) (first_view opening))
  opens opening is = record {
    list = [];
    world = opened_world state opening;
    one_word = refl;
    opens = is;
    leads = λ start opened. (start, refl, fits_first state opening is start opened);
    as_many = (
      length_kept state opening.dies.value.items,
      length-replicate (length (map state opening.dies.value.items)) no_job
          ∙ length_kept state opening.dies.value.items,
    );
    seats = only_first (λ k u. Knows state opening [] (opened_world state opening) u) (first_view opening)
        record {
          opened = λ st. absurd (cc);
          begins = ([], refl);
          own = λ _. refl;
          agrees = tt;
          compared = λ looks.
              absurd (cc);
        };
    apart = λ j k a b x y apart. absurd (only_one (first_view opening) j k a b x y apart);
    deals = record {
      dealer = first_view opening;
      there = refl;
      no_steps = refl;
      opened = refl;
      below = only_first (λ k u. u.steps ≡ true → u.by < 0) (first_view opening) (λ st. absurd (cc));
      unused = λ n far. refl;
      dies_above = λ k u l there is. only_first (λ k u. (l : LaneView D) → u.lane ≡ Some l →
          length opening.dies.value.items ≤ l.die) (first_view opening) (λ l is. absurd (cc)) k u there l is;
      undealt = λ n near. (
        refl,
        get_or-replicate (length (map state opening.dies.value.items)) n no_job no_job
            (subst (λ k. n < k) (sym (length_kept state opening.dies.value.items)) near),
      );
    };
    place = inl record {
      word = refl;
      there = refl;
      none = only_first (λ k u. u.held ≡ None) (first_view opening) refl;
    };
  }

module _ {D : Type 0} where
  last_of : (rest gone : List D) (die : D) → slice_get ((rest ++ die ∷ []) ++ gone) (length rest) ≡ Some die
  last_of [] gone die = refl
  last_of (x ∷ rest) gone die = last_of rest gone die

  -- the last die that was not dealt is dealt next
  pub next_die : (opening : Option (Opening D)) (all now rest gone : List D) (die : D) → Undealt opening all →
      all ≡ now ++ gone → now ≡ rest ++ die ∷ []
      → lane_at opening (length rest) ≡ Some record { die = length rest; content = die; job = None }
  next_die None all now rest gone die is split last = absurd is
  next_die (Some opening) all now rest gone die is split last =
      ap (new_lane_of (length rest))
      (ap (λ (xs : List D). slice_get xs (length rest)) (is ∙ split ∙ ap (λ (xs : List D). xs ++ gone) last)
      ∙ last_of rest gone die)

  -- what is gone then
  pub gone_more : (all now rest gone : List D) (die : D) → all ≡ now ++ gone → now ≡ rest ++ die ∷ [] →
      all ≡ rest ++ die ∷ gone
  gone_more all now rest gone die split last = split ∙ ap (λ (xs : List D). xs ++ gone) last
      ∙ append_assoc rest (die ∷ []) gone

-- all but the last, and the last

pub all_front : {A : Type 0} (P : A → Type 0) (xs : List A) (x : A) → All P (xs ++ x ∷ []) → All P xs
all_front P [] x h k d lt = absurd (omega arith)
all_front P (y ∷ ys) x h zero d lt = h zero d (omega arith)
all_front P (y ∷ ys) x h (suc k) d lt = all_front P ys x (λ j e l. h (suc j) e (omega arith)) k d (omega arith)

pub all_last : {A : Type 0} (P : A → Type 0) (xs : List A) (x : A) → All P (xs ++ x ∷ []) → P x
all_last P [] x h = h zero x (omega arith)
all_last P (y ∷ ys) x h = all_last P ys x (λ j e l. h (suc j) e (omega arith))

pub all_none : {A : Type 0} (P : A → Type 0) (xs : List A) → xs ≡ [] → All P xs
all_none P xs e = subst (All P) (sym e) (λ k d lt. absurd (omega arith))

pub all_one : {A : Type 0} (P : A → Type 0) (x : A) → P x → All P (x ∷ [])
all_one P x h zero d lt = h
all_one P x h (suc k) d lt = absurd (omega arith)
