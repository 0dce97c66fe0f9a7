-- Each step on the table keeps its rule.
use Rattle.lanes.proofs.Common.{Allows, Apart, AtHome, Bool, DeviceCore, DieState, Entry, IsOut, Kept, Knows, LaneView}
use Rattle.lanes.proofs.Common.{List, None, Opening, Option, Some, View, WorldState, [], ap, arith, false, inr, length}
use Rattle.lanes.proofs.Common.{mine, refl, set, set_else, set_here, subst, suc, sym, true, zero, ℕ, ⊎_elim, ◌++◌, ◌<◌}
use Rattle.lanes.proofs.Common.{◌∙◌, ◌∷◌, ◌≡◌, ◌≢◌, ◌≤◌}
use Rattle.std.proofs.Common.{get_or, get_or-set_same, length-set}
use mathlib.Core.Option as maybe
use lib.ListN.{get_elem?}
use mathlib.Core.Logic.{dite}
use native.Mathlib.Decide.{ℕ_discrete}
use Rattle.atomic_table.specs.Table as table
use Rattle.atomic_table.specs.Table.{keeps, takes}
use Rattle.atomic_table.proofs.Lists.{at_set, set_again}
use Rattle.lanes.specs.Rule.{Deals, HasTaken, Seized}
use Rattle.lanes.proofs.Growing.{begins_whole}

module _ {D : Type 0} where
  -- a fact of each seat, after the view of one has changed
  pub each_set : (P : ℕ → View D → Type 0) (views : List (View D)) (id : ℕ) (w : View D)
      → ((k : ℕ) (v : View D) → k ≢ id → get_elem? views k ≡ maybe.some v → P k v) → P id w
      → (k : ℕ) (v : View D) → get_elem? (set views id w) k ≡ maybe.some v → P k v
  each_set P views id w others one k v at =
      ⊎_elim
      (λ (x : (k ≡ id) × (w ≡ v)). subst (λ (y : ℕ × View D). P y.0 y.1) (λ i. (sym x.0 i, x.1 i)) one)
      (λ (x : (k ≢ id) × (get_elem? views k ≡ maybe.some v)). others k v x.0 x.1)
      (at_set views id k w v at)

  -- a fact of each two seats, the same
  pub two_set : (P : View D → View D → Type 0) (views : List (View D)) (id : ℕ) (w : View D)
      → ((u v : View D) → P u v → P v u)
      → ((j k : ℕ) (u v : View D) → get_elem? views j ≡ maybe.some u → get_elem? views k ≡ maybe.some v → j ≢ k → P u v)
      → ((k : ℕ) (v : View D) → k ≢ id → get_elem? views k ≡ maybe.some v → P w v)
      → (j k : ℕ) (u v : View D) → get_elem? (set views id w) j ≡ maybe.some u →
      get_elem? (set views id w) k ≡ maybe.some v → j ≢ k → P u v
  two_set P views id w flip old new j k u v atj atk apart =
      ⊎_elim
      (λ (x : (j ≡ id) × (w ≡ u)).
      ⊎_elim
      (λ (y : (k ≡ id) × (w ≡ v)). absurd (apart (x.0 ∙ sym y.0)))
      (λ (y : (k ≢ id) × (get_elem? views k ≡ maybe.some v)). subst (λ z. P z v) x.1 (new k v y.0 y.1))
      (at_set views id k w v atk))
      (λ (x : (j ≢ id) × (get_elem? views j ≡ maybe.some u)).
      ⊎_elim
      (λ (y : (k ≡ id) × (w ≡ v)). subst (λ z. P u z) y.1 (flip w u (new j u x.0 x.1)))
      (λ (y : (k ≢ id) × (get_elem? views k ≡ maybe.some v)). old j k u v x.1 y.1 apart)
      (at_set views id k w v atk))
      (at_set views id j w u atj)

  pub apart_flip : (u v : View D) → Apart u v → Apart v u
  apart_flip u v a = record {
    numbers = λ s t e. a.numbers t s (sym e);
    dies = λ l m is is' e. a.dies m l is' is (sym
        e);
  }

pub below : {A : Type 0} (l : List A) (k : ℕ) (a : A) → get_elem? l k ≡ maybe.some a → k < length l
below [] k a e = absurd (maybe.some-ne-none a (sym e))
below (x ∷ xs) zero a e = omega arith
below (x ∷ xs) (suc k) a e = let h = below xs k a e in omega arith

pub some_not_none : {A : Type 0} (o : Option A) (a : A) → o ≡ Some a → o ≡ None → ⊥
some_not_none o a is none = absurd (cc)

pub some_one : {A : Type 0} (a b : A) → Some a ≡ Some b → a ≡ b
some_one a b e = cc

pub true_false : (b : Bool) → b ≡ true → b ≡ false → ⊥
true_false b is not = absurd (cc)

module _ {D : Type 0} (state : D → DieState) where
  pub none_home : (s : table.State DeviceCore (View D)) (core : DeviceCore) (id : ℕ) (v : View D) (held : DeviceCore) →
      AtHome s core → get_elem? s.views id ≡ maybe.some v → v.held ≡ Some held → ⊥
  none_home s core id v held home at has = some_not_none v.held held has (home.none id v at)

  -- the rule where one seat's view has changed, but not its number, its die or what it deals, and nothing of the world
  -- has
  pub deals_same : (opening : Opening D) (views : List (View D)) (list : List Entry) (world : WorldState) (id : ℕ) (v w
      : View D)
      → get_elem? views id ≡ maybe.some v → (w.steps ≡ v.steps) → (w.by ≡ v.by) → (w.lane ≡ v.lane) →
      (w.numbers ≡ v.numbers) → (w.lanes ≡ v.lanes) → (w.opening ≡ v.opening)
      → Deals state opening views list world → Deals state opening (set views id w) list world
  deals_same opening views list world id v w at steps by lane numbers lanes opened d =
      dite (ℕ_discrete 0 id) one other
    where
      same_below : (top : ℕ) → ((k : ℕ) (u : View D) → get_elem? views k ≡ maybe.some u → u.steps ≡ true →
          u.by < top) → (k : ℕ) (u : View D) → get_elem? (set views id w) k ≡ maybe.some u → u.steps ≡ true → u.by < top
      same_below top old = each_set (λ k u. u.steps ≡ true →
          u.by < top) views id w (λ k u apart there. old k u there) (λ s. subst (λ n. n < top) (sym by) (old id v at
          (sym steps ∙ s)))

      same_dies : (top : ℕ) → ((k : ℕ) (u : View D) (l : LaneView D) → get_elem? views k ≡ maybe.some u →
          u.lane ≡ Some l → top ≤ l.die) → (k : ℕ) (u : View D) (l : LaneView D) →
          get_elem? (set views id w) k ≡ maybe.some u → u.lane ≡ Some l → top ≤ l.die
      same_dies top old k u l there is = each_set (λ k u. (l : LaneView D) → u.lane ≡ Some l →
          top ≤ l.die) views id w (λ k u apart there l is. old k u l there is) (λ l is. old id v l at (sym lane
          ∙ is)) k u there l is

      one : 0 ≡ id → Deals state opening (set views id w) list world
      one zero_is =
          let same : v ≡ d.dealer = maybe.some-injective _ _ (sym at ∙ ap (get_elem? views) (sym zero_is) ∙ d.there) in
          let n : w.numbers ≡ d.dealer.numbers = numbers ∙ ap (λ (u : View D). u.numbers) same in
          let m : w.lanes ≡ d.dealer.lanes = lanes ∙ ap (λ (u : View D). u.lanes) same in record {
            dealer = w;
            there = ap (get_elem? (set views id w)) zero_is ∙ set_here views id w (below views id v at);
            no_steps = steps ∙ ap (λ (u : View D). u.steps) same ∙ d.no_steps;
            opened = opened ∙ ap (λ (u : View D). u.opening) same ∙ d.opened;
            below = same_below w.numbers (subst (λ top. (k : ℕ) (u : View D) → get_elem? views k ≡ maybe.some u →
                u.steps ≡ true → u.by < top) (sym n) d.below);
            unused = λ k far. d.unused k (subst (λ top. top ≤ k) n far);
            dies_above = same_dies w.lanes (subst (λ top. (k : ℕ) (u : View D) (l : LaneView D) →
                get_elem? views k ≡ maybe.some u → u.lane ≡ Some l → top ≤ l.die) (sym m) d.dies_above);
            undealt = λ k far. d.undealt k (subst (λ top. k < top) m far);
          }

      other : 0 ≢ id → Deals state opening (set views id w) list world
      other apart = record {
        dealer = d.dealer;
        there = set_else views id 0 w apart ∙ d.there;
        no_steps = d.no_steps;
        opened = d.opened;
        below = same_below d.dealer.numbers d.below;
        unused = d.unused;
        dies_above = same_dies d.dealer.lanes d.dies_above;
        undealt = d.undealt;
      }

  -- The attempt to take the core

  -- the table after the attempt found it at home
  taken_kept : (opening : Opening D) (s : table.State DeviceCore (View D)) (id : ℕ) (v : View D) (k : Kept state
      opening s) → AtHome s k.world.core → get_elem? s.views id ≡ maybe.some v → v.steps ≡ true
      → Kept state opening (table.stepped s 0 1 id [] (record v {
        seen = k.list;
        held = Some k.world.core;
        looks =
            false;
      }) (takes 0 k.world.core))
  taken_kept opening s id v k home at steps =
      let w : View D = record v { seen = k.list; held = Some k.world.core; looks = false } in
      let own = k.seats id v at in record {
        list = k.list;
        world = k.world;
        one_word = length-set s.words 0 1 ∙ k.one_word;
        opens = k.opens;
        leads = k.leads;
        as_many = k.as_many;
        seats = each_set (λ j u. Knows state opening k.list k.world u) s.views id w (λ j u apart there. k.seats j u
            there)
            record {
              opened = own.opened;
              begins = begins_whole k.list;
              own = λ _. refl;
              agrees = own.agrees;
              compared
                  = λ looks. absurd (cc);
            };
        apart = two_set Apart s.views id w apart_flip k.apart (λ j u apart there. let a = k.apart id j v u at there (λ
            e. apart (sym e)) in record { numbers = a.numbers; dies = a.dies });
        deals = deals_same opening s.views k.list k.world id v w at refl refl refl refl refl refl k.deals;
        place = inr record {
          word = get_or-set_same s.words 0 1 0 (let one = k.one_word in omega arith);
          holder = id;
          view = w;
          there = set_here s.views id w (below s.views id v at);
          steps = steps;
          held = refl;
          all_seen = refl;
          others = each_set (λ j u. j ≢ id →
              u.held ≡ None) s.views id w (λ j u apart there _. home.none j u there) (λ apart. absurd (apart refl));
        };
      }

  taken_told : (opening : Opening D) (list : List Entry) (world : WorldState) (v : View D) → v.steps ≡ true →
      Knows state opening list world v
      → HasTaken (v, []) (record v { seen = list; held = Some world.core; looks = false }, (0, world.core) ∷ [])
  taken_told opening list world v steps knows =
      let more = knows.begins.0 in
      let is : list ≡ v.seen ++ more = knows.begins.1 in (
        world.core,
        more,
        ap (λ (l : List Entry). (record v { seen = l; held = Some world.core; looks = false }, (0, world.core) ∷ []))
            is,
        ap (mine v.by) (sym is) ∙ knows.own steps,
      )

  pub one_word_is : (ws : List ℕ) (n : ℕ) → length ws ≡ 1 → get_or ws 0 0 ≡ n → ws ≡ set ws 0 n
  one_word_is [] n e is = refl
  one_word_is (x ∷ xs) n e is = ap (λ (y : ℕ). y ∷ xs) is

  out_word : (opening : Opening D) (s : table.State DeviceCore (View D)) (id : ℕ) (v : View D) (k : Kept state opening
      s) → IsOut s k.list k.world.core → get_elem? s.views id ≡ maybe.some v
      → Kept state opening (table.stepped s 0 1 id [] v keeps)
  out_word opening s id v k out at =
      subst (Kept state opening) (λ i. record {
        words = one_word_is s.words 1 k.one_word out.word i;
        homes = s.homes;
        views = sym (set_again s.views id v at) i;
      }) k

  pub seizes : (opening : Opening D) (slots id : ℕ) (v : View D) → v.steps ≡ true →
      Allows (Kept state opening) slots id (v, []) 0 (λ _. 1) (Seized state (v, []))
  seizes opening slots id v steps s k wide at _ =
      ⊎_elim
      (λ (home : AtHome s k.world.core). (
        record v { seen = k.list; held = Some k.world.core; looks = false },
        takes 0 k.world.core,
        home.there,
        taken_kept opening s id v k home at steps,
        ((λ _. taken_told opening k.list k.world v steps (k.seats id v at)), (λ apart. absurd (apart home.word))),
      ))
      (λ (out : IsOut s k.list k.world.core). (
        v,
        keeps,
        tt,
        out_word opening s id v k out at,
        (
          (λ zero. let word = out.word in absurd (omega arith)),
          (λ _. (
            refl,
            record {
              opening = opening;
              opened = (k.seats id v at).opened steps;
              found = s;
              kept = k;
              seat = id;
              there = at;
              out = out;
            },
          )),
        ),
      ))
      k.place
