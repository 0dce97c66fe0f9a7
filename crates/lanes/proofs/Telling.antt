-- A seat is told what another has seen.
use Rattle.lanes.proofs.Common.{Allows, Apart, AtHome, DeviceCore, DieState, Entry, IsOut, Kept, Knows, LaneView, List}
use Rattle.lanes.proofs.Common.{None, Opening, Some, Splits, View, [], ap, append-nil, append_assoc, arith, cond, false}
use Rattle.lanes.proofs.Common.{inl, inr, length, mine, refl, set, set_else, subst, sym, true, ℕ, ⊎_elim, ◌++◌, ◌<◌}
use Rattle.lanes.proofs.Common.{◌∙◌, ◌∷◌, ◌≡◌, ◌≢◌, ◌≤◌}
use Rattle.std.proofs.Common.{get_or, length-append, nat_le, ◌⊎◌}
use mathlib.Core.Option as maybe
use lib.ListN.{get_elem?}
use Rattle.std.proofs.lemmas.Bool.Decides.{leb_tells}
use Rattle.atomic_table.specs.Table as table
use Rattle.atomic_table.specs.Table.{Joins, keeps}
use Rattle.atomic_table.proofs.Lists.{at_longer, set_again}
use Rattle.lanes.specs.Legal.{Begins}
use Rattle.lanes.specs.Rule.{HasHeard, HasMet, Looked, both, longer, messenger, spent}
use Rattle.lanes.proofs.Dealing.{at_more, each_more, two_more}
use Rattle.lanes.proofs.Growing.{mine-append}
use Rattle.lanes.proofs.Moves.{apart_flip, deals_same, each_set, one_word_is, some_not_none, two_set}

-- Beginnings

begins_one : (xs ys list : List Entry) → Begins xs list → Begins ys list → length xs ≤ length ys → Begins xs ys
begins_one [] ys list b c le = (ys, refl)
begins_one (x ∷ xs) [] list b c le = absurd (omega arith)
begins_one (x ∷ xs) (y ∷ ys) [] b c le = let p = b.1 in absurd (cc)
begins_one (x ∷ xs) (y ∷ ys) (z ∷ zs) b c le =
    let p : z ∷ zs ≡ x ∷ (xs ++ b.0) = b.1 in
    let q : z ∷ zs ≡ y ∷ (ys ++ c.0) = c.1 in
    let same : y ≡ x = cc in
    let r = begins_one xs ys zs (b.0, tail z (xs ++ b.0) x zs p) (c.0, tail z (ys ++ c.0) y zs q) (omega arith) in
    (r.0, λ i. same i ∷ r.1 i)
  where
    tail : (z : Entry) (l : List Entry) (x : Entry) (zs : List Entry) → z ∷ zs ≡ x ∷ l → zs ≡ l
    tail z l x zs e = cc

begins_self : (xs : List Entry) → Begins xs xs
begins_self xs = ([], sym (append-nil xs))

-- which of the two is the longer
longer_is : (xs ys : List Entry) → ((length xs ≤ length ys) × (longer xs ys ≡ ys)) ⊎ ((length ys < length xs)
    × (longer xs ys ≡ xs))
longer_is xs ys =
    ⊎_elim
    (λ (h : (nat_le (length xs) (length ys) ≡ true) × (length xs ≤ length ys)). inl (h.1, ap (λ c. cond c ys xs) h.0))
    (λ (h : (nat_le (length xs) (length ys) ≡ false) × (length ys < length xs)). inr (h.1, ap (λ c. cond c ys xs) h.0))
    (leb_tells (length xs) (length ys))

pub longer_begins : (xs ys list : List Entry) → Begins xs list → Begins ys list → Begins xs (longer xs ys)
    × Begins ys (longer xs ys) × Begins (longer xs ys) list
longer_begins xs ys list b c =
    ⊎_elim
    (λ (h : (length xs ≤ length ys) × (longer xs ys ≡ ys)). subst (λ l. Begins xs l × Begins ys l
    × Begins l list) (sym h.1) (begins_one xs ys list b c h.0, begins_self ys, c))
    (λ (h : (length ys < length xs) × (longer xs ys ≡ xs)). subst (λ l. Begins xs l × Begins ys l
    × Begins l list) (sym h.1) (begins_self xs, begins_one ys xs list c b (let l = h.0 in omega arith), b))
    (longer_is xs ys)

-- who has the longer list and tells it makes both lists the same
pub longer_again : (xs ys : List Entry) → longer xs (longer ys xs) ≡ longer ys xs
longer_again xs ys =
    ⊎_elim
    (λ (h : (length ys ≤ length xs) × (longer ys xs ≡ xs)). ap (longer xs) h.1 ∙ same xs ∙ sym h.1)
    (λ (h : (length xs < length ys) × (longer ys xs ≡ ys)). ap (longer xs) h.1 ∙ other h.0 ∙ sym h.1)
    (longer_is ys xs)
  where
    same : (l : List Entry) → longer l l ≡ l
    same l = ⊎_elim (λ h. h.1) (λ h. h.1) (longer_is l l)

    other : length xs < length ys → longer xs ys ≡ ys
    other lt = ⊎_elim (λ h. h.1) (λ (h : (length ys < length xs)
        × (longer xs ys ≡ xs)). absurd (let l = h.0 in omega arith)) (longer_is xs ys)

none_more : (xs ys : List Entry) → xs ≡ xs ++ ys → ys ≡ []
none_more xs [] e = refl
none_more xs (y ∷ ys) e = let n = ap length e in absurd (omega (arith, length-append xs (y ∷ ys)))

-- a list between two that have the same steps of a seat has them too
mine_between : (by : ℕ) (xs ys zs : List Entry) → Begins xs ys → Begins ys zs → mine by zs ≡ mine by xs →
    mine by ys ≡ mine by xs
mine_between by xs ys zs b c same =
    let first : mine by ys ≡ mine by xs ++ mine by b.0 = ap (mine by) b.1 ∙ mine-append by xs b.0 in
    let all : mine by zs ≡ (mine by xs ++ mine by b.0) ++ mine by c.0 = ap (mine by) c.1 ∙ mine-append by ys c.0
    ∙ ap (λ l. l ++ mine by c.0) first in
    let none : mine by b.0 ++ mine by c.0 ≡ [] = none_more (mine by xs) (mine by b.0 ++ mine by c.0) (sym same ∙ all
    ∙ append_assoc (mine by xs) (mine by b.0) (mine by c.0)) in
    first ∙ ap (λ l. mine by xs ++ l) (front (mine by b.0) (mine by c.0) none) ∙ append-nil (mine by xs)
  where
    front : (xs ys : List Entry) → xs ++ ys ≡ [] → xs ≡ []
    front [] ys e = refl
    front (x ∷ xs) ys e = absurd (cc)

module _ {D : Type 0} (state : D → DieState) where
  -- what a seat without the core has seen changes
  changed_kept : (opening : Opening D) (s : table.State DeviceCore (View D)) (id : ℕ) (v w : View D) (k : Kept state
      opening s) → get_elem? s.views id ≡ maybe.some v
      → v.held ≡ None → w.held ≡ None → w.steps ≡ v.steps → w.by ≡ v.by → w.lane ≡ v.lane → w.numbers ≡ v.numbers →
      w.lanes ≡ v.lanes → w.opening ≡ v.opening
      → Knows state opening k.list k.world w →
      Kept state opening record { words = s.words; homes = s.homes; views = set s.views id w }
  changed_kept opening s id v w k at rests rests' steps by lane numbers lanes opened knows = record {
    list = k.list;
    world = k.world;
    one_word = k.one_word;
    opens = k.opens;
    leads = k.leads;
    as_many = k.as_many;
    seats = each_set (λ j u. Knows state opening k.list k.world u) s.views id w (λ j u apart there. k.seats j u there)
        knows;
    apart = two_set Apart s.views id w apart_flip k.apart (λ j u apart there. let a = k.apart id j v u at there (λ e.
        apart (sym e)) in record {
          numbers = λ st st' e. a.numbers (sym steps ∙ st) st' (sym by ∙ e);
          dies = λ l m is is' e. a.dies l m (sym lane ∙ is) is' e;
        });
    deals = deals_same state opening s.views k.list k.world id v w at steps by lane numbers lanes opened k.deals;
    place =
        ⊎_elim
        (λ (home : AtHome s k.world.core). inl record {
          word = home.word;
          there = home.there;
          none = each_set (λ j u.
              u.held ≡ None) s.views id w (λ j u apart there. home.none j u there) rests';
        })
        (λ (out : IsOut s k.list k.world.core).
        let apart : out.holder ≢ id = λ e. some_not_none out.view.held k.world.core out.held (ap (λ (u : View D).
        u.held) (maybe.some-injective _ _ (sym out.there ∙ ap (get_elem? s.views) e ∙ at)) ∙ rests) in inr record {
          word = out.word;
          holder = out.holder;
          view = out.view;
          there = set_else s.views id out.holder w apart ∙ out.there;
          steps = out.steps;
          held = out.held;
          all_seen = out.all_seen;
          others = each_set (λ j u. j ≢ out.holder →
              u.held ≡ None) s.views id w (λ j u apart there other. out.others j u there other) (λ other. rests');
        })
        k.place;
  }

  -- a messenger is sent
  sent_kept : (opening : Opening D) (s : table.State DeviceCore (View D)) (seen : List Entry) (k : Kept state opening
      s) → Begins seen k.list
      → Kept state opening record { words = s.words; homes = s.homes; views = s.views ++ messenger seen ∷ [] }
  sent_kept opening s seen k begins =
      let d = k.deals in
      let new : View D = messenger seen in record {
        list = k.list;
        world = k.world;
        one_word = k.one_word;
        opens = k.opens;
        leads = k.leads;
        as_many = k.as_many;
        seats = each_more (Knows state opening k.list k.world) s.views new k.seats record {
          opened = λ st. absurd (cc);
          begins = begins;
          own = λ st. absurd (cc);
          agrees = tt;
          compared = λ looks. absurd (cc);
        };
        apart = two_more s.views new k.apart (λ j u there. record {
          numbers = λ st st' e. absurd (cc);
          dies = λ l m is
              is' e. absurd (cc);
        });
        deals = record {
          dealer = d.dealer;
          there = at_longer s.views (new ∷ []) 0 d.dealer d.there;
          no_steps = d.no_steps;
          opened = d.opened;
          below = each_more (λ u. u.steps ≡ true → u.by < d.dealer.numbers) s.views new d.below (λ st. absurd (cc));
          unused = d.unused;
          dies_above = λ j u l there is. each_more (λ u. (l : LaneView D) → u.lane ≡ Some l →
              d.dealer.lanes ≤ l.die) s.views new (λ j u there l is. d.dies_above j u l there is) (λ l is. absurd (cc))
              j u there l is;
          undealt = d.undealt;
        };
        place =
            ⊎_elim
            (λ (home : AtHome s k.world.core). inl record {
              word = home.word;
              there = home.there;
              none = each_more (λ
                  u. u.held ≡ None) s.views new home.none refl;
            })
            (λ (out : IsOut s k.list k.world.core). inr record {
              word = out.word;
              holder = out.holder;
              view = out.view;
              there = at_longer s.views (new ∷ []) out.holder out.view out.there;
              steps = out.steps;
              held = out.held;
              all_seen = out.all_seen;
              others = λ j u there other.
                  ⊎_elim (λ (x : get_elem? s.views j ≡ maybe.some u). out.others j u x other) (λ (x : (j ≡ length
                  s.views) × (new ≡ u)). subst (λ (z : View D). z.held ≡ None) x.1 refl) (at_more s.views new u j
                  there);
            })
            k.place;
      }

  pub tells : (opening : Opening D) (id : ℕ) (v : View D) → Splits (Kept state opening) id v v (messenger v.seen)
  tells opening id v s k at =
      subst (λ (l : List (View D)). Kept state opening record {
        words = s.words;
        homes = s.homes;
        views = l ++
            messenger v.seen ∷ [];
      }) (sym (set_again s.views id v at))
      (sent_kept opening s v.seen k (k.seats id v at).begins)

  pub hears : (opening : Opening D) (id : ℕ) (v : View D) (other : ℕ) (seen : List Entry) → v.steps ≡ true →
      v.held ≡ None → Joins (Kept state opening) id v other (messenger seen) (both v (messenger seen)) spent
  hears opening id v other seen steps rests s k at apart there =
      let w : View D = messenger seen in
      let own = k.seats id v at in
      let at_other : get_elem? s.views other ≡ maybe.some w = sym (set_else s.views id other (both v w) apart)
      ∙ there in
      let theirs = k.seats other w at_other in
      let l = longer_begins v.seen seen k.list own.begins theirs.begins in
      let mine_same : mine v.by (longer v.seen seen) ≡ mine v.by v.seen = mine_between v.by v.seen (longer v.seen seen)
      k.list l.0 l.2 (own.own steps) in
      let first = changed_kept opening s id v (both v w) k at rests rests refl refl refl refl refl refl record {
        opened = own.opened;
        begins = l.2;
        own = λ st. own.own st ∙ sym mine_same;
        agrees = own.agrees;
        compared = λ looks. record { before = l.0; other = l.1; same = mine_same };
      } in
      changed_kept opening record { words = s.words; homes = s.homes; views = set s.views id (both v w) } other w spent
      first there refl refl refl refl refl refl refl refl
      record {
        opened = λ st. absurd (cc);
        begins = (first.list, refl);
        own = λ st. absurd (cc);
        agrees = tt;
        compared
            = λ looks. absurd (cc);
      }

  pub looks : (opening : Opening D) (slots id : ℕ) (v : View D) (carried : List (ℕ × DeviceCore)) → v.held ≡ None →
      Allows (Kept state opening) slots id (v, carried) 0 (λ n. n) (λ _. Looked (v, carried))
  looks opening slots id v carried rests s k wide at _ =
      let own = k.seats id v at in
      let w : View D = record v { looks = false } in
      let kept = changed_kept opening s id v w k at rests rests refl refl refl refl refl refl record {
        opened =
            own.opened;
        begins = own.begins;
        own = own.own;
        agrees = own.agrees;
        compared = λ looks. absurd (cc);
      } in (
        w,
        keeps,
        tt,
        subst (λ (ws : List ℕ). Kept state opening record { words = ws; homes = s.homes; views = set s.views id w })
            (one_word_is state s.words (get_or s.words 0 0) k.one_word refl) kept,
        (refl, (λ looks. own.compared looks)),
      )

module _ {D : Type 0} where
  -- the first was told by the second, which it had told before
  pub met : (v w v' w' : View D) → HasHeard v.seen w w' → HasHeard w'.seen v v' → ((v'.seen ≡ longer w.seen v.seen)
      × (w'.seen ≡ v'.seen)) × HasMet w.seen v v' × HasMet v.seen w w'
  met v w v' w' told back =
      let same : v'.seen ≡ w'.seen = back.seen ∙ ap (longer v.seen) told.seen ∙ longer_again v.seen w.seen
      ∙ sym told.seen in (
        (same ∙ told.seen, sym same),
        record {
          before = back.before;
          told = subst (λ (l : List Entry). Begins w.seen l) (sym same) told.before;
          own = back.own;
          seat = back.seat;
          opening = back.opening;
        },
        record { before = told.before; told = told.told; own = told.own; seat = told.seat; opening = told.opening },
      )
