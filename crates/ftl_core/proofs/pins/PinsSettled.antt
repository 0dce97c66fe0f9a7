-- What readers keep when one group more is durable: who kept its slot keeps its page.
use Rattle.ftl_core.proofs.Common.{Bool, Core, Entry, InSlot, IsLookOf, IsWanted, Item, Key, Ledger, List, Looked, Name}
use Rattle.ftl_core.proofs.Common.{None, OnPage, Option, Pending, Pin, PinsKept, Place, Some, Standing, Unwritten, []}
use Rattle.ftl_core.proofs.Common.{ap, arith, eqb_tells, false, fold, if_false, if_true, if◌then◌else◌, le-ltb, length}
use Rattle.ftl_core.proofs.Common.{looked_on, lt-ltb, map, moved_pin, name_at, name_self, nat_lt, page_at, page_durable}
use Rattle.ftl_core.proofs.Common.{page_durable_at, refl, same_name, settled_pin, subst, suc, sym, true, zero, ℕ}
use Rattle.ftl_core.proofs.Common.{⊎_elim, ◌&&◌, ◌+◌, ◌<◌, ◌==◌, ◌∙◌, ◌∷◌, ◌≡◌, ◌≢◌, ◌≤◌}
use Rattle.std.proofs.lemmas.Bool.{ne_eqb}
use Rattle.ufs_spec.proofs.Lists.{map_twice}
use Rattle.ufs_spec.specs.Ledger.{settled_look}
use Rattle.ufs_spec.specs.Translation as layer
use Rattle.readers.specs.Pins.{now_stored}
use Rattle.ftl_core.proofs.group_settled.FrontPages.{AreStandingPages}
use Rattle.ftl_core.proofs.pins.PinsAlike.{pins_mapped}

-- the ledger with another frontier
abbrev pub at_frontier : Ledger → ℕ → Ledger
at_frontier l f = record l { frontier = f }

-- Settling once more, and with nothing new

look_settled : (l : Ledger) (entries : Name → Option Entry) (k : Key) (x : Looked) →
    IsLookOf l.frontier entries k x → settled_look l x ≡ x
look_settled l entries k Unwritten h = refl
look_settled l entries k (InSlot name) h = if_true (nat_lt l.frontier name.number) _ _
    (lt-ltb l.frontier name.number h.0)
look_settled l entries k (OnPage name place) h = refl

-- where the frontier stays, nothing changes
pub pins_settled : (l : Ledger) (entries : Name → Option Entry) (ps : List Pin) (qs : List layer.Pin) →
    PinsKept l.frontier entries ps qs → map (settled_pin l) qs ≡ qs
pins_settled l entries [] [] h = refl
pins_settled l entries [] (q ∷ qs) h = absurd h
pins_settled l entries (p ∷ ps) [] h = absurd h
pins_settled l entries (p ∷ ps) (q ∷ qs) h =
    let here = look_settled l entries p.key q.looked h.0.there in
    let more = pins_settled l entries ps qs h.1 in
    λ i. (record q { looked = here i }) ∷ more i

look_twice : (l : Ledger) (a b : ℕ) (x : Looked) → a ≤ b →
    settled_look (at_frontier l b) (settled_look (at_frontier l a) x) ≡ settled_look (at_frontier l b) x
look_twice l a b Unwritten le = refl
look_twice l a b (OnPage name place) le = refl
look_twice l a b (InSlot name) le = ways (nat_lt a name.number) refl
  where
    stays : (o : Option Place) → settled_look (at_frontier l b) (looked_on name o) ≡ looked_on name o
    stays None = refl
    stays (Some p) = refl

    high : (a b n : ℕ) → a ≤ b → nat_lt a n ≡ false → nat_lt b n ≡ false
    high a b n le h = grind arith

    ways : (t : Bool) → nat_lt a name.number ≡ t →
        settled_look (at_frontier l b)
        (if t then InSlot name else looked_on name (l.standing name.number name.index)) ≡ settled_look
        (at_frontier l b) (InSlot name)
    ways true e = refl
    ways false e =
        stays (l.standing name.number name.index)
        ∙ sym (if_false (nat_lt b name.number) (InSlot name) (looked_on name (l.standing name.number name.index))
        (high a b name.number le e))

-- settling at a lower frontier before changes nothing
pub pins_twice : (l : Ledger) (a b : ℕ) (qs : List layer.Pin) → a ≤ b →
    map (settled_pin (at_frontier l b)) (map (settled_pin (at_frontier l a)) qs) ≡ map
    (settled_pin (at_frontier l b)) qs
pins_twice l a b [] le = refl
pins_twice l a b (q ∷ qs) le =
    let here = look_twice l a b q.looked le in
    let more = pins_twice l a b qs le in
    λ i. (record q { looked = here i }) ∷ more i

-- One group more

-- what is looked at once the page is durable, if it is written
abbrev now_by : Pending → Option Place → Looked → Looked
now_by p None x = x
now_by p (Some place) x = now_stored (page_at p.number p.index place) x

-- page by page
abbrev pub now_all : List Pending → Looked → Looked
now_all [] x = x
now_all (p ∷ ps) x = now_all ps (now_by p p.written x)

abbrev pub moved_all : List Pending → Pin → Pin
moved_all ps pin = record pin { looked = now_all ps pin.looked }

-- so the pins are moved
pub pins_all : (ps : List Pending) (c : Core) → (fold page_durable c ps).pins ≡ map (moved_all ps) c.pins
pins_all [] c = sym (same c.pins)
  where
    same : (pins : List Pin) → map (λ (pin : Pin). pin) pins ≡ pins
    same [] = refl
    same (pin ∷ pins) = ap (λ (rest : List Pin). pin ∷ rest) (same pins)
pins_all (p ∷ ps) c = by p.written (pins_all ps (page_durable c p))
  where
    by : (o : Option Place) →
        (fold page_durable (page_durable_at c p o) ps).pins ≡ map (moved_all ps) (page_durable_at c p o).pins →
        (fold page_durable (page_durable_at c p o) ps).pins ≡
        map (λ (pin : Pin). record pin { looked = now_all ps (now_by p o pin.looked) }) c.pins
    by None r = r
    by (Some place) r =
        r ∙ map_twice (moved_all ps) (moved_pin (page_at p.number p.index place)) c.pins

-- who looks at nothing or at a page goes on to
now_nothing : (ps : List Pending) → now_all ps Unwritten ≡ Unwritten
now_nothing [] = refl
now_nothing (p ∷ ps) = ap (now_all ps) (by p.written) ∙ now_nothing ps
  where
    by : (o : Option Place) → now_by p o Unwritten ≡ Unwritten
    by None = refl
    by (Some place) = refl

now_page : (ps : List Pending) (name : Name) (at : Place) → now_all ps (OnPage name at) ≡ OnPage name at
now_page [] name at = refl
now_page (p ∷ ps) name at = ap (now_all ps) (by p.written) ∙ now_page ps name at
  where
    by : (o : Option Place) → now_by p o (OnPage name at) ≡ OnPage name at
    by None = refl
    by (Some place) = refl

slot_stays : (name : Name) (p : Pending) (place : Place) → same_name name (name_at p.number p.index) ≡ false →
    p.written ≡ Some place → now_by p p.written (InSlot name) ≡ InSlot name
slot_stays name p place e written =
    ap (λ (o : Option Place). now_by p o (InSlot name)) written
    ∙ if_false (same_name name (name_at p.number p.index)) (OnPage (name_at p.number p.index) place) (InSlot name) e

slot_moves : (name : Name) (p : Pending) (place : Place) → name ≡ name_at p.number p.index → p.written ≡ Some place →
    now_by p p.written (InSlot name) ≡ OnPage name place
slot_moves name p place is written =
    ap (λ (o : Option Place). now_by p o (InSlot name)) written
    ∙ if_true (same_name name (name_at p.number p.index)) (OnPage (name_at p.number p.index) place) (InSlot name)
    (ap (same_name name) (sym is) ∙ name_self name)
    ∙ ap (λ (z : Name). OnPage z place) (sym is)

-- who looks at the slot of another group does so too
now_other : (st : Standing) (n i : ℕ) (ps : List Pending) (xs : List Item) → AreStandingPages st n i ps xs →
    (name : Name) → name.number ≢ n → now_all ps (InSlot name) ≡ InSlot name
now_other st n i [] xs h name apart = refl
now_other st n i (p ∷ ps) [] h name apart = absurd h
now_other st n i (p ∷ ps) (x ∷ xs) h name apart =
    ap (now_all ps) (slot_stays name p h.0.place
    (ap (λ (b : Bool). b && (name.index == p.index)) (ne_eqb name.number p.number (λ e. apart (e ∙ h.0.number))))
    h.0.written)
    ∙ now_other st n (suc i) ps xs h.1 name apart

-- and who looks at a slot of this one looks at its page
record IsMoved (st : Standing) (n j : ℕ) (ps : List Pending) : Type 0 where
  place : Place
  stands : st n j ≡ Some place
  moved : now_all ps (InSlot (name_at n j)) ≡ OnPage (name_at n j) place

now_here : (st : Standing) (n i : ℕ) (ps : List Pending) (xs : List Item) → AreStandingPages st n i ps xs →
    (j : ℕ) → j < length xs → IsMoved st n (i + j) ps
now_here st n i [] [] h j l = absurd (omega arith)
now_here st n i [] (x ∷ xs) h j l = absurd h
now_here st n i (p ∷ ps) [] h j l = absurd h
now_here st n i (p ∷ ps) (x ∷ xs) h zero l =
    subst (λ (m : ℕ). IsMoved st n m (p ∷ ps)) (same i) (record {
      place = h.0.place;
      stands = h.0.stands;
      moved = ap (now_all ps) (slot_moves (name_at n i) p h.0.place named h.0.written)
          ∙ now_page ps (name_at n i) h.0.place;
    })
  where
    same : (i : ℕ) → i ≡ i + 0
    same i = omega arith

    named : name_at n i ≡ name_at p.number p.index
    named = λ j. record { number = sym h.0.number j; index = sym h.0.index j }
now_here st n i (p ∷ ps) (x ∷ xs) h (suc j) l = on (now_here st n (suc i) ps xs h.1 j (omega arith))
  where
    apart : (i j : ℕ) → i + suc j ≡ i → ⊥
    apart i j e = omega arith

    next : (i j : ℕ) → suc i + j ≡ i + suc j
    next i j = omega arith

    none : ((n == p.number) && ((i + suc j) == p.index)) ≡ false
    none = ap (λ (b : Bool). (n == p.number) && b)
        (ne_eqb (i + suc j) p.index (λ e. apart i j (e ∙ h.0.index))) ∙ and_with_false (n == p.number)
      where
        and_with_false : (b : Bool) → (b && false) ≡ false
        and_with_false true = refl
        and_with_false false = refl

    on : IsMoved st n (suc i + j) ps → IsMoved st n (i + suc j) (p ∷ ps)
    on m = record {
      place = m.place;
      stands = ap (st n) (sym (next i j)) ∙ m.stands;
      moved = ap (now_all ps) (slot_stays (name_at n (i + suc j)) p h.0.place none h.0.written)
          ∙ ap (λ (z : ℕ). now_all ps (InSlot (name_at n z))) (sym (next i j)) ∙ m.moved
          ∙ ap (λ (z : ℕ). OnPage (name_at n z) m.place) (next i j);
    }

-- what is kept of one look, with this frontier
abbrev IsLooked : ℕ → (Name → Option Entry) → Key → Looked → Looked → Type 0
IsLooked frontier entries k x y = (y ≡ x) × IsLookOf frontier entries k y

module _ (l : Ledger) (entries : Name → Option Entry) (g : List Item) (ps : List Pending)
    (stand : AreStandingPages l.standing (suc l.frontier) 0 ps g)
    (inside : (j : ℕ) (e : Entry) → entries (name_at (suc l.frontier) j) ≡ Some e → j < length g) where
  abbrev above : Looked → Looked
  above x = settled_look (at_frontier l (suc l.frontier)) x

  slot_settles : (k : Key) (name : Name) → IsLookOf l.frontier entries k (InSlot name) →
      IsLooked (suc l.frontier) entries k (now_all ps (InSlot name)) (above (InSlot name))
  slot_settles k name there = ⊎_elim (λ h. page h.1) (λ h. slot h.1) (eqb_tells name.number (suc l.frontier))
    where
      page : name.number ≡ suc l.frontier →
          IsLooked (suc l.frontier) entries k (now_all ps (InSlot name)) (above (InSlot name))
      page at =
          let is : name ≡ name_at (suc l.frontier) name.index = λ i. name_at (at i) name.index in
          let named : (e : Entry) × (entries name ≡ Some e) × (e.item.key ≡ k) = there.1 in
          let low = inside name.index named.0 (ap entries (sym is) ∙ named.1) in
          let m : IsMoved l.standing (suc l.frontier) name.index ps =
          subst (λ (z : ℕ). IsMoved l.standing (suc l.frontier) z ps) (same name.index)
          (now_here l.standing (suc l.frontier) 0 ps g stand name.index low) in
          let told : above (InSlot name) ≡ OnPage name m.place =
          if_false (nat_lt (suc l.frontier) name.number) (InSlot name)
          (looked_on name (l.standing name.number name.index))
          (le-ltb (suc l.frontier) name.number (omega arith))
          ∙ ap (looked_on name) (ap (λ (z : ℕ). l.standing z name.index) at ∙ m.stands) in
          let now : now_all ps (InSlot name) ≡ OnPage name m.place =
          ap (λ (z : Name). now_all ps (InSlot z)) is ∙ m.moved ∙ ap (λ (z : Name). OnPage z m.place) (sym is) in
          (told ∙ sym now, subst (IsLookOf (suc l.frontier) entries k) (sym told) there.1)
        where
          same : (j : ℕ) → 0 + j ≡ j
          same j = omega arith

      slot : name.number ≢ suc l.frontier →
          IsLooked (suc l.frontier) entries k (now_all ps (InSlot name)) (above (InSlot name))
      slot e =
          let before = there.0 in
          let high : suc l.frontier < name.number = omega (arith, before, e) in
          let told : above (InSlot name) ≡ InSlot name =
          if_true (nat_lt (suc l.frontier) name.number) (InSlot name)
          (looked_on name (l.standing name.number name.index)) (lt-ltb (suc l.frontier) name.number high) in (
            told ∙ sym (now_other l.standing (suc l.frontier) 0 ps g stand name e),
            subst (IsLookOf (suc l.frontier) entries k) (sym told) (high, there.1),
          )

  look_settles : (k : Key) (x : Looked) → IsLookOf l.frontier entries k x →
      IsLooked (suc l.frontier) entries k (now_all ps x) (above x)
  look_settles k Unwritten there = (sym (now_nothing ps), tt)
  look_settles k (InSlot name) there = slot_settles k name there
  look_settles k (OnPage name place) there = (sym (now_page ps name place), there)

  -- what readers keep goes on to be what the layer has
  pub pins_settle : (pins : List Pin) (qs : List layer.Pin) → PinsKept l.frontier entries pins qs →
      PinsKept (suc l.frontier) entries (map (moved_all ps) pins)
      (map (settled_pin (at_frontier l (suc l.frontier))) qs)
  pins_settle pins qs h =
      pins_mapped l.frontier (suc l.frontier) entries entries (moved_all ps)
      (settled_pin (at_frontier l (suc l.frontier))) pins qs
      (λ p q k. let r = look_settles p.key q.looked k.there in
      record { tag = k.tag; index = k.index; looked = r.0 ∙ ap (now_all ps) k.looked; there = r.1; wanted = k.wanted })
      h

-- who wants a page goes on to want it
pub still_wanted : (ps : List Pending) (place : Place) (p : Pin) → IsWanted place p → IsWanted place (moved_all ps p)
still_wanted ps place p w = record {
  name = w.name;
  looks = ap (now_all ps) w.looks ∙ now_page ps w.name place;
  wanted = w.wanted;
}
