-- The pages that tasks keep, and those that rests are read from, stay where they are behind each change of the disk.
use Rattle.power_loss.proofs.Common.{◌≡◌, ◌≢◌, ℕ, ◌<◌, ◌≤◌, ◌⊎◌, Bool, true, false, All, List, [], ◌∷◌, get_or, map}
use Rattle.power_loss.proofs.Common.{Option, Some, sym, ap, ◌∙◌, subst, ⊎_elim, arith, refl, nat_lt, list_any, All-cons}
use Rattle.power_loss.proofs.Common.{All-map, All-nil, All-weaker, Cell, Cells, Nothing, BlockState, Disk, Spot}
use Rattle.power_loss.proofs.Common.{at_place, at_spot, erased, same_spot, spot_of, Entry, InSlot, Ledger, Looked, Name}
use Rattle.power_loss.proofs.Common.{OnPage, Unwritten, looked_on, settled_look, is_pin_of, settled_pin, with_wanted}
use Rattle.power_loss.proofs.Common.{FromPage, FromSlot, Pin, Rest, Source, Translation, is_pinned, looks_into}
use Rattle.power_loss.proofs.Common.{reads_from, Place, Book, IsOverwritten, IsPageAt, book, FrontierRight, IsGroupPage}
use Rattle.power_loss.proofs.Common.{LookedRight, PinsRight, RestsRight, SafeRight, SourceRight, Valid, ltb-false}
use Rattle.power_loss.proofs.Common.{ltb-true, or_parts, cond-false, page_not_nothing}
use Rattle.std.specs.Prelude.{if◌then◌else◌}
use Rattle.power_loss.proofs.jobs.StandsSecurely.{at_place_other, at_spot_other, erased_other, true_is_not_false}
use Rattle.power_loss.proofs.kept_pages.LookedUpPages.{secure_page}

-- What stays

-- the page there is as it was, finished, and no erase is near it
pub record IsSamePage (cells after : Cells) (finished : Place → Bool) (erasing : Spot → Bool) (q : Place) : Type 0 where
  pub there : after q ≡ cells q
  pub ended : finished q ≡ true
  pub stays : erasing (spot_of q) ≡ false

abbrev pub StayThere : Cells → (Place → Bool) → (Spot → Bool) → Cells → (Place → Bool) → (Spot → Bool) → Type 0
StayThere c f e after ended erasing =
    (q : Place) → c q ≢ Nothing → f q ≡ true → e (spot_of q) ≡ false → IsSamePage c after ended erasing q

pub page_stays : {c after : Cells} {f ended : Place → Bool} {e erasing : Spot → Bool} {name : Name} {p : Place} →
    StayThere c f e after ended erasing → IsGroupPage c f e name p → IsGroupPage after ended erasing name p
page_stays {c = c} {ended = ended} {p = p} s h =
    let r = s p (page_not_nothing (c p) h.tag h.body h.there) h.ended h.stays in
    record { tag = h.tag; body = h.body; there = r.there ∙ h.there; is = h.is; ended = r.ended; stays = r.stays }

abbrev pub KnowsAll : Book → Book → Type 0
KnowsAll b more = (n i : ℕ) (e : Entry) → IsPageAt b n i e → IsPageAt more n i e

-- what is kept is right, where its page is there still
looked_kept : (b more : Book) (frontier : ℕ) {c after : Cells} {f ended : Place → Bool} {e erasing : Spot → Bool}
    (x : Looked) → KnowsAll b more →
    ((name : Name) (p : Place) → x ≡ OnPage name p → IsGroupPage c f e name p → IsGroupPage after ended erasing name p)
    → LookedRight b frontier c f e x → LookedRight more frontier after ended erasing x
looked_kept b more frontier Unwritten k s h = tt
looked_kept b more frontier (InSlot name) k s h = (h.0, (h.1.0, k name.number name.index h.1.0 h.1.1))
looked_kept b more frontier (OnPage name p) k s h = s name p refl h

source_kept : {c after : Cells} {f ended : Place → Bool} {e erasing : Spot → Bool} (x : Source) →
    ((name : Name) (p : Place) → x ≡ FromPage p → IsGroupPage c f e name p → IsGroupPage after ended erasing name p) →
    SourceRight c f e x → SourceRight after ended erasing x
source_kept (FromPage p) s h = (h.0, s h.0 p refl h.1)
source_kept (FromSlot name) s h = tt

pub pins_stay : {b more : Book} {frontier : ℕ} {c after : Cells} {f ended : Place → Bool} {e erasing : Spot → Bool}
    {pins : List Pin} → KnowsAll b more → StayThere c f e after ended erasing →
    PinsRight b frontier c f e pins → PinsRight more frontier after ended erasing pins
pins_stay {b} {more} {frontier} {c} {after} {f} {ended} {e} {erasing} {pins} k s h = record {
  each = λ i d l. looked_kept b more frontier (get_or pins i d).looked k (λ name p is. page_stays s) (h.each i d l);
}

pub rests_stay : {c after : Cells} {f ended : Place → Bool} {e erasing : Spot → Bool} {rests : List Rest} →
    StayThere c f e after ended erasing → RestsRight c f e rests → RestsRight after ended erasing rests
rests_stay {c} {after} {f} {ended} {e} {erasing} {rests} s h = record {
  each = λ i d l. source_kept (get_or rests i d).source (λ name p is. page_stays s) (h.each i d l);
}

-- both, where the disk becomes another
abbrev pub HeldStay : Translation → Disk → Type 0
HeldStay t d = PinsRight (book t) t.ledger.frontier d.cells d.finished d.erasing t.pins
    × RestsRight d.cells d.finished d.erasing t.work.rests

pub held_stay : {t : Translation} (d : Disk) → Valid t →
    StayThere t.disk.cells t.disk.finished t.disk.erasing d.cells d.finished d.erasing → HeldStay t d
held_stay {t} d v s = (pins_stay (λ n i e h. h) s v.pins, rests_stay s v.rests)

-- Jobs that end

-- a page that was nothing is written
pub stay_written : (c : Cells) (f : Place → Bool) (e : Spot → Bool) (p : Place) (y : Cell) → c p ≡ Nothing →
    StayThere c f e (at_place c p y) (at_place f p true) e
stay_written c f e p y blank q some ended stays =
    let out : q ≢ p = λ (h : q ≡ p). some (ap c h ∙ blank) in
    record { there = at_place_other c p y q out; ended = at_place_other f p true q out ∙ ended; stays = stays }

-- or its program failed
pub stay_failed : (c left : Cells) (f : Place → Bool) (e : Spot → Bool) (p : Place) (X : Place → Type 0) →
    c p ≡ Nothing → ((q : Place) → (left q ≡ c q) ⊎ ((q ≡ p) × X q)) → StayThere c f e left (at_place f p false) e
stay_failed c left f e p X blank by q some ended stays =
    let out : q ≢ p = λ (h : q ≡ p). some (ap c h ∙ blank) in
    record {
      there = ⊎_elim (λ k. k) (λ (k : (q ≡ p) × X q). absurd (out k.0)) (by q);
      ended = at_place_other f p false q out ∙ ended;
      stays = stays;
    }

outside : (e : Spot → Bool) (s : Spot) (q : Place) → e s ≡ true → e (spot_of q) ≡ false → spot_of q ≢ s
outside e s q counted stays h = true_is_not_false counted (sym (ap e h) ∙ stays)

pub stay_erased : (d : Disk) (s : Spot) → d.erasing s ≡ true → StayThere d.cells d.finished d.erasing (erased d s).cells
    d.finished (at_spot d.erasing s false)
stay_erased d s counted q some ended stays =
    let out = outside d.erasing s q counted stays in
    record {
      there = erased_other d s q out;
      ended = ended;
      stays = at_spot_other d.erasing s false (spot_of q) out ∙ stays;
    }

pub stay_unerased : (c left : Cells) (f : Place → Bool) (e : Spot → Bool) (s : Spot) (X : Place → Type 0) → e s ≡ true →
    ((q : Place) → (left q ≡ c q) ⊎ ((spot_of q ≡ s) × X q)) → StayThere c f e left f e
stay_unerased c left f e s X counted by q some ended stays = record {
  there = ⊎_elim (λ k. k) (λ (k : (spot_of q ≡ s) × X q). absurd (outside e s q counted stays k.0)) (by q);
  ended = ended;
  stays = stays;
}

-- An erase that begins

pub none_in : {A : Type 0} (test : A → Bool) (xs : List A) → list_any test xs ≡ false → All (λ x. test x ≡ false) xs
none_in test [] h = All-nil (λ x. test x ≡ false)
none_in test (x ∷ xs) h =
    let both = or_parts (test x) (list_any test xs) h in
    All-cons (λ y. test y ≡ false) x xs both.0 (none_in test xs both.1)

pub page_begun : {c : Cells} {f : Place → Bool} {e : Spot → Bool} (s : Spot) {name : Name} {p : Place} →
    same_spot (spot_of p) s ≡ false → IsGroupPage c f e name p → IsGroupPage c f (at_spot e s true) name p
page_begun {e = e} s {p = p} out h = record {
  tag = h.tag;
  body = h.body;
  there = h.there;
  is = h.is;
  ended = h.ended;
  stays = cond-false (same_spot (spot_of p) s) true (e (spot_of p)) out ∙ h.stays;
}

-- a block that is not pinned begins to be erased
pub held_begun : (t : Translation) (s : Spot) (d : Disk) → Valid t → is_pinned t s ≡ false →
    d.cells ≡ t.disk.cells → d.finished ≡ t.disk.finished → d.erasing ≡ at_spot t.disk.erasing s true → HeldStay t d
held_begun t s d v free cells finished erasing = subst
    (λ (x : Cells × ((Place → Bool) × (Spot → Bool))).
    PinsRight (book t) t.ledger.frontier x.0 x.1.0 x.1.1 t.pins × RestsRight x.0 x.1.0 x.1.1 t.work.rests)
    (λ j. (sym cells j, (sym finished j, sym erasing j))) (
      record {
        each = λ k x l. looked_kept (book t) (book t) t.ledger.frontier (get_or t.pins k x).looked (λ n i y h. h)
            (λ name p is. page_begun s (sym (ap (looks_into s) is) ∙ pins k x l)) (v.pins.each k x l);
      },
      record {
        each = λ k x l. source_kept (get_or t.work.rests k x).source
            (λ name p is. page_begun s (sym (ap (reads_from s) is) ∙ rests k x l)) (v.rests.each k x l);
      },
    )
  where
    c : Cells
    c = t.disk.cells

    f : Place → Bool
    f = t.disk.finished

    e : Spot → Bool
    e = t.disk.erasing

    both : (list_any (λ (pin : Pin). looks_into s pin.looked) t.pins ≡ false)
        × (list_any (λ (rest : Rest). reads_from s rest.source) t.work.rests ≡ false)
    both = or_parts _ _ free

    pins : All (λ (pin : Pin). looks_into s pin.looked ≡ false) t.pins
    pins = none_in (λ (pin : Pin). looks_into s pin.looked) t.pins both.0

    rests : All (λ (rest : Rest). reads_from s rest.source ≡ false) t.work.rests
    rests = none_in (λ (rest : Rest). reads_from s rest.source) t.work.rests both.1

-- Pins that change

pub pins_wanted : {b : Book} {frontier : ℕ} {c : Cells} {f : Place → Bool} {e : Spot → Bool} (tag index : ℕ)
    (wanted : Bool) {pins : List Pin} →
    PinsRight b frontier c f e pins → PinsRight b frontier c f e (map (with_wanted tag index wanted) pins)
pins_wanted {b} {frontier} {c} {f} {e} tag index wanted {pins} h = record {
  each = All-map (λ (pin : Pin). LookedRight b frontier c f e pin.looked) (with_wanted tag index wanted) pins
      (All-weaker (λ (pin : Pin). LookedRight b frontier c f e pin.looked)
      (λ (pin : Pin). LookedRight b frontier c f e (with_wanted tag index wanted pin).looked)
      (λ pin r. same pin (is_pin_of tag index pin) r) pins h.each);
}
  where
    same : (pin : Pin) (x : Bool) → LookedRight b frontier c f e pin.looked →
        LookedRight b frontier c f e (if x then record pin { wanted = wanted } else pin).looked
    same pin true r = r
    same pin false r = r

-- Slots that become pages

-- what was recorded is under the number of a page that no frontier has reached
abbrev pub Settles : Book → ℕ → Ledger → Cells → (Place → Bool) → (Spot → Bool) → Type 0
Settles b frontier l c f e = (name : Name) (x : Entry) → IsPageAt b name.number name.index x → frontier < name.number →
    name.number ≤ l.frontier → (p : Place) × (l.standing name.number name.index ≡ Some p) × IsGroupPage c f e name p

looked_settles : (b : Book) (frontier : ℕ) (l : Ledger) (c after : Cells) (f ended : Place → Bool)
    (e erasing : Spot → Bool) (x : Looked) → StayThere c f e after ended erasing →
    Settles b frontier l after ended erasing → LookedRight b frontier c f e x →
    LookedRight b l.frontier after ended erasing (settled_look l x)
looked_settles b frontier l c after f ended e erasing Unwritten s settles h = tt
looked_settles b frontier l c after f ended e erasing (OnPage name p) s settles h = page_stays s h
looked_settles b frontier l c after f ended e erasing (InSlot name) s settles h =
    by (nat_lt l.frontier name.number) refl
  where
    by : (above : Bool) → nat_lt l.frontier name.number ≡ above → LookedRight b l.frontier after ended erasing
        (if above then InSlot name else looked_on name (l.standing name.number name.index))
    by true above = (ltb-true l.frontier name.number above, h.1)
    by false under =
        let r = settles name h.1.0 h.1.1 h.0 (ltb-false l.frontier name.number under) in
        subst (λ (o : Option Place). LookedRight b l.frontier after ended erasing (looked_on name o)) (sym r.1) r.2

pub pins_settle : {b : Book} {frontier : ℕ} (l : Ledger) {c after : Cells} {f ended : Place → Bool} {e erasing : Spot →
    Bool} {pins : List Pin} → StayThere c f e after ended erasing → Settles b frontier l after ended erasing →
    PinsRight b frontier c f e pins → PinsRight b l.frontier after ended erasing (map (settled_pin l) pins)
pins_settle {b} {frontier} l {c} {after} {f} {ended} {e} {erasing} {pins} s settles h = record {
  each = All-map (λ (pin : Pin). LookedRight b l.frontier after ended erasing pin.looked) (settled_pin l) pins
      (All-weaker (λ (pin : Pin). LookedRight b frontier c f e pin.looked)
      (λ (pin : Pin). LookedRight b l.frontier after ended erasing (settled_look l pin.looked))
      (λ pin r. looked_settles b frontier l c after f ended e erasing pin.looked s settles r) pins h.each);
}

pub settles : (b : Book) (marked frontier : ℕ) (l : Ledger) (c : Cells) (f : Place → Bool) (blocks : Spot → BlockState)
    (e : Spot → Bool) → b.greatest_seen ≤ frontier → FrontierRight b l.standing l.frontier →
    SafeRight b marked l.standing c f blocks e → ((n i : ℕ) (x : Entry) → IsPageAt b n i x → frontier < n →
    marked ≤ frontier) → Settles b frontier l c f e
settles b marked frontier l c f blocks e low fr safe under name x is above within =
    let at = fr.stand name.number name.index x within is in (
      at.0,
      at.1,
      secure_page at.1
          (⊎_elim (λ k. k) (λ k. absurd (never k.by))
          (safe.safe name.number name.index x at.0 is at.1 (λ lost. let z = lost.to in
          omega (arith, z, low, above)))),
    )
  where
    never : IsOverwritten b name.number x.item.key marked → ⊥
    never o =
        let m = under name.number name.index x is above in
        let n = o.newer in
        let w = o.within in
        omega (arith, m, n, w, above)
