-- Pins of which no call speaks stay as they are.
use Rattle.readers.proofs.Common.{Bool, List, Lives, Pin, Rises, RowPins, [], ap, arith, count_by, drop, false, filter}
use Rattle.readers.proofs.Common.{find, fold, if◌then◌else◌, is_of_reader, is_owed_by, is_pin_of, is_slotted, is_wanted}
use Rattle.readers.proofs.Common.{let_go, map, moved_pin, not, pin_moves, refl, subst, sym, take, true, wanted_no_more}
use Rattle.readers.proofs.Common.{wanted_now, with_pins, ℕ, ◌+◌, ◌<◌, ◌∙◌, ◌∷◌, ◌≡◌}
use Rattle.std.proofs.Common.{None, Some, cond, ◌&&◌, ◌==◌, ◌≢◌}
use Rattle.std.specs.Prelude.{Option, slice_index_or}
use Rattle.std.proofs.lemmas.Bool.{and_right}
use Rattle.std.proofs.lemmas.List.Sums.{sum_by-cons}
use Rattle.ufs_spec.proofs.Facts.{eqb-self, eqb-true, false≢true, true≢false}
use Rattle.ufs_spec.specs.declared.layer.Looked.{Looked}
use Rattle.ufs_spec.specs.declared.layer.Looked.TheVariants.{InSlot, OnPage, Unwritten}
use Rattle.block_table.specs.declared.rows.DieRow.{DieRow}
use Rattle.unit_map.specs.declared.Stored.{Stored}
use Rattle.readers.specs.Pins.{block_pinned, block_unpinned, is_slot_of, now_stored}
use Rattle.readers.specs.Rows.{first_let_go, first_set, is_in_slot, starts_at}
use Rattle.readers.proofs.Rises.{count_on}

-- no pin passes the test
abbrev pub NoneOf : (Pin → Bool) → List Pin → Type 0
NoneOf test [] = Unit {0}
NoneOf test (p ∷ ps) = (test p ≡ false) × NoneOf test ps

-- then none is found
pub none_found : (test : Pin → Bool) (ps : List Pin) → NoneOf test ps → find test ps ≡ None
none_found test [] n = refl
none_found test (p ∷ ps) n = ap (λ (b : Bool). cond b (Some p) (find test ps)) n.0 ∙ none_found test ps n.1

-- and all are left
pub none_left : (test : Pin → Bool) (ps : List Pin) → NoneOf test ps → filter (λ p. not (test p)) ps ≡ ps
none_left test [] n = refl
none_left test (p ∷ ps) n =
    ap (λ (b : Bool). cond (not b) (p ∷ filter (λ q. not (test q)) ps) (filter (λ q. not (test q)) ps)) n.0
    ∙ ap (λ (qs : List Pin). p ∷ qs) (none_left test ps n.1)

-- and no block has a pin less
pub none_gone : (test : Pin → Bool) (ps : List Pin) (l : Lives) → NoneOf test ps → fold (let_go test) l ps ≡ l
none_gone test [] l n = refl
none_gone test (p ∷ ps) l n =
    ap (λ (b : Bool). fold (let_go test) (if b then block_unpinned l p.looked else l) ps) n.0 ∙ none_gone test ps l n.1

-- and no page is wanted that was not
pub none_wanted : (reader index : ℕ) (ps : List Pin) → NoneOf (is_pin_of reader index) ps →
    map (wanted_now reader index) ps ≡ ps
none_wanted reader index [] n = refl
none_wanted reader index (p ∷ ps) n =
    ap (λ (b : Bool). record p { wanted = if b then true else p.wanted } ∷ map (wanted_now reader index) ps) n.0
    ∙ ap (λ (qs : List Pin). p ∷ qs) (none_wanted reader index ps n.1)

-- and each page that was wanted still is
pub none_unwanted : (reader index : ℕ) (ps : List Pin) → NoneOf (is_pin_of reader index) ps →
    map (wanted_no_more reader index) ps ≡ ps
none_unwanted reader index [] n = refl
none_unwanted reader index (p ∷ ps) n =
    ap (λ (b : Bool). record p { wanted = if b then false else p.wanted } ∷ map (wanted_no_more reader index) ps) n.0
    ∙ ap (λ (qs : List Pin). p ∷ qs) (none_unwanted reader index ps n.1)

-- two numbers that differ fail the test
pub differ : (a b : ℕ) → a ≢ b → (a == b) ≡ false
differ a b ne = by (a == b) refl
  where
    by : (t : Bool) → (a == b) ≡ t → t ≡ false
    by true e = absurd (ne (eqb-true a b e))
    by false e = refl

-- a row has no pin of another reader
pub other_pins : (reader other index from next : ℕ) (ps : List Pin) → reader ≢ other → Rises reader from next ps →
    NoneOf (is_pin_of other index) ps
other_pins reader other index from next [] ne rises = tt
other_pins reader other index from next (p ∷ ps) ne rises = (
  ap (λ (r : ℕ). (r == other) && (p.index == index)) rises.0
      ∙ ap (λ (b : Bool). b && (p.index == index)) (differ reader other ne),
  other_pins reader other index (p.index + 1) next ps ne rises.1.1,
)

pub other_readers : (reader other from next : ℕ) (ps : List Pin) → reader ≢ other → Rises reader from next ps →
    NoneOf (is_of_reader other) ps
other_readers reader other from next [] ne rises = tt
other_readers reader other from next (p ∷ ps) ne rises = (
  ap (λ (r : ℕ). r == other) rises.0 ∙ differ reader other ne,
  other_readers reader other (p.index + 1) next ps ne rises.1.1,
)

-- pins behind an index are of no block at it or before it
pub passed_pins : (reader of index from next : ℕ) (ps : List Pin) → index < from → Rises reader from next ps →
    NoneOf (is_pin_of of index) ps
passed_pins reader of index from next [] less rises = tt
passed_pins reader of index from next (p ∷ ps) less rises =
    let there = rises.1.0 in (
      and_right (p.reader == of) (p.index == index) (differ p.index index (omega (arith, there, less))),
      passed_pins reader of index (p.index + 1) next ps (omega (arith, there, less)) rises.1.1,
    )

-- a row has pins of its reader alone
pub all_gone : (reader from next : ℕ) (ps : List Pin) → Rises reader from next ps →
    filter (λ p. not (is_of_reader reader p)) ps ≡ []
all_gone reader from next [] rises = refl
all_gone reader from next (p ∷ ps) rises =
    ap (λ (b : Bool). cond (not b) (p ∷ filter (λ q. not (is_of_reader reader q)) ps)
    (filter (λ q. not (is_of_reader reader q)) ps))
    (ap (λ (r : ℕ). r == reader) rises.0 ∙ eqb-self reader)
    ∙ all_gone reader (p.index + 1) next ps rises.1.1

-- where none is counted, none passes the test
pub none_counted : (test : Pin → Bool) (ps : List Pin) → count_by test ps ≡ 0 → NoneOf test ps
none_counted test [] e = tt
none_counted test (p ∷ ps) e =
    let more = sum_by-cons (λ (x : Pin). cond (test x) 1 0) p ps in
    (by (test p) (omega (arith, more, e)), none_counted test ps (omega (arith, more, e)))
  where
    by : (b : Bool) → ◌≡◌ {A = ℕ} (cond b 1 0) 0 → b ≡ false
    by true z = absurd (omega (arith, z))
    by false z = refl

-- no reader is owed a read where no page is wanted
pub none_owed : (rows : List DieRow) (die : ℕ) (ps : List Pin) → NoneOf is_wanted ps → NoneOf (is_owed_by rows die) ps
none_owed rows die [] n = tt
none_owed rows die (p ∷ ps) n =
    (ap (λ (b : Bool). is_owed_by rows die (record p { wanted = b })) n.0, none_owed rows die ps n.1)

-- where the first pin alone is wanted, no other is owed a read
pub first_alone : (rows : List DieRow) (die : ℕ) (ps : List Pin) (p : Pin) → 0 < count_by is_wanted ps →
    p ≡ slice_index_or ps 0 p → (if p.wanted then 1 else 0) ≡ count_by is_wanted ps →
    (if is_owed_by rows die p then Some p else None) ≡ find (is_owed_by rows die) ps
first_alone rows die [] p some at alone = absurd (omega (arith, some))
first_alone rows die (q ∷ ps) p some at alone =
    let owed = is_owed_by rows die in
    let counted = count_on is_wanted q ps in
    let one : ◌≡◌ {A = ℕ} (if q.wanted then 1 else 0) (count_by is_wanted (q ∷ ps)) =
    subst (λ (x : Pin). (if x.wanted then 1 else 0) ≡ count_by is_wanted (q ∷ ps)) at alone in
    let none = none_found owed ps (none_owed rows die ps
    (none_counted is_wanted ps (omega (arith, counted, one)))) in
    ap (λ (x : Pin). if owed x then Some x else None) at ∙ ap (λ (o : Option Pin). if owed q then Some q else o) (sym none)

in_place : (st : Stored) (k : Looked) → is_in_slot k ≡ false → now_stored st k ≡ k
in_place st (InSlot name) e = absurd (true≢false e)
in_place st (OnPage name place) e = refl
in_place st Unwritten e = refl

no_slot : (st : Stored) (k : Looked) → is_in_slot k ≡ false → is_slot_of st k ≡ false
no_slot st (InSlot name) e = absurd (true≢false e)
no_slot st (OnPage name place) e = refl
no_slot st Unwritten e = refl

-- pins that look into no slot keep their place
pub none_moved : (st : Stored) (ps : List Pin) → NoneOf is_slotted ps → map (moved_pin st) ps ≡ ps
none_moved st [] n = refl
none_moved st (p ∷ ps) n =
    ap (λ (k : Looked). record p { looked = k } ∷ map (moved_pin st) ps) (in_place st p.looked n.0)
    ∙ ap (λ (qs : List Pin). p ∷ qs) (none_moved st ps n.1)

-- and no block has a pin more
pub none_come : (st : Stored) (ps : List Pin) (l : Lives) → NoneOf is_slotted ps → fold (pin_moves st) l ps ≡ l
none_come st [] l n = refl
none_come st (p ∷ ps) l n =
    ap (λ (b : Bool). fold (pin_moves st) (if b then block_pinned l (OnPage st.name st.place) else l) ps)
    (no_slot st p.looked n.0)
    ∙ none_come st ps l n.1

-- The first pin of a row goes

is_first : (reader index : ℕ) (p : Pin) → p.reader ≡ reader → p.index ≡ index → is_pin_of reader index p ≡ true
is_first reader index p of at =
    ap (λ (r : ℕ). (r == reader) && (p.index == index)) of
    ∙ ap (λ (i : ℕ). (reader == reader) && (i == index)) at
    ∙ ap (λ (b : Bool). b && (index == index)) (eqb-self reader)
    ∙ eqb-self index

-- it is the only one of its block
pub first_left : (reader index next : ℕ) (p : Pin) (ps : List Pin) → p.index ≡ index → Rises reader 0 next (p ∷ ps) →
    filter (λ q. not (is_pin_of reader index q)) (p ∷ ps) ≡ ps
first_left reader index next p ps at rises =
    ap (λ (b : Bool). cond (not b) (p ∷ filter (λ q. not (is_pin_of reader index q)) ps)
    (filter (λ q. not (is_pin_of reader index q)) ps)) (is_first reader index p rises.0 at)
    ∙ none_left (is_pin_of reader index) ps
    (passed_pins reader reader index (p.index + 1) next ps (omega (arith, at)) rises.1.1)

pub first_gone : (reader index next : ℕ) (p : Pin) (ps : List Pin) (l : Lives) → p.index ≡ index →
    Rises reader 0 next (p ∷ ps) → block_unpinned l p.looked ≡ fold (let_go (is_pin_of reader index)) l (p ∷ ps)
first_gone reader index next p ps l at rises =
    sym (ap (λ (b : Bool). fold (let_go (is_pin_of reader index)) (if b then block_unpinned l p.looked else l) ps)
    (is_first reader index p rises.0 at)
    ∙ none_gone (is_pin_of reader index) ps (block_unpinned l p.looked)
    (passed_pins reader reader index (p.index + 1) next ps (omega (arith, at)) rises.1.1))

-- the first pin goes where it is the one
pub first_dropped : (reader index next : ℕ) (ps : List Pin) → starts_at index ps ≡ true → Rises reader 0 next ps →
    drop 1 ps ≡ filter (λ q. not (is_pin_of reader index q)) ps
first_dropped reader index next [] starts rises = absurd (false≢true starts)
first_dropped reader index next (p ∷ ps) starts rises =
    sym (first_left reader index next p ps (eqb-true p.index index starts) rises)

pub first_freed : (reader index next : ℕ) (ps : List Pin) (l : Lives) → starts_at index ps ≡ true →
    Rises reader 0 next ps → fold first_let_go l (take 1 ps) ≡ fold (let_go (is_pin_of reader index)) l ps
first_freed reader index next [] l starts rises = absurd (false≢true starts)
first_freed reader index next (p ∷ ps) l starts rises =
    first_gone reader index next p ps l (eqb-true p.index index starts) rises

-- The first pin of a row changes

pub first_wanted : (reader index next : ℕ) (ps : List Pin) → starts_at index ps ≡ true → Rises reader 0 next ps →
    first_set true ps ≡ map (wanted_now reader index) ps
first_wanted reader index next [] starts rises = refl
first_wanted reader index next (p ∷ ps) starts rises =
    let at = eqb-true p.index index starts in
    sym (ap (λ (b : Bool). record p { wanted = if b then true else p.wanted } ∷ map (wanted_now reader index) ps)
    (is_first reader index p rises.0 at)
    ∙ ap (λ (qs : List Pin). record p { wanted = true } ∷ qs) (none_wanted reader index ps
    (passed_pins reader reader index (p.index + 1) next ps (omega (arith, at)) rises.1.1)))

pub first_unwanted : (reader index next : ℕ) (ps : List Pin) → starts_at index ps ≡ true → Rises reader 0 next ps →
    first_set false ps ≡ map (wanted_no_more reader index) ps
first_unwanted reader index next [] starts rises = refl
first_unwanted reader index next (p ∷ ps) starts rises =
    let at = eqb-true p.index index starts in
    sym (ap (λ (b : Bool). record p { wanted = if b then false else p.wanted } ∷ map (wanted_no_more reader index) ps)
    (is_first reader index p rises.0 at)
    ∙ ap (λ (qs : List Pin). record p { wanted = false } ∷ qs) (none_unwanted reader index ps
    (passed_pins reader reader index (p.index + 1) next ps (omega (arith, at)) rises.1.1)))

-- A row as contracts see it

-- its pins stay
pub row_stays : (h : List Pin → List Pin) (v r : RowPins) → v ≡ r → h v.pins ≡ v.pins → r ≡ with_pins r (h r.pins)
row_stays h v r e s = subst (λ (q : RowPins). q ≡ with_pins q (h q.pins)) e (sym (ap (with_pins v) s))

-- its pins change nothing
pub live_stays : (f : Lives → Pin → Lives) (l : Lives) (v r : RowPins) → v ≡ r → fold f l v.pins ≡ l →
    l ≡ fold f l r.pins
live_stays f l v r e s = sym (ap (λ (q : RowPins). fold f l q.pins) (sym e) ∙ s)

-- its pins change
pub row_becomes : (h : List Pin → List Pin) (v r : RowPins) (ps : List Pin) → v ≡ r → ps ≡ h v.pins →
    with_pins v ps ≡ with_pins r (h r.pins)
row_becomes h v r ps e s = ap (with_pins v) s ∙ ap (λ (q : RowPins). with_pins q (h q.pins)) e

pub row_rises : (v r : RowPins) (reader : ℕ) → v ≡ r → v.reader ≡ reader → Rises v.reader 0 v.next v.pins →
    Rises reader 0 r.next r.pins
row_rises v r reader e of rises =
    subst (λ (q : RowPins). Rises reader 0 q.next q.pins) e
    (subst (λ (d : ℕ). Rises d 0 v.next v.pins) of rises)
