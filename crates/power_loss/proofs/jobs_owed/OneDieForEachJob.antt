-- What a die may be given while others work, and after what a copy is programmed.
use Rattle.power_loss.proofs.Common.{◌≡◌, ◌≢◌, ℕ, ◌<◌, ◌⊎◌, if◌then◌else◌, Bool, true, false, List, [], ◌∷◌, ◌++◌}
use Rattle.power_loss.proofs.Common.{Option, Some, None, refl, sym, ap, ◌∙◌, subst, inl, inr, ⊎_elim, arith, filter_map}
use Rattle.power_loss.proofs.Common.{one_page as page_tells, false≢true, none-some, not-true, same_Some, eqb-self}
use Rattle.power_loss.proofs.Common.{GroupPage, Mark, MarkPage, Nothing, Flight, ForRest, ForStep, ForTask, Programming}
use Rattle.power_loss.proofs.Common.{Reader, Reading, below, Entry, Looked, Name, OnPage, accepted_groups}
use Rattle.power_loss.proofs.Common.{before_accepted, same_name, is_kind_of, CopyStep, FromPage, FromSlot, MarkStep}
use Rattle.power_loss.proofs.Common.{MayTake, Pin, RepairStep, Rest, Source, Step, StepKind, Translation, Want}
use Rattle.power_loss.proofs.Common.{cell_of_entry, flies_mark, flies_name, name_of, some_flight, step_cell, step_flies}
use Rattle.power_loss.proofs.Common.{tag_of, want_at, wants_of_step, Place, Tag, name_self}
use Rattle.ufs_spec.specs.Ledger.{entry_of}
use Rattle.ufs_spec.specs.Translation.{flies_reader, is_of_die, is_unread, same_reader, want_of_kind, want_of_look}
use Rattle.ufs_spec.specs.Translation.{want_of_pin, want_of_rest, want_of_source, wants, wants_on}
use Rattle.power_loss.specs.OwedJobs.{IsFirstProgram, IsStepsPage}
use Rattle.power_loss.proofs.collected_blocks.FewestLivePages.{in_any}
use Rattle.power_loss.proofs.ordered_lists.ElementsAndOrders.{IsIn, contained_in, filter_in, in_below, in_either}
use Rattle.power_loss.proofs.ordered_lists.ElementsAndOrders.{mapped_in}
use Rattle.power_loss.proofs.jobs_owed.ProgramsAndErases.{page_owed}
use Rattle.power_loss.proofs.jobs_owed.WhatWaits.{name_of_group}

-- Flights

-- no die does what no flight is
none_flies : (t : Translation) (test : Option Flight → Bool) (other : ℕ) → some_flight t test ≡ false →
    other < t.numbers.dies → test (t.disk.flights other) ≡ true → ⊥
none_flies t test other none l h =
    false≢true (sym none ∙ in_any (λ die. test (t.disk.flights die)) other (below t.numbers.dies)
    (in_below t.numbers.dies other l) h)

-- The page that is owed

page_now : (name : Name) (o : Option Entry) (frontier : ℕ) (tag : Tag) (body : List ℕ) →
    cell_of_entry name o frontier ≡ GroupPage tag body → name_of tag ≡ name
page_now name None frontier tag body h = absurd (apart h)
  where
    apart : Nothing ≡ GroupPage tag body → ⊥
    apart e = cc
page_now name (Some e) frontier tag body h =
    sym (ap name_of (page_tells (tag_of name e frontier) tag e.item.body body h).0)

now_mark : (name : Name) (o : Option Entry) (frontier : ℕ) (m : Mark) → cell_of_entry name o frontier ≡ MarkPage m → ⊥
now_mark name None frontier m h = cc
now_mark name (Some e) frontier m h = cc

page_mark : (tag : Tag) (body : List ℕ) (m : Mark) → MarkPage m ≡ GroupPage tag body → ⊥
page_mark tag body m e = cc

-- One die each

-- the step's page has its name, and no die programs it
record StepNamed (t : Translation) (step : Step) (tag : Tag) : Type 0 where
  pub kind : is_kind_of (name_of tag) step.kind ≡ true
  pub flies : some_flight t (flies_name (name_of tag)) ≡ false

step_named : (t : Translation) (step : Step) (kind : StepKind) (tag : Tag) (body : List ℕ) → step.kind ≡ kind →
    step_flies t kind ≡ false → step_cell t kind ≡ GroupPage tag body → StepNamed t step tag
step_named t step (MarkStep number fence) tag body e none h = absurd (page_mark tag body _ h)
step_named t step (CopyStep name from) tag body e none h =
    let n = page_now name (entry_of t.ledger name) t.ledger.frontier tag body h in
    record {
      kind = ap (is_kind_of (name_of tag)) e ∙ ap (λ z. same_name z name) n ∙ name_self name;
      flies = ap (λ z. some_flight t (flies_name z)) n ∙ none;
    }
step_named t step (RepairStep name from) tag body e none h =
    let n = page_now name (entry_of t.ledger name) t.ledger.frontier tag body h in
    record {
      kind = ap (is_kind_of (name_of tag)) e ∙ ap (λ z. same_name z name) n ∙ name_self name;
      flies = ap (λ z. some_flight t (flies_name z)) n ∙ none;
    }

no_page_flies : (t : Translation) (die : ℕ) (p : Place) (tag : Tag) (body : List ℕ) →
    MayTake t die (Some (Programming p (GroupPage tag body))) → some_flight t (flies_name (name_of tag)) ≡ false
no_page_flies t die p tag body may = ⊎_elim (λ s. (step_named t s.step s.step.kind tag body refl s.flies s.is).flies)
    (λ s. ap (λ z. some_flight t (flies_name z))
    (page_now s.0 (entry_of t.ledger s.0) t.ledger.frontier tag body (sym s.1)) ∙ s.2.flies)
    (page_owed t die p (GroupPage tag body) may)

pub one_page : (t : Translation) (die other : ℕ) (p q : Place) (tag flying : Tag) (body bytes : List ℕ) →
    MayTake t die (Some (Programming p (GroupPage tag body))) → other < t.numbers.dies →
    t.disk.flights other ≡ Some (Programming q (GroupPage flying bytes)) → name_of flying ≢ name_of tag
one_page t die other p q tag flying body bytes may l job e =
    none_flies t (flies_name (name_of tag)) other (no_page_flies t die p tag body may) l
    (ap (flies_name (name_of tag)) job ∙ ap (same_name (name_of tag)) e ∙ name_self (name_of tag))

no_mark_flies : (t : Translation) (kind : StepKind) (m : Mark) → step_flies t kind ≡ false →
    step_cell t kind ≡ MarkPage m → some_flight t flies_mark ≡ false
no_mark_flies t (MarkStep number fence) m none h = none
no_mark_flies t (CopyStep name from) m none h = absurd (now_mark name (entry_of t.ledger name) t.ledger.frontier m h)
no_mark_flies t (RepairStep name from) m none h = absurd (now_mark name (entry_of t.ledger name) t.ledger.frontier m h)

pub one_mark : (t : Translation) (die other : ℕ) (p q : Place) (m flying : Mark) →
    MayTake t die (Some (Programming p (MarkPage m))) → other < t.numbers.dies →
    t.disk.flights other ≡ Some (Programming q (MarkPage flying)) → ⊥
one_mark t die other p q m flying may l job = ⊎_elim
    (λ s. none_flies t flies_mark other (no_mark_flies t s.step.kind m s.flies s.is) l (ap flies_mark job))
    (λ s. now_mark s.0 (entry_of t.ledger s.0) t.ledger.frontier m (sym s.1)) (page_owed t die p (MarkPage m) may)

-- A page after its content

pub given : (t : Translation) (die : ℕ) (p : Place) (tag : Tag) (body : List ℕ) →
    MayTake t die (Some (Programming p (GroupPage tag body))) →
    IsFirstProgram t (name_of tag) ⊎ IsStepsPage t (name_of tag)
given t die p tag body may = ⊎_elim
    (λ s. inr (record {
      step = s.step;
      under_way = s.under_way;
      page = (step_named t s.step s.step.kind tag body refl s.flies s.is).kind;
      there = s.there;
    }))
    (λ s.
    let n = name_of_group (before_accepted t.ledger) (accepted_groups t.ledger) s.0 s.2.behind in
    inl (subst (IsFirstProgram t) (sym (page_now s.0 (entry_of t.ledger s.0) t.ledger.frontier tag body (sym s.1)))
    (record { accepted = let e = n.number in omega arith; nowhere = s.2.nowhere; there = s.2.whole })))
    (page_owed t die p (GroupPage tag body) may)

-- Reads

look_want : {reader : Reader} (looked : Looked) {w : Want} → want_of_look reader looked ≡ Some w →
    (name : Name) × (looked ≡ OnPage name w.place) × (w.reader ≡ reader)
look_want {reader} (OnPage name place) {w} h =
    let e = same_Some (want_at reader place) w h in
    (name, ap (λ (z : Want). OnPage name z.place) e, ap (λ (z : Want). z.reader) (sym e))
look_want looked {w} h = absurd (none-some w h)

pin_want : (pin : Pin) {w : Want} → want_of_pin pin ≡ Some w →
    (name : Name) × (pin.looked ≡ OnPage name w.place) × (w.reader ≡ ForTask pin.tag pin.index)
pin_want pin {w} h = by pin.wanted h
  where
    by : (b : Bool) → (if b then want_of_look (ForTask pin.tag pin.index) pin.looked else None) ≡ Some w →
        (name : Name) × (pin.looked ≡ OnPage name w.place) × (w.reader ≡ ForTask pin.tag pin.index)
    by true k = look_want pin.looked k
    by false k = absurd (none-some w k)

source_want : {reader : Reader} (source : Source) {w : Want} → want_of_source reader source ≡ Some w →
    (source ≡ FromPage w.place) × (w.reader ≡ reader)
source_want {reader} (FromPage place) {w} h =
    let e = same_Some (want_at reader place) w h in
    (ap (λ (z : Want). FromPage z.place) e, ap (λ (z : Want). z.reader) (sym e))
source_want (FromSlot name) {w} h = absurd (none-some w h)

kind_want : (kind : StepKind) {w : Want} → want_of_kind kind ≡ Some w → w.reader ≡ ForStep
kind_want (CopyStep name from) {w} h = sym (ap (λ (z : Want). z.reader) (same_Some (want_at ForStep from) w h))
kind_want (RepairStep name (Some from)) {w} h = sym (ap (λ (z : Want). z.reader) (same_Some (want_at ForStep from) w h))
kind_want kind {w} h = absurd (none-some w h)

pub step_want : (s : Option Step) (w : Want) → IsIn w (wants_of_step s) → w.reader ≡ ForStep
step_want None w h = absurd h
step_want (Some step) w h = by step.there h
  where
    by : (b : Bool) → IsIn w (if b then [] else filter_map want_of_kind (step.kind ∷ [])) → w.reader ≡ ForStep
    by true k = absurd k
    by false k = let r = mapped_in want_of_kind (step.kind ∷ []) k in kind_want r.0 r.2

-- what a read that is wanted is for: a page that a task keeps, the step under way, or the rest of a page
abbrev IsOfPin : Translation → Want → Type 0
IsOfPin t w = (pin : Pin) × IsIn pin t.pins
    × ((name : Name) × (pin.looked ≡ OnPage name w.place) × (w.reader ≡ ForTask pin.tag pin.index))

abbrev IsOfRest : Translation → Want → Type 0
IsOfRest t w = (rest : Rest) × IsIn rest t.work.rests
    × ((rest.source ≡ FromPage w.place) × (w.reader ≡ ForRest rest.name.number rest.name.index))

abbrev pub IsOf : Translation → Want → Type 0
IsOf t w = IsOfPin t w ⊎ (IsIn w (wants_of_step t.work.step) ⊎ IsOfRest t w)

-- the read that is owed is one of those wanted, and no die does it
pub read_owed : (t : Translation) (die : ℕ) (reader : Reader) (place : Place) →
    MayTake t die (Some (Reading reader place)) →
    IsOf t (want_at reader place) × (is_unread t (want_at reader place) ≡ true)
read_owed t die reader place may = (of_what, unread.1)
  where
    w : Want
    w = want_at reader place

    pins : List Want
    pins = filter_map want_of_pin t.pins

    rests : List Want
    rests = filter_map want_of_rest t.work.rests

    unread : IsIn w (pins ++ wants_of_step t.work.step ++ rests) × (is_unread t w ≡ true)
    unread = filter_in (is_unread t) w (pins ++ wants_of_step t.work.step ++ rests)
        (filter_in (is_of_die die) w (wants t) (contained_in (wants_on t die) may.1)).0

    of_what : IsOf t w
    of_what = ⊎_elim
        (λ k. ⊎_elim (λ j. let r = mapped_in want_of_pin t.pins j in inl (r.0, r.1, pin_want r.0 r.2))
        (λ j. inr (inl j)) (in_either w pins (wants_of_step t.work.step) k))
        (λ k.
        let r = mapped_in want_of_rest t.work.rests k in
        inr (inr (r.0, r.1, source_want r.0.source r.2)))
        (in_either w (pins ++ wants_of_step t.work.step) rests unread.0)

same_as : (t : Translation) (reader : Reader) (place : Place) → IsOf t (want_at reader place) →
    same_reader reader reader ≡ true
same_as t reader place (inl h) = ap (λ r. same_reader r r) h.2.2 ∙ rw (eqb-self h.0.tag) (eqb-self h.0.index)
same_as t reader place (inr (inl h)) = ap (λ r. same_reader r r) (step_want t.work.step (want_at reader place) h)
same_as t reader place (inr (inr h)) =
    ap (λ r. same_reader r r) h.2.1 ∙ rw (eqb-self h.0.name.number) (eqb-self h.0.name.index)

pub one_read : (t : Translation) (die other : ℕ) (reader : Reader) (p q : Place) →
    MayTake t die (Some (Reading reader p)) → other < t.numbers.dies →
    t.disk.flights other ≡ Some (Reading reader q) → ⊥
one_read t die other reader p q may l job =
    let o = read_owed t die reader p may in
    none_flies t (flies_reader reader) other (not-true (some_flight t (flies_reader reader)) o.1) l
    (ap (flies_reader reader) job ∙ same_as t reader p o.0)
