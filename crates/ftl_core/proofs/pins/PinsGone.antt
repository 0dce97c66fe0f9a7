-- A reader lets go of all that it kept, or of one block: the other pins stay, and a read in flight for what it let go
-- is for nobody.
use Rattle.ftl_core.proofs.Common.{Bool, Core, DieRow, Entry, Flight, ForNobody, ForRest, ForStep, ForTask, GroupPage}
use Rattle.ftl_core.proofs.Common.{IsFlight, IsInNoSlot, Kept, List, Name, None, Numbers, OpenBlock, Option, Pin}
use Rattle.ftl_core.proofs.Common.{PinsKept, Place, Reader, RowKept, Some, Spot, Step, Translation, WritesGroup, [], ap}
use Rattle.ftl_core.proofs.Common.{false, filter, flies_name, if◌then◌else◌, is_of_reader, is_pin_of, length-map, moved}
use Rattle.ftl_core.proofs.Common.{none_some, not, refl, slice_get, some_is, subst, suc, sym, true, zero, ℕ, ◌&&◌, ◌==◌}
use Rattle.ftl_core.proofs.Common.{◌∙◌, ◌∷◌, ◌≡◌}
use Rattle.std.specs.Prelude.{cond, map}
use Rattle.ufs_spec.specs.Disk as disk
use Rattle.ufs_spec.specs.Ledger as ledger
use Rattle.ufs_spec.specs.Moves.{LetGo, LetGoAll, is_for, is_for_task, let_go, without_reader as layer_without}
use Rattle.ufs_spec.specs.Translation as layer
use Rattle.block_table.specs.declared.rows.Flight.TheVariants as flight
use Rattle.ftl_core.specs.Moves.{flight_without, flight_without_block, without_block, without_reader}
use Rattle.ftl_core.proofs.pins.FoundPins.{found_kept, pin_told}
use Rattle.ftl_core.proofs.pins.PinsDiffer.{differ_kept}
use Rattle.std.proofs.lemmas.List.Elements.{All-filter}

-- What is let go, by reader and index

abbrev is_gone : (ℕ → ℕ → Bool) → Reader → Bool
is_gone gone (ForTask tag index) = gone tag index
is_gone gone ForStep = false
is_gone gone ForNobody = false
is_gone gone (ForRest number index) = false

-- a read of a block that is let go is for nobody
abbrev flight_left : (ℕ → ℕ → Bool) → Option Flight → Option Flight
flight_left gone None = None
flight_left gone (Some (flight.Read place r)) =
    Some (flight.Read place (if is_gone gone r then ForNobody else r))
flight_left gone (Some (flight.Step place)) = Some (flight.Step place)
flight_left gone (Some (flight.Group place n i)) = Some (flight.Group place n i)
flight_left gone (Some (flight.Erase block)) = Some (flight.Erase block)

abbrev row_left : (ℕ → ℕ → Bool) → DieRow → DieRow
row_left gone b = record b { flight = flight_left gone b.flight }

abbrev is_left : (ℕ → ℕ → Bool) → Pin → Bool
is_left gone p = not (gone p.reader p.index)

abbrev is_kept : (ℕ → ℕ → Bool) → layer.Pin → Bool
is_kept gone q = not (gone q.tag q.index)

-- The reads in flight

-- the job in flight is as it was, or is a read that is for nobody now
flight_gone : (n : Numbers) (step : Option Step) (gone : ℕ → ℕ → Bool) (die : ℕ) (filling : Option OpenBlock)
    (f : Option Flight) (g : Option disk.Flight) → IsFlight n step die filling f g →
    IsFlight n step die filling (flight_left gone f) (layer_without (is_gone gone) g)
flight_gone n step gone die filling None None h = h
flight_gone n step gone die filling (Some (flight.Read place r)) (Some (disk.Reading who p)) h =
    (h.0, ap (λ (x : Reader). if is_gone gone x then ForNobody else x) h.1)
flight_gone n step gone die filling (Some (flight.Step place)) (Some (disk.Programming p cell)) h = h
flight_gone n step gone die filling (Some (flight.Group place m i)) (Some (disk.Programming p (GroupPage tag body))) h =
    h
flight_gone n step gone die filling (Some (flight.Erase block)) (Some (disk.Erasing s)) h = h
flight_gone n step gone die filling f g h = absurd h

-- what is known of each die
row_gone : (n : Numbers) (blocks : Spot → disk.BlockState) (step : Option Step) (gone : ℕ → ℕ → Bool) (die : ℕ)
    (b : DieRow) (g : Option disk.Flight) → RowKept n blocks step die b g →
    RowKept n blocks step die (row_left gone b) (layer_without (is_gone gone) g)
row_gone n blocks step gone die b g h = record {
  filling = h.filling;
  job = flight_gone n step gone die b.filling b.flight g h.job;
}

get_map : {A B : Type 0} (f : A → B) (xs : List A) (k : ℕ) (y : B) → slice_get (map f xs) k ≡ Some y →
    (x : A) × (slice_get xs k ≡ Some x) × (y ≡ f x)
get_map f [] k y h = absurd (none_some y h)
get_map f (x ∷ xs) zero y h = (x, refl, sym (some_is (f x) y h))
get_map f (x ∷ xs) (suc k) y h = get_map f xs k y h

same_names : (reads : Reader → Bool) (name : Name) (f : Option disk.Flight) →
    flies_name name (layer_without reads f) ≡ flies_name name f
same_names reads name None = refl
same_names reads name (Some (disk.Reading who p)) = refl
same_names reads name (Some (disk.Programming p cell)) = refl
same_names reads name (Some (disk.Erasing s)) = refl

-- a read that is for a task still was so before, and its block is not let go
reads_before : (gone : ℕ → ℕ → Bool) (g : Option disk.Flight) (tag index : ℕ) (place : Place) →
    layer_without (is_gone gone) g ≡ Some (disk.Reading (ForTask tag index) place) →
    (g ≡ Some (disk.Reading (ForTask tag index) place)) × (gone tag index ≡ false)
reads_before gone None tag index place e = cc
reads_before gone (Some (disk.Reading ForNobody p)) tag index place e = cc
reads_before gone (Some (disk.Reading ForStep p)) tag index place e = cc
reads_before gone (Some (disk.Reading (ForRest m i) p)) tag index place e = cc
reads_before gone (Some (disk.Programming p cell)) tag index place e = cc
reads_before gone (Some (disk.Erasing s)) tag index place e = cc
reads_before gone (Some (disk.Reading (ForTask a i) p)) tag index place e = by (gone a i) refl e
  where
    same : Some (disk.Reading (ForTask a i) p) ≡ Some (disk.Reading (ForTask tag index) place) →
        (a ≡ tag) × (i ≡ index)
    same x = (cc, cc)

    by : (b : Bool) → gone a i ≡ b → Some (disk.Reading (if b then ForNobody else ForTask a i) p) ≡ Some
        (disk.Reading (ForTask tag index) place) →
        (Some (disk.Reading (ForTask a i) p) ≡ Some (disk.Reading (ForTask tag index) place)) ×
        (gone tag index ≡ false)
    by true f x = cc
    by false f x = let s = same x in (x, (λ j. gone (sym s.0 j) (sym s.1 j)) ∙ f)

-- and so was a read for the step under way
step_before : (gone : ℕ → ℕ → Bool) (g : Option disk.Flight) (place : Place) →
    layer_without (is_gone gone) g ≡ Some (disk.Reading ForStep place) → g ≡ Some (disk.Reading ForStep place)
step_before gone None place e = cc
step_before gone (Some (disk.Reading ForNobody p)) place e = cc
step_before gone (Some (disk.Reading ForStep p)) place e = e
step_before gone (Some (disk.Reading (ForRest m i) p)) place e = cc
step_before gone (Some (disk.Programming p cell)) place e = cc
step_before gone (Some (disk.Erasing s)) place e = cc
step_before gone (Some (disk.Reading (ForTask a i) p)) place e = by (gone a i) e
  where
    by : (b : Bool) → Some (disk.Reading (if b then ForNobody else ForTask a i) p) ≡
        Some (disk.Reading ForStep place) → Some (disk.Reading (ForTask a i) p) ≡ Some (disk.Reading ForStep place)
    by true x = cc
    by false x = x

-- a die that writes a group's page wrote it before
still_group : (gone : ℕ → ℕ → Bool) (f : Option Flight) (place : Place) (number index : ℕ) →
    flight_left gone f ≡ Some (flight.Group place number index) → f ≡ Some (flight.Group place number index)
still_group gone None place number index e = cc
still_group gone (Some (flight.Read at r)) place number index e = cc
still_group gone (Some (flight.Step at)) place number index e = cc
still_group gone (Some (flight.Group at n i)) place number index e = e
still_group gone (Some (flight.Erase block)) place number index e = cc

wrote_still : (gone : ℕ → ℕ → Bool) (rows : List DieRow) (d number index : ℕ) →
    WritesGroup (map (row_left gone) rows) d number index → WritesGroup rows d number index
wrote_still gone rows d number index w =
    let r = get_map (row_left gone) rows d w.book w.there in
    record {
      book = r.0;
      there = r.1;
      place = w.place;
      job = still_group gone r.0.flight w.place number index (ap (λ (b : DieRow). b.flight) (sym r.2) ∙ w.job);
    }

-- What is kept

kept_pins : (gone : ℕ → ℕ → Bool) (frontier : ℕ) (entries : Name → Option Entry) (ps : List Pin)
    (qs : List layer.Pin) → PinsKept frontier entries ps qs →
    PinsKept frontier entries (filter (is_left gone) ps) (filter (is_kept gone) qs)
kept_pins gone frontier entries [] [] h = tt
kept_pins gone frontier entries [] (q ∷ qs) h = absurd h
kept_pins gone frontier entries (p ∷ ps) [] h = absurd h
kept_pins gone frontier entries (p ∷ ps) (q ∷ qs) h =
    by (is_left gone p) (is_kept gone q) (λ j. not (gone (h.0.tag j) (h.0.index j)))
    (kept_pins gone frontier entries ps qs h.1)
  where
    by : (b c : Bool) → c ≡ b → PinsKept frontier entries (filter (is_left gone) ps) (filter (is_kept gone) qs) →
        PinsKept frontier entries (cond b (p ∷ filter (is_left gone) ps) (filter (is_left gone) ps))
        (cond c (q ∷ filter (is_kept gone) qs) (filter (is_kept gone) qs))
    by true true f behind = (h.0, behind)
    by true false f behind = cc
    by false true f behind = cc
    by false false f behind = behind

left_kept : (c : Core) (t : Translation) (gone : ℕ → ℕ → Bool) → Kept c t →
    Kept (record c { rows = map (row_left gone) c.rows; pins = filter (is_left gone) c.pins })
    (let_go t (λ q. gone q.tag q.index) (is_gone gone))
left_kept c t gone k = record {
  numbers = k.numbers;
  blocks = k.blocks;
  dies = record {
    dies = length-map c.rows (row_left gone) ∙ k.dies.dies;
    each = λ die b at.
        let r = get_map (row_left gone) c.rows die b at in
        subst (λ (x : DieRow). RowKept t.numbers t.disk.blocks c.step die x
        (layer_without (is_gone gone) (t.disk.flights die))) (sym r.2)
        (row_gone t.numbers t.disk.blocks c.step gone die r.0 (t.disk.flights die) (k.dies.each die r.0 r.1));
    no_more = λ die above. ap (layer_without (is_gone gone)) (k.dies.no_more die above);
  };
  fly = record {
    one = λ d e name f g.
        k.fly.one d e name
        (sym (same_names (is_gone gone) name (t.disk.flights d)) ∙ f)
        (sym (same_names (is_gone gone) name (t.disk.flights e)) ∙ g);
    new = λ d number index w. k.fly.new d number index (wrote_still gone c.rows d number index w);
  };
  ledger_kept = k.ledger_kept;
  work = k.work;
  plan = k.plan;
  claims = k.claims;
  pins = kept_pins gone t.ledger.frontier (ledger.entry_of t.ledger) c.pins t.pins k.pins;
  differ = differ_kept (is_left gone) c.pins k.differ;
  reads = λ die tag index place e.
      let r = reads_before gone (t.disk.flights die) tag index place e in
      let w = k.reads die tag index place r.0 in (
        w.0,
        found_kept (is_pin_of tag index) (is_left gone)
            (λ p is. let told = pin_told tag index p is in
            ap not ((λ j. gone (told.0 j) (told.1 j)) ∙ r.1)) c.pins ∙ w.1,
        w.2,
      );
  step_reads = λ die place e. k.step_reads die place (step_before gone (t.disk.flights die) place e);
  readers = λ e. All-filter (is_left gone) (λ (p : Pin). IsInNoSlot p.looked) c.pins (k.readers e);
}

-- Of one block, or of all that a reader kept

-- what the rows and the layer make of their jobs
abbrev Lets : Type 0
Lets = (Option Flight → Option Flight) × (Reader → Bool)

-- the same, told in other ways
told_kept : (c : Core) (t : Translation) (gone : ℕ → ℕ → Bool) (without : Option Flight → Option Flight)
    (reads : Reader → Bool) → ((f : Option Flight) → without f ≡ flight_left gone f) →
    ((who : Reader) → reads who ≡ is_gone gone who) → Kept c t →
    Kept
    (record c {
      rows = map (λ (b : DieRow). record b { flight = without b.flight }) c.rows;
      pins = filter (is_left gone) c.pins;
    })
    (let_go t (λ q. gone q.tag q.index) reads)
told_kept c t gone without reads same same_reads k =
    subst
    (λ (z : Lets). Kept
    (record c {
      rows = map (λ (b : DieRow). record b { flight = z.0 b.flight }) c.rows;
      pins = filter (is_left gone) c.pins;
    })
    (let_go t (λ q. gone q.tag q.index) z.1))
    (λ i. (λ f. sym (same f) i, λ who. sym (same_reads who) i)) (left_kept c t gone k)

pub let_go_kept : (c : Core) (t : Translation) (reader : ℕ) → Kept c t →
    Kept
    (record c {
      rows = map (without_reader reader) c.rows;
      pins = filter (λ p. not (is_of_reader reader p)) c.pins;
    })
    (moved t (LetGoAll reader))
let_go_kept c t reader =
    told_kept c t (λ r i. r == reader) (flight_without reader) (is_for_task reader) same same_reads
  where
    same : (f : Option Flight) → flight_without reader f ≡ flight_left (λ r i. r == reader) f
    same None = refl
    same (Some (flight.Read place (ForTask r i))) = refl
    same (Some (flight.Read place ForStep)) = refl
    same (Some (flight.Read place ForNobody)) = refl
    same (Some (flight.Read place (ForRest number index))) = refl
    same (Some (flight.Step place)) = refl
    same (Some (flight.Group place n i)) = refl
    same (Some (flight.Erase block)) = refl

    same_reads : (who : Reader) → is_for_task reader who ≡ is_gone (λ r i. r == reader) who
    same_reads (ForTask tag index) = refl
    same_reads ForStep = refl
    same_reads ForNobody = refl
    same_reads (ForRest number index) = refl

pub let_one_go_kept : (c : Core) (t : Translation) (reader index : ℕ) → Kept c t →
    Kept
    (record c {
      rows = map (without_block reader index) c.rows;
      pins = filter (λ p. not (is_pin_of reader index p)) c.pins;
    })
    (moved t (LetGo reader index))
let_one_go_kept c t reader index =
    told_kept c t (λ r i. (r == reader) && (i == index)) (flight_without_block reader index) (is_for reader index) same
    same_reads
  where
    same : (f : Option Flight) →
        flight_without_block reader index f ≡ flight_left (λ r i. (r == reader) && (i == index)) f
    same None = refl
    same (Some (flight.Read place (ForTask r i))) = refl
    same (Some (flight.Read place ForStep)) = refl
    same (Some (flight.Read place ForNobody)) = refl
    same (Some (flight.Read place (ForRest number index))) = refl
    same (Some (flight.Step place)) = refl
    same (Some (flight.Group place n i)) = refl
    same (Some (flight.Erase block)) = refl

    same_reads : (who : Reader) → is_for reader index who ≡ is_gone (λ r i. (r == reader) && (i == index)) who
    same_reads (ForTask tag i) = refl
    same_reads ForStep = refl
    same_reads ForNobody = refl
    same_reads (ForRest number i) = refl
