-- A read that is owed to a die is given to it: of a reader, of the step under way, or of a page for its rest.
use Rattle.ftl_core.proofs.Common.{Bool, Core, Describes, DieRow, Flight, ForRest, ForStep, ForTask, InSlot, IsIn}
use Rattle.ftl_core.proofs.Common.{IsTaken, IsWanted, Kept, List, Looked, Name, None, OnPage, Option, Pending, Pin}
use Rattle.ftl_core.proofs.Common.{PinKept, Place, Some, Translation, Unwritten, Want, [], and_true, ap, arith}
use Rattle.ftl_core.proofs.Common.{cons_option, core_taken, entry_of, eq_self, false, false≢true, filter_map, find}
use Rattle.ftl_core.proofs.Common.{find_behind, first_owed, found_in, has_at, if◌then◌else◌, is_owed_by, is_pin_of}
use Rattle.ftl_core.proofs.Common.{job_taken, list_any, looks_on, nat_tests, none_some, not, option_and_then}
use Rattle.ftl_core.proofs.Common.{option_map, owed_read, owes_rest, position_told, reads_for, refl, rest_look}
use Rattle.ftl_core.proofs.Common.{rest_read, rest_read_of, slice_get, some_is, step_read, step_wants, subst, suc, sym}
use Rattle.ftl_core.proofs.Common.{true, want_at, wants_on, zero, ℕ, ◌&&◌, ◌++◌, ◌==◌, ◌||◌, ◌∙◌, ◌∷◌, ◌≡◌}
use Rattle.std.proofs.lemmas.List.Elements.{Contains-append_left}
use Rattle.std.specs.Prelude.{Contains}
use Rattle.ufs_spec.specs.Translation as layer
use Rattle.ufs_spec.specs.Translation.{is_of_die, is_unread, want_from, want_of_look, want_of_pin, want_of_rest}
use Rattle.power_loss.proofs.books.SmallFacts.{eq_told}
use Rattle.ftl_core.specs.Describes.{ReadersDiffer}
use Rattle.ftl_core.proofs.job_taken.Flown.{die_within, no_job}
use Rattle.ufs_spec.specs.Disk as disk
use Rattle.block_table.specs.declared.rows.Flight.TheVariants as flight
use Rattle.ftl_core.specs.Takes as takes
use Rattle.ftl_core.specs.Takes.{idle_flight, owed_flight, own_read, read_of, step_read_at}
use Rattle.ftl_core.proofs.job_taken.OwedReads.{all_want, kept_here, left, no_step_left, one_left, one_wanted}
use Rattle.ftl_core.proofs.job_taken.OwedReads.{owed_passes, own_left, page_passes, page_want, passes, rests_want}
use Rattle.ftl_core.proofs.job_taken.OwedReads.{step_free, step_left}
use Rattle.ftl_core.proofs.job_taken.NextStarts.{is_free_die, job_begun}
use Rattle.ftl_core.proofs.pins.FoundPins.{position_missed}
use Rattle.ftl_core.proofs.pins.PinsAlike.{pins_at}
use Rattle.ufs_spec.proofs.Lists.{any_none, find_here}

-- The pin of a block

-- a pin is found by its reader and index: no other has both
pub own_pin : (ps : List Pin) (k : ℕ) (p : Pin) → ReadersDiffer ps → slice_get ps k ≡ Some p →
    find (is_pin_of p.reader p.index) ps ≡ Some p
own_pin [] k p differ e = absurd (none_some p e)
own_pin (x ∷ xs) zero p differ e =
    subst (λ (z : Pin). find (is_pin_of z.reader z.index) (x ∷ xs) ≡ Some z) (some_is x p e)
    (find_here (is_pin_of x.reader x.index) x xs (both (x.reader == x.reader) (x.index == x.index) (eq_self x.reader)
    (eq_self x.index)))
  where
    both : (a b : Bool) → a ≡ true → b ≡ true → (a && b) ≡ true
    both a b e f = λ i. e i && f i
own_pin (x ∷ xs) (suc k) p differ e =
    find_behind (is_pin_of p.reader p.index) x xs
    (apart (x.reader == p.reader) (x.index == p.index) (p.reader == x.reader) (p.index == x.index)
    (turned x.reader p.reader) (turned x.index p.index) (any_none (is_pin_of x.reader x.index) xs k p differ.0 e))
    ∙ own_pin xs k p differ.1 e
  where
    turned : (m n : ℕ) → (m == n) ≡ (n == m)
    turned m n = grind (arith, nat_tests)

    apart : (a b c d : Bool) → a ≡ c → b ≡ d → (c && d) ≡ false → (a && b) ≡ false
    apart a b c d e f h = (λ i. e i && f i) ∙ h

-- the read that a reader is owed is one of them
one_read : (c : Core) (t : Translation) (die k : ℕ) (p : Pin) (q : layer.Pin) (place : Place) → Kept c t →
    slice_get t.pins k ≡ Some q → PinKept t.ledger.frontier (entry_of t.ledger) p q → is_owed_by c.rows die p ≡ true →
    want_of_pin q ≡ Some (want_at (ForTask p.reader p.index) place) →
    Contains (wants_on t die) (want_at (ForTask p.reader p.index) place)
one_read c t die k p q place kept at h owed want =
    subst (λ (ws : List Want). Contains ws (want_at (ForTask p.reader p.index) place)) (sym (all_want c t die kept))
    (Contains-append_left (left t die (filter_map want_of_pin t.pins))
    (own_left c t die) (want_at (ForTask p.reader p.index) place)
    (one_left (is_unread t) (is_of_die die) t.pins k q (want_at (ForTask p.reader p.index) place)
    at want
    (ap (passes (is_unread t) (is_of_die die)) (sym want) ∙ sym (owed_passes c t die p q kept h) ∙ owed)))

-- The read that the step under way is owed

pub step_taken : (c : Core) (t : Translation) (die : ℕ) (b : DieRow) (f : Flight) → Describes c t →
    slice_get c.rows die ≡ Some b → b.flight ≡ None → first_owed c die ≡ None → step_read c die ≡ Some f →
    IsTaken t die (job_taken c die) (core_taken c die)
step_taken c t die b f h there idle none_owed read = by (step_wants c.step) refl read
  where
    passed : (a r : Bool) (f x : Flight) → (if not a || r then None else Some f) ≡ Some x → (not r && a) ≡ true
    passed true true f x e = absurd (none_some x e)
    passed true false f x e = refl
    passed false r f x e = absurd (none_some x e)

    taken_is : (a r : Bool) (f x : Flight) → (if not a || r then None else Some f) ≡ Some x → Some f ≡ Some x
    taken_is true true f x e = absurd (none_some x e)
    taken_is true false f x e = e
    taken_is false r f x e = absurd (none_some x e)

    same_place : (p q : Place) → disk.Reading ForStep p ≡ disk.Reading ForStep q → p ≡ q
    same_place p q e = cc

    by : (o : Option Place) → step_wants c.step ≡ o → step_read_at c die o ≡ Some f →
        IsTaken t die (job_taken c die) (core_taken c die)
    by None is e = absurd (none_some f e)
    by (Some place) is e =
        job_begun c t die b (flight.Read place ForStep) (disk.Reading ForStep place) h there
        (ap (takes.flight_for c die) there ∙ ap (idle_flight c die b.filling) idle
        ∙ ap (λ (k : Option ℕ). owed_flight c die b.filling (owed_read c die k)) none_owed
        ∙ ap (owed_flight c die b.filling) (ap (λ (x : Option Flight). own_read x (rest_read c die)) read
        ∙ sym (taken_is (place.die == die) (list_any (reads_for ForStep) c.rows) (flight.Read place ForStep) f e)))
        refl
        (refl, refl)
        (record {
          alone = λ name e. absurd (false≢true e);
          fresh = λ p n i e. cc;
          wanted = λ tag index p e. cc;
          step_wanted = λ p e. is ∙ ap (λ (z : Place). Some z) (same_place place p e);
        }) (
          is_free_die t die (die_within c t die b h.kept there) (no_job c t die b h.kept there idle),
          subst (λ (ws : List Want). Contains ws (want_at ForStep place))
              (sym (step_left c t die h.kept (position_missed (is_owed_by c.rows die) c.pins none_owed)
              ∙ ap (λ (o : Option Place). left t die (cons_option (want_from o) [])
              ++ left t die (filter_map want_of_rest t.work.rests)) is))
              (Contains-append_left (left t die (cons_option (want_from (Some place)) []))
              (left t die (filter_map want_of_rest t.work.rests)) (want_at ForStep place)
              (kept_here (is_unread t) (is_of_die die) (want_at ForStep place) []
              (step_free c t die place h.kept
              ∙ passed (place.die == die) (list_any (reads_for ForStep) c.rows) (flight.Read place ForStep) f e))),
        )

-- The read that a page is owed for its rest

pub rest_taken : (c : Core) (t : Translation) (die : ℕ) (b : DieRow) (f : Flight) → Describes c t →
    slice_get c.rows die ≡ Some b → b.flight ≡ None → first_owed c die ≡ None → step_read c die ≡ None →
    rest_read c die ≡ Some f → IsTaken t die (job_taken c die) (core_taken c die)
rest_taken c t die b f h there idle none_owed unread read = by (find (owes_rest c.rows die) c.pages) refl read
  where
    owed_is : owed_read c die (first_owed c die) ≡ Some f
    owed_is = ap (owed_read c die) none_owed ∙ (λ i. own_read (unread i) (read i))

    taken : (p : Pending) → IsIn p c.pages × (owes_rest c.rows die p ≡ true) → (l : Looked) → rest_look p.rest ≡ l →
        option_map (λ place. flight.Read place (ForRest p.number p.index)) (takes.place_in l) ≡ Some f →
        IsTaken t die (job_taken c die) (core_taken c die)
    taken p owes Unwritten looks e = absurd (none_some f e)
    taken p owes (InSlot name) looks e = absurd (none_some f e)
    taken p owes (OnPage name place) looks e =
        job_begun c t die b (flight.Read place (ForRest p.number p.index))
        (disk.Reading (ForRest p.number p.index) place) h there
        (ap (takes.flight_for c die) there ∙ ap (idle_flight c die b.filling) idle
        ∙ ap (owed_flight c die b.filling) (owed_is ∙ sym e))
        refl
        (refl, refl)
        (record {
          alone = λ name e. absurd (false≢true e);
          fresh = λ p n i e. cc;
          wanted = λ tag index p e. cc;
          step_wanted = λ p e. cc;
        }) (
          is_free_die t die (die_within c t die b h.kept there) (no_job c t die b h.kept there idle),
          subst (λ (ws : List Want). Contains ws (want_at (ForRest p.number p.index) place))
              (sym (step_left c t die h.kept (position_missed (is_owed_by c.rows die) c.pins none_owed)
              ∙ ap (λ (ws : List Want). ws ++ left t die (filter_map want_of_rest t.work.rests))
              (no_step_left c t die h.kept unread)
              ∙ ap (left t die) (rests_want c t h)))
              (let at = has_at c.pages p owes.0 in
              one_wanted (is_unread t) (is_of_die die) c.pages at.0 p (want_at (ForRest p.number p.index) place) at.1
              wants
              (ap (passes (is_unread t) (is_of_die die)) (sym wants) ∙ sym (page_passes c t die p h.kept) ∙ owes.1)),
        )
      where
        wants : page_want p ≡ Some (want_at (ForRest p.number p.index) place)
        wants = ap (λ (l : Looked). option_map (want_at (ForRest p.number p.index)) (takes.place_in l)) looks

    by : (o : Option Pending) → find (owes_rest c.rows die) c.pages ≡ o → option_and_then rest_read_of o ≡ Some f →
        IsTaken t die (job_taken c die) (core_taken c die)
    by None found e = absurd (none_some f e)
    by (Some p) found e = taken p (found_in (owes_rest c.rows die) c.pages p found) (rest_look p.rest) refl e

-- A read that a reader is owed

owed_told : (rows : List DieRow) (die : ℕ) (p : Pin) → is_owed_by rows die p ≡ true →
    (p.wanted ≡ true) × (name : Name) × (place : Place) × (p.looked ≡ OnPage name place) × (place.die ≡ die)
owed_told rows die p h = by p.looked refl
  where
    r : ((p.wanted && looks_on die p.looked) ≡ true) × (not (list_any (reads_for (ForTask p.reader p.index)) rows) ≡ true)
    r = and_true (p.wanted && looks_on die p.looked) (not (list_any (reads_for (ForTask p.reader p.index)) rows)) h

    u : (p.wanted ≡ true) × (looks_on die p.looked ≡ true)
    u = and_true p.wanted (looks_on die p.looked) r.0

    by : (l : Looked) → p.looked ≡ l → (p.wanted ≡ true) × (name : Name) × (place : Place) ×
        (p.looked ≡ OnPage name place) × (place.die ≡ die)
    by (OnPage name place) e = (u.0, name, place, e, eq_told place.die die (sym (ap (looks_on die) e) ∙ u.1))
    by Unwritten e = absurd (false≢true (sym (ap (looks_on die) e) ∙ u.1))
    by (InSlot name) e = absurd (false≢true (sym (ap (looks_on die) e) ∙ u.1))

pub read_taken : (c : Core) (t : Translation) (die k : ℕ) (b : DieRow) → Describes c t → slice_get c.rows die ≡ Some b →
    b.flight ≡ None → first_owed c die ≡ Some k → IsTaken t die (job_taken c die) (core_taken c die)
read_taken c t die k b h there idle owed =
    job_begun c t die b (flight.Read at_place (ForTask p.reader p.index))
    (disk.Reading (ForTask p.reader p.index) at_place) h there
    (ap (takes.flight_for c die) there ∙ ap (idle_flight c die b.filling) idle
    ∙ ap (λ (o : Option ℕ). owed_flight c die b.filling (owed_read c die o)) owed
    ∙ ap (owed_flight c die b.filling) (ap (option_and_then read_of) at.1
    ∙ ap (λ (l : Looked). option_map (λ place. flight.Read place (ForTask p.reader p.index)) (takes.place_in l))
    told.3))
    refl
    (refl, refl)
    (record {
      alone = λ name e. absurd (false≢true e);
      fresh = λ place n i e. cc;
      wanted = wanted;
      step_wanted = λ place e. cc;
    }) (
      is_free_die t die (die_within c t die b h.kept there) (no_job c t die b h.kept there idle),
      one_read c t die k p q.0 at_place h.kept q.1 q.2 at.2 want,
    )
  where
    at : (x : Pin) × (slice_get c.pins k ≡ Some x) × (is_owed_by c.rows die x ≡ true)
    at = position_told (is_owed_by c.rows die) c.pins k owed

    p : Pin
    p = at.0

    told : (p.wanted ≡ true) × (name : Name) × (place : Place) × (p.looked ≡ OnPage name place) × (place.die ≡ die)
    told = owed_told c.rows die p at.2

    at_place : Place
    at_place = told.2

    q : (q : layer.Pin) × (slice_get t.pins k ≡ Some q) × PinKept t.ledger.frontier (entry_of t.ledger) p q
    q = pins_at t.ledger.frontier (entry_of t.ledger) c.pins t.pins k p h.kept.pins at.1

    want : layer.want_of_pin q.0 ≡ Some (want_at (ForTask p.reader p.index) at_place)
    want =
        (λ i. if (q.2.wanted ∙ told.0) i then want_of_look (ForTask (q.2.tag i) (q.2.index i)) ((q.2.looked ∙ told.3) i)
        else None)

    wanted : (tag index : ℕ) (place : Place) →
        disk.Reading (ForTask p.reader p.index) at_place ≡ disk.Reading (ForTask tag index) place →
        (x : Pin) × (find (is_pin_of tag index) c.pins ≡ Some x) × IsWanted place x
    wanted tag index place e = (
      p,
      (λ i. find (is_pin_of (sym (tag_is e) i) (sym (index_is e) i)) c.pins)
          ∙ own_pin c.pins k p h.kept.differ at.1,
      record { name = told.1; looks = told.3 ∙ ap (OnPage told.1) (place_is e); wanted = told.0 },
    )
      where
        tag_is : disk.Reading (ForTask p.reader p.index) at_place ≡ disk.Reading (ForTask tag index) place →
            p.reader ≡ tag
        tag_is e = cc

        index_is : disk.Reading (ForTask p.reader p.index) at_place ≡ disk.Reading (ForTask tag index) place →
            p.index ≡ index
        index_is e = cc

        place_is : disk.Reading (ForTask p.reader p.index) at_place ≡ disk.Reading (ForTask tag index) place →
            at_place ≡ place
        place_is e = cc
