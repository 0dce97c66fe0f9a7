-- The end of a job leaves the slots that readers have claimed, and the collection that is begun, or none.
use Rattle.ftl_core.proofs.Common.{AreClaimed, Bool, Claims, Collection, Core, DieRow, Flight, ForNobody, ForRest}
use Rattle.ftl_core.proofs.Common.{ForStep, ForTask, IsFlightAfter, IsReadAfter, IsReadOver, IsRowAfter, Key, List}
use Rattle.ftl_core.proofs.Common.{Name, None, OpenBlock, Option, Outcome, Pending, Place, Reader, Some, Step, Stored}
use Rattle.ftl_core.proofs.Common.{Tag, [], ap, change_after, change_ended, copy_durable, copy_over, copy_pending}
use Rattle.ftl_core.proofs.Common.{ending, false, filter, find, fold, front_written, greatest_number, group_durable}
use Rattle.ftl_core.proofs.Common.{if◌then◌else◌, is_claim_of, is_named, is_of_group, is_read, mark_over, nat_le}
use Rattle.ftl_core.proofs.Common.{nat_lt, none-some, page_durable, page_durable_at, page_written, pending_written}
use Rattle.ftl_core.proofs.Common.{plan_freed, plan_over, refl, repair_over, settled, slice_get, step_again, step_over}
use Rattle.ftl_core.proofs.Common.{stored_of, subst, suc, sym, true, with_content, with_rest, with_row, zero, ℕ, ◌-◌}
use Rattle.ftl_core.proofs.Common.{◌==◌, ◌∙◌, ◌∷◌, ◌≡◌}
use Rattle.block_table.specs.declared.rows.Flight.TheVariants as flight
use Rattle.ftl_core.specs.declared.books.Step.TheVariants as steps
use Rattle.ftl_core.specs.Done.{IsCoreEnded}
use Rattle.ftl_core.specs.Ends.{copy_stands, index_in, settled_by}

-- What stays

-- the claims stay, and no collection is begun
record Stays (c d : Core) : Type 0 where
  claims : d.claims ≡ c.claims
  plan : (p : Collection) → d.plan ≡ Some p → c.plan ≡ Some p

same : (c : Core) → Stays c c
same c = record { claims = refl; plan = λ p e. e }

both : (c d e : Core) → Stays c d → Stays d e → Stays c e
both c d e h k = record { claims = k.claims ∙ h.claims; plan = λ p is. h.plan p (k.plan p is) }

is_as : (c d e : Core) → d ≡ e → Stays c e → Stays c d
is_as c d e is h = subst (λ (z : Core). Stays c z) (sym is) h

-- either way
either : (test : Bool) (c x y : Core) → Stays c x → Stays c y → Stays c (if test then x else y)
either true c x y h k = h
either false c x y h k = k

written : (c : Core) (die : ℕ) (b : DieRow) (o : Option OpenBlock) → Stays c (page_written c die b o)
written c die b None = record { claims = refl; plan = λ p e. e }
written c die b (Some o) =
    either (nat_lt o.next (c.numbers.pages - 1)) c _ _ (record { claims = refl; plan = λ p e. e })
    (record { claims = refl; plan = λ p e. e })

-- Groups

durable_at : (c : Core) (p : Pending) (o : Option Place) → Stays c (page_durable_at c p o)
durable_at c p None = same c
durable_at c p (Some place) = record { claims = refl; plan = λ q e. e }

durable : (ps : List Pending) (c : Core) → Stays c (fold page_durable c ps)
durable [] c = same c
durable (p ∷ ps) c =
    both c (page_durable c p) (fold page_durable (page_durable c p) ps) (durable_at c p p.written)
    (durable ps (page_durable c p))

whole : (number : ℕ) (c : Core) → Stays c (group_durable c number)
whole number c =
    let d = durable (filter (is_of_group number) c.pages) c in
    record { claims = d.claims; plan = d.plan }

settles : (n : ℕ) (c : Core) → Stays c (settled_by n c)
unfolding settled_by
settles zero c = same c
settles (suc n) c =
    elim (front_written c) as
    (λ q. Stays c (elim q as (λ number. Core) [
      | None ↦ c
      | Some number ↦ settled_by n (group_durable c number)
    ])) [
      | None ↦ same c
      | Some number ↦ both c (group_durable c number) (settled_by n (group_durable c number)) (whole number c)
          (settles n (group_durable c number))
    ]

-- The step under way

at_durable : (c : Core) (n : ℕ) (k : Key) (p : Place) (o : Option Stored) → Stays c (copy_durable c n k p o)
at_durable c n k p None = same c
at_durable c n k p (Some s) =
    either (s.name.number == n) c _ c (record { claims = refl; plan = λ q e. e }) (same c)

at_pending : (c : Core) (n i : ℕ) (p : Place) (o : Option Pending) → Stays c (copy_pending c n i p o)
at_pending c n i p None = same c
at_pending c n i p (Some q) = record { claims = refl; plan = λ x e. e }

copied : (c : Core) (n : ℕ) (k : Key) (i : ℕ) (p : Place) → Stays c (copy_stands c n k i p)
copied c n k i p =
    either (nat_le n c.frontier) c _ _ (at_durable c n k p (stored_of c k))
    (at_pending c n i p (find (is_named n i) c.pages))

freed : (c : Core) (o : Option Collection) → Stays c (plan_freed c o)
freed c None = same c
freed c (Some p) = record { claims = refl; plan = λ q e. absurd (none-some q e) }

over : (c : Core) (step : Option Step) (die : ℕ) (b : DieRow) (place : Place) → Stays c (step_over c step die b place)
over c None die b place = written c die b b.filling
over c (Some (steps.Mark n fence)) die b place =
    let now = page_written (mark_over c) die b b.filling in
    let w = written (mark_over c) die b b.filling in
    both c now (plan_over now) (record { claims = w.claims; plan = w.plan }) (freed now now.plan)
over c (Some (steps.Repair n k from there)) die b place =
    let w = written (repair_over c k place) die b b.filling in record { claims = w.claims; plan = w.plan }
over c (Some (steps.Copy n k from read)) die b place =
    let begun = record c { step = None } in
    let stands = copy_over c n k (index_in read) place in
    let now = page_written stands die b b.filling in
    let u = copied begun n k (index_in read) place in
    both c stands (settled now) (record { claims = u.claims; plan = u.plan })
    (both stands now (settled now) (written stands die b b.filling) (settles _ now))

again : (c : Core) (step : Option Step) → Stays c (step_again c step)
again c None = same c
again c (Some (steps.Mark n fence)) =
    either (nat_le c.next_mark greatest_number) c _ _ (record { claims = refl; plan = λ p e. e })
    (record { claims = refl; plan = λ p e. e })
again c (Some (steps.Repair n k from there)) = same c
again c (Some (steps.Copy n k from read)) = same c

-- Programs and erases

changed : (c : Core) (die : ℕ) (b : DieRow) (f : Flight) (well : Bool) → Stays c (change_ended c die b f well)
changed c die b (flight.Read place reader) well = same c
changed c die b (flight.Step place) true = over c c.step die b place
changed c die b (flight.Step place) false =
    let a = again c c.step in record { claims = a.claims; plan = a.plan }
changed c die b (flight.Group place n i) true =
    let pending = pending_written c n i place in
    let now = page_written pending die b b.filling in
    let w = written pending die b b.filling in
    both c now (settled now) (record { claims = w.claims; plan = w.plan }) (settles _ now)
changed c die b (flight.Group place n i) false = record { claims = refl; plan = λ p e. e }
changed c die b (flight.Erase block) true = record { claims = refl; plan = λ p e. e }
changed c die b (flight.Erase block) false = record { claims = refl; plan = λ p e. e }

change_over : (c : Core) (die : ℕ) (b : DieRow) (f : Flight) (o : Option Bool) → Stays c (change_after c die b f o)
change_over c die b f None = same c
change_over c die b f (Some well) = changed c die b f well

-- Reads

content : (c : Core) (tag : Option Tag) (o : Option (List ℕ)) → Stays c (with_content c tag o)
content c tag None = same c
content c tag (Some body) = record { claims = refl; plan = λ p e. e }

rest : (c : Core) (name : Name) (o : Option (List ℕ)) → Stays c (with_rest c name o)
rest c name None = same c
rest c name (Some body) = record { claims = refl; plan = λ p e. e }

read_over : (c : Core) (o : Outcome) (found : Option Tag) (reader : Reader) (new : Core) →
    IsReadOver c o found reader new → Stays c new
read_over c o found (ForTask tag index) new h = is_as c new _ h (record { claims = refl; plan = λ p e. e })
read_over c o found ForStep new h = is_as c new _ h.2 (content c found h.0)
read_over c o found (ForRest number index) new h =
    is_as c new _ h.2 (rest c (record { number = number; index = index }) h.0)
read_over c o found ForNobody new h = is_as c new c h (same c)

read_after : (known : Bool) (c : Core) (die : ℕ) (b : DieRow) (o : Outcome) (found : Option Tag) (reader : Reader)
    (new : Core) → IsReadAfter known c die b o found reader new → Stays c new
read_after false c die b o found reader new h = is_as c new c h (same c)
read_after true c die b o found reader new h =
    let r = read_over (with_row c die record { filling = b.filling; flight = None }) o found reader new h in
    record { claims = r.claims; plan = r.plan }

-- All of it

flight_after : (c : Core) (die : ℕ) (b : DieRow) (f : Option Flight) (o : Outcome) (tag : Option Tag) (new : Core) →
    IsFlightAfter c die b f o tag new → Stays c new
flight_after c die b None o tag new h = is_as c new c h (same c)
flight_after c die b (Some (flight.Read place reader)) o tag new h = read_after (is_read o) c die b o tag reader new h
flight_after c die b (Some (flight.Step place)) o tag new h =
    is_as c new _ h (change_over c die b (flight.Step place) (ending o))
flight_after c die b (Some (flight.Group place n i)) o tag new h =
    is_as c new _ h (change_over c die b (flight.Group place n i) (ending o))
flight_after c die b (Some (flight.Erase block)) o tag new h =
    is_as c new _ h (change_over c die b (flight.Erase block) (ending o))

row_after : (c : Core) (die : ℕ) (b : Option DieRow) (o : Outcome) (tag : Option Tag) (new : Core) →
    IsRowAfter c die b o tag new → Stays c new
row_after c die None o tag new h = is_as c new c h (same c)
row_after c die (Some b) o tag new h = flight_after c die b b.flight o tag new h

pub still_claimed : (c after : Core) (die : ℕ) (o : Outcome) (tag : Option Tag) → IsCoreEnded c die o tag after →
    (claims : Claims) → AreClaimed c claims → AreClaimed after claims
still_claimed c after die o tag h claims are =
    λ reader.
    ap (filter (is_claim_of reader)) (row_after c die (slice_get c.rows die) o tag after h).claims ∙ are reader

pub same_plan : (c after : Core) (die : ℕ) (o : Outcome) (tag : Option Tag) → IsCoreEnded c die o tag after →
    (p : Collection) → after.plan ≡ Some p → c.plan ≡ Some p
same_plan c after die o tag h = (row_after c die (slice_get c.rows die) o tag after h).plan
