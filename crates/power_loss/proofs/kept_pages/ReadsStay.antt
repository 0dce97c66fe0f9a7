-- Reads in flight are of groups' pages, and so are those that steps still need, behind each change of the disk.
use Rattle.power_loss.proofs.Common.{◌≡◌, ◌≢◌, ℕ, Bool, true, false, All, List, [], ◌∷◌, is_none, if◌then◌else◌, Option}
use Rattle.power_loss.proofs.Common.{Some, None, refl, sym, ap, ◌∙◌, subst, ⊎_elim, All-cons, All-head, All-nil}
use Rattle.power_loss.proofs.Common.{All-tail, All-weaker, false≢true, none-some, same_Some, Cell, Cells, BlockState}
use Rattle.power_loss.proofs.Common.{Disk, Erasing, Flight, ForStep, Free, Programming, Reader, Reading, Spot, at_die}
use Rattle.power_loss.proofs.Common.{at_spot, same_spot, spot_of, state_after, Name, is_kind_of, step_after, step_there}
use Rattle.power_loss.proofs.Common.{without_reader, CopyStep, Plan, RepairStep, Step, Translation, Want, is_mended}
use Rattle.power_loss.proofs.Common.{standing_of, want_at, wants_of_step, HasKey, book, Key, Place, at_die_is}
use Rattle.power_loss.proofs.Common.{at_spot_is, spot_cases, page_not_nothing, Flights, IsGroupPage, IsNeededPage}
use Rattle.power_loss.proofs.Common.{IsSecure, ReadsRight, Standing, ToReadRight, Valid}
use Rattle.power_loss.proofs.kept_pages.LookedUpPages.{secure_page}
use Rattle.power_loss.proofs.kept_pages.PagesStay.{StayThere, page_begun, page_stays}
use Rattle.power_loss.proofs.jobs.StandsSecurely.{Keeps, behind_is_not_free}
use Rattle.power_loss.proofs.books.LayerParts.{NeededOf}

-- Reads in flight

-- each read was in flight, for the same reader or for another
abbrev pub HaveFewerReads : Flights → Flights → Type 0
HaveFewerReads old new =
    (die : ℕ) (reader : Reader) (place : Place) → new die ≡ Some (Reading reader place) → (other : Reader)
    × (old die ≡ Some (Reading other place))

-- a read is of a page of its own die, which is a group's
abbrev IsReadOf : Cells → (Place → Bool) → (Spot → Bool) → ℕ → Place → Type 0
IsReadOf c f e die p = (p.die ≡ die) × ((name : Name) × IsGroupPage c f e name p)

reads_from : {c : Cells} {f : Place → Bool} {e : Spot → Bool} {flights : Flights} →
    ((die : ℕ) (reader : Reader) (p : Place) → flights die ≡ Some (Reading reader p) → IsReadOf c f e die p) →
    ReadsRight c f e flights
reads_from h = record {
  at_home = λ die reader p k. (h die reader p k).0;
  page = λ die reader p k. (h die reader p k).1;
}

pub reads_stay : {c after : Cells} {f ended : Place → Bool} {e erasing : Spot → Bool} {old new : Flights} →
    StayThere c f e after ended erasing → HaveFewerReads old new → ReadsRight c f e old →
    ReadsRight after ended erasing new
reads_stay {c = c} {after = after} {f = f} {ended = ended} {e = e} {erasing = erasing} {new = new} s fewer h =
    reads_from
    (λ die reader p k.
    let o = fewer die reader p k in
    let x = h.page die o.0 p o.1 in
    (h.at_home die o.0 p o.1, (x.0, page_stays s x.1)))

pub reads_fewer : {c : Cells} {f : Place → Bool} {e : Spot → Bool} {old new : Flights} → HaveFewerReads old new →
    ReadsRight c f e old → ReadsRight c f e new
reads_fewer {c = c} {f = f} {e = e} {new = new} fewer h = reads_from
    (λ die reader p k. let o = fewer die reader p k in (h.at_home die o.0 p o.1, h.page die o.0 p o.1))

abbrev is_read : Option Flight → Bool
is_read (Some (Reading reader place)) = true
is_read job = false

-- a die has no job, or one that is no read
pub job_reads : (f : Flights) (die : ℕ) (job : Option Flight) → is_read job ≡ false →
    HaveFewerReads f (at_die f die job)
job_reads f die job none d reader p h = ⊎_elim
    (λ (k : (d ≡ die) × (job ≡ Some (Reading reader p))). absurd (false≢true (sym none ∙ ap is_read k.1)))
    (λ k. (reader, k.1)) (at_die_is f die job d (Some (Reading reader p)) h)

pub idle_reads : (f : Flights) (die : ℕ) → HaveFewerReads f (at_die f die None)
idle_reads f die = job_reads f die None refl

pub program_reads : (f : Flights) (die : ℕ) (place : Place) (cell : Cell) →
    HaveFewerReads f (at_die f die (Some (Programming place cell)))
program_reads f die place cell = job_reads f die (Some (Programming place cell)) refl

place_read : (a b : Reader) {q p : Place} → Some (Reading a q) ≡ Some (Reading b p) → q ≡ p
place_read a b e = cc

read_of : (is : Reader → Bool) (job : Option Flight) (reader : Reader) (p : Place) →
    without_reader is job ≡ Some (Reading reader p) → (other : Reader) × (job ≡ Some (Reading other p))
read_of is (Some (Reading other q)) reader p h =
    (other, ap (λ (z : Place). Some (Reading other z)) (place_read _ reader h))
read_of is (Some (Programming q cell)) reader p h = cc
read_of is (Some (Erasing s)) reader p h = cc
read_of is None reader p h = cc

-- a read goes on for nobody
pub gone_reads : (f : Flights) (is : Reader → Bool) → HaveFewerReads f (λ die. without_reader is (f die))
gone_reads f is die reader p h = read_of is (f die) reader p h

-- an erase begins on a die that reads nothing
pub reads_erase_begun : {c : Cells} {f : Place → Bool} {e : Spot → Bool} {flights : Flights} {die : ℕ} (s : Spot) →
    s.die ≡ die → ReadsRight c f e flights → ReadsRight c f (at_spot e s true) (at_die flights die (Some (Erasing s)))
reads_erase_begun {c} {f} {e} {flights} {die} s home h = reads_from
    (λ d reader p k. ⊎_elim
    (λ (z : (d ≡ die) × (Some (Erasing s) ≡ Some (Reading reader p))). absurd (false≢true (ap is_read z.1)))
    (λ (z : (d ≢ die) × (flights d ≡ Some (Reading reader p))).
    let x = h.page d reader p z.1 in
    (h.at_home d reader p z.1, (x.0, page_begun s (apart d p z.0 (h.at_home d reader p z.1)) x.1)))
    (at_die_is flights die (Some (Erasing s)) d (Some (Reading reader p)) k))
  where
    apart : (d : ℕ) (p : Place) → d ≢ die → p.die ≡ d → same_spot (spot_of p) s ≡ false
    apart d p other is = ⊎_elim
        (λ (z : (same_spot (spot_of p) s ≡ true) × (spot_of p ≡ s)).
        absurd (other (sym is ∙ ap (λ (x : Spot). x.die) z.1 ∙ home))) (λ z. z.0) (spot_cases (spot_of p) s)

-- a read begins
pub reads_begun : {c : Cells} {f : Place → Bool} {e : Spot → Bool} {flights : Flights} {die : ℕ} (reader : Reader)
    {place : Place} → place.die ≡ die → (name : Name) × IsGroupPage c f e name place → ReadsRight c f e flights →
    ReadsRight c f e (at_die flights die (Some (Reading reader place)))
reads_begun {c} {f} {e} {flights} {die} reader {place} home there h = reads_from
    (λ d r p k. ⊎_elim
    (λ (z : (d ≡ die) × (Some (Reading reader place) ≡ Some (Reading r p))).
    let same = place_read reader r z.1 in (
      ap (λ (x : Place). x.die) (sym same) ∙ home ∙ sym z.0,
      subst (λ (x : Place). (name : Name) × IsGroupPage c f e name x) same there,
    )) (λ z. (h.at_home d r p z.1, h.page d r p z.1))
    (at_die_is flights die (Some (Reading reader place)) d (Some (Reading r p)) k))

-- Pages that are needed

pub needed_keeps : (d e : Disk) {p : Place} → Keeps d e → IsNeededPage d.cells d.finished d.blocks d.erasing p →
    IsNeededPage e.cells e.finished e.blocks e.erasing p
needed_keeps d e {p} k h =
    let r = k p (page_not_nothing (d.cells p) h.page.tag h.page.body h.page.there) h.page.ended h.page.stays h.needed in
    record {
      name = h.name;
      page = record {
        tag = h.page.tag;
        body = h.page.body;
        there = r.there ∙ h.page.there;
        is = h.page.is;
        ended = r.ended;
        stays = r.stays;
      };
      needed = r.needed;
    }

-- a block that is programmed does not become free
pub needed_written : {c after : Cells} {f ended : Place → Bool} {b : Spot → BlockState} {e erasing : Spot → Bool}
    (s : Spot) (pages page : ℕ) {p : Place} → StayThere c f e after ended erasing →
    IsNeededPage c f b e p → IsNeededPage after ended (at_spot b s (state_after pages page)) erasing p
needed_written {c} {after} {f} {ended} {b} {e} {erasing} s pages page {p} stay h = record {
  name = h.name;
  page = page_stays stay h.page;
  needed = λ z. ⊎_elim (λ (k : (spot_of p ≡ s) × (state_after pages page ≡ Free)). behind_is_not_free pages page k.1)
      (λ k. h.needed k.1) (at_spot_is b s (state_after pages page) (spot_of p) Free z);
}

pub needed_secure : {standing : Standing} {c : Cells} {f : Place → Bool} {b : Spot → BlockState} {e : Spot → Bool}
    (name : Name) {p : Place} → standing name.number name.index ≡ Some p →
    IsSecure standing c f b e name.number name.index → IsNeededPage c f b e p
needed_secure {standing} {c} {f} {b} {e} name {p} known h = record {
  name = name;
  page = secure_page known h;
  needed = λ z. h.needed (ap (λ (q : Place). b (spot_of q)) (same_Some h.place p (sym h.known ∙ known)) ∙ z);
}

pub to_read_stay : {c after : Cells} {f ended : Place → Bool} {b blocks : Spot → BlockState} {e erasing : Spot → Bool}
    {step : Option Step} {plan : Option Plan} →
    ((p : Place) → IsNeededPage c f b e p → IsNeededPage after ended blocks erasing p) →
    ToReadRight c f b e step plan → ToReadRight after ended blocks erasing step plan
to_read_stay {c} {after} {f} {ended} {b} {blocks} {e} {erasing} {step} stay h = record {
  wanted = All-weaker (λ (w : Want). IsNeededPage c f b e w.place)
      (λ (w : Want). IsNeededPage after ended blocks erasing w.place) (λ w k. stay w.place k) (wants_of_step step)
      h.wanted;
  copied = λ pl is. All-weaker (IsNeededPage c f b e) (IsNeededPage after ended blocks erasing) stay pl.copies
      (h.copied pl is);
}

-- Steps

-- a step that is over, or has its content, needs no read
pub behind_wants : (P : Want → Type 0) (name : Name) (step : Option Step) → All P (wants_of_step step) →
    All P (wants_of_step (step_after name step))
behind_wants P name None h = h
behind_wants P name (Some step) h = by (is_kind_of name step.kind)
  where
    by : (b : Bool) → All P (wants_of_step (if b then None else Some step))
    by true = All-nil P
    by false = h

pub there_wants : (P : Want → Type 0) (step : Option Step) → All P (wants_of_step (step_there step))
there_wants P None = All-nil P
there_wants P (Some step) = All-nil P

pub repair_wants : (P : Want → Type 0) (name : Name) (from : Option Place) →
    ((p : Place) → from ≡ Some p → P (want_at ForStep p)) →
    All P (wants_of_step (Some (record { kind = RepairStep name from; there = is_none from })))
repair_wants P name None h = All-nil P
repair_wants P name (Some p) h = All-cons P (want_at ForStep p) [] (h p refl) (All-nil P)

pub copy_wants : (P : Want → Type 0) (name : Name) (p : Place) → P (want_at ForStep p) →
    All P (wants_of_step (Some (record { kind = CopyStep name p; there = false })))
copy_wants P name p h = All-cons P (want_at ForStep p) [] h (All-nil P)

-- What is ordered

-- until the device is mended the page that a key began with is needed
pub stands_needed : {t : Translation} (k : Key) (o : Option Name) {p : Place} → Valid t →
    is_mended t.work.mending ≡ false → HasKey (book t) k → t.ledger.first_page k ≡ o → standing_of t.ledger o ≡ Some p →
    NeededOf t p
stands_needed k None {p} v un has is e = absurd (none-some p e)
stands_needed {t} k (Some name) {p} v un has is e = needed_secure name e (v.unmended.stand un k name p has is e)

-- the first page of a plan's copies is there, and so are the others
pub copy_read : {t : Translation} (s : Spot) {p : Place} (ps : List Place) {next : Option Step} → Valid t →
    t.work.plan ≡ Some (record { victim = s; copies = p ∷ ps }) → (NeededOf t p → All (λ (w : Want). NeededOf t w.place)
    (wants_of_step next)) → ToReadRight t.disk.cells t.disk.finished t.disk.blocks t.disk.erasing next
    (Some (record { victim = s; copies = ps }))
copy_read {t} s {p} ps v is wanted = record {
  wanted = wanted (All-head IsNeeded p ps all);
  copied = λ pl e. subst (λ (x : Plan). All IsNeeded x.copies) (same_Some (record { victim = s; copies = ps }) pl e)
      (All-tail IsNeeded p ps all);
}
  where
    IsNeeded : Place → Type 0
    IsNeeded q = NeededOf t q

    all : All IsNeeded (p ∷ ps)
    all = v.to_read.copied (record { victim = s; copies = p ∷ ps }) is
