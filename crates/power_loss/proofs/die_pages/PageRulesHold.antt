-- The data of each page that opens keep the rules of its kind: at an opening, and behind each event.
use Rattle.power_loss.proofs.Common.{◌≡◌, ℕ, ◌==◌, Bool, true, false, if◌then◌else◌, List, Option, Some, None, sym}
use Rattle.power_loss.proofs.Common.{subst, ⊎_elim, at_place_cases, Array, Cell, DataHold, IsCell, Opens, Flight, Spot}
use Rattle.power_loss.proofs.Common.{at_place, flight_alone, page_of, Sound, Numbers, Page, Place, Tag}
use Rattle.power_loss.proofs.MachineWords.{blank_page, IsOpened, Leads, in_block, State, numbers_of, Event, Output}
use Rattle.power_loss.proofs.MachineWords.{ValidState}
use Rattle.ufs_laws.proofs.pages.BlankPages.{blank_opens_not}
use Rattle.power_loss.proofs.die_pages.PagesOfEachCall.{IsKeptByJobs, behind_event}
use Rattle.power_loss.proofs.stops.LeftPages.{AllHold, FliesRight, cell_holds, left_holds}

-- the data of the page keep their rules, if it opens
abbrev PageHolds : Page → Type 0
PageHolds page = (t : Tag) (body : List ℕ) → Opens page t body → DataHold t body

pub opened_hold : {n : Numbers} {array : Array} {bad : Spot → Bool} {s : State} → Sound array → IsOpened n array bad s →
    AllHold s.array
opened_hold sound h = subst AllHold (sym h.array_now) sound.hold

put_holds : (array : Array) (p : Place) (cell : Cell) → IsCell (page_of cell) cell → AllHold array →
    AllHold (at_place array p (page_of cell))
put_holds array p cell is hold q =
    ⊎_elim (λ h. subst PageHolds (sym h.1) (cell_holds cell is)) (λ h. subst PageHolds (sym h.1) (hold q))
    (at_place_cases array p (page_of cell) q)

blank_holds : PageHolds blank_page
blank_holds t body h = absurd (blank_opens_not t body h)

blank_or : (b : Bool) (page : Page) → PageHolds page → PageHolds (if b then blank_page else page)
blank_or true page h = blank_holds
blank_or false page h = h

alone_is : (b : Bool) {f : Option Flight} {x : Flight} → (if b then f else None) ≡ Some x → f ≡ Some x
alone_is true h = h
alone_is false h = cc

alone_right : (flights : ℕ → Option Flight) (die : ℕ) → FliesRight flights → FliesRight (flight_alone flights die)
alone_right flights die right other p cell h = right other p cell (alone_is (other == die) h)

pub event_hold : {s t : State} {e : Event} {o : Output} → ValidState s → Leads s e o t → AllHold t.array
event_hold {s} {t} {e} {o} v h = behind_event s AllHold kept h
  where
    kept : IsKeptByJobs s AllHold
    kept = record {
      now = v.hold;
      programmed = λ die p cell e. put_holds s.array p cell (v.tied.flights die p cell e) v.hold;
      erased = λ die spot e p. blank_or (in_block (numbers_of s) spot p) (s.array p) (v.hold p);
      failed = λ die flight l left f.
          left_holds s.array s.translation.disk.cells (flight_alone s.translation.disk.flights die) left v.tied.shown
          (alone_right s.translation.disk.flights die v.tied.flights) f.crash v.hold;
    }
