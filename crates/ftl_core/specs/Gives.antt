-- How a job in flight ends, as the code does it: what is kept then, and what is given to whoever waits for it. `IsTold`
-- of Describes says what that means.
use Rattle.std.specs.Prelude.{◌≡◌, ℕ, ◌==◌, Bool, true, false, ◌&&◌, List, find, map, Option, Some, None}
use Rattle.ufs_spec.specs.Keys.{IsBlock}
use Rattle.ufs_spec.specs.Pages.{IsSealedAs, IsTag}
use Rattle.ufs_spec.specs.declared.flash.Key.{Key}
use Rattle.ufs_spec.specs.declared.flash.Outcome.{Outcome}
use Rattle.ufs_spec.specs.declared.flash.Outcome.TheVariants as outcome
use Rattle.ufs_spec.specs.declared.flash.Page.{Page}
use Rattle.ufs_spec.specs.declared.flash.Place.{Place}
use Rattle.ufs_spec.specs.declared.flash.Tag.{Tag}
use Rattle.ufs_spec.specs.declared.layer.Looked.{Looked}
use Rattle.ufs_spec.specs.declared.layer.Looked.TheVariants.{OnPage}
use Rattle.ufs_spec.specs.declared.layer.Reader.{Reader}
use Rattle.ufs_spec.specs.declared.layer.Reader.TheVariants.{ForNobody, ForRest, ForStep, ForTask}
use Rattle.write_cache.specs.declared.slots.Pending.{Pending}
use Rattle.write_cache.specs.Slots.{is_named}
use Rattle.block_table.specs.declared.rows.DieRow.{DieRow}
use Rattle.block_table.specs.declared.rows.Flight.{Flight}
use Rattle.block_table.specs.declared.rows.Flight.TheVariants as flight
use Rattle.readers.specs.declared.pin.Pin.{Pin}
use Rattle.ftl_core.specs.declared.books.Step.{Step}
use Rattle.ftl_core.specs.declared.books.Step.TheVariants as step
use Rattle.ftl_core.specs.Ended.{EndedNow}
use Rattle.ftl_core.specs.Ended as ended
use Rattle.ftl_core.specs.Core.{Core}
use Rattle.ftl_core.specs.Moves.{erased, page_written, pin_of, rest_look, went_bad, with_row}
use Rattle.readers.specs.Pins.{wanted_no_more}
use Rattle.ftl_core.specs.Ends.{pending_written, settled, step_failed, step_written, with_content}
use Rattle.ftl_core.specs.Rests.{with_rest}

-- Programs and erases

-- whether a program or an erase ended well; none where the outcome is a read's
abbrev pub ending : Outcome → Option Bool
ending outcome.Done = Some true
ending outcome.Failed = Some false
ending _ = None

-- a page whose program failed waits again by itself
abbrev pub group_ended : Core → ℕ → DieRow → Place → ℕ → ℕ → Bool → Core
group_ended c die b place n i true =
    settled (page_written (pending_written c n i place) die b b.filling)
group_ended c die b place n i false = went_bad c die place.block

-- the program of the step's page ended: well, and the step is over; or it failed, and the step waits again
abbrev pub step_ended : Core → ℕ → DieRow → Place → Bool → Core
step_ended c die b place true = step_written c die b place
step_ended c die b place false = step_failed c die place

-- an erase ended: well, and the block may be filled; or it failed, and the block is bad
abbrev pub erase_ended : Core → ℕ → ℕ → Bool → Core
erase_ended c die block true = erased c die block
erase_ended c die block false = went_bad c die block

-- what the end of a program or of an erase makes of what is kept; `IsReadAfter` says it of a read
abbrev pub change_ended : Core → ℕ → DieRow → Flight → Bool → Core
change_ended c die b (flight.Read place reader) well = c
change_ended c die b (flight.Step place) well = step_ended c die b place well
change_ended c die b (flight.Group place n i) well = group_ended c die b place n i well
change_ended c die b (flight.Erase block) well = erase_ended c die block well

-- an outcome that only a read has changes nothing for a program or an erase
abbrev pub change_after : Core → ℕ → DieRow → Flight → Option Bool → Core
change_after c die b f None = c
change_after c die b f (Some well) = change_ended c die b f well

-- the end of a program or of an erase gives nothing to any task
abbrev pub other_for : Bool → EndedNow
other_for well = ended.Other

-- Reads

-- the outcome is one of a read
abbrev pub is_read : Outcome → Bool
is_read (outcome.Read page) = true
is_read outcome.ReadFailed = true
is_read _ = false

-- What is given

-- the tag is of this address and this number
abbrev pub names : Tag → Key → ℕ → Bool
names t k n = (t.kind == k.kind) && (t.unit == k.unit) && (t.address == k.address) && (t.number == n)

-- the body, where the page is a sealed one of this address and this number; none where it is not
pub record IsBodyOf (page : Page) (k : Key) (n : ℕ) (body : Option (List ℕ)) : Type 0 where
  pub found : (b : List ℕ) → body ≡ Some b →
      (t : Tag) × IsTag t × IsBlock b × (names t k n ≡ true) × IsSealedAs page t b
  pub none : body ≡ None → (t : Tag) (b : List ℕ) → IsTag t → names t k n ≡ true → IsSealedAs page t b → ⊥

-- what the page that was read gives for what was looked up: the body, if it is the page of that number; else none
abbrev pub IsBodyLooked : Page → Key → Looked → Option (List ℕ) → Type 0
IsBodyLooked page k (OnPage name place) body = IsBodyOf page k name.number body
IsBodyLooked page k _ body = body ≡ None

-- what a read gives for the pin of its reader; a read that failed gives none
abbrev pub IsGiven : Outcome → Pin → Option (List ℕ) → Type 0
IsGiven (outcome.Read page) p body = IsBodyLooked page p.key p.looked body
IsGiven _ p body = body ≡ None

-- what a read gives to its reader; a reader who let go meanwhile is given none
abbrev pub IsGivenTo : Outcome → Option Pin → Option (List ℕ) → Type 0
IsGivenTo o None body = body ≡ None
IsGivenTo o (Some p) body = IsGiven o p body

-- what the end of a read gives to its reader, if it has one still
abbrev pub Gives : Core → Outcome → Reader → EndedNow → Type 0
Gives c o (ForTask tag index) e =
    (body : Option (List ℕ)) × IsGivenTo o (pin_of c tag index) body × (e ≡ ended.Read tag index body)
Gives c o r e = e ≡ ended.Other

-- a read is answered only if the outcome is one of a read; else the call has no answer
abbrev pub GivesIf : Bool → Core → Outcome → Reader → Option EndedNow → Type 0
GivesIf false c o who r = r ≡ None
GivesIf true c o who r = (e : EndedNow) × (r ≡ Some e) × Gives c o who e

-- What a read makes of what is kept

-- the body of the page, where it is the one that the step under way is read from
abbrev pub IsContentOf : Option Step → Page → Option (List ℕ) → Type 0
IsContentOf (Some (step.Repair n k (Some s) there)) page body = IsBodyOf page k s.name.number body
IsContentOf (Some (step.Copy n k from tag)) page body = IsBodyOf page k n body
IsContentOf s page body = body ≡ None

-- what a read gives to the step under way; a read that failed gives none
abbrev pub IsContentRead : Option Step → Outcome → Option (List ℕ) → Type 0
IsContentRead s (outcome.Read page) body = IsContentOf s page body
IsContentRead s _ body = body ≡ None

-- what a read gives for the rest of a pending page: the body, if it is the page that the rest is read from; a read that
-- failed gives none, and neither does one for a page that is not pending
abbrev pub IsRestRead : Option Pending → Outcome → Option (List ℕ) → Type 0
IsRestRead (Some p) (outcome.Read page) body = IsBodyLooked page p.key (rest_look p.rest) body
IsRestRead _ o body = body ≡ None

-- what is kept once a read for this reader is over, of a page with this tag
abbrev pub IsReadOver : Core → Outcome → Option Tag → Reader → Core → Type 0
IsReadOver c o found (ForTask tag index) new = new ≡ record c { pins = map (wanted_no_more tag index) c.pins }
IsReadOver c o found ForStep new =
    (body : Option (List ℕ)) × IsContentRead c.step o body × (new ≡ with_content c found body)
IsReadOver c o found (ForRest number index) new =
    (body : Option (List ℕ)) × IsRestRead (find (is_named number index) c.pages) o body
    × (new ≡ with_rest c (record { number = number; index = index }) body)
IsReadOver c o found ForNobody new = new ≡ c

-- what is kept after a read: its die is idle, and its reader has what it waited for. An outcome that is not one of a
-- read changes nothing
abbrev pub IsReadAfter : Bool → Core → ℕ → DieRow → Outcome → Option Tag → Reader → Core → Type 0
IsReadAfter false c die b o found r new = new ≡ c
IsReadAfter true c die b o found r new =
    IsReadOver (with_row c die record { filling = b.filling; flight = None }) o found r new
