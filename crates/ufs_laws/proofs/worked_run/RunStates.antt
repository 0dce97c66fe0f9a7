-- The states of the run of a new device, one by one.
use Rattle.ufs_spec.specs.Exchanges.{to_gather}
use Rattle.ufs_laws.proofs.Common.{Answering, Awaiting, Bool, Deed, Disk, Flight, ForWrite, Gathering, Good, Item}
use Rattle.ufs_laws.proofs.Common.{Ledger, List, MarkPage, Mended, Name, None, Option, Pin, Plain, Purpose, ReadState}
use Rattle.ufs_laws.proofs.Common.{Sending, Some, Spot, State, Task, Unread, WasRead, Work, [], ap, apply, arith}
use Rattle.ufs_laws.proofs.Common.{at_die, block_at, complete, data_key, data_program, data_read, drop, erased, false}
use Rattle.ufs_laws.proofs.Common.{first_mark, if◌then◌else◌, le-ltb, length, length-take-le, map, page_of, programmed}
use Rattle.ufs_laws.proofs.Common.{refl, row, set_deed, shape_of, shape_of_numbers, slice_index_or, slice_set, take}
use Rattle.ufs_laws.proofs.Common.{true, with_part, ℕ, ◌==◌, ◌∷◌, ◌≡◌, ◌≤◌}
use Rattle.std.proofs.lemmas.List.{get_or_at}
use Rattle.ufs_laws.proofs.new_dies.NewDeviceState.{Open, new_disk, new_ledger, new_state, new_translation, new_work}
use Rattle.ufs_laws.specs.GapRows.{write_page}
use Rattle.ufs_laws.specs.Runs.{erase, mark_program, place_of}
use Rattle.ufs_spec.specs.Commands as command
use Rattle.ufs_spec.specs.Dies.{blank_page}
use Rattle.ufs_spec.specs.Disk.{at_place, ended, job_begun}
use Rattle.ufs_spec.specs.Ledger.{at_name}
use Rattle.ufs_spec.specs.Machine.{gathered_more, in_block}
use Rattle.ufs_spec.specs.Translation.{MarkStep}
use Rattle.ufs_spec.specs.declared.layer.Looked.TheVariants.{OnPage}
use Rattle.ufs_spec.specs.declared.scsi.Cdb.TheVariants as cdb

-- The block

-- behind a WRITE of it, its address has the block
block_set : (units : List (List (List ℕ))) (body : List ℕ) (rest : List ℕ) → map length units ≡ 256 ∷ rest
    →
    slice_index_or
    (slice_index_or (slice_set units 0 (with_part 255 (body ∷ []) (slice_index_or units 0 []))) 0 []) 255 []
    ≡ body
block_set [] body rest e = absurd (let h : [] ≡ 256 ∷ rest = e in cc)
block_set (u ∷ us) body rest e =
    let long : length u ≡ 256 = cc in
    get_or_at (take 255 u) body (drop 256 u) [] 255 (length-take-le 255 u (omega arith))

pub block_written : (base : Plain) (body : List ℕ) → shape_of base ≡ shape_of_numbers row
    → block_at 0 0xFF (apply base (command.Write 0 0xFF (body ∷ []))) ≡ body
block_written base body shape = block_set base.units body (64 ∷ 64 ∷ []) (ap (λ s. s.blocks) shape)

pub gathered_all : (s : State) (task : Task) (purpose : Purpose) (body : List ℕ) → to_gather purpose task.length ≤ length body
    → gathered_more s task purpose body ≡ complete s task purpose body
gathered_all s task purpose body long =
    ap (λ (b : Bool). if b then set_deed s task.tag (Gathering purpose body false) else complete s task purpose body)
    (le-ltb (length body) (to_gather purpose task.length) long)

-- Flights

abbrev no_flights : ℕ → Option Flight
no_flights die = None

-- where the job of die 0 has ended, no die has one
pub none_again : (flight : Flight) → at_die (at_die no_flights 0 (Some flight)) 0 None ≡ no_flights
none_again flight i die = at_either (die == 0) i
  where
    at_either : (b : Bool) → (if b then None else if b then Some flight else None) ≡ None
    at_either true = refl
    at_either false = refl

-- The first mark

abbrev pub first_spot : Spot
first_spot = record { die = 0; block = 0 }

-- while the mark is under way
abbrev pub marking : Open → Disk → State
marking o d =
    record (new_state o) {
      translation = record (new_translation o) {
        disk = d;
        ledger = record (new_ledger o) { marks = 1 };
        work = record new_work { step = Some (record { kind = MarkStep 1 None; there = true }) };
      };
    }

abbrev pub erasing_disk : Disk
erasing_disk = job_begun new_disk 0 erase

abbrev pub erased_disk : Disk
erased_disk = record (erased erasing_disk first_spot) { flights = no_flights }

abbrev pub marking_disk : Disk
marking_disk = job_begun erased_disk 0 mark_program

abbrev pub marked_disk : Disk
marked_disk = record (programmed 64 marking_disk (place_of 0) (MarkPage (first_mark row))) { flights = no_flights }

-- once it is finished
abbrev pub marked_ledger : Open → Ledger
marked_ledger o = record (new_ledger o) { newest = Some (first_mark row); marks = 1 }

abbrev pub mended_work : Work
mended_work = record { mending = Mended; plan = None; step = None; rests = [] }

unfoldable pub ordered : Open → State
ordered o = marking o new_disk

unfoldable pub erasing : Open → State
erasing o = marking o erasing_disk

unfoldable pub erased_first : Open → State
erased_first o = marking o erased_disk

unfoldable pub programming : Open → State
programming o = marking o marking_disk

abbrev pub marked_with : Open → Disk → State
marked_with o d =
    record (new_state o) {
      translation = record (new_translation o) { disk = d; ledger = marked_ledger o; work = mended_work };
    }

unfoldable pub marked : Open → State
marked o = marked_with o marked_disk

-- the array behind the erase, and behind the mark
unfoldable pub erased_array : Open → Open
erased_array o = record o { array = λ p. if in_block row first_spot p then blank_page else o.array p }

unfoldable pub marked_array : Open → Open
marked_array o = record o { array = at_place o.array (place_of 0) (page_of (MarkPage (first_mark row))) }

-- A block is written

abbrev pub write_task : Deed → Task
write_task deed =
    record {
      lun = 0;
      tag = 7;
      expected = 4096;
      command = Some (cdb.Write 0xFF 1 true);
      length = 4096;
      deed = deed;
      request = None;
    }

abbrev pub gathering_data : Bool → Deed
gathering_data asked = Gathering (ForWrite 0 0xFF 1 true) [] asked

abbrev pub gathering_state : Open → Bool → State
gathering_state o asked =
    record (new_state o) {
      translation =
          record (new_translation o) { disk = marked_disk; ledger = marked_ledger o; work = mended_work; claims = 1 };
      tasks = write_task (gathering_data asked) ∷ [];
    }

unfoldable pub gathering : Open → State
gathering o = gathering_state o false

unfoldable pub asked : Open → State
asked o = gathering_state o true

abbrev item_of : List ℕ → Item
item_of body = record { key = data_key 0 0xFF; body = body }

abbrev pending_ledger : Open → List ℕ → Ledger
pending_ledger o body = record (marked_ledger o) { groups = (item_of body ∷ []) ∷ [] }

-- the translation layer and the tasks behind the WRITE's data, with the body of the group's page
abbrev pub behind_write : Open → List ℕ → Disk → Ledger → List Pin → List Task → State
behind_write o body d l pins tasks =
    record (new_state o) {
      accepted = command.Write 0 0xFF (body ∷ []) ∷ [];
      translation = record (new_translation o) { disk = d; ledger = l; work = mended_work; pins = pins };
      tasks = tasks;
    }

abbrev pub awaiting : Task
awaiting = write_task (Awaiting 1)

-- the group's page has the block
abbrev pub pending_with : Open → List ℕ → List ℕ → State
pending_with o body item = behind_write o body marked_disk (pending_ledger o item) [] (awaiting ∷ [])

unfoldable pub pending : Open → List ℕ → State
pending o body = behind_write o body marked_disk (pending_ledger o body) [] (awaiting ∷ [])

abbrev pub writing_disk : List ℕ → Disk
writing_disk body = job_begun marked_disk 0 (data_program body)

abbrev pub written_disk : List ℕ → Disk
written_disk body =
    record (programmed 64 (writing_disk body) (place_of 1) (write_page 1 0xFF 0 body)) { flights = no_flights }

abbrev pub first_name : Name
first_name = record { number = 1; index = 0 }

abbrev pub written_ledger : Open → List ℕ → ℕ → Ledger
written_ledger o body told =
    record (pending_ledger o body) {
      standing = at_name (λ number index. None) first_name (Some (place_of 1));
      frontier = 1;
      held = told;
    }

unfoldable pub writing : Open → List ℕ → State
writing o body = behind_write o body (writing_disk body) (pending_ledger o body) [] (awaiting ∷ [])

unfoldable pub written : Open → List ℕ → State
written o body = behind_write o body (written_disk body) (written_ledger o body 0) [] (awaiting ∷ [])

unfoldable pub told : Open → List ℕ → State
told o body = behind_write o body (written_disk body) (written_ledger o body 1) [] []

unfoldable pub written_array : Open → List ℕ → Open
written_array o body = record o { array = at_place o.array (place_of 1) (page_of (write_page 1 0xFF 0 body)) }

-- It is read

abbrev pub data_pin : Bool → Pin
data_pin wanted = record { tag = 8; index = 0; looked = OnPage first_name (place_of 1); wanted = wanted }

abbrev pub read_task : Deed → Task
read_task deed =
    record {
      lun = 0;
      tag = 8;
      expected = 4096;
      command = Some (cdb.Read 0xFF 1);
      length = 4096;
      deed = deed;
      request = None;
    }

abbrev pub sending_block : List ℕ → ReadState → Deed
sending_block body state = Sending (record { body = body; state = state } ∷ []) 0

abbrev pub reading_with : Open → List ℕ → Disk → Bool → Deed → State
reading_with o body d wanted deed =
    behind_write o body d (written_ledger o body 1) (data_pin wanted ∷ []) (read_task deed ∷ [])

abbrev pub reading_block : Open → List ℕ → List ℕ → State
reading_block o body block = reading_with o body (written_disk body) true (sending_block block Unread)

unfoldable pub reading : Open → List ℕ → State
reading o body = reading_with o body (written_disk body) true (sending_block body Unread)

abbrev pub reading_disk : List ℕ → Disk
reading_disk body = job_begun (written_disk body) 0 data_read

abbrev pub read_disk : List ℕ → Disk
read_disk body = record (ended (reading_disk body) 0) { flights = no_flights }

unfoldable pub in_flight : Open → List ℕ → State
in_flight o body = reading_with o body (reading_disk body) true (sending_block body Unread)

unfoldable pub was_read : Open → List ℕ → State
was_read o body = reading_with o body (read_disk body) false (sending_block body WasRead)

unfoldable pub sent : Open → List ℕ → State
sent o body = behind_write o body (read_disk body) (written_ledger o body 1) [] (read_task (Answering Good 4096) ∷ [])

unfoldable pub answered : Open → List ℕ → State
answered o body = behind_write o body (read_disk body) (written_ledger o body 1) [] []
