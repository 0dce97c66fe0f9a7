-- Each task that a call opens or changes fits what it needs for its replies.
use Rattle.ufs_laws.proofs.Common.{Answering, AreBytes, Awaiting, Bool, Cdb, Deed, Every, Gathering, Good, IsBlock}
use Rattle.ufs_laws.proofs.Common.{IsRequest, List, None, Option, ReadBlock, ReadState, ReadingArea, Request}
use Rattle.ufs_laws.proofs.Common.{RpmbRequest, Sending, SendingBytes, Some, State, Status, Task, UnitSpec, Unread, []}
use Rattle.ufs_laws.proofs.Common.{ap, arith, begun, below, big_bytes, block_at, blocks_expected, data_begun}
use Rattle.ufs_laws.proofs.Common.{deed_locked, false, first_line, flat_map, get_or, has_wrong_list, if◌then◌else◌}
use Rattle.ufs_laws.proofs.Common.{invalid_field, is_too_long, kind_of, length}
use Rattle.ufs_laws.proofs.Common.{length-take, length-take-le, lines_after, map}
use Rattle.ufs_laws.proofs.Common.{numbers_of, plain_now, read_begun, read_blocks, refl, refusal, same_Some, sending}
use Rattle.ufs_laws.proofs.Common.{slice_get, subst, suc, sym, task_of, true, unit_numbers_of, unit_of_request}
use Rattle.ufs_laws.proofs.Common.{unit_or_first, with_block, with_deed, with_request, write_error, zero, ℕ, ◌%◌}
use Rattle.ufs_laws.proofs.Common.{◌*◌, ◌++◌, ◌+◌, ◌-◌, ◌/◌, ◌<◌, ◌==◌, ◌^◌, ◌∙◌, ◌∷◌, ◌≡◌, ◌≢◌, ◌≤◌}
use Rattle.std.proofs.Common.{min}
use Rattle.std.specs.Prelude.{drop, slice_set, take, ◌||◌}
use Rattle.std.proofs.lemmas.Grind.{div_ceil_times}
use Rattle.std.proofs.lemmas.List.{length-set}
use Rattle.std.proofs.lemmas.Option.{get_or_from_slice_get, slice_get_within}
use Rattle.ufs_laws.proofs.pages.ByteLists.{bytes-append, bytes-number, bytes-take, bytes-zeros}
use Rattle.ufs_laws.proofs.plain_contents.ListParts.{get_or-made, length-made}
use Rattle.ufs_laws.proofs.walk.WaysOfCommands.{Answered, Beginning, Gathered, Handing, IsTold, Reading, Telling}
use Rattle.ufs_laws.proofs.walk.WaysOfCommands.{Waiting, WhyBegun, begins_by, begun_as, command_few}
use Rattle.ufs_laws.proofs.walk.WaysOfData.{IsAnswerOfData, IsGood, IsOutOfRange, IsOutOfSequence, IsWriteError}
use Rattle.ufs_laws.proofs.walk.WaysOfData.{IsWrongField, answer_one}
use Rattle.ufs_laws.proofs.exchanges.ListedUnits.{inquiry_told, luns_size, luns_told, sense_told_bytes, type_byte}
use Rattle.ufs_laws.proofs.exchanges.TakenCommandsKnown.{passed_line, past}
use Rattle.ufs_laws.proofs.walk.TaskLaws.{Any, IsTaskLaw, OneMore, task_for}
use Rattle.ufs_laws.specs.Replies.{DeedSpeaks, IsStatus, TaskSpeaks}
use Rattle.ufs_spec.specs.Begins.{frames_begun, told_bytes, type_told}
use Rattle.ufs_spec.specs.declared.volatile.Volatile.{Volatile}
use Rattle.ufs_spec.specs.Identities.{luns_bytes}
use Rattle.ufs_spec.specs.Refusals.{Line, is_beyond, is_guarded, lacks_operation, lacks_page, lacks_region}
use Rattle.ufs_spec.specs.Refusals.{lines_for, table, wants_saved}
use Rattle.ufs_laws.proofs.exchanges.ToldPages.{commands_told, long_modes, page_told, short_modes}
use Rattle.ufs_laws.proofs.exchanges.ToldPages.{capacity_told as long_capacity_told}
use Rattle.ufs_spec.specs.declared.operations.Kind.TheVariants as kind
use Rattle.ufs_spec.specs.declared.operations.Told.{Told}
use Rattle.ufs_spec.specs.declared.operations.Told.TheVariants as told
use Rattle.ufs_spec.specs.declared.scsi.Cdb.TheVariants as cdb
use Rattle.ufs_spec.proofs.Facts.{eqb-false, ltb-true}
use Rattle.ufs_spec.specs.Cdbs.{address_of, blocks_of}
use Rattle.ufs_laws.proofs.walk.WaysOfCommands.{Checking, Verifying, expecting}
use Rattle.ufs_laws.proofs.Common.{Comparing, if_cases, nat_lt}
use Rattle.ufs_spec.specs.DataOuts.{deed_after_same}
use Rattle.ufs_spec.specs.Exchanges.{miscompare}
use Rattle.ufs_spec.specs.Refusals.{brought, lacks_data, length_in, may_be_cut}
use Rattle.ufs_spec.specs.Cdbs.{direction_of}
use Rattle.ufs_spec.specs.Exchanges.{bytes_sent, list_length_error, saving_unsupported, to_gather}
use Rattle.ufs_spec.specs.Machine.{capacity_bytes, deed_read, sending_bytes, set_state}
use Rattle.ufs_laws.proofs.exchanges.DeedLaws.{IsDeedLaw, filled_keeps, goes, locks, read_keeps, reads}

-- ## Statuses of the table

abbrev AllStatus : List Line → Type 0
AllStatus [] = Unit {0}
AllStatus (l ∷ ls) = IsStatus l.status × AllStatus ls

line_status : (ls : List Line) (status : Status) → AllStatus ls → first_line ls ≡ Some status → IsStatus status
line_status [] status all e = let none : None ≡ Some status = e in cc
line_status (l ∷ ls) status all e = by l.applies e (λ k. line_status ls status all.1 k)
  where
    by : (b : Bool) → (if b then Some l.status else first_line ls) ≡ Some status →
        (first_line ls ≡ Some status → IsStatus status) → IsStatus status
    by true k rest = subst IsStatus (same_Some l.status status k) all.0
    by false k rest = rest k

is_field : IsStatus invalid_field
is_field = (omega arith, omega arith, omega arith)

lines_status : (s : State) (r : Request) (c : Cdb) → AllStatus (lines_for s r c)
lines_status s r c = (is_field, ((omega arith, omega arith, omega arith), (is_field, ((omega arith, omega arith, omega arith), (is_field, ((omega arith, omega arith, omega arith), ((omega arith, omega arith, omega arith), ((omega arith, omega arith, omega arith), ((omega arith, omega arith, omega arith), ((omega arith, omega arith, omega arith), (is_field, (tt, tt))))))))))))

later_status : (s : State) (r : Request) (c : Option Cdb) → AllStatus (lines_after s r c)
later_status s r None = (is_field, tt)
later_status s r (Some c) =
    (is_field, lines_status s r c)

pub table_status : (s : State) (r : Request) (status : Status) → refusal s r ≡ Some status → IsStatus status
table_status s r status e =
    line_status
    (table s r) status (
      (omega arith, omega arith, omega arith),
      (
        (omega arith, omega arith, omega arith),
        ((omega arith, omega arith, omega arith), ((omega arith, omega arith, omega arith), later_status s r r.cdb)),
      ),
    ) e

write_error_is : IsStatus write_error
write_error_is = (omega arith, omega arith, omega arith)

-- ## Tasks

-- the frame of a task
pub speaks : (task : Task) (deed : Deed) → TaskSpeaks task → DeedSpeaks task.length (bytes_sent task) deed →
    TaskSpeaks (record task { deed = deed })
speaks task deed h d = record { lun = h.lun; tag = h.tag; expected = h.expected; length = h.length; deed = d }

asked_for : (r : Request) (c : Option Cdb) (n : ℕ) (deed : Deed) → IsRequest r → n < 2 ^ 32 →
    DeedSpeaks n (min r.expected n) deed → TaskSpeaks (task_for r c n deed)
asked_for r c n deed is few d = let m = is.1.0.0 in record {
  lun = m.1;
  tag = m.2;
  expected = m.3;
  length = few;
  deed = d;
}

-- the same of a task of which fewer bytes count as expected
asked_less : (r : Request) (expected : ℕ) (c : Option Cdb) (n : ℕ) (deed : Deed) → IsRequest r →
    expected ≤ r.expected → n < 2 ^ 32 →
    DeedSpeaks n (min expected n) deed → TaskSpeaks (task_for (expecting r expected) c n deed)
asked_less r expected c n deed is fewer few d = let m = is.1.0.0 in
    let most = m.3 in record {
      lun = m.1;
      tag = m.2;
      expected = omega arith;
      length = few;
      deed = d;
    }

-- blocks of a READ

made_block : (f : ℕ → List ℕ) (n k : ℕ) (block : ReadBlock) → k < n →
    slice_get (map (λ i. record { body = f i; state = Unread }) (below n)) k ≡ Some block → block.body ≡ f k
made_block f n k block low e =
    let make : ℕ → ReadBlock = λ i. record { body = f i; state = Unread } in
    let there : get_or (map make (below n)) k block ≡ block = get_or_from_slice_get (map make (below n)) k block block e
    in
    ap (λ (b : ReadBlock). b.body) (sym there ∙ get_or-made make n k block low)

-- of a READ of n bytes, each block that the host expects
abbrev pub BlocksFit : State → Request → ℕ → ℕ → ℕ → Type 0
BlocksFit s r unit address n = (i : ℕ) → i < blocks_expected r n → IsBlock (block_at unit (address + i) (plain_now s))

few_blocks : (expected n : ℕ) → (4096 * (min expected n / 4096 + min 1 (min expected n % 4096)) < min expected n + 4096)
few_blocks expected n = let h = div_ceil_times (min expected n) 4096 (omega arith) in let last = h.1 in omega arith

read_speaks : (s : State) (r : Request) (c : Cdb) (unit address n : ℕ) → IsRequest r → n < 2 ^ 32 →
    BlocksFit s r unit address n →
    OneMore TaskSpeaks s.tasks (read_begun s r c unit address n).tasks
read_speaks s r c unit address n is few fit = (
  task_for r (Some c) n (sending (read_blocks s unit address count) n),
  refl,
  asked_for r (Some c) n (sending (read_blocks s unit address count) n) is few
      (sends (read_blocks s unit address count) refl (length-made _ count)),
)
  where
    count : ℕ
    count = blocks_expected r n

    sends : (made : List ReadBlock) → made ≡ read_blocks s unit address count → length made ≡ count →
        DeedSpeaks n (min r.expected n) (sending made n)
    sends [] same long = (tt, few)
    sends (b ∷ bs) same long = (omega arith, (let h = few_blocks r.expected n in omega arith), each)
      where
        each : (k : ℕ) (block : ReadBlock) → slice_get (b ∷ bs) k ≡ Some block → IsBlock block.body
        each k block e =
            let low : k < length (b ∷ bs) = slice_get_within (b ∷ bs) k block e in
            let here : k < count = omega arith in
            let body : block.body ≡ block_at unit (address + k) (plain_now s) =
            made_block (λ i. block_at unit (address + i) (plain_now s)) count k block here
            (ap (λ (xs : List ReadBlock). slice_get xs k) (sym same) ∙ e) in
            subst IsBlock (sym body) (fit k here)

-- what may be read is what was looked up
abbrev pub ReadsFit : State → Type 0
ReadsFit s = (r : Request) (c : Cdb) (n : ℕ) → IsRequest r → r.cdb ≡ Some c → refusal s r ≡ None →
    kind_of c ≡ kind.Read →
    n ≡ blocks_of c * 4096 → BlocksFit s r (unit_or_first (unit_of_request s r)) (address_of c) n

-- data that are sent at once

data_speaks : (s : State) (r : Request) (c : Cdb) (bytes : List ℕ) → IsRequest r → length bytes ≤ 4096 →
    AreBytes bytes → OneMore TaskSpeaks s.tasks (data_begun s r c bytes).tasks
data_speaks s r c bytes is few are = (
  task_for r (Some c) (length bytes) (sending_bytes r bytes),
  refl,
  asked_for r (Some c) (length bytes) (sending_bytes r bytes) is (omega arith)
      (by (min r.expected (length bytes) == 0) refl),
)
  where
    sent : ℕ
    sent = min r.expected (length bytes)

    some : (n : ℕ) → n ≢ 0 → 1 ≤ n
    some zero h = absurd (h refl)
    some (suc n) h = omega arith

    by : (b : Bool) → (sent == 0) ≡ b → DeedSpeaks (length bytes) sent (if b then Answering Good (length bytes)
        else SendingBytes bytes)
    by true e = (tt, omega arith)
    by false e =
        let low : sent ≤ length bytes = grind arith in
        let size : length (take sent bytes) ≡ sent = length-take-le sent bytes low in
        let first = some sent (eqb-false sent 0 e) in
        (omega arith, omega arith, bytes-take sent bytes are)

-- the first bytes of what is told
told_part : (s : State) (r : Request) (c : Cdb) (allocation : ℕ) (bytes : List ℕ) → IsRequest r → length bytes ≤ 4096 →
    AreBytes bytes → OneMore TaskSpeaks s.tasks (data_begun s r c (take allocation bytes)).tasks
told_part s r c allocation bytes is few are =
    let size : length (take allocation bytes) ≡ min allocation (length bytes) = length-take allocation bytes in
    let least : min allocation (length bytes) ≤ length bytes = grind arith in
    data_speaks s r c (take allocation bytes) is (omega arith) (bytes-take allocation bytes are)

-- the device has no more units than a configuration may have
abbrev pub FewUnits : State → Type 0
FewUnits s = length (numbers_of s).units.items ≤ 8

-- what waits for SECURITY PROTOCOL IN is no more than 4096 bytes
abbrev pub FramesFit : State → Type 0
FramesFit s = (region : ℕ) →
    (length (flat_map (λ (frame : List ℕ). frame) (s.registers region).response) ≤ 4096)
    × AreBytes (flat_map (λ (frame : List ℕ). frame) (s.registers region).response)

-- what is told are bytes, and not many
told_bytes_few : (s : State) (r : Request) (what : Told) (select : ℕ) → r.lun < 256 → FewUnits s →
    (length (told_bytes s r what select) ≤ 4096) × AreBytes (told_bytes s r what select)
told_bytes_few s r told.Sense select lun few = (omega arith, sense_told_bytes s r)
told_bytes_few s r told.Identity select lun few = (omega arith, inquiry_told (type_told s r) (type_byte s r))
told_bytes_few s r told.Capacity select lun few = capacity_few (unit_numbers_of s r)
  where
    capacity_few : (u : Option UnitSpec) → (length (capacity_bytes u) ≤ 4096) × AreBytes (capacity_bytes u)
    capacity_few None = (omega arith, bytes-zeros 8)
    capacity_few (Some u) = (
      omega arith,
      bytes-append (big_bytes 4 (u.blocks - 1)) (big_bytes 4 4096) (bytes-number 4 (u.blocks - 1)) (bytes-number 4 4096),
    )
told_bytes_few s r told.LongCapacity select lun few =
    let its = long_capacity_told (unit_numbers_of s r) in (omega (arith, its.0), its.1)
told_bytes_few s r told.Page select lun few =
    let its = page_told (numbers_of s) r.lun select lun in (omega (arith, its.0), its.1)
told_bytes_few s r told.Modes select lun few =
    let its = long_modes select (is_guarded s (unit_numbers_of s r)) in (omega (arith, its.1.0), its.1.1)
told_bytes_few s r told.ShortModes select lun few =
    let its = short_modes select (is_guarded s (unit_numbers_of s r)) in (omega (arith, its.1.0), its.1.1)
told_bytes_few s r told.Operations select lun few =
    let its = commands_told select in (omega (arith, its.0), its.1)
told_bytes_few s r told.Units select lun few =
    let all : length (luns_bytes (numbers_of s) select) ≤ 104 = luns_size (numbers_of s) select few in
    (omega arith, luns_told (numbers_of s) select few)

told_speaks : (s : State) (r : Request) (c : Cdb) (volatile : Volatile) (bytes : List ℕ) → IsRequest r → FewUnits s →
    IsTold s r volatile bytes →
    OneMore TaskSpeaks s.tasks (data_begun (record s { volatile = volatile }) r c bytes).tasks
told_speaks s r c volatile bytes is few t =
    let its = told_bytes_few s r t.what t.select is.1.0.0.1 few in
    subst (λ (b : List ℕ). OneMore TaskSpeaks s.tasks (data_begun s r c b).tasks) (sym t.is)
    (told_part s r c t.allocation (told_bytes s r t.what t.select) is its.0 its.1)

frames_speak : (s : State) (r : Request) (region n : ℕ) → IsRequest r →
    (length (flat_map (λ (frame : List ℕ). frame) (s.registers region).response) ≤ 4096)
    × AreBytes (flat_map (λ (frame : List ℕ). frame) (s.registers region).response) →
    OneMore TaskSpeaks s.tasks (frames_begun s r region n).tasks
frames_speak s r region n is fit =
    data_speaks s r (cdb.SecurityIn region n) (flat_map (λ frame. frame) (s.registers region).response) is fit.0 fit.1

abbrev BlocksOf : State → Request → ℕ → Cdb → Type 0
BlocksOf s r unit c = (n : ℕ) → kind_of c ≡ kind.Read → n ≡ blocks_of c * 4096 →
    BlocksFit s r unit (address_of c) n

begins_speaking : (s : State) (r : Request) (c : Cdb) (unit : ℕ) → IsRequest r → BlocksOf s r unit c →
    FewUnits s → FramesFit s → is_too_long (numbers_of s) c ≡ false → has_wrong_list c ≡ false →
    OneMore TaskSpeaks s.tasks (begun s r unit c).tasks
begins_speaking s r c unit is reads units frames short listed =
    begins_by (λ t. OneMore TaskSpeaks s.tasks t.tasks) s r unit c one
  where
    one : (b : Beginning) → WhyBegun s r unit c b → OneMore TaskSpeaks s.tasks (begun_as s r c b).tasks
    one (Answered expected n) (counts, size) = (
      task_for (expecting r expected) (Some (brought r.expected c)) n (Answering Good n),
      refl,
      asked_less r expected (Some (brought r.expected c)) n (Answering Good n) is counts (size short) (tt, size short),
    )
    one Waiting why = (
      task_for r (Some (brought r.expected c)) 0 (Awaiting (length s.accepted)),
      refl,
      asked_for r (Some (brought r.expected c)) 0
          (Awaiting (length s.accepted)) is (omega arith) tt,
    )
    one (Telling volatile bytes) why = told_speaks s r (brought r.expected c) volatile bytes is units why
    one (Handing region n) why = frames_speak s r region n is (frames region)
    one (Reading u address n) (unit_is, address_is, size, read) =
        let few = command_few (numbers_of s) c short in
        read_speaks s r (brought r.expected c) u address n is (omega arith)
        (subst (λ (x : ℕ). BlocksFit s r x address n) (sym unit_is)
        (subst (λ (x : ℕ). BlocksFit s r unit x n) (sym address_is) (reads n read size)))
    one (Verifying u address n) why = (
      task_for r (Some (brought r.expected c)) 0 (ReadingArea (read_blocks s u address n)),
      refl,
      asked_for r (Some (brought r.expected c)) 0 (ReadingArea (read_blocks s u address n)) is (omega arith) tt,
    )
    one (Checking u address n) (unit_is, is_verify, some) =
        let few : blocks_of c ≤ 128 = command_few (numbers_of s) c short in
        let size : blocks_of c ≡ n = ap blocks_of is_verify in
        let long : length (read_blocks s u address n) ≡ n = length-made _ n in (
          task_for r (Some (brought r.expected c)) (4096 * n) (Comparing (read_blocks s u address n) 0 false),
          refl,
          asked_for r (Some (brought r.expected c)) (4096 * n) (Comparing (read_blocks s u address n) 0 false) is
              (omega arith) (omega arith, omega arith),
        )
    one (Gathered expected count purpose n) (slots, some, few, needs, gathered, counts, part) = (
      task_for (expecting r expected) (Some (brought r.expected c)) n (Gathering purpose [] false),
      refl,
      asked_less r expected (Some (brought r.expected c)) n (Gathering purpose [] false) is counts (few short listed)
          (some short, part),
    )

-- the lines behind those of what a command names
abbrev LaterLines : State → Request → Cdb → List Line
LaterLines s r c = drop 2 (lines_for s r c)

-- what a command that is not refused names is there
named : (s : State) (r : Request) (c : Cdb) → r.cdb ≡ Some c → refusal s r ≡ None → first_line (LaterLines s r c) ≡ None
named s r c e passed =
    (passed_line (wants_saved c) saving_unsupported _
    (passed_line (lacks_region (numbers_of s) c || (lacks_page (numbers_of s) r.lun c || lacks_operation c)) invalid_field _
    (passed_line (is_beyond (numbers_of s) r) invalid_field _
    (subst (λ (o : Option Cdb). first_line (lines_after s r o) ≡ None) e (past s r passed).later)).1).1).1

-- a command that is not refused is not too long
not_too_long : (s : State) (r : Request) (c : Cdb) → r.cdb ≡ Some c → refusal s r ≡ None →
    is_too_long (numbers_of s) c ≡ false
not_too_long s r c e passed =
    (passed_line (is_too_long (numbers_of s) c) invalid_field _ (named s r c e passed)).0

-- and an UNMAP's list is of a length that there is
rightly_listed : (s : State) (r : Request) (c : Cdb) → r.cdb ≡ Some c → refusal s r ≡ None → has_wrong_list c ≡ false
rightly_listed s r c e passed =
    (passed_line (has_wrong_list c) list_length_error _
    (passed_line (is_too_long (numbers_of s) c) invalid_field _ (named s r c e passed)).1).0

-- and its data come as they should
pub data_there : (s : State) (r : Request) (c : Cdb) → r.cdb ≡ Some c → refusal s r ≡ None →
    lacks_data r (direction_of c) (may_be_cut (numbers_of s) c) (length_in s r c) ≡ false
data_there s r c e passed =
    (passed_line (lacks_data r (direction_of c) (may_be_cut (numbers_of s) c) (length_in s r c)) invalid_field _
    (passed_line (has_wrong_list c) list_length_error _
    (passed_line (is_too_long (numbers_of s) c) invalid_field _ (named s r c e passed)).1).1).0

-- ## What tasks do next

-- a block that was read has its body
set_at : (blocks : List ReadBlock) (index k : ℕ) (state : ReadState) (old block : ReadBlock) →
    slice_get blocks index ≡ Some old → slice_get (slice_set blocks index (set_state state old)) k ≡ Some block →
    (before : ReadBlock) × (slice_get blocks k ≡ Some before) × (block.body ≡ before.body)
set_at [] index k state old block there e = let none : None ≡ Some old = there in cc
set_at (b ∷ bs) zero zero state old block there e = (
  b,
  refl,
  ap (λ (x : ReadBlock). x.body) (sym (same_Some (set_state state old) block e))
      ∙ ap (λ (x : ReadBlock). x.body) (sym (same_Some b old there)),
)
set_at (b ∷ bs) zero (suc k) state old block there e = (block, e, refl)
set_at (b ∷ bs) (suc index) zero state old block there e = (block, e, refl)
set_at (b ∷ bs) (suc index) (suc k) state old block there e = set_at bs index k state old block there e

read_speaks_again : (total sent_bytes : ℕ) (blocks : List ReadBlock) (sent index : ℕ) (state : ReadState) →
    DeedSpeaks total sent_bytes (Sending blocks sent) →
    DeedSpeaks total sent_bytes (Sending (with_block blocks index state (slice_get blocks index)) sent)
read_speaks_again total sent_bytes blocks sent index state d = by (slice_get blocks index) refl
  where
    by : (o : Option ReadBlock) → slice_get blocks index ≡ o →
        DeedSpeaks total sent_bytes (Sending (with_block blocks index state o) sent)
    by None e = d
    by (Some old) e =
        let long : length (slice_set blocks index (set_state state old)) ≡ length blocks =
        length-set blocks index (set_state state old) in
        let inside = d.0 in
        let bound = d.1 in (
          omega arith,
          omega arith,
          λ k block there. (let b = set_at blocks index k state old block e there in
              subst IsBlock (sym b.2) (d.2 k b.0 b.1)),
        )

answer_status : (status : Status) → IsAnswerOfData status → IsStatus status
answer_status status IsGood = tt
answer_status status IsWriteError = write_error_is
answer_status status IsWrongField = (omega arith, omega arith, omega arith)
answer_status status IsOutOfRange = (omega arith, omega arith, omega arith)
answer_status status IsOutOfSequence = (omega arith, omega arith, omega arith)

-- of blocks that are compared none is lost where one was read
with_block_long : (blocks : List ReadBlock) (index : ℕ) (state : ReadState) (o : Option ReadBlock) →
    length (with_block blocks index state o) ≡ length blocks
with_block_long blocks index state None = refl
with_block_long blocks index state (Some old) = length-set blocks index (set_state state old)

compare_speaks_again : (total sent_bytes : ℕ) (blocks : List ReadBlock) (compared : ℕ) (was : Bool) (index : ℕ)
    (state : ReadState) → DeedSpeaks total sent_bytes (Comparing blocks compared was) →
    DeedSpeaks total sent_bytes (Comparing (with_block blocks index state (slice_get blocks index)) compared was)
compare_speaks_again total sent_bytes blocks compared was index state d =
    let long = with_block_long blocks index state (slice_get blocks index) in
    let inside = d.0 in
    let within = d.1 in
    (omega arith, omega arith)

same_speaks : (task : Task) (blocks : List ReadBlock) (compared : ℕ) (asked : Bool) → task.length < 2 ^ 32 →
    DeedSpeaks task.length (bytes_sent task) (Comparing blocks compared asked) →
    DeedSpeaks task.length (bytes_sent task) (deed_after_same task blocks compared)
same_speaks task blocks compared asked few d =
    if_cases (DeedSpeaks task.length (bytes_sent task)) (nat_lt (compared + 1) (length blocks))
    (λ more. (ltb-true (compared + 1) (length blocks) more, d.1)) (λ last. (tt, few))

miscompare_is : IsStatus miscompare
miscompare_is = (omega arith, omega arith, omega arith)

differs_speaks : (task : Task) (blocks : List ReadBlock) (compared : ℕ) (asked : Bool) → task.length < 2 ^ 32 →
    DeedSpeaks task.length (bytes_sent task) (Comparing blocks compared asked) →
    DeedSpeaks task.length (bytes_sent task) (Answering miscompare (4096 * (compared + 1)))
differs_speaks task blocks compared asked few d =
    let inside = d.0 in
    let within = d.1 in
    (miscompare_is, omega arith)

-- what is said of a deed is said of what its task does next
speaking_deeds : (task : Task) → TaskSpeaks task → IsDeedLaw (DeedSpeaks task.length (bytes_sent task)) task
speaking_deeds task h = record {
  asked = λ purpose gathered was d. d;
  next = λ blocks sent more d. (ltb-true (sent + 1) (length blocks) more, d.1, d.2);
  sent = (tt, h.length);
  fails = (write_error_is, h.length);
  read = λ blocks sent index state d. read_speaks_again task.length (bytes_sent task) blocks sent index state d;
  page = λ pages index state d. tt;
  compares = λ blocks compared was d. d;
  found = λ blocks compared was index state d.
      compare_speaks_again task.length (bytes_sent task) blocks compared was index state d;
}

-- tags of tasks are apart
abbrev pub SetsOne : State → Type 0
SetsOne s = (task : Task) (deed : Deed) → task_of task.tag s.tasks ≡ Some task → Every TaskSpeaks s.tasks →
    TaskSpeaks (record task { deed = deed }) →
    Every TaskSpeaks (map (with_deed task.tag deed) s.tasks)

-- the same, with a request
abbrev pub SetsRequest : State → Type 0
SetsRequest s = (task : Task) (request : RpmbRequest) (deed : Deed) → task_of task.tag s.tasks ≡ Some task →
    Every TaskSpeaks s.tasks → TaskSpeaks (record task { deed = deed }) →
    Every TaskSpeaks (map (with_request task.tag request deed) s.tasks)

pub speaks_law : (s : State) → SetsOne s → SetsRequest s → ReadsFit s → FewUnits s → FramesFit s →
    IsTaskLaw TaskSpeaks (λ task deed. TaskSpeaks (record task { deed = deed })) Any s
speaks_law s sets requests found units frames = record {
  set = sets;
  set_request = requests;
  refused = λ r status is asks free e. asked_for r None 0 (Answering status 0) is (omega arith)
      (table_status s r status e, omega arith);
  begins = λ r c is asks free e passed.
      begins_speaking s r c (unit_or_first (unit_of_request s r)) is
      (λ n read size. found r c n is e passed read size) units frames (not_too_long s r c e passed)
      (rightly_listed s r c e passed);
  gathers = λ task purpose gathered bytes asked e h next more. speaks task (Gathering purpose (gathered ++ bytes) false)
      h (
        ltb-true _ (to_gather purpose task.length) more,
        (subst (DeedSpeaks task.length (bytes_sent task)) e h.deed).1,
      );
  answers = λ task purpose gathered asked status e h is.
      speaks task (Answering status task.length) h (answer_status status (answer_one purpose status is), h.length);
  waits = λ task purpose gathered asked position e h. speaks task (Awaiting position) h tt;
  reads_area = λ task purpose gathered asked pages e h. speaks task (ReadingArea pages) h tt;
  same = λ task blocks compared asked e h. speaks task (deed_after_same task blocks compared) h
      (same_speaks task blocks compared asked h.length (subst (DeedSpeaks task.length (bytes_sent task)) e h.deed));
  differs = λ task blocks compared asked block e there h.
      speaks task (Answering miscompare (4096 * (compared + 1))) h
      (differs_speaks task blocks compared asked h.length (subst (DeedSpeaks task.length (bytes_sent task)) e h.deed));
  goes = λ task deed e h. speaks task deed h (goes (DeedSpeaks task.length (bytes_sent task)) task
      (speaking_deeds task h) task.deed deed h.deed e);
  fills = λ u task h. filled_keeps TaskSpeaks u task (record {
    lun = h.lun;
    tag = h.tag;
    expected = h.expected;
    length = h.length;
    deed = h.deed;
  }) h;
  locks = λ u task h. speaks task (deed_locked u task task.deed) h
      (locks (DeedSpeaks task.length (bytes_sent task)) task (speaking_deeds task h) u task.deed h.deed);
  reads = λ tag index state task h.
      read_keeps TaskSpeaks tag index state task
      (speaks task (deed_read index state task.deed) h
      (reads (DeedSpeaks task.length (bytes_sent task)) task (speaking_deeds task h) index state task.deed h.deed)) h;
}
