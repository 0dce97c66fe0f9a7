-- A message from the host that opens an exchange.
use Rattle.ufs_spec.specs.Exchanges.{Comparing}
use Rattle.std.specs.Prelude.{◌*◌}
use Rattle.ufs_laws.proofs.walk.WaysOfCommands.{Checking, Verifying}
use Rattle.ufs_spec.specs.Begins.{wanted_at}
use Rattle.ufs_spec.specs.Exchanges.{ReadingArea}
use Rattle.power_loss.proofs.host_commands.PassedCommands.{verify_changes}
use Rattle.power_loss.proofs.Common.{IsData, IsKey, All-weaker}
use Rattle.power_loss.proofs.ordered_lists.ElementsAndOrders.{all_below}
use Rattle.power_loss.proofs.Common.{◌≡◌, ℕ, ◌+◌, ◌==◌, ◌&&◌, Bool, true, false, List, [], ◌∷◌, Option, Some, None}
use Rattle.power_loss.proofs.Common.{length, map, get_or, min, refl, sym, ap, ◌∙◌, subst, inl, inr, arith, ⊎_elim, ◌<◌}
use Rattle.power_loss.proofs.Common.{nat_le, nat_lt, list_any, length-map, ltb-false, none-some, or_parts, below}
use Rattle.power_loss.proofs.Common.{data_key, Claim, free_slots, is_mended, Numbers, flat_map, not, ◌||◌, ◌⊎◌}
use Rattle.power_loss.proofs.Common.{and_parts, eqb-true, false≢true, leb-true, not-false, or_cases}
use Rattle.power_loss.proofs.MachineWords.{address_of, blocks_of, Answering, Awaiting, Deed, ForWrite}
use Rattle.power_loss.proofs.MachineWords.{Gathering, Good, ReadBlock, Sending, Short, Status, Task, TaskSetFull}
use Rattle.power_loss.proofs.MachineWords.{SendingBytes, is_short_of, is_task_of, response, short_reply, ForFrames}
use Rattle.power_loss.proofs.MachineWords.{ForUnmap, Purpose, begun, begun_if_any, blocks_expected, claimed_by}
use Rattle.power_loss.proofs.MachineWords.{command_taken, kept_at, refused_or_begun, read_begun, read_blocks, sending}
use Rattle.power_loss.proofs.MachineWords.{tag_in, unit_or_first, with_moves, with_short, with_task, most_tasks}
use Rattle.power_loss.proofs.MachineWords.{Request, State, numbers_of, refusal, unit_of_request, UnitSpec}
use Rattle.power_loss.proofs.MachineWords.{Message, Cdb, DeedFits, IsTied, ShortFits, WriteFits}
use Rattle.std.specs.Prelude.{if◌then◌else◌, ◌%◌, ◌/◌}
use Rattle.ufs_spec.specs.Begins.{frames_begun}
use Rattle.ufs_spec.proofs.CommandTable.{IsOfRegion, region_in}
use Rattle.ufs_spec.specs.CdbFields.{kind_of, spelled_cdb}
use Rattle.ufs_spec.specs.declared.operations.Kind.TheVariants as kind
use Rattle.ufs_spec.specs.declared.volatile.Volatile.{Volatile}
use Rattle.ufs_spec.specs.Messages.{is_among}
use Rattle.ufs_spec.specs.Plain.{regions, shape_of_numbers, steps_of}
use Rattle.ufs_spec.proofs.RegionPages.{region_there}
use Rattle.std.proofs.lemmas.Bool.{cases_lt, eqb-false, eq-eqb, lt-ltb}
use Rattle.ufs_spec.specs.declared.scsi.Cdb.TheVariants as cdb
use Rattle.power_loss.specs.Exchange.{FramesFit, UnmapFits}
use Rattle.ufs_spec.specs.Exchanges.{most_short_exchanges, number_of}
use Rattle.ufs_spec.specs.Machine.{data_begun, in_use, is_open, opening_fault}
use Rattle.ufs_spec.specs.Configs.{command_blocks}
use Rattle.ufs_spec.specs.Refusals.{is_frames, needs_blocks, needs_mended, refused_state, slots_needed, writes}
use Rattle.ufs_spec.specs.declared.faults.HostFault.TheVariants.{Backlog, TagInUse}
use Rattle.ufs_laws.proofs.walk.WaysOfCommands.{Answered, Beginning, Gathered, Handing, IsWritten, Reading, Telling}
use Rattle.ufs_laws.proofs.walk.WaysOfCommands.{Waiting, WhyBegun, begins_by, begun_as, expecting}
use Rattle.ufs_spec.specs.Refusals.{brought}
use Rattle.ufs_laws.proofs.pages.ByteLists.{bytes-nil}
use Rattle.ufs_laws.proofs.walk.SmallChanges.{Both, One, Opens, OpensShort, SetsRegisters, SetsVolatile, Still}
use Rattle.power_loss.proofs.host_commands.ReadBlocks.{KeysOfDevice, keys_read, pins_right, reads_in}
use Rattle.power_loss.proofs.host_commands.PassedCommands.{means_more, Changes, Passed, lies_within, passed, ready_now}
use Rattle.power_loss.proofs.host_commands.PassedCommands.{unit_told, unmap_changes, write_changes}
use Rattle.power_loss.proofs.calls.RightChanges.{Right, right_keeps, right_move}
use Rattle.power_loss.proofs.open_tasks.TaskLists.{short_opened, task_opened}

-- A tag that is free

pub record IsFree (s : State) (tag : ℕ) : Type 0 where
  pub no_task : list_any (is_task_of tag) s.tasks ≡ false
  pub no_short : list_any (is_short_of tag) s.shorts ≡ false

pub is_free : (s : State) (manages : Bool) (tag : ℕ) (short : Bool) → opening_fault s manages tag short ≡ None →
    IsFree s (number_of manages tag)
is_free s manages tag short h = by (in_use s manages tag) refl h
  where
    number : ℕ
    number = number_of manages tag

    by : (b : Bool) → in_use s manages tag ≡ b →
        (if b then Some TagInUse else if short && nat_le most_short_exchanges (length s.shorts)
        then Some Backlog else None) ≡ None →
        IsFree s number
    by true e k = absurd (none-some TagInUse (sym k))
    by false e k =
        let own = or_parts (is_open s number) _ e in
        let both = or_parts (list_any (is_task_of number) s.tasks) (list_any (is_short_of number) s.shorts) own.0 in
        record { no_task = both.0; no_short = both.1 }

-- Opening an exchange

pub short_right : {s : State} {short : Short} → IsTied s → IsFree s short.tag →
    ShortFits (length s.accepted) (is_mended s.translation.work.mending) short → Right s (with_short s short)
short_right {short = short} v free fits =
    One (OpensShort short) (record {
      small = tt;
      layer = tt;
      tasks = short_opened free.no_task free.no_short fits v.tasks;
    })

pub reply_right : {s : State} {tag : ℕ} (reply : Message) → IsTied s → IsFree s tag → tag_in reply ≡ tag →
    Right s (with_short s (short_reply tag reply))
reply_right {s} {tag} reply v free same = short_right v free (record { awaits = tt; reply = same; locked_reply = same })

-- the task of a COMMAND that is taken
abbrev pub opened_task : Request → Option Cdb → ℕ → Deed → Task
opened_task r command n deed = record {
  lun = r.lun;
  tag = r.tag;
  expected = r.expected;
  command = command;
  length = n;
  deed = deed;
  request = None;
}

-- a task that has claimed nothing
task_right : {s : State} (r : Request) (command : Option Cdb) (n : ℕ) (deed : Deed) → IsTied s → IsFree s r.tag →
    DeedFits (numbers_of s) (length s.accepted) (is_mended s.translation.work.mending)
    (claimed_by (numbers_of s) deed command) n deed →
    claimed_by (numbers_of s) deed command ≡ 0 → Right s (with_task s r command n deed)
task_right r command n deed v free fits none =
    let task = opened_task r command n deed in
    One (Opens task) (record {
      small = tt;
      layer = tt;
      tasks = task_opened task free.no_task free.no_short fits (omega arith) v.tasks;
    })

answer_right : {s : State} (r : Request) (command : Option Cdb) (n : ℕ) (status : Status) (carried : ℕ) → IsTied s →
    IsFree s r.tag → Right s (with_task s r command n (Answering status carried))
answer_right {s} r command n status carried v free = task_right r command n (Answering status carried) v free tt refl

telling_right : {s : State} (r : Request) (command : Cdb) (bytes : List ℕ) → IsTied s → IsFree s r.tag →
    Right s (data_begun s r command bytes)
telling_right {s} r command bytes v free = by (min r.expected (length bytes) == 0)
  where
    by : (b : Bool) → Right s (with_task s r (Some command) (length bytes)
        (if b then Answering Good (length bytes) else SendingBytes bytes))
    by true = answer_right r (Some command) (length bytes) Good (length bytes) v free
    by false = task_right r (Some command) (length bytes) (SendingBytes bytes) v free tt refl

-- READ

sending_right : {s : State} (r : Request) (command : Cdb) (n : ℕ) (blocks : List ReadBlock) → IsTied s →
    IsFree s r.tag → Right s (with_task s r (Some command) n (sending blocks n))
sending_right {s} r command n [] v free = answer_right r (Some command) n Good n v free
sending_right {s} r command n (b ∷ bs) v free = task_right r (Some command) n (Sending (b ∷ bs) 0) v free tt refl

read_right : {s : State} (r : Request) (command : Cdb) (unit address n : ℕ) → IsTied s → IsFree s r.tag →
    KeysOfDevice s unit address (blocks_expected r n) → Right s (read_begun s r command unit address n)
read_right {s} r command unit address n v free keys =
    let blocks = blocks_expected r n in
    let pins = pins_right (λ i. data_key unit (address + i))
    (kept_at s r.tag unit address) (below blocks) v refl refl refl keys (λ i. refl) in
    Both pins
    (sending_right r command n (read_blocks s unit address blocks)
    (right_keeps pins v) (record { no_task = free.no_task; no_short = free.no_short }))

-- WRITE

-- a task that gathers its data claims the slots that its command needs
gathers_right : {s : State} {r : Request} {command : Cdb} {count : ℕ} (expected n : ℕ) (purpose : Purpose) →
    IsTied s → IsFree s r.tag → Passed s r command → slots_needed (numbers_of s) (brought r.expected command) ≡ count →
    DeedFits (numbers_of s) (length s.accepted) (is_mended s.translation.work.mending)
    (slots_needed (numbers_of s) (brought r.expected command)) n (Gathering purpose [] false) →
    Right s (with_task (with_moves s (Claim count ∷ [])) (expecting r expected) (Some (brought r.expected command)) n
    (Gathering purpose [] false))
gathers_right {s} {r} {command} {count} expected n purpose v free p slots fits =
    let t = s.translation in
    let task = opened_task (expecting r expected) (Some (brought r.expected command)) n (Gathering purpose [] false) in
    let crowded = or_parts _ (nat_lt (free_slots t) (slots_needed (numbers_of s) (brought r.expected command))) p.room in
    let room = ltb-false (free_slots t) (slots_needed (numbers_of s) (brought r.expected command)) crowded.1 in
    Both (right_move (Claim count) v tt (omega arith) (omega arith))
    (One (Opens task) (record {
      small = tt;
      layer = tt;
      tasks = task_opened task free.no_task free.no_short fits (omega arith) v.tasks;
    }))

-- a WRITE of at least one block changes blocks
writes_told : (c : Cdb) → kind_of c ≡ kind.Write → 0 < blocks_of c → writes c ≡ true
writes_told (cdb.Write address blocks forced) e some = lt-ltb 0 blocks some
writes_told (cdb.Read address blocks) e some = absurd (no_write e)
  where
    no_write : kind.Read ≡ kind.Write → ⊥
    no_write k = cc
writes_told (cdb.Verify address blocks compared) e some = absurd (no_verify e)
  where
    no_verify : kind.Verify ≡ kind.Write → ⊥
    no_verify k = cc
writes_told c e some = absurd (omega (arith, some))

write_fits : {s : State} {r : Request} {command : Cdb} {unit address blocks count n : ℕ} → Passed s r command →
    Changes r.bytes → slots_needed (numbers_of s) (brought r.expected command) ≡ count →
    needs_mended command ≡ true → writes command ≡ true →
    IsWritten (numbers_of s) (unit_or_first (unit_of_request s r)) r command count unit address blocks n → WriteFits
    (numbers_of s) (is_mended s.translation.work.mending) unit address blocks []
    (slots_needed (numbers_of s) (brought r.expected command))
write_fits {s} {r} {command} {unit} p taken slots needs changes w =
    let units = (numbers_of s).units.items in
    let told = unit_told s r command taken p in
    let same : unit ≡ r.lun = w.unit_is ∙ ap unit_or_first told.is in
    let at = w.address_is in
    let are = w.blocks_are in
    let some = w.some in
    let fewer = w.few in
    let few = ltb-false (command_blocks (numbers_of s)) (blocks_of command) (sym w.long ∙ p.not_long) in
    let lies = lies_within command told p.within in
    let more = means_more command in
    let long = length-map units (λ (x : UnitSpec). x.blocks) in
    let here = ap (λ (x : ℕ). get_or (map (λ (y : UnitSpec). y.blocks) units) x 0) same in
    let there = told.there in
    record {
      unit_in = omega arith;
      some = omega arith;
      not_long = omega arith;
      within = omega arith;
      short = omega arith;
      bytes = bytes-nil;
      claimed_is = omega arith;
      is_mended = ready_now s r command needs changes p;
    }

-- VERIFY

-- each of its blocks is a key of the device
pub key_verified : {s : State} {r : Request} {command : Cdb} (n : ℕ) → n ≡ blocks_of command → Changes r.bytes →
    Passed s r command → (i : ℕ) → i < n →
    IsKey (shape_of_numbers (numbers_of s))
    (data_key (unit_or_first (unit_of_request s r)) (address_of command + i))
key_verified {s} {r} {command} n size taken p i low =
    let told = unit_told s r command taken p in
    let units = (numbers_of s).units.items in
    let same : unit ≡ r.lun = ap unit_or_first told.is in
    let lies = lies_within command told p.within in
    let more = means_more command in
    let long = length-map units (λ (x : UnitSpec). x.blocks) in
    let here = ap (λ (x : ℕ). get_or (map (λ (y : UnitSpec). y.blocks) units) x 0) same in
    let there = told.there in
    IsData unit (address_of command + i) (omega arith) (omega arith)
  where
    unit : ℕ
    unit = unit_or_first (unit_of_request s r)

pub keys_verified : {s : State} {r : Request} {command : Cdb} (n : ℕ) → n ≡ blocks_of command → Changes r.bytes →
    Passed s r command → KeysOfDevice s (unit_or_first (unit_of_request s r)) (address_of command) n
keys_verified {s} {r} {command} n size taken p =
    All-weaker (λ i. i < n)
    (λ i. IsKey (shape_of_numbers (numbers_of s))
    (data_key (unit_or_first (unit_of_request s r)) (address_of command + i)))
    (key_verified n size taken p) (below n) (all_below n)

-- the same of one that compares its blocks
pub keys_checked : {s : State} {r : Request} {command : Cdb} (unit address n : ℕ) →
    unit ≡ unit_or_first (unit_of_request s r) → command ≡ cdb.Verify address n true →
    spelled_cdb r.bytes ≡ Some command → Passed s r command → KeysOfDevice s unit address n
keys_checked {s} {r} {command} unit address n unit_is is spells p =
    subst (λ (x : ℕ). KeysOfDevice s x address n) (sym unit_is)
    (subst (λ (x : ℕ). KeysOfDevice s (unit_or_first (unit_of_request s r)) x n) (ap address_of is)
    (keys_verified n (sym (ap blocks_of is)) (verify_changes r.bytes command spells (ap kind_of is)) p))

-- UNMAP

-- its list has none, 8 or 24 bytes
list_told : (n : ℕ) → not (is_among (0 ∷ 8 ∷ 24 ∷ []) n) ≡ false → 0 < n → (n ≡ 8) ⊎ (n ≡ 24)
list_told n h some = by (or_cases (n == 0) _ (not-false _ h))
  where
    last : ((n == 24) || false) ≡ true → n ≡ 24
    last e = ⊎_elim (λ k. eqb-true n 24 k) (λ k. absurd (false≢true k)) (or_cases (n == 24) false e)

    by : ((n == 0) ≡ true) ⊎ (((n == 8) || ((n == 24) || false)) ≡ true) → (n ≡ 8) ⊎ (n ≡ 24)
    by (inl none) = absurd (let zero_is = eqb-true n 0 none in omega arith)
    by (inr more) = ⊎_elim (λ k. inl (eqb-true n 8 k)) (λ k. inr (last k)) (or_cases (n == 8) _ more)

unmap_claims : (m : Numbers) (n : ℕ) → (n ≡ 8) ⊎ (n ≡ 24) →
    ((n ≡ 8) × (slots_needed m (cdb.Unmap n) ≡ 0)) ⊎ ((n ≡ 24) × (slots_needed m (cdb.Unmap n) ≡ command_blocks m))
unmap_claims m n (inl e) = inl (e, ap (λ (x : ℕ). slots_needed m (cdb.Unmap x)) e)
unmap_claims m n (inr e) = inr (e, ap (λ (x : ℕ). slots_needed m (cdb.Unmap x)) e)

unmap_fits : {s : State} {r : Request} {unit n : ℕ} → Passed s r (cdb.Unmap n) → Changes r.bytes →
    unit ≡ unit_or_first (unit_of_request s r) → 0 < n →
    UnmapFits (numbers_of s) (is_mended s.translation.work.mending) unit n [] (slots_needed (numbers_of s) (cdb.Unmap
    n))
unmap_fits {s} {r} {unit} {n} p taken unit_is some =
    let told = unit_told s r (cdb.Unmap n) taken p in
    let same : unit ≡ r.lun = unit_is ∙ ap unit_or_first told.is in
    let there = told.there in
    record {
      unit_in = omega (arith, same, there);
      list = unmap_claims (numbers_of s) n (list_told n p.listed some);
      short = some;
      bytes = bytes-nil;
      is_mended = λ whole. ready_now s r (cdb.Unmap n) refl (eq-eqb n 24 whole) p;
    }

-- SECURITY PROTOCOL OUT

-- a number that is not 0 is above it
pos_from : {n : ℕ} → (n ≡ 0 → ⊥) → 0 < n
pos_from {n} h = ⊎_elim (λ l. l) (λ none. absurd (h (omega (arith, none)))) (cases_lt 0 n)

frames_fit : {s : State} {r : Request} {region n : ℕ} → Passed s r (cdb.SecurityOut region n) → region < regions →
    FramesFit (numbers_of s) region n []
    (slots_needed (numbers_of s) (cdb.SecurityOut region n))
frames_fit {s} {r} {region} {n} p there =
    let all = and_parts (nat_le 512 n && nat_le n 4096) (n % 512 == 0) (not-false (is_frames n) p.not_long) in
    let both = and_parts (nat_le 512 n) (nat_le n 4096) all.0 in
    let least = leb-true 512 n both.0 in
    let most = leb-true n 4096 both.1 in
    let whole = eqb-true (n % 512) 0 all.1 in
    let area = region_there (numbers_of s) region there in
    let steps : steps_of (numbers_of s) region ≡ 0 → ⊥ = eqb-false (steps_of (numbers_of s) region) 0 p.has_region in
    let some_steps : 0 < steps_of (numbers_of s) region = pos_from steps in
    let area_there : 0 < get_or (shape_of_numbers (numbers_of s)).areas region 0 =
    omega (arith, area, some_steps) in
    record {
      region_in = (there, area_there);
      count = n / 512;
      some = omega arith;
      few = omega arith;
      total_is = omega arith;
      short = omega arith;
      bytes = bytes-nil;
      claimed_is = refl;
    }

-- SECURITY PROTOCOL IN

handing_right : {s : State} (r : Request) (region n : ℕ) → IsTied s → IsFree s r.tag →
    Right s (frames_begun s r region n)
handing_right {s} r region n v free =
    let told = telling_right r (cdb.SecurityIn region n)
    (flat_map (λ frame. frame) (s.registers region).response) v free in
    Both told (One (SetsRegisters (frames_begun s r region n).registers)
    (record { small = tt; layer = tt; tasks = (right_keeps told v).tasks }))

-- What is volatile

pub volatile_right : {s : State} (volatile : Volatile) → IsTied s → Right s (record s { volatile = volatile })
volatile_right volatile v = One (SetsVolatile volatile) (record { small = tt; layer = tt; tasks = v.tasks })

-- Commands

-- the command of a request is the one that its CDB spells
abbrev pub IsSpelled : Request → Type 0
IsSpelled r = (command : Cdb) → r.cdb ≡ Some command → spelled_cdb r.bytes ≡ Some command

begins : (s : State) (r : Request) (command : Cdb) → IsTied s → IsFree s r.tag → Passed s r command →
    spelled_cdb r.bytes ≡ Some command → Right s (begun s r (unit_or_first (unit_of_request s r)) command)
begins s r command v free p spells = begins_by (Right s) s r unit command one
  where
    unit : ℕ
    unit = unit_or_first (unit_of_request s r)

    listed : (u n : ℕ) → u ≡ unit → 0 < n → command ≡ cdb.Unmap n →
        UnmapFits (numbers_of s) (is_mended s.translation.work.mending) u n []
        (slots_needed (numbers_of s) (brought r.expected command))
    listed u n unit_is some is = subst (λ (c : Cdb). UnmapFits (numbers_of s)
        (is_mended s.translation.work.mending) u n [] (slots_needed (numbers_of s) (brought r.expected c))) (sym is)
        (unmap_fits (subst (Passed s r) is p) (unmap_changes r.bytes command spells (ap kind_of is)) unit_is some)

    framed : (region n : ℕ) → command ≡ cdb.SecurityOut region n →
        FramesFit (numbers_of s) region n [] (slots_needed (numbers_of s) (brought r.expected command))
    framed region n is = subst (λ (c : Cdb). FramesFit (numbers_of s) region n []
        (slots_needed (numbers_of s) (brought r.expected c))) (sym is)
        (frames_fit {r = r} (subst (Passed s r) is p) (subst IsOfRegion is (region_in r.bytes command spells)))

    one : (b : Beginning) → WhyBegun s r unit command b → Right s (begun_as s r command b)
    one (Answered expected n) why = answer_right (expecting r expected) (Some (brought r.expected command)) n Good n v
        (record { no_task = free.no_task; no_short = free.no_short })
    one Waiting mends = task_right r (Some (brought r.expected command)) 0 (Awaiting (length s.accepted)) v free
        (omega arith, mends) refl
    one (Telling volatile bytes) why =
        let sets = volatile_right volatile v in
        Both sets
        (telling_right r (brought r.expected command) bytes (right_keeps sets v)
        (record { no_task = free.no_task; no_short = free.no_short }))
    one (Handing region n) is = handing_right r region n v free
    one (Reading u address n) (unit_is, address_is, size, read) =
        let reads = reads_in r.bytes command spells (ap needs_blocks read) in
        subst (λ (x : ℕ). Right s (read_begun s r (brought r.expected command) x address n)) (sym unit_is)
        (subst (λ (x : ℕ). Right s (read_begun s r (brought r.expected command) unit x n)) (sym address_is)
        (read_right r (brought r.expected command) unit (address_of command) n v free (keys_read size reads p)))
    one (Verifying u address n) (unit_is, address_is, size, verifies, some) =
        let keys = subst (λ (x : ℕ). KeysOfDevice s x address n) (sym unit_is)
        (subst (λ (x : ℕ). KeysOfDevice s unit x n) (sym address_is)
        (keys_verified n size (verify_changes r.bytes command spells verifies) p)) in
        let pins = pins_right (λ i. data_key u (address + i)) (wanted_at s r.tag u address) (below n) v refl refl refl
        keys (λ i. refl) in
        Both pins
        (task_right r (Some (brought r.expected command)) 0 (ReadingArea (read_blocks s u address n))
        (right_keeps pins v) (record { no_task = free.no_task; no_short = free.no_short }) tt refl)
    one (Checking u address n) (unit_is, is, some) =
        let keys = keys_checked u address n unit_is is spells p in
        let pins = pins_right (λ i. data_key u (address + i)) (kept_at s r.tag u address) (below n) v refl refl refl
        keys (λ i. refl) in
        Both pins
        (task_right r (Some (brought r.expected command)) (4096 * n) (Comparing (read_blocks s u address n) 0 false)
        (right_keeps pins v) (record { no_task = free.no_task; no_short = free.no_short }) tt refl)
    one (Gathered expected count (ForWrite u address blocks forced) n) (slots, some, few, needs, w, counts, part) =
        let taken = write_changes r.bytes command spells w.writes in
        let brings = w.some in
        let fewer = w.few in
        gathers_right expected n (ForWrite u address blocks forced) v free p slots
        (write_fits p taken slots needs (writes_told command w.writes (omega (arith, brings, fewer))) w)
    one (Gathered expected count (ForUnmap u) n) (slots, some, few, needs, (unit_is, is), counts, part) =
        gathers_right expected n (ForUnmap u) v free p slots (listed u n unit_is (some p.not_long) is)
    one (Gathered expected count (ForFrames region) n) (slots, some, few, needs, is, counts, part) =
        gathers_right expected n (ForFrames region) v free p slots (framed region n is)

opened_right : {s : State} (r : Request) → IsTied s → IsFree s r.tag → IsSpelled r → (x : Option Status) →
    refusal s r ≡ x → Right s (refused_or_begun s r x)
opened_right {s} r v free spelled (Some status) e =
    let sets = volatile_right (refused_state s r).volatile v in
    Both sets
    (answer_right r None 0 status 0 (right_keeps sets v)
    (record { no_task = free.no_task; no_short = free.no_short }))
opened_right {s} r v free spelled None e = by r.cdb refl
  where
    by : (c : Option Cdb) → r.cdb ≡ c → Right s (begun_if_any s r c)
    by None h = Still
    by (Some command) h =
        begins s r command v free (passed s r command h e) (spelled command h)

pub command_right : {s : State} (r : Request) → IsTied s → IsFree s r.tag → IsSpelled r → Right s (command_taken s r)
command_right {s} r v free spelled = by (nat_le most_tasks (length s.tasks))
  where
    by : (b : Bool) → Right s
        (if b then with_short s (short_reply r.tag (response r.lun r.tag r.expected 0 TaskSetFull))
        else refused_or_begun s r (refusal s r))
    by true = reply_right (response r.lun r.tag r.expected 0 TaskSetFull) v free refl
    by false = opened_right r v free spelled (refusal s r) refl
