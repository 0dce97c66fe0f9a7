-- The reply that a task owes is the one that the definitions say is due.
use Rattle.ufs_spec.specs.Exchanges.{to_gather}
use Rattle.device.proofs.Common.{Answering, AreFramesKept, AreaReading, Awaiting, Bool, Deed, Describes, DeviceCore}
use Rattle.device.proofs.Common.{Entry, Frames, FramesFit, Gathering, Good, InSlot, IsDoing, IsGathered, IsReadingArea}
use Rattle.device.proofs.Common.{IsSending, Key, List, Looked, Message, Name, None, NotRead, OnPage, OpenTask, Option}
use Rattle.device.proofs.Common.{Phase, Pin, Purpose, ReadBlock, ReadState, ReadingArea, RpmbRequest, Sending}
use Rattle.device.proofs.Common.{SendingBytes, Sends, ShowsRight, Some, State, Status, TaskKept, Unread, Unwritten}
use Rattle.device.proofs.Common.{Wanted, WasRead, all_in, and_parts, ap, arith, before_accepted, block_at, block_for}
use Rattle.device.proofs.Common.{block_of, count_for, div_ceil, entry_of, eqb-true, false, false≢true, find, found_in}
use Rattle.device.proofs.Common.{found_is, if_false, if_true, if◌then◌else◌, is_area_read, is_at_hand, is_lost}
use Rattle.device.proofs.Common.{is_mended, is_pin_of, is_read, is_rest_of, is_task_of, is_to_fill, is_unfilled}
use Rattle.device.proofs.Common.{is_unread, le-ltb, length, length-take, list_any, ltb-false, ltb-true, min, nat_le}
use Rattle.device.proofs.Common.{nat_lt, none-some, not, numbers_of, option_map, owed_by, owed_in, read_by, read_in}
use Rattle.device.proofs.Common.{read_of, refl, same_Some, slice_get, subst, sym, take, take-take, task_in, task_of}
use Rattle.device.proofs.Common.{true, wanted_by, wanted_in, wanted_kept, wanted_of, ℕ, ⊎_elim, ◌&&◌, ◌*◌, ◌+◌, ◌-◌}
use Rattle.device.proofs.Common.{◌<◌, ◌==◌, ◌||◌, ◌∙◌, ◌≡◌, ◌≤◌}
use Rattle.std.proofs.lemmas.Grind.{div_ceil_times}
use Rattle.ufs_spec.proofs.Lists.{get_there}
use Rattle.ufs_spec.specs.Exchanges as exchange
use Rattle.ufs_spec.specs.Exchanges.{Comparing, bytes_sent, count_at, ready_for_block, ready_message, response}
use Rattle.ufs_spec.specs.Ledger.{Ledger}
use Rattle.ufs_spec.specs.Machine as machine
use Rattle.ufs_spec.specs.Machine.{block_reply, deed_reply, needs_no_read, next_block_reply}
use Rattle.ufs_spec.specs.Replies.{compare_reply, next_compare_reply, pin_of}
use Rattle.ufs_spec.specs.Translation as layer
use Rattle.ufs_spec.specs.declared.messages.Message.TheVariants as message
use Rattle.power_loss.specs.Shown.{IsShown, ShowsBlock}
use Rattle.power_loss.proofs.books.SmallFacts.{two_ways}
use Rattle.task_set.specs.declared.frames.Frames.TheVariants.{Answered, Decided, NotBrought, Undecided}
use Rattle.task_set.specs.declared.tasks.Phase.TheVariants as phase
use Rattle.device.specs.Describes.{HasRequest, IsLost, IsSentFrom}
use Rattle.device.proofs.open_tasks.WantedData.{count_so}
use Rattle.device.specs.Replies as ours
use Rattle.device.specs.Replies.{answer_of, block_message, count_in}
use Rattle.device.specs.Replies.{area_reply, frames_count, frames_message, has_filled}
use Rattle.device.proofs.described.GoodDue.{same_test}
use Rattle.device.proofs.described.Unmended.{waits_mended}
use Rattle.device.proofs.due_replies.AreasRead.{none_needed}
use Rattle.std.specs.List.{list_all}
use Rattle.ufs_spec.specs.Keys.{below}
use Rattle.ufs_spec.specs.Replies.{is_ended, is_page_read, reads_reply}
use Rattle.ufs_spec.specs.declared.exchanges.Status.TheVariants as status
use Rattle.ftl_core.specs.Public.{is_page_wanted}
use Rattle.task_set.specs.Tasks.{read_error}
use Rattle.task_set.specs.declared.tasks.Comparing.{Comparing as Compares}
use Rattle.task_set.specs.declared.tasks.Verifying.{Verifying}
use Rattle.device.specs.Describes.{HasFilledIts, IsComparing, IsReadable, IsVerifying, keeps_pages, own_of}
use Rattle.device.specs.Replies.{are_verified, is_verified, verify_reply}
use Rattle.device.proofs.open_tasks.VerifyEnds.{filled_keeps_none}

-- Messages

-- how many bytes of a block are sent
counts : (rest : ℕ) → 1 ≤ rest → min 4096 rest ≡ count_in rest
counts rest some = ⊎_elim
    (λ (l : nat_lt 4096 rest ≡ true). let m = ltb-true 4096 rest l in
    long m ∙ sym (if_false (nat_lt rest 1) 1 (if nat_lt 4096 rest then 4096 else rest) none
    ∙ if_true (nat_lt 4096 rest) 4096 rest l))
    (λ (l : nat_lt 4096 rest ≡ false). let m = ltb-false 4096 rest l in
    short m ∙ sym (if_false (nat_lt rest 1) 1 (if nat_lt 4096 rest then 4096 else rest) none
    ∙ if_false (nat_lt 4096 rest) 4096 rest l))
    (two_ways (nat_lt 4096 rest))
  where
    none : nat_lt rest 1 ≡ false
    none = le-ltb rest 1 some

    long : 4096 < rest → min 4096 rest ≡ 4096
    long l = omega arith

    short : rest ≤ 4096 → min 4096 rest ≡ rest
    short l = omega arith

-- of each block that follows at least one byte is sent
pub some_left : (total blocks sent : ℕ) → blocks ≡ div_ceil total 4096 → sent < blocks → 1 ≤ total - 4096 * sent
some_left total blocks sent all more =
    let last = (div_ceil_times total 4096 (omega arith)).1 in
    omega arith

-- Blocks

-- the block, if it is there
abbrev pub block_if : List ℕ → Bool → Option (List ℕ)
block_if body there = if there then Some body else None

-- a block that can be read is there just where it needs no read any more
module _ (rests : List layer.Rest) (l : Ledger) (read : Option (List ℕ)) (key : Key) (body : List ℕ) where
  -- a slot has the body of its page
  in_slot : (name : Name) → IsShown l key (InSlot name) body →
      option_map (λ (e : Entry). e.item.body) (entry_of l name) ≡ Some body
  in_slot name shown =
      ap (option_map (λ (e : Entry). e.item.body)) shown.is ∙ ap (λ (z : List ℕ). Some z) shown.body_is

  in_hand : (state : ReadState) (kept : Looked) → IsShown l key kept body → is_lost state ≡ false →
      read ≡ read_by body state →
      block_at rests l read kept ≡ block_if body (is_read state (needs_no_read rests kept))
  in_hand NotRead kept shown fine was = absurd (false≢true (sym fine))
  in_hand Unread Unwritten shown fine was = ap (λ (z : List ℕ). Some z) (sym shown)
  in_hand WasRead Unwritten shown fine was = ap (λ (z : List ℕ). Some z) (sym shown)
  in_hand Unread (InSlot name) shown fine was = by (list_any (is_rest_of name) rests)
    where
      by : (w : Bool) → (if w then read else option_map (λ (e : Entry). e.item.body) (entry_of l name))
          ≡ block_if body (not w)
      by true = was
      by false = in_slot name shown
  in_hand WasRead (InSlot name) shown fine was = by (list_any (is_rest_of name) rests)
    where
      by : (w : Bool) → (if w then read else option_map (λ (e : Entry). e.item.body) (entry_of l name))
          ≡ Some body
      by true = was
      by false = in_slot name shown
  in_hand Unread (OnPage name place) shown fine was = was
  in_hand WasRead (OnPage name place) shown fine was = was

-- and so is its DATA IN, or the READY TO TRANSFER for the block of the host
sent_if : (b : exchange.Task) (sent : ℕ) (body : List ℕ) (state : ReadState) (at_hand : Bool) → is_lost state ≡ false →
    block_reply b sent body state at_hand
    ≡ option_map (exchange.block_message b sent) (block_if body (is_read state at_hand))
sent_if b sent body Unread true fine = refl
sent_if b sent body Unread false fine = refl
sent_if b sent body WasRead at_hand fine = refl
sent_if b sent body NotRead at_hand fine = absurd (false≢true (sym fine))

asked_if : (b : exchange.Task) (compared : ℕ) (body : List ℕ) (state : ReadState) (at_hand : Bool) →
    is_lost state ≡ false →
    compare_reply b compared state at_hand
    ≡ option_map (λ (own : List ℕ). ready_for_block b compared) (block_if body (is_read state at_hand))
asked_if b compared body Unread true fine = refl
asked_if b compared body Unread false fine = refl
asked_if b compared body WasRead at_hand fine = refl
asked_if b compared body NotRead at_hand fine = absurd (false≢true (sym fine))

-- what a task keeps for its next block
record HasPin (s : State) (b : exchange.Task) (sent : ℕ) (body : List ℕ) : Type 0 where
  pin : Pin
  found : find (is_pin_of b.tag sent) s.translation.pins ≡ Some pin
  key : Key
  shown : IsShown s.translation.ledger key pin.looked body

cut_same : (expected size : ℕ) (all : List ℕ) → 1 ≤ min expected size → size ≤ 4096 →
    take (min expected size) (take size all) ≡ take (frames_count expected size) all
cut_same expected size all some few =
    take-take (min expected size) size all (omega arith)
    ∙ ap (λ (n : ℕ). take n all) (least (min expected size) some (omega arith))
  where
    least : (n : ℕ) → 1 ≤ n → n ≤ size → n ≡ count_in n
    least n low high = sized n high few ∙ counts n low
      where
        sized : (n : ℕ) → n ≤ size → size ≤ 4096 → n ≡ min 4096 n
        sized n high few = omega arith

-- the next block of a VERIFY that compares its blocks, and where it is there
pub record NextCompared (s : State) (a : OpenTask) (b : exchange.Task) (x : Compares) (blocks : List ReadBlock)
    (compared : ℕ) : Type 0 where
  pub block : ReadBlock
  pub there : slice_get blocks compared ≡ Some block
  pub fine : is_lost block.state ≡ false
  pub found : block_for s.translation a.block a.tag x.compared
      ≡ block_if block.body (is_read block.state (is_at_hand s.translation.work.rests (pin_of s b compared)))

-- a request that has filled its register is ended by no page
filled_goes_on : (o : Option RpmbRequest) (pages : List ReadBlock) → HasFilledIts o → is_ended o pages ≡ false
filled_goes_on None pages h = absurd h
filled_goes_on (Some request) pages h = refl

-- what is kept of a block of a VERIFY tells whether it needs a read
none_verified : (rests : List layer.Rest) (o : Option Pin) → option_map (λ (pin : Pin). pin.wanted) o ≡ None →
    true ≡ (not (is_page_wanted o) || is_at_hand rests o)
none_verified rests None e = refl
none_verified rests (Some pin) e = absurd (none-some pin.wanted (sym e))

page_verified : (rests : List layer.Rest) (state : ReadState) (o : Option Pin) →
    option_map (λ (pin : Pin). pin.wanted) o ≡ Some (true && is_unread state) →
    is_read state (is_at_hand rests o) ≡ (not (is_page_wanted o) || is_at_hand rests o)
page_verified rests state None e = absurd (none-some (true && is_unread state) e)
page_verified rests state (Some pin) e =
    by state ∙ ap (λ (b : Bool). not b || is_at_hand rests (Some pin)) (sym (same_Some pin.wanted (is_unread state) e))
  where
    by : (how : ReadState) → is_read how (is_at_hand rests (Some pin))
        ≡ (not (is_unread how) || is_at_hand rests (Some pin))
    by Unread = refl
    by WasRead = refl
    by NotRead = refl

-- Each deed

module _ (d : DeviceCore) (s : State) (a : OpenTask) (b : exchange.Task) (h : Describes d s)
    (k : TaskKept (before_accepted s.translation.ledger) a b) (found : task_of b.tag s.tasks ≡ Some b) where
  -- the message of a block is the one that the definitions say
  same_block : (x : Sends) (sent : ℕ) (body : List ℕ) → b.length ≡ x.length → sent ≡ x.sent →
      1 ≤ min a.expected x.length - 4096 * x.sent →
      exchange.block_message b sent body ≡ block_message (task_in a) x body
  same_block x sent body length is some =
      (λ i. message.DataIn (k.lun i) (k.tag i) (4096 * is i)
      (record { items = take (count_at (min (k.expected i) (length i)) (4096 * is i)) body }))
      ∙ ap (λ (n : ℕ). message.DataIn a.lun a.tag (4096 * x.sent) (record { items = take n body }))
      (counts (min a.expected x.length - 4096 * x.sent) some)

  answer_same : (n m : ℕ) (x y : Status) → n ≡ m → x ≡ y →
      response b.lun b.tag b.expected n x ≡ response a.lun a.tag a.expected m y
  answer_same n m x y length status i = response (k.lun i) (k.tag i) (k.expected i) (length i) (status i)

  -- what is wanted of its next block is kept, and shows it
  has_pin : (deed : Deed) (next : ℕ) (body : List ℕ) (waits : Bool) → b.deed ≡ deed →
      wanted_in next b.request deed ≡ Some waits →
      ((looked : Looked) → ShowsBlock s.translation.ledger looked next deed →
      (key : Key) × IsShown s.translation.ledger key looked body) → HasPin s b next body
  has_pin deed next body waits is wanted shown = by (find (is_pin_of b.tag next) s.translation.pins) refl
    where
      kept : wanted_kept s.translation.pins b.tag next ≡ Some waits
      kept =
          h.kept.wanted b.tag next ∙ (ap (wanted_by next) found ∙ (ap (wanted_in next b.request) is ∙ wanted))

      by : (o : Option Pin) → find (is_pin_of b.tag next) s.translation.pins ≡ o → HasPin s b next body
      by None e =
          absurd (none-some waits (sym (ap (option_map (λ (pin : Pin). pin.wanted)) e) ∙ kept))
      by (Some pin) e =
          let its = and_parts _ _ (found_is (is_pin_of b.tag next) s.translation.pins pin e) in
          let right = all_in (ShowsRight s.translation.ledger s.tasks) pin s.translation.pins h.shows
          (found_in (is_pin_of b.tag next) s.translation.pins pin e).0 in
          let same : right.task ≡ b =
          same_Some right.task b (sym right.there ∙ (ap (λ n. task_of n s.tasks) (eqb-true pin.tag b.tag its.0)
          ∙ found)) in
          let shows : ShowsBlock s.translation.ledger pin.looked next deed =
          subst (λ x. x) (λ i. ShowsBlock s.translation.ledger pin.looked (eqb-true pin.index next its.1 i)
          ((ap (λ (x : exchange.Task). x.deed) same ∙ is) i)) right.shows in
          let its_body = shown pin.looked shows in
          record { pin = pin; found = e; key = its_body.0; shown = its_body.1 }

  -- its next block is there just where it needs no read any more
  next_there : (next ours : ℕ) (block : ReadBlock) → HasPin s b next block.body → next ≡ ours →
      a.block ≡ read_by block.body block.state → is_lost block.state ≡ false →
      block_for s.translation a.block a.tag ours
      ≡ block_if block.body (is_read block.state (is_at_hand s.translation.work.rests (pin_of s b next)))
  next_there next ours block pin is read fine =
      ap (block_of s.translation.work.rests s.translation.ledger a.block) pinned
      ∙ (in_hand s.translation.work.rests s.translation.ledger a.block pin.key block.body block.state
      pin.pin.looked pin.shown fine read
      ∙ ap (λ p. block_if block.body (is_read block.state (is_at_hand s.translation.work.rests p)))
      (sym pin.found))
    where
      pinned : find (is_pin_of a.tag ours) s.translation.pins ≡ Some pin.pin
      pinned = sym (λ i. find (is_pin_of (k.tag i) (is i)) s.translation.pins) ∙ pin.found

  -- a block that comes next is kept
  wanted_next : (blocks : List ReadBlock) (next : ℕ) (block : ReadBlock) → slice_get blocks next ≡ Some block →
      (if nat_lt next next then None else wanted_of (next == next) (slice_get blocks next))
      ≡ Some ((next == next) && is_unread block.state)
  wanted_next blocks next block there =
      ap (λ z. if z then None else wanted_of (next == next) (slice_get blocks next))
      (le-ltb next next (omega arith))
      ∙ ap (wanted_of (next == next)) there

  sending_same : (x : Sends) (blocks : List ReadBlock) (sent : ℕ) → b.deed ≡ Sending blocks sent →
      IsSending x a.expected b.length blocks sent →
      next_block_reply s b sent (slice_get blocks sent)
      ≡ option_map (block_message (task_in a) x) (block_for s.translation a.block a.tag x.sent)
  sending_same x blocks sent deed is =
      ap (next_block_reply s b sent) there
      ∙ (sent_if b sent block.body block.state (is_at_hand s.translation.work.rests (pin_of s b sent))
      (is.readable block there)
      ∙ (ap (option_map (exchange.block_message b sent))
      (sym (next_there sent x.sent block pin is.sent_is read (is.readable block there)))
      ∙ (λ i. option_map (λ (body : List ℕ). said body i) (block_for s.translation a.block a.tag x.sent))))
    where
      next : (block : ReadBlock) × (slice_get blocks sent ≡ Some block)
      next = let count = is.count in let at = is.sent_is in let more = is.more in get_there blocks sent (omega arith)

      block : ReadBlock
      block = next.0

      there : slice_get blocks sent ≡ Some block
      there = next.1

      pin : HasPin s b sent block.body
      pin =
          has_pin (Sending blocks sent) sent block.body ((sent == sent) && is_unread block.state) deed
          (wanted_next blocks sent block there) (λ looked shows. shows block there)

      read : a.block ≡ read_by block.body block.state
      read = k.read ∙ (ap read_in deed ∙ ap read_of there)

      said : (body : List ℕ) → exchange.block_message b sent body ≡ block_message (task_in a) x body
      said body =
          same_block x sent body is.total_is is.sent_is
          (some_left (min a.expected x.length) x.blocks x.sent is.all is.more)

  -- the next block that it compares
  pub next_compared : (x : Compares) (blocks : List ReadBlock) (compared : ℕ) (asked : Bool) →
      b.deed ≡ Comparing blocks compared asked → IsComparing x b.length blocks compared → asked ≡ false →
      IsReadable blocks compared → NextCompared s a b x blocks compared
  next_compared x blocks compared asked deed is not_asked readable = record {
    block = next.0;
    there = next.1;
    fine = readable next.0 next.1;
    found = next_there compared x.compared next.0 pin is.compared_is read (readable next.0 next.1);
  }
    where
      next : (block : ReadBlock) × (slice_get blocks compared ≡ Some block)
      next =
          let count = is.count in
          let at = is.compared_is in
          let more = is.more in
          get_there blocks compared (omega arith)

      pin : HasPin s b compared next.0.body
      pin =
          has_pin (Comparing blocks compared asked) compared next.0.body
          ((compared == compared) && is_unread next.0.state) deed (wanted_next blocks compared next.0 next.1)
          (λ looked shows. shows next.0 next.1)

      read : a.block ≡ read_by next.0.body next.0.state
      read =
          k.read
          ∙ (ap read_in deed
          ∙ (ap (λ (z : Bool). own_of z (slice_get blocks compared)) not_asked ∙ ap read_of next.1))

  -- its READY TO TRANSFER is due on both sides, or on neither
  comparing_same : (x : Compares) (blocks : List ReadBlock) (compared : ℕ) (asked : Bool) →
      b.deed ≡ Comparing blocks compared asked → IsComparing x b.length blocks compared → asked ≡ false →
      IsReadable blocks compared →
      deed_reply s b (Comparing blocks compared asked)
      ≡ owed_in s.translation a.block a.held (task_in a) (phase.AskBlock x)
  comparing_same x blocks compared asked deed is not_asked readable =
      ap (λ z. if z then None else next_compare_reply s b compared (slice_get blocks compared)) not_asked
      ∙ (ap (next_compare_reply s b compared) next.there
      ∙ (asked_if b compared next.block.body next.block.state
      (is_at_hand s.translation.work.rests (pin_of s b compared)) next.fine
      ∙ (ap (option_map (λ (own : List ℕ). ready_for_block b compared)) (sym next.found)
      ∙ (λ i. option_map (λ (own : List ℕ). said i) (block_for s.translation a.block a.tag x.compared)))))
    where
      next : NextCompared s a b x blocks compared
      next = next_compared x blocks compared asked deed is not_asked readable

      said : ready_for_block b compared ≡ ours.block_wanted_message (task_in a) x
      said i = message.ReadyToTransfer (k.lun i) (k.tag i) (4096 * is.compared_is i) 4096

  -- a block that could not be read ends it in the place of its READY TO TRANSFER
  uncompared_same : (blocks : List ReadBlock) (compared : ℕ) (asked : Bool) (told : Status) (n : ℕ) →
      IsLost blocks compared told n → asked ≡ false →
      deed_reply s b (Comparing blocks compared asked) ≡ Some (answer_of (task_in a) told n)
  uncompared_same blocks compared asked told n is not_asked =
      ap (λ z. if z then None else next_compare_reply s b compared (slice_get blocks compared)) not_asked
      ∙ (ap (next_compare_reply s b compared) is.there
      ∙ (ap (λ (state : ReadState). compare_reply b compared state
      (is_at_hand s.translation.work.rests (pin_of s b compared))) is.lost
      ∙ ap (λ z. Some z) (answer_same (4096 * compared) n exchange.read_error told (sym is.carried)
      (sym is.told_is))))

  lost_same : (blocks : List ReadBlock) (sent : ℕ) (told : Status) (n : ℕ) → IsLost blocks sent told n →
      next_block_reply s b sent (slice_get blocks sent) ≡ Some (answer_of (task_in a) told n)
  lost_same blocks sent told n is =
      ap (next_block_reply s b sent) is.there
      ∙ (ap (λ (x : ReadState). block_reply b sent is.block.body x
      (is_at_hand s.translation.work.rests (machine.pin_of s b sent))) is.lost
      ∙ ap (λ z. Some z) (answer_same (4096 * sent) n exchange.read_error told (sym is.carried)
      (sym is.told_is)))

  awaiting_same : (n size commands : ℕ) → b.deed ≡ Awaiting commands →
      n ≡ before_accepted s.translation.ledger + commands → b.length ≡ size →
      deed_reply s b (Awaiting commands)
      ≡ owed_in s.translation a.block a.held (task_in a) (phase.AwaitFrontier n size)
  awaiting_same n size commands deed is whole =
      let mended = waits_mended (numbers_of s) (length s.accepted) (is_mended s.translation.work.mending) s.tasks b
      b.tag commands h.tied.tasks.deeds found deed in
      let l = s.translation.ledger in
      ap (λ (x : Bool). if x then Some (response b.lun b.tag b.expected b.length Good) else None)
      (same_test (before_accepted l) n l.frontier commands (h.tied.repaired mended) is)
      ∙ ap (λ (m : Message). if nat_le n l.frontier then Some m else None)
      (answer_same b.length size Good Good whole refl)

  asking_same : (w : Wanted) (purpose : Purpose) (gathered : List ℕ) (asked : Bool) →
      IsGathered w b.length purpose gathered → asked ≡ false →
      (if asked then None else Some (ready_message b purpose gathered)) ≡ Some (ours.ready_message (task_in a) w)
  asking_same w purpose gathered asked its is =
      ap (λ z. if z then None else Some (ready_message b purpose gathered)) is
      ∙ ((λ i. Some (message.ReadyToTransfer (k.lun i) (k.tag i) (its.came i)
      (count_at (to_gather purpose (its.total_is i)) (its.came i))))
      ∙ ap (λ (n : ℕ). Some (message.ReadyToTransfer a.lun a.tag w.came n))
      (count_so purpose w.came w.length its.so ∙ ap (λ (p : Purpose). count_for p w.length) (sym its.same)))

  -- the frames that are kept, as many bytes as the host expects
  frames_same : (size : ℕ) (bytes : List ℕ) → (length bytes ≡ size) × (b.length ≡ size) × (1 ≤ min a.expected size) →
      (x : IsSentFrom size a.held (SendingBytes bytes)) →
      exchange.data_message b 0 (take (bytes_sent b) bytes) ≡ frames_message (task_in a) size x.all
  frames_same size bytes is x =
      (λ i. message.DataIn (k.lun i) (k.tag i) 0
      (record { items = take (min (k.expected i) (is.1 i)) (bytes_in x.deed_is i) }))
      ∙ ap (λ (xs : List ℕ). message.DataIn a.lun a.tag 0 (record { items = xs }))
      (cut_same a.expected size x.all is.2 (few_of bytes (bytes_in x.deed_is)))
    where
      bytes_in : {xs ys : List ℕ} → SendingBytes xs ≡ SendingBytes ys → xs ≡ ys
      bytes_in e = cc

      few_of : (xs : List ℕ) → xs ≡ take size x.all → size ≤ 4096
      few_of xs e =
          let long = x.long in
          let cut = length-take size x.all in
          let same = ap length e in
          let whole : length xs ≡ size = ap length (e ∙ sym (bytes_in x.deed_is)) ∙ is.0 in
          omega arith

  -- a request that is yet to fill its register has a page that needs a read
  area_awaited : (code : ℕ) (pages : List ReadBlock) → b.deed ≡ ReadingArea pages →
      AreFramesKept (Decided code) a.held b.request → is_area_read s b pages ≡ false
  area_awaited code pages deed its =
      sym (ap (λ (x : Bool). x && is_area_read s b pages) (ap is_unfilled its.is ∙ ap not its.unfilled))
      ∙ (sym (ap (λ (x : Deed). is_unfilled b.request && machine.is_good_due s b x) deed)
      ∙ all_in (λ (task : exchange.Task). is_to_fill s task ≡ false) b s.tasks h.answered
      (found_in (is_task_of b.tag) s.tasks b found).0)

  -- nothing is kept for one that has filled it
  area_there : (pages : List ReadBlock) → b.deed ≡ ReadingArea pages → keeps_pages b.request ≡ false →
      is_area_read s b pages ≡ true
  area_there pages deed none =
      none_needed s b pages
      (λ index. h.kept.wanted b.tag index
      ∙ (ap (wanted_by index) found
      ∙ (ap (wanted_in index b.request) deed
      ∙ ap (λ (x : Bool). if x then wanted_of true (slice_get pages index) else None) none)))

  -- so GOOD is due where its request filled its register
  area_same : (r : AreaReading) (pages : List ReadBlock) → b.deed ≡ ReadingArea pages →
      IsReadingArea r b.length pages → HasRequest a.frames →
      deed_reply s b (ReadingArea pages) ≡ area_reply (task_in a) r.length
  area_same r pages deed is has =
      (λ i. reads_reply b (is_asked a.frames has k.request i) (by a.frames has k.request i))
      ∙ good_if (has_filled a.frames)
      ∙ ap (λ (m : Message). if has_filled a.frames then Some m else None)
      (answer_same b.length r.length Good Good is.total_is refl)
    where
      by : (f : Frames) → HasRequest f → AreFramesKept f a.held b.request → is_area_read s b pages ≡ has_filled f
      by NotBrought has its = absurd has
      by Undecided has its = absurd has
      by (Decided code) has its = area_awaited code pages deed its
      by Answered has its = area_there pages deed (filled_keeps_none b.request its)

      -- a request is ended by none of its pages
      is_asked : (f : Frames) → HasRequest f → AreFramesKept f a.held b.request → is_ended b.request pages ≡ false
      is_asked NotBrought has its = absurd has
      is_asked Undecided has its = absurd has
      is_asked (Decided code) has its = ap (λ (o : Option RpmbRequest). is_ended o pages) its.is
      is_asked Answered has its = filled_goes_on b.request pages its

      good_if : (x : Bool) → reads_reply b false x
          ≡ (if x then Some (response b.lun b.tag b.expected b.length Good) else None)
      good_if true = refl
      good_if false = refl

  -- a block of a VERIFY needs no read any more on both sides, or on neither
  same_verified : (pages : List ReadBlock) → b.deed ≡ ReadingArea pages → b.request ≡ None → (index : ℕ) →
      is_page_read s b index (slice_get pages index) ≡ is_verified s.translation b.tag index
  same_verified pages deed none index = by (slice_get pages index) refl
    where
      kept : wanted_kept s.translation.pins b.tag index ≡ wanted_of true (slice_get pages index)
      kept =
          h.kept.wanted b.tag index
          ∙ (ap (wanted_by index) found
          ∙ (ap (wanted_in index b.request) deed
          ∙ ap (λ (o : Option RpmbRequest). wanted_in index o (ReadingArea pages)) none))

      by : (o : Option ReadBlock) → slice_get pages index ≡ o →
          is_page_read s b index (slice_get pages index) ≡ is_verified s.translation b.tag index
      by None e =
          ap (is_page_read s b index) e
          ∙ none_verified s.translation.work.rests (find (is_pin_of b.tag index) s.translation.pins)
          (kept ∙ ap (wanted_of true) e)
      by (Some page) e =
          ap (is_page_read s b index) e
          ∙ page_verified s.translation.work.rests page.state (find (is_pin_of b.tag index) s.translation.pins)
          (kept ∙ ap (wanted_of true) e)

  -- so its answer is due on both sides, or on neither
  verify_same : (x : Verifying) (pages : List ReadBlock) → b.deed ≡ ReadingArea pages →
      IsVerifying x b.length pages → a.frames ≡ NotBrought →
      deed_reply s b (ReadingArea pages)
      ≡ verify_reply (task_in a) x.failed (are_verified s.translation a.tag x.blocks)
  verify_same x pages deed is quiet =
      (λ i. reads_reply b (ends i) (reads i)) ∙ said x.failed (are_verified s.translation a.tag x.blocks)
    where
      none : b.request ≡ None
      none = subst (λ (f : Frames). AreFramesKept f a.held b.request) quiet k.request

      ends : is_ended b.request pages ≡ x.failed
      ends = ap (λ (o : Option RpmbRequest). is_ended o pages) none ∙ is.failed

      reads : is_area_read s b pages ≡ are_verified s.translation a.tag x.blocks
      reads =
          (λ i. list_all (λ index. same_verified pages deed none index i) (below (is.count i)))
          ∙ ap (λ (tag : ℕ). are_verified s.translation tag x.blocks) k.tag

      said : (failed verified : Bool) →
          reads_reply b failed verified ≡ verify_reply (task_in a) failed verified
      said true verified =
          ap (λ z. Some z)
          (answer_same b.length 0 exchange.read_error (status.CheckCondition read_error) is.total_is refl)
      said false true = ap (λ z. Some z) (answer_same b.length 0 Good Good is.total_is refl)
      said false false = refl

  same_in : (p : Phase) (deed : Deed) → b.deed ≡ deed →
      IsDoing (before_accepted s.translation.ledger) a.expected b.length p deed →
      FramesFit p a.frames a.held deed → deed_reply s b deed ≡ owed_in s.translation a.block a.held (task_in a) p
  same_in (phase.SendHeld size) (SendingBytes bytes) e is fits =
      ap (λ z. Some z) (frames_same size bytes is fits.1)
      ∙ sym (ap (option_map (frames_message (task_in a) size)) fits.1.is_held)
  same_in (phase.Ask w) (Gathering purpose gathered asked) e is fits = asking_same w purpose gathered asked is.0 is.1
  same_in (phase.Await w) (Gathering purpose gathered asked) e is fits =
      ap (λ z. if z then None else Some (ready_message b purpose gathered)) is.1
  same_in (phase.AwaitFrontier n size) (Awaiting commands) e is fits = awaiting_same n size commands e is.0 is.1
  same_in (phase.SendBlocks x) (Sending blocks sent) e is fits = sending_same x blocks sent e is
  same_in (phase.ReadArea r) (ReadingArea pages) e is fits = area_same r pages e is fits.0
  same_in (phase.Verify x) (ReadingArea pages) e is fits = verify_same x pages e is fits
  same_in (phase.AskBlock x) (Comparing blocks compared asked) e is fits =
      comparing_same x blocks compared asked e is.0 is.1 is.2
  same_in (phase.AwaitBlock x) (Comparing blocks compared asked) e is fits =
      ap (λ z. if z then None else next_compare_reply s b compared (slice_get blocks compared)) is.1
  same_in (phase.Answer told n) (Answering x carried) e is fits =
      ap (λ z. Some z) (answer_same carried n x told is.1 is.0)
  same_in (phase.Answer told n) (Sending blocks sent) e is fits = lost_same blocks sent told n is
  same_in (phase.Answer told n) (Comparing blocks compared asked) e is fits =
      uncompared_same blocks compared asked told n is.0 is.1
  same_in p deed e is fits = absurd is

  -- the same reply is due of both sides' task
  pub same_reply : deed_reply s b b.deed ≡ owed_by s.translation a
  same_reply = same_in a.phase b.deed refl k.doing k.fits
