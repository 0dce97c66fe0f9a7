-- Behind a reply of a task the device and the journal agree.
use Rattle.ufs_spec.specs.Exchanges.{Comparing, ready_for_block}
use Rattle.ufs_spec.specs.Machine.{deed_after_asked, deed_after_compare}
use Rattle.ufs_spec.specs.Replies.{compare_reply, is_ended, next_compare_reply, reads_reply}
use Rattle.heard_laws.proofs.Common.{Answering, Awaiting, Bool, Deed, ForFrames, ForUnmap, ForWrite, Gathering, Good}
use Rattle.heard_laws.proofs.Common.{IsTied, List, Message, None, OpenTask, Option, ReadingArea, Sending, SendingBytes}
use Rattle.heard_laws.proofs.Common.{Some, State, Task, answered, arith, false, false≢true, find, has_tag, if_both}
use Rattle.heard_laws.proofs.Common.{if◌then◌else◌, is_good, length, locked, map, max, mended, nat_lt, none-some}
use Rattle.heard_laws.proofs.Common.{numbers_of, refl, response, same_Some, slice_get, spelling, subst, sym, take}
use Rattle.heard_laws.proofs.Common.{task_of, told, true, with_moves, ℕ, ◌*◌, ◌+◌, ◌≡◌, ◌≤◌}
use Rattle.std.proofs.Common.{nat_le, ◌||◌}
use Rattle.ufs_spec.specs.Exchanges.{ReadBlock, block_message, bytes_sent, count_at, data_message, read_error}
use Rattle.ufs_spec.specs.Exchanges.{to_gather, ready_message, with_deed, without_task}
use Rattle.ufs_spec.specs.Machine.{block_reply, deed_after, deed_after_block, deed_after_sent, deed_after_state}
use Rattle.ufs_spec.specs.Machine.{deed_reply, durable, is_at_hand, moves_after, next_block_reply, pin_of, task_goes_on}
use Rattle.ufs_spec.specs.Machine.{task_replied}
use Rattle.ufs_spec.specs.Replies.{is_area_read}
use Rattle.ufs_spec.specs.declared.exchanges.Purpose.{Purpose}
use Rattle.ufs_spec.specs.declared.exchanges.ReadState.{ReadState}
use Rattle.ufs_spec.specs.declared.exchanges.ReadState.TheVariants.{NotRead, Unread, WasRead}
use Rattle.journal.specs.Heard.{Heard, promised_to}
use Rattle.heard_laws.proofs.agreement.Agreement.{Agree, AgreeIn, AtMost, Books, DeedAgrees}
use Rattle.heard_laws.proofs.agreement.PairsChanged.{task_changes_alone}
use Rattle.heard_laws.proofs.agreement.PairsKept.{agrees_same, under_one}
use Rattle.heard_laws.proofs.host_data.DataLands.{its}
use Rattle.heard_laws.proofs.messages.HeardMessages.{told_data, told_ready, told_response}
use Rattle.heard_laws.proofs.messages.ManagedAgree.{no_short}
use Rattle.heard_laws.proofs.open_under_tags.OpenTasks.{closed_differ, closed_here, closed_other, open_is}
use Rattle.heard_laws.proofs.open_under_tags.TaskFinds.{gone_here, gone_other}
use Rattle.heard_laws.proofs.rolls.BooksKept.{acknowledged_too}
use Rattle.heard_laws.proofs.rolls.Rolls.{count_none}

-- GOOD acknowledges what the open command promised
pub good_books : (s : State) (held : ℕ) (j : Heard) (a : AgreeIn s held s j) (tag : ℕ) (good : Bool)
    (x : Option OpenTask) →
    ((t : OpenTask) → x ≡ Some t → t.promised ≤ length a.roll) → (good ≡ true → AtMost held a.roll x) →
    Books s.accepted held j.entries (if good then max j.held (promised_to x) else j.held) a.roll
good_books s held j a tag false x inside few = a.books
good_books s held j a tag true None inside few = acknowledged_too 0 (omega arith) (omega (arith, count_none a.roll))
    a.books
good_books s held j a tag true (Some t) inside few =
    acknowledged_too t.promised (inside t refl) (few refl t refl) a.books

module _ (s : State) (held : ℕ) (j : Heard) (task : Task) (v : IsTied s) (a : AgreeIn s held s j)
    (found : task_of task.tag s.tasks ≡ Some task) where
  abbrev open_now : Option OpenTask
  open_now = find (has_tag task.tag) j.tasks

  abbrev ready : Bool
  ready = locked s || mended s

  -- the task is over, and answered GOOD or not
  ends : (good : Bool) → (good ≡ true → AtMost held a.roll open_now) →
      Agree (numbers_of s) (locked s) (mended s) s.base s.accepted held (without_task task.tag s.tasks) s.shorts
      (answered j task.tag good)
  ends good few = record {
    numbers = a.numbers;
    lock = a.lock;
    roll = a.roll;
    books = subst (λ (x : Option OpenTask). Books s.accepted held j.entries
        (if good then max j.held (promised_to x) else j.held) a.roll) (sym (open_is task.tag j.tasks))
        (good_books s held j a task.tag good open_now (λ t e. ((its s held j task a found).named t e).inside) few);
    pairs = under_one {roll = a.roll} {grown = a.roll} task.tag (λ x y z h. h) (record {
      tasks_same = λ other apart. gone_other task.tag other apart s.tasks;
      shorts_same = λ other apart. refl;
      opens_same = λ other apart. closed_other task.tag other j.tasks a.pairs.differ apart;
    }) (closed_differ task.tag j.tasks a.pairs.differ)
        (agrees_same (numbers_of s) (locked s) (locked s || mended s) a.roll
        (gone_here task.tag s.tasks) (no_short s.shorts s.tasks task.tag task v.tasks.apart found)
        (closed_here task.tag j.tasks a.pairs.differ) refl) a.pairs;
    regions = a.regions;
    unmended = a.unmended;
  }

  -- the task does something else
  goes : (deed : Deed) → DeedAgrees (numbers_of s) (locked s || mended s) a.roll task.lun deed open_now →
      Agree (numbers_of s) (locked s) (mended s) s.base s.accepted held
      (map (with_deed task.tag deed) s.tasks) s.shorts j
  goes deed does = record {
    numbers = a.numbers;
    lock = a.lock;
    roll = a.roll;
    books = a.books;
    pairs = task_changes_alone task.tag (λ x. record x { deed = deed }) task (λ x. refl) found
        (record { named = (its s held j task a found).named; deed = does }) a.pairs;
    regions = a.regions;
    unmended = a.unmended;
  }

  -- a reply, by what the task did
  gathers : (purpose : Purpose) (gathered : List ℕ) (asked : Bool) →
      DeedAgrees (numbers_of s) (locked s || mended s) a.roll task.lun (Gathering purpose gathered asked) open_now →
      DeedAgrees (numbers_of s) (locked s || mended s) a.roll task.lun (Gathering purpose gathered true) open_now
  gathers (ForWrite unit address blocks forced) gathered asked h = h
  gathers (ForUnmap unit) gathered asked h = h
  gathers (ForFrames region) gathered asked h = h

  -- what is told by a message
  says : (u : State) (n m : Message) (k : Heard) → Some n ≡ Some m → told j (spelling n) ≡ k → AgreeIn s held u k →
      AgreeIn s held u (told j (spelling m))
  says u n m k e is h =
      subst (λ (x : Message). AgreeIn s held u (told j (spelling x))) (same_Some n m e)
      (subst (AgreeIn s held u) (sym is) h)

  abbrev Does : Deed → Type 0
  Does deed = DeedAgrees (numbers_of s) (locked s || mended s) a.roll task.lun deed open_now

  -- the moves of the layer do not matter
  abbrev behind : Deed → State
  behind deed = with_moves s (moves_after task deed)

  block_sent : (deed : Deed) (blocks : List ReadBlock) (sent : ℕ) (body : List ℕ) (m : Message) →
      AtMost 0 a.roll open_now → Some (block_message task sent body) ≡ Some m →
      AgreeIn s held (task_goes_on (behind deed) task (Some (deed_after_sent task blocks sent))) (told j (spelling m))
  block_sent deed blocks sent body m zero e =
      says (task_goes_on (behind deed) task (Some (deed_after_sent task blocks sent))) (block_message task sent body) m
      j e
      (told_data j task.lun task.tag (4096 * sent) (record {
        items = take (count_at (bytes_sent task) (4096 * sent))
            body;
      }))
      (goes (deed_after_sent task blocks sent)
      (if_both Does (nat_lt (sent + 1) (length blocks)) zero (λ good. zero)))

  by_state : (deed : Deed) (blocks : List ReadBlock) (sent : ℕ) (body : List ℕ) (state : ReadState) (at_hand : Bool)
      (m : Message) → AtMost 0 a.roll open_now → block_reply task sent body state at_hand ≡ Some m →
      AgreeIn s held (task_goes_on (behind deed) task (deed_after_state task blocks sent state)) (told j (spelling m))
  by_state deed blocks sent body WasRead at_hand m zero e = block_sent deed blocks sent body m zero e
  by_state deed blocks sent body Unread true m zero e = block_sent deed blocks sent body m zero e
  by_state deed blocks sent body Unread false m zero e = absurd (none-some m e)
  by_state deed blocks sent body NotRead at_hand m zero e =
      says (task_goes_on (behind deed) task None)
      (response task.lun task.tag task.expected (4096 * sent) read_error) m (answered j task.tag false) e
      (told_response j task.lun task.tag task.expected (4096 * sent) read_error)
      (ends false (λ good. absurd (false≢true good)))

  by_block : (deed : Deed) (blocks : List ReadBlock) (sent : ℕ) (o : Option ReadBlock) (m : Message) →
      AtMost 0 a.roll open_now → next_block_reply s task sent o ≡ Some m →
      AgreeIn s held (task_goes_on (behind deed) task (deed_after_block task blocks sent o)) (told j (spelling m))
  by_block deed blocks sent None m zero e = absurd (none-some m e)
  by_block deed blocks sent (Some block) m zero e =
      by_state deed blocks sent block.body block.state (is_at_hand s.translation.work.rests (pin_of s task sent)) m
      zero e

  -- a block is asked for, or could not be read
  block_asked : (deed : Deed) (blocks : List ReadBlock) (compared : ℕ) (m : Message) → Does (Comparing blocks compared true) →
      Some (ready_for_block task compared) ≡ Some m →
      AgreeIn s held (task_goes_on (behind deed) task (Some (Comparing blocks compared true))) (told j (spelling m))
  block_asked deed blocks compared m does e =
      says (task_goes_on (behind deed) task (Some (Comparing blocks compared true))) (ready_for_block task compared) m j
      e (told_ready j task.lun task.tag (4096 * compared) 4096) (goes (Comparing blocks compared true) does)

  by_found : (deed : Deed) (blocks : List ReadBlock) (compared : ℕ) (state : ReadState) (at_hand : Bool) (m : Message) →
      Does (Comparing blocks compared true) → compare_reply task compared state at_hand ≡ Some m →
      AgreeIn s held (task_goes_on (behind deed) task (deed_after_asked blocks compared state)) (told j (spelling m))
  by_found deed blocks compared WasRead at_hand m does e = block_asked deed blocks compared m does e
  by_found deed blocks compared Unread true m does e = block_asked deed blocks compared m does e
  by_found deed blocks compared Unread false m does e = absurd (none-some m e)
  by_found deed blocks compared NotRead at_hand m does e =
      says (task_goes_on (behind deed) task None)
      (response task.lun task.tag task.expected (4096 * compared) read_error) m (answered j task.tag false) e
      (told_response j task.lun task.tag task.expected (4096 * compared) read_error)
      (ends false (λ good. absurd (false≢true good)))

  by_compared : (deed : Deed) (blocks : List ReadBlock) (compared : ℕ) (o : Option ReadBlock) (m : Message) →
      Does (Comparing blocks compared true) → next_compare_reply s task compared o ≡ Some m →
      AgreeIn s held (task_goes_on (behind deed) task (deed_after_compare blocks compared o)) (told j (spelling m))
  by_compared deed blocks compared None m does e = absurd (none-some m e)
  by_compared deed blocks compared (Some block) m does e =
      by_found deed blocks compared block.state (is_at_hand s.translation.work.rests (pin_of s task compared)) m does e

  -- GOOD, where it is due
  good_due : (deed : Deed) (b : Bool) (m : Message) → AtMost held a.roll open_now →
      (if b then Some (response task.lun task.tag task.expected task.length Good) else None) ≡ Some m →
      AgreeIn s held (task_goes_on (behind deed) task None) (told j (spelling m))
  good_due deed true m few e =
      says (task_goes_on (behind deed) task None) (response task.lun task.tag task.expected task.length Good) m
      (answered j task.tag true) e (told_response j task.lun task.tag task.expected task.length Good)
      (ends true (λ good. few))
  good_due deed false m few e = absurd (none-some m e)

  -- what is told of pages that are read, where it is due
  reads_due : (deed : Deed) (ended read : Bool) (m : Message) → AtMost held a.roll open_now →
      reads_reply task ended read ≡ Some m →
      AgreeIn s held (task_goes_on (behind deed) task None) (told j (spelling m))
  reads_due deed true read m few e =
      says (task_goes_on (behind deed) task None) (response task.lun task.tag task.expected task.length read_error) m
      (answered j task.tag false) e (told_response j task.lun task.tag task.expected task.length read_error)
      (ends false (λ good. absurd (false≢true good)))
  reads_due deed false read m few e = good_due deed read m few (by_read read e)
    where
      by_read : (b : Bool) → reads_reply task false b ≡ Some m →
          (if b then Some (response task.lun task.tag task.expected task.length Good) else None) ≡ Some m
      by_read true k = k
      by_read false k = k

  none_few : (most : ℕ) → most ≤ held → AtMost most a.roll open_now → AtMost held a.roll open_now
  none_few most l h t e = let k = h t e in omega (arith, k, l)

  by_deed : (deed : Deed) (m : Message) → deed_reply s task deed ≡ Some m → Does deed →
      ((n : ℕ) → deed ≡ Awaiting n → n ≤ held) →
      AgreeIn s held (task_goes_on (behind deed) task (deed_after task deed)) (told j (spelling m))
  by_deed (Gathering purpose gathered true) m e does held_too = absurd (none-some m e)
  by_deed (Gathering purpose gathered false) m e does held_too =
      says (task_goes_on (behind (Gathering purpose gathered false)) task (Some (Gathering purpose gathered true)))
      (ready_message task purpose gathered) m j e
      (told_ready j task.lun task.tag (length gathered) (count_at (to_gather purpose task.length) (length gathered)))
      (goes (Gathering purpose gathered true) (gathers purpose gathered false does))
  by_deed (Sending blocks sent) m e does held_too =
      by_block (Sending blocks sent) blocks sent (slice_get blocks sent) m does e
  by_deed (SendingBytes bytes) m e does held_too =
      says (task_goes_on (behind (SendingBytes bytes)) task (Some (Answering Good task.length)))
      (data_message task 0 (take (bytes_sent task) bytes)) m j e
      (told_data j task.lun task.tag 0 (record { items = take (bytes_sent task) bytes }))
      (goes (Answering Good task.length) (λ good. does))
  by_deed (Awaiting n) m e does held_too =
      good_due (Awaiting n) (nat_le n (durable s)) m (none_few n (held_too n refl) does) e
  by_deed (ReadingArea pages) m e does held_too =
      reads_due (ReadingArea pages) (is_ended task.request pages) (is_area_read s task pages) m
      (none_few 0 (omega arith) does) e
  by_deed (Comparing blocks compared true) m e does held_too = absurd (none-some m e)
  by_deed (Comparing blocks compared false) m e does held_too =
      by_compared (Comparing blocks compared false) blocks compared (slice_get blocks compared) m does e
  by_deed (Answering status carried) m e does held_too =
      says (task_goes_on (behind (Answering status carried)) task None)
      (response task.lun task.tag task.expected carried status) m (answered j task.tag (is_good status)) e
      (told_response j task.lun task.tag task.expected carried status)
      (ends (is_good status) (λ good. none_few 0 (omega arith) (does good)))

  -- behind its reply both agree
  pub reply_agrees : (m : Message) → deed_reply s task task.deed ≡ Some m →
      ((n : ℕ) → task.deed ≡ Awaiting n → n ≤ held) → AgreeIn s held (task_replied s task) (told j (spelling m))
  reply_agrees m e held_too = by_deed task.deed m e (its s held j task a found).deed held_too
