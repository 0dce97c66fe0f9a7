-- Each call keeps that what is kept for a READ shows the blocks that the READ sends, and so does a whole life.
use Rattle.ufs_spec.specs.Exchanges.{Comparing}
use Rattle.ufs_spec.specs.Exchanges.{miscompare}
use Rattle.ufs_spec.specs.DataOuts.{block_compared, block_differs, deed_after_same}
use Rattle.ufs_spec.specs.DataOuts.{block_same as same_state}
use Rattle.ufs_spec.specs.Machine.{deed_after_asked, deed_after_compare}
use Rattle.ufs_spec.specs.Moves.{LetGo, WantPage}
use Rattle.ufs_spec.specs.Rpmb.{same_bytes}
use Rattle.std.specs.Prelude.{[], ◌*◌}
use Rattle.ufs_spec.specs.Exchanges.{to_gather}
use Rattle.ufs_spec.specs.Plain.{region_of, regions}
use Rattle.power_loss.proofs.host_commands.GatheringTasks.{GathersIn, HasAll, HasMore, all_there, gathers_in}
use Rattle.power_loss.proofs.host_commands.GatheringTasks.{more_there, no_more}
use Rattle.power_loss.proofs.host_commands.ListsAndFrames.{frames_came, keys_of_area, reads_inside}
use Rattle.power_loss.proofs.Common.{All, All-filter, All-weaker, Bool, IsKey, Key, Ledger, List, None, Option, Pin}
use Rattle.power_loss.proofs.Common.{Some, ap, below, content, false, flat_map, fold, group_of, if◌then◌else◌}
use Rattle.power_loss.proofs.Common.{is_pin_of, length, map, moved, none-some, not, refl, same_Some, shape_of_numbers}
use Rattle.power_loss.proofs.Common.{subst, sym, true, ℕ, ◌&&◌, ◌++◌, ◌+◌, ◌<◌, ◌==◌, ◌∙◌, ◌∷◌, ◌≡◌}
use Rattle.power_loss.proofs.MachineWords.{Answering, AreBytes, Awaiting, Deed, Gathering, Good, Host, IsTied, MayCome}
use Rattle.power_loss.proofs.MachineWords.{Message, NotRead, Purpose, ReadBlock, ReadState, ReadingArea, RpmbRequest}
use Rattle.power_loss.proofs.MachineWords.{Sending, SendingBytes, Short, ShowsReads, ShowsRight, Spelled, State, Task}
use Rattle.power_loss.proofs.MachineWords.{Unread, WasRead, abort_moves, accepts, complete, data_for, data_heard}
use Rattle.power_loss.proofs.MachineWords.{deed_after, deed_after_block, heard, is_aborted, is_asked_in, is_asked_of}
use Rattle.power_loss.proofs.MachineWords.{is_short_of, is_task_of, managed, message_fault, moves_after, numbers_of}
use Rattle.power_loss.proofs.MachineWords.{opens_short, plain_now, replied_by, service, short_replied, short_reply}
use Rattle.power_loss.proofs.MachineWords.{task_goes_on, task_of, with_deed, with_moves, with_request, with_short}
use Rattle.power_loss.proofs.MachineWords.{without_tasks}
use Rattle.std.proofs.Common.{filter, find, nat_lt}
use Rattle.std.specs.Prelude.{slice_get}
use Rattle.ufs_laws.proofs.walk.SmallChanges.{reset_is}
use Rattle.ufs_spec.specs.Machine.{deed_after_sent, gathered_more}
use Rattle.ufs_spec.specs.Commands as command
use Rattle.ufs_spec.specs.declared.messages.Message.TheVariants as message
use Rattle.ufs_spec.specs.Changes.{given_back}
use Rattle.ufs_spec.specs.FrameRequests.{area_read, first_page, keeps_area, page_kept, pages_named}
use Rattle.ufs_spec.specs.Frames.{Frame}
use Rattle.ufs_spec.specs.Keys.{area_key}
use Rattle.ufs_spec.specs.Queries.{Query, setting_of}
use Rattle.ufs_spec.specs.QueryAnswers.{query_failed, query_heard, query_passed}
use Rattle.ufs_spec.proofs.Facts.{if_cases}
use Rattle.ufs_laws.proofs.walk.Happenings.{code_of_query, is_asked as no_offence, may_open}
use Rattle.ufs_spec.specs.Management.{volatile_managed}
use Rattle.ufs_laws.proofs.walk.WaysOfData.{Accepted, AcceptsFrames, Completion, HasResult, ReadsArea, Told}
use Rattle.ufs_laws.proofs.walk.WaysOfData.{WhyCompleted, completed, completes_by}
use Rattle.power_loss.proofs.calls.CallsKeepTied.{spelled_is}
use Rattle.power_loss.specs.WaitingFrames.{AsksInside}
use Rattle.power_loss.proofs.open_tasks.FoundInLists.{found_is}
use Rattle.power_loss.proofs.host_commands.OpenedByCommands.{is_free}
use Rattle.power_loss.proofs.shown_contents.MovesKeepShown.{kept_ledger, kept_pins, knows_more, wanted_shows}
use Rattle.power_loss.proofs.books.SmallFacts.{eq_told}
use Rattle.power_loss.proofs.shown_blocks.PinsShowBlocks.{SameBlocks, Show, aborted_ledger, aborted_pins, changed_there}
use Rattle.power_loss.proofs.shown_blocks.PinsShowBlocks.{filter_passes, found_kept, set_goes, show_goes, show_known}
use Rattle.power_loss.proofs.shown_blocks.PinsShowBlocks.{request_goes, show_left}
use Rattle.power_loss.proofs.shown_blocks.CommandsShowBlocks.{command_shows, made_shows, shows_if}

-- Data

-- a task that gathers data keeps nothing, so that it may do anything next
nothing_kept : (task : Task) {purpose : Purpose} {gathered : List ℕ} {asked : Bool} (deed : Deed) →
    task.deed ≡ Gathering purpose gathered asked → SameBlocks task.deed deed
nothing_kept task deed e = subst (λ (d : Deed). SameBlocks d deed) (sym e) (λ l x index h. absurd h)

accepts_shows : (s : State) (c : command.Command) (claimed : ℕ) → ShowsReads s → ShowsReads (accepts s c claimed)
accepts_shows s c claimed h =
    show_known s.translation.ledger (accepts s c claimed).translation.ledger s.tasks s.translation.pins
    (knows_more s.translation (group_of (plain_now s) c)) h

module _ {s : State} {task : Task} {purpose : Purpose} {gathered : List ℕ} {asked : Bool} (v : IsTied s)
    (g : GathersIn s task purpose gathered asked) (doing : task.deed ≡ Gathering purpose gathered asked) where
  -- the task does something else, over these contents
  set_shows : (l : Ledger) (deed : Deed) → Show l s.tasks s.translation.pins →
      Show l (map (with_deed task.tag deed) s.tasks) s.translation.pins
  set_shows l deed h = show_goes l s.tasks (map (with_deed task.tag deed) s.tasks) s.translation.pins
      (set_goes s.tasks task deed g.there (nothing_kept task deed doing)) h

  request_shows : (l : Ledger) (request : RpmbRequest) (deed : Deed) → Show l s.tasks s.translation.pins →
      Show l (map (with_request task.tag request deed) s.tasks) s.translation.pins
  request_shows l request deed h =
      show_goes l s.tasks (map (with_request task.tag request deed) s.tasks) s.translation.pins
      (request_goes s.tasks task request deed g.there (nothing_kept task deed doing)) h

  -- each page of the area that it reads
  reads_show : (region : ℕ) (f : Frame) (fs : List Frame) (result : ℕ) → region < regions →
      AsksInside (length (region_of (plain_now s) region).area) f →
      ShowsReads s →
      ShowsReads (completed s task (ReadsArea region f fs result))
  reads_show region f fs result there inside h =
      subst (λ (x : Ledger). Show x (map (with_request task.tag request (ReadingArea pages)) s.tasks)
      (fold moved (given_back s task).translation (keeps_area s task.tag region f)).pins)
      (sym (kept_ledger k (page_kept s task.tag region f) (below (pages_named f)) (given_back s task).translation))
      (kept_pins (ShowsRight l tasks) k (page_kept s task.tag region f) (below (pages_named f))
      (given_back s task).translation (request_shows l request (ReadingArea pages) h) new)
    where
      l : Ledger
      l = s.translation.ledger

      k : ℕ → Key
      k i = area_key region (first_page f + i)

      request : RpmbRequest
      request = record { region = region; frames = f ∷ fs; result = result; filled = false }

      pages : List ReadBlock
      pages = area_read s region f

      tasks : List Task
      tasks = map (with_request task.tag request (ReadingArea pages)) s.tasks

      reads : Task
      reads = record task { deed = ReadingArea pages; request = Some request }

      new : All (λ i. ShowsRight l tasks (page_kept s task.tag region f i)) (below (pages_named f))
      new = All-weaker (λ i. IsKey (shape_of_numbers (numbers_of s)) (k i))
          (λ i. ShowsRight l tasks (page_kept s task.tag region f i))
          (λ i key. record {
            task = reads;
            there = changed_there s.tasks task (λ x. record x { deed = ReadingArea pages; request = Some request })
                (λ x. refl) g.there;
            shows = made_shows k (λ j. content (plain_now s) (k j)) (pages_named f) i v (λ j. refl) key;
          }) (below (pages_named f)) (keys_of_area region f v there inside)

  complete_shows : (all : List ℕ) → HasAll task purpose gathered all → ShowsReads s →
      ShowsReads (complete s task purpose all)
  complete_shows all whole h = completes_by ShowsReads s task purpose all one
    where
      one : (k : Completion) → WhyCompleted s task purpose all k → ShowsReads (completed s task k)
      one (Told status released) why = set_shows s.translation.ledger _ h
      one (Accepted c claimed deed) why =
          set_shows (accepts s c claimed).translation.ledger deed (accepts_shows s c claimed h)
      one (HasResult region frames result) why = request_shows s.translation.ledger _ _ h
      one (ReadsArea region f fs result) (d, reads) =
          let came = frames_came g (no_more whole) d in
          reads_show region f fs result came.region_in.0 (reads_inside d reads) h
      one (AcceptsFrames region frames result c) why =
          request_shows (accepts s c 0).translation.ledger _ _ (accepts_shows s c 0 h)

  gathered_shows : (all : List ℕ) → HasMore task purpose gathered all → ShowsReads s →
      ShowsReads (gathered_more s task purpose all)
  gathered_shows all more h = if_cases ShowsReads (nat_lt (length all) (to_gather purpose task.length))
      (λ few. set_shows s.translation.ledger (Gathering purpose all false) h)
      (λ whole. complete_shows all (all_there more whole) h)

-- Blocks that are compared

after_same : (task : Task) (blocks : List ReadBlock) (compared : ℕ) (asked : Bool) →
    SameBlocks (Comparing blocks compared asked) (deed_after_same task blocks compared)
after_same task blocks compared asked = by (nat_lt (compared + 1) (length blocks))
  where
    by : (b : Bool) →
        SameBlocks (Comparing blocks compared asked)
        (if b then Comparing blocks (compared + 1) false else Answering Good task.length)
    by true = λ l x index h. h
    by false = λ l x index h. tt

same_shows : (s : State) {task : Task} (blocks : List ReadBlock) (compared : ℕ) (asked : Bool) →
    task_of task.tag s.tasks ≡ Some task → task.deed ≡ Comparing blocks compared asked → ShowsReads s →
    ShowsReads (same_state s task blocks compared)
same_shows s {task} blocks compared asked there doing h =
    show_goes s.translation.ledger s.tasks (map (with_deed task.tag (deed_after_same task blocks compared)) s.tasks)
    (with_moves s (LetGo task.tag compared ∷ WantPage task.tag (compared + 1) ∷ [])).translation.pins
    (set_goes s.tasks task (deed_after_same task blocks compared) there
    (subst (λ (d : Deed). SameBlocks d (deed_after_same task blocks compared)) (sym doing)
    (after_same task blocks compared asked)))
    (wanted_shows s.translation.ledger s.tasks task.tag (compared + 1) true
    (filter (λ pin. not (is_pin_of task.tag compared pin)) s.translation.pins)
    (All-filter (λ pin. not (is_pin_of task.tag compared pin))
    (ShowsRight s.translation.ledger s.tasks) s.translation.pins h))

differs_shows : (s : State) {task : Task} (blocks : List ReadBlock) (compared : ℕ) (asked : Bool) →
    task_of task.tag s.tasks ≡ Some task → task.deed ≡ Comparing blocks compared asked → ShowsReads s →
    ShowsReads (block_differs s task compared)
differs_shows s {task} blocks compared asked there doing h =
    show_goes s.translation.ledger s.tasks
    (map (with_deed task.tag (Answering miscompare (4096 * (compared + 1)))) s.tasks)
    (filter (λ (pin : Pin). not (pin.tag == task.tag)) s.translation.pins)
    (set_goes s.tasks task (Answering miscompare (4096 * (compared + 1))) there (λ l x index k. tt))
    (All-filter (λ (pin : Pin). not (pin.tag == task.tag))
    (ShowsRight s.translation.ledger s.tasks) s.translation.pins h)

compared_shows : (s : State) {task : Task} (blocks : List ReadBlock) (compared : ℕ) (asked : Bool)
    (o : Option ReadBlock) (bytes : List ℕ) → task_of task.tag s.tasks ≡ Some task →
    task.deed ≡ Comparing blocks compared asked → ShowsReads s →
    ShowsReads (block_compared s task blocks compared o bytes)
compared_shows s blocks compared asked None bytes there doing h = h
compared_shows s {task} blocks compared asked (Some block) bytes there doing h =
    if_cases ShowsReads (same_bytes bytes block.body) (λ same. same_shows s blocks compared asked there doing h)
    (λ other. differs_shows s blocks compared asked there doing h)

data_shows : {s : State} {task : Task} (tag : ℕ) (deed : Deed) (lun offset : ℕ) (bytes : List ℕ) → IsTied s →
    task_of tag s.tasks ≡ Some task → task.deed ≡ deed → is_asked_in task lun offset (length bytes) deed ≡ true →
    AreBytes bytes → ShowsReads s → ShowsReads (data_for s task deed bytes)
data_shows {s} {task} tag (Gathering purpose gathered asked) lun offset bytes v e doing is_asked is h =
    gathered_shows v (gathers_in tag v e doing) doing (gathered ++ bytes)
    (more_there task purpose gathered bytes asked lun offset is_asked is) h
data_shows {s} {task} tag (Comparing blocks compared asked) lun offset bytes v e doing is_asked is h =
    let own : task.tag ≡ tag = eq_told task.tag tag (found_is (is_task_of tag) s.tasks task e) in
    compared_shows s blocks compared asked (slice_get blocks compared) bytes
    (ap (λ (n : ℕ). task_of n s.tasks) own ∙ e) doing h
data_shows tag deed lun offset bytes v e doing is_asked is h = h

data_heard_shows : {s : State} (tag lun offset : ℕ) (o : Option Task) (bytes : List ℕ) → IsTied s →
    task_of tag s.tasks ≡ o → is_asked_of o lun offset (length bytes) ≡ true → AreBytes bytes → ShowsReads s →
    ShowsReads (data_heard s o bytes)
data_heard_shows tag lun offset None bytes v e is_asked is h = h
data_heard_shows tag lun offset (Some task) bytes v e is_asked is h =
    data_shows tag task.deed lun offset bytes v e refl is_asked is h

-- Queries

query_shows : (s : State) (tag : ℕ) (q : Query) → ShowsReads s → ShowsReads (query_heard s tag q)
query_shows s tag q h = shows_if ((code_of_query s q == 0x00) && not (q.asked.opcode == 0)) (query_passed s tag q
    (setting_of q))
    (with_short s (short_reply tag (query_failed tag q (code_of_query s q)))) (passed (setting_of q)) h
  where
    passed : (o : Option command.Command) → ShowsReads (query_passed s tag q o)
    passed None = h
    passed (Some c) = show_known s.translation.ledger (accepts s c 1).translation.ledger s.tasks s.translation.pins
        (knows_more s.translation (group_of (plain_now s) c)) h

-- Aborts

without_shows : (s : State) (is : Task → Bool) → ShowsReads s → ShowsReads (without_tasks s is)
without_shows s is h =
    let l = s.translation.ledger in
    let ts = filter is s.tasks in
    let u = fold moved s.translation (flat_map (abort_moves (numbers_of s)) ts) in
    subst (λ (x : Ledger). Show x (filter (λ task. not (is task)) s.tasks) u.pins)
    (sym (aborted_ledger (numbers_of s) ts s.translation))
    (show_left is u.pins (aborted_pins (ShowsRight l s.tasks) (numbers_of s) ts s.translation h))

managed_shows : (s : State) (lun function meant : ℕ) → ShowsReads s → ShowsReads (managed s lun function meant)
managed_shows s lun function meant h =
    let t : State = record s { volatile = volatile_managed s lun function } in
    shows_if (service s lun function meant == 0x00) (without_tasks t (is_aborted lun function meant)) t
    (without_shows t (is_aborted lun function meant) h) h

-- Messages

pub heard_shows : {s : State} (m : Message) (c : _) → IsTied s → MayCome s (Host (Spelled m c)) →
    message_fault s m ≡ None → ShowsReads s → ShowsReads (heard s m c)
heard_shows {s} (message.Command flags lun tag expected taken) c v may free h =
    command_shows (record { flags = flags; lun = lun; tag = tag; expected = expected; bytes = taken; cdb = c }) v
    (is_free s false tag (opens_short s (message.Command flags lun tag expected taken)) (may_open s flags _ free))
    (λ command e. spelled_is c command taken may.1.2 e) h
heard_shows {s} (message.DataOut lun tag offset «data») c v may free h =
    data_heard_shows tag lun offset (task_of tag s.tasks) «data».items v refl
    (no_offence (is_asked_of (task_of tag s.tasks) lun offset (length «data».items)) free) may.1.0.0.3.2 h
heard_shows {s} (message.QueryRequest tag function asked size value «data») c v may free h =
    query_shows s tag (record { function = function; asked = asked; length = size; value = value }) h
heard_shows {s} (message.TaskRequest lun tag function meant) c v may free h = managed_shows s lun function meant h
heard_shows {s} (message.LinkEvent kind) c v may free h =
    subst ShowsReads (reset_is s kind) (without_shows s (λ task. true) h)
heard_shows m c v may free h = h

-- Replies

sent_same : (task : Task) (blocks : List ReadBlock) (sent : ℕ) →
    SameBlocks (Sending blocks sent) (deed_after_sent task blocks sent)
sent_same task blocks sent = by (nat_lt (sent + 1) (length blocks))
  where
    by : (b : Bool) →
        SameBlocks (Sending blocks sent) (if b then Sending blocks (sent + 1) else Answering Good task.length)
    by true = λ l x index h. h
    by false = λ l x index h. tt

block_same : (task : Task) (blocks : List ReadBlock) (sent : ℕ) (o : Option ReadBlock) {deed : Deed} →
    deed_after_block task blocks sent o ≡ Some deed → SameBlocks (Sending blocks sent) deed
block_same task blocks sent None {deed} e = absurd (none-some deed e)
block_same task blocks sent (Some block) {deed} e = by block.state e
  where
    by : (state : ReadState) →
        deed_after_block task blocks sent (Some (record { body = block.body; state = state })) ≡ Some deed →
        SameBlocks (Sending blocks sent) deed
    by Unread k = subst (SameBlocks (Sending blocks sent)) (same_Some (deed_after_sent task blocks sent) deed k)
        (sent_same task blocks sent)
    by WasRead k = subst (SameBlocks (Sending blocks sent)) (same_Some (deed_after_sent task blocks sent) deed k)
        (sent_same task blocks sent)
    by NotRead k = absurd (none-some deed k)

asked_same : (blocks : List ReadBlock) (compared : ℕ) (asked : Bool) (state : ReadState) {deed : Deed} →
    deed_after_asked blocks compared state ≡ Some deed → SameBlocks (Comparing blocks compared asked) deed
asked_same blocks compared asked NotRead {deed} e = absurd (none-some deed e)
asked_same blocks compared asked state {deed} e =
    subst (SameBlocks (Comparing blocks compared asked)) (same_Some (Comparing blocks compared true) deed e)
    (λ l x index h. h)

compare_same : (blocks : List ReadBlock) (compared : ℕ) (asked : Bool) (o : Option ReadBlock) {deed : Deed} →
    deed_after_compare blocks compared o ≡ Some deed → SameBlocks (Comparing blocks compared asked) deed
compare_same blocks compared asked None {deed} e = absurd (none-some deed e)
compare_same blocks compared asked (Some block) e = asked_same blocks compared asked block.state e

behind_same : (task : Task) (before : Deed) {deed : Deed} → deed_after task before ≡ Some deed → SameBlocks before deed
behind_same task (Sending blocks sent) {deed} e = block_same task blocks sent (slice_get blocks sent) e
behind_same task (Gathering purpose gathered asked) {deed} e =
    subst (SameBlocks (Gathering purpose gathered asked)) (same_Some (Gathering purpose gathered true) deed e)
    (λ l x index h. h)
behind_same task (SendingBytes bytes) {deed} e =
    subst (SameBlocks (SendingBytes bytes)) (same_Some (Answering Good task.length) deed e) (λ l x index h. tt)
behind_same task (Comparing blocks compared asked) e = compare_same blocks compared asked (slice_get blocks compared) e
behind_same task before {deed} e = absurd (none-some deed e)

moves_show : (s : State) (task : Task) (deed : Deed) → ShowsReads s → ShowsReads (with_moves s (moves_after task deed))
moves_show s task (Sending blocks sent) h = wanted_shows s.translation.ledger s.tasks task.tag (sent + 1) true
    (filter (λ pin. not (is_pin_of task.tag sent pin)) s.translation.pins)
    (All-filter (λ pin. not (is_pin_of task.tag sent pin))
    (ShowsRight s.translation.ledger s.tasks) s.translation.pins h)
moves_show s task (Awaiting commands) h = show_known s.translation.ledger
    (with_moves s (moves_after task (Awaiting commands))).translation.ledger s.tasks s.translation.pins
    (λ name e k. k) h
moves_show s task deed h = h

task_behind_shows : (s : State) {task : Task} (deed : Option Deed) → task_of task.tag s.tasks ≡ Some task →
    ((d : Deed) → deed ≡ Some d → SameBlocks task.deed d) → ShowsReads s → ShowsReads (task_goes_on s task deed)
task_behind_shows s {task} (Some deed) found same h =
    show_goes s.translation.ledger s.tasks (map (with_deed task.tag deed) s.tasks) s.translation.pins
    (set_goes s.tasks task deed found (same deed refl)) h
task_behind_shows s {task} None found same h =
    All-weaker (λ pin. ShowsRight l s.tasks pin × (not (pin.tag == task.tag) ≡ true))
    (ShowsRight l (filter (λ t. not (is_task_of task.tag t)) s.tasks))
    (λ pin r. record {
      task = r.0.task;
      there = found_kept (is_task_of pin.tag) (is_task_of task.tag) s.tasks r.0.task r.0.there (apart pin r.0 r.1);
      shows = r.0.shows;
    }) (filter (λ pin. not (pin.tag == task.tag)) s.translation.pins)
    (filter_passes (ShowsRight l s.tasks) (λ pin. not (pin.tag == task.tag)) s.translation.pins h)
  where
    l : Ledger
    l = s.translation.ledger

    no : (b : Bool) → not b ≡ true → b ≡ false
    no true e = sym e
    no false e = refl

    apart : (pin : Pin) (r : ShowsRight l s.tasks pin) → not (pin.tag == task.tag) ≡ true →
        is_task_of task.tag r.task ≡ false
    apart pin r e =
        let own : r.task.tag ≡ pin.tag =
        eq_told r.task.tag pin.tag (found_is (is_task_of pin.tag) s.tasks r.task r.there) in
        ap (λ (n : ℕ). n == task.tag) own ∙ no (pin.tag == task.tag) e

short_shows : (s : State) (o : Option Short) → ShowsReads s → ShowsReads (short_replied s o)
short_shows s None h = h
short_shows s (Some short) h = by short.awaits
  where
    by : (o : Option ℕ) → ShowsReads (short_replied s (Some (record short { awaits = o })))
    by None = h
    by (Some commands) = show_known s.translation.ledger
        (short_replied s (Some (record short { awaits = Some commands }))).translation.ledger s.tasks s.translation.pins
        (λ name e k. k) h

pub replied_shows : (s : State) (tag : ℕ) (o : Option Task) → task_of tag s.tasks ≡ o → ShowsReads s →
    ShowsReads (replied_by s tag o)
replied_shows s tag (Some task) e h =
    let own : task.tag ≡ tag = eq_told task.tag tag (found_is (is_task_of tag) s.tasks task e) in
    task_behind_shows (with_moves s (moves_after task task.deed)) (deed_after task task.deed)
    (ap (λ (n : ℕ). task_of n s.tasks) own ∙ e) (λ d k. behind_same task task.deed k) (moves_show s task task.deed h)
replied_shows s tag None e h = short_shows s (find (is_short_of tag) s.shorts) h
