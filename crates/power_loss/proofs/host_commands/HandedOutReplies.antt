-- A reply that is handed out.
use Rattle.ufs_spec.specs.Exchanges.{Comparing}
use Rattle.ufs_spec.specs.Exchanges.{miscompare}
use Rattle.ufs_spec.specs.DataOuts.{block_differs, block_same}
use Rattle.ufs_spec.specs.Machine.{deed_after_asked, deed_after_compare}
use Rattle.std.specs.Prelude.{◌*◌}
use Rattle.power_loss.proofs.Common.{◌≡◌, ℕ, ◌+◌, ◌≤◌, Bool, true, false, not, List, [], ◌∷◌, Option, Some, None}
use Rattle.power_loss.proofs.Common.{length, refl, sym, ap, ◌∙◌, subst, inl, inr, arith, find, nat_le, nat_lt, LetGo}
use Rattle.power_loss.proofs.Common.{LetGoAll, Acknowledge, WantPage, none-some, same_Some, is_mended, Numbers}
use Rattle.power_loss.proofs.MachineWords.{Answering, Awaiting, Cdb, Deed, DeedFits, Due, ForFrames, ForUnmap, ForWrite}
use Rattle.power_loss.proofs.MachineWords.{Gathering, Good, IsTied, Message, NotRead, Purpose, ReadBlock, ReadState}
use Rattle.power_loss.proofs.MachineWords.{ReadingArea, Sending, SendingBytes, Short, ShortAwaits, ShortFits, State}
use Rattle.power_loss.proofs.MachineWords.{Task, claim_of, claimed_by, deed_after, deed_after_block, deed_reply}
use Rattle.power_loss.proofs.MachineWords.{durable, is_durable, is_short_of, is_task_of, moves_after, numbers_of}
use Rattle.power_loss.proofs.MachineWords.{replied_by, response, set_deed, short_replied, tag_in, task_goes_on, task_of}
use Rattle.power_loss.proofs.MachineWords.{with_deed, with_moves, without_short, without_task}
use Rattle.std.specs.Prelude.{if◌then◌else◌, slice_get}
use Rattle.ufs_spec.specs.Machine.{acknowledges, deed_after_state, replied}
use Rattle.ufs_spec.proofs.Facts.{leb-true}
use Rattle.power_loss.specs.Exchange.{AwaitsFit}
use Rattle.power_loss.proofs.open_tasks.TaskLists.{found_short, found_task, no_task_found, short_fits_at, shorts_fewer}
use Rattle.power_loss.proofs.open_tasks.TaskLists.{frames_more, task_set, tasks_fewer, unmap_more, write_more}
use Rattle.power_loss.proofs.open_tasks.TaggedLists.{each_at}
use Rattle.power_loss.proofs.calls.RightChanges.{Right, right_keeps, right_move}
use Rattle.ufs_laws.proofs.walk.SmallChanges.{Both, Closes, ClosesShorts, Maps, One, Still, does}
use Rattle.ufs_laws.proofs.exchanges.AbortedTasks.{reply_tag}

-- whether the deed fits a task of the state
abbrev pub FitsIn : State → Task → Deed → Type 0
FitsIn s task deed = DeedFits (numbers_of s) (length s.accepted) (is_mended s.translation.work.mending)
    (claimed_by (numbers_of s) deed task.command) task.length deed

-- a task does something else that claims no more
pub set_right : {s : State} {task : Task} (deed : Deed) → IsTied s → task_of task.tag s.tasks ≡ Some task →
    FitsIn s task deed → claimed_by (numbers_of s) deed task.command ≤ claim_of (numbers_of s) task →
    Right s (set_deed s task.tag deed)
set_right {task = task} deed v there fits few =
    One (Maps (with_deed task.tag deed)) (record {
      small = does task.tag deed;
      layer = tt;
      tasks = task_set task.tag deed (omega arith) (λ h. h) there fits (omega arith) v.tasks;
    })

-- a task goes
removed_right : {s : State} (tag : ℕ) → IsTied s →
    Right s (with_moves (record s { tasks = without_task tag s.tasks }) (LetGoAll tag ∷ []))
removed_right {s} tag v =
    let u : State = record s { tasks = without_task tag s.tasks } in
    let gone : Right s u = One (Closes (is_task_of tag)) (record {
      small = tt;
      layer = tt;
      tasks = tasks_fewer (λ (task : Task). not (is_task_of tag task)) v.tasks;
    }) in
    Both gone (right_move (LetGoAll tag) (right_keeps gone v) tt tt (omega arith))

-- what may be acknowledged is durable
told_right : {s : State} (commands : ℕ) → IsTied s →
    AwaitsFit (length s.accepted) (is_mended s.translation.work.mending) commands →
    nat_le commands (durable s) ≡ true → Right s (with_moves s (Acknowledge commands ∷ []))
told_right {s} commands v fits h =
    let low = v.repaired fits.1 in
    let l = leb-true commands (durable s) h in
    right_move (Acknowledge commands) v tt (omega arith) (omega arith)

-- The tag of a reply

pub one_tag : (a m : Message) (tag : ℕ) → Some a ≡ Some m → tag_in a ≡ tag → tag_in m ≡ tag
one_tag a m tag e h = ap tag_in (sym (same_Some a m e)) ∙ h

-- what waits for commands is answered once they are durable
awaited : (s : State) (task : Task) (commands : ℕ) {m : Message} → deed_reply s task (Awaiting commands) ≡ Some m →
    (nat_le commands (durable s) ≡ true) × (tag_in m ≡ task.tag)
awaited s task commands {m} h = by (nat_le commands (durable s)) h
  where
    by : (b : Bool) → (if b then Some (response task.lun task.tag task.expected task.length Good) else None) ≡ Some m →
        (b ≡ true) × (tag_in m ≡ task.tag)
    by true e = (refl, one_tag (response task.lun task.tag task.expected task.length Good) m task.tag e refl)
    by false e = absurd (none-some m e)

-- The reply of a task

pub claim_same : (n : Numbers) (p q : Purpose) (g h : List ℕ) (a b : Bool) (c : Option Cdb) →
    claimed_by n (Gathering p g a) c ≡ claimed_by n (Gathering q h b) c
claim_same n p q g h a b None = refl
claim_same n p q g h a b (Some c) = refl

asked_fits : (s : State) (task : Task) (purpose : Purpose) (gathered : List ℕ) (asked : Bool) →
    FitsIn s task (Gathering purpose gathered asked) → FitsIn s task (Gathering purpose gathered true)
asked_fits s task (ForWrite unit address blocks forced) gathered asked h =
    let p : Purpose = ForWrite unit address blocks forced in
    write_more (λ k. k) h.short (λ k. k) (claim_same (numbers_of s) p p gathered gathered true asked task.command) h
asked_fits s task (ForUnmap unit) gathered asked h =
    let p : Purpose = ForUnmap unit in
    unmap_more (λ k. k) h.short (λ k. k) (claim_same (numbers_of s) p p gathered gathered true asked task.command) h
asked_fits s task (ForFrames region) gathered asked h =
    let p : Purpose = ForFrames region in
    frames_more h.short (λ k. k) (claim_same (numbers_of s) p p gathered gathered true asked task.command) h

module _ (s : State) (task : Task) (v : IsTied s) (there : task_of task.tag s.tasks ≡ Some task) where
  sent_right : (blocks : List ReadBlock) (sent : ℕ) (b : Bool) →
      Right s (set_deed s task.tag (if b then Sending blocks (sent + 1) else Answering Good task.length))
  sent_right blocks sent true = set_right (Sending blocks (sent + 1)) v there tt (omega arith)
  sent_right blocks sent false = set_right (Answering Good task.length) v there tt (omega arith)

  state_right : (blocks : List ReadBlock) (sent : ℕ) (state : ReadState) →
      Right s (task_goes_on s task (deed_after_state task blocks sent state))
  state_right blocks sent NotRead = removed_right task.tag v
  state_right blocks sent state = sent_right blocks sent (nat_lt (sent + 1) (length blocks))

  block_right : (blocks : List ReadBlock) (sent : ℕ) (x : Option ReadBlock) →
      Right s (task_goes_on s task (deed_after_block task blocks sent x))
  block_right blocks sent None = removed_right task.tag v
  block_right blocks sent (Some block) = state_right blocks sent block.state

  asked_right : (blocks : List ReadBlock) (compared : ℕ) (state : ReadState) →
      Right s (task_goes_on s task (deed_after_asked blocks compared state))
  asked_right blocks compared NotRead = removed_right task.tag v
  asked_right blocks compared state = set_right (Comparing blocks compared true) v there tt (omega arith)

  compare_right : (blocks : List ReadBlock) (compared : ℕ) (x : Option ReadBlock) →
      Right s (task_goes_on s task (deed_after_compare blocks compared x))
  compare_right blocks compared None = removed_right task.tag v
  compare_right blocks compared (Some block) = asked_right blocks compared block.state

  after_same_right : (blocks : List ReadBlock) (compared : ℕ) (b : Bool) →
      Right s (set_deed s task.tag (if b then Comparing blocks (compared + 1) false else Answering Good task.length))
  after_same_right blocks compared true = set_right (Comparing blocks (compared + 1) false) v there tt (omega arith)
  after_same_right blocks compared false = set_right (Answering Good task.length) v there tt (omega arith)

-- a block that is the host's is let go, and the page of the next one is wanted
pub same_right : {s : State} {task : Task} (blocks : List ReadBlock) (compared : ℕ) → IsTied s →
    task_of task.tag s.tasks ≡ Some task → Right s (block_same s task blocks compared)
same_right {s} {task} blocks compared v there =
    let u = with_moves s (LetGo task.tag compared ∷ []) in
    let one = right_move (LetGo task.tag compared) v tt tt (omega arith) in
    let two = right_move (WantPage task.tag (compared + 1)) (right_keeps one v) tt tt (omega arith) in
    Both one
    (Both two
    (after_same_right (with_moves u (WantPage task.tag (compared + 1) ∷ [])) task (right_keeps (Both one two) v) there
    blocks compared (nat_lt (compared + 1) (length blocks))))

-- behind another one all is let go
pub differs_right : {s : State} {task : Task} (compared : ℕ) → IsTied s → task_of task.tag s.tasks ≡ Some task →
    Right s (block_differs s task compared)
differs_right {s} {task} compared v there =
    let one = right_move (LetGoAll task.tag) v tt tt (omega arith) in
    Both one (set_right (Answering miscompare (4096 * (compared + 1))) (right_keeps one v) there tt (omega arith))

deed_replies : {s : State} {task : Task} (deed : Deed) {m : Message} → IsTied s → task_of task.tag s.tasks ≡ Some task →
    FitsIn s task deed → claim_of (numbers_of s) task ≡ claimed_by (numbers_of s) deed task.command →
    deed_reply s task deed ≡ Some m →
    Right s (task_goes_on (with_moves s (moves_after task deed)) task (deed_after task deed))
deed_replies {s} {task} (Gathering purpose gathered asked) v there fits claim h =
    let same = claim_same (numbers_of s) purpose purpose gathered gathered true asked task.command in
    set_right (Gathering purpose gathered true) v there (asked_fits s task purpose gathered asked fits) (omega arith)
deed_replies {s} {task} (Sending blocks sent) v there fits claim h =
    let u = with_moves s (LetGo task.tag sent ∷ []) in
    let one = right_move (LetGo task.tag sent) v tt tt (omega arith) in
    let two = right_move (WantPage task.tag (sent + 1)) (right_keeps one v) tt tt (omega arith) in
    Both one
    (Both two
    (block_right (with_moves u (WantPage task.tag (sent + 1) ∷ [])) task (right_keeps (Both one two) v) there blocks
    sent (slice_get blocks sent)))
deed_replies {s} {task} (SendingBytes bytes) v there fits claim h =
    set_right (Answering Good task.length) v there tt (omega arith)
deed_replies {s} {task} (Awaiting commands) {m} v there fits claim h =
    let told = told_right commands v fits (awaited s task commands h).0 in
    Both told (removed_right task.tag (right_keeps told v))
deed_replies {s} {task} (ReadingArea pages) v there fits claim h = removed_right task.tag v
deed_replies {s} {task} (Comparing blocks compared asked) v there fits claim h =
    compare_right s task v there blocks compared (slice_get blocks compared)
deed_replies {s} {task} (Answering status carried) v there fits claim h = removed_right task.tag v

-- The reply of a short exchange

short_tells : {s : State} (x : Option ℕ) → IsTied s →
    ShortAwaits (length s.accepted) (is_mended s.translation.work.mending) x → is_durable s x ≡ true →
    Right s (with_moves s (acknowledges x))
short_tells None v fits h = Still
short_tells {s} (Some commands) v fits h = told_right commands v fits h

short_replies : {s : State} {short : Short} → IsTied s →
    ShortFits (length s.accepted) (is_mended s.translation.work.mending) short → is_durable s short.awaits ≡ true →
    Right s (short_replied s (Some short))
short_replies {s} {short} v fits h =
    let u : State = record s { shorts = without_short short.tag s.shorts } in
    let gone : Right s u = One (ClosesShorts (is_short_of short.tag)) (record {
      small = tt;
      layer = tt;
      tasks = shorts_fewer (λ (x : Short). not (is_short_of short.tag x)) v.tasks;
    }) in
    Both gone (short_tells short.awaits (right_keeps gone v) fits.awaits h)

-- Both

pub replies_right : {s : State} (m : Message) → IsTied s → Due s m → Right s (replied s m)
replies_right {s} m v (inl (k, task, at, reply)) =
    let found = found_task s.tasks k task v.tasks.tasks_differ at in
    let tag = reply_tag s task task.deed m reply in
    let here : task_of (tag_in m) s.tasks ≡ Some task = ap (λ (x : ℕ). task_of x s.tasks) tag ∙ found in
    let fits = each_at (λ (t : Task). FitsIn s t t.deed) s.tasks k task v.tasks.deeds at in
    subst (λ (x : Option Task). Right s (replied_by s (tag_in m) x)) (sym here)
    (deed_replies task.deed v found fits refl reply)
replies_right {s} m v (inr (k, short, at, due, same)) =
    let fits = short_fits_at s.shorts k short v.tasks.waits at in
    let tag : tag_in m ≡ short.tag = ap tag_in same ∙ fits.reply in
    let none = ap (λ (x : ℕ). task_of x s.tasks) tag ∙ no_task_found s.shorts s.tasks k short v.tasks.apart at in
    let found : find (is_short_of (tag_in m)) s.shorts ≡ Some short =
    ap (λ (x : ℕ). find (is_short_of x) s.shorts) tag ∙ found_short s.shorts k short v.tasks.shorts_differ at in
    subst (λ (x : Option Task). Right s (replied_by s (tag_in m) x)) (sym none)
    (subst (λ (x : Option Short). Right s (short_replied s x)) (sym found) (short_replies v fits due))
