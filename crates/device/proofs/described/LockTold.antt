-- Once the lock is told to the tasks, what the device keeps describes the state in which the lock is told.
use Rattle.device.proofs.Common.{All, All-cons, All-head, All-nil, All-tail, Answering, AreClaimed, AreaReads, Awaiting}
use Rattle.device.proofs.Common.{Bool, Deed, DeedFits, DeedsFit, Describes, DeviceCore, Frame, Frames, FramesFit}
use Rattle.device.proofs.Common.{FramesWait, Gathering, HaveAnswered, IsDoing, IsFor, IsShortTold, IsTied, IsTold}
use Rattle.device.proofs.Common.{IsToldIn, Keeps, List, Numbers, OpenTask, Option, PartsStand, Phase, ReadsAsked}
use Rattle.device.proofs.Common.{ReadsFor, Sending, SendingBytes, ShowsReads, State, Status, TaskKept, [], ap, arith}
use Rattle.device.proofs.Common.{before_accepted, claim_of, claimed_in, cond, durable, false, false≢true, frame_in}
use Rattle.device.proofs.Common.{gathers_for, is_mended, le-ltb, leb-true, length-map, lock_applied, lock_told, locked}
use Rattle.device.proofs.Common.{map, most_tasks, nat_le, nat_lt, none-some, numbers_of, phase_after, read_in, refl}
use Rattle.device.proofs.Common.{same_Some, short_locked, slice_get, subst, sym, take, task_after, true, wanted_in}
use Rattle.device.proofs.Common.{write_error, ℕ, ◌+◌, ◌-◌, ◌∙◌, ◌∷◌, ◌≡◌, ◌≤◌}
use Rattle.std.specs.Prelude.{None, Some, length, suc, zero}
use Rattle.std.proofs.lemmas.Bool.{lt-ltb}
use Rattle.ufs_spec.proofs.Facts.{leb-false}
use Rattle.ufs_spec.specs.Machine.{deed_locked, task_locked}
use Rattle.task_set.specs.Shorts as ours
use Rattle.task_set.specs.declared.frames.Frames.TheVariants as frames
use Rattle.device.proofs.described.OneSender.{each_sends}
use Rattle.device.proofs.described.Settled.{told_answered}
use Rattle.device.proofs.described.ShortExchanges.{all_shorts_told, shorts_locked, shorts_stay}
use Rattle.device.proofs.open_tasks.OpenTasks.{each_changed}
use Rattle.device.proofs.open_tasks.KeptByTag.{SameDeed, each_claims, each_wants}
use Rattle.ufs_spec.specs.Exchanges as exchange
use Rattle.ufs_spec.specs.Exchanges.{Comparing}
use Rattle.task_set.specs.declared.tasks.Phase.TheVariants as phase
use Rattle.ufs_spec.specs.declared.exchanges.Status.TheVariants as status
use Rattle.task_set.specs.declared.tasks.TaskEvent.TheVariants as event

-- Once the lock is told

-- a task that waits for nothing, or for durable commands, stays
told_stays : (s : State) (task : exchange.Task) (deed : Deed) → IsToldIn (durable s) deed →
    deed_locked s task deed ≡ deed
told_stays s task (Awaiting commands) h =
    ap (λ b. cond b (Awaiting commands) (Answering exchange.write_error task.length)) h
told_stays s task (Gathering purpose gathered asked) h = refl
told_stays s task (Sending blocks sent) h = refl
told_stays s task (SendingBytes bytes) h = refl
told_stays s task (exchange.ReadingArea pages) h = refl
told_stays s task (Comparing blocks compared asked) h = refl
told_stays s task (Answering status carried) h = refl

all_stay : (s : State) (us : List exchange.Task) → All (IsTold (durable s)) us → map (task_locked s) us ≡ us
all_stay s [] h = refl
all_stay s (y ∷ us) h = λ i.
    record y { deed = told_stays s y y.deed (All-head (IsTold (durable s)) y us h) i }
    ∷ all_stay s us (All-tail (IsTold (durable s)) y us h) i

abbrev with_lock : State → State
with_lock s = record s { tasks = map (task_locked s) s.tasks; shorts = map (short_locked s) s.shorts }

-- so the lock changes nothing
pub lock_stays : (s : State) → (locked s ≡ true → All (IsTold (durable s)) s.tasks) →
    (locked s ≡ true → All (IsShortTold (durable s)) s.shorts) → lock_applied s ≡ s
lock_stays s told shorts_told = by (locked s) told shorts_told
  where
    by : (b : Bool) → (b ≡ true → All (IsTold (durable s)) s.tasks) →
        (b ≡ true → All (IsShortTold (durable s)) s.shorts) → cond b (with_lock s) s ≡ s
    by true h k = λ i. record s {
      tasks = all_stay s s.tasks (h refl) i;
      shorts = shorts_stay s s.shorts (k refl) i;
    }
    by false h k = refl

-- When the lock is told

deed_told : (s : State) (task : exchange.Task) (deed : Deed) → IsToldIn (durable s) (deed_locked s task deed)
deed_told s task (Awaiting commands) = by (nat_le commands (durable s)) refl
  where
    by : (b : Bool) → nat_le commands (durable s) ≡ b →
        IsToldIn (durable s) (cond b (Awaiting commands) (Answering exchange.write_error task.length))
    by true e = e
    by false e = tt
deed_told s task (Gathering purpose gathered asked) = tt
deed_told s task (Sending blocks sent) = tt
deed_told s task (SendingBytes bytes) = tt
deed_told s task (exchange.ReadingArea pages) = tt
deed_told s task (Comparing blocks compared asked) = tt
deed_told s task (Answering status carried) = tt

all_told : (s : State) (us : List exchange.Task) → All (IsTold (durable s)) (map (task_locked s) us)
all_told s [] = All-nil (IsTold (durable s))
all_told s (y ∷ us) = All-cons (IsTold (durable s)) (task_locked s y) (map (task_locked s) us) (deed_told s y y.deed)
    (all_told s us)

-- what a deed tells of blocks it tells once the lock is told
same_told : {X : Type 0} (G : Deed → X) → ((commands n : ℕ) (status : Status) →
    G (Answering status n) ≡ G (Awaiting commands)) → (s : State) (task : exchange.Task) (deed : Deed) →
    G (deed_locked s task deed) ≡ G deed
same_told G same s task (Awaiting commands) = by (nat_le commands (durable s))
  where
    by : (b : Bool) → G (cond b (Awaiting commands) (Answering exchange.write_error task.length)) ≡ G
        (Awaiting commands)
    by true = refl
    by false = same commands task.length exchange.write_error
same_told G same s task (Gathering purpose gathered asked) = refl
same_told G same s task (Sending blocks sent) = refl
same_told G same s task (SendingBytes bytes) = refl
same_told G same s task (exchange.ReadingArea pages) = refl
same_told G same s task (Comparing blocks compared asked) = refl
same_told G same s task (Answering status carried) = refl

lock_same : (s : State) → SameDeed (task_locked s)
lock_same s = record {
  tags = λ x. refl;
  wanted = λ index x. same_told (wanted_in index x.request) (λ commands n status. refl) s x x.deed;
  claimed = λ m x. same_told (claimed_in m x.length) (λ commands n status. refl) s x x.deed;
}

-- the block of a number is durable for both sides, or for none
same_test : (before n frontier commands : ℕ) → (nat_le commands (frontier - before) ≡ true → before ≤ frontier) →
    n ≡ before + commands → nat_lt frontier n ≡ cond (nat_le commands (frontier - before)) false true
same_test before n frontier commands low is = by (nat_le commands (frontier - before)) refl low
  where
    by : (b : Bool) → nat_le commands (frontier - before) ≡ b → (b ≡ true → before ≤ frontier) →
        nat_lt frontier n ≡ cond b false true
    by true e below = let above = below refl in let few = leb-true commands (frontier - before) e in
        le-ltb frontier n (omega arith)
    by false e below = let many = leb-false commands (frontier - before) e in lt-ltb frontier n (omega arith)

-- what waits still, once the lock is told, finds the device mended, and each repair durable
waits_low : (s : State) (n : Numbers) (accepted claimed commands total : ℕ) (mended b : Bool) →
    (mended ≡ true → before_accepted s.translation.ledger ≤ s.translation.ledger.frontier) →
    DeedFits n accepted mended claimed total (cond b (Awaiting commands) (Answering exchange.write_error total)) →
    b ≡ true → before_accepted s.translation.ledger ≤ s.translation.ledger.frontier
waits_low s n accepted claimed commands total mended true low fits is = low fits.1
waits_low s n accepted claimed commands total mended false low fits is = absurd (false≢true is)

deed_kept : (s : State) (n : Numbers) (accepted claimed : ℕ) (mended : Bool) (frontier expected : ℕ)
    (task : exchange.Task) (p : Phase) (deed : Deed) → frontier ≡ s.translation.ledger.frontier →
    (mended ≡ true → before_accepted s.translation.ledger ≤ s.translation.ledger.frontier) →
    DeedFits n accepted mended claimed task.length (deed_locked s task deed) →
    IsDoing (before_accepted s.translation.ledger) expected task.length p deed →
    IsDoing (before_accepted s.translation.ledger) expected task.length (phase_after p (event.Locked frontier))
    (deed_locked s task deed)
deed_kept s n all claimed mended frontier expected task (phase.AwaitFrontier m size) (Awaiting commands) same low fits h
    =
    subst (λ b. IsDoing before expected task.length (cond b failed (phase.AwaitFrontier m size))
    (deed_locked s task (Awaiting commands)))
    (sym (ap (λ f. nat_lt f m) same
    ∙ same_test before m s.translation.ledger.frontier commands
    (waits_low s n all claimed commands task.length mended (nat_le commands (durable s)) low fits) h.0))
    (by (nat_le commands (durable s)))
  where
    before : ℕ
    before = before_accepted s.translation.ledger

    failed : Phase
    failed = phase.Answer (status.CheckCondition write_error) size

    by : (b : Bool) → IsDoing before expected task.length (cond (cond b false true) failed (phase.AwaitFrontier m size))
        (cond b (Awaiting commands) (Answering exchange.write_error task.length))
    by true = h
    by false = (refl, h.1)
deed_kept s n all claimed mended frontier expected task (phase.Ask w) (Gathering purpose gathered asked) same low fits h
    = h
deed_kept s n all claimed mended frontier expected task (phase.Await w) (Gathering purpose gathered asked) same low fits h
    = h
deed_kept s n all claimed mended frontier expected task (phase.SendHeld size) (SendingBytes bytes) same low fits h = h
deed_kept s n all claimed mended frontier expected task (phase.SendBlocks x) (Sending blocks sent) same low fits h = h
deed_kept s n all claimed mended frontier expected task (phase.ReadArea r) (exchange.ReadingArea pages) same low fits h
    = h
deed_kept s n all claimed mended frontier expected task (phase.Verify x) (exchange.ReadingArea pages) same low fits h
    = h
deed_kept s n all claimed mended frontier expected task (phase.AskBlock x) (Comparing blocks compared asked) same low
    fits h = h
deed_kept s n all claimed mended frontier expected task (phase.AwaitBlock x) (Comparing blocks compared asked) same low
    fits h = h
deed_kept s n all claimed mended frontier expected task (phase.Answer told m) (Answering x carried) same low fits h = h
deed_kept s n all claimed mended frontier expected task (phase.Answer told m) (Comparing blocks compared asked) same low
    fits h = h
deed_kept s n all claimed mended frontier expected task (phase.Answer told m) (Sending blocks sent) same low fits h = h
deed_kept s n all claimed mended frontier expected task p deed same low fits h = absurd h

-- what a task has to do with frames stays
frames_fit : (s : State) (task : exchange.Task) (frontier : ℕ) (p : Phase) (f : Frames) (held : Option (List ℕ))
    (deed : Deed) → FramesFit p f held deed →
    FramesFit (phase_after p (event.Locked frontier)) f held (deed_locked s task deed)
frames_fit s task frontier (phase.AwaitFrontier n size) f held deed h = by (nat_lt frontier n)
  where
    failed : Phase
    failed = phase.Answer (status.CheckCondition write_error) size

    by : (b : Bool) → FramesFit (cond b failed (phase.AwaitFrontier n size)) f held (deed_locked s task deed)
    by true = tt
    by false = tt
frames_fit s task frontier (phase.SendHeld size) f held deed h = (
  h.0,
  record {
    all = h.1.all;
    is_held = h.1.is_held;
    long = h.1.long;
    deed_is = ap (deed_locked s task) h.1.deed_is;
  },
)
frames_fit s task frontier (phase.Ask w) f held deed h = h
frames_fit s task frontier (phase.Await w) f held deed h = h
frames_fit s task frontier (phase.ReadArea r) f held deed h = (h.0, parts_stand deed h.1)
  where
    parts_stand : (d : Deed) → PartsStand r held d → PartsStand r held (deed_locked s task d)
    parts_stand (exchange.ReadingArea pages) k = k
    parts_stand (Gathering purpose gathered asked) k = absurd k
    parts_stand (Sending blocks sent) k = absurd k
    parts_stand (SendingBytes bytes) k = absurd k
    parts_stand (Awaiting commands) k = absurd k
    parts_stand (Comparing blocks compared asked) k = absurd k
    parts_stand (Answering status carried) k = absurd k
frames_fit s task frontier (phase.Verify x) f held deed h = h
frames_fit s task frontier (phase.AskBlock x) f held deed h = h
frames_fit s task frontier (phase.AwaitBlock x) f held deed h = h
frames_fit s task frontier (phase.SendBlocks x) f held deed h = h
frames_fit s task frontier (phase.Answer told n) f held deed h = h

-- and so does what it has to read
asks_stay : (frontier : ℕ) (p : Phase) (f : Frames) (held : Option (List ℕ)) → ReadsAsked p f held →
    ReadsAsked (phase_after p (event.Locked frontier)) f held
asks_stay frontier p frames.NotBrought held h = tt
asks_stay frontier p frames.Undecided held h = tt
asks_stay frontier p frames.Answered held h = tt
asks_stay frontier p (frames.Decided code) None h = tt
asks_stay frontier p (frames.Decided code) (Some bytes) h = reads_stay p h
  where
    frame : Frame
    frame = frame_in (take 512 bytes)

    reads_stay : (q : Phase) → ReadsFor q frame code → ReadsFor (phase_after q (event.Locked frontier)) frame code
    reads_stay (phase.AwaitFrontier n size) k = by (nat_lt frontier n)
      where
        failed : Phase
        failed = phase.Answer (status.CheckCondition write_error) size

        by : (b : Bool) → ReadsFor (cond b failed (phase.AwaitFrontier n size)) frame code
        by true = k
        by false = k
    reads_stay (phase.Ask w) k = k
    reads_stay (phase.Await w) k = k
    reads_stay (phase.ReadArea r) k = k
    reads_stay (phase.Verify x) k = k
    reads_stay (phase.AskBlock x) k = k
    reads_stay (phase.AwaitBlock x) k = k
    reads_stay (phase.SendBlocks x) k = k
    reads_stay (phase.SendHeld size) k = k
    reads_stay (phase.Answer told n) k = k

task_kept : (s : State) (n : Numbers) (accepted claimed : ℕ) (mended : Bool) (frontier : ℕ) (a : OpenTask)
    (b : exchange.Task) → frontier ≡ s.translation.ledger.frontier →
    (mended ≡ true → before_accepted s.translation.ledger ≤ s.translation.ledger.frontier) →
    DeedFits n accepted mended claimed b.length (deed_locked s b b.deed) →
    TaskKept (before_accepted s.translation.ledger) a b →
    TaskKept (before_accepted s.translation.ledger) (task_after (event.Locked frontier) a) (task_locked s b)
task_kept s n accepted claimed mended frontier a b same low fits h = record {
  lun = h.lun;
  tag = h.tag;
  expected = h.expected;
  brings = h.brings;
  gathers =
      subst (IsFor a.region) (sym (same_told gathers_for (λ commands n status. refl) s b b.deed)) h.gathers;
  asked_of = h.asked_of;
  request = h.request;
  asks = asks_stay frontier a.phase a.frames a.held h.asks;
  fits = frames_fit s b frontier a.phase a.frames a.held b.deed h.fits;
  doing = deed_kept s n accepted claimed mended frontier a.expected b a.phase b.deed same low fits h.doing;
  read = h.read ∙ sym (same_told read_in (λ commands n status. refl) s b b.deed);
}

-- the tasks fit once the lock is told
locked_fit : (s : State) (us : List exchange.Task) (k : ℕ) (b : exchange.Task) → slice_get us k ≡ Some b →
    DeedsFit (numbers_of s) (length s.accepted) (is_mended s.translation.work.mending) (map (task_locked s) us) →
    DeedFits (numbers_of s) (length s.accepted) (is_mended s.translation.work.mending)
    (claim_of (numbers_of s) (task_locked s b)) b.length (deed_locked s b b.deed)
locked_fit s [] k b at fits = absurd (none-some b at)
locked_fit s (y ∷ us) zero b at fits =
    subst
    (λ (z : exchange.Task). DeedFits (numbers_of s) (length s.accepted) (is_mended s.translation.work.mending)
    (claim_of (numbers_of s) (task_locked s z)) z.length (deed_locked s z z.deed))
    (same_Some y b at) fits.0
locked_fit s (y ∷ us) (suc k) b at fits = locked_fit s us k b at fits.1

abbrev told_core : ℕ → DeviceCore → DeviceCore
told_core frontier e = record e {
  tasks = map (task_after (event.Locked frontier)) e.tasks;
  shorts = map (ours.short_locked frontier) e.shorts;
}

keeps_locked : (e : DeviceCore) (s : State) → IsTied (with_lock s) → Keeps e s →
    Keeps (told_core s.translation.ledger.frontier e) (with_lock s)
keeps_locked e s tied k = record {
  boot = k.boot;
  permanent = k.permanent;
  each = k.each;
  region = k.region;
  registers = k.registers;
  layer_kept = k.layer_kept;
  few = subst (λ n. n ≤ most_tasks) (sym (length-map s.tasks (task_locked s))) k.few;
  tasks =
      each_changed before before (task_after (event.Locked frontier)) (task_locked s) e.tasks s.tasks
      (λ j a b at h. task_kept s (numbers_of s) (length s.accepted) (claim_of (numbers_of s) (task_locked s b))
      (is_mended s.translation.work.mending) frontier a b refl tied.repaired
      (locked_fit s s.tasks j b at tied.tasks.deeds) h) k.tasks;
  one_sends = each_sends (task_after (event.Locked frontier)) (λ a. refl) e.tasks k.one_sends;
  wanted = each_wants s.translation.pins s.tasks (task_locked s) k.wanted (lock_same s);
  claims = subst (AreClaimed e.ftl) (sym (each_claims (numbers_of s) s.tasks (task_locked s) (lock_same s))) k.claims;
  shorts = shorts_locked s (numbers_of s) (length s.accepted) (is_mended s.translation.work.mending) e.shorts s.shorts
      tied.repaired tied.tasks.waits k.shorts;
  volatile = k.volatile;
}
  where
    before : ℕ
    before = before_accepted s.translation.ledger

    frontier : ℕ
    frontier = s.translation.ledger.frontier

-- what is kept while a call is answered describes the state once both sides told the lock
pub describes_told : (e : DeviceCore) (s : State) → IsTied (lock_applied s) → ShowsReads (lock_applied s) →
    FramesWait (lock_applied s) → AreaReads (lock_applied s) → Keeps e s → HaveAnswered s →
    Describes (lock_told s.translation e) (lock_applied s)
describes_told e s tied shows waits reads k answered = by (locked s) refl tied shows waits reads
  where
    by : (b : Bool) → locked s ≡ b → IsTied (cond b (with_lock s) s) → ShowsReads (cond b (with_lock s) s) →
        FramesWait (cond b (with_lock s) s) → AreaReads (cond b (with_lock s) s) →
        Describes (cond b (told_core s.translation.ledger.frontier e) e) (cond b (with_lock s) s)
    by true is v w z r = record {
      tied = v;
      shows = w;
      waits = z;
      reads = r;
      kept = keeps_locked e s v k;
      answered = told_answered s s.tasks answered;
      told = λ l. all_told s s.tasks;
      shorts_told = λ l. all_shorts_told s s.shorts;
    }
    by false is v w z r = record {
      tied = v;
      shows = w;
      waits = z;
      reads = r;
      kept = k;
      answered = answered;
      told = λ l. absurd (false≢true (sym is ∙ l));
      shorts_told = λ l. absurd (false≢true (sym is ∙ l));
    }
