-- What the end of a read for a task leaves: the block or the page of the area was read and has the content that it had
-- when it was looked up, or the task is told that it could not be read.
use Rattle.device.proofs.Common.{Answering, Awaiting, Bool, Deed, Gathering, List, None, NotRead, Numbers, OpenTask}
use Rattle.device.proofs.Common.{Option, Phase, Pin, ReadBlock, ReadState, ReadingArea, RpmbRequest, Sending}
use Rattle.device.proofs.Common.{SendingBytes, Some, TaskKept, TasksDiffer, TasksKept, Unread, WasRead, [], and_parts}
use Rattle.device.proofs.Common.{ap, arith, claimed_in, cond, deed_read, eq_self, eqb-true, false, false≢true, found_is}
use Rattle.device.proofs.Common.{found_task, if_true, if◌then◌else◌, inl, inr, is_sender, is_task_of, is_unfilled}
use Rattle.device.proofs.Common.{is_unread, le-ltb, length, map, nat_lt, none-some, option_map, read_for, refl}
use Rattle.device.proofs.Common.{same_Some, set_other, set_state, set_there, subst, sym, task_after, task_of, true}
use Rattle.device.proofs.Common.{wanted_by, wanted_in, wanted_kept, wanted_of, with_wanted, ℕ, ◌&&◌, ◌==◌, ◌∙◌, ◌≡◌}
use Rattle.device.proofs.Common.{◌⊎◌}
use Rattle.std.proofs.Common.{slice_get}
use Rattle.device.specs.Describes.{keeps_pages}
use Rattle.ufs_spec.specs.Exchanges as exchange
use Rattle.ufs_spec.specs.Exchanges.{Comparing}
use Rattle.ufs_spec.specs.Machine.{task_read, with_block}
use Rattle.task_set.specs.declared.tasks.Phase.TheVariants as phase
use Rattle.task_set.specs.declared.tasks.TaskEvent.TheVariants as event
use Rattle.task_set.specs.Tasks.{after_lost_read, after_read}
use Rattle.device.proofs.open_tasks.BlockEnds.{block_lost, block_read, set_read}
use Rattle.device.proofs.open_tasks.CompareEnds.{compared_lost, compared_read}
use Rattle.device.proofs.open_tasks.OpenTasks.{each_changed}
use Rattle.device.proofs.open_tasks.PageEnds.{page_lost, page_read}
use Rattle.device.proofs.open_tasks.VerifyEnds.{block_unverified, block_verified, keeps_so}
use Rattle.device.proofs.open_tasks.ReadProgress.{ChangesOne, want_other_index, want_set}

-- The block that is read

-- the task reads these pages, for a request that is yet to fill its register or for a VERIFY that compares nothing
abbrev ReadsPages : exchange.Task → List ReadBlock → Type 0
ReadsPages task pages = (task.deed ≡ ReadingArea pages) × (keeps_pages task.request ≡ true)

-- the task compares these blocks, this one next
abbrev Compares : ℕ → exchange.Task → List ReadBlock → Type 0
Compares index task blocks = (asked : Bool) × (task.deed ≡ Comparing blocks index asked)

-- the task sends or compares these blocks, this one next, or it reads these pages
abbrev pub IsReadFor : ℕ → exchange.Task → List ReadBlock → Type 0
IsReadFor index task blocks =
    (task.deed ≡ Sending blocks index) ⊎ (ReadsPages task blocks ⊎ Compares index task blocks)

-- a block of a task is to be read, and was not read yet
pub record IsReading (tag index : ℕ) (us : List exchange.Task) : Type 0 where
  pub task : exchange.Task
  pub found : task_of tag us ≡ Some task
  pub blocks : List ReadBlock
  pub deed : IsReadFor index task blocks
  pub block : ReadBlock
  pub there : slice_get blocks index ≡ Some block
  pub unread : block.state ≡ Unread

state_unread : (state : ReadState) → is_unread state ≡ true → state ≡ Unread
state_unread Unread e = refl
state_unread WasRead e = absurd (false≢true e)
state_unread NotRead e = absurd (false≢true e)

-- the block is there whose page is wanted, and its turn came
record IsNext (next : Bool) (o : Option ReadBlock) : Type 0 where
  turn : next ≡ true
  block : ReadBlock
  is : o ≡ Some block
  unread : block.state ≡ Unread

is_next : (next : Bool) (o : Option ReadBlock) → wanted_of next o ≡ Some true → IsNext next o
is_next next None e = absurd (none-some true e)
is_next next (Some block) e =
    let both = and_parts next (is_unread block.state) (same_Some (next && is_unread block.state) true e) in
    record { turn = both.0; block = block; is = refl; unread = state_unread block.state both.1 }

-- the first of two that is wanted at all
wanted_not : (was : Bool) (o : Option Bool) → cond was None o ≡ Some true → o ≡ Some true
wanted_not true o e = absurd (none-some true e)
wanted_not false o e = e

wanted_while : (asks : Bool) (o : Option Bool) → cond asks o None ≡ Some true → (asks ≡ true) × (o ≡ Some true)
wanted_while true o e = (refl, e)
wanted_while false o e = absurd (none-some true e)

reads_deed : (tag index : ℕ) (us : List exchange.Task) (task : exchange.Task) (deed : Deed) →
    task_of tag us ≡ Some task → task.deed ≡ deed → wanted_in index task.request deed ≡ Some true →
    IsReading tag index us
reads_deed tag index us task (Sending blocks sent) found is e =
    let next = is_next (index == sent) (slice_get blocks index)
    (wanted_not (nat_lt index sent) (wanted_of (index == sent) (slice_get blocks index)) e) in
    record {
      task = task;
      found = found;
      blocks = blocks;
      deed = inl (is ∙ sym (ap (Sending blocks) (eqb-true index sent next.turn)));
      block = next.block;
      there = next.is;
      unread = next.unread;
    }
reads_deed tag index us task (ReadingArea pages) found is e =
    let both = wanted_while (keeps_pages task.request) (wanted_of true (slice_get pages index)) e in
    let next = is_next true (slice_get pages index) both.1 in
    record {
      task = task;
      found = found;
      blocks = pages;
      deed = inr (inl (is, both.0));
      block = next.block;
      there = next.is;
      unread = next.unread;
    }
reads_deed tag index us task (Comparing blocks compared asked) found is e =
    let next = is_next (index == compared) (slice_get blocks index)
    (wanted_not (nat_lt index compared) (wanted_of (index == compared) (slice_get blocks index)) e) in
    record {
      task = task;
      found = found;
      blocks = blocks;
      deed = inr (inr (
        asked,
        is ∙ sym (ap (λ (n : ℕ). Comparing blocks n asked) (eqb-true index compared next.turn)),
      ));
      block = next.block;
      there = next.is;
      unread = next.unread;
    }
reads_deed tag index us task (Gathering purpose gathered asked) found is e = absurd (none-some true e)
reads_deed tag index us task (SendingBytes bytes) found is e = absurd (none-some true e)
reads_deed tag index us task (Awaiting commands) found is e = absurd (none-some true e)
reads_deed tag index us task (Answering told carried) found is e = absurd (none-some true e)

-- what is wanted is a block of a task that was not read yet
pub is_reading : (tag index : ℕ) (us : List exchange.Task) (pins : List Pin) →
    wanted_kept pins tag index ≡ wanted_by index (task_of tag us) → wanted_kept pins tag index ≡ Some true →
    IsReading tag index us
is_reading tag index us pins kept waiting = by (task_of tag us) refl (sym kept ∙ waiting)
  where
    by : (o : Option exchange.Task) → task_of tag us ≡ o → wanted_by index o ≡ Some true → IsReading tag index us
    by None found e = absurd (none-some true e)
    by (Some task) found e = reads_deed tag index us task task.deed found refl e

-- Who brings frames

-- a read brings no frames
read_sends_in : (index : ℕ) (body : List ℕ) (a : OpenTask) (p : Phase) →
    is_sender (read_for index body a p) ≡ is_sender a
read_sends_in index body a (phase.ReadArea r) = refl
read_sends_in index body a (phase.Verify x) = refl
read_sends_in index body a (phase.AskBlock x) = refl
read_sends_in index body a (phase.AwaitBlock x) = refl
read_sends_in index body a (phase.Ask w) = refl
read_sends_in index body a (phase.Await w) = refl
read_sends_in index body a (phase.AwaitFrontier n size) = refl
read_sends_in index body a (phase.SendBlocks x) = refl
read_sends_in index body a (phase.SendHeld size) = refl
read_sends_in index body a (phase.Answer told n) = refl

pub read_sends : (tag index : ℕ) (body : List ℕ) (a : OpenTask) → is_sender (after_read tag index body a) ≡ is_sender a
read_sends tag index body a = by (a.tag == tag)
  where
    by : (b : Bool) → is_sender (if b then read_for index body a a.phase else a) ≡ is_sender a
    by true = read_sends_in index body a a.phase
    by false = refl

pub lost_sends : (tag index : ℕ) (a : OpenTask) → is_sender (after_lost_read tag index a) ≡ is_sender a
lost_sends tag index a = by (a.tag == tag)
  where
    by : (b : Bool) → is_sender (if b then task_after (event.BlockLost index) a else a) ≡ is_sender a
    by true = refl
    by false = refl

-- How the read ends for the tasks

-- a task of another tag, or the one that reads
module _ (before tag index : ℕ) (us : List exchange.Task) (differ : TasksDiffer us) (r : IsReading tag index us) where
  its_task : (k : ℕ) (b : exchange.Task) → slice_get us k ≡ Some b → is_task_of tag b ≡ true → r.task ≡ b
  its_task k b at is =
      same_Some r.task b
      (sym r.found ∙ (ap (λ (n : ℕ). task_of n us) (sym (eqb-true b.tag tag is)) ∙ found_task us k b differ at))

  its_deed : (k : ℕ) (b : exchange.Task) → slice_get us k ≡ Some b → is_task_of tag b ≡ true →
      IsReadFor index b r.blocks
  its_deed k b at is = subst (λ (x : exchange.Task). IsReadFor index x r.blocks) (its_task k b at is) r.deed

  -- the task of the tag, or another, on both sides
  ends_one : (f : OpenTask → OpenTask) (state : ReadState) (k : ℕ) (a : OpenTask) (b : exchange.Task) →
      slice_get us k ≡ Some b → TaskKept before a b →
      (IsReadFor index b r.blocks → TaskKept before (f a) (set_read index state b)) →
      TaskKept before (if a.tag == tag then f a else a) (task_read tag index state b)
  ends_one f state k a b at h this = by (is_task_of tag b) refl
    where
      by : (x : Bool) → is_task_of tag b ≡ x →
          TaskKept before (if a.tag == tag then f a else a) (if x then set_read index state b else b)
      by x is =
          subst (λ (y : Bool). TaskKept before (if y then f a else a) (if x then set_read index state b else b))
          (sym ((λ i. sym h.tag i == tag) ∙ is)) (then_kept x is)
        where
          then_kept : (x : Bool) → is_task_of tag b ≡ x →
              TaskKept before (if x then f a else a) (if x then set_read index state b else b)
          then_kept true is = this (its_deed k b at is)
          then_kept false is = h

  read_one : (body : List ℕ) → length body ≡ 4096 → body ≡ r.block.body → (k : ℕ) (a : OpenTask) (b : exchange.Task) →
      slice_get us k ≡ Some b → TaskKept before a b →
      TaskKept before (after_read tag index body a) (task_read tag index WasRead b)
  read_one body whole content k a b at h =
      ends_one (λ x. read_for index body x x.phase) WasRead k a b at h by
    where
      by : IsReadFor index b r.blocks → TaskKept before (read_for index body a a.phase) (set_read index WasRead b)
      by (inl deed) = block_read before index a b r.blocks r.block h deed r.there r.unread body content
      by (inr (inr deed)) =
          compared_read before index a b r.blocks r.block deed.0 h deed.1 r.there r.unread body content
      by (inr (inl deed)) = by_request (keeps_so b.request deed.1)
        where
          by_request : (b.request ≡ None) ⊎ (is_unfilled b.request ≡ true) →
              TaskKept before (read_for index body a a.phase) (set_read index WasRead b)
          by_request (inl none) = block_verified before index a b r.blocks r.block h deed.0 none r.there r.unread body
          by_request (inr unfilled) =
              page_read before index a b r.blocks r.block h deed.0 unfilled r.there body whole content

  -- both sides' tasks once the block was read
  pub tasks_read : (body : List ℕ) → length body ≡ 4096 → body ≡ r.block.body → (ts : List OpenTask) →
      TasksKept before ts us →
      TasksKept before (map (after_read tag index body) ts) (map (task_read tag index WasRead) us)
  tasks_read body whole content ts =
      each_changed before before (after_read tag index body) (task_read tag index WasRead) ts us
      (read_one body whole content)

  lost_one : (k : ℕ) (a : OpenTask) (b : exchange.Task) → slice_get us k ≡ Some b → TaskKept before a b →
      TaskKept before (after_lost_read tag index a) (task_read tag index NotRead b)
  lost_one k a b at h = ends_one (task_after (event.BlockLost index)) NotRead k a b at h by
    where
      by : IsReadFor index b r.blocks →
          TaskKept before (task_after (event.BlockLost index) a) (set_read index NotRead b)
      by (inl deed) = block_lost before index a b r.blocks r.block h deed r.there r.unread
      by (inr (inr deed)) = compared_lost before index a b r.blocks r.block deed.0 h deed.1 r.there r.unread
      by (inr (inl deed)) = by_request (keeps_so b.request deed.1)
        where
          by_request : (b.request ≡ None) ⊎ (is_unfilled b.request ≡ true) →
              TaskKept before (task_after (event.BlockLost index) a) (set_read index NotRead b)
          by_request (inl none) = block_unverified before index a b r.blocks r.block h deed.0 none r.there r.unread
          by_request (inr unfilled) = page_lost before index a b r.blocks r.block h deed.0 unfilled r.there

  -- both sides' tasks once it could not be read
  pub tasks_lost : (ts : List OpenTask) → TasksKept before ts us →
      TasksKept before (map (after_lost_read tag index) ts) (map (task_read tag index NotRead) us)
  tasks_lost ts = each_changed before before (after_lost_read tag index) (task_read tag index NotRead) ts us lost_one

-- What is kept for the task then

pub reads_one : (tag index : ℕ) (state : ReadState) → ChangesOne (task_read tag index state) tag
reads_one tag index state = record {
  tags = λ x. by x (is_task_of tag x);
  others = λ x e. ap (λ b. if b then set_read index state x else x) e;
}
  where
    by : (x : exchange.Task) (b : Bool) → (if b then set_read index state x else x).tag ≡ x.tag
    by x true = refl
    by x false = refl

-- what is wanted of one block is not any more, and of each other one as before
wanted_over : (tag index : ℕ) (pins : List Pin) (old new : ℕ → Option Bool) →
    ((k : ℕ) → wanted_kept pins tag k ≡ old k) → old index ≡ Some true → new index ≡ Some false →
    ((k : ℕ) → (k == index) ≡ false → new k ≡ old k) → (k : ℕ) →
    wanted_kept (map (with_wanted tag index false) pins) tag k ≡ new k
wanted_over tag index pins old new kept was over others k = by (k == index) refl
  where
    here : wanted_kept (map (with_wanted tag index false) pins) tag index ≡ new index
    here = want_set tag index false pins ∙ (ap (option_map (λ b. false)) (kept index ∙ was) ∙ sym over)

    by : (b : Bool) → (k == index) ≡ b → wanted_kept (map (with_wanted tag index false) pins) tag k ≡ new k
    by true e =
        subst (λ n. wanted_kept (map (with_wanted tag index false) pins) tag n ≡ new n) (sym (eqb-true k index e)) here
    by false e = want_other_index tag index false tag k pins e ∙ (kept k ∙ sym (others k e))

module _ (index : ℕ) (blocks : List ReadBlock) (block : ReadBlock) (state : ReadState)
    (there : slice_get blocks index ≡ Some block) where
  -- a block of another index stays
  else_stays : (k : ℕ) → (k == index) ≡ false →
      slice_get (with_block blocks index state (slice_get blocks index)) k ≡ slice_get blocks k
  else_stays k other =
      ap (λ o. slice_get (with_block blocks index state o) k) there
      ∙ set_other blocks index k (set_state state block)
      (λ same. false≢true (sym other ∙ (ap (λ (n : ℕ). n == index) same ∙ eq_self index)))

  block_now : slice_get (with_block blocks index state (slice_get blocks index)) index ≡ Some (set_state state block)
  block_now =
      ap (λ o. slice_get (with_block blocks index state o) index) there
      ∙ set_there blocks index block (set_state state block) there

  -- of a task that sends blocks, this one next; of one that compares them the same is wanted
  sending_wants : (pins : List Pin) (tag : ℕ) → block.state ≡ Unread → is_unread state ≡ false →
      ((k : ℕ) → wanted_kept pins tag k ≡ wanted_in k None (Sending blocks index)) → (k : ℕ) →
      wanted_kept (map (with_wanted tag index false) pins) tag k
      ≡ wanted_in k None (deed_read index state (Sending blocks index))
  sending_wants pins tag unread over kept =
      wanted_over tag index pins (λ k. wanted_in k None (Sending blocks index))
      (λ k. wanted_in k None (deed_read index state (Sending blocks index))) kept
      ((λ i. if first i then None else wanted_of (eq_self index i) (there i)) ∙ ap (λ x. Some (is_unread x)) unread)
      ((λ i. if first i then None else wanted_of (eq_self index i) (block_now i)) ∙ ap (λ b. Some b) over)
      (λ k other. ap (λ o. if nat_lt k index then None else wanted_of (k == index) o) (else_stays k other))
    where
      first : nat_lt index index ≡ false
      first = le-ltb index index (omega arith)

  -- of a task that reads pages
  area_wants : (pins : List Pin) (tag : ℕ) (request : Option RpmbRequest) → keeps_pages request ≡ true →
      block.state ≡ Unread → is_unread state ≡ false →
      ((k : ℕ) → wanted_kept pins tag k ≡ wanted_in k request (ReadingArea blocks)) → (k : ℕ) →
      wanted_kept (map (with_wanted tag index false) pins) tag k
      ≡ wanted_in k request (deed_read index state (ReadingArea blocks))
  area_wants pins tag request asks unread over kept =
      wanted_over tag index pins (λ k. wanted_in k request (ReadingArea blocks))
      (λ k. wanted_in k request (deed_read index state (ReadingArea blocks))) kept
      ((λ i. if asks i then wanted_of true (there i) else None) ∙ ap (λ x. Some (is_unread x)) unread)
      ((λ i. if asks i then wanted_of true (block_now i) else None) ∙ ap (λ b. Some b) over)
      (λ k other. ap (λ o. if keeps_pages request then wanted_of true o else None) (else_stays k other))

module _ (tag index : ℕ) (us : List exchange.Task) (r : IsReading tag index us) (state : ReadState) where
  -- the task, once the state of its block is set
  pub task_ended : task_read tag index state r.task ≡ set_read index state r.task
  task_ended =
      if_true (is_task_of tag r.task) (set_read index state r.task) r.task (found_is (is_task_of tag) us r.task r.found)

  -- its block is wanted no more, and no other one's turn comes
  pub wanted_then : is_unread state ≡ false → (pins : List Pin) →
      ((k : ℕ) → wanted_kept pins tag k ≡ wanted_by k (task_of tag us)) → (k : ℕ) →
      wanted_kept (map (with_wanted tag index false) pins) tag k
      ≡ wanted_in k r.task.request (deed_read index state r.task.deed)
  wanted_then over pins kept k = by r.deed
    where
      its : (i : ℕ) → wanted_kept pins tag i ≡ wanted_in i r.task.request r.task.deed
      its i = kept i ∙ ap (wanted_by i) r.found

      by : IsReadFor index r.task r.blocks →
          wanted_kept (map (with_wanted tag index false) pins) tag k
          ≡ wanted_in k r.task.request (deed_read index state r.task.deed)
      by (inl deed) =
          sending_wants index r.blocks r.block state r.there pins tag r.unread over
          (λ i. its i ∙ ap (wanted_in i r.task.request) deed) k
          ∙ sym (ap (λ x. wanted_in k r.task.request (deed_read index state x)) deed)
      by (inr (inr deed)) =
          sending_wants index r.blocks r.block state r.there pins tag r.unread over
          (λ i. its i ∙ ap (wanted_in i r.task.request) deed.1) k
          ∙ sym (ap (λ x. wanted_in k r.task.request (deed_read index state x)) deed.1)
      by (inr (inl deed)) =
          area_wants index r.blocks r.block state r.there pins tag r.task.request deed.1 r.unread over
          (λ i. its i ∙ ap (wanted_in i r.task.request) deed.0) k
          ∙ sym (ap (λ x. wanted_in k r.task.request (deed_read index state x)) deed.0)

  -- it has claimed no slot
  pub claims_none : (n : Numbers) → (claimed_in n r.task.length r.task.deed ≡ [])
      × (claimed_in n r.task.length (deed_read index state r.task.deed) ≡ [])
  claims_none n = by r.deed
    where
      by : IsReadFor index r.task r.blocks →
          (claimed_in n r.task.length r.task.deed ≡ [])
          × (claimed_in n r.task.length (deed_read index state r.task.deed) ≡ [])
      by (inl deed) = (
        ap (claimed_in n r.task.length) deed,
        ap (λ x. claimed_in n r.task.length (deed_read index state x)) deed,
      )
      by (inr (inl deed)) = (
        ap (claimed_in n r.task.length) deed.0,
        ap (λ x. claimed_in n r.task.length (deed_read index state x)) deed.0,
      )
      by (inr (inr deed)) = (
        ap (claimed_in n r.task.length) deed.1,
        ap (λ x. claimed_in n r.task.length (deed_read index state x)) deed.1,
      )
