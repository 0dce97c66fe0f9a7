-- What holds of what a task does holds of what it does next: behind a reply, at a lock, and where a block was read.
use Rattle.ufs_laws.proofs.Common.{Answering, Awaiting, Bool, Comparing, Deed, Every, Gathering, Good, List, None, NotRead, Option}
use Rattle.ufs_laws.proofs.Common.{Purpose, ReadBlock, ReadState, ReadingArea, RpmbRequest, Sending, SendingBytes, Some}
use Rattle.ufs_laws.proofs.Common.{State, Task, deed_after, deed_locked, durable, filled, if_both, if_cases, is_task_of}
use Rattle.ufs_laws.proofs.Common.{is_to_fill, length, map, nat_le, nat_lt, none-some, same_Some, slice_get, subst}
use Rattle.ufs_laws.proofs.Common.{task_filled, task_read, true, with_block, with_deed, with_request, write_error, ℕ}
use Rattle.ufs_laws.proofs.Common.{◌+◌, ◌≡◌}
use Rattle.ufs_laws.proofs.walk.TaskLaws.{every_mapped}
use Rattle.ufs_spec.specs.Machine.{deed_after_asked, deed_after_block, deed_after_compare, deed_after_sent, deed_after_state, deed_read}

-- a law of what the task does
pub record IsDeedLaw (D : Deed → Type 0) (task : Task) : Type 0 where
  pub asked : (purpose : Purpose) (gathered : List ℕ) (was : Bool) → D (Gathering purpose gathered was) →
      D (Gathering purpose gathered true)
  pub next : (blocks : List ReadBlock) (sent : ℕ) → nat_lt (sent + 1) (length blocks) ≡ true → D (Sending blocks sent) →
      D (Sending blocks (sent + 1))
  pub sent : D (Answering Good task.length)
  pub fails : D (Answering write_error task.length)
  pub read : (blocks : List ReadBlock) (sent index : ℕ) (state : ReadState) → D (Sending blocks sent) →
      D (Sending (with_block blocks index state (slice_get blocks index)) sent)
  pub page : (pages : List ReadBlock) (index : ℕ) (state : ReadState) → D (ReadingArea pages) →
      D (ReadingArea (with_block pages index state (slice_get pages index)))
  pub compares : (blocks : List ReadBlock) (compared : ℕ) (was : Bool) → D (Comparing blocks compared was) →
      D (Comparing blocks compared true)
  pub found : (blocks : List ReadBlock) (compared : ℕ) (was : Bool) (index : ℕ) (state : ReadState) →
      D (Comparing blocks compared was) →
      D (Comparing (with_block blocks index state (slice_get blocks index)) compared was)

module _ (D : Deed → Type 0) (task : Task) (law : IsDeedLaw D task) where
  state_after : (blocks : List ReadBlock) (sent : ℕ) (state : ReadState) (deed : Deed) → D (Sending blocks sent) →
      deed_after_state task blocks sent state ≡ Some deed → D deed
  state_after blocks sent NotRead deed d e = absurd (none-some deed e)
  state_after blocks sent state deed d e =
      subst D (same_Some (deed_after_sent task blocks sent) deed e)
      (if_cases D (nat_lt (sent + 1) (length blocks)) (λ more. law.next blocks sent more d) (λ last. law.sent))

  block_behind : (blocks : List ReadBlock) (sent : ℕ) (block : Option ReadBlock) (deed : Deed) →
      D (Sending blocks sent) →
      deed_after_block task blocks sent block ≡ Some deed → D deed
  block_behind blocks sent None deed d e = absurd (none-some deed e)
  block_behind blocks sent (Some block) deed d e = state_after blocks sent block.state deed d e

  asked_behind : (blocks : List ReadBlock) (compared : ℕ) (was : Bool) (state : ReadState) (deed : Deed) →
      D (Comparing blocks compared was) → deed_after_asked blocks compared state ≡ Some deed → D deed
  asked_behind blocks compared was NotRead deed d e = absurd (none-some deed e)
  asked_behind blocks compared was state deed d e =
      subst D (same_Some (Comparing blocks compared true) deed e) (law.compares blocks compared was d)

  compare_behind : (blocks : List ReadBlock) (compared : ℕ) (was : Bool) (block : Option ReadBlock) (deed : Deed) →
      D (Comparing blocks compared was) → deed_after_compare blocks compared block ≡ Some deed → D deed
  compare_behind blocks compared was None deed d e = absurd (none-some deed e)
  compare_behind blocks compared was (Some block) deed d e = asked_behind blocks compared was block.state deed d e

  pub goes : (before deed : Deed) → D before → deed_after task before ≡ Some deed → D deed
  goes (Gathering purpose gathered was) deed d e =
      subst D (same_Some (Gathering purpose gathered true) deed e) (law.asked purpose gathered was d)
  goes (Sending blocks sent) deed d e = block_behind blocks sent (slice_get blocks sent) deed d e
  goes (SendingBytes bytes) deed d e = subst D (same_Some (Answering Good task.length) deed e) law.sent
  goes (Comparing blocks compared was) deed d e =
      compare_behind blocks compared was (slice_get blocks compared) deed d e
  goes before deed d e = absurd (none-some deed e)

  pub locks : (u : State) (deed : Deed) → D deed → D (deed_locked u task deed)
  locks u (Awaiting commands) d = if_both D (nat_le commands (durable u)) d law.fails
  locks u deed d = d

  pub reads : (index : ℕ) (state : ReadState) (deed : Deed) → D deed → D (deed_read index state deed)
  reads index state (Sending blocks sent) d = law.read blocks sent index state d
  reads index state (ReadingArea pages) d = law.page pages index state d
  reads index state (Comparing blocks compared was) d = law.found blocks compared was index state d
  reads index state deed d = d

-- Tasks

-- a register that is filled
pub filled_keeps : (P : Task → Type 0) (u : State) (task : Task) → P (record task { request = filled task.request }) →
    P task → P (task_filled u task)
filled_keeps P u task filled h = if_both P (is_to_fill u task) filled h

-- a block that was read
pub read_keeps : (P : Task → Type 0) (tag index : ℕ) (state : ReadState) (task : Task) →
    P (record task { deed = deed_read index state task.deed }) → P task → P (task_read tag index state task)
read_keeps P tag index state task read h = if_both P (is_task_of tag task) read h

-- one task's new deed
pub set_keeps : (P : Task → Type 0) (tag : ℕ) (deed : Deed) (tasks : List Task) →
    ((task : Task) → is_task_of tag task ≡ true → P task → P (record task { deed = deed })) → Every P tasks → Every P
    (map (with_deed tag deed) tasks)
set_keeps P tag deed tasks set =
    every_mapped P (with_deed tag deed) (λ task h. if_cases P (is_task_of tag task) (λ is. set task is h) (λ other. h))
    tasks

-- one task's request, and its new deed
pub set_request_keeps : (P : Task → Type 0) (tag : ℕ) (request : RpmbRequest) (deed : Deed) (tasks : List Task) →
    ((task : Task) → is_task_of tag task ≡ true → P task → P (record task { deed = deed; request = Some request })) →
    Every P tasks → Every P (map (with_request tag request deed) tasks)
set_request_keeps P tag request deed tasks set =
    every_mapped P (with_request tag request deed)
    (λ task h. if_cases P (is_task_of tag task) (λ is. set task is h) (λ other. h)) tasks
