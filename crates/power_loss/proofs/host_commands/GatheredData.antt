-- Data from the host: a task gathers them, and has all of them at last.
use Rattle.ufs_spec.specs.Exchanges.{Comparing}
use Rattle.ufs_spec.specs.Exchanges.{ReadBlock, is_task_of}
use Rattle.ufs_spec.specs.DataOuts.{block_compared}
use Rattle.ufs_spec.specs.Rpmb.{same_bytes}
use Rattle.ufs_spec.proofs.Facts.{if_cases}
use Rattle.std.specs.Prelude.{slice_get}
use Rattle.power_loss.proofs.Common.{ap}
use Rattle.power_loss.proofs.books.SmallFacts.{eq_told}
use Rattle.power_loss.proofs.open_tasks.FoundInLists.{found_is}
use Rattle.ufs_spec.specs.Exchanges.{to_gather}
use Rattle.ufs_spec.specs.Plain.{region_of, regions}
use Rattle.power_loss.proofs.Common.{Bool, List, None, Numbers, Option, Some, arith, below, false, is_mended, length}
use Rattle.power_loss.proofs.Common.{ltb-true, nat_lt, refl, sym, true, ℕ, ◌++◌, ◌+◌, ◌<◌, ◌∙◌, ◌∷◌, ◌≡◌, ◌≤◌}
use Rattle.power_loss.proofs.MachineWords.{Answering, AreBytes, Awaiting, Command, Deed, DeedFits, ForFrames, ForUnmap}
use Rattle.power_loss.proofs.MachineWords.{ForWrite, Gathering, Good, IsTied, Purpose, ReadingArea, State, Status, Task}
use Rattle.power_loss.proofs.MachineWords.{asked_fault, claim_of, claimed_by, complete, data_for, data_heard}
use Rattle.power_loss.proofs.MachineWords.{is_asked_in, is_asked_of, locked, numbers_of, plain_now, set_deed, task_of}
use Rattle.power_loss.proofs.MachineWords.{with_moves, write_deed}
use Rattle.std.specs.Prelude.{if◌then◌else◌}
use Rattle.ufs_spec.specs.Changes.{given_back}
use Rattle.ufs_spec.specs.FrameRequests.{area_read, first_page, keeps_area, page_kept, pages_named, requested}
use Rattle.ufs_spec.specs.Frames.{Frame}
use Rattle.ufs_spec.specs.Keys.{area_key}
use Rattle.ufs_spec.specs.Machine.{gathered_more}
use Rattle.ufs_laws.proofs.walk.Happenings.{is_asked as no_offence}
use Rattle.ufs_laws.proofs.walk.SmallChanges.{Both, One, SetsRegisters, Still}
use Rattle.ufs_laws.proofs.walk.WaysOfData.{Accepted, AcceptsFrames, Completion, HasResult, IsAccepted}
use Rattle.ufs_laws.proofs.walk.WaysOfData.{IsReleased, ReadsArea, Told, WhyCompleted, completed, completes_by}
use Rattle.power_loss.proofs.calls.RightChanges.{Right, right_keeps}
use Rattle.power_loss.specs.WaitingFrames.{AsksInside}
use Rattle.power_loss.proofs.host_commands.AcceptedCommands.{accept_right, release_right}
use Rattle.power_loss.proofs.host_commands.AcceptedCommands.{request_accepted, request_kept}
use Rattle.power_loss.proofs.host_commands.HandedOutReplies.{FitsIn, claim_same, differs_right, same_right, set_right}
use Rattle.power_loss.proofs.host_commands.ReadBlocks.{pins_right}
use Rattle.power_loss.proofs.host_commands.WriteData.{MayAccept, write_coming}
use Rattle.power_loss.proofs.open_tasks.TaskLists.{frames_more, unmap_more, write_more}
use Rattle.power_loss.proofs.host_commands.GatheringTasks.{GathersIn, HasAll, HasMore, all_there, gathers_in}
use Rattle.power_loss.proofs.host_commands.GatheringTasks.{more_there, no_more}
use Rattle.power_loss.proofs.host_commands.ListsAndFrames.{frames_came, frames_coming, keys_of_area, reads_inside}
use Rattle.power_loss.proofs.host_commands.ListsAndFrames.{unmap_coming}

module _ {s : State} {task : Task} (region : ℕ) (v : IsTied s) (there : task_of task.tag s.tasks ≡ Some task)
    (has : claim_of (numbers_of s) task ≤ s.translation.claims) where
  result_right : (frames : List Frame) (result : ℕ) →
      Right s (requested (given_back s task) task region frames result (Answering Good task.length))
  result_right frames result =
      let kept = request_kept (claim_of (numbers_of s) task) v there refl has
      (record { region = region; frames = frames; result = result; filled = false }) (Answering Good task.length) tt
      refl
      in
      Both kept (One (SetsRegisters
      (requested (given_back s task) task region frames result (Answering Good task.length)).registers)
      (record { small = tt; layer = tt; tasks = (right_keeps kept v).tasks }))

  reads_right : (f : Frame) (fs : List Frame) (result : ℕ) → region < regions →
      AsksInside (length (region_of (plain_now s) region).area) f →
      Right s (requested (with_moves (given_back s task) (keeps_area s task.tag region f)) task region (f ∷ fs) result
      (ReadingArea (area_read s region f)))
  reads_right f fs result inside room =
      let kept = request_kept (claim_of (numbers_of s) task) v there refl has
      (record { region = region; frames = f ∷ fs; result = result; filled = false })
      (ReadingArea (area_read s region f)) tt refl in
      let tied = right_keeps kept v in
      let pins = pins_right (λ i. area_key region (first_page f + i)) (page_kept s task.tag region f)
      (below (pages_named f)) tied refl refl refl (keys_of_area region f v inside room) (λ i. refl) in
      Both kept (Both pins (One (SetsRegisters
      (requested (with_moves (given_back s task) (keeps_area s task.tag region f)) task region (f ∷ fs) result
      (ReadingArea (area_read s region f))).registers)
      (record { small = tt; layer = tt; tasks = (right_keeps pins tied).tasks })))

-- All data are there

-- what a WRITE does behind it claims nothing
write_claims : (n : Numbers) (task : Task) (forced : Bool) (position : ℕ) →
    claimed_by n (write_deed forced position task.length) task.command ≡ 0
write_claims n task true position = refl
write_claims n task false position = refl

write_answers : (s : State) (task : Task) (forced : Bool) → is_mended s.translation.work.mending ≡ true →
    DeedFits (numbers_of s) (length s.accepted + 1) (is_mended s.translation.work.mending)
    (claimed_by (numbers_of s) (write_deed forced (length s.accepted + 1) task.length) task.command) task.length
    (write_deed forced (length s.accepted + 1) task.length)
write_answers s task true m = (omega arith, m)
write_answers s task false m = tt

module _ {s : State} {task : Task} (v : IsTied s) where
  write_may : (unit address blocks : ℕ) {forced : Bool} {gathered : List ℕ} {asked : Bool} (all : List ℕ) →
      GathersIn s task (ForWrite unit address blocks forced) gathered asked → HasAll task (ForWrite unit address blocks forced) gathered all →
      MayAccept s task unit address blocks all
  write_may unit address blocks all g whole =
      let h = g.fits in
      let claim = g.claim in
      let few = g.few in
      let claimed = h.claimed_is in
      let all_there = whole.long h.short in
      record {
        there = g.there;
        claim = claim ∙ h.claimed_is;
        few = omega arith;
        unit_in = h.unit_in;
        some = h.some;
        not_long = h.not_long;
        within = h.within;
        long = omega arith;
        are_bytes = whole.are_bytes h.bytes;
        mended = h.is_mended;
      }

  -- what is given back is what was claimed
  is_claim : (purpose : Purpose) {gathered : List ℕ} {asked : Bool} (released : ℕ) →
      GathersIn s task purpose gathered asked → IsReleased s task purpose released →
      claim_of (numbers_of s) task ≡ released
  is_claim (ForWrite unit address blocks forced) released g is = g.claim ∙ (g.fits.claimed_is ∙ sym is)
  is_claim (ForUnmap unit) released g is = sym is
  is_claim (ForFrames region) released g is = sym is

  told_right : (purpose : Purpose) {gathered : List ℕ} {asked : Bool} (status : Status) (released : ℕ) →
      GathersIn s task purpose gathered asked → IsReleased s task purpose released →
      Right s (completed s task (Told status released))
  told_right purpose status released g is =
      let claim = is_claim purpose released g is in
      let few = g.few in
      release_right released v g.there claim (omega arith) status

  accepted_right : (purpose : Purpose) {gathered : List ℕ} {asked : Bool} (all : List ℕ) (c : Command) (claimed : ℕ)
      (deed : Deed) → GathersIn s task purpose gathered asked → HasAll task purpose gathered all → locked s ≡ false →
      IsAccepted s task purpose all c claimed deed → Right s (completed s task (Accepted c claimed deed))
  accepted_right (ForWrite unit address blocks forced) all c claimed deed g whole free (c_is, claimed_is, deed_is) =
      let may = write_may unit address blocks all g whole in
      rw (c_is, claimed_is, deed_is) (accept_right blocks v g.there
      (write_coming s task unit address blocks all v may free) may.claim may.few
      (write_deed forced (length s.accepted + 1) task.length) (write_answers s task forced may.mended)
      (write_claims (numbers_of s) task forced (length s.accepted + 1)))
  accepted_right (ForUnmap unit) all c claimed deed g whole free (c_is, claimed_is, deed_is, right) =
      rw (c_is, claimed_is, deed_is) (accept_right (claim_of (numbers_of s) task) v g.there
      (unmap_coming all v g whole right free) refl g.few (Answering Good task.length) tt refl)
  accepted_right (ForFrames region) all c claimed deed g whole free is = absurd is

  completes : (purpose : Purpose) {gathered : List ℕ} {asked : Bool} (all : List ℕ) →
      GathersIn s task purpose gathered asked → HasAll task purpose gathered all → Right s (complete s task purpose all)
  completes purpose {gathered} {asked} all g whole = completes_by (Right s) s task purpose all one
    where
      one : (k : Completion) → WhyCompleted s task purpose all k → Right s (completed s task k)
      one (Told status released) why = told_right purpose status released g why.1
      one (Accepted c claimed deed) why = accepted_right purpose all c claimed deed g whole why.0 why.1
      one (HasResult region fs result) d = result_right region v g.there g.few fs result
      one (ReadsArea region f fs result) (d, reads) =
          reads_right region v g.there g.few f fs result (frames_came g (no_more whole) d).region_in.0 (reads_inside d
          reads)
      one (AcceptsFrames region fs result c) d =
          let there = frames_came g (no_more whole) d in
          request_accepted (claim_of (numbers_of s) task) v g.there (frames_coming v there d.decided) refl g.few
          region fs
          result (Awaiting (length s.accepted + 1)) (omega arith, (frames_coming v there d.decided).is_mended) refl

-- Data

more_fits : (s : State) (task : Task) (purpose : Purpose) (gathered : List ℕ) (asked : Bool) (all : List ℕ) →
    FitsIn s task (Gathering purpose gathered asked) → length all < to_gather purpose task.length → (AreBytes gathered → AreBytes all) →
    FitsIn s task (Gathering purpose all false)
more_fits s task (ForWrite unit address blocks forced) gathered asked all h l is = write_more (λ k. k) l is
    (claim_same (numbers_of s) (ForWrite unit address blocks forced) (ForWrite unit address blocks forced)
    all gathered false asked task.command) h
more_fits s task (ForUnmap unit) gathered asked all h l is = unmap_more (λ k. k) l is
    (claim_same (numbers_of s) (ForUnmap unit) (ForUnmap unit) all gathered false asked task.command) h
more_fits s task (ForFrames region) gathered asked all h l is = frames_more l is
    (claim_same (numbers_of s) (ForFrames region) (ForFrames region) all gathered false asked task.command) h

gathers : {s : State} {task : Task} {purpose : Purpose} {gathered : List ℕ} {asked : Bool} (all : List ℕ) → IsTied s →
    GathersIn s task purpose gathered asked → HasMore task purpose gathered all → Right s (gathered_more s task purpose all)
gathers {s} {task} {purpose} {gathered} {asked} all v g more = by (nat_lt (length all) (to_gather purpose task.length)) refl
  where
    by : (b : Bool) → nat_lt (length all) (to_gather purpose task.length) ≡ b →
        Right s (if b then set_deed s task.tag (Gathering purpose all false) else complete s task purpose all)
    by true e =
        let claim = g.claim in
        let same = claim_same (numbers_of s) purpose purpose all gathered false asked task.command in
        set_right (Gathering purpose all false) v g.there
        (more_fits s task purpose gathered asked all g.fits (ltb-true (length all) (to_gather purpose task.length) e) more.are_bytes)
        (omega arith)
    by false e = completes v purpose all g (all_there more e)

compared_right : {s : State} {task : Task} (blocks : List ReadBlock) (compared : ℕ) (o : Option ReadBlock)
    (bytes : List ℕ) → IsTied s → task_of task.tag s.tasks ≡ Some task →
    Right s (block_compared s task blocks compared o bytes)
compared_right blocks compared None bytes v there = Still
compared_right {s} blocks compared (Some block) bytes v there =
    if_cases (Right s) (same_bytes bytes block.body) (λ same. same_right blocks compared v there)
    (λ other. differs_right compared v there)

data_for_right : {s : State} {task : Task} (tag : ℕ) (deed : Deed) (lun offset : ℕ) (bytes : List ℕ) → IsTied s →
    task_of tag s.tasks ≡ Some task → task.deed ≡ deed →
    is_asked_in task lun offset (length bytes) deed ≡ true → AreBytes bytes → Right s (data_for s task deed bytes)
data_for_right {s} {task} tag (Gathering purpose gathered asked) lun offset bytes v e deed is_asked is =
    gathers (gathered ++ bytes) v (gathers_in tag v e deed)
    (more_there task purpose gathered bytes asked lun offset is_asked is)
data_for_right {s} {task} tag (Comparing blocks compared asked) lun offset bytes v e same is_asked is =
    let own : task.tag ≡ tag = eq_told task.tag tag (found_is (is_task_of tag) s.tasks task e) in
    compared_right blocks compared (slice_get blocks compared) bytes v (ap (λ (n : ℕ). task_of n s.tasks) own ∙ e)
data_for_right tag deed lun offset bytes v e same is_asked is = Still

pub data_right : {s : State} (lun tag offset : ℕ) (bytes : List ℕ) → IsTied s →
    asked_fault (is_asked_of (task_of tag s.tasks) lun offset (length bytes)) ≡ None → AreBytes bytes →
    Right s (data_heard s (task_of tag s.tasks) bytes)
data_right {s} lun tag offset bytes v h is =
    by (task_of tag s.tasks) refl (no_offence (is_asked_of (task_of tag s.tasks) lun offset (length bytes)) h)
  where
    by : (x : Option Task) → task_of tag s.tasks ≡ x → is_asked_of x lun offset (length bytes) ≡ true →
        Right s (data_heard s x bytes)
    by None e asked = Still
    by (Some task) e asked = data_for_right tag task.deed lun offset bytes v e refl asked is
