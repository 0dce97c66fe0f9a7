-- A WRITE that gathers its blocks: what is kept of it and of the other tasks once it does something else, or has one
-- block more.
use Rattle.device.proofs.Common.{AreClaimed, Bool, Claims, ComesSo, Core, Deed, DeedFits, Describes, DeviceCore}
use Rattle.device.proofs.Common.{ForWrite, FramesFit, Gathering, IsDoing, IsFor, List, None, OneSends, Option, Phase}
use Rattle.device.proofs.Common.{Purpose, RpmbRequest, Some, State, TaskEvent, TasksKept, Wanted, ap, arith}
use Rattle.device.proofs.Common.{before_accepted, block_after, blocks_gathered, claim_of, claimed_by, claimed_in}
use Rattle.device.proofs.Common.{claims_of, found_fits, frames_after, frames_for, gathers_for, is_mended, length, map}
use Rattle.device.proofs.Common.{numbers_of, phase_after, read_in, refl, slice_get, slice_set, subst, sym}
use Rattle.device.proofs.Common.{task_happened, task_of, true, wanted_block, wanted_by, wanted_in, with_block}
use Rattle.device.proofs.Common.{with_claimed, with_deed, with_event, ℕ, ◌%◌, ◌*◌, ◌++◌, ◌/◌, ◌<◌, ◌∙◌, ◌≡◌, ◌≤◌}
use Rattle.power_loss.specs.Exchange.{WriteFits}
use Rattle.ufs_spec.proofs.ConfigFacts.{command_blocks-few}
use Rattle.device.proofs.open_tasks.WantedData.{Gathers}
use Rattle.task_set.specs.declared.frames.Frames.TheVariants as frames
use Rattle.task_set.specs.declared.tasks.Phase.TheVariants as phase
use Rattle.device.proofs.due_replies.ReplyMoves.{happened_sends, happened_to, none_asked}
use Rattle.device.proofs.host_messages.SlotsFilled.{next_filled}
use Rattle.device.proofs.open_tasks.KeptByTag.{WantedForAll, claims_set, deed_changed}
use Rattle.device.proofs.open_tasks.OpenTasks.{Stands}

-- the task gathers the data of these blocks, and so many came
pub record GathersBlocks (w : Wanted) (total : ℕ) (deed : Deed) : Type 0 where
  pub unit : ℕ
  pub address : ℕ
  pub blocks : ℕ
  pub forced : Bool
  pub count : ℕ
  pub gathered : List ℕ
  pub purpose_is : w.purpose ≡ ForWrite unit address blocks forced
  pub deed_is : deed ≡ Gathering (ForWrite unit address blocks forced) gathered true
  pub came : length gathered ≡ 4096 * count
  pub came_is : w.came ≡ 4096 * count
  pub more : count < blocks
  pub size_is : total ≡ w.length

abbrev pub gathers_blocks : (unit address blocks : ℕ) (forced : Bool) (w : Wanted) (total : ℕ) (deed : Deed) →
    w.purpose ≡ ForWrite unit address blocks forced → Gathers w total deed →
    ComesSo (ForWrite unit address blocks forced) w.came w.length → GathersBlocks w total deed
gathers_blocks unit address blocks forced w total deed is g so = record {
  unit = unit;
  address = address;
  blocks = blocks;
  forced = forced;
  count = so.0;
  gathered = g.gathered;
  purpose_is = is;
  deed_is = g.deed_is ∙ ap (λ (p : Purpose). Gathering p g.gathered true) is;
  came = g.came ∙ so.1;
  came_is = so.1;
  more = so.2;
  size_is = g.total_is;
}

-- nothing is kept for a task that sends no block, whatever its request is
pub record SendsNone (deed : Deed) : Type 0 where
  pub wanted : (index : ℕ) (request : Option RpmbRequest) → wanted_in index request deed ≡ None
  pub read : read_in deed ≡ None

-- this happened to the task at this position, over the layer as it is then
abbrev pub core_then : DeviceCore → ℕ → Core → TaskEvent → DeviceCore
core_then d k after e = record (with_event d k e) { ftl = after }

module _ (d : DeviceCore) (s : State) (tag : ℕ) (w : Wanted) (h : Describes d s)
    (r : Stands (before_accepted s.translation.ledger) tag d.tasks s.tasks) (at : r.a.phase ≡ phase.Await w)
    (g : GathersBlocks w r.b.length r.b.deed) where
  -- it brings no frames
  pub frames_are : r.a.frames ≡ frames_for w.purpose
  frames_are = subst (λ (p : Phase). FramesFit p r.a.frames r.a.held r.b.deed) at r.opened.kept.fits

  none_brought : r.a.frames ≡ frames.NotBrought
  none_brought = frames_are ∙ ap frames_for g.purpose_is

  -- it does something else from now on, and keeps its block
  pub does : (e : TaskEvent) (deed : Deed) →
      IsDoing (before_accepted s.translation.ledger) r.a.expected r.b.length (phase_after (phase.Await w) e) deed →
      frames_after r.a.frames e ≡ r.a.frames →
      FramesFit (phase_after (phase.Await w) e) r.a.frames r.a.held deed → IsFor r.a.region (gathers_for deed) →
      block_after e (phase.Await w) r.a.block ≡ r.a.block → read_in r.b.deed ≡ read_in deed →
      TasksKept (before_accepted s.translation.ledger) (task_happened d.tasks r.k e (slice_get d.tasks r.k))
      (map (with_deed r.b.tag deed) s.tasks)
  does e deed doing still fits region stays read =
      happened_to d s r.k r.a r.b h r.opened e (phase.Await w) deed at doing still fits region
      (none_asked d s r.k r.a r.b h r.opened none_brought) (stays ∙ (r.opened.kept.read ∙ read))

  pub sends_once : (e : TaskEvent) → frames_after r.a.frames e ≡ r.a.frames →
      OneSends (task_happened d.tasks r.k e (slice_get d.tasks r.k))
  sends_once e still = happened_sends d s r.k r.a r.b h r.opened e still

  pub found : task_of r.b.tag s.tasks ≡ Some r.b
  found = ap (λ (n : ℕ). task_of n s.tasks) r.tag_is ∙ r.found

  pub fits : WriteFits (numbers_of s) (is_mended s.translation.work.mending) g.unit g.address g.blocks
      g.gathered (claim_of (numbers_of s) r.b)
  fits =
      subst (DeedFits (numbers_of s) (length s.accepted) (is_mended s.translation.work.mending)
      (claim_of (numbers_of s) r.b) r.b.length) g.deed_is
      (found_fits (numbers_of s) (length s.accepted) (is_mended s.translation.work.mending) tag s.tasks r.b
      h.tied.tasks.deeds r.found).0

  -- its slots are among those that are claimed
  pub slots_few : g.blocks ≤ s.translation.claims
  slots_few =
      let in_tasks = (found_fits (numbers_of s) (length s.accepted) (is_mended s.translation.work.mending) tag s.tasks
      r.b h.tied.tasks.deeds r.found).2 in
      let its = fits.claimed_is in
      let claimed = h.tied.tasks.claimed in
      omega arith

  pub still_wanted : (deed : Deed) → SendsNone deed →
      WantedForAll s.translation.pins (map (with_deed r.b.tag deed) s.tasks)
  still_wanted deed none =
      deed_changed s.translation.pins s.translation.pins s.tasks r.b.tag r.b deed h.kept.wanted found
      (λ index.
      h.kept.wanted r.b.tag index
      ∙ (ap (wanted_by index) found
      ∙ (ap (wanted_in index r.b.request) g.deed_is ∙ sym (none.wanted index r.b.request))))
      (λ n other index. refl)

  -- the claims where its tag has claimed these blocks
  abbrev claiming : List (List ℕ) → Claims
  claiming = with_claimed (claims_of (numbers_of s) s.tasks) r.b.tag

  pub its_claims : (after : Core) (deed : Deed) (blocks : List (List ℕ)) → claimed_in (numbers_of s) r.b.length deed ≡ blocks →
      AreClaimed after (claiming blocks) → AreClaimed after (claims_of (numbers_of s) (map (with_deed r.b.tag deed) s.tasks))
  its_claims after deed blocks is =
      subst (AreClaimed after) (sym (claims_set (numbers_of s) s.tasks r.b.tag r.b deed found ∙ ap claiming is))

  -- the index of the block that came
  index_is : wanted_block w ≡ g.count
  index_is = ap (λ (n : ℕ). (n / 4096) % 65536) g.came_is
      ∙ cut g.count (let more = g.more in let few = fits.not_long in let most = command_blocks-few (numbers_of s) in
      omega arith)
    where
      cut : (n : ℕ) → n < 65536 → ((4096 * n) / 4096) % 65536 ≡ n
      cut n few = omega arith

  -- a block that came lies in its slot
  pub slots_filled : (bytes : List ℕ) → length bytes ≡ 4096 →
      with_block (claims_of (numbers_of s) s.tasks) r.b.tag (wanted_block w) bytes
      ≡ claiming (blocks_gathered g.blocks (g.gathered ++ bytes))
  slots_filled bytes long =
      ap (λ n. with_block (claims_of (numbers_of s) s.tasks) r.b.tag n bytes) index_is
      ∙ (ap (λ blocks. claiming (slice_set blocks g.count bytes))
      (ap (claimed_by (numbers_of s)) found ∙ ap (claimed_in (numbers_of s) r.b.length) g.deed_is)
      ∙ ap claiming (next_filled g.blocks g.count g.gathered bytes g.more g.came long))
