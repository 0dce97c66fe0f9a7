-- All data of an UNMAP and of frames: what is accepted of them may come, and the pages of a request for data are keys.
use Rattle.power_loss.proofs.Common.{All, Bool, IsArea, IsKey, List, None, Numbers, Option, Shape, Some, and_parts}
use Rattle.power_loss.proofs.Common.{arith, below, data_key, eqb-true, false, false≢true, get_or, get_or-map, inl, inr}
use Rattle.power_loss.proofs.Common.{length, length-map, ltb-false, not, not-false, or_parts, shape_of}
use Rattle.power_loss.proofs.Common.{shape_of_numbers, slice_get-get_or, subst, sym, true, ℕ, ◌+◌, ◌<◌, ◌==◌, ◌∙◌, ◌∷◌}
use Rattle.power_loss.proofs.Common.{◌≡◌, ◌≢◌, ◌≤◌, ◌⊎◌}
use Rattle.power_loss.proofs.MachineWords.{Command, ForFrames, ForUnmap, Gathering, IsTied, Purpose, State, Task}
use Rattle.power_loss.proofs.MachineWords.{UnitSpec, claim_of, claimed_by, locked, numbers_of, plain_now}
use Rattle.std.specs.Prelude.{◌/◌}
use Rattle.ufs_bytes.specs.Fields.{field_at}
use Rattle.ufs_spec.specs.Commands as command
use Rattle.ufs_spec.specs.Configs.{command_blocks}
use Rattle.ufs_spec.specs.DataOuts.{is_past_unit}
use Rattle.ufs_spec.specs.FrameRequests.{first_page, pages_named, reads_area}
use Rattle.ufs_spec.specs.Frames.{Frame, IsFrame, frames_in}
use Rattle.ufs_spec.specs.Keys.{area_key, region_pages}
use Rattle.ufs_spec.specs.Plain.{HasRegion, greatest_command, regions, shape_of_numbers}
use Rattle.ufs_spec.specs.Refusals.{unit_numbers_at, accepts_nothing, mended}
use Rattle.ufs_spec.proofs.RegionPages.{pages_held}
use Rattle.ufs_laws.proofs.plain_contents.CommandsKeepPlain.{its_region}
use Rattle.ufs_spec.specs.Rpmb.{Results, read_data, region_of, rpmb_outcome}
use Rattle.ufs_spec.specs.RpmbResponses.{is_success}
use Rattle.ufs_spec.proofs.ConfigFacts.{command_blocks-few, command_blocks-some}
use Rattle.ufs_spec.proofs.Facts.{eq-eqb, eqb-false}
use Rattle.power_loss.specs.Exchange.{FramesFit}
use Rattle.ufs_laws.proofs.plain_contents.ListParts.{length-below}
use Rattle.ufs_laws.proofs.rpmb_frames.FramesRead.{first_frames, length-frames_in}
use Rattle.ufs_laws.proofs.walk.WaysOfData.{IsDecided, IsRightList}
use Rattle.power_loss.specs.WaitingFrames.{AsksInside}
use Rattle.power_loss.proofs.commands.RequestedCommands.{data_in_area, frames_requested}
use Rattle.power_loss.proofs.host_commands.AcceptedCommands.{IsComing, plain_tied, shape_tied}
use Rattle.power_loss.proofs.ordered_lists.ElementsAndOrders.{all_below}
use Rattle.std.proofs.lemmas.List.Elements.{All-weaker}
use Rattle.power_loss.proofs.host_commands.GatheringTasks.{GathersIn, HasAll, HasMore}

-- UNMAP

-- the blocks of a descriptor lie in the unit
unit_room : (n : Numbers) (unit : ℕ) (list : List ℕ) → unit < length n.units.items →
    is_past_unit list (unit_numbers_at n (Some unit)) ≡ false →
    (unit < length (shape_of_numbers n).blocks)
    × (field_at 8 8 list + field_at 4 16 list ≤ get_or (shape_of_numbers n).blocks unit 0)
unit_room n unit list there within =
    let units = n.units.items in
    let none : UnitSpec = record { blocks = 0; boot = 0; protect = 0 } in
    let spec = slice_get-get_or units unit none there in
    let past = subst (λ (u : Option UnitSpec). is_past_unit list u ≡ false) spec within in
    let bound = ltb-false (get_or units unit none).blocks (field_at 8 8 list + field_at 4 16 list) past in
    let same = get_or-map (λ (u : UnitSpec). u.blocks) units unit none 0 there in
    let long = length-map units (λ (u : UnitSpec). u.blocks) in
    (omega (arith, long, there), omega (arith, bound, same))

not_zero : (n : ℕ) → n ≢ 0 → 1 ≤ n
not_zero n h = omega arith

pub unmap_coming : {s : State} {task : Task} {unit : ℕ} {gathered : List ℕ} {asked : Bool} (list : List ℕ) → IsTied s →
    GathersIn s task (ForUnmap unit) gathered asked → HasAll task (ForUnmap unit) gathered list → IsRightList s unit list →
    locked s ≡ false →
    IsComing s (command.Zero unit (field_at 8 8 list) (field_at 4 16 list)) (claim_of (numbers_of s) task)
unmap_coming {s} {task} {unit} {gathered} {asked} list v g all right free = record {
  is = tt;
  can = (
    subst (λ (x : Shape). (unit < length x.blocks) × (1 ≤ field_at 4 16 list) × (field_at 4 16 list ≤ greatest_command)
        × (field_at 8 8 list + field_at 4 16 list ≤ get_or x.blocks unit 0)) (sym (shape_tied v))
        (room.0, some, few_of_all, room.1),
    tt,
  );
  few =
      let keys = length-map (below (field_at 4 16 list)) (λ i. data_key unit (field_at 8 8 list + i)) in
      let numbers = length-below (field_at 4 16 list) in
      let claim = claimed g.fits.list in
      let most = few in
      omega (arith, keys, numbers, claim, most);
  short = let claim = claimed g.fits.list in omega (arith, claim);
  is_mended = g.fits.is_mended (whole g.fits.list);
  unlocked = free;
}
  where
    room : (unit < length (shape_of_numbers (numbers_of s)).blocks)
        × (field_at 8 8 list + field_at 4 16 list ≤ get_or (shape_of_numbers (numbers_of s)).blocks unit 0)
    room = unit_room (numbers_of s) unit list g.fits.unit_in right.within

    some : 1 ≤ field_at 4 16 list
    some = not_zero (field_at 4 16 list) (eqb-false (field_at 4 16 list) 0 right.some)

    few : field_at 4 16 list ≤ command_blocks (numbers_of s)
    few = ltb-false (command_blocks (numbers_of s)) (field_at 4 16 list) (or_parts _ _ right.descriptor).0

    few_of_all : field_at 4 16 list ≤ greatest_command
    few_of_all =
        let most = command_blocks-few (numbers_of s) in
        omega (arith, few, most)

    -- a list with a descriptor has claimed slots for all that it may have
    claimed : ((task.length ≡ 8)
        × (claimed_by (numbers_of s) (Gathering (ForUnmap unit) gathered asked) task.command ≡ 0))
        ⊎ ((task.length ≡ 24) × (claimed_by (numbers_of s) (Gathering (ForUnmap unit) gathered asked) task.command
        ≡ command_blocks (numbers_of s))) → claim_of (numbers_of s) task ≡ command_blocks (numbers_of s)
    claimed (inl short) =
        absurd (false≢true (sym right.size ∙ eq-eqb (length list) 8 (all.long g.fits.short ∙ short.0)))
    claimed (inr whole) = g.claim ∙ whole.1

    -- such a list has 24 bytes
    whole : ((task.length ≡ 8)
        × (claimed_by (numbers_of s) (Gathering (ForUnmap unit) gathered asked) task.command ≡ 0))
        ⊎ ((task.length ≡ 24) × (claimed_by (numbers_of s) (Gathering (ForUnmap unit) gathered asked) task.command
        ≡ command_blocks (numbers_of s))) → task.length ≡ 24
    whole (inl short) =
        absurd (false≢true (sym right.size ∙ eq-eqb (length list) 8 (all.long g.fits.short ∙ short.0)))
    whole (inr it) = it.0

-- Frames

-- the frames that came, one to eight, to a region that is there
pub record FramesCame (s : State) (task : Task) (region : ℕ) (frames : List Frame) : Type 0 where
  pub region_in : HasRegion (shape_of_numbers (numbers_of s)) region
  pub each : All IsFrame frames
  pub few : length frames ≤ 8
  pub claim : claim_of (numbers_of s) task ≡ 3

came : {s : State} {task : Task} {region : ℕ} {gathered : List ℕ} {asked : Bool} (bytes : List ℕ) →
    GathersIn s task (ForFrames region) gathered asked → HasMore task (ForFrames region) gathered bytes →
    FramesCame s task region (frames_in (length bytes / 512) bytes)
came {s} {task} {region} {gathered} {asked} bytes g more = record {
  region_in = fits.region_in;
  each = first_frames (length bytes / 512) bytes (omega arith) (more.are_bytes fits.bytes);
  few =
      let n = length-frames_in (length bytes / 512) bytes in
      let most = fits.few in
      let total = fits.total_is in
      let long = more.long fits.short in
      omega arith;
  claim = g.claim ∙ fits.claimed_is;
}
  where
    fits : FramesFit (numbers_of s) region task.length gathered
        (claimed_by (numbers_of s) (Gathering (ForFrames region) gathered asked) task.command)
    fits = g.fits

-- a device that can accept something is not locked, and is mended
pub accepting : (s : State) → accepts_nothing s ≡ false → (locked s ≡ false) × (mended s ≡ true)
accepting s h = let both = or_parts (locked s) (not (mended s)) h in (both.0, not-false (mended s) both.1)

pub frames_coming : {s : State} {task : Task} {region : ℕ} {frames : List Frame} {result : ℕ} {c : Command} → IsTied s →
    FramesCame s task region frames →
    rpmb_outcome region (region_of (plain_now s) region) (s.registers region) (accepts_nothing s) frames ≡ Results result
    (Some c) →
    IsComing s c (claim_of (numbers_of s) task)
frames_coming {s} {task} {region} {frames} {result} {c} v f e =
    let there = subst (λ (x : Shape). HasRegion x region) (sym (shape_tied v)) f.region_in in
    let r = frames_requested (plain_now s) region (s.registers region) (accepts_nothing s) frames (plain_tied v) there f.each
    f.few e in
    record {
      is = r.is;
      can = r.can;
      few = let keys = r.few in let claim = f.claim in omega arith;
      short = let claim = f.claim in let some = command_blocks-some (numbers_of s) in omega arith;
      is_mended = (accepting s r.unlocked).1;
      unlocked = (accepting s r.unlocked).0;
    }

-- the pages of a request for data are keys of the device
pub keys_of_area : {s : State} (region : ℕ) (f : Frame) → IsTied s → region < regions →
    AsksInside (length (region_of (plain_now s) region).area) f →
    All (λ i. IsKey (shape_of_numbers (numbers_of s)) (area_key region (first_page f + i))) (below (pages_named f))
keys_of_area {s} region f v there inside =
    All-weaker (λ i. i < pages_named f)
    (λ i. IsKey (shape_of_numbers (numbers_of s)) (area_key region (first_page f + i)))
    (λ i low. subst (λ (x : Shape). IsKey x (area_key region (first_page f + i))) (shape_tied v)
    (IsArea region (first_page f + i) there (page i low))) (below (pages_named f)) (all_below (pages_named f))
  where
    page : (i : ℕ) → i < pages_named f →
        first_page f + i < get_or (region_pages (shape_of (plain_now s))) region 0
    page i low =
        let some = inside.some in
        let within = inside.within in
        let whole = (its_region (plain_now s) region (plain_tied v) there).area in
        let pages = pages_held (plain_now s) region in
        omega (arith, low, some, within, whole, pages)

-- the frames that were decided
pub frames_came : {s : State} {task : Task} {purpose : Purpose} {gathered all : List ℕ} {asked : Bool} {region : ℕ}
    {frames : List Frame} {result : ℕ} {c : Option Command} → GathersIn s task purpose gathered asked →
    HasMore task purpose gathered all → IsDecided s purpose all region frames result c → FramesCame s task region frames
frames_came {s} {task} {purpose} {gathered} {all} {asked} {region} g more d =
    subst (FramesCame s task region) (sym d.frames_are)
    (came all (subst (λ (p : Purpose). GathersIn s task p gathered asked) d.purpose_is g)
    (subst (λ (p : Purpose). HasMore task p gathered all) d.purpose_is more))

-- the blocks of a request for data lie in the area
pub reads_inside : {s : State} {purpose : Purpose} {all : List ℕ} {region : ℕ} {f : Frame} {fs : List Frame}
    {result : ℕ} → IsDecided s purpose all region (f ∷ fs) result None → reads_area f result ≡ true →
    AsksInside (length (region_of (plain_now s) region).area) f
reads_inside {s} {region = region} {f} {fs} {result} d reads =
    let parts = and_parts (f.kind == read_data) (is_success result) reads in
    data_in_area (plain_now s) region (s.registers region) (accepts_nothing s) f fs result d.decided
    (eqb-true f.kind read_data parts.0) parts.1
