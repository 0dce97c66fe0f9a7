-- All frames of a SECURITY PROTOCOL OUT came: what its task has gathered and claimed, and what becomes of it once they
-- are a request.
use Rattle.device.specs.Describes.{BringsFor}
use Rattle.device.proofs.Common.{Accepted, AreFramesKept, Bool, Claims, ComesSo, Command, Core, Deed, DeedFits}
use Rattle.device.proofs.Common.{Describes, DeviceCore, ForFrames, Frame, Frames, FramesFit, Gathering, HasRequested}
use Rattle.device.proofs.Common.{IsDoing, IsFor, IsKept, IsLayerWith, Keeps, List, Machine, Move, None, OpenTask, Phase}
use Rattle.device.proofs.Common.{Purpose, ReadsAsked, ReadsFor, RegionState, Registers, Release, RpmbRequest, Some}
use Rattle.device.proofs.Common.{State, TaskEvent, TaskKept, Translation, Wanted, [], after, ap, arith, before_accepted}
use Rattle.device.proofs.Common.{block_after, brings_frames, claim_of, claimed_by, claimed_in, claims_of, cond, drop}
use Rattle.device.proofs.Common.{eq_self, false, fold, found_fits, frame_in, frame_slots, frames_after, frames_for}
use Rattle.device.proofs.Common.{frames_of, gathers_for, is_mended, length, machine_at, moved, numbers_of, phase_after}
use Rattle.device.proofs.Common.{plain_now, read_in, refl, region_of, regions, replicate, requested, slice_get}
use Rattle.device.proofs.Common.{slice_set, subst, suc, sym, take, take-append-le, task_after, task_happened, task_of}
use Rattle.device.proofs.Common.{true, wanted_by, wanted_in, wanted_kept, with_claimed, with_held, with_machine}
use Rattle.device.proofs.Common.{with_zeros, zero, ℕ, ◌-◌, ◌/◌, ◌<◌, ◌==◌, ◌∙◌, ◌∷◌, ◌≡◌, ◌≤◌}
use Rattle.ufs_spec.specs.Exchanges as exchange
use Rattle.ufs_spec.specs.FrameRequests.{with_request}
use Rattle.ufs_spec.specs.Frames.{frames_in}
use Rattle.ufs_spec.specs.Plain.{zero_block}
use Rattle.ufs_spec.specs.RpmbResponses.{emptied_by}
use Rattle.power_loss.specs.Exchange.{FramesFit as WaitsFrames}
use Rattle.task_set.specs.Lists.{task_keeps}
use Rattle.task_set.specs.Tasks.{bytes_kept}
use Rattle.task_set.specs.declared.frames.Frames.TheVariants as frames
use Rattle.task_set.specs.declared.tasks.Phase.TheVariants as phase
use Rattle.device.proofs.open_tasks.WantedData.{Gathers, none_came}
use Rattle.device.proofs.described.Machines.{as_many, regions_same, registers_put}
use Rattle.device.proofs.host_messages.HeldBegins.{zeros_length}
use Rattle.device.proofs.host_messages.TaskBecomes.{becomes_kept, device_then}
use Rattle.device.proofs.open_tasks.OpenTasks.{Stands, set_again, set_stands}
use Rattle.device.proofs.open_tasks.ReadProgress.{ChangesOne}

-- What the task gathered

pub record GathersFrames (region size total : ℕ) (deed : Deed) : Type 0 where
  pub deed_is : deed ≡ Gathering (ForFrames region) [] true
  pub total_is : total ≡ size

pub gathers_frames : (region : ℕ) (w : Wanted) (total : ℕ) (deed : Deed) → w.purpose ≡ ForFrames region →
    Gathers w total deed → GathersFrames region w.length total deed
gathers_frames region w total deed is g = record {
  deed_is = g.deed_is ∙ (λ i. Gathering (is i) (none_came g.gathered (g.came ∙ so.0) i) true);
  total_is = g.total_is;
}
  where
    so : ComesSo (ForFrames region) w.came w.length
    so = subst (λ (p : Purpose). ComesSo p w.came w.length) is g.so

-- they are for the region of the task
pub for_region : (region other : ℕ) (w : Wanted) (total : ℕ) (deed : Deed) → w.purpose ≡ ForFrames other →
    Gathers w total deed → IsFor region (gathers_for deed) → w.purpose ≡ ForFrames region
for_region region other w total deed is g to =
    is ∙ ap (λ (n : ℕ). ForFrames n) (subst (λ (x : Deed). IsFor region (gathers_for x))
    (g.deed_is ∙ ap (λ (p : Purpose). Gathering p g.gathered true) is) to)

-- all frames came that the task of this tag asked for
pub record AllCame (d : DeviceCore) (s : State) (tag : ℕ) (bytes : List ℕ) : Type 0 where
  pub described : Describes d s
  pub stands : Stands (before_accepted s.translation.ledger) tag d.tasks s.tasks
  pub wanted : Wanted
  pub awaits : stands.a.phase ≡ phase.Await wanted
  pub purpose_is : wanted.purpose ≡ ForFrames stands.a.region
  pub gathers : GathersFrames stands.a.region wanted.length stands.b.length stands.b.deed
  pub long : length bytes ≡ wanted.length

-- The request

-- the first of the frames, and those behind it
abbrev pub first_frame : List ℕ → Frame
first_frame bytes = frame_in (take 512 bytes)

abbrev pub all_frames : List ℕ → List Frame
all_frames bytes = first_frame bytes ∷ frames_in (length bytes / 512 - 1) (drop 512 bytes)

-- the request as the definitions have it
abbrev pub request_of : ℕ → List ℕ → ℕ → RpmbRequest
request_of region bytes code = record { region = region; frames = all_frames bytes; result = code; filled = false }

-- its task, with the frames that it keeps
abbrev pub kept_task : List ℕ → OpenTask → OpenTask
kept_task bytes a = bytes_kept (with_zeros bytes) a

-- a task of the specified device has the request, and does this
abbrev pub asking : exchange.Task → ℕ → List ℕ → ℕ → Deed → exchange.Task
asking b region bytes code deed = record b { deed = deed; request = Some (request_of region bytes code) }

-- no other task changes where one gets a request
request_changes : (tag : ℕ) (request : RpmbRequest) (deed : Deed) → ChangesOne (with_request tag request deed) tag
request_changes tag request deed = record {
  tags = λ x. by x (exchange.is_task_of tag x);
  others = λ x e. ap (λ (b : Bool). cond b (record x { deed = deed; request = Some request }) x) e;
}
  where
    by : (x : exchange.Task) (b : Bool) → (cond b (record x { deed = deed; request = Some request }) x).tag ≡ x.tag
    by x true = refl
    by x false = refl

module _ {d : DeviceCore} {s : State} {tag : ℕ} {bytes : List ℕ} (c : AllCame d s tag bytes) where
  pub undecided : c.stands.a.frames ≡ frames.Undecided
  undecided =
      subst (λ (p : Phase). FramesFit p c.stands.a.frames c.stands.a.held c.stands.b.deed) c.awaits
      c.stands.opened.kept.fits
      ∙ ap frames_for c.purpose_is

  -- the region to which the task brings frames
  abbrev pub to : ℕ
  to = c.stands.a.region

  pub to_there : to < regions
  to_there = c.stands.opened.kept.brings.in_regions (c.stands.opened.kept.brings.sends ∙ ap brings_frames undecided)

  pub found : task_of c.stands.b.tag s.tasks ≡ Some c.stands.b
  found = ap (λ (n : ℕ). task_of n s.tasks) c.stands.tag_is ∙ c.stands.found

  -- what the tasks have claimed, where the task has claimed nothing any more
  abbrev pub given_up : Claims
  given_up = with_claimed (claims_of (numbers_of s) s.tasks) c.stands.b.tag []

  pub its_slots : claims_of (numbers_of s) s.tasks c.stands.b.tag ≡ replicate frame_slots zero_block
  its_slots = ap (claimed_by (numbers_of s)) found ∙ ap (claimed_in (numbers_of s) c.stands.b.length) c.gathers.deed_is

  pub fits : WaitsFrames (numbers_of s) to c.stands.b.length []
      (claim_of (numbers_of s) c.stands.b)
  fits =
      subst (DeedFits (numbers_of s) (length s.accepted) (is_mended s.translation.work.mending)
      (claim_of (numbers_of s) c.stands.b) c.stands.b.length) c.gathers.deed_is
      (found_fits (numbers_of s) (length s.accepted) (is_mended s.translation.work.mending) tag s.tasks c.stands.b
      c.described.tied.tasks.deeds c.stands.found).0

  -- the layer of both sides once the slots are given back and these moves are made
  pub released : (layer : Core) (moves : ℕ → List Move) →
      IsLayerWith layer (fold moved (moved s.translation (Release (length (claims_of (numbers_of s) s.tasks tag)))) (moves tag))
      (with_claimed (claims_of (numbers_of s) s.tasks) tag []) →
      IsLayerWith layer
      (fold moved (moved s.translation (Release (claim_of (numbers_of s) c.stands.b))) (moves c.stands.b.tag)) given_up
  released layer moves its =
      subst
      (λ (n : ℕ). IsLayerWith layer (fold moved (moved s.translation (Release n)) (moves c.stands.b.tag)) given_up)
      (ap length its_slots ∙ (three ∙ sym fits.claimed_is))
      (subst (λ (n : ℕ). IsLayerWith layer
      (fold moved (moved s.translation (Release (length (claims_of (numbers_of s) s.tasks n)))) (moves n))
      (with_claimed (claims_of (numbers_of s) s.tasks) n [])) (sym c.stands.tag_is) its)
    where
      three : length (replicate frame_slots zero_block) ≡ 3
      three = refl

  -- nothing is wanted for it
  pub not_wanted : (index : ℕ) → wanted_kept s.translation.pins c.stands.b.tag index ≡ None
  not_wanted index =
      c.described.kept.wanted c.stands.b.tag index
      ∙ (ap (wanted_by index) found ∙ ap (wanted_in index c.stands.b.request) c.gathers.deed_is)

  -- as many bytes as whole frames have
  pub frames_long : (1 ≤ length bytes / 512) × (512 ≤ length bytes) × (length bytes ≤ 4096)
  frames_long =
      let count = fits.count in
      let low = fits.some in
      let few = fits.few in
      let total = fits.total_is in
      let size_is = c.gathers.total_is in
      let long = c.long in
      (omega arith, omega arith, omega arith)

  pub frames_are : frames_of bytes ≡ all_frames bytes
  frames_are = by (length bytes / 512) frames_long.0
    where
      by : (n : ℕ) → 1 ≤ n → frames_in n bytes ≡ first_frame bytes ∷ frames_in (n - 1) (drop 512 bytes)
      by zero low = absurd (omega arith)
      by (suc n) low = ap (λ (m : ℕ). first_frame bytes ∷ frames_in m (drop 512 bytes)) (less n)
        where
          less : (n : ℕ) → n ≡ suc n - 1
          less n = omega arith

  zeros_long : length (with_zeros bytes) ≡ 4096
  zeros_long = zeros_length bytes frames_long.2

  first_kept : take 512 (with_zeros bytes) ≡ take 512 bytes
  first_kept = take-append-le 512 bytes (drop (length bytes) zero_block) frames_long.1

  -- this happened to the task, which has the request from now on
  pub record Happens (code : ℕ) (e : TaskEvent) (p : Phase) (deed : Deed) : Type 0 where
    pub phase_is : phase_after (phase.Await c.wanted) e ≡ p
    pub frames_are_kept : frames_after frames.Undecided e ≡ frames.Decided code
    pub no_block : block_after e (phase.Await c.wanted) None ≡ None
    pub asks : ReadsFor p (first_frame bytes) code
    pub fits_in : FramesFit p (frames.Decided code) (Some (with_zeros bytes)) deed
    pub doing : IsDoing (before_accepted s.translation.ledger) c.stands.a.expected c.stands.b.length p deed
    pub none_sent : read_in deed ≡ None
    pub none_gathered : gathers_for deed ≡ None

  pub asking_kept : (code : ℕ) (e : TaskEvent) (p : Phase) (deed : Deed) → Happens code e p deed →
      TaskKept (before_accepted s.translation.ledger) (task_after e (kept_task bytes c.stands.a))
      (asking c.stands.b to bytes code deed)
  asking_kept code e p deed x = record {
    lun = c.stands.opened.kept.lun;
    tag = c.stands.opened.kept.tag;
    expected = c.stands.opened.kept.expected;
    brings =
        subst (λ (x : Bool). BringsFor c.stands.a.region x c.stands.b.command) still_brings c.stands.opened.kept.brings;
    gathers = subst (IsFor c.stands.a.region) (sym x.none_gathered) tt;
    asked_of = refl;
    request =
        subst (λ (f : Frames). AreFramesKept f (Some (with_zeros bytes)) (Some (request_of to bytes code))) (sym frames_is)
        (record {
          bytes = with_zeros bytes;
          is_held = refl;
          long = zeros_long;
          asked = request_of to bytes code;
          is = refl;
          result = refl;
          unfilled = refl;
          first = ap frame_in (sym first_kept);
        });
    asks =
        subst (λ (f : Frames). ReadsAsked (phase_after c.stands.a.phase e) f (Some (with_zeros bytes))) (sym frames_is)
        (subst (λ (q : Phase). ReadsFor q (frame_in (take 512 (with_zeros bytes))) code) (sym phase_is)
        (subst (λ (bs : List ℕ). ReadsFor p (frame_in bs) code) (sym first_kept) x.asks));
    fits =
        subst (λ (f : Frames). FramesFit (phase_after c.stands.a.phase e) f (Some (with_zeros bytes)) deed)
        (sym frames_is)
        (subst (λ (q : Phase). FramesFit q (frames.Decided code) (Some (with_zeros bytes)) deed) (sym phase_is)
        x.fits_in);
    doing =
        subst
        (λ (q : Phase). IsDoing (before_accepted s.translation.ledger) c.stands.a.expected c.stands.b.length q deed)
        (sym phase_is) x.doing;
    read = ap (λ (q : Phase). block_after e q None) c.awaits ∙ (x.no_block ∙ sym x.none_sent);
  }
    where
      frames_is : frames_after c.stands.a.frames e ≡ frames.Decided code
      frames_is = ap (λ (f : Frames). frames_after f e) undecided ∙ x.frames_are_kept

      still_brings : brings_frames c.stands.a.frames ≡ brings_frames (frames_after c.stands.a.frames e)
      still_brings = ap brings_frames undecided ∙ sym (ap brings_frames frames_is)

      phase_is : phase_after c.stands.a.phase e ≡ p
      phase_is = ap (λ (q : Phase). phase_after q e) c.awaits ∙ x.phase_is

  -- What is kept of the state with the request

  -- what becomes of the layer, of key and counter and of the accepted commands
  pub record Leads (layer : Core) (m : List Machine) (u : Translation) (cs : List Command) (code : ℕ) (deed : Deed) : Type 0
    where
      pub boot : (after s.base cs).boot ≡ (plain_now s).boot
      pub permanent : (after s.base cs).permanent ≡ (plain_now s).permanent
      pub each : length m ≡ regions
      pub region : (number : ℕ) → IsKept (machine_at m number).region (region_of (after s.base cs) number)
      pub registers : (number : ℕ) → (machine_at m number).registers ≡ (machine_at d.rpmb number).registers
      pub layer_is : IsLayerWith layer u given_up
      pub none_claimed : claimed_in (numbers_of s) c.stands.b.length deed ≡ []
      pub numbers : u.numbers ≡ s.translation.numbers
      pub before : before_accepted u.ledger ≡ before_accepted s.translation.ledger
      pub wanted : (index : ℕ) → wanted_kept u.pins c.stands.b.tag index
          ≡ wanted_by index (Some (asking c.stands.b to bytes code deed))
      pub others_wanted : (n : ℕ) → (n == c.stands.b.tag) ≡ false → (index : ℕ) →
          wanted_kept u.pins n index ≡ wanted_kept s.translation.pins n index

  pub requested_keeps : (come : DeviceCore) (code : ℕ) (what : Accepted)
      (did : HasRequested d come tag c.stands.k to bytes code what) (e : TaskEvent) (p : Phase) (deed : Deed)
      (u : Translation) (cs : List Command) → did.event ≡ e → Happens code e p deed →
      Leads did.layer did.rpmb u cs code deed →
      Keeps come (requested (record s { translation = u; accepted = cs }) c.stands.b to (all_frames bytes) code deed)
  requested_keeps come code what did e p deed u cs event_is x leads =
      subst
      (λ (y : DeviceCore). Keeps y
      (requested (record s { translation = u; accepted = cs }) c.stands.b to (all_frames bytes) code deed)) (sym core_is)
      (becomes_kept d s c.stands.k c.stands.a new c.stands.b change did.layer machine_then u cs registers_then
      c.described c.stands.opened
      (record {
        changes = request_changes c.stands.b.tag (request_of to bytes code) deed;
        boot = leads.boot;
        permanent = leads.permanent;
        each = as_many did.rpmb to emptied ∙ leads.each;
        region =
            λ number. subst (λ (r : RegionState). IsKept r (region_of (after s.base cs) number))
            (sym (regions_same did.rpmb to number emptied refl)) (leads.region number);
        registers_are =
            registers_put s.registers did.rpmb to (emptied_by (all_frames bytes) (s.registers to)) emptied
            (subst (λ (n : ℕ). to < n) (sym leads.each) to_there) same (ap (emptied_by (all_frames bytes)) (same to));
        layer_is =
            subst (λ (y : exchange.Task). IsLayerWith did.layer u
            (with_claimed (claims_of (numbers_of s) s.tasks) c.stands.b.tag (claimed_in (numbers_of s) y.length y.deed))) (sym changed)
            (subst (λ (blocks : List (List ℕ)). IsLayerWith did.layer u
            (with_claimed (claims_of (numbers_of s) s.tasks) c.stands.b.tag blocks)) (sym leads.none_claimed) leads.layer_is);
        numbers = leads.numbers;
        before = leads.before;
        task = subst (TaskKept (before_accepted s.translation.ledger) new) (sym changed) (asking_kept code e p deed x);
        sends =
            ap (λ (f : Frames). brings_frames (frames_after f e)) undecided
            ∙ (ap brings_frames x.frames_are_kept ∙ sym (ap brings_frames undecided));
        wanted = λ index. leads.wanted index ∙ sym (ap (λ (y : exchange.Task). wanted_by index (Some y)) changed);
        others_wanted = leads.others_wanted;
      }))
    where
      change : exchange.Task → exchange.Task
      change = with_request c.stands.b.tag (request_of to bytes code) deed

      changed : change c.stands.b ≡ asking c.stands.b to bytes code deed
      changed =
          ap (λ (b : Bool). cond b (asking c.stands.b to bytes code deed) c.stands.b) (eq_self c.stands.b.tag)

      new : OpenTask
      new = task_after e (kept_task bytes c.stands.a)

      -- the machine of its region, whose registers are emptied
      emptied : Machine
      emptied = record (machine_at did.rpmb to) {
        registers = emptied_by (all_frames bytes) (machine_at did.rpmb to).registers;
      }

      machine_then : List Machine
      machine_then = with_machine did.rpmb to emptied

      registers_then : ℕ → Registers
      registers_then = exchange.at_region s.registers to (emptied_by (all_frames bytes) (s.registers to))

      same : (number : ℕ) → s.registers number ≡ (machine_at did.rpmb number).registers
      same number = c.described.kept.registers number ∙ sym (leads.registers number)

      tasks_are : (with_held d c.stands.k (with_zeros bytes)).tasks
          ≡ slice_set d.tasks c.stands.k (kept_task bytes c.stands.a)
      tasks_are = ap (task_keeps d.tasks c.stands.k (with_zeros bytes)) c.stands.opened.ours

      tasks_then : task_happened (slice_set d.tasks c.stands.k (kept_task bytes c.stands.a)) c.stands.k e
          (slice_get (slice_set d.tasks c.stands.k (kept_task bytes c.stands.a)) c.stands.k)
          ≡ slice_set d.tasks c.stands.k new
      tasks_then =
          ap (task_happened (slice_set d.tasks c.stands.k (kept_task bytes c.stands.a)) c.stands.k e)
          (set_stands d.tasks c.stands.k c.stands.a (kept_task bytes c.stands.a) c.stands.opened.ours)
          ∙ set_again d.tasks c.stands.k (kept_task bytes c.stands.a) new

      core_is : come ≡ device_then d c.stands.k new did.layer machine_then
      core_is =
          did.after_is
          ∙ ((λ i. record d {
            ftl = did.layer;
            rpmb = with_machine did.rpmb to (record (machine_at did.rpmb to) {
              registers = emptied_by (frames_are i) (machine_at did.rpmb to).registers;
            });
            tasks = task_happened (tasks_are i) c.stands.k (event_is i) (slice_get (tasks_are i) c.stands.k);
          })
          ∙ ap (λ (ts : List OpenTask). record d { ftl = did.layer; rpmb = machine_then; tasks = ts }) tasks_then)
