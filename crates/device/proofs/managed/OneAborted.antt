-- One task is aborted: what is kept is kept of the state without it.
use Rattle.device.proofs.Common.{All-filter, AreClaimed, Bool, Claims, Core, DeviceCore, Frames, HasLetGo, IsBehind}
use Rattle.device.proofs.Common.{IsKept, IsTold, Keeps, LetGoAll, List, Machine, OpenTask, Pin, RegionState, Registers}
use Rattle.device.proofs.Common.{Release, Some, State, TasksDiffer, Translation, [], ap, arith, before_accepted}
use Rattle.device.proofs.Common.{brings_frames, claim_of, claimed_by, claimed_in, claims_of, durable, eqb-false}
use Rattle.device.proofs.Common.{eqb-true, false, filter, found_task, if◌then◌else◌, is_at_hand, is_task_of, length}
use Rattle.device.proofs.Common.{length-filter_both, machine_at, most_tasks, moved, not, numbers_of, plain_now, refl}
use Rattle.device.proofs.Common.{region_of, subst, sym, task_of, true, with_claimed, with_machine, ℕ, ◌==◌, ◌||◌, ◌∙◌}
use Rattle.device.proofs.Common.{◌∷◌, ◌≡◌, ◌≤◌}
use Rattle.std.specs.Prelude.{◌&&◌, ◌<◌}
use Rattle.ufs_spec.proofs.Facts.{or_with_false}
use Rattle.ufs_spec.specs.Exchanges as exchange
use Rattle.ufs_spec.specs.Exchanges.{empty_registers}
use Rattle.ufs_spec.specs.Machine.{registers_after}
use Rattle.ftl_core.specs.Public as layer
use Rattle.device.specs.Manages.{aborted_at, machines_after}
use Rattle.device.proofs.described.Machines.{as_many, at_other, at_same, regions_same}
use Rattle.device.proofs.described.OneSender.{one_removed}
use Rattle.device.proofs.described.Settled.{left_answered}
use Rattle.device.proofs.due_replies.PinsLetGo.{gone_pins, other_pins}
use Rattle.device.proofs.open_tasks.KeptByTag.{claims_left, one_goes}
use Rattle.device.proofs.open_tasks.OpenTasks.{IsOpen, one_gone}
use Rattle.device.proofs.open_tasks.ReadProgress.{gone_finds_others}

-- the layer without what this task claimed and keeps
abbrev pub let_go_of : exchange.Task → Translation → Translation
let_go_of b t = moved (moved t (Release (claim_of t.numbers b))) (LetGoAll b.tag)

-- the state without it
abbrev pub without_one : exchange.Task → State → State
without_one b s = record s {
  translation = let_go_of b s.translation;
  tasks = exchange.without_task b.tag s.tasks;
  registers = registers_after (b ∷ []) s.registers;
}

-- what is kept without it, over the layer as it is then
abbrev pub core_without : DeviceCore → ℕ → OpenTask → Core → DeviceCore
core_without d k a after = record (aborted_at d k a.frames a.region) { ftl = after }

-- the registers of a region are empty on both sides, or stay on both
same_registers : (ms : List Machine) (f : Frames) (region other : ℕ) (x : Registers) (sends : Bool) →
    sends ≡ (brings_frames f && (region == other)) → (brings_frames f ≡ true → region < length ms) →
    x ≡ (machine_at ms other).registers →
    (if sends || false then empty_registers else x) ≡ (machine_at (machines_after f region ms) other).registers
same_registers ms f region other x sends same there is = by (brings_frames f) refl
  where
    emptied : Machine
    emptied = record (machine_at ms region) { registers = empty_registers }

    told : (b : Bool) → brings_frames f ≡ b →
        (if sends || false then empty_registers else x) ≡ (if b && (region == other) then empty_registers else x)
    told b e =
        ap (λ (c : Bool). if c then empty_registers else x)
        (or_with_false sends ∙ same ∙ ap (λ (c : Bool). c && (region == other)) e)

    by : (b : Bool) → brings_frames f ≡ b → (if sends || false then empty_registers else x)
        ≡ (machine_at (machines_after f region ms) other).registers
    by false e =
        told false e ∙ is
        ∙ ap (λ (c : Bool). (machine_at (if c then with_machine ms region emptied else ms) other).registers) (sym e)
    by true e =
        told true e ∙ here (region == other) refl
        ∙ ap (λ (c : Bool). (machine_at (if c then with_machine ms region emptied else ms) other).registers) (sym e)
      where
        here : (c : Bool) → (region == other) ≡ c → (if c then empty_registers else x)
            ≡ (machine_at (with_machine ms region emptied) other).registers
        here true k =
            sym (ap (λ (n : ℕ). (machine_at (with_machine ms region emptied) n).registers) (sym (eqb-true region other k))
            ∙ ap (λ (m : Machine). m.registers) (at_same ms region emptied (there e)))
        here false k =
            is
            ∙ sym (ap (λ (m : Machine). m.registers)
            (at_other ms region other emptied (λ e. eqb-false region other k (sym e))))

-- what is kept of regions stays
regions_stay : (ms : List Machine) (f : Frames) (region other : ℕ) →
    (machine_at (machines_after f region ms) other).region ≡ (machine_at ms other).region
regions_stay ms f region other = by (brings_frames f)
  where
    emptied : Machine
    emptied = record (machine_at ms region) { registers = empty_registers }

    by : (b : Bool) →
        (machine_at (if b then with_machine ms region emptied else ms) other).region ≡ (machine_at ms other).region
    by false = refl
    by true = regions_same ms region other emptied refl

as_many_after : (ms : List Machine) (f : Frames) (region : ℕ) → length (machines_after f region ms) ≡ length ms
as_many_after ms f region = by (brings_frames f)
  where
    emptied : Machine
    emptied = record (machine_at ms region) { registers = empty_registers }

    by : (b : Bool) → length (if b then with_machine ms region emptied else ms) ≡ length ms
    by false = refl
    by true = as_many ms region emptied

few_left : (p : exchange.Task → Bool) (us : List exchange.Task) → length us ≤ most_tasks →
    length (filter (λ x. not (p x)) us) ≤ most_tasks
few_left p us few =
    let both = length-filter_both (λ x. not (p x)) p (λ x. twice (p x)) us in
    omega arith
  where
    twice : (x : Bool) → x ≡ not (not x)
    twice true = refl
    twice false = refl

module _ (d : DeviceCore) (s : State) (k : ℕ) (a : OpenTask) (b : exchange.Task) (h : IsBehind d s)
    (differ : TasksDiffer s.tasks) (o : IsOpen (before_accepted s.translation.ledger) k d.tasks s.tasks a b)
    (counted : length (claimed_in (numbers_of s) b.length b.deed) ≡ claim_of (numbers_of s) b) where
  found : task_of b.tag s.tasks ≡ Some b
  found = found_task s.tasks k b differ o.theirs

  abbrev claims : Claims
  claims = claims_of (numbers_of s) s.tasks

  -- what its tag has claimed is what it has claimed
  its_claim : claims a.tag ≡ claimed_in (numbers_of s) b.length b.deed
  its_claim = ap claims (sym o.kept.tag) ∙ ap (claimed_by (numbers_of s)) found

  -- what the layer lets go of is what is specified
  layer_without : (after : Core) → HasLetGo after s.translation claims a.tag →
      layer.Describes after (let_go_of b s.translation)
  layer_without after its =
      subst (layer.Describes after)
      (λ i. moved (moved s.translation (Release ((ap length its_claim ∙ counted) i))) (LetGoAll (sym o.kept.tag i)))
      its.0

  claims_without : (after : Core) → HasLetGo after s.translation claims a.tag →
      AreClaimed after (claims_of (numbers_of s) (exchange.without_task b.tag s.tasks))
  claims_without after its =
      subst (AreClaimed after)
      (ap (λ (n : ℕ). with_claimed claims n []) (sym o.kept.tag) ∙ sym (claims_left (numbers_of s) s.tasks b.tag)) its.1

  abbrev pins : List Pin
  pins = filter (λ pin. not (pin.tag == b.tag)) s.translation.pins

  keeps_without : (after : Core) → HasLetGo after s.translation claims a.tag →
      Keeps (core_without d k a after) (without_one b s)
  keeps_without after its = record {
    boot = h.keeps.boot;
    permanent = h.keeps.permanent;
    each = as_many_after d.rpmb a.frames a.region ∙ h.keeps.each;
    region =
        λ number. subst (λ (r : RegionState). IsKept r (region_of (plain_now s) number))
        (sym (regions_stay d.rpmb a.frames a.region number)) (h.keeps.region number);
    registers =
        λ number. same_registers d.rpmb a.frames a.region number (s.registers number) _ (o.kept.brings.sends_to number)
        (λ e. subst (λ (n : ℕ). a.region < n) (sym h.keeps.each) (o.kept.brings.in_regions (o.kept.brings.sends ∙ e)))
        (h.keeps.registers number);
    layer_kept = layer_without after its;
    few = few_left (is_task_of b.tag) s.tasks h.keeps.few;
    tasks = one_gone (before_accepted s.translation.ledger) k d.tasks s.tasks b h.keeps.tasks differ o.theirs;
    one_sends = one_removed k d.tasks h.keeps.one_sends;
    wanted =
        one_goes s.translation.pins pins s.tasks b.tag h.keeps.wanted
        (λ index. gone_pins b.tag index s.translation.pins)
        (λ n other index. other_pins b.tag n index s.translation.pins other);
    claims = claims_without after its;
    shorts = h.keeps.shorts;
    volatile = h.keeps.volatile;
  }

  pub behind_without : (after : Core) → HasLetGo after s.translation claims a.tag →
      IsBehind (core_without d k a after) (without_one b s)
  behind_without after its = record {
    keeps = keeps_without after its;
    answered =
        left_answered s (without_one b s) b.tag s.tasks
        (λ tag other index. ap (is_at_hand s.translation.work.rests)
        (gone_finds_others b.tag tag index s.translation.pins other)) refl h.answered;
    told =
        λ lock. All-filter (λ x. not (is_task_of b.tag x)) (IsTold (durable s)) s.tasks (h.told lock);
    shorts_told = h.shorts_told;
  }
