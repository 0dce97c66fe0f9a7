-- Where only the translation layer moves, what the device keeps of the tasks stays, if the move leaves what it is to
-- them.
use Rattle.device.proofs.Common.{AreClaimed, Array, Bool, Cell, Core, DeedsFit, DeviceCore, Ending, Erasing, Flight}
use Rattle.device.proofs.Common.{ForNobody, ForRest, ForStep, ForTask, GroupPage, IsTied, Keeps, MarkPage, None}
use Rattle.device.proofs.Common.{Nothing, Place, Programming, ReadRight, Reading, ShortsKept, State, TakeStep}
use Rattle.device.proofs.Common.{TasksKept, Translation, WentWell, WentWrong, ap, before_accepted, claims_of, false}
use Rattle.device.proofs.Common.{if◌then◌else◌, inl, inr, job_ended, moved, numbers_of, refl, subst, sym, true}
use Rattle.device.proofs.Common.{wanted_kept, ℕ, ◌∙◌, ◌≡◌, ◌⊎◌}
use Rattle.std.specs.Prelude.{length}
use Rattle.ufs_spec.specs.Disk.{program_failed}
use Rattle.ufs_spec.specs.Ledger.{page_stands}
use Rattle.ufs_spec.specs.Moves.{settled_pin}
use Rattle.ufs_spec.specs.Translation as layer
use Rattle.ufs_spec.specs.Translation.{Order, OrderCopy, OrderRepair, copy_begun, has_mark_number}
use Rattle.ufs_spec.specs.Translation.{mark_ordered, name_of, ordered, with_plan}
use Rattle.ufs_laws.proofs.walk.LayerEffects.{IsDue, order_due, turned_if}
use Rattle.power_loss.specs.Exchange.{ShortsFit}
use Rattle.ftl_core.specs.Public as layer_kept
use Rattle.device.proofs.described.ShortExchanges.{same_shorts, shorts_else}
use Rattle.device.proofs.described.Unmended.{kept_else}
use Rattle.device.proofs.open_tasks.ReadProgress.{wanted_same}

-- the device has the same numbers, groups count from the same number, and for each block the same is wanted
pub record Leaves (t u : Translation) : Type 0 where
  pub numbers : u.numbers ≡ t.numbers
  pub before : before_accepted u.ledger ≡ before_accepted t.ledger
  pub wanted : (tag index : ℕ) → wanted_kept u.pins tag index ≡ wanted_kept t.pins tag index

pub layer_moves : (d : DeviceCore) (after : Core) (s : State) (array : Array) (u : Translation) → Keeps d s →
    layer_kept.Describes after u → AreClaimed after (claims_of (numbers_of s) s.tasks) → Leaves s.translation u →
    Keeps (record d { ftl = after }) (record s { array = array; translation = u })
layer_moves d after s array u k layer claims leaves = record {
  boot = k.boot;
  permanent = k.permanent;
  each = k.each;
  region = k.region;
  registers = k.registers;
  layer_kept = layer;
  few = k.few;
  tasks = subst (λ n. TasksKept n d.tasks s.tasks) (sym leaves.before) k.tasks;
  one_sends = k.one_sends;
  wanted = λ tag index. leaves.wanted tag index ∙ k.wanted tag index;
  claims = subst (λ n. AreClaimed after (claims_of n s.tasks)) (sym leaves.numbers) claims;
  shorts = same_shorts (numbers_of s) u.numbers (before_accepted s.translation.ledger) (before_accepted u.ledger)
      d.shorts s.shorts leaves.numbers leaves.before k.shorts;
  volatile = k.volatile;
}

-- The end of a job that is for no task

abbrev pub IsForNone : Flight → Type 0
IsForNone (Reading ForNobody place) = Unit {0}
IsForNone (Reading ForStep place) = Unit {0}
IsForNone (Reading (ForRest number index) place) = Unit {0}
IsForNone (Reading reader place) = ⊥
IsForNone flight = Unit {0}

pub job_leaves : (t : Translation) (die : ℕ) (flight : Flight) (ending : Ending) → IsForNone flight →
    Leaves t (job_ended t die flight ending)
job_leaves t die (Programming place (GroupPage tag body)) WentWell none = record {
  numbers = refl;
  before = refl;
  wanted = λ n k. wanted_same (settled_pin (page_stands t.ledger (name_of tag) place)) (λ pin. refl) (λ pin. refl)
      (λ pin. refl) n k t.pins;
}
job_leaves t die (Programming place (MarkPage m)) (WentWrong left) none =
    by (has_mark_number (record t { disk = program_failed t.disk place left }))
  where
    by : (b : Bool) → Leaves t
        (if b then mark_ordered (record t { disk = program_failed t.disk place left }) m.fence
        else record (record t { disk = program_failed t.disk place left }) { work = record t.work { step = None } })
    by true = record { numbers = refl; before = refl; wanted = λ n k. refl }
    by false = record { numbers = refl; before = refl; wanted = λ n k. refl }
job_leaves t die (Reading (ForTask tag index) place) ending none = absurd none
job_leaves t die (Reading ForStep place) ReadRight none = record { numbers = refl; before = refl; wanted = λ n k. refl }
job_leaves t die (Reading (ForRest number index) place) ReadRight none =
    record { numbers = refl; before = refl; wanted = λ n k. refl }
job_leaves t die (Reading ForNobody place) ReadRight none =
    record { numbers = refl; before = refl; wanted = λ n k. refl }
job_leaves t die (Programming place Nothing) WentWell none =
    record { numbers = refl; before = refl; wanted = λ n k. refl }
job_leaves t die (Erasing spot) WentWell none = record { numbers = refl; before = refl; wanted = λ n k. refl }
job_leaves t die flight ending none = record { numbers = refl; before = refl; wanted = λ n k. refl }

-- A step

-- the same is kept, and the same pages wait for their rests
pub record KeepsReads (t u : Translation) : Type 0 where
  pub pins : u.pins ≡ t.pins
  pub rests : u.work.rests ≡ t.work.rests

-- what a step is to the tasks that is no repair; it locks nothing
pub record Stays (t u : Translation) : Type 0 where
  pub leaves : Leaves t u
  pub reads : KeepsReads t u
  pub frontier : u.ledger.frontier ≡ t.ledger.frontier
  pub lock : layer.is_locked u ≡ layer.is_locked t

-- a repair comes only before the device is mended; groups count from one number more then
pub record Repairs (t u : Translation) : Type 0 where
  pub unmended : layer.is_mended t.work.mending ≡ false
  pub numbers : u.numbers ≡ t.numbers
  pub wanted : (tag index : ℕ) → wanted_kept u.pins tag index ≡ wanted_kept t.pins tag index
  pub reads : KeepsReads t u

abbrev pub StepLeaves : Translation → Translation → Type 0
StepLeaves t u = Stays t u ⊎ Repairs t u

nothing_moves : (t : Translation) → Stays t t
nothing_moves t = record {
  leaves = record { numbers = refl; before = refl; wanted = λ n k. refl };
  reads = record { pins = refl; rests = refl };
  frontier = refl;
  lock = refl;
}

copy_leaves : (t : Translation) (p : Place) (cell : Cell) → Stays t (copy_begun t p cell)
copy_leaves t p (GroupPage tag body) = record {
  leaves = record { numbers = refl; before = refl; wanted = λ n k. refl };
  reads = record { pins = refl; rests = refl };
  frontier = refl;
  lock = refl;
}
copy_leaves t p cell = nothing_moves t

order_leaves : (t : Translation) (o : Order) → IsDue t o → StepLeaves t (ordered t o)
order_leaves t (OrderRepair k left) due =
    inr (record {
      unmended = ap layer.is_mended due.1;
      numbers = refl;
      wanted = λ n k. refl;
      reads = record { pins = refl; rests = refl };
    })
order_leaves t (OrderCopy victim p left) due =
    let h = copy_leaves (with_plan t victim left) p (t.disk.cells p) in
    inl (record {
      leaves = record { numbers = h.leaves.numbers; before = h.leaves.before; wanted = h.leaves.wanted };
      reads = record { pins = h.reads.pins; rests = h.reads.rests };
      frontier = h.frontier;
      lock = h.lock;
    })
order_leaves t order due =
    inl (record {
      leaves = record { numbers = refl; before = refl; wanted = λ n k. refl };
      reads = record { pins = refl; rests = refl };
      frontier = refl;
      lock = refl;
    })

pub step_leaves : (t : Translation) → StepLeaves t (moved t TakeStep)
step_leaves t =
    turned_if (StepLeaves t) t (λ none. inl (nothing_moves t)) (λ o due. order_leaves t o (order_due t o due).1)

pub unmended_fit : (s : State) → IsTied s → layer.is_mended s.translation.work.mending ≡ false →
    DeedsFit (numbers_of s) (length s.accepted) false s.tasks
unmended_fit s tied unmended =
    subst (λ b. DeedsFit (numbers_of s) (length s.accepted) b s.tasks) unmended tied.tasks.deeds

pub unmended_shorts : (s : State) → IsTied s → layer.is_mended s.translation.work.mending ≡ false →
    ShortsFit (length s.accepted) false s.shorts
unmended_shorts s tied unmended =
    subst (λ b. ShortsFit (length s.accepted) b s.shorts) unmended tied.tasks.waits

-- where the device is not mended, groups may count from another number
pub unmended_moves : (d : DeviceCore) (after : Core) (s : State) (u : Translation) → Keeps d s → IsTied s →
    layer_kept.Describes after u → AreClaimed after (claims_of (numbers_of s) s.tasks) → Repairs s.translation u →
    Keeps (record d { ftl = after }) (record s { translation = u })
unmended_moves d after s u k tied layer claims repairs = record {
  boot = k.boot;
  permanent = k.permanent;
  each = k.each;
  region = k.region;
  registers = k.registers;
  layer_kept = layer;
  few = k.few;
  tasks = kept_else (numbers_of s) (length s.accepted) (before_accepted s.translation.ledger) (before_accepted u.ledger)
      d.tasks s.tasks (unmended_fit s tied repairs.unmended) k.tasks;
  one_sends = k.one_sends;
  wanted = λ tag index. repairs.wanted tag index ∙ k.wanted tag index;
  claims = subst (λ n. AreClaimed after (claims_of n s.tasks)) (sym repairs.numbers) claims;
  shorts = shorts_else u.numbers (length s.accepted) (before_accepted s.translation.ledger) (before_accepted u.ledger)
      d.shorts s.shorts (unmended_shorts s tied repairs.unmended)
      (subst (λ n. ShortsKept n (before_accepted s.translation.ledger) d.shorts s.shorts) (sym repairs.numbers)
      k.shorts);
  volatile = k.volatile;
}
