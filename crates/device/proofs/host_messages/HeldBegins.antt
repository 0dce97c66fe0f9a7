-- A COMMAND begins a task that keeps what it sends in its block of the pool, with zeros behind it.
use Rattle.device.proofs.Common.{Answering, Bool, Cdb, Core, Describes, DeviceCore, Good, IsLayerWith, List, None}
use Rattle.device.proofs.Common.{OpenTask, Phase, Request, SendingBytes, Some, State, [], ap, arith, claims_of}
use Rattle.device.proofs.Common.{data_begun, drop, false, false≢true, if◌then◌else◌, length, length-append, length-drop}
use Rattle.device.proofs.Common.{length-replicate, length-take, min, most_tasks, newly_open, numbers_of, refl}
use Rattle.device.proofs.Common.{sends_frames, slice_get, slice_set, subst, sym, take, take-append-le, task_of, true}
use Rattle.device.proofs.Common.{with_held, with_task, with_zeros, ℕ, ◌++◌, ◌<◌, ◌∙◌, ◌∷◌, ◌≡◌, ◌≤◌}
use Rattle.std.specs.Prelude.{◌+◌, ◌-◌, ◌==◌}
use Rattle.ufs_spec.specs.Machine as machine
use Rattle.ufs_spec.specs.Plain.{zero_block}
use Rattle.task_set.specs.Lists.{task_keeps}
use Rattle.task_set.specs.Tasks.{bytes_kept}
use Rattle.task_set.specs.declared.frames.Frames.TheVariants as frames
use Rattle.task_set.specs.declared.tasks.Phase.TheVariants as phase
use Rattle.ufs_spec.specs.declared.exchanges.Status.TheVariants as status
use Rattle.device.specs.Calls.{held_phase}
use Rattle.device.proofs.described.Answered.{IsBehind}
use Rattle.device.proofs.host_messages.CommandPasses.{some_told}
use Rattle.device.proofs.host_messages.ReadOpened.{core_opened}
use Rattle.device.proofs.open_tasks.TaskOpened.{brings_none, opens_still}

-- The block of the pool

zero_length : length zero_block ≡ 4096
unfolding zero_block
zero_length = length-replicate {A = ℕ} 4096 0

pub zeros_length : (bytes : List ℕ) → length bytes ≤ 4096 → length (with_zeros bytes) ≡ 4096
zeros_length bytes few =
    let joined = length-append bytes (drop (length bytes) zero_block) in
    let rest = length-drop (length bytes) zero_block in
    let zeros = zero_length in
    omega arith

-- The last task

-- the new task
abbrev pub new_task : Request → Phase → OpenTask
new_task r p =
    newly_open (record {
      tag = r.tag;
      lun = r.lun;
      expected = r.expected;
      phase = p;
      frames = frames.NotBrought;
      region = 0;
    })

-- the device with the new task, which keeps these bytes
abbrev pub core_keeping : DeviceCore → Request → Core → Phase → List ℕ → DeviceCore
core_keeping d r after p held = with_task (record d { ftl = after }) (bytes_kept held (new_task r p))

last_keeps : (ts : List OpenTask) (a : OpenTask) (bytes : List ℕ) →
    task_keeps (ts ++ a ∷ []) (length (ts ++ a ∷ []) - 1) bytes (slice_get (ts ++ a ∷ []) (length (ts ++ a ∷ []) - 1))
    ≡ ts ++ bytes_kept bytes a ∷ []
last_keeps ts a bytes =
    ap (λ (n : ℕ). task_keeps (ts ++ a ∷ []) n bytes (slice_get (ts ++ a ∷ []) n)) (at_last (length-append ts (a ∷ [])))
    ∙ (ap (task_keeps (ts ++ a ∷ []) (length ts) bytes) (there ts) ∙ set ts)
  where
    at_last : length (ts ++ a ∷ []) ≡ length ts + 1 → length (ts ++ a ∷ []) - 1 ≡ length ts
    at_last e = omega arith

    there : (xs : List OpenTask) → slice_get (xs ++ a ∷ []) (length xs) ≡ Some a
    there [] = refl
    there (x ∷ xs) = there xs

    set : (xs : List OpenTask) →
        slice_set (xs ++ a ∷ []) (length xs) (bytes_kept bytes a) ≡ xs ++ bytes_kept bytes a ∷ []
    set [] = refl
    set (x ∷ xs) = ap (λ (ys : List OpenTask). x ∷ ys) (set xs)

-- the last task keeps these bytes
pub last_held : (d : DeviceCore) (r : Request) (after : Core) (p : Phase) (bytes : List ℕ) →
    with_held (core_opened d r after p) (length (core_opened d r after p).tasks - 1) bytes
    ≡ core_keeping d r after p bytes
last_held d r after p bytes =
    ap (λ (ts : List OpenTask). record (core_opened d r after p) { tasks = ts })
    (last_keeps d.tasks (new_task r p) bytes)

-- What it sends

module _ (d : DeviceCore) (s : State) (r : Request) (h : Describes d s) (free : task_of r.tag s.tasks ≡ None)
    (few : length s.tasks < most_tasks) (after : Core) (command : Cdb) (all bytes : List ℕ) (size : ℕ) where
  abbrev data_at : ℕ → Bool → State
  data_at n b = machine.with_task s r (Some command) n (if b then Answering Good n else SendingBytes bytes)

  abbrev held_at : Bool → DeviceCore
  held_at b =
      core_keeping d r after (if b then phase.Answer status.Good size else phase.SendHeld size) (with_zeros all)

  -- the first bytes of what it keeps, as many as its host expects
  pub held_begins : length all ≤ 4096 → take size all ≡ bytes → length bytes ≡ size →
      sends_frames (Some command) ≡ false → IsLayerWith after s.translation (claims_of (numbers_of s) s.tasks) →
      IsBehind (core_keeping d r after (held_phase size (min r.expected size)) (with_zeros all))
      (data_begun s r command bytes)
  held_begins short first long quiet layer =
      subst (IsBehind (held_at (min r.expected size == 0)))
      (sym (λ i. data_at (long i) (min r.expected (long i) == 0))) (by (min r.expected size == 0) refl)
    where
      within : size ≤ length all
      within = let least = length-take size all in let same = ap length first in omega arith

      kept_first : take size (with_zeros all) ≡ bytes
      kept_first = take-append-le size all (drop (length all) zero_block) within ∙ first

      by : (b : Bool) → (min r.expected size == 0) ≡ b → IsBehind (held_at b) (data_at size b)
      by true e =
          opens_still d s r h free few after (Some command) size (Answering Good size) _ layer
          (record { wanted = λ i. refl; claimed = λ m total. refl }) (λ l. tt)
          (record {
            lun = refl;
            tag = refl;
            expected = refl;
            brings = brings_none 0 (Some command) quiet;
            gathers = tt;
            asked_of = tt;
            request = refl;
            asks = tt;
            fits = tt;
            doing = (refl, refl);
            read = refl;
          }) (λ e. absurd (false≢true e))
      by false e =
          opens_still d s r h free few after (Some command) size (SendingBytes bytes) _ layer
          (record { wanted = λ i. refl; claimed = λ m total. refl }) (λ l. tt)
          (record {
            lun = refl;
            tag = refl;
            expected = refl;
            brings = brings_none 0 (Some command) quiet;
            gathers = tt;
            asked_of = tt;
            request = refl;
            asks = tt;
            fits = (
              refl,
              record {
                all = with_zeros all;
                is_held = refl;
                long = zeros_length all short;
                deed_is = ap SendingBytes (sym kept_first);
              },
            );
            doing = (long, refl, some_told (min r.expected size) e);
            read = refl;
          }) (λ e. absurd (false≢true e))
