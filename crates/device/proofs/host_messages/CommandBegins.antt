-- A command that the table lets through begins what was planned for it, and any other is refused.
use Rattle.device.proofs.Common.{Answering, Bool, Cdb, Core, Describes, DeviceCore, Err, IsKey, IsNamed, IsPlanned}
use Rattle.device.proofs.Common.{List, None, Ok, Option, Passes, Phase, Plan, Request, Result, Some, State, Status}
use Rattle.device.proofs.Common.{Volatile, [], ap, arith, data_begun, data_key, div_ceil, false, first_line}
use Rattle.device.proofs.Common.{if◌then◌else◌, invalid_operation, lacks_unit, length, lines_after, lun_of, min}
use Rattle.device.proofs.Common.{most_tasks, no_unit, none-some, numbers_of, refl, refusal, same_Some, shape_of_numbers}
use Rattle.device.proofs.Common.{spelled_cdb, subst, sym, take, target_of, task_of, true, ℕ, ◌<◌, ◌||◌, ◌∙◌, ◌∷◌, ◌≡◌}
use Rattle.std.specs.Prelude.{◌*◌, ◌+◌, ◌==◌}
use Rattle.ufs_spec.specs.Begins.{begun_if_any, refused_or_begun, told_bytes, unit_or_first, volatile_told}
use Rattle.ufs_spec.proofs.CommandTable.{region_in}
use Rattle.ufs_spec.specs.Cdbs.{address_of, blocks_brought, blocks_of}
use Rattle.ufs_spec.specs.Changes.{with_task}
use Rattle.ufs_spec.specs.Exchanges.{message_error, unit_attention}
use Rattle.ufs_spec.specs.Refusals.{Line, Lun, is_not_simple, line, meets_attention, not_taken, table, unit_of_request}
use Rattle.ufs_spec.specs.Refusals.{volatile_by, without_attention}
use Rattle.std.specs.List.{AllByRecursion}
use Rattle.ufs_spec.specs.declared.operations.Told.{Told}
use Rattle.ufs_spec.specs.declared.operations.Told.TheVariants as told
use Rattle.ufs_spec.specs.declared.scsi.Cdb.TheVariants as cdb
use Rattle.power_loss.proofs.host_commands.OpenedByCommands.{key_verified}
use Rattle.power_loss.proofs.host_commands.PassedCommands.{Passed, passed, verify_changes}
use Rattle.power_loss.proofs.host_commands.ReadBlocks.{Reads, key_read, reads_in}
use Rattle.task_set.specs.declared.tasks.Phase.TheVariants as phase
use Rattle.lun_route.specs.Luns.{place_of}
use Rattle.device.specs.Attentions.{attention_set, is_attention, tells_sense, volatile_left, with_attention_at}
use Rattle.device.specs.Plans.{identity_of, length_on, plan_of, send_plan}
use Rattle.device.specs.declared.plans.Plan.TheVariants as plan
use Rattle.device.specs.declared.plans.Source.TheVariants as source
use Rattle.device.proofs.described.Answered.{IsBehind}
use Rattle.device.proofs.described.VolatileChanges.{volatile_changed}
use Rattle.device.proofs.host_messages.BlocksBegin.{read_begins}
use Rattle.device.proofs.host_messages.CommandPasses.{IsFree, flush_durable, free_told}
use Rattle.device.proofs.host_messages.CommandTags.{others_send}
use Rattle.device.proofs.host_messages.ComparesBegin.{compare_begins}
use Rattle.device.proofs.host_messages.FramesBegin.{taken_begins}
use Rattle.device.proofs.host_messages.GathersBegin.{asked_begins, list_begins, write_begins}
use Rattle.device.proofs.host_messages.ReadOpened.{core_opened}
use Rattle.device.proofs.host_messages.TasksBegin.{HasBegunFor, answer_opened, flush_begins, left_for, none_ends}
use Rattle.device.proofs.host_messages.TasksBegin.{nothing_begins, opened_for, same_phase}
use Rattle.device.proofs.host_messages.UnitsTold.{tell_begins}
use Rattle.device.proofs.host_messages.VerifyBegins.{verify_begins}

bytes_of : (blocks : ℕ) → 4096 * blocks ≡ blocks * 4096
bytes_of blocks = omega arith

-- Only the line of the attention changes what is volatile, and only it tells an attention

-- these lines change nothing, and tell none
abbrev AreQuiet : List Line → Volatile → Type 0
AreQuiet ls v = AllByRecursion (λ (l : Line). (l.becomes v ≡ v) × (is_attention l.status ≡ false)) ls

quiet_left : (ls : List Line) (v : Volatile) → AreQuiet ls v → volatile_by ls v ≡ v
quiet_left [] v all = refl
quiet_left (l ∷ ls) v all = by l.applies (quiet_left ls v all.1)
  where
    by : (b : Bool) → volatile_by ls v ≡ v → (if b then l.becomes v else volatile_by ls v) ≡ v
    by true rest = all.0.0
    by false rest = rest

quiet_told : (ls : List Line) (v : Volatile) → AreQuiet ls v → (told : Status) → first_line ls ≡ Some told →
    is_attention told ≡ false
quiet_told [] v all told e = absurd (none-some told e)
quiet_told (l ∷ ls) v all told e = by l.applies e (λ k. quiet_told ls v all.1 told k)
  where
    by : (b : Bool) → (if b then Some l.status else first_line ls) ≡ Some told →
        (first_line ls ≡ Some told → is_attention told ≡ false) → is_attention told ≡ false
    by true k rest = ap is_attention (same_Some told l.status (sym k)) ∙ all.0.1
    by false k rest = rest k

lines_quiet : (s : State) (r : Request) (c : Option Cdb) (v : Volatile) → AreQuiet (lines_after s r c) v
lines_quiet s r None v = ((refl, refl), tt)
lines_quiet s r (Some c) v = (
  (refl, refl),
  (
    (refl, refl),
    (
      (refl, refl),
      (
        (refl, refl),
        (
          (refl, refl),
          (
            (refl, refl),
            (
              (refl, refl),
              ((refl, refl), ((refl, refl), ((refl, refl), ((refl, refl), ((refl, refl), ((refl, refl), tt)))))),
            ),
          ),
        ),
      ),
    ),
  ),
)

-- what the attention of a LUN leaves that ends
left_without : (o : Option Lun) (v : Volatile) → with_attention_at (place_of o) false v ≡ without_attention o v
left_without None v = refl
left_without (Some lun) v = refl

-- what is left by the status that was told is what its line makes of what is volatile
table_leaves : (s : State) (r : Request) (told : Status) → refusal s r ≡ Some told →
    volatile_left (numbers_of s) r.lun (Err told) s.volatile ≡ volatile_by (table s r) s.volatile
table_leaves s r told refused = by (lacks_unit s r its_lun) (meets_attention s r its_lun) refused
  where
    its_lun : Option Lun
    its_lun = lun_of (numbers_of s) r.lun

    v : Volatile
    v = s.volatile

    rest : List Line
    rest =
        line (is_not_simple r) message_error ∷ line (not_taken (numbers_of s) r its_lun) invalid_operation
        ∷ lines_after s r r.cdb

    quiet : AreQuiet rest v
    quiet = ((refl, refl), ((refl, refl), lines_quiet s r r.cdb v))

    left : (b : Bool) → is_attention told ≡ b →
        volatile_left (numbers_of s) r.lun (Err told) v
        ≡ (if b then attention_set (numbers_of s) r.lun false v else v)
    left b = ap (λ (x : Bool). if x then attention_set (numbers_of s) r.lun false v else v)

    by : (a b : Bool) →
        (if a then Some no_unit else if b then Some unit_attention else first_line rest) ≡ Some told →
        volatile_left (numbers_of s) r.lun (Err told) v
        ≡ (if a then v else if b then without_attention its_lun v else volatile_by rest v)
    by true b e = left false (ap is_attention (same_Some told no_unit (sym e)))
    by false true e =
        left true (ap is_attention (same_Some told unit_attention (sym e))) ∙ left_without its_lun v
    by false false e = left false (quiet_told rest v quiet told e) ∙ sym (quiet_left rest v quiet)

-- What is planned

module _ (d : DeviceCore) (s : State) (r : Request) (h : Describes d s) (free : task_of r.tag s.tasks ≡ None)
    (few : length s.tasks < most_tasks) (after : Core) where
  abbrev Begins : Result Plan Status → Phase → Type 0
  Begins todo p = HasBegunFor s r after todo p

  abbrev Opens : Result Plan Status → Phase → State → Type 0
  Opens todo p v = IsBehind (opened_for d r after todo p) v

  -- the same once the attention of the LUN ended, if it was told
  abbrev Leaves : Result Plan Status → Phase → State → Type 0
  Leaves todo p v = IsBehind (left_for d r after todo p) v

  abbrev unit_now : ℕ
  unit_now = unit_or_first (unit_of_request s r)

  -- what a command does, and how far its task is then
  abbrev planned : Cdb → Plan
  planned command = plan_of (numbers_of s) (target_of s r) r.expected command

  -- the blocks of a READ that are sent are blocks of the device
  read_keys : (command : Cdb) (blocks : ℕ) → blocks_of command ≡ blocks → Reads r.bytes →
      Passed s r command → (i : ℕ) → i < div_ceil (min r.expected (4096 * blocks)) 4096 →
      IsKey (shape_of_numbers (numbers_of s)) (data_key unit_now (address_of command + i))
  read_keys command blocks are reads lets =
      key_read (bytes_of blocks ∙ sym (ap (λ (n : ℕ). n * 4096) are)) reads lets

  -- of a plan that tells no sense
  quiet : (todo : Plan) (p : Phase) (v : State) → tells_sense todo ≡ false → Opens (Ok todo) p v → Leaves (Ok todo) p v
  quiet todo p v none = subst (λ (x : DeviceCore). IsBehind x v) (none_ends d r after (Ok todo) p none)

  quiet_if : (b : Bool) (x y : Plan) → tells_sense x ≡ false → tells_sense y ≡ false →
      tells_sense (if b then x else y) ≡ false
  quiet_if true x y e f = e
  quiet_if false x y e f = f

  -- what REQUEST SENSE tells ends, and nothing else
  told_left : (what : Told) (select size : ℕ) →
      volatile_left d.ftl.numbers r.lun
      (Ok (send_plan r.expected (source.Identity (identity_of (target_of s r) what select)) size)) d.volatile
      ≡ volatile_told s r what
  told_left told.Sense select size =
      (λ i. attention_set (h.kept.layer_kept.kept.numbers i) r.lun false (h.kept.volatile i))
      ∙ left_without (lun_of (numbers_of s) r.lun) s.volatile
  told_left what select size = h.kept.volatile

  command_begins : (command : Cdb) (p : Phase) → spelled_cdb r.bytes ≡ Some command → IsNamed s r →
      Passed s r command → IsFree s r command → Begins (Ok (planned command)) p →
      Leaves (Ok (planned command)) p (begun_if_any s r (Some command))
  command_begins cdb.Nothing p spelled named lets k begun =
      quiet (plan.Nothing 0) p _ refl (nothing_begins d s r h free few after cdb.Nothing 0 p refl begun)
  command_begins (cdb.Tell what select allocation) p spelled named lets k begun =
      volatile_changed (opened_for d r after (Ok (planned (cdb.Tell what select allocation))) p)
      (data_begun s r (cdb.Tell what select allocation) (take allocation (told_bytes s r what select)))
      (volatile_left d.ftl.numbers r.lun (Ok (planned (cdb.Tell what select allocation))) d.volatile)
      (volatile_told s r what)
      (told_left what select (length_on (numbers_of s) r.lun (cdb.Tell what select allocation)))
      (tell_begins d s r h free few after what select allocation p named spelled begun)
  command_begins (cdb.Read address blocks) p spelled named lets k begun =
      quiet (planned (cdb.Read address blocks)) p _
      (quiet_if ((blocks == 0) || (r.expected == 0)) _ _ refl refl)
      (read_begins d s r h free few after (cdb.Read address blocks) unit_now address blocks p refl
      k.few (read_keys (cdb.Read address blocks) blocks refl (reads_in r.bytes (cdb.Read address blocks) spelled refl) lets)
      ((blocks == 0) || (r.expected == 0)) refl begun)
  command_begins (cdb.Write address blocks forced) p spelled named lets k begun =
      quiet (planned (cdb.Write address blocks forced)) p _
      (quiet_if (blocks_brought r.expected blocks == 0) _ _ refl refl)
      (write_begins d s r h free few after unit_now address (blocks_brought r.expected blocks) forced (4096 * blocks) p
      k.slots begun)
  command_begins (cdb.Verify address blocks true) p spelled named lets k begun =
      quiet (planned (cdb.Verify address blocks true)) p _ (quiet_if (blocks == 0) _ _ refl refl)
      (compare_begins d s r h free few after (cdb.Verify address blocks true) unit_now address blocks p refl k.few
      (key_verified blocks refl (verify_changes r.bytes (cdb.Verify address blocks true) spelled refl) lets)
      (blocks == 0) refl begun)
  command_begins (cdb.Verify address blocks false) p spelled named lets k begun =
      quiet (planned (cdb.Verify address blocks false)) p _ (quiet_if (blocks == 0) _ _ refl refl)
      (verify_begins d s r h free few after (cdb.Verify address blocks false) unit_now address blocks p refl k.few
      (key_verified blocks refl (verify_changes r.bytes (cdb.Verify address blocks false) spelled refl) lets)
      (blocks == 0) begun)
  command_begins (cdb.Prefetch address blocks) p spelled named lets k begun =
      quiet (plan.Nothing 0) p _ refl
      (nothing_begins d s r h free few after (cdb.Prefetch address blocks) 0 p refl begun)
  command_begins (cdb.Diagnose tests) p spelled named lets k begun =
      quiet (plan.Nothing 0) p _ refl (nothing_begins d s r h free few after (cdb.Diagnose tests) 0 p refl begun)
  command_begins (cdb.Flush immediate) p spelled named lets k begun =
      quiet (planned (cdb.Flush immediate)) p _ (quiet_if immediate _ _ refl refl)
      (flush_begins d s r h free few after (cdb.Flush immediate) immediate p refl
      (flush_durable s true h.tied k.refused refl) begun)
  command_begins (cdb.SecurityOut region n) p spelled named lets k begun =
      quiet (planned (cdb.SecurityOut region n)) p _ (quiet_if (n == 0) _ _ refl refl)
      (asked_begins d s r h free few after region n p (region_in r.bytes (cdb.SecurityOut region n) spelled) k.not_long
      (sym (others_send d s h) ∙ k.alone) k.slots begun)
  command_begins (cdb.SecurityIn region n) p spelled named lets k begun =
      quiet (planned (cdb.SecurityIn region n)) p _ refl
      (taken_begins d s r h free few after region n p (region_in r.bytes (cdb.SecurityIn region n) spelled) k.response
      k.not_long begun)
  command_begins (cdb.Unmap list) p spelled named lets k begun =
      quiet (planned (cdb.Unmap list)) p _ (quiet_if (list == 0) _ _ refl refl)
      (list_begins d s r h free few after unit_now list p k.listed k.slots (list == 0) refl begun)

  passes_begin : (todo : Plan) (p : Phase) → Passes s r todo → Begins (Ok todo) p →
      Leaves (Ok todo) p (begun_if_any s r r.cdb)
  passes_begin todo p passes begun =
      subst (Leaves (Ok todo) p) (sym (ap (begun_if_any s r) passes.is))
      (subst (λ (x : Plan). Leaves (Ok x) p (begun_if_any s r (Some passes.command)))
      (sym passes.todo_is)
      (command_begins passes.command p passes.spelled passes.named (passed s r passes.command passes.is passes.passed)
      (free_told s r todo passes)
      (subst (λ (x : Plan). Begins (Ok x) p) passes.todo_is begun)))

  -- what is planned begins, and is described then
  pub planned_begins : (todo : Result Plan Status) (p : Phase) → IsPlanned s r todo → Begins todo p →
      Leaves todo p (refused_or_begun s r (refusal s r))
  planned_begins (Err told) p is_planned begun =
      subst (Leaves (Err told) p) (sym (ap (refused_or_begun s r) is_planned))
      (volatile_changed (core_opened d r after p) (with_task s r None 0 (Answering told 0))
      (volatile_left d.ftl.numbers r.lun (Err told) d.volatile) (volatile_by (table s r) s.volatile)
      ((λ i. volatile_left (h.kept.layer_kept.kept.numbers i) r.lun (Err told) (h.kept.volatile i))
      ∙ table_leaves s r told is_planned)
      (same_phase d r after p (phase.Answer told 0) _ begun.0
      (answer_opened d s r h free few after None 0 0 told told 0 refl begun.1 refl refl)))
  planned_begins (Ok todo) p is_planned begun =
      subst (Leaves (Ok todo) p) (sym (ap (refused_or_begun s r) is_planned.passed))
      (passes_begin todo p is_planned begun)
