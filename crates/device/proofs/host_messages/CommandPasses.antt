-- What the table tells of a command that it lets through: no line of it applies.
use Rattle.ufs_spec.specs.Refusals.{brought, may_be_cut}
use Rattle.device.proofs.Common.{Bool, Cdb, Group, IsTied, List, None, Option, Passes, Plan, Request, Some, State, []}
use Rattle.device.proofs.Common.{ap, arith, command_blocks, div_ceil, drop, durable, eqb-true, false, false≢true}
use Rattle.device.proofs.Common.{first_line, free_slots, greatest_command, has_other_response, has_wrong_list, inl, inr}
use Rattle.device.proofs.Common.{le-leb, length, length-drop, lines_after}
use Rattle.device.proofs.Common.{list_any, locked, ltb-false, min, nat_le, nat_lt, nat_tests}
use Rattle.device.proofs.Common.{numbers_of, or_parts, out_of_range, refl, refusal, sends_frames, sequence_error}
use Rattle.device.proofs.Common.{slice_get, suc, sym, true, unit_numbers_of, zero, ℕ, ◌%◌, ◌+◌, ◌<◌, ◌||◌, ◌∙◌, ◌∷◌}
use Rattle.device.proofs.Common.{◌≡◌, ◌≤◌, ◌⊎◌}
use Rattle.std.specs.Prelude.{◌&&◌, ◌*◌, ◌/◌, ◌==◌}
use Rattle.std.specs.List.{sum_by}
use Rattle.std.proofs.lemmas.List.Sums.{get_or-le-sum_by}
use Rattle.ufs_spec.proofs.ConfigFacts.{command_blocks-few}
use Rattle.ufs_spec.specs.Cdbs.{blocks_of, direction_of}
use Rattle.ufs_spec.specs.Exchanges.{Task, invalid_field, list_length_error, not_ready, saving_unsupported}
use Rattle.ufs_spec.specs.Exchanges.{self_test_failed, write_protected}
use Rattle.ufs_spec.specs.Refusals.{fails_test, is_beyond, lacks_operation, lacks_page, wants_saved}
use Rattle.ufs_spec.specs.declared.exchanges.Status.TheVariants.{Busy}
use Rattle.ufs_spec.specs.Refusals.{is_crowded, is_past, is_refused_write, is_security_out, is_too_long, is_unready}
use Rattle.ufs_spec.specs.Refusals.{lacks_data, lacks_region, lacks_response, length_in, slots_needed}
use Rattle.ufs_spec.specs.Translation.{has_pending}
use Rattle.ufs_spec.specs.declared.scsi.Cdb.TheVariants as cdb
use Rattle.ufs_laws.proofs.exchanges.TakenCommandsKnown.{passed_line, past}
use Rattle.ufs_laws.proofs.plain_contents.GroupsOfCommands.{length-groups}

-- Lines

pub record Checked (s : State) (r : Request) (command : Cdb) : Type 0 where
  pub region_there : lacks_region (numbers_of s) command ≡ false
  pub too_long : is_too_long (numbers_of s) command ≡ false
  pub listed : has_wrong_list command ≡ false
  pub refused : is_refused_write s (unit_numbers_of s r) command ≡ false
  pub response : has_other_response s command ≡ false
  pub crowded : is_crowded s (brought r.expected command) ≡ false

checked : (s : State) (r : Request) (command : Cdb) → r.cdb ≡ Some command → refusal s r ≡ None → Checked s r command
checked s r command is none =
    let lines : first_line (lines_after s r (Some command)) ≡ None =
    sym (ap (λ (c : Option Cdb). first_line (lines_after s r c)) is) ∙ (past s r none).later in
    let within = passed_line (is_beyond (numbers_of s) r) invalid_field _ lines in
    let there =
    passed_line
    (lacks_region (numbers_of s) command || (lacks_page (numbers_of s) r.lun command || lacks_operation command))
    invalid_field _ within.1 in
    let saved = passed_line (wants_saved command) saving_unsupported _ there.1 in
    let c = passed_line (is_too_long (numbers_of s) command) invalid_field _ saved.1 in
    let d = passed_line (has_wrong_list command) list_length_error _ c.1 in
    let e =
    passed_line (lacks_data r (direction_of command) (may_be_cut (numbers_of s) command) (length_in s r command))
    invalid_field _ d.1 in
    let f = passed_line (is_past command (unit_numbers_of s r)) out_of_range _ e.1 in
    let g = passed_line (is_unready s command) not_ready _ f.1 in
    let i = passed_line (is_refused_write s (unit_numbers_of s r) command) write_protected _ g.1 in
    let tested = passed_line (fails_test s command) self_test_failed _ i.1 in
    let j = passed_line (lacks_response s command) sequence_error _ tested.1 in
    let k = passed_line (has_other_response s command) invalid_field _ j.1 in
    let l = passed_line (is_crowded s (brought r.expected command)) Busy _ k.1 in
    record {
      region_there =
          (or_parts (lacks_region (numbers_of s) command)
          (lacks_page (numbers_of s) r.lun command || lacks_operation command) there.0).0;
      too_long = c.0;
      listed = d.0;
      refused = i.0;
      response = k.0;
      crowded = l.0;
    }

-- what is known of a command that passed
pub record IsFree (s : State) (r : Request) (command : Cdb) : Type 0 where
  pub few : blocks_of command ≤ greatest_command
  pub not_long : is_too_long (numbers_of s) command ≡ false
  pub listed : has_wrong_list command ≡ false
  pub response : has_other_response s command ≡ false
  pub alone :
      (is_security_out (brought r.expected command) && list_any (λ (task : Task). sends_frames task.command) s.tasks) ≡ false
  pub slots : slots_needed (numbers_of s) (brought r.expected command) ≤ free_slots s.translation
  pub refused : is_refused_write s (unit_numbers_of s r) command ≡ false

few_told : (s : State) (command : Cdb) → is_too_long (numbers_of s) command ≡ false →
    blocks_of command ≤ greatest_command
few_told s (cdb.SecurityIn region size) h = omega arith
few_told s (cdb.SecurityOut region size) h = omega arith
few_told s command h =
    let few = ltb-false (command_blocks (numbers_of s)) (blocks_of command) h in
    let most = command_blocks-few (numbers_of s) in
    omega (arith, few, most)

pub free_told : (s : State) (r : Request) (todo : Plan) → (h : Passes s r todo) → IsFree s r h.command
free_told s r todo h =
    let k = checked s r h.command h.is h.passed in
    let both = or_parts
    (is_security_out (brought r.expected h.command) && list_any (λ (task : Task). sends_frames task.command) s.tasks)
    (nat_lt (free_slots s.translation) (slots_needed (numbers_of s) (brought r.expected h.command))) k.crowded in
    record {
      few = few_told s h.command k.too_long;
      not_long = k.too_long;
      listed = k.listed;
      response = k.response;
      alone = both.0;
      slots =
          ltb-false (free_slots s.translation) (slots_needed (numbers_of s) (brought r.expected h.command)) both.1;
      refused = k.refused;
    }

-- How many blocks a READ sends

pub some_told : (n : ℕ) → (n == 0) ≡ false → 1 ≤ n
some_told n h = grind (arith, nat_tests)

none_least : (a b : ℕ) → (b ≡ 0) ⊎ (a ≡ 0) → min a (4096 * b) ≡ 0
none_least a b (inl h) = omega arith
none_least a b (inr h) = omega arith

pub none_expected : (expected blocks : ℕ) → ((blocks == 0) || (expected == 0)) ≡ true →
    div_ceil (min expected (4096 * blocks)) 4096 ≡ 0
none_expected expected blocks h =
    ap (λ (n : ℕ). div_ceil n 4096) (none_least expected blocks (by (blocks == 0) (expected == 0) refl refl h))
  where
    by : (a b : Bool) → (blocks == 0) ≡ a → (expected == 0) ≡ b → (a || b) ≡ true → (blocks ≡ 0) ⊎ (expected ≡ 0)
    by true b e f k = inl (eqb-true blocks 0 e)
    by false true e f k = inr (eqb-true expected 0 f)
    by false false e f k = absurd (false≢true k)

ceil_some : (n b : ℕ) → 1 ≤ n → n ≤ 4096 * b → (1 ≤ n / 4096 + min 1 (n % 4096)) × (n / 4096 + min 1 (n % 4096) ≤ b)
ceil_some n b low high = (omega arith, omega arith)

-- at least one, and no more than it has
pub some_expected : (expected blocks : ℕ) → ((blocks == 0) || (expected == 0)) ≡ false →
    (1 ≤ div_ceil (min expected (4096 * blocks)) 4096) × (div_ceil (min expected (4096 * blocks)) 4096 ≤ blocks)
some_expected expected blocks h =
    let both = or_parts (blocks == 0) (expected == 0) h in
    let some : 1 ≤ blocks = some_told blocks both.0 in
    let more : 1 ≤ expected = some_told expected both.1 in
    ceil_some (min expected (4096 * blocks)) blocks (omega arith) (omega arith)

-- What is durable of a locked device

get_dropped : (xs : List Group) (k i : ℕ) → slice_get (drop k xs) i ≡ slice_get xs (i + k)
get_dropped xs zero i = ap (slice_get xs) (none i)
  where
    none : (i : ℕ) → i ≡ i + 0
    none i = omega arith
get_dropped [] (suc k) i = refl
get_dropped (x ∷ xs) (suc k) i = get_dropped xs k i ∙ ap (slice_get (x ∷ xs)) (more i k)
  where
    more : (i k : ℕ) → suc (i + k) ≡ i + suc k
    more i k = omega arith

none_left : (groups : List Group) (r k : ℕ) → ((j : ℕ) (g : Group) → slice_get groups j ≡ Some g → 0 < length g) →
    nat_lt 0 (sum_by length (drop k (drop r groups))) ≡ false → length (drop r groups) ≤ k
none_left groups r k some none = by (drop k (drop r groups)) refl none
  where
    by : (gs : List Group) → drop k (drop r groups) ≡ gs → nat_lt 0 (sum_by length gs) ≡ false →
        length (drop r groups) ≤ k
    by [] e h = let size = ap length e in let all = length-drop k (drop r groups) in omega arith
    by (g ∷ gs) e h =
        let there : slice_get groups (0 + k + r) ≡ Some g =
        sym (get_dropped groups r (0 + k)) ∙ (sym (get_dropped (drop r groups) k 0)
        ∙ ap (λ (xs : List Group). slice_get xs 0) e) in
        let long = some (0 + k + r) g there in
        let least : length g ≤ sum_by length (g ∷ gs) = get_or-le-sum_by length (g ∷ gs) 0 g (omega arith) in
        let short = ltb-false 0 (sum_by length (g ∷ gs)) h in
        absurd (omega arith)

-- where nothing is pending all that was accepted is durable
pub all_durable : (s : State) → IsTied s → has_pending s.translation ≡ false →
    nat_le (length s.accepted) (durable s) ≡ true
all_durable s v none =
    let l = s.translation.ledger in
    let few = none_left l.groups l.repairs (durable s) v.valid.book_right.some none in
    let same = ap length v.groups in
    let count = length-groups s.base s.accepted in
    le-leb (length s.accepted) (durable s) (omega arith)

-- a flush that passed finds all durable where the device is locked
pub flush_durable : (s : State) (b : Bool) → IsTied s → (b && locked s && has_pending s.translation) ≡ false →
    b ≡ true → locked s ≡ true → nat_le (length s.accepted) (durable s) ≡ true
flush_durable s b v refused is lock =
    all_durable s v
    (sym (λ i. is i && lock i && has_pending s.translation) ∙ refused)
