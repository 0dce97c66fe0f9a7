-- A COMMAND: what the device makes of it, and what the journal hears.
use Rattle.ufs_spec.specs.Exchanges.{Comparing, ReadingArea}
use Rattle.heard_laws.proofs.Common.{Answering, Awaited, Awaiting, Blocks, Bool, Cdb, Deed, ForFrames, ForUnmap, Frames}
use Rattle.heard_laws.proofs.Common.{Gathering, Good, IsConfig, List, None, OpenTask, Option, Request, Some, State}
use Rattle.heard_laws.proofs.Common.{Status, Task, UnmapList, Verdict, [], ap, arith, cond-false, false, false≢true}
use Rattle.heard_laws.proofs.Common.{if_both, if_cases, is_command, is_none, length, locked, lun_of, map, mended, not}
use Rattle.heard_laws.proofs.Common.{numbers_of, refl, refusal, spelled_cdb, subst, sym, true, with_moves, ℕ, ◌&&◌, ◌*◌, ◌++◌}
use Rattle.heard_laws.proofs.Common.{◌+◌, ◌<◌, ◌==◌, ◌∙◌, ◌∷◌, ◌≡◌, ◌≤◌}
use Rattle.std.proofs.Common.{nat_le, nat_lt, ◌^◌, ◌||◌}
use Rattle.std.proofs.lemmas.List.{get_or-map}
use Rattle.std.specs.List.{flat_map}
use Rattle.std.specs.Prelude.{slice_index_or}
use Rattle.ufs_spec.proofs.ConfigFacts.{config_tests, ranges}
use Rattle.ufs_spec.proofs.Facts.{and_parts, leb-true, not-false, not-true, or_from}
use Rattle.ufs_spec.specs.Begins.{gathering_begun, of_write, unmap_begun}
use Rattle.ufs_spec.specs.Cdbs.{blocks_brought, brought}
use Rattle.ufs_laws.proofs.walk.WaysOfCommands.{expecting}
use Rattle.journal.specs.Heard.{brought_by}
use Rattle.ufs_spec.specs.Cdbs.{carried}
use Rattle.ufs_spec.specs.Exchanges.{ReadBlock, Short}
use Rattle.ufs_spec.specs.Machine.{begun as device_begun, begun_if_any, data_begun, flush_begun, refused_or_begun}
use Rattle.ufs_spec.specs.Machine.{sending, sending_bytes, unit_or_first, with_task, write_begun}
use Rattle.ufs_spec.specs.Moves.{Claim}
use Rattle.ufs_spec.proofs.CommandTable.{RowBehind, row_behind}
use Rattle.ufs_spec.specs.CdbFields.{kind_of}
use Rattle.ufs_spec.specs.Refusals.{Lun, is_told_anywhere, lacks_unit, refused_state, row_in, tells_of_none, tests_unit}
use Rattle.ufs_spec.specs.Refusals.{unit_of_request}
use Rattle.ufs_spec.specs.declared.operations.Kind.{Kind}
use Rattle.ufs_spec.specs.declared.operations.Row.{Row}
use Rattle.ufs_spec.specs.declared.volatile.Volatile.{Volatile}
use Rattle.ufs_spec.specs.declared.configs.UnitSpec.{UnitSpec}
use Rattle.ufs_spec.specs.declared.scsi.Cdb.TheVariants as cdb
use Rattle.ufs_laws.proofs.walk.TaskLaws.{task_for}
use Rattle.power_loss.proofs.host_commands.PassedCommands.{Passed, UnitTold, lies_within, no_spec, passed, unit_told}
use Rattle.power_loss.proofs.host_commands.PassedCommands.{unmap_changes, write_changes}
use Rattle.journal.specs.Heard.{awaited_blocks, awaited_by, begun_write, promised_by}
use Rattle.journal.specs.declared.tasks.Awaited.TheVariants.{Nothing}
use Rattle.heard_laws.proofs.agreement.Agreement.{AtMost, DeedAgrees, IsBad, IsNamed, OpenAgrees}
use Rattle.heard_laws.proofs.agreement.PairsOpened.{at_most_of}
use Rattle.heard_laws.proofs.messages.RefusedCommands.{no_command, refused_ill}
use Rattle.heard_laws.proofs.rolls.Rolls.{Roll, count, count_least, count_none, somes}

-- what is open in the journal once it heard the COMMAND
abbrev pub open_as : Request → ℕ → Option Cdb → OpenTask
open_as r entries c =
    record {
      name = record { lun = r.lun; tag = r.tag };
      awaited = awaited_by r.lun c;
      promised = promised_by entries c;
    }

-- a WRITE waits for nothing or for blocks
blocks_command : (x : _) → is_command (awaited_blocks x) ≡ true
blocks_command None = refl
blocks_command (Some w) = refl

awaited_command : (lun : ℕ) (c : Option Cdb) → is_command (awaited_by lun c) ≡ true
awaited_command lun None = refl
awaited_command lun (Some (cdb.Write address blocks forced)) = blocks_command (begun_write lun address blocks forced)
awaited_command lun (Some (cdb.Unmap list)) = refl
awaited_command lun (Some (cdb.SecurityOut region size)) = refl
awaited_command lun (Some command) = refl

few_promised : (entries : ℕ) (c : Option Cdb) → promised_by entries c ≤ entries
few_promised entries None = omega arith
few_promised entries (Some (cdb.Flush immediate)) =
    if_both (λ (n : ℕ). n ≤ entries) immediate (omega arith) (omega arith)
few_promised entries (Some command) = omega arith

pub open_named : (r : Request) (entries : ℕ) (c : Option Cdb) (roll : Roll) → length roll ≡ entries →
    IsNamed r.lun r.tag roll (open_as r entries c)
open_named r entries c roll long = record {
  lun_is = refl;
  tag_is = refl;
  is_task = awaited_command r.lun c;
  inside = let l = few_promised entries c in omega (arith, l, long);
}

-- TASK SET FULL is not GOOD, whatever the command waits for
pub bad_open : (is_locked : Bool) (roll : Roll) (short : Short) (a : Awaited) → is_command a ≡ true →
    IsBad short.reply → short.awaits ≡ None → OpenAgrees is_locked roll short a
bad_open is_locked roll short (Verdict place) is bad none = absurd (false≢true is)
bad_open is_locked roll short (Blocks w) is bad none = (bad, none)
bad_open is_locked roll short Nothing is bad none = (bad, none)
bad_open is_locked roll short UnmapList is bad none = (bad, none)
bad_open is_locked roll short (Frames number) is bad none = (bad, none)

-- ## What begins

-- a task is opened that does what the journal expects
pub record Opened (s : State) (r : Request) (ready : Bool) (roll : Roll) (o : Option OpenTask) (t : State) : Type 0
  where
    pub task : Task
    pub tasks_are : t.tasks ≡ s.tasks ++ task ∷ []
    pub shorts_are : t.shorts ≡ s.shorts
    pub accepted_are : t.accepted ≡ s.accepted
    pub lun_is : task.lun ≡ r.lun
    pub tag_is : task.tag ≡ r.tag
    pub deed : DeedAgrees (numbers_of s) ready roll r.lun task.deed o

-- the LUN is there of a command that passed, but for those that tell that it is not
lun_there : (s : State) (r : Request) (c : Cdb) → Passed s r c → spelled_cdb r.bytes ≡ Some c →
    tells_of_none (kind_of c) ≡ false → is_none (lun_of (numbers_of s) r.lun) ≡ false
lun_there s r c p spells other = by (lun_of (numbers_of s) r.lun) p.unit
  where
    its : RowBehind r.bytes c
    its = row_behind r.bytes c spells

    told : is_told_anywhere (numbers_of s) (row_in r) ≡ true → tells_of_none (kind_of c) ≡ true
    told e =
        subst (λ (k : Kind). tells_of_none k ≡ true) its.kind_is
        (and_parts (nat_lt 0 (numbers_of s).profile) (tells_of_none its.row.kind)
        (subst (λ (o : Option Row). is_told_anywhere (numbers_of s) o ≡ true) its.found e)).1

    by : (x : Option Lun) → lacks_unit s r x ≡ false → is_none x ≡ false
    by None lacks = absurd (false≢true (sym other ∙ told (not-false _ lacks)))
    by (Some lun) lacks = refl

-- what passed is ready
ready_told : (is_mended tests is_locked : Bool) → not (is_mended || (not tests && is_locked)) ≡ false →
    (is_locked || is_mended) ≡ true
ready_told true tests true e = refl
ready_told true tests false e = refl
ready_told false true is_locked e = absurd (false≢true (sym e))
ready_told false false true e = refl
ready_told false false false e = absurd (false≢true (sym e))

-- a unit has fewer blocks than four bytes count
address_fits : (s : State) (r : Request) (c : Cdb) (address blocks : ℕ) → IsConfig (numbers_of s) → UnitTold s r →
    address + blocks ≤ slice_index_or (map (λ (u : UnitSpec). u.blocks) (numbers_of s).units.items) r.lun 0 →
    nat_le (2 ^ 32) address ≡ false
address_fits s r c address blocks config told within =
    let units = (numbers_of s).units.items in
    let bound = ((ranges (numbers_of s) (config_tests (numbers_of s) config).0).each_unit r.lun no_spec
    told.there).blocks_bound in
    let same = get_or-map (λ (u : UnitSpec). u.blocks) units r.lun no_spec 0 told.there in
    lt-leb-false (omega (arith, bound, same, within))
  where
    lt-leb-false : address < 2 ^ 32 → nat_le (2 ^ 32) address ≡ false
    lt-leb-false l = by (nat_le (2 ^ 32) address) refl
      where
        by : (b : Bool) → nat_le (2 ^ 32) address ≡ b → b ≡ false
        by true e = let k = leb-true (2 ^ 32) address e in absurd (omega (arith, l, k))
        by false e = refl

module _ (s : State) (r : Request) (entries : ℕ) (roll : Roll) (all : somes roll ≡ s.accepted) where
  abbrev its : Cdb → OpenTask
  its c = open_as r entries (Some c)

  abbrev Opens : Cdb → State → Type 0
  Opens c = Opened s r (locked s || mended s) roll (Some (its c))

  abbrev Does : Cdb → Deed → Type 0
  Does c deed = DeedAgrees (numbers_of s) (locked s || mended s) roll r.lun deed (Some (its c))

  -- a command that is no flush promises nothing at its COMMAND
  quiet : (c : Cdb) → promised_by entries (Some c) ≡ 0 → AtMost 0 roll (Some (its c))
  quiet c e =
      let same = ap (λ (p : ℕ). count p roll) e in
      at_most_of roll (its c) (omega (arith, same, count_none roll))

  one : (c : Cdb) (u : State) (n : ℕ) (deed : Deed) → u.tasks ≡ s.tasks → u.shorts ≡ s.shorts →
      u.accepted ≡ s.accepted → Does c deed → Opens c (with_task u r (Some c) n deed)
  one c u n deed e f g does = record {
    task = task_for r (Some c) n deed;
    tasks_are = ap (λ (ts : List Task). ts ++ task_for r (Some c) n deed ∷ []) e;
    shorts_are = f;
    accepted_are = g;
    lun_is = refl;
    tag_is = refl;
    deed = does;
  }

  -- the same of a WRITE of which so many bytes count as expected
  one_of : (c : Cdb) (u : State) (expected n : ℕ) (deed : Deed) → u.tasks ≡ s.tasks → u.shorts ≡ s.shorts →
      u.accepted ≡ s.accepted → Does c deed → Opens c (with_task u (expecting r expected) (Some c) n deed)
  one_of c u expected n deed e f g does = record {
    task = task_for (expecting r expected) (Some c) n deed;
    tasks_are = ap (λ (ts : List Task). ts ++ task_for (expecting r expected) (Some c) n deed ∷ []) e;
    shorts_are = f;
    accepted_are = g;
    lun_is = refl;
    tag_is = refl;
    deed = does;
  }

  good : (c : Cdb) (n m : ℕ) → promised_by entries (Some c) ≡ 0 → Opens c (with_task s r (Some c) n (Answering Good m))
  good c n m e = one c s n (Answering Good m) refl refl refl (λ is. quiet c e)

  telling : (c : Cdb) (volatile : Volatile) (bytes : List ℕ) → promised_by entries (Some c) ≡ 0 →
      Opens c (data_begun (record s { volatile = volatile }) r c bytes)
  telling c volatile bytes e =
      one c (record s { volatile = volatile }) (length bytes) (sending_bytes r bytes) refl refl refl
      (if_both (Does c) (carried r.expected (length bytes) == 0) (λ is. quiet c e) (quiet c e))

  sends : (c : Cdb) (blocks : List ReadBlock) (n : ℕ) → promised_by entries (Some c) ≡ 0 → Does c (sending blocks n)
  sends c [] n e = λ is. quiet c e
  sends c (b ∷ bs) n e = quiet c e

  flushed : (immediate : Bool) → (mended s ≡ false → s.accepted ≡ []) →
      Opens (cdb.Flush immediate) (flush_begun s r (cdb.Flush immediate) immediate)
  flushed true none = good (cdb.Flush true) 0 0 refl
  flushed false none =
      if_cases (λ (d : Deed). Opens (cdb.Flush false) (with_task s r (Some (cdb.Flush false)) 0 d)) (not (mended s))
      (λ e. one (cdb.Flush false) s 0 (Answering Good 0) refl refl refl
      (λ is. at_most_of roll (its (cdb.Flush false))
      (let l = count_least entries roll in
      let nothing = ap length (all ∙ none (not-true (mended s) e)) in
      omega (arith, l, nothing))))
      (λ e. one (cdb.Flush false) s 0 (Awaiting (length s.accepted)) refl refl refl
      (at_most_of roll (its (cdb.Flush false))
      (let l = count_least entries roll in let same = ap length all in omega (arith, l, same))))

  written : (unit address blocks : ℕ) (forced : Bool) (n : ℕ) → unit ≡ r.lun →
      is_none (lun_of (numbers_of s) r.lun) ≡ false → nat_le (2 ^ 32) address ≡ false →
      Opens (cdb.Write address blocks forced) (write_begun s r unit address blocks forced n)
  written unit address blocks forced n is there fits =
      if_cases (Opens (cdb.Write address blocks forced)) (blocks == 0)
      (λ none. one_of (cdb.Write address blocks forced) s (of_write r n).expected n (Answering Good n) refl refl refl
      (λ is. quiet (cdb.Write address blocks forced) refl))
      (λ some. one_of (cdb.Write address blocks forced) (with_moves s (Claim blocks ∷ [])) (of_write r n).expected n _
      refl refl refl
      (record {
        write = record { unit = r.lun; address = address; count = blocks; forced = forced; blocks = [] };
        waits = record {
          task = its (cdb.Write address blocks forced);
          is = refl;
          awaits = ap awaited_blocks (cond-false ((blocks == 0) || nat_le (2 ^ 32) address) None _
              (or_from (blocks == 0) (nat_le (2 ^ 32) address) some fits));
          nothing = refl;
          there = there;
        };
        same = record {
          unit_is = sym is;
          address_is = refl;
          count_is = refl;
          forced_is = refl;
          came = refl;
          long = omega arith;
        };
      }))

  unmapped : (unit list : ℕ) → unit ≡ r.lun → is_none (lun_of (numbers_of s) r.lun) ≡ false →
      Opens (cdb.Unmap list) (unmap_begun s r unit list)
  unmapped unit list is there =
      if_cases (Opens (cdb.Unmap list)) (list == 0)
      (λ none. good (cdb.Unmap list) 0 0 refl)
      (λ some. one (cdb.Unmap list) _ list (Gathering (ForUnmap unit) [] false) refl refl refl
      (record { task = its (cdb.Unmap list); is = refl; awaits = refl; nothing = refl; there = there }, refl, is))

  framed : (region n : ℕ) → is_none (lun_of (numbers_of s) r.lun) ≡ false → (locked s || mended s) ≡ true →
      Opens (cdb.SecurityOut region n) (gathering_begun s r (cdb.SecurityOut region n) n (ForFrames region))
  framed region n there ready =
      one (cdb.SecurityOut region n) _ n (Gathering (ForFrames region) [] false) refl refl refl (
        record { task = its (cdb.SecurityOut region n); is = refl; awaits = refl; nothing = refl; there = there },
        refl,
        ready,
      )

  -- the command that passed the table begins
  pub begins : (c : Cdb) → r.cdb ≡ Some c → IsConfig (numbers_of s) → refusal s r ≡ None →
      spelled_cdb r.bytes ≡ Some c → (mended s ≡ false → s.accepted ≡ []) →
      Opens (brought r.expected c) (device_begun s r (unit_or_first (unit_of_request s r)) c)
  begins cdb.Nothing e config passes spells none = good cdb.Nothing 0 0 refl
  begins (cdb.Tell what select allocation) e config passes spells none =
      telling (cdb.Tell what select allocation) _ _ refl
  begins (cdb.Read address blocks) e config passes spells none =
      one (cdb.Read address blocks) _ (4096 * blocks) _ refl refl refl (sends (cdb.Read address blocks) _ _ refl)
  begins (cdb.Write address blocks forced) e config passes spells none =
      let c = cdb.Write address blocks forced in
      let p = passed s r c e passes in
      let told = unit_told s r c (write_changes r.bytes c spells refl) p in
      written (unit_or_first (unit_of_request s r)) address (blocks_brought r.expected blocks) forced (4096 * blocks)
      (ap unit_or_first told.is)
      (lun_there s r c p spells refl)
      (address_fits s r c address blocks config told (lies_within c told p.within))
  begins (cdb.Flush immediate) e config passes spells none = flushed immediate none
  begins (cdb.Verify address blocks false) e config passes spells none =
      let c = cdb.Verify address blocks false in
      if_cases (Opens c) (blocks == 0) (λ none. good c 0 0 refl)
      (λ some. one c _ 0 (ReadingArea _) refl refl refl (quiet c refl))
  begins (cdb.Verify address blocks true) e config passes spells none =
      let c = cdb.Verify address blocks true in
      if_cases (Opens c) (blocks == 0) (λ none. good c 0 0 refl)
      (λ some. one c _ (4096 * blocks) (Comparing _ 0 false) refl refl refl
      (record {
        task = its c;
        is = refl;
        awaits = refl;
        nothing = refl;
        there = lun_there s r c (passed s r c e passes) spells refl;
      }))
  begins (cdb.Prefetch address blocks) e config passes spells none = good (cdb.Prefetch address blocks) 0 0 refl
  begins (cdb.Diagnose tests) e config passes spells none = good (cdb.Diagnose tests) 0 0 refl
  begins (cdb.Unmap list) e config passes spells none =
      let c = cdb.Unmap list in
      let p = passed s r c e passes in
      let told = unit_told s r c (unmap_changes r.bytes c spells refl) p in
      unmapped (unit_or_first (unit_of_request s r)) list (ap unit_or_first told.is) (lun_there s r c p spells refl)
  begins (cdb.SecurityIn region n) e config passes spells none =
      let t = telling (cdb.SecurityIn region n) s.volatile (flat_map (λ frame. frame) (s.registers region).response) refl in
      record {
        task = t.task;
        tasks_are = t.tasks_are;
        shorts_are = t.shorts_are;
        accepted_are = t.accepted_are;
        lun_is = t.lun_is;
        tag_is = t.tag_is;
        deed = t.deed;
      }
  begins (cdb.SecurityOut region n) e config passes spells none =
      let p = passed s r (cdb.SecurityOut region n) e passes in
      framed region n (lun_there s r (cdb.SecurityOut region n) p spells refl)
      (ready_told (mended s) (tests_unit (cdb.SecurityOut region n)) (locked s) p.ready)

  -- one that is refused is not answered GOOD
  pub refuses : (status : Status) (c : Option Cdb) → refusal s r ≡ Some status →
      Opened s r (locked s || mended s) roll (Some (open_as r entries c))
      (with_task (refused_state s r) r None 0 (Answering status 0))
  refuses status c e = record {
    task = _;
    tasks_are = refl;
    shorts_are = refl;
    accepted_are = refl;
    lun_is = refl;
    tag_is = refl;
    deed = λ good. absurd (refused_ill s r e good);
  }

  -- what a COMMAND opens, if it opens a task
  pub opens : (x : Option Status) → refusal s r ≡ x → IsConfig (numbers_of s) → r.cdb ≡ spelled_cdb r.bytes →
      (mended s ≡ false → s.accepted ≡ []) →
      Opened s r (locked s || mended s) roll (Some (open_as r entries (brought_by r.expected r.cdb)))
      (refused_or_begun s r x)
  opens (Some status) e config spells none = refuses status (brought_by r.expected r.cdb) e
  opens None e config spells none = by r.cdb refl
    where
      by : (c : Option Cdb) → r.cdb ≡ c →
          Opened s r (locked s || mended s) roll (Some (open_as r entries (brought_by r.expected c)))
          (begun_if_any s r c)
      by None k = absurd (no_command s r e k)
      by (Some c) k = begins c k config e (sym spells ∙ k) none
