-- The unit of a command that reads or writes blocks is there, so the addresses of its blocks are those of keys.
use Rattle.device.proofs.Common.{Bool, Cdb, Err, IfOk, IsNamed, List, None, Numbers, Ok, Option, Passes, Plan, Request}
use Rattle.device.proofs.Common.{Result, Some, State, Status, UnitSpec, ap, arith, false, first_line}
use Rattle.device.proofs.Common.{get_or, if◌then◌else◌, invalid_operation, lacks_unit, lines_after, lines_for}
use Rattle.device.proofs.Common.{lun_of, no_unit, numbers_of, plain_now, position, position_told, refl, refusal, slice_get}
use Rattle.device.proofs.Common.{slice_get-get_or, spelled_cdb, subst, sym, target_of, true, true≢false}
use Rattle.device.proofs.Common.{unit_numbers_at, unit_numbers_of, ℕ, ⊎_elim, ◌<◌, ◌∙◌, ◌∷◌, ◌≡◌}
use Rattle.std.proofs.Common.{◌^◌}
use Rattle.std.specs.Prelude.{IfErr, IfSome, IsOk, is_none, nat_le, ◌&&◌, ◌==◌}
use Rattle.ufs_spec.proofs.CommandTable.{IsUnit, changes_blocks, changing_taken, reading_taken, row_behind}
use Rattle.ufs_spec.specs.CdbFields.{kind_of}
use Rattle.ufs_spec.specs.Cdbs.{address_of}
use Rattle.ufs_spec.proofs.Facts.{and_from, and_parts, not-false}
use Rattle.ufs_spec.specs.Exchanges.{invalid_field, message_error, unit_attention}
use Rattle.ufs_spec.specs.Refusals.{BootUnit, Lun, boot_unit, goes_beyond, is_beyond, is_boot_read, is_not_simple}
use Rattle.ufs_spec.specs.Refusals.{is_told_anywhere, line, meets_attention, needs_blocks, not_taken, row_in, takes}
use Rattle.ufs_spec.specs.Refusals.{takes_row, unit_in}
use Rattle.ufs_spec.specs.declared.operations.Row.{Row}
use Rattle.ufs_spec.specs.declared.scsi.Cdb.TheVariants as cdb
use Rattle.power_loss.proofs.host_commands.PassedCommands.{changes_told, lun_told, no_spec}
use Rattle.power_loss.proofs.host_commands.ReadBlocks.{reads_told}
use Rattle.device.specs.Plans.{IsRequest, plan_of}
use Rattle.device.specs.declared.targets.Target.{Target}

-- the unit that boots, where one does
boot_there : (n : Numbers) (boot : ℕ) (unit : Option ℕ) → boot_unit n boot ≡ unit → is_none unit ≡ false →
    (u : UnitSpec) × (unit_numbers_at n unit ≡ Some u)
boot_there n boot None e h = absurd (true≢false h)
boot_there n boot (Some i) e h = by (boot == 0) e
  where
    none : None ≡ Some i → ⊥
    none k = cc

    by : (b : Bool) →
        (if b then None else position (λ (u : UnitSpec). u.boot == boot) n.units.items) ≡ Some i →
        (u : UnitSpec) × (unit_numbers_at n (Some i) ≡ Some u)
    by true k = absurd (none k)
    by false k = let told = position_told (λ (u : UnitSpec). u.boot == boot) n.units.items i k in (told.0, told.1)

-- the unit of a request
abbrev pub HasUnit : State → Request → Type 0
HasUnit s r = (u : UnitSpec) × (unit_numbers_of s r ≡ Some u)

-- the same of one that names this LUN
abbrev HasUnitAt : State → Request → Option Lun → Type 0
HasUnitAt s r l = (u : UnitSpec) × (unit_numbers_at (numbers_of s) (unit_in s r l) ≡ Some u)

of_unit : (s : State) (r : Request) (lun : Lun) → lun_of (numbers_of s) r.lun ≡ Some lun → IsUnit lun →
    HasUnitAt s r (Some lun)
of_unit s r lun named (unit, e) =
    let units = (numbers_of s).units.items in
    let told = lun_told (numbers_of s) (named ∙ ap Some e) in
    subst (λ (l : Lun). HasUnitAt s r (Some l)) (sym e)
    (get_or units r.lun no_spec, ap (slice_get units) told.1 ∙ slice_get-get_or units r.lun no_spec told.0)

of_boot : (s : State) (r : Request) (lun : Lun) → lacks_unit s r (Some lun) ≡ false →
    is_boot_read (numbers_of s) (row_in r) ≡ true → lun ≡ BootUnit → HasUnitAt s r (Some lun)
of_boot s r lun lacks boots e =
    let unit = boot_unit (numbers_of s) (plain_now s).boot in
    let there = subst (λ (l : Lun). lacks_unit s r (Some l) ≡ false) e lacks in
    subst (λ (l : Lun). HasUnitAt s r (Some l)) (sym e)
    (boot_there (numbers_of s) (plain_now s).boot unit refl
    (sym (ap (λ (b : Bool). b && is_none unit) boots) ∙ there))

-- the device's profile has the row, and the LUN takes it
taken_by : (s : State) (r : Request) (lun : Lun) (row : Row) → row_in r ≡ Some row →
    not_taken (numbers_of s) r (Some lun) ≡ false →
    (nat_le row.profile (numbers_of s).profile ≡ true) × (takes lun row ≡ true)
taken_by s r lun row e taken =
    and_parts (nat_le row.profile (numbers_of s).profile) (takes lun row)
    (subst (λ (o : Option Row). takes_row (numbers_of s) lun o ≡ true) e
    (not-false (takes_row (numbers_of s) lun (row_in r)) taken))

-- what is answered where there is no unit needs none and changes none
reads_at : (s : State) (r : Request) (row : Row) → row_in r ≡ Some row → needs_blocks row.kind ≡ true →
    (o : Option Lun) → lun_of (numbers_of s) r.lun ≡ o → lacks_unit s r o ≡ false →
    not_taken (numbers_of s) r o ≡ false → HasUnitAt s r o
reads_at s r row found needs None named lacks taken =
    absurd
    (reads_told (numbers_of s) r.bytes (row, found, needs)
    (not-false (is_told_anywhere (numbers_of s) (row_in r)) lacks))
reads_at s r row found needs (Some lun) named lacks taken =
    let parts = taken_by s r lun row found taken in
    let boots = ap (is_boot_read (numbers_of s)) found
    ∙ and_from (nat_le row.profile (numbers_of s).profile) (needs_blocks row.kind) parts.0 needs in
    ⊎_elim (of_unit s r lun named) (of_boot s r lun lacks boots) (reading_taken r.bytes row lun found needs parts.1)

changes_at : (s : State) (r : Request) (row : Row) → row_in r ≡ Some row → changes_blocks row.kind ≡ true →
    (o : Option Lun) → lun_of (numbers_of s) r.lun ≡ o → lacks_unit s r o ≡ false →
    not_taken (numbers_of s) r o ≡ false → HasUnitAt s r o
changes_at s r row found changes None named lacks taken =
    absurd
    (changes_told (numbers_of s) r.bytes (row, found, changes)
    (not-false (is_told_anywhere (numbers_of s) (row_in r)) lacks))
changes_at s r row found changes (Some lun) named lacks taken =
    of_unit s r lun named
    (changing_taken r.bytes row lun found changes (taken_by s r lun row found taken).1)

-- what reads blocks, or tells how many there are, has a unit
pub reads_there : (s : State) (r : Request) (c : Cdb) → IsNamed s r → spelled_cdb r.bytes ≡ Some c →
    needs_blocks (kind_of c) ≡ true → HasUnit s r
reads_there s r c n spells needs =
    let its = row_behind r.bytes c spells in
    subst (HasUnitAt s r) (sym n.named)
    (reads_at s r its.row its.found (ap needs_blocks its.kind_is ∙ needs) n.lun n.named n.there n.takes_it)

-- and so has what changes them
pub writes_there : (s : State) (r : Request) (c : Cdb) → IsNamed s r → spelled_cdb r.bytes ≡ Some c →
    changes_blocks (kind_of c) ≡ true → HasUnit s r
writes_there s r c n spells changes =
    let its = row_behind r.bytes c spells in
    subst (HasUnitAt s r) (sym n.named)
    (changes_at s r its.row its.found (ap changes_blocks its.kind_is ∙ changes) n.lun n.named n.there n.takes_it)

-- the blocks of a command that lie in the unit that is there have addresses of keys
pub address_fits : (s : State) (r : Request) (c : Cdb) → IsNamed s r → spelled_cdb r.bytes ≡ Some c →
    IfSome (unit_numbers_of s r) (λ (u : UnitSpec). address_of c < 2 ^ 32) → address_of c < 2 ^ 32
address_fits s r (cdb.Read address blocks) n spells within =
    let there = reads_there s r (cdb.Read address blocks) n spells refl in
    subst (λ (o : Option UnitSpec). IfSome o (λ (u : UnitSpec). address < 2 ^ 32)) there.1 within
address_fits s r (cdb.Write address blocks forced) n spells within =
    let there = writes_there s r (cdb.Write address blocks forced) n spells refl in
    subst (λ (o : Option UnitSpec). IfSome o (λ (u : UnitSpec). address < 2 ^ 32)) there.1 within
address_fits s r (cdb.Verify address blocks compared) n spells within =
    let there = writes_there s r (cdb.Verify address blocks compared) n spells refl in
    subst (λ (o : Option UnitSpec). IfSome o (λ (u : UnitSpec). address < 2 ^ 32)) there.1 within
address_fits s r (cdb.Prefetch address blocks) n spells within =
    let there = writes_there s r (cdb.Prefetch address blocks) n spells refl in
    subst (λ (o : Option UnitSpec). IfSome o (λ (u : UnitSpec). address < 2 ^ 32)) there.1 within
address_fits s r c n spells within = omega arith

-- ## The plan of a command that no line refuses

-- of a command that names a LUN which takes it the later lines decide
later_lines : (s : State) (r : Request) (c : Option Cdb) → IsNamed s r → r.cdb ≡ c →
    refusal s r ≡ first_line (lines_after s r c)
later_lines s r c n is =
    (λ i. first_line (line (lacks_unit s r (n.named i)) no_unit
    ∷ line (meets_attention s r (n.named i)) unit_attention ∷ line (is_not_simple r) message_error
    ∷ line (not_taken (numbers_of s) r (n.named i)) invalid_operation ∷ lines_after s r (is i)))
    ∙ by (lacks_unit s r n.lun) (meets_attention s r n.lun) (is_not_simple r) (not_taken (numbers_of s) r n.lun)
    n.there n.calm n.simple n.takes_it
  where
    by : (a m t b : Bool) → a ≡ false → m ≡ false → t ≡ false → b ≡ false →
        first_line (line a no_unit ∷ line m unit_attention ∷ line t message_error ∷ line b invalid_operation
        ∷ lines_after s r c) ≡ first_line (lines_after s r c)
    by false false false false e f g h = refl
    by true m t b e f g h = absurd (true≢false e)
    by false true t b e f g h = absurd (true≢false f)
    by false false true b e f g h = absurd (true≢false g)
    by false false false true e f g h = absurd (true≢false h)

-- those of a command that does not go beyond the device's profile
later_decide : (s : State) (r : Request) (c : Cdb) → IsNamed s r → r.cdb ≡ Some c → is_beyond (numbers_of s) r ≡ false →
    refusal s r ≡ first_line (lines_for s r c)
later_decide s r c n is within =
    later_lines s r (Some c) n is
    ∙ ap (λ (b : Bool). if b then Some invalid_field else first_line (lines_for s r c)) within

-- what goes beyond it, by the bytes of the CDB and their row
pub beyond_is : (s : State) (r : Request) (bytes : List ℕ) (row : Option Row) → r.bytes ≡ bytes → row_in r ≡ row →
    is_beyond (numbers_of s) r ≡ (((numbers_of s).profile == 0) && goes_beyond bytes row)
beyond_is s r bytes row are is i = ((numbers_of s).profile == 0) && goes_beyond (are i) (is i)

-- and one that goes beyond it is refused, whatever it spells
pub beyond_refused : (s : State) (r : Request) → IsNamed s r → is_beyond (numbers_of s) r ≡ true →
    refusal s r ≡ Some invalid_field
beyond_refused s r n beyond = by r.cdb refl
  where
    by : (c : Option Cdb) → r.cdb ≡ c → refusal s r ≡ Some invalid_field
    by None e = later_lines s r None n e
    by (Some c) e =
        later_lines s r (Some c) n e
        ∙ ap (λ (b : Bool). if b then Some invalid_field else first_line (lines_for s r c)) beyond

-- so they do of one whose bytes spell a command
pub refused_so : (s : State) (r : Request) (flags lun expected : ℕ) (bytes : List ℕ) (c : Cdb) →
    IsRequest r flags lun expected bytes → IsNamed s r → Some c ≡ spelled_cdb bytes → is_beyond (numbers_of s) r ≡ false →
    refusal s r ≡ first_line (lines_for s r c)
refused_so s r flags lun expected bytes c asks named spells =
    later_decide s r c named (asks.spelled ∙ sym spells)

-- what is said of a result that is one
pub if_ok : (P : Plan → Type 0) (x : Result Plan Status) (todo : Plan) → x ≡ Ok todo → IfOk x P → P todo
if_ok P x todo e = subst (λ (y : Result Plan Status). IfOk y P) e

pub if_err : (P : Status → Type 0) (x : Result Plan Status) (told : Status) → x ≡ Err told → IfErr x P → P told
if_err P x told e = subst (λ (y : Result Plan Status). IfErr y P) e

pub is_ok : (x : Result Plan Status) (todo : Plan) → x ≡ Ok todo → IsOk x
is_ok x todo e = subst (λ (y : Result Plan Status). IsOk y) (sym e) refl

pub planned_passes : (s : State) (r : Request) (flags lun expected : ℕ) (bytes : List ℕ) (target : Target) (c : Cdb)
    (todo : Plan) → IsRequest r flags lun expected bytes → IsNamed s r × (target ≡ target_of s r) →
    Some c ≡ spelled_cdb bytes → is_beyond (numbers_of s) r ≡ false → first_line (lines_for s r c) ≡ None →
    IfSome target.spec (λ (u : UnitSpec). address_of c < 2 ^ 32) →
    (address_of c < 2 ^ 32 → todo ≡ plan_of (numbers_of s) target expected c) → Passes s r todo
planned_passes s r flags lun expected bytes target c todo asks routed spells fewer lines within planned =
    let named = routed.0 in
    let is : r.cdb ≡ Some c = asks.spelled ∙ sym spells in
    let spelled : spelled_cdb r.bytes ≡ Some c = ap spelled_cdb asks.bytes_are ∙ sym spells in
    let spec : target.spec ≡ unit_numbers_of s r = ap (λ (t : Target). t.spec) routed.1 in
    let fits = address_fits s r c named spelled
    (subst (λ (o : Option UnitSpec). IfSome o (λ (u : UnitSpec). address_of c < 2 ^ 32)) spec within) in
    record {
      passed = later_decide s r c named is fewer ∙ lines;
      named = named;
      command = c;
      is = is;
      spelled = spelled;
      todo_is =
          planned fits ∙ (λ i. plan_of (numbers_of s) (routed.1 i) (sym asks.expected_is i) c);
    }
