-- What holds of each row of the table of commands holds of the row by which a CDB is read, and that row is of the kind of
-- its command.
use Rattle.std.proofs.Common.{◌≡◌, ℕ, ◌∙◌, ◌&&◌, ◌||◌, Bool, true, false, cond, not, List, [], ◌∷◌, find, Option, Some}
use Rattle.std.proofs.Common.{None, refl, sym, ap, subst, inl, inr, ◌⊎◌}
use Rattle.std.specs.List.{list_all}
use Rattle.std.specs.Prelude.{◌<◌, ◌==◌, nat_lt}
use Rattle.std.proofs.lemmas.Bool.{ltb-true}
use Rattle.ufs_spec.proofs.Facts.{and_parts, false≢true, none-some, same_Some, true≢false}
use Rattle.ufs_spec.specs.CdbFields.{asked_as, command_of, fields_in, has_only, is_group, is_row_of, kind_of, names_region}
use Rattle.ufs_spec.specs.CdbFields.{row_of, rpmb_protocol, selects, spelled_cdb, spelled_in, taken_if, told_with, usage_of}
use Rattle.ufs_spec.specs.Plain.{regions}
use Rattle.ufs_spec.specs.Refusals.{BootUnit, DeviceUnit, Lun, ReportLunsUnit, RpmbUnit, UnitOf, needs_blocks, takes}
use Rattle.ufs_spec.specs.declared.operations.Fields.{Fields}
use Rattle.ufs_spec.specs.declared.operations.Kind.{Kind}
use Rattle.ufs_spec.specs.declared.operations.Kind.TheVariants as kind
use Rattle.ufs_spec.specs.declared.operations.Row.{Row}
use Rattle.ufs_spec.specs.declared.operations.Takers.{Takers}
use Rattle.ufs_spec.specs.declared.operations.Told.{Told}
use Rattle.ufs_spec.specs.declared.operations.Told.TheVariants as told
use Rattle.ufs_spec.specs.declared.operations.TheConstants.{COMMANDS}
use Rattle.ufs_spec.specs.declared.scsi.Cdb.{Cdb}
use Rattle.ufs_spec.specs.declared.scsi.Cdb.TheVariants as cdb

-- ## Rows

-- what passes a test that all pass passes it
pub found_holds : {X : Type 0} (p test : X → Bool) (xs : List X) (x : X) → list_all test xs ≡ true →
    find p xs ≡ Some x → test x ≡ true
found_holds p test [] x all e = absurd (none-some x e)
found_holds {X} p test (y ∷ ys) x all e =
    by (p y) e (λ k. found_holds p test ys x (and_parts (test y) (list_all test ys) all).1 k)
  where
    by : (b : Bool) → cond b (Some y) (find p ys) ≡ Some x → (find p ys ≡ Some x → test x ≡ true) → test x ≡ true
    by true k later = subst (λ (z : X). test z ≡ true) (same_Some y x k) (and_parts (test y) (list_all test ys) all).0
    by false k later = later k

-- a test that each row of the table passes, which is evaluated, is passed by the row of a CDB
pub row_holds : (test : Row → Bool) → list_all test COMMANDS ≡ true → (bytes : List ℕ) (row : Row) →
    row_of bytes ≡ Some row → test row ≡ true
row_holds test all bytes row e = found_holds (is_row_of bytes) test COMMANDS row all e

-- ## The row of a command

taken_kind : (b : Bool) (c d : Cdb) → taken_if b c ≡ Some d → kind_of c ≡ kind_of d
taken_kind true c d e = ap kind_of (same_Some c d e)
taken_kind false c d e = absurd (none-some d e)

-- no row tells a page of vital product data by itself: INQUIRY does
abbrev is_own : Kind → Bool
is_own (kind.Tell told.Page) = false
is_own other = true

own : (bytes : List ℕ) (row : Row) → row_of bytes ≡ Some row → is_own row.kind ≡ true
own bytes row e = row_holds (λ (r : Row). is_own r.kind) refl bytes row e

told_kind : (what : Told) (option : Bool) → is_own (kind.Tell what) ≡ true → asked_as (told_with option what) ≡ what
told_kind told.Sense true h = refl
told_kind told.Sense false h = refl
told_kind told.Identity true h = refl
told_kind told.Identity false h = refl
told_kind told.Capacity true h = refl
told_kind told.Capacity false h = refl
told_kind told.Units true h = refl
told_kind told.Units false h = refl
told_kind told.LongCapacity true h = refl
told_kind told.LongCapacity false h = refl
told_kind told.Modes true h = refl
told_kind told.Modes false h = refl
told_kind told.ShortModes true h = refl
told_kind told.ShortModes false h = refl
told_kind told.Operations true h = refl
told_kind told.Operations false h = refl
told_kind told.Page option h = absurd (false≢true h)

-- what is made of a row's fields is of the row's kind
pub kind_told : (k : Kind) (f : Fields) (c : Cdb) → is_own k ≡ true → command_of k f ≡ Some c → k ≡ kind_of c
kind_told kind.Nothing f c h e = ap kind_of (same_Some _ c e)
kind_told (kind.Tell what) f c h e =
    ap kind.Tell (sym (told_kind what f.option h))
    ∙ taken_kind (selects (told_with f.option what) f.select) (cdb.Tell (told_with f.option what) f.select f.count) c e
kind_told kind.Read f c h e = taken_kind (is_group f.group) (cdb.Read f.address f.count) c e
kind_told kind.Write f c h e = taken_kind (is_group f.group) (cdb.Write f.address f.count f.option) c e
kind_told kind.Flush f c h e = taken_kind (is_group f.group) (cdb.Flush f.option) c e
kind_told kind.Verify f c h e = taken_kind (is_group f.group) (cdb.Verify f.address f.count f.option) c e
kind_told kind.Prefetch f c h e = taken_kind (is_group f.group) (cdb.Prefetch f.address f.count) c e
kind_told kind.Diagnose f c h e = ap kind_of (same_Some _ c e)
kind_told kind.Unmap f c h e = ap kind_of (same_Some _ c e)
kind_told kind.SecurityIn f c h e = taken_kind (names_region f) (cdb.SecurityIn f.select f.count) c e
kind_told kind.SecurityOut f c h e = taken_kind (names_region f) (cdb.SecurityOut f.select f.count) c e

-- the row by which a CDB was read
pub record RowBehind (bytes : List ℕ) (c : Cdb) : Type 0 where
  pub row : Row
  pub found : row_of bytes ≡ Some row
  pub named : command_of row.kind (fields_in row.option row.layout bytes) ≡ Some c
  pub kind_is : row.kind ≡ kind_of c

pub row_behind : (bytes : List ℕ) (c : Cdb) → spelled_cdb bytes ≡ Some c → RowBehind bytes c
row_behind bytes c e = by (row_of bytes) refl e
  where
    named : (row : Row) (b : Bool) →
        cond b (command_of row.kind (fields_in row.option row.layout bytes)) None ≡ Some c →
        command_of row.kind (fields_in row.option row.layout bytes) ≡ Some c
    named row true k = k
    named row false k = absurd (none-some c k)

    by : (o : Option Row) → row_of bytes ≡ o → spelled_in bytes o ≡ Some c → RowBehind bytes c
    by None f k = absurd (none-some c k)
    by (Some row) f k =
        let its = named row (has_only (usage_of 1 row) bytes) k in
        record { row = row; found = f; named = its; kind_is = kind_told row.kind _ c (own bytes row f) its }

-- a security command names one of the four regions, whether or not it is there
abbrev pub IsOfRegion : Cdb → Type 0
IsOfRegion (cdb.SecurityIn region size) = region < regions
IsOfRegion (cdb.SecurityOut region size) = region < regions
IsOfRegion command = Unit {0}

of_region : (b : Bool) (c d : Cdb) → (b ≡ true → IsOfRegion c) → taken_if b c ≡ Some d → IsOfRegion d
of_region true c d h e = subst IsOfRegion (same_Some c d e) (h refl)
of_region false c d h e = absurd (none-some d e)

named_region : (f : Fields) → names_region f ≡ true → f.select < regions
named_region f e = ltb-true f.select regions (and_parts (f.protocol == rpmb_protocol) (nat_lt f.select regions) e).1

region_told : (k : Kind) (f : Fields) (c : Cdb) → command_of k f ≡ Some c → IsOfRegion c
region_told kind.Nothing f c e = subst IsOfRegion (same_Some _ c e) tt
region_told (kind.Tell what) f c e =
    of_region (selects (told_with f.option what) f.select) (cdb.Tell (told_with f.option what) f.select f.count) c
    (λ k. tt) e
region_told kind.Read f c e = of_region (is_group f.group) (cdb.Read f.address f.count) c (λ k. tt) e
region_told kind.Write f c e = of_region (is_group f.group) (cdb.Write f.address f.count f.option) c (λ k. tt) e
region_told kind.Flush f c e = of_region (is_group f.group) (cdb.Flush f.option) c (λ k. tt) e
region_told kind.Verify f c e = of_region (is_group f.group) (cdb.Verify f.address f.count f.option) c (λ k. tt) e
region_told kind.Prefetch f c e = of_region (is_group f.group) (cdb.Prefetch f.address f.count) c (λ k. tt) e
region_told kind.Diagnose f c e = subst IsOfRegion (same_Some _ c e) tt
region_told kind.Unmap f c e = subst IsOfRegion (same_Some _ c e) tt
region_told kind.SecurityIn f c e =
    of_region (names_region f) (cdb.SecurityIn f.select f.count) c (named_region f) e
region_told kind.SecurityOut f c e =
    of_region (names_region f) (cdb.SecurityOut f.select f.count) c (named_region f) e

pub region_in : (bytes : List ℕ) (c : Cdb) → spelled_cdb bytes ≡ Some c → IsOfRegion c
region_in bytes c e = let its = row_behind bytes c e in region_told its.row.kind _ c its.named

-- ## Who takes what

-- commands of these kinds are for units of the configuration alone: those that change blocks, and PRE-FETCH
abbrev pub changes_blocks : Kind → Bool
changes_blocks kind.Write = true
changes_blocks kind.Verify = true
changes_blocks kind.Prefetch = true
changes_blocks kind.Unmap = true
changes_blocks other = false

-- no well-known unit takes what changes blocks, and the boot unit alone what reads them
abbrev is_closed : Row → Bool
is_closed row =
    (not (changes_blocks row.kind) || not row.takers.boot)
    && (not (changes_blocks row.kind || needs_blocks row.kind)
    || not (row.takers.report_luns || (row.takers.rpmb || row.takers.device)))

closed : (bytes : List ℕ) (row : Row) → row_of bytes ≡ Some row → is_closed row ≡ true
closed bytes row e = row_holds is_closed refl bytes row e

-- what takes a command is a unit of the configuration
abbrev pub IsUnit : Lun → Type 0
IsUnit lun = (unit : ℕ) × (lun ≡ UnitOf unit)

-- one half of the test
apart : (a b c d : Bool) → ((not a || not b) && (not (a || c) || not d)) ≡ true → a ≡ true → (b ≡ false) × (d ≡ false)
apart true true c d h k = absurd (false≢true h)
apart true false c true h k = absurd (false≢true h)
apart true false c false h k = (refl, refl)
apart false b c d h k = absurd (false≢true k)

read_apart : (a b c d : Bool) → ((not a || not b) && (not (a || c) || not d)) ≡ true → c ≡ true → d ≡ false
read_apart a b true false h k = refl
read_apart true true true true h k = absurd (false≢true h)
read_apart true false true true h k = absurd (false≢true h)
read_apart false b true true h k = absurd (false≢true h)
read_apart a b false d h k = absurd (false≢true k)

no_other : (a b c : Bool) → (a || (b || c)) ≡ false → (a ≡ false) × (b ≡ false) × (c ≡ false)
no_other false false false h = (refl, refl, refl)
no_other true b c h = absurd (true≢false h)
no_other false true c h = absurd (true≢false h)
no_other false false true h = absurd (true≢false h)

-- what changes blocks is taken by units of the configuration alone
pub changing_taken : (bytes : List ℕ) (row : Row) (lun : Lun) → row_of bytes ≡ Some row →
    changes_blocks row.kind ≡ true → takes lun row ≡ true → IsUnit lun
changing_taken bytes row lun e changes = by lun
  where
    t : Takers
    t = row.takers

    none : (t.boot ≡ false) × ((t.report_luns || (t.rpmb || t.device)) ≡ false)
    none = apart (changes_blocks row.kind) t.boot (needs_blocks row.kind) (t.report_luns || (t.rpmb || t.device))
        (closed bytes row e) changes

    others : (t.report_luns ≡ false) × (t.rpmb ≡ false) × (t.device ≡ false)
    others = no_other t.report_luns t.rpmb t.device none.1

    by : (l : Lun) → takes l row ≡ true → IsUnit l
    by (UnitOf unit) k = (unit, refl)
    by ReportLunsUnit k = absurd (false≢true (sym others.0 ∙ k))
    by BootUnit k = absurd (false≢true (sym none.0 ∙ k))
    by RpmbUnit k = absurd (false≢true (sym others.1 ∙ k))
    by DeviceUnit k = absurd (false≢true (sym others.2 ∙ k))

-- what reads blocks is taken by units of the configuration and by the boot unit alone
pub reading_taken : (bytes : List ℕ) (row : Row) (lun : Lun) → row_of bytes ≡ Some row →
    needs_blocks row.kind ≡ true → takes lun row ≡ true → IsUnit lun ⊎ (lun ≡ BootUnit)
reading_taken bytes row lun e needs = by lun
  where
    t : Takers
    t = row.takers

    others : (t.report_luns ≡ false) × (t.rpmb ≡ false) × (t.device ≡ false)
    others = no_other t.report_luns t.rpmb t.device
        (read_apart (changes_blocks row.kind) t.boot (needs_blocks row.kind) (t.report_luns || (t.rpmb || t.device))
        (closed bytes row e) needs)

    by : (l : Lun) → takes l row ≡ true → IsUnit l ⊎ (l ≡ BootUnit)
    by (UnitOf unit) k = inl (unit, refl)
    by BootUnit k = inr refl
    by ReportLunsUnit k = absurd (false≢true (sym others.0 ∙ k))
    by RpmbUnit k = absurd (false≢true (sym others.1 ∙ k))
    by DeviceUnit k = absurd (false≢true (sym others.2 ∙ k))
