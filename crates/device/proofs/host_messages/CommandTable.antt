-- The table by which a command is refused, against the checks of the code: they end a command with the same status.
use Rattle.ufs_spec.specs.Refusals.{brought, may_be_cut}
use Rattle.device.proofs.Common.{Bool, Cdb, List, None, Numbers, Option, Request, Sense, Some, State, Status, UnitSpec}
use Rattle.device.proofs.Common.{[], ap, false, first_line, has_other_response, has_wrong_list, if◌then◌else◌}
use Rattle.device.proofs.Common.{lines_for, numbers_of, out_of_range, refl, sequence_error, sym, true}
use Rattle.device.proofs.Common.{true≢false, unit_numbers_of, ℕ, ◌||◌, ◌∙◌, ◌∷◌, ◌≡◌}
use Rattle.ufs_spec.specs.Cdbs.{direction_of, length_of}
use Rattle.ufs_spec.specs.Exchanges.{invalid_field, list_length_error, not_ready, saving_unsupported, self_test_failed}
use Rattle.ufs_spec.specs.Exchanges.{write_protected}
use Rattle.ufs_spec.specs.declared.exchanges.Status.TheVariants.{Busy}
use Rattle.ufs_spec.specs.Refusals.{Line, is_crowded, is_past, is_refused_write, is_too_long, is_unready, lacks_data}
use Rattle.ufs_spec.specs.Refusals.{fails_test, lacks_operation, lacks_page, lacks_region, lacks_response, length_in}
use Rattle.ufs_spec.specs.Refusals.{line, told_count, wants_saved}
use Rattle.ufs_spec.specs.declared.scsi.TheConstants.Sense.{COMMAND_SEQUENCE, INVALID_FIELD, LIST_LENGTH, NOT_READY}
use Rattle.ufs_spec.specs.declared.scsi.TheConstants.Sense.{OUT_OF_RANGE, SAVING_UNSUPPORTED, SELF_TEST_FAILED, WRITE_PROTECTED}
use Rattle.device.specs.Plans.{lines_now}
use Rattle.ufs_spec.specs.declared.exchanges.Status.TheVariants as status

-- Lines

abbrev lines_at : Bool → Bool → Bool → Bool → Bool → Bool → List Line → List Line
lines_at g v a w b p rest =
    line g invalid_field ∷ line v saving_unsupported ∷ line a invalid_field ∷ line w list_length_error
    ∷ line b invalid_field ∷ line p out_of_range ∷ rest

-- what a command names and is not there
abbrev pub lacks_named : Numbers → ℕ → Cdb → Bool
lacks_named n lun c = lacks_region n c || (lacks_page n lun c || lacks_operation c)

-- a device with these numbers lacks what the command to this LUN names, as they say
pub named_lacking : (n m : Numbers) (r : Request) (lun : ℕ) (c : Cdb) (b : Bool) → n ≡ m → r.lun ≡ lun →
    lacks_named n lun c ≡ b → lacks_named m r.lun c ≡ b
named_lacking n m r lun c b are is lacks = (λ i. lacks_named (sym are i) (is i) c) ∙ lacks

-- what is lacking of the data of a command that has so many bytes to tell
pub data_lacking : (s : State) (r : Request) (c : Cdb) (n : Numbers) (lun told : ℕ) (cut b : Bool) → n ≡ numbers_of s →
    r.lun ≡ lun → told ≡ told_count n lun c → cut ≡ may_be_cut n c →
    lacks_data r (direction_of c) cut (length_of told c) ≡ b →
    lacks_data r (direction_of c) (may_be_cut (numbers_of s) c) (length_in s r c) ≡ b
data_lacking s r c n lun told cut b are at is cuts lacks =
    (λ i. lacks_data r (direction_of c) (may_be_cut (sym are i) c) (length_of (told_count (sym are i) (at i) c) c))
    ∙ (λ i. lacks_data r (direction_of c) (sym cuts i) (length_of (sym is i) c)) ∙ lacks

abbrev check : Sense → Option Status
check sense = Some (status.CheckCondition sense)

-- what the code's first checks give, in their order, and then the rest
abbrev pub checks_of : Bool → Bool → Bool → Bool → Bool → Bool → Option Status → Option Status
checks_of g v a w b p rest =
    if g then check INVALID_FIELD
    else if v then check SAVING_UNSUPPORTED
    else if a then check INVALID_FIELD
    else if w then check LIST_LENGTH
    else if b then check INVALID_FIELD
    else if p then check OUT_OF_RANGE
    else rest

-- the lines of a command that these checks find so
lines_found : (s : State) (r : Request) (unit : Option UnitSpec) (c : Cdb) → unit_numbers_of s r ≡ unit →
    (g v a w b p : Bool) → lacks_named (numbers_of s) r.lun c ≡ g → wants_saved c ≡ v →
    is_too_long (numbers_of s) c ≡ a → has_wrong_list c ≡ w →
    lacks_data r (direction_of c) (may_be_cut (numbers_of s) c) (length_in s r c) ≡ b → is_past c unit ≡ p →
    first_line (lines_for s r c) ≡ first_line (lines_at g v a w b p (lines_now s unit r.expected c))
lines_found s r unit c spec g v a w b p kg kv ka kw kb kp = λ i.
    first_line (lines_at (kg i) (kv i) (ka i) (kw i) (kb i) ((ap (is_past c) spec ∙ kp) i) (lines_now s (spec i) r.expected c))

pub told_by : (s : State) (r : Request) (unit : Option UnitSpec) (c : Cdb) → unit_numbers_of s r ≡ unit →
    (g v a w b p : Bool) (rest : Option Status) → lacks_named (numbers_of s) r.lun c ≡ g → wants_saved c ≡ v →
    is_too_long (numbers_of s) c ≡ a → has_wrong_list c ≡ w → lacks_data r (direction_of c) (may_be_cut (numbers_of s) c) (length_in s r c) ≡ b →
    is_past c unit ≡ p → first_line (lines_now s unit r.expected c) ≡ rest →
    first_line (lines_for s r c) ≡ checks_of g v a w b p rest
told_by s r unit c spec g v a w b p rest kg kv ka kw kb kp now =
    lines_found s r unit c spec g v a w b p kg kv ka kw kb kp ∙ by g v a w b p
  where
    by : (g v a w b p : Bool) →
        first_line (lines_at g v a w b p (lines_now s unit r.expected c)) ≡ checks_of g v a w b p rest
    by true v a w b p = refl
    by false true a w b p = refl
    by false false true w b p = refl
    by false false false true b p = refl
    by false false false false true p = refl
    by false false false false false true = refl
    by false false false false false false = now

-- where one of the first checks ends it
pub told_early : (s : State) (r : Request) (unit : Option UnitSpec) (c : Cdb) → unit_numbers_of s r ≡ unit →
    (g v a w b p : Bool) → (g || (v || (a || (w || (b || p))))) ≡ true → lacks_named (numbers_of s) r.lun c ≡ g →
    wants_saved c ≡ v → is_too_long (numbers_of s) c ≡ a → has_wrong_list c ≡ w →
    lacks_data r (direction_of c) (may_be_cut (numbers_of s) c) (length_in s r c) ≡ b → is_past c unit ≡ p →
    first_line (lines_for s r c) ≡ checks_of g v a w b p None
told_early s r unit c spec g v a w b p early kg kv ka kw kb kp =
    lines_found s r unit c spec g v a w b p kg kv ka kw kb kp ∙ by g v a w b p early
  where
    by : (g v a w b p : Bool) → (g || (v || (a || (w || (b || p))))) ≡ true →
        first_line (lines_at g v a w b p (lines_now s unit r.expected c)) ≡ checks_of g v a w b p None
    by true v a w b p e = refl
    by false true a w b p e = refl
    by false false true w b p e = refl
    by false false false true b p e = refl
    by false false false false true p e = refl
    by false false false false false true e = refl
    by false false false false false false e = absurd (true≢false (sym e))

-- what the checks by what the device is now give
abbrev pub checks_now : Bool → Bool → Bool → Bool → Bool → Bool → Option Status
checks_now a b t p e f =
    if a then check NOT_READY
    else if b then check WRITE_PROTECTED
    else if t then check SELF_TEST_FAILED
    else if p then check COMMAND_SEQUENCE
    else if e then check INVALID_FIELD
    else if f then Some status.Busy
    else None

pub now_told : (s : State) (unit : Option UnitSpec) (expected : ℕ) (c : Cdb) (a b t p e f : Bool) →
    is_unready s c ≡ a → is_refused_write s unit c ≡ b → fails_test s c ≡ t → lacks_response s c ≡ p →
    has_other_response s c ≡ e → is_crowded s (brought expected c) ≡ f →
    first_line (lines_now s unit expected c) ≡ checks_now a b t p e f
now_told s unit expected c a b t p e f ka kb kt kp ke kf =
    (λ i. first_line (line (ka i) not_ready ∷ line (kb i) write_protected ∷ line (kt i) self_test_failed
    ∷ line (kp i) sequence_error ∷ line (ke i) invalid_field ∷ line (kf i) Busy ∷ []))
    ∙ by a b t p e f
  where
    by : (a b t p e f : Bool) →
        first_line (line a not_ready ∷ line b write_protected ∷ line t self_test_failed ∷ line p sequence_error
        ∷ line e invalid_field ∷ line f Busy ∷ []) ≡ checks_now a b t p e f
    by true b t p e f = refl
    by false true t p e f = refl
    by false false true p e f = refl
    by false false false true e f = refl
    by false false false false true f = refl
    by false false false false false true = refl
    by false false false false false false = refl
