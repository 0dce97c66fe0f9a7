-- What a LUN byte and the row of an operation code name, by what their routing says, and which of the lines refuses the
-- command that look at these and at its task attribute (JESD220, 10.8).
use Rattle.device.proofs.Common.{Bool, IsNamed, None, Numbers, Option, Request, Sense, Some, State, Status, ap, false}
use Rattle.device.proofs.Common.{if◌then◌else◌, invalid_operation, lacks_unit, lun_of, no_unit, none-some}
use Rattle.device.proofs.Common.{numbers_of, option_map, plain_now, refl, refusal, sym, true, true≢false, Volatile, ℕ}
use Rattle.device.proofs.Common.{not, ◌&&◌, ◌==◌, ◌∙◌, ◌≡◌}
use Rattle.std.specs.Prelude.{is_some}
use Rattle.ufs_spec.specs.Begins.{nothing_wrong, sense_at}
use Rattle.ufs_spec.specs.Exchanges.{message_error, unit_attention}
use Rattle.ufs_spec.specs.declared.exchanges.Status.TheVariants.{CheckCondition}
use Rattle.ufs_spec.specs.Refusals.{BootUnit, DeviceUnit, Lun, ReportLunsUnit, RpmbUnit, UnitOf, first_line}
use Rattle.ufs_spec.specs.Refusals.{is_not_simple, is_passing, lines_after, meets_attention, mended, not_taken, row_in}
use Rattle.ufs_spec.specs.Refusals.{unit_in, unit_of_request}
use Rattle.ufs_spec.specs.declared.operations.Row.{Row}
use Rattle.ufs_spec.specs.declared.scsi.TheConstants.Sense.{INVALID_OPCODE, MESSAGE_ERROR, UNIT_ATTENTION}
use Rattle.ufs_laws.proofs.exchanges.TakenCommandsKnown.{passed_line}
use Rattle.lun_route.specs.Luns.{lun_in, place_of}
use Rattle.lun_route.specs.declared.luns.Lun as route_lun
use Rattle.lun_route.specs.Routes.{lacks_unit_at, not_taken_by, routing_refusal, unit_at}
use Rattle.device.specs.Attentions.{attended_at, sense_of}
use Rattle.device.specs.Targets.{are_not_simple, routing_told}

-- What the lines look at

-- the unit lacks its blocks, by what that looks at
same_lack : (s : State) (r : Request) (lun : Lun) →
    lacks_unit s r (Some lun) ≡ lacks_unit_at (numbers_of s) (plain_now s).boot (row_in r) (Some lun)
same_lack s r BootUnit = refl
same_lack s r (UnitOf unit) = refl
same_lack s r ReportLunsUnit = refl
same_lack s r RpmbUnit = refl
same_lack s r DeviceUnit = refl

same_unit : (s : State) (r : Request) (o : Option Lun) →
    lacks_unit s r o ≡ lacks_unit_at (numbers_of s) (plain_now s).boot (row_in r) o
same_unit s r None = refl
same_unit s r (Some lun) = same_lack s r lun

-- the LUN has an attention, by its place, and the command meets it
same_met : (s : State) (r : Request) (o : Option Lun) →
    meets_attention s r o ≡ (attended_at (numbers_of s) s.volatile (place_of o) && not (is_passing (row_in r)))
same_met s r None = refl
same_met s r (Some lun) = refl

-- it does not take the code
same_taken : (s : State) (r : Request) (o : Option Lun) →
    not_taken (numbers_of s) r o ≡ not_taken_by (numbers_of s) (row_in r) o
same_taken s r None = refl
same_taken s r (Some lun) = refl

-- its blocks are those of this unit
same_blocks : (s : State) (r : Request) (o : Option Lun) →
    unit_in s r o ≡ unit_at (numbers_of s) (plain_now s).boot o
same_blocks s r None = refl
same_blocks s r (Some lun) = refl

-- what REQUEST SENSE tells there, by the place of its attention
pub same_sense : (s : State) (o : Option Lun) →
    sense_of (numbers_of s) (place_of o) (attended_at (numbers_of s) s.volatile (place_of o)) (mended s)
    ≡ (if (numbers_of s).profile == 0 then nothing_wrong else sense_at s o)
same_sense s None = refl
same_sense s (Some lun) = refl

-- a route names a LUN exactly if there is one
pub same_there : (o : Option route_lun.Lun) → is_some o ≡ is_some (lun_in o)
same_there None = refl
same_there (Some lun) = refl

-- The first line

first_says : (lacks : Bool) (told : Status) (rest : Option Status) →
    Some told ≡ (if lacks then Some no_unit else None) → (if lacks then Some no_unit else rest) ≡ Some told
first_says true told rest e = sym e
first_says false told rest e = absurd (none-some told (sym e))

-- The lines behind it

abbrev told_of : Option Sense → Option Status
told_of o = option_map (λ (x : Sense). CheckCondition x) o

one_says : (lacks meets attribute untaken : Bool) (x : Sense) (rest : Option Status) → lacks ≡ false →
    routing_told meets attribute untaken ≡ Some x →
    (if lacks then Some no_unit
    else if meets then Some unit_attention
    else if attribute then Some message_error
    else if untaken then Some invalid_operation
    else rest) ≡ Some (CheckCondition x)
one_says true meets attribute untaken x rest e h = absurd (true≢false e)
one_says false true attribute untaken x rest e h = ap told_of h
one_says false false true untaken x rest e h = ap told_of h
one_says false false false true x rest e h = ap told_of h
one_says false false false false x rest e h = absurd (none-some x h)

all_pass : (meets attribute untaken : Bool) → routing_told meets attribute untaken ≡ None →
    (meets ≡ false) × (attribute ≡ false) × (untaken ≡ false)
all_pass true attribute untaken h = absurd (none-some UNIT_ATTENTION (sym h))
all_pass false true untaken h = absurd (none-some MESSAGE_ERROR (sym h))
all_pass false false true h = absurd (none-some INVALID_OPCODE (sym h))
all_pass false false false h = (refl, refl, refl)

-- A command that has a route or not

module _ (s : State) (r : Request) (n : Numbers) (boot lun : ℕ) (row : Option Row) (numbers_are : n ≡ numbers_of s)
    (boot_is : boot ≡ (plain_now s).boot) (lun_is : r.lun ≡ lun) (row_is : row_in r ≡ row) where
  abbrev its_lun : Option Lun
  its_lun = lun_of (numbers_of s) r.lun

  first_same : routing_refusal n boot row (lun_of n lun) ≡ (if lacks_unit s r its_lun then Some no_unit else None)
  first_same =
      (λ i. routing_refusal (numbers_are i) (boot_is i) (sym row_is i) (lun_of (numbers_are i) (sym lun_is i)))
      ∙ ap (λ (b : Bool). if b then Some no_unit else None) (sym (same_unit s r its_lun))

  -- where it has none, that ends it
  pub unrouted : (told : Status) → Some told ≡ routing_refusal n boot row (lun_of n lun) → refusal s r ≡ Some told
  unrouted told refused = first_says (lacks_unit s r its_lun) told _ (refused ∙ first_same)

  -- where it has one, its unit is there
  pub unit_there : None ≡ routing_refusal n boot row (lun_of n lun) → lacks_unit s r its_lun ≡ false
  unit_there passes = (passed_line (lacks_unit s r its_lun) no_unit None (sym (passes ∙ first_same))).0

  pub named_so : (meant : Option Lun) → lun_of n lun ≡ meant → its_lun ≡ meant
  named_so meant named = (λ i. lun_of (sym numbers_are i) (lun_is i)) ∙ named

  pub blocks_so : (meant : Option Lun) (unit : Option ℕ) → lun_of n lun ≡ meant → unit ≡ unit_at n boot meant →
      unit ≡ unit_of_request s r
  blocks_so meant unit named is =
      is ∙ (λ i. unit_at (numbers_are i) (boot_is i) meant)
      ∙ sym (same_blocks s r meant) ∙ sym (ap (unit_in s r) (named_so meant named))

-- A command that has one

module _ (s : State) (r : Request) (volatile : Volatile) (meant : Option Lun) (volatile_is : volatile ≡ s.volatile)
    (named : lun_of (numbers_of s) r.lun ≡ meant) where
  abbrev the_lun : Option Lun
  the_lun = lun_of (numbers_of s) r.lun

  module _ (flags : ℕ) (row : Option Row) (flags_are : r.flags ≡ flags) (row_is : row_in r ≡ row)
      (there : lacks_unit s r the_lun ≡ false) (told : Option Sense) (told_is : told ≡
      routing_told (attended_at (numbers_of s) volatile (place_of meant) && not (is_passing row)) (are_not_simple flags)
      (not_taken_by (numbers_of s) row meant)) where
    told_so : told ≡
        routing_told (meets_attention s r the_lun) (is_not_simple r) (not_taken (numbers_of s) r the_lun)
    told_so =
        told_is
        ∙ (λ i. routing_told
        (attended_at (numbers_of s) (volatile_is i) (place_of (sym named i)) && not (is_passing (sym row_is i)))
        (are_not_simple (sym flags_are i)) (not_taken_by (numbers_of s) (sym row_is i) (sym named i)))
        ∙ (λ i. routing_told (sym (same_met s r the_lun) i) (is_not_simple r) (sym (same_taken s r the_lun) i))

    -- a line behind the first ends it
    pub refused_there : (x : Sense) → told ≡ Some x → refusal s r ≡ Some (CheckCondition x)
    refused_there x is =
        one_says (lacks_unit s r the_lun) (meets_attention s r the_lun) (is_not_simple r)
        (not_taken (numbers_of s) r the_lun) x (first_line (lines_after s r r.cdb)) there (sym told_so ∙ is)

    -- none of them does
    pub named_there : told ≡ None → IsNamed s r
    named_there is =
        let passes =
        all_pass (meets_attention s r the_lun) (is_not_simple r) (not_taken (numbers_of s) r the_lun)
        (sym told_so ∙ is) in
        record {
          lun = the_lun;
          named = refl;
          there = there;
          calm = passes.0;
          simple = passes.1;
          takes_it = passes.2;
        }
