-- Why no device is opened.
use Rattle.std.proofs.Common.{◌≡◌, ◌∙◌, List, Ok, Err, map, refl, replicate, sym, subst}
use Rattle.std.proofs.lemmas.Bool.{false≢true}
use Rattle.std.proofs.lemmas.List.{map-id}
use Rattle.std.specs.Prelude.{false, true, ℕ, Option, Some, None, Result, IfErr, OnErr, OnOk, is_some}
use Rattle.ufs_spec.specs.Cells.{Cells, Shows}
use Rattle.ufs_spec.specs.Dies.{DieState, new_die}
use Rattle.ufs_spec.specs.Lives.{Fit, array_of}
use Rattle.ufs_spec.specs.declared.configs.Numbers.{Numbers}
use Rattle.ufs_spec.specs.declared.events.RunFaultKind.TheVariants as kind
use Rattle.ufs_spec.specs.declared.faults.OpenFault.{OpenFault}
use Rattle.ufs_spec.specs.declared.faults.OpenFault.TheVariants as opening
use Rattle.recovery.specs.Found.{IsScanFault}
use Rattle.device.proofs.dies_of_world.OpeningRefused.{opening_refused}
use Rattle.ufs_handle.specs.Calls.{IsNotOpened, IsOpen, IsUnopened}
use Rattle.ufs_handle.specs.Exports.{IsWhyNot, OpensNew}
use Rattle.ufs_handle.specs.Kept.{HeldState}
use Rattle.ufs_handle.specs.Numbers.{open_fault_of}
use Rattle.ufs_handle.specs.Plain.{config_numbers, numbers_fault}
use Rattle.ufs_handle.specs.declared.fault.Fault.{Fault}
use Rattle.ufs_handle.specs.declared.fault.Fault.TheVariants as fault
use Rattle.ufs_handle.specs.declared.plain.PlainConfig.{PlainConfig}
use Rattle.ufs_handle.specs.declared.plain.PlainUnit.{PlainUnit}
use Rattle.ufs_handle.proofs.NewDies.{memory_alone}

abbrev no_failures : DieState → ℕ
no_failures d = 0

-- what the device tells of its opening
pub unopened : (n : Numbers) (dies after : List DieState) (e : OpenFault) → Fit n dies →
    ((c : Cells) → Shows (array_of dies) c → IsScanFault n c (map no_failures dies) (map no_failures after) e) →
    IsUnopened n dies (open_fault_of e)
unopened n dies after opening.NoMemory fit why = tt
unopened n dies after opening.OtherConfig fit why =
    opening_refused n dies after opening.OtherConfig kind.WrongEvent fit (λ same. absurd (differ same)) (λ _. refl) why
  where
    differ : opening.OtherConfig ≡ opening.NoMemory → ⊥
    differ e = cc
unopened n dies after (opening.ReadFault p) fit why =
    opening_refused n dies after (opening.ReadFault p) kind.WrongEvent fit (λ same. absurd (differ same)) (λ _. refl) why
  where
    differ : opening.ReadFault p ≡ opening.NoMemory → ⊥
    differ e = cc

-- dies that do not fit
pub unfit : (n m : Numbers) (dies seen : List DieState) → seen ≡ dies → m ≡ n →
    (Fit n (map (λ (die : DieState). die) seen) → ⊥) → IsUnopened m dies fault.OtherConfig
unfit n m dies seen same same_numbers wrong fit =
    absurd (wrong (subst (Fit n) (sym (map-id seen ∙ same)) (subst (λ (x : Numbers). Fit x dies) same_numbers fit)))

-- the same of equal dies and numbers
pub moved : (n m : Numbers) (dies others : List DieState) (f : Fault) → m ≡ n → others ≡ dies →
    IsUnopened m others f → IsUnopened n dies f
moved n m dies others f same_numbers same h =
    subst (λ (x : Numbers). IsUnopened x dies f) same_numbers
    (subst (λ (ds : List DieState). IsUnopened m ds f) same h)

-- ## A handle

pub holds_none : (before : Option HeldState) → is_some before ≡ false → before ≡ None
holds_none None none = refl
holds_none (Some h) none = absurd (false≢true (sym none))

pub is_held : (n : Numbers) (dies : List DieState) (before : Option HeldState) → is_some before ≡ true →
    IsNotOpened n dies before fault.Open
is_held n dies None some = absurd (false≢true some)
is_held n dies (Some h) some = refl

pub is_closed : (n : Numbers) (dies : List DieState) (before : Option HeldState) (f : Fault) →
    is_some before ≡ false → IsUnopened n dies f → IsNotOpened n dies before f
is_closed n dies None f none why = why
is_closed n dies (Some h) f none why = absurd (false≢true (sym none))

-- ## Plain numbers

pub why_held : (before : Option HeldState) (wrong : Option Fault) (Otherwise : Fault → Type 0) →
    is_some before ≡ true → IsWhyNot before wrong Otherwise fault.Open
why_held None wrong Otherwise some = absurd (false≢true some)
why_held (Some h) wrong Otherwise some = refl

pub why_wrong : (before : Option HeldState) (wrong : Option Fault) (Otherwise : Fault → Type 0) (f : Fault) →
    is_some before ≡ false → wrong ≡ Some f → IsWhyNot before wrong Otherwise f
why_wrong None wrong Otherwise f none is =
    subst (λ (w : Option Fault). IsWhyNot None w Otherwise f) (sym is) refl
why_wrong (Some h) wrong Otherwise f none is = absurd (false≢true (sym none))

pub why_else : (before : Option HeldState) (wrong : Option Fault) (Otherwise : Fault → Type 0) (f : Fault) →
    is_some before ≡ false → wrong ≡ None → Otherwise f → IsWhyNot before wrong Otherwise f
why_else None wrong Otherwise f none is other =
    subst (λ (w : Option Fault). IsWhyNot None w Otherwise f) (sym is) other
why_else (Some h) wrong Otherwise f none is other = absurd (false≢true (sym none))

-- why a closed handle opens none over dies
pub of_closed : (n : Numbers) (dies : List DieState) (before : Option HeldState) (f : Fault) →
    is_some before ≡ false → IsNotOpened n dies before f → IsUnopened n dies f
of_closed n dies None f none why = why
of_closed n dies (Some h) f none why = absurd (false≢true (sym none))

-- a closed handle was asked to open a device over new dies
pub opened_new : (config : PlainConfig) (units : List PlainUnit) (n : Numbers) (dies : List DieState)
    (before after : Option HeldState) (answer : Result (Unit {0}) Fault) → is_some before ≡ false →
    numbers_fault config units ≡ None → n ≡ config_numbers config units →
    dies ≡ replicate config.dies (new_die config.blocks config.pages) → OnOk answer (IsOpen n dies after) →
    OnErr answer (after ≡ before) → IfErr answer (IsNotOpened n dies before) →
    OpensNew config units before answer after
opened_new config units n dies before after (Ok done) none right same made opened refused why = (
  holds_none before none,
  right,
  subst (λ (ds : List DieState). IsOpen (config_numbers config units) ds after) made
      (subst (λ (x : Numbers). IsOpen x dies after) same opened),
)
opened_new config units n dies before after (Err f) none right same made opened refused why = (
  refused,
  why_else before (numbers_fault config units) (λ x. x ≡ fault.NoMemory) f none right
      (memory_alone (config_numbers config units) f
      (moved (config_numbers config units) n (replicate config.dies (new_die config.blocks config.pages)) dies f same made
      (of_closed n dies before f none why))),
)
