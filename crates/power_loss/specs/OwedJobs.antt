-- Which pages a die may be given to program.
use Rattle.std.specs.Prelude.{◌≡◌, ◌<◌, true, false, Some}
use Rattle.std.specs.List.{list_any}
use Rattle.ufs_spec.specs.Ledger.{before_accepted, is_standing}
use Rattle.ufs_spec.specs.Moves.{is_kind_of}
use Rattle.ufs_spec.specs.Translation.{Step, Translation, is_rest_of}
use Rattle.ufs_spec.specs.declared.layer.Name.{Name}

-- the page is one of an accepted group, it stands nowhere, and its content is there
pub record IsFirstProgram (t : Translation) (name : Name) : Type 0 where
  pub accepted : before_accepted t.ledger < name.number
  pub nowhere : is_standing t.ledger name.number name.index ≡ false
  pub there : list_any (is_rest_of name) t.work.rests ≡ false

-- the page is the one that the step under way copies or repairs, and its content is there
pub record IsStepsPage (t : Translation) (name : Name) : Type 0 where
  pub step : Step
  pub under_way : t.work.step ≡ Some step
  pub page : is_kind_of name step.kind ≡ true
  pub there : step.there ≡ true
