-- Why no device is opened over new dies: memory was refused, and nothing else.
use Rattle.std.proofs.Common.{◌≡◌, ◌∙◌, ℕ, ap, arith, inl, inr, refl, replicate}
use Rattle.std.proofs.lemmas.List.{get_or-replicate, get_or_past, length-replicate}
use Rattle.std.proofs.lemmas.List.Elements.{All-replicate}
use Rattle.std.proofs.lemmas.Bool.{cases_lt}
use Rattle.ufs_laws.proofs.array_cells.StandsForSomething.{new_sound, new_suits}
use Rattle.ufs_spec.specs.DieLaws.{new_die_blank, new_die_size}
use Rattle.ufs_spec.specs.Dies.{DieState, IsOfSize, blank_page, new_die, page_at}
use Rattle.ufs_spec.specs.Lives.{Fit, array_of}
use Rattle.ufs_spec.specs.declared.configs.Numbers.{Numbers}
use Rattle.ufs_spec.specs.declared.flash.Place.{Place}
use Rattle.device.proofs.dies_of_world.OpeningRefused.{not_another}
use Rattle.ufs_handle.specs.Calls.{IsUnopened}
use Rattle.ufs_handle.specs.declared.fault.Fault.{Fault}
use Rattle.ufs_handle.specs.declared.fault.Fault.TheVariants as fault

-- dies of the sizes that the numbers say
new_fit : (n : Numbers) → Fit n (replicate n.dies (new_die n.blocks n.pages))
new_fit n = (
  length-replicate n.dies (new_die n.blocks n.pages),
  All-replicate (IsOfSize n.blocks n.pages) n.dies (new_die n.blocks n.pages) (new_die_size n.blocks n.pages),
)

-- a die among new ones is blank, and so is the one that stands for a die that is not there
pub all_blank : (dies blocks pages : ℕ) (p : Place) → array_of (replicate dies (new_die blocks pages)) p ≡ blank_page
all_blank dies blocks pages p =
    elim (cases_lt p.die dies) [
      | inl less ↦
          ap (λ (d : DieState). page_at d p.block p.page)
          (get_or-replicate dies p.die (new_die blocks pages) (new_die 0 0) less)
          ∙ new_die_blank blocks pages p.block p.page
      | inr past ↦
          ap (λ (d : DieState). page_at d p.block p.page)
          (get_or_past (replicate dies (new_die blocks pages)) p.die (new_die 0 0) (omega (arith, past, length-replicate dies (new_die blocks pages))))
          ∙ new_die_blank 0 0 p.block p.page
    ]

pub memory_alone : (n : Numbers) (f : Fault) → IsUnopened n (replicate n.dies (new_die n.blocks n.pages)) f →
    f ≡ fault.NoMemory
memory_alone n fault.NoMemory why = refl
memory_alone n fault.OtherConfig why =
    let blank = all_blank n.dies n.blocks n.pages in
    absurd (not_another n (replicate n.dies (new_die n.blocks n.pages)) (why (new_fit n)) (new_sound _ blank)
    (new_suits n _ blank))
memory_alone n fault.Closed why = absurd why
memory_alone n fault.Open why = absurd why
memory_alone n fault.Range why = absurd why
memory_alone n fault.TooLittleSpare why = absurd why
memory_alone n fault.TwoBootUnits why = absurd why
memory_alone n fault.Image why = absurd why
memory_alone n fault.Nothing why = absurd why
memory_alone n fault.NoJob why = absurd why
memory_alone n fault.Room why = absurd why
memory_alone n fault.Number why = absurd why
memory_alone n fault.OwnDies why = absurd why
