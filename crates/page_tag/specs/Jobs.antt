-- Jobs whose page is sealed later, and the tags of pages that were read (this profile).
use Rattle.std.specs.Prelude.{◌≡◌, ℕ, List, Option, IfSome, None}
use Rattle.ufs_spec.specs.Pages.{IsSealedAs, IsTag, seal_page}
use Rattle.ufs_spec.specs.declared.flash.Job.{Job}
use Rattle.ufs_spec.specs.declared.flash.Job.TheVariants as job
use Rattle.ufs_spec.specs.declared.flash.Outcome.{Outcome}
use Rattle.ufs_spec.specs.declared.flash.Outcome.TheVariants as outcome
use Rattle.ufs_spec.specs.declared.flash.Page.{Page}
use Rattle.ufs_spec.specs.declared.flash.Tag.{Tag}
use Rattle.page_tag.specs.declared.jobs.Order.{Order}
use Rattle.page_tag.specs.declared.jobs.Order.TheVariants as order

-- the job that it becomes when its page is sealed
abbrev pub job_sealed : Order → Job
job_sealed (order.Program place tag body zeros) = job.Program place (seal_page tag body)
job_sealed (order.Read place) = job.Read place
job_sealed (order.Erase die block) = job.Erase die block

-- a page can be sealed with its tag
abbrev pub IsSealable : Order → Type 0
IsSealable (order.Program place tag body zeros) = IsTag tag
IsSealable (order.Read place) = Unit {0}
IsSealable (order.Erase die block) = Unit {0}

-- the page is sealed with this tag; there is none if it is sealed with no tag
pub record IsTagOf (page : Page) (found : Option Tag) : Type 0 where
  pub sealed : IfSome found (λ t. IsTag t × IsSealedAs page t page.body)
  pub refused : found ≡ None → (t : Tag) (b : List ℕ) → IsTag t → ¬ IsSealedAs page t b

-- the tag is that of the page that was read; there is no tag if no page was read
abbrev pub IsTagRead : Outcome → Option Tag → Type 0
IsTagRead (outcome.Read page) found = IsTagOf page found
IsTagRead outcome.ReadFailed found = found ≡ None
IsTagRead outcome.Done found = found ≡ None
IsTagRead outcome.Failed found = found ≡ None
