-- Jobs that are owed, whose page is made of what is kept elsewhere (this profile).
use Rattle.ufs_spec.specs.Pages.{IsTag, mark_bytes, seal_page}
use Rattle.ufs_spec.specs.declared.flash.Job.{Job}
use Rattle.ufs_spec.specs.declared.flash.Job.TheVariants as job
use Rattle.page_tag.specs.declared.owed.Owed.{Owed}
use Rattle.page_tag.specs.declared.owed.Owed.TheVariants as owed

-- the job that it becomes when its page is sealed
abbrev pub job_owed : Owed → Job
job_owed (owed.Program place tag body zeros) = job.Program place (seal_page tag body.now)
job_owed (owed.Mark place tag numbers fence) = job.Program place (seal_page tag (mark_bytes numbers.now fence))
job_owed (owed.Read place) = job.Read place
job_owed (owed.Erase die block) = job.Erase die block

-- a page can be sealed with its tag
abbrev pub HasTag : Owed → Type 0
HasTag (owed.Program place tag body zeros) = IsTag tag
HasTag (owed.Mark place tag numbers fence) = IsTag tag
HasTag (owed.Read place) = Unit {0}
HasTag (owed.Erase die block) = Unit {0}
