-- What jobs leave on dies that were under way when the power went, or that fail.
use Rattle.std.specs.Prelude.{◌+◌, ◌-◌, ◌%◌, ◌==◌, ◌++◌, ℕ, zero, suc, List, Option, Some, None, if◌then◌else◌}
use Rattle.std.specs.Prelude.{slice_index, slice_index_or, slice_set, take}
use Rattle.ufs_spec.specs.Dies.{DieState, blank_page, power_cycle_ended, with_bad, with_page}
use Rattle.ufs_spec.specs.Pages.{check_of}
use Rattle.ufs_spec.specs.declared.flash.Job.{Job}
use Rattle.ufs_spec.specs.declared.flash.Job.TheVariants as job
use Rattle.ufs_spec.specs.declared.flash.Outcome.{Outcome}
use Rattle.ufs_spec.specs.declared.flash.Outcome.TheVariants as outcome
use Rattle.ufs_spec.specs.declared.flash.Page.{Page}
use Rattle.ufs_handle.specs.Kept.{die_at, job_at}
use Rattle.ufs_handle.specs.declared.left.Left.{Left}
use Rattle.ufs_handle.specs.declared.left.Left.TheVariants as left

-- the byte with its lowest bit turned
abbrev pub bit_turned : ℕ → ℕ
bit_turned byte = if byte % 2 == 0 then byte + 1 else byte - 1

-- the bytes with the lowest bit of the first of them turned
abbrev pub first_turned : List ℕ → List ℕ
first_turned bytes = slice_set bytes 0 (bit_turned (slice_index bytes 0))

-- the page with its right check but for one bit of it: no such page passes its check, whatever else it holds
abbrev pub torn_page : Page → Page
torn_page page =
    record {
      body = page.body;
      spare = take 64 page.spare ++ first_turned (check_of page.body (take 64 page.spare));
    }

-- the die with this content in the first pages of the block, so many of them
abbrev pub filled : ℕ → Page → ℕ → DieState → DieState
filled block content zero d = d
filled block content (suc page) d = with_page (filled block content page d) block page content

-- the die with what its job leaves; a read leaves nothing
abbrev pub left_by : ℕ → Left → Option Job → DieState → DieState
left_by pages left.Old j d = d
left_by pages left.New None d = d
left_by pages left.New (Some (job.Read place)) d = d
left_by pages left.New (Some (job.Program place page)) d = with_page d place.block place.page page
left_by pages left.New (Some (job.Erase die block)) d = filled block blank_page pages d
left_by pages left.Torn None d = d
left_by pages left.Torn (Some (job.Read place)) d = d
left_by pages left.Torn (Some (job.Program place page)) d = with_page d place.block place.page (torn_page page)
left_by pages left.Torn (Some (job.Erase die block)) d = filled block (torn_page blank_page) pages d

-- the die after a job of its failed: it holds what is left, and the block of a program or an erase is bad; a read that
-- failed changes nothing
abbrev pub failed_by : ℕ → Left → Job → DieState → DieState
failed_by pages left (job.Read place) d = d
failed_by pages left (job.Program place page) d =
    with_bad (left_by pages left (Some (job.Program place page)) d) place.block
failed_by pages left (job.Erase die block) d = with_bad (left_by pages left (Some (job.Erase die block)) d) block

-- how a failed job is told
abbrev pub failed_outcome : Job → Outcome
failed_outcome (job.Read place) = outcome.ReadFailed
failed_outcome (job.Program place page) = outcome.Failed
failed_outcome (job.Erase die block) = outcome.Failed

-- the dies once the power went: what the jobs of the first of them leave, so many of them
abbrev pub stopped : ℕ → List Left → List (Option Job) → ℕ → List DieState → List DieState
stopped pages lefts jobs zero dies = dies
stopped pages lefts jobs (suc die) dies =
    let before = stopped pages lefts jobs die dies in
    slice_set before die
    (power_cycle_ended (left_by pages (slice_index_or lefts die left.Old) (job_at jobs die) (die_at before die)))
