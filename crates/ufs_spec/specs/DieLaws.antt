-- What follows from the definitions of dies, for the proofs of the crates above.
use Rattle.std.proofs.Common.{◌≡◌, ◌≢◌, ℕ, ◌+◌, ◌<◌, true, false, List, Some, None, length, refl, ap, ◌∙◌, arith}
use Rattle.std.proofs.lemmas.Grind.{common_steps}
use Rattle.ufs_spec.specs.declared.flash.Page.{Page}
use Rattle.ufs_spec.specs.declared.flash.Job.{Job}
use Rattle.ufs_spec.specs.declared.flash.Job.TheVariants as job
use Rattle.ufs_spec.specs.declared.flash.Outcome.{Outcome}
use Rattle.ufs_spec.specs.declared.flash.Outcome.TheVariants as outcome
use Rattle.ufs_spec.specs.Dies.{DieState, IsOfSize, LiesOnDie, page_at, pages_of, ready_page, is_bad_block, blank_page}
use Rattle.ufs_spec.specs.Dies.{with_block, with_page, with_bad, die_programmed, die_erased, IsFailedProgram}
use Rattle.ufs_spec.specs.Dies.{IsFailedErase, power_cycle_ended, new_die, Did, after_job, outcome_of}

-- New dies

-- a new die has its size
pub new_die_size : (blocks pages : ℕ) → IsOfSize blocks pages (new_die blocks pages)
new_die_size blocks pages = grind (arith, common_steps)

-- each page of a new die is blank
pub new_die_blank : (blocks pages b p : ℕ) → page_at (new_die blocks pages) b p ≡ blank_page
new_die_blank blocks pages b p = grind (arith, common_steps)

-- no block of a new die is bad
pub new_die_good : (blocks pages b : ℕ) → is_bad_block (new_die blocks pages) b ≡ false
new_die_good blocks pages b = grind (arith, common_steps)

-- no page of a new die may be programmed before an erase
pub new_die_waits : (blocks pages b : ℕ) → ready_page (new_die blocks pages) b ≡ None
new_die_waits blocks pages b = grind (arith, common_steps)

-- Pages that are written

-- a page that was written is the one that is there
pub with_page_there : (s : DieState) (b p : ℕ) (x : Page) → LiesOnDie s b p → page_at (with_page s b p x) b p ≡ x
with_page_there s b p x h = grind (arith, common_steps)

-- no other page of its block changes
pub with_page_elsewhere_in_block : (s : DieState) (b p q : ℕ) (x : Page) → q ≢ p →
    page_at (with_page s b p x) b q ≡ page_at s b q
with_page_elsewhere_in_block s b p q x h = grind (arith, common_steps)

-- a block that is replaced changes no page of another block
pub with_block_elsewhere : (s : DieState) (b c q : ℕ) (x : List Page) → c ≢ b →
    page_at (with_block s b x) c q ≡ page_at s c q
with_block_elsewhere s b c q x h = grind (arith, common_steps)

-- The size of a die

-- each block of a die has the pages of its size
pub pages_in : (s : DieState) (b blocks pages : ℕ) → b < blocks → IsOfSize blocks pages s →
    length (pages_of s b) ≡ pages
pages_in s b blocks pages less h = grind (arith, common_steps)

-- a block and a page within the size lie on the die
pub has_page : (s : DieState) (b p blocks pages : ℕ) → b < blocks → p < pages → IsOfSize blocks pages s →
    LiesOnDie s b p
has_page s b p blocks pages b_in p_in h =
    let e : length (pages_of s b) ≡ pages = pages_in s b blocks pages b_in h in
    (omega arith, omega arith)

-- as many pages in place of a block leave the die's size
pub with_block_size : (s : DieState) (b blocks pages : ℕ) (x : List Page) → length x ≡ pages → IsOfSize blocks pages s →
    IsOfSize blocks pages (with_block s b x)
with_block_size s b blocks pages x e h = grind (arith, common_steps)

-- a page that is written leaves the size
pub with_page_size : (s : DieState) (b p blocks pages : ℕ) (x : Page) → IsOfSize blocks pages s →
    IsOfSize blocks pages (with_page s b p x)
with_page_size s b p blocks pages x h = grind (arith, common_steps)

-- a block that is marked as bad leaves the size
pub with_bad_size : (s : DieState) (b blocks pages : ℕ) → IsOfSize blocks pages s → IsOfSize blocks pages (with_bad s b)
with_bad_size s b blocks pages h = grind (arith, common_steps)

-- a finished program leaves the size
pub programmed_size : (s : DieState) (b p blocks pages : ℕ) (x : Page) → IsOfSize blocks pages s →
    IsOfSize blocks pages (die_programmed s b p x)
programmed_size s b p blocks pages x h = grind (arith, common_steps)

-- a finished erase leaves the size
pub erased_size : (s : DieState) (b blocks pages : ℕ) → IsOfSize blocks pages s → IsOfSize blocks pages (die_erased s b)
erased_size s b blocks pages h = grind (arith, common_steps)

-- after a finished erase each page of the block is blank
pub erased_blank : (s : DieState) (b p : ℕ) → b < length s.blocks → page_at (die_erased s b) b p ≡ blank_page
erased_blank s b p h = grind (arith, common_steps)

-- the end of a power cycle leaves the size
pub power_cycle_size : (s : DieState) (blocks pages : ℕ) → IsOfSize blocks pages s →
    IsOfSize blocks pages (power_cycle_ended s)
power_cycle_size s blocks pages h = grind (arith, common_steps)

-- a failed program leaves the size
pub failed_program_size : (s t : DieState) (b p blocks pages : ℕ) (x : Page) → IsFailedProgram s b p x t →
    IsOfSize blocks pages s → IsOfSize blocks pages t
failed_program_size s t b p blocks pages x h z =
    rw h.2 (with_bad_size (with_page s b p h.0) b blocks pages (with_page_size s b p blocks pages h.0 z))

-- a failed erase leaves the size
pub failed_erase_size : (s t : DieState) (b blocks pages : ℕ) → b < blocks → IsFailedErase s b t →
    IsOfSize blocks pages s → IsOfSize blocks pages t
failed_erase_size s t b blocks pages less h z =
    let e : length h.0 ≡ pages = h.1 ∙ pages_in s b blocks pages less z in
    rw h.3 (with_bad_size (with_block s b h.0) b blocks pages (with_block_size s b blocks pages h.0 e z))

-- Which page may be programmed next

-- after a finished program the page after it is next in its block
pub programmed_next : (s : DieState) (b p : ℕ) (x : Page) → b < length s.ready →
    ready_page (die_programmed s b p x) b ≡ Some (p + 1)
programmed_next s b p x h = grind (arith, common_steps)

-- a program leaves the next page of every other block
pub programmed_next_elsewhere : (s : DieState) (b p c : ℕ) (x : Page) → c ≢ b →
    ready_page (die_programmed s b p x) c ≡ ready_page s c
programmed_next_elsewhere s b p c x h = grind (arith, common_steps)

-- after a finished erase the block's first page is next
pub erased_next : (s : DieState) (b : ℕ) → b < length s.ready → ready_page (die_erased s b) b ≡ Some 0
erased_next s b h = grind (arith, common_steps)

-- an erase leaves the next page of every other block
pub erased_next_elsewhere : (s : DieState) (b c : ℕ) → c ≢ b → ready_page (die_erased s b) c ≡ ready_page s c
erased_next_elsewhere s b c h = grind (arith, common_steps)

-- after the end of a power cycle no page may be programmed before an erase
pub power_cycle_waits : (s : DieState) (b : ℕ) → ready_page (power_cycle_ended s) b ≡ None
power_cycle_waits s b = grind (arith, common_steps)

-- Bad blocks

-- a block that is marked as bad is bad
pub with_bad_bad : (s : DieState) (b : ℕ) → b < length s.bad → is_bad_block (with_bad s b) b ≡ true
with_bad_bad s b h = grind (arith, common_steps)

-- no other block becomes bad
pub with_bad_elsewhere : (s : DieState) (b c : ℕ) → c ≢ b → is_bad_block (with_bad s b) c ≡ is_bad_block s c
with_bad_elsewhere s b c h = grind (arith, common_steps)

-- no page of a block that is marked as bad may be programmed
pub with_bad_waits : (s : DieState) (b : ℕ) → ready_page (with_bad s b) b ≡ None
with_bad_waits s b = grind (arith, common_steps)

-- a block that is marked as bad leaves the next page of every other block
pub with_bad_next_elsewhere : (s : DieState) (b c : ℕ) → c ≢ b → ready_page (with_bad s b) c ≡ ready_page s c
with_bad_next_elsewhere s b c h = grind (arith, common_steps)

-- Jobs that finished

-- no number is below itself
no_less : (n : ℕ) → n < n → ⊥
no_less n h = omega arith

-- if the die counted no failure, the job finished, and the outcome and the die are those of a finished job
pub did_well : (n : ℕ) (s t : DieState) (j : Job) (o : Outcome) → Did n n s j o t → (o ≡ outcome_of s j)
    × (t ≡ after_job s j)
did_well n s t (job.Read place) (outcome.Read page) h = (ap outcome.Read h.0, h.1)
did_well n s t (job.Read place) outcome.ReadFailed h = absurd (no_less n h.1)
did_well n s t (job.Read place) outcome.Done h = absurd h
did_well n s t (job.Read place) outcome.Failed h = absurd h
did_well n s t (job.Program place page) outcome.Done h = (refl, h.0)
did_well n s t (job.Program place page) outcome.Failed h = absurd (no_less n h.1)
did_well n s t (job.Program place page) (outcome.Read x) h = absurd h
did_well n s t (job.Program place page) outcome.ReadFailed h = absurd h
did_well n s t (job.Erase die block) outcome.Done h = (refl, h.0)
did_well n s t (job.Erase die block) outcome.Failed h = absurd (no_less n h.1)
did_well n s t (job.Erase die block) (outcome.Read x) h = absurd h
did_well n s t (job.Erase die block) outcome.ReadFailed h = absurd h

-- The size after any job

-- a finished job leaves the size
pub after_job_size : (s : DieState) (j : Job) (blocks pages : ℕ) → IsOfSize blocks pages s →
    IsOfSize blocks pages (after_job s j)
after_job_size s (job.Read place) blocks pages h = h
after_job_size s (job.Program place page) blocks pages h = programmed_size s place.block place.page blocks pages page h
after_job_size s (job.Erase die block) blocks pages h = erased_size s block blocks pages h
