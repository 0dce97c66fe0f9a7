-- What a job may leave on its die.
use Rattle.device.proofs.Common.{DieState, Job, Leftover, List, MayBeLeft, Page, Place, arith, blank_page}
use Rattle.device.proofs.Common.{get_or_default, length, page_at, slice_index_or, subst, sym, ℕ, ⊎_elim, ◌+◌, ◌<◌, ◌≡◌}
use Rattle.std.specs.Global.{Vec}
use Rattle.ufs_spec.proofs.Facts.{cases_lt}
use Rattle.ufs_spec.specs.declared.events.Leftover.TheVariants as leftover
use Rattle.ufs_spec.specs.declared.flash.Job.TheVariants as job
use Rattle.device.specs.Leftovers.{MayJobLeave}

-- the pages of a list, up to a number, may be left of an erase of the block
abbrev pub MayErasedBe : DieState → ℕ → List Page → ℕ → Type 0
MayErasedBe d block pages count =
    (i : ℕ) → i < count → i < length pages →
    MayBeLeft (page_at d block i) blank_page (slice_index_or pages i blank_page)

pub page_may : (old before intended none : Page) (pages : List Page) (i : ℕ) → before ≡ old → intended ≡ blank_page →
    i < length pages → MayBeLeft before intended (slice_index_or pages i none) →
    MayBeLeft old blank_page (slice_index_or pages i blank_page)
page_may old before intended none pages i was is inside may =
    subst (λ (x : Page). MayBeLeft x blank_page (slice_index_or pages i blank_page)) was
    (subst (λ (x : Page). MayBeLeft before x (slice_index_or pages i blank_page)) is
    (subst (MayBeLeft before intended) (get_or_default pages i none blank_page inside) may))

-- one page more
pub erased_more : (d : DieState) (block : ℕ) (pages : List Page) (count : ℕ) → MayErasedBe d block pages count →
    (count < length pages → MayBeLeft (page_at d block count) blank_page (slice_index_or pages count blank_page)) →
    MayErasedBe d block pages (count + 1)
erased_more d block pages count before here i less inside =
    ⊎_elim (λ (low : i < count). before i low inside)
    (λ high.
    let same : i ≡ count = omega (less, high, arith) in
    subst (λ (k : ℕ). MayBeLeft (page_at d block k) blank_page (slice_index_or pages k blank_page)) (sym same)
    (here (omega (same, inside, arith))))
    (cases_lt i count)

-- Jobs and leftovers by their kinds

pub program_leaves : (d : DieState) (j : Job) (l : Leftover) (p q : Place) (intended left : Page) →
    j ≡ job.Program p intended → l ≡ leftover.Page q left → MayBeLeft (page_at d p.block p.page) intended left →
    MayJobLeave d j l
program_leaves d j l p q intended left is names may =
    subst (λ (x : Job). MayJobLeave d x l) (sym is)
    (subst (λ (m : Leftover). MayJobLeave d (job.Program p intended) m) (sym names) may)

-- each page that an erase of the block may leave
abbrev pub MayAllBe : DieState → ℕ → List Page → Type 0
MayAllBe d block pages =
    (i : ℕ) → i < length pages → MayBeLeft (page_at d block i) blank_page (slice_index_or pages i blank_page)

pub erase_leaves : (d : DieState) (j : Job) (l : Leftover) (die block other there : ℕ) (pages : Vec Page) →
    j ≡ job.Erase die block → l ≡ leftover.Block other there pages → MayAllBe d block pages.items →
    MayJobLeave d j l
erase_leaves d j l die block other there pages is names may =
    subst (λ (x : Job). MayJobLeave d x l) (sym is)
    (subst (λ (m : Leftover). MayJobLeave d (job.Erase die block) m) (sym names) may)

pub erase_left : (d : DieState) (j : Job) (l : Leftover) (die block other there : ℕ) (pages : Vec Page) →
    j ≡ job.Erase die block → l ≡ leftover.Block other there pages → MayJobLeave d j l →
    MayAllBe d block pages.items
erase_left d j l die block other there pages is names may =
    subst (λ (m : Leftover). MayJobLeave d (job.Erase die block) m) names
    (subst (λ (x : Job). MayJobLeave d x l) is may)
