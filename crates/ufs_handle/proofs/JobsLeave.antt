-- What the jobs in flight of a device leave as a handle says it, as the leftovers of a run.
use Rattle.std.proofs.Common.{◌≡◌, ◌≤◌, ◌<◌, ◌^◌, ◌∙◌, ◌∷◌, [], ℕ, List, Option, None, Some, ap, arith, inl, inr, length, refl}
use Rattle.std.proofs.Common.{replicate, sym, subst}
use Rattle.std.proofs.Math.Nat.{le_refl}
use Rattle.std.proofs.lemmas.List.{get_or-replicate, length-replicate, set-get_or}
use Rattle.std.proofs.lemmas.List.Elements.{All-cons, All-nil}
use Rattle.std.specs.Global.{Vec}
use Rattle.std.specs.Prelude.{All, slice_set}
use Rattle.std.specs.declared.alloc.Global.{Global}
use denote.RawPtr.{null_ptr}
use Rattle.ufs_spec.specs.Dies.{DieState, blank_page, new_die, page_at, pages_of, with_block, with_page}
use Rattle.ufs_spec.specs.Pages.{MayBeLeft}
use Rattle.ufs_spec.specs.declared.events.Leftover.{Leftover}
use Rattle.ufs_spec.specs.declared.events.Leftover.TheVariants as leftover
use Rattle.ufs_spec.specs.declared.flash.Job.{Job}
use Rattle.ufs_spec.specs.declared.flash.Job.TheVariants as job
use Rattle.ufs_spec.specs.declared.flash.Page.{Page}
use Rattle.device.specs.Leftovers.{IsOfJob, MayJobLeave}
use Rattle.device.specs.Worlds.{dies_left}
use Rattle.ufs_handle.specs.Kept.{die_at}
use Rattle.ufs_handle.specs.Left.{filled, left_by, torn_page}
use Rattle.ufs_handle.specs.declared.left.Left.{Left}
use Rattle.ufs_handle.specs.declared.left.Left.TheVariants as left
use Rattle.ufs_handle.proofs.FilledBlocks.{filled_whole}
use Rattle.ufs_handle.proofs.TornPages.{torn_fails}

-- a list as a vector of this allocator, which has no memory
abbrev pub vec_of : {A : Type 0} → Global → (xs : List A) → length xs < 2 ^ 63 → Vec A
vec_of heap xs few = record {
  ptr = null_ptr;
  len = length xs;
  cap = length xs;
  alloc = heap;
  items = xs;
  ok = (refl, le_refl (length xs));
  small = few;
}

blank_spare : length blank_page.spare ≡ 96
unfolding blank_page
blank_spare = length-replicate {A = ℕ} 96 255

pub blank_long : 64 ≤ length blank_page.spare
blank_long = let long = blank_spare in omega arith

module _ (heap : Global) (pages : ℕ) (few : pages < 2 ^ 63) where
  -- so many pages of one content
  abbrev pub copies : Page → Vec Page
  copies page = vec_of heap (replicate pages page) (subst (λ (n : ℕ). n < 2 ^ 63) (sym (length-replicate pages page)) few)

  -- what a job leaves that was not there: one leftover or none
  abbrev pub leftovers : Left → Option Job → List Leftover
  leftovers left.Old j = []
  leftovers left.New None = []
  leftovers left.New (Some (job.Read place)) = []
  leftovers left.New (Some (job.Program place page)) = leftover.Page place page ∷ []
  leftovers left.New (Some (job.Erase die block)) = leftover.Block die block (copies blank_page) ∷ []
  leftovers left.Torn None = []
  leftovers left.Torn (Some (job.Read place)) = []
  leftovers left.Torn (Some (job.Program place page)) = leftover.Page place (torn_page page) ∷ []
  leftovers left.Torn (Some (job.Erase die block)) = leftover.Block die block (copies (torn_page blank_page)) ∷ []

  -- the job is one of this die, which holds this: a program of a page whose first 64 spare bytes are there, an erase of
  -- one of its blocks
  abbrev pub IsJobOn : ℕ → DieState → Option Job → Type 0
  IsJobOn die d None = Unit {0}
  IsJobOn die d (Some (job.Read place)) = Unit {0}
  IsJobOn die d (Some (job.Program place page)) = (place.die ≡ die) × (64 ≤ length page.spare)
  IsJobOn die d (Some (job.Erase other block)) =
      (other ≡ die) × (block < length d.blocks) × (length (pages_of d block) ≡ pages)

  -- ## They are the job's, and lawful

  -- a leftover of the job in flight
  abbrev pub IsOf : Option Job → Leftover → Type 0
  IsOf j l = (x : Job) × (j ≡ Some x) × IsOfJob pages x l

  -- one that the job may leave on this die
  abbrev pub MayLeave : DieState → Option Job → Leftover → Type 0
  MayLeave d j l = (x : Job) → j ≡ Some x → MayJobLeave d x l

  one : (P : Leftover → Type 0) (l : Leftover) → P l → All P (l ∷ [])
  one P l h = All-cons P l [] h (All-nil P)

  pub are_of_job : (say : Left) (j : Option Job) → All (IsOf j) (leftovers say j)
  are_of_job left.Old j = All-nil (IsOf j)
  are_of_job left.New None = All-nil (IsOf None)
  are_of_job left.New (Some (job.Read place)) = All-nil (IsOf (Some (job.Read place)))
  are_of_job left.New (Some (job.Program place page)) =
      one (IsOf (Some (job.Program place page))) (leftover.Page place page) (job.Program place page, refl, refl)
  are_of_job left.New (Some (job.Erase die block)) =
      one (IsOf (Some (job.Erase die block))) (leftover.Block die block (copies blank_page))
      (job.Erase die block, refl, (refl, refl, length-replicate pages blank_page))
  are_of_job left.Torn None = All-nil (IsOf None)
  are_of_job left.Torn (Some (job.Read place)) = All-nil (IsOf (Some (job.Read place)))
  are_of_job left.Torn (Some (job.Program place page)) =
      one (IsOf (Some (job.Program place page))) (leftover.Page place (torn_page page))
      (job.Program place page, refl, refl)
  are_of_job left.Torn (Some (job.Erase die block)) =
      one (IsOf (Some (job.Erase die block))) (leftover.Block die block (copies (torn_page blank_page)))
      (job.Erase die block, refl, (refl, refl, length-replicate pages (torn_page blank_page)))

  -- each page of a block of equal ones may be left where one may
  pub each_copy : (d : DieState) (die block : ℕ) (page : Page) →
      ((before : Page) → MayBeLeft before blank_page page) →
      MayJobLeave d (job.Erase die block) (leftover.Block die block (copies page))
  each_copy d die block page may i less =
      subst (MayBeLeft (page_at d block i) blank_page)
      (sym (get_or-replicate pages i page blank_page
      (subst (λ (n : ℕ). i < n) (length-replicate pages page) less)))
      (may (page_at d block i))

  -- a job in flight is the one that is there
  of_job : (d : DieState) (j : Job) (l : Leftover) → MayJobLeave d j l → MayLeave d (Some j) l
  of_job d j l may x is = subst (λ (y : Job). MayJobLeave d y l) (same is) may
    where
      same : Some j ≡ Some x → j ≡ x
      same e = cc

  pub are_lawful : (say : Left) (die : ℕ) (d : DieState) (j : Option Job) → IsJobOn die d j →
      All (MayLeave d j) (leftovers say j)
  are_lawful left.Old die d j on = All-nil (MayLeave d j)
  are_lawful left.New die d None on = All-nil (MayLeave d None)
  are_lawful left.New die d (Some (job.Read place)) on = All-nil (MayLeave d (Some (job.Read place)))
  are_lawful left.New die d (Some (job.Program place page)) on =
      one (MayLeave d (Some (job.Program place page))) (leftover.Page place page)
      (of_job d (job.Program place page) (leftover.Page place page) (inr (inl refl)))
  are_lawful left.New die d (Some (job.Erase other block)) on =
      one (MayLeave d (Some (job.Erase other block))) (leftover.Block other block (copies blank_page))
      (of_job d (job.Erase other block) (leftover.Block other block (copies blank_page))
      (each_copy d other block blank_page (λ before. inr (inl refl))))
  are_lawful left.Torn die d None on = All-nil (MayLeave d None)
  are_lawful left.Torn die d (Some (job.Read place)) on = All-nil (MayLeave d (Some (job.Read place)))
  are_lawful left.Torn die d (Some (job.Program place page)) on =
      one (MayLeave d (Some (job.Program place page))) (leftover.Page place (torn_page page))
      (of_job d (job.Program place page) (leftover.Page place (torn_page page)) (inr (inr (torn_fails page on.1))))
  are_lawful left.Torn die d (Some (job.Erase other block)) on =
      one (MayLeave d (Some (job.Erase other block))) (leftover.Block other block (copies (torn_page blank_page)))
      (of_job d (job.Erase other block) (leftover.Block other block (copies (torn_page blank_page)))
      (each_copy d other block (torn_page blank_page) (λ before. inr (inr (torn_fails blank_page blank_long)))))

  -- ## What they make of the die

  abbrev pub LeavesOn : ℕ → DieState → Left → Option Job → Type 0
  LeavesOn die d say j =
      (dies : List DieState) → die < length dies → die_at dies die ≡ d →
      dies_left dies (leftovers say j) ≡ slice_set dies die (left_by pages say j d)

  -- without a leftover the die stays
  stays : (dies : List DieState) (die : ℕ) (d : DieState) → die_at dies die ≡ d → dies ≡ slice_set dies die d
  stays dies die d is = sym (set-get_or dies die (new_die 0 0)) ∙ ap (λ (x : DieState). slice_set dies die x) is

  -- a page of the die, or a block of it, is put
  put_page : (dies : List DieState) (die other block page : ℕ) (content : Page) (d : DieState) → other ≡ die →
      die_at dies die ≡ d →
      slice_set dies other (with_page (die_at dies other) block page content)
      ≡ slice_set dies die (with_page d block page content)
  put_page dies die other block page content d same is =
      ap (λ (i : ℕ). slice_set dies i (with_page (die_at dies i) block page content)) same
      ∙ ap (λ (x : DieState). slice_set dies die (with_page x block page content)) is

  put_block : (dies : List DieState) (die other block : ℕ) (content : Page) (d : DieState) → other ≡ die →
      block < length d.blocks → length (pages_of d block) ≡ pages → die_at dies die ≡ d →
      slice_set dies other (with_block (die_at dies other) block (replicate pages content))
      ≡ slice_set dies die (filled block content pages d)
  put_block dies die other block content d same there long is =
      ap (λ (i : ℕ). slice_set dies i (with_block (die_at dies i) block (replicate pages content))) same
      ∙ ap (λ (x : DieState). slice_set dies die (with_block x block (replicate pages content))) is
      ∙ ap (λ (x : DieState). slice_set dies die x) (sym (filled_whole block content d there pages long))

  pub leave_one : (say : Left) (die : ℕ) (d : DieState) (j : Option Job) → IsJobOn die d j → LeavesOn die d say j
  leave_one left.Old die d j on dies less is = stays dies die d is
  leave_one left.New die d None on dies less is = stays dies die d is
  leave_one left.New die d (Some (job.Read place)) on dies less is = stays dies die d is
  leave_one left.New die d (Some (job.Program place page)) on dies less is =
      put_page dies die place.die place.block place.page page d on.0 is
  leave_one left.New die d (Some (job.Erase other block)) on dies less is =
      put_block dies die other block blank_page d on.0 on.1 on.2 is
  leave_one left.Torn die d None on dies less is = stays dies die d is
  leave_one left.Torn die d (Some (job.Read place)) on dies less is = stays dies die d is
  leave_one left.Torn die d (Some (job.Program place page)) on dies less is =
      put_page dies die place.die place.block place.page (torn_page page) d on.0 is
  leave_one left.Torn die d (Some (job.Erase other block)) on dies less is =
      put_block dies die other block (torn_page blank_page) d on.0 on.1 on.2 is

  -- at most one
  pub one_at_most : (say : Left) (j : Option Job) → length (leftovers say j) ≤ 1
  one_at_most left.Old j = omega arith
  one_at_most left.New None = omega arith
  one_at_most left.New (Some (job.Read place)) = omega arith
  one_at_most left.New (Some (job.Program place page)) = omega arith
  one_at_most left.New (Some (job.Erase die block)) = omega arith
  one_at_most left.Torn None = omega arith
  one_at_most left.Torn (Some (job.Read place)) = omega arith
  one_at_most left.Torn (Some (job.Program place page)) = omega arith
  one_at_most left.Torn (Some (job.Erase die block)) = omega arith
