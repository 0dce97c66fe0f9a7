-- A die that has done its job, well or not, holds what an interruption of the job may leave.
use Rattle.lanes.proofs.Common.{DieState, Job, List, ap, arith, inl, inr, length, length-replicate, refl}
use Rattle.lanes.proofs.Common.{slice_index_or, subst, sym, ℕ, ◌<◌, ◌∙◌, ◌≡◌, ◌≤◌}
use Rattle.std.specs.Prelude.{replicate}
use Rattle.std.proofs.lemmas.List.{get_or-replicate}
use Rattle.ufs_spec.specs.DieLaws.{pages_in}
use Rattle.ufs_spec.specs.Dies.{CanDo, CanErase, Did, IsOfSize, blank_page, page_at, pages_of, with_block}
use Rattle.ufs_spec.specs.Pages.{MayBeLeft}
use Rattle.ufs_spec.specs.declared.events.Leftover.TheVariants as leftover
use Rattle.ufs_spec.specs.declared.flash.Job.TheVariants as job
use Rattle.ufs_spec.specs.declared.flash.Outcome.{Outcome}
use Rattle.ufs_spec.specs.declared.flash.Outcome.TheVariants as outcome
use Rattle.ufs_spec.specs.declared.flash.Page.{Page}
use Rattle.lanes.specs.Promised.{IsAsLeft}
use Rattle.lanes.proofs.Vectors.{vector_of}

module _ (pages blocks : ℕ) (before : DieState) (few : pages ≤ 256) (size : IsOfSize blocks pages before) where
  many_pages : (block : ℕ) → block < length before.blocks → length (pages_of before block) ≡ pages
  many_pages block can =
      let long : length before.blocks ≡ blocks = size.0 in pages_in before block blocks pages (omega arith) size

  -- an erase leaves these pages
  erase_left : (die block : ℕ) (after : DieState) (left : List Page) → CanErase before block →
      length left ≡ length (pages_of before block) →
      ((i : ℕ) → i < length left → MayBeLeft (page_at before block i) blank_page (slice_index_or left i blank_page)) →
      ((b i : ℕ) → page_at after b i ≡ page_at (with_block before block left) b i) →
      IsAsLeft pages before (job.Erase die block) after
  erase_left die block after left can same may is =
      let many = same ∙ many_pages block can.0 in
      let v = vector_of left (omega arith) in
      inr (
        leftover.Block die block v.0,
        (refl, refl, ap length v.1 ∙ many),
        subst
            (λ (xs : List Page). (i : ℕ) → i < length xs →
            MayBeLeft (page_at before block i) blank_page (slice_index_or xs i blank_page)) (sym v.1) may,
        (λ b i. is b i ∙ ap (λ (xs : List Page). page_at (with_block before block xs) b i) (sym v.1)),
      )

  pub done_left : (failed now : ℕ) (after : DieState) (j : Job) (o : Outcome) → CanDo before j →
      Did failed now before j o after → IsAsLeft pages before j after
  done_left failed now after (job.Read p) (outcome.Read page) can did =
      inl (λ b i. ap (λ (d : DieState). page_at d b i) did.1)
  done_left failed now after (job.Read p) outcome.ReadFailed can did =
      inl (λ b i. ap (λ (d : DieState). page_at d b i) did.0)
  done_left failed now after (job.Program p page) outcome.Done can did =
      inr (leftover.Page p page, refl, inr (inl refl), (λ b i. ap (λ (d : DieState). page_at d b i) did.0))
  done_left failed now after (job.Program p page) outcome.Failed can did =
      inr (leftover.Page p did.0.0, refl, did.0.1, (λ b i. ap (λ (d : DieState). page_at d b i) did.0.2))
  done_left failed now after (job.Erase die block) outcome.Done can did =
      erase_left die block after (replicate (length (pages_of before block)) blank_page) can
      (length-replicate (length (pages_of before block)) blank_page)
      (λ i less. inr (inl (get_or-replicate (length (pages_of before block)) i blank_page blank_page
      (subst (λ (n : ℕ). i < n) (length-replicate (length (pages_of before block)) blank_page) less))))
      (λ b i. ap (λ (d : DieState). page_at d b i) did.0)
  done_left failed now after (job.Erase die block) outcome.Failed can did =
      erase_left die block after did.0.0 can did.0.1 did.0.2 (λ b i. ap (λ (d : DieState). page_at d b i) did.0.3)
  done_left failed now after j o can did = absurd did
