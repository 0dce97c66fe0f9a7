-- The program of the page of the step under way ends: that of a mark, of a repair or of a copy.
use Rattle.ftl_core.proofs.Common.{Cell, Cells, Core, Describes, DieRow, GroupPage, IsStepCell, Kept, MarkPage, None}
use Rattle.ftl_core.proofs.Common.{OpenBlock, Option, Some, Step, Translation, false, false≢true, next_place, refl}
use Rattle.ftl_core.proofs.Common.{slice_get, step_again, step_over, subst, sym, true, went_bad, ℕ, ◌≡◌}
use Rattle.ufs_spec.specs.Disk as disk
use Rattle.ufs_spec.specs.Moves.{cell_failed, cell_written}
use Rattle.ftl_core.specs.declared.books.Step.TheVariants as steps
use Rattle.ftl_core.specs.Ends.{step_failed, step_written}
use Rattle.ftl_core.proofs.job_ended.ChangesEnded.{page_ends_wrong}
use Rattle.ftl_core.proofs.job_ended.CopiesEnded.{copy_ends_well}
use Rattle.ftl_core.proofs.job_ended.MarksEnded.{mark_ends_well, mark_ends_wrong}
use Rattle.ftl_core.proofs.job_ended.RepairsEnded.{repair_ends_well}

module _ (c : Core) (t : Translation) (die : ℕ) (b : DieRow) (o : OpenBlock) (h : Describes c t)
    (there : slice_get c.rows die ≡ Some b) (fills : b.filling ≡ Some o) where
  back : (step : Option Step) (cell : Cell) → c.step ≡ step → IsStepCell step cell → IsStepCell c.step cell
  back step cell is page = subst (λ (z : Option Step). IsStepCell z cell) (sym is) page

  well : (step : Option Step) (cell : Cell) → c.step ≡ step → IsStepCell step cell →
      t.disk.flights die ≡ Some (disk.Programming (next_place die o) cell) →
      Kept (step_over c step die b (next_place die o)) (cell_written t (next_place die o) cell)
  well None cell is page flies = absurd page
  well (Some (steps.Mark n fence)) (MarkPage m) is page flies =
      mark_ends_well c t die b o m n fence h there fills flies is
      (back (Some (steps.Mark n fence)) (MarkPage m) is page)
  well (Some (steps.Mark n fence)) cell is page flies = absurd page
  well (Some (steps.Repair n k from true)) (GroupPage tag body) is page flies =
      repair_ends_well c t die b o tag body n k from h there fills flies is
      (back (Some (steps.Repair n k from true)) (GroupPage tag body) is page)
  well (Some (steps.Repair n k from false)) (GroupPage tag body) is page flies = absurd (false≢true page.2)
  well (Some (steps.Repair n k from is_there)) cell is page flies = absurd page
  well (Some (steps.Copy n k from (Some read))) (GroupPage tag body) is page flies =
      copy_ends_well c t die b o tag body n k from read h there fills flies is
      (back (Some (steps.Copy n k from (Some read))) (GroupPage tag body) is page)
  well (Some (steps.Copy n k from (Some read))) cell is page flies = absurd page
  well (Some (steps.Copy n k from None)) cell is page flies = absurd page

  -- its page is written
  pub step_ends_well : (cell : Cell) → IsStepCell c.step cell →
      t.disk.flights die ≡ Some (disk.Programming (next_place die o) cell) →
      Kept (step_written c die b (next_place die o)) (cell_written t (next_place die o) cell)
  step_ends_well cell page flies = well c.step cell refl page flies

  wrong : (step : Option Step) (cell : Cell) (left : Cells) → c.step ≡ step → IsStepCell step cell →
      t.disk.flights die ≡ Some (disk.Programming (next_place die o) cell) →
      Kept (went_bad (step_again c step) die o.block) (cell_failed t (next_place die o) cell left)
  wrong None cell left is page flies = absurd page
  wrong (Some (steps.Mark n fence)) (MarkPage m) left is page flies =
      mark_ends_wrong c t die b o m n fence left h there fills flies is
      (back (Some (steps.Mark n fence)) (MarkPage m) is page)
  wrong (Some (steps.Mark n fence)) cell left is page flies = absurd page
  wrong (Some (steps.Repair n k from is_there)) (GroupPage tag body) left is page flies =
      page_ends_wrong c t die b o left h there fills
  wrong (Some (steps.Repair n k from is_there)) cell left is page flies = absurd page
  wrong (Some (steps.Copy n k from (Some read))) (GroupPage tag body) left is page flies =
      page_ends_wrong c t die b o left h there fills
  wrong (Some (steps.Copy n k from (Some read))) cell left is page flies = absurd page
  wrong (Some (steps.Copy n k from None)) cell left is page flies = absurd page

  -- or its program failed
  pub step_ends_wrong : (cell : Cell) (left : Cells) → IsStepCell c.step cell →
      t.disk.flights die ≡ Some (disk.Programming (next_place die o) cell) →
      Kept (step_failed c die (next_place die o)) (cell_failed t (next_place die o) cell left)
  step_ends_wrong cell left page flies = wrong c.step cell left refl page flies
