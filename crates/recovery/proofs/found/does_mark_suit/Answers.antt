use Rattle.recovery.proofs.Common.{Some, ap, mark_of, same_Some, subst, sym, ◌∙◌, ◌≡◌}
use Rattle.std.proofs.Common.{option_map}
use Rattle.ufs_spec.specs.Cells as cells
use Rattle.ufs_spec.specs.Sound.{MarkSuits}
use Rattle.recovery.proofs.found.does_mark_suit.Goals as goal

pub returns-in-Some : goal.returns-in-Some
returns-in-Some c =
    let is : option_map mark_of c.args.mark.now ≡ Some (mark_of c.in-Some.mark) =
    ap (option_map mark_of) c.in-Some.is in (
      λ e m there.
          subst (λ (x : cells.Mark). MarkSuits c.args.numbers.now x.numbers)
          (same_Some (mark_of c.in-Some.mark) m (sym is ∙ there)) (c.do_numbers_suit.ensures.0 e),
      λ h. c.do_numbers_suit.ensures.1 (h (mark_of c.in-Some.mark) is),
    )
