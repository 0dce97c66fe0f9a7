use Rattle.std.proofs.Common.{◌∙◌, sym, inl, inr}
use Rattle.page_tag.proofs.Sealed.{same_page}
use Rattle.page_tag.proofs.page.leftover_ok.Goals as goal
use Rattle.page_tag.proofs.page.leftover_ok.Goals.{then-eq, else-eq}

pub returns-then-eq-2 : goal.returns-then-eq-2
returns-then-eq-2 c =
    elim c.if-eq.branch [
      | then-eq w ↦ (
        λ _. inl ((same_page c.args.after.now c.args.before.now).0 (sym c.eq.ensures ∙ w.if-eq.true)),
        λ _. c.if-eq-2.true,
      )
      | else-eq w ↦ (
        λ _. inr
            (inl
            ((same_page c.args.after.now c.args.intended.now).0
            (sym w.eq-else-eq.ensures ∙ sym w.value-is ∙ c.if-eq-2.true))),
        λ _. c.if-eq-2.true,
      )
    ]
