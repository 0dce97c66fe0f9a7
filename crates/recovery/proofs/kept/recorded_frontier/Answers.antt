use Rattle.recovery.proofs.Common.{arith, get_or, length, subst, sym, ◌+◌, ◌∙◌, ◌≡◌}
use Rattle.std.proofs.lemmas.Bool.{false≢true}
use Rattle.recovery.proofs.greatest_numbers.Among.{no_page, page_at}
use Rattle.recovery.proofs.greatest_numbers.Frontiers.{IsFrontier, frontier_passed, frontier_recorded, frontier_taken}
use Rattle.recovery.proofs.kept.recorded_frontier.Goals as goal
use Rattle.recovery.proofs.kept.recorded_frontier.Goals.{else-not-is_fenced, then-not-is_fenced}

pub loop-page-preserved : goal.loop-page-preserved
loop-page-preserved c =
    let i = c.loop-page.page-index in
    let e = get_or c.args.pages.now i no_page in
    let at = page_at c.args.pages.now i c.loop-page-test.true in
    elim c.if-not-is_fenced.branch [
      | then-not-is_fenced w ↦
          subst (λ x. IsFrontier c.args.pages.now c.args.fence c.args.marks (i + 1) x)
          (sym (w.greatest-is ∙ w.max-greatest.ensures))
          (frontier_taken c.args.pages.now c.args.fence c.args.marks i c.loop-page.greatest e at
          (λ within. false≢true (sym w.if-not-is_fenced.true ∙ c.is_fenced.ensures.1 within)) c.loop-page.invariant)
      | else-not-is_fenced w ↦
          subst (λ x. IsFrontier c.args.pages.now c.args.fence c.args.marks (i + 1) x) (sym w.greatest-is)
          (frontier_passed c.args.pages.now c.args.fence c.args.marks i c.loop-page.greatest e at
          (c.is_fenced.ensures.0 w.if-not-is_fenced.false) c.loop-page.invariant)
    ]

pub returns-clause-recorded : goal.returns-clause-recorded
returns-clause-recorded c c' m listed is marks =
    let end : c.loop-page.page-index ≡ length c.args.pages.now = omega arith in
    frontier_recorded c.args.pages.now c.args.fence c.args.marks c' m c.loop-page.greatest listed is marks
    (subst (λ x. IsFrontier c.args.pages.now c.args.fence c.args.marks x c.loop-page.greatest) end
    c.loop-page.invariant)
