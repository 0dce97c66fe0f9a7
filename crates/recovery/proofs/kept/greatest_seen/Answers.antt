use Rattle.recovery.proofs.Common.{ap, arith, get_or, length, max, subst, sym, ◌+◌, ◌∙◌, ◌≡◌}
use Rattle.recovery.proofs.greatest_numbers.Among.{no_page, page_at}
use Rattle.recovery.proofs.greatest_numbers.Tops.{IsTopAmong, top_bounded, top_more, top_seen}
use Rattle.recovery.proofs.kept.greatest_seen.Goals as goal
use Rattle.recovery.proofs.kept.greatest_seen.Goals.{After-loop-page}

pub loop-page-preserved : goal.loop-page-preserved
loop-page-preserved c =
    let i = c.loop-page.page-index in
    let e = get_or c.args.pages.now i no_page in
    subst (λ x. IsTopAmong c.args.pages.now c.args.fence c.args.marks (i + 1) x)
    (sym (c.max-greatest-in-loop-page.ensures ∙ ap (λ x. max x e.tag.frontier) c.max.ensures))
    (top_more c.args.pages.now c.args.fence c.args.marks i c.loop-page.greatest e
    (page_at c.args.pages.now i c.loop-page-test.true) c.loop-page.invariant)

at_end : (c : After-loop-page) → IsTopAmong c.args.pages.now c.args.fence c.args.marks (length c.args.pages.now)
    c.loop-page.greatest
at_end c =
    let end : c.loop-page.page-index ≡ length c.args.pages.now = omega arith in
    subst (λ x. IsTopAmong c.args.pages.now c.args.fence c.args.marks x c.loop-page.greatest) end c.loop-page.invariant

pub returns-clause-top : goal.returns-clause-top
returns-clause-top c c' m listed is marks =
    top_seen c.args.pages.now c.args.fence c.args.marks c' m c.loop-page.greatest listed is marks (at_end c)

pub returns-clause-bounded : goal.returns-clause-bounded
returns-clause-bounded c limit numbers frontiers marks end =
    top_bounded c.args.pages.now c.args.fence c.args.marks c.loop-page.greatest limit (at_end c) numbers frontiers marks
    end
