use Rattle.block_table.proofs.Common.{Lives, arith, spot, subst, sym, ◌<◌, ◌∙◌, ◌≤◌}
use Rattle.block_table.proofs.Searches.{live_found, live_none}
use Rattle.block_table.proofs.live.LivePages.next_live.Goals as goal

pub returns-then-is_live : goal.returns-then-is_live
returns-then-is_live c =
    live_found c.args.self.now (spot c.args.die c.args.block) c.args.from c.loop-page.page (omega arith)
    (subst (λ (l : Lives). c.loop-page.page < l.sizes.pages) c.self.view_is c.loop-page-test.true)
    (sym c.is_live.ensures ∙ c.if-is_live.true) c.loop-page.invariant

pub returns : goal.returns
returns c =
    live_none c.args.self.now (spot c.args.die c.args.block) c.args.from c.loop-page.page
    (subst (λ (l : Lives). l.sizes.pages ≤ c.loop-page.page) c.self.view_is (omega arith)) c.loop-page.invariant
