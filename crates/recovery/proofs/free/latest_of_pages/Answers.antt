use Rattle.recovery.proofs.Common.{AreGreatest, PagesRecord, add-one, arith, get_or, length, slice_get-get_or, subst, ℕ}
use Rattle.recovery.proofs.Common.{◌∙◌, ◌≡◌}
use Rattle.recovery.proofs.frees.Ages.{IsRaised, page_recorded}
use Rattle.recovery.proofs.key_order.Entries.{no_page}
use Rattle.recovery.proofs.free.latest_of_pages.Goals as goal

pub loop-page-preserved : goal.loop-page-preserved
loop-page-preserved c =
    let pages = c.args.pages.now in
    let i = c.loop-page.page-index in
    let e = get_or pages i no_page in
    let raised : IsRaised c.loop-page.latests.items c.raise.new.latests.items c.block_number.result e.tag.frontier =
    record { other = c.raise.ensures.other; here = c.raise.ensures.here } in
    record {
      long = c.raise.ensures.long ∙ c.loop-page.invariant.long;
      greatest =
          rw add-one
          (page_recorded c.args.blocks pages i e c.loop-page.latests.items c.raise.new.latests.items
          (slice_get-get_or pages i no_page c.loop-page-test.true)
          (subst (λ (k : ℕ). IsRaised c.loop-page.latests.items c.raise.new.latests.items k e.tag.frontier)
          c.block_number.ensures raised)
          c.loop-page.invariant.greatest);
    }

pub returns-clause-greatest : goal.returns-clause-greatest
returns-clause-greatest c =
    let end : c.loop-page.page-index ≡ length c.args.pages.now = omega arith in
    subst (λ (n : ℕ). AreGreatest (PagesRecord c.args.blocks c.args.pages.now n) c.loop-page.latests.items) end
    c.loop-page.invariant.greatest
