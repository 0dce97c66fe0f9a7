use Rattle.recovery.proofs.Common.{FoundPage, IsNewestOf, List, None, Option, ap, arith, length, length-replicate}
use Rattle.recovery.proofs.Common.{shape, subst, sym, ℕ, ◌+◌, ◌∙◌, ◌≡◌}
use Rattle.recovery.proofs.key_order.Entries.{AreNewest, entries_grow, no_page, none_newest, whole_written}
use Rattle.recovery.proofs.key_order.NewestPages.{content_of}
use Rattle.recovery.proofs.keys.content_pages.Goals as goal

pub loop-page-init : goal.loop-page-init
loop-page-init c = record {
  long = ap length c.in_ok-entries.ensures ∙ length-replicate c.key_count.result None ∙ c.key_count.ensures.count;
  newest = none_newest (shape c.args.numbers.now) c.args.pages.now c.args.fence c.args.kept
      c.key_count.result c.in_ok-entries.entries.items c.key_count.ensures.count c.in_ok-entries.ensures;
}

pub loop-page-preserved : goal.loop-page-preserved
loop-page-preserved c =
    let same : length c.note.new.entries ≡ length c.loop-page.entries.items =
    c.note.auto.entries ∙ ap length c.as_mut_slice.ensures.value in
    let e = whole_written c.loop-page.entries.len c.note.new.entries c.loop-page.entries.items
    c.loop-page.entries.ok.0 same in
    record {
      long = ap length e ∙ same ∙ c.loop-page.invariant.long;
      newest =
          subst
          (λ (xs : List (Option FoundPage)). AreNewest (shape c.args.numbers.now) c.args.pages.now c.args.fence
          c.args.kept (c.loop-page.page-index + 1) xs)
          (sym e)
          (entries_grow (shape c.args.numbers.now) c.args.pages.now c.args.fence c.args.kept
          c.loop-page.page-index no_page c.as_mut_slice.result.now c.note.new.entries c.loop-page-test.true
          (subst
          (λ (xs : List (Option FoundPage)). AreNewest (shape c.args.numbers.now) c.args.pages.now c.args.fence
          c.args.kept c.loop-page.page-index xs)
          (sym c.as_mut_slice.ensures.value) c.loop-page.invariant.newest)
          c.note.ensures);
    }

pub returns-clause-content : goal.returns-clause-content
returns-clause-content c = λ cells m listed same k i index.
    let r = c.loop-page.invariant.newest k i index in
    let e : c.loop-page.page-index ≡ length c.args.pages.now = omega arith in (
      r.0,
      r.1,
      content_of cells c.args.pages.now listed m c.args.fence c.args.kept k r.0 same
          (subst (λ (n : ℕ). IsNewestOf c.args.pages.now n c.args.fence c.args.kept k r.0) e r.2),
    )
