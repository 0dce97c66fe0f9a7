use Rattle.recovery.proofs.Common.{HasIndex, IsBucket, ap, arith, get_or, group_bound, length, length-replicate}
use Rattle.recovery.proofs.Common.{slice_get, subst, suc, sym, ◌*◌, ◌+◌, ◌∙◌, ◌≡◌}
use Rattle.recovery.proofs.greatest_numbers.Among.{no_page, page_at}
use Rattle.recovery.proofs.whole_groups.Noting.{buckets_more, buckets_none, room_none, room_stays}
use Rattle.recovery.specs.Buckets.{nothing_noted}
use Rattle.recovery.proofs.kept.groups_behind.Goals as goal

pub loop-page-init : goal.loop-page-init
loop-page-init c =
    let count = c.min-count.result in
    let g = c.in_ok-groups.groups in
    let empty = c.in_ok-groups.ensures in
    record {
      count = ap length empty.buckets ∙ length-replicate count nothing_noted;
      room = room_none count g empty.buckets empty.seen empty.few;
      each = λ tags k b at.
          buckets_none c.args.pages.now c.args.from count (count * group_bound) k b g.seen
          (sym (ap (λ x. slice_get x k) empty.buckets) ∙ at) empty.seen;
    }

pub loop-page-preserved : goal.loop-page-preserved
loop-page-preserved c =
    let i = c.loop-page.page-index in
    let e = get_or c.args.pages.now i no_page in
    let old = c.loop-page.groups in
    let new = c.note.new.self in
    record {
      count = c.note.ensures.count ∙ c.loop-page.invariant.count;
      room = room_stays old new c.args.from e.tag c.note.ensures c.loop-page.invariant.room;
      each = buckets_more c.args.pages.now i c.args.from old new e (page_at c.args.pages.now i c.loop-page-test.true)
          c.note.ensures c.loop-page.invariant.each;
    }

pub returns : goal.returns
returns c =
    let end : c.loop-page.page-index ≡ length c.args.pages.now = omega arith in
    let g = c.loop-page.groups in
    record {
      count = c.loop-page.invariant.count ∙ c.min-count.ensures;
      room = c.loop-page.invariant.room;
      each = λ tags k b at.
          subst (λ x. IsBucket c.args.pages.now x (suc (c.args.from + k)) b (HasIndex g.seen k)) end
          (c.loop-page.invariant.each tags k b at);
    }
