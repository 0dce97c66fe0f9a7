use Rattle.std.proofs.Common.{Global, Vec, ◌∙◌, All, ap, arith, map, subst, sym, vec_capacity}
use Rattle.std.proofs.lemmas.List.Elements.{All-push}
use Rattle.block_table.specs.Lives.{spot_at}
use Rattle.collector.proofs.LiveBelow.{copy_more, dead_more, few_copied}
use Rattle.collector.proofs.gather.Goals as goal
use Rattle.collector.proofs.gather.Goals.{then-is_live, else-is_live}
use Rattle.collector.specs.Plans.{IsNamed, place_of}
use Rattle.collector.specs.declared.PlannedCopy.{PlannedCopy}

pub push_reserved-requires : goal.push_reserved-requires
push_reserved-requires c =
    let few = few_copied c.args.live.now c.loop-page.page (spot_at c.args.at) c.loop-page.copies.items
    c.loop-page.invariant.those in
    let f = c.loop-page.copies.ok.0 in
    omega arith

pub loop-page-preserved : goal.loop-page-preserved
loop-page-preserved c =
    elim c.if-is_live.branch [
      | then-is_live w ↦ record {
        those =
            ap (λ (v : Vec PlannedCopy Global). map place_of v.items) w.copies-is
            ∙ ap (map place_of) w.push_reserved.ensures.items
            ∙ copy_more c.args.live.now c.loop-page.page (spot_at c.args.at) c.loop-page.copies.items
            w.planned_copy.result c.loop-page.invariant.those w.planned_copy.ensures.from
            (sym c.is_live.ensures ∙ w.if-is_live.true);
        names =
            subst (All (IsNamed c.args.places.now c.args.cache.now.pages))
            (sym (ap (λ (v : Vec PlannedCopy Global). v.items) w.copies-is ∙ w.push_reserved.ensures.items))
            (All-push (IsNamed c.args.places.now c.args.cache.now.pages) c.loop-page.copies.items
            w.planned_copy.result c.loop-page.invariant.names w.planned_copy.ensures.name);
        room = ap (λ (v : Vec PlannedCopy Global). vec_capacity v) w.copies-is
            ∙ w.push_reserved.ensures.capacity ∙ c.loop-page.invariant.room;
      }
      | else-is_live w ↦ record {
        those =
            ap (λ (v : Vec PlannedCopy Global). map place_of v.items) w.copies-is
            ∙ c.loop-page.invariant.those
            ∙ dead_more c.args.live.now c.loop-page.page (spot_at c.args.at)
            (sym c.is_live.ensures ∙ w.if-is_live.false);
        names =
            subst (All (IsNamed c.args.places.now c.args.cache.now.pages))
            (sym (ap (λ (v : Vec PlannedCopy Global). v.items) w.copies-is)) c.loop-page.invariant.names;
        room = ap (λ (v : Vec PlannedCopy Global). vec_capacity v) w.copies-is ∙ c.loop-page.invariant.room;
      }
    ]
