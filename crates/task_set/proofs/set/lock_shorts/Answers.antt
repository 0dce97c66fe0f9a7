use Rattle.std.proofs.Common.{◌≡◌, ◌<◌, ◌∙◌, ap, arith, get_or, length, slice_set}
use Rattle.std.proofs.lemmas.List.{get_or_default}
use Rattle.std.proofs.lemmas.List.Edits.{map_over_more}
use Rattle.task_set.specs.Shorts.{short_locked}
use Rattle.task_set.proofs.set.lock_shorts.Goals as goal

pub loop-short-preserved : goal.loop-short-preserved
loop-short-preserved c =
    let i = c.loop-short.short-index in
    let f = short_locked c.args.frontier in
    let less : i < length c.loop-short.shorts = omega arith in
    let new = c.locked.result in
    let x = get_or c.loop-short.shorts i new in
    let is : new ≡ f x = c.locked.ensures
    ∙ ap f (get_or_default c.loop-short.shorts i _ new less) in
    ap (slice_set c.loop-short.shorts i) is ∙ map_over_more f c.args.shorts.now c.loop-short.shorts i x (omega arith)
    c.loop-short.invariant (get_or_default c.loop-short.shorts i new x less)
