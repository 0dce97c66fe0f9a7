use Rattle.write_cache.proofs.Common.{ap, completed_at, sym, ◌∙◌}
use Rattle.std.specs.Prelude.{slice_get}
use Rattle.write_cache.proofs.Fills.{base_read, base_there}
use Rattle.write_cache.proofs.pages.fill.complete_behind.Goals as goal

pub returns-in-Some-clause-after : goal.returns-in-Some-clause-after
returns-in-Some-clause-after c =
    let ps = c.args.pages.now.items in
    c.complete_at.ensures.after
    ∙ ap (λ b. completed_at b ps c.args.at (slice_get ps c.args.at))
    (sym (base_there c.args.block.now c.in-Some.base ps c.args.filled (sym c.body_at.ensures ∙ c.in-Some.is)))

pub returns-in-None-clause-after : goal.returns-in-None-clause-after
returns-in-None-clause-after c =
    let ps = c.args.pages.now.items in
    c.complete_at-in-None.ensures.after
    ∙ ap (λ b. completed_at b ps c.args.at (slice_get ps c.args.at))
    (sym (base_read c.args.block.now ps c.args.filled (sym c.body_at.ensures ∙ c.in-None.is)))
