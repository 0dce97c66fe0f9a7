use Rattle.write_cache.proofs.Common.{List, ap, arith, length, rules, sym, ℕ, ◌∙◌, ◌≡◌}
use Rattle.std.proofs.Common.{◌*◌}
use Rattle.std.proofs.lemmas.List.{take_rest}
use Rattle.write_cache.proofs.Parts.{around}
use Rattle.write_cache.proofs.rests.take_around.Goals as goal

pub returns : goal.returns
returns c =
    let own : length c.block.result.now ≡ 4096 = search rules in
    let whole : length c.args.body.now ≡ 4096 = sym (ap (λ (xs : List ℕ). length xs) c.block.ensures) ∙ own in
    around (256 * c.args.part.first) (256 * c.args.part.blocks) c.start.result c.end-end.result 4096 c.args.base.now
    c.args.body.now c.set_part.new.self c.set_part-2.new.self _ c.requires whole c.start.ensures
    (let e = c.end-end.ensures in omega (arith, e)) c.set_part.ensures (take_rest c.args.base.now c.end-end.result)
    c.set_part-2.ensures
