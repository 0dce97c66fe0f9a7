use Rattle.write_cache.proofs.Common.{Bool, Some, ap, arith, cond, drop, is_named, length, position_from, refl}
use Rattle.write_cache.proofs.Common.{slice_get, sym, take, ℕ, ◌+◌, ◌<◌, ◌∙◌, ◌≡◌}
use Rattle.std.proofs.lemmas.Option.{slice_get_read}
use Rattle.write_cache.proofs.Places.{next_page}
use Rattle.write_cache.proofs.pages.place_among.Goals as goal

pub returns-then-is_named : goal.returns-then-is_named
returns-then-is_named c =
    let ps = c.args.pages.now.items in
    let at = c.args.first + c.loop-passed.passed in
    let p = c.index.result.now in
    let within = c.loop-passed-test.true in
    let there = c.requires in
    let less : at < length ps = omega (arith, within, there) in
    let is : slice_get ps at ≡ Some p = slice_get_read ps (length ps) at p refl less c.index.ensures in
    let next = next_page c.args.first c.args.group.pages c.loop-passed.passed ps p within is in
    let named = sym c.is_named.ensures ∙ c.if-is_named.true in
    sym (c.loop-passed.invariant
    ∙ ap (position_from (is_named c.args.group.number c.args.index) at) next
    ∙ ap (λ (b : Bool). cond b (Some at) (position_from (is_named c.args.group.number c.args.index) (at + 1)
    (drop (c.loop-passed.passed + 1) (take c.args.group.pages (drop c.args.first ps))))) named)

pub loop-passed-preserved : goal.loop-passed-preserved
loop-passed-preserved c =
    let ps = c.args.pages.now.items in
    let at = c.args.first + c.loop-passed.passed in
    let p = c.index.result.now in
    let within = c.loop-passed-test.true in
    let there = c.requires in
    let less : at < length ps = omega (arith, within, there) in
    let is : slice_get ps at ≡ Some p = slice_get_read ps (length ps) at p refl less c.index.ensures in
    let next = next_page c.args.first c.args.group.pages c.loop-passed.passed ps p within is in
    let named = sym c.is_named.ensures ∙ c.if-is_named.false in
    let rest = drop (c.loop-passed.passed + 1) (take c.args.group.pages (drop c.args.first ps)) in
    c.loop-passed.invariant
    ∙ ap (position_from (is_named c.args.group.number c.args.index) at) next
    ∙ ap (λ (b : Bool). cond b (Some at)
    (position_from (is_named c.args.group.number c.args.index) (at + 1) rest))
    named
    ∙ ap (λ (m : ℕ). position_from (is_named c.args.group.number c.args.index) m rest) (omega arith)
