use Rattle.write_cache.proofs.Common.{arith, length-map, map, shown, sym, ◌∙◌}
use Rattle.write_cache.proofs.Places.{found_at, searched, straight_place}
use Rattle.write_cache.proofs.pages.place_in.Goals as goal

pub returns-then-is_straight : goal.returns-then-is_straight
returns-then-is_straight c =
    let ps = c.args.pages.now.items in
    let long = length-map ps shown in
    let few = c.requires.few in
    let small = c.ranges.landed.fits in
    c.place_of.ensures
    ∙ straight_place c.args.landed c.args.index c.args.group (map shown ps) c.requires.stands (omega (arith, small))
    (omega (arith, long, few)) (sym c.is_straight.ensures ∙ c.if-is_straight.true)
    ∙ sym (found_at c.args.group.number c.args.index ps)

pub returns : goal.returns
returns c =
    let ps = c.args.pages.now.items in
    let long = length-map ps shown in
    let few = c.requires.few in
    let small = c.ranges.landed.fits in
    c.place_among.ensures
    ∙ searched c.args.landed c.args.index c.first-first.result c.args.group ps c.requires.stands
    (omega (arith, small)) (omega (arith, long, few)) c.first-first.ensures
    ∙ sym (found_at c.args.group.number c.args.index ps)
