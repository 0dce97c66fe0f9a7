use Rattle.write_cache.proofs.Common.{arith, drop, subst, suc, ℕ, ◌-◌, ◌<◌, ◌≡◌}
use Rattle.write_cache.proofs.Entries.{AreAbove, above_from, above_more, above_none, none_between}
use Rattle.write_cache.proofs.Entries.{rising_above}
use Rattle.write_cache.proofs.pages.ring.Ring.find.Goals as goal

pub returns-then-number-front : goal.returns-then-number-front
returns-then-number-front c =
    let gs = c.args.self.now.entries.items in
    above_none c.args.number gs (rising_above c.args.number c.args.front gs c.requires c.if-number-front.true)

pub loop-passed-init : goal.loop-passed-init
loop-passed-init c =
    let gs = c.args.self.now.entries.items in
    let reach = c.reach-reach.ensures in
    let low = c.if-number-front.false in
    subst (λ (m : ℕ). AreAbove c.args.number (drop m gs)) (omega arith)
    (above_from c.args.number c.args.front c.reach-reach.result gs c.requires
    (λ less. omega (arith, less, reach, low)))

pub returns-then-group-number-2 : goal.returns-then-group-number-2
returns-then-group-number-2 c =
    let gs = c.args.self.now.entries.items in
    let at = c.reach-reach.result - 1 - c.loop-passed.passed in
    let less = c.loop-passed-test.true in
    let next : c.reach-reach.result - c.loop-passed.passed ≡ suc at = omega (arith, less) in
    none_between c.args.number c.args.front at gs c.entry-group.result c.requires c.entry-group.ensures
    c.if-group-number-2.true
    (subst (λ (m : ℕ). AreAbove c.args.number (drop m gs)) next c.loop-passed.invariant)

pub loop-passed-preserved : goal.loop-passed-preserved
loop-passed-preserved c =
    let gs = c.args.self.now.entries.items in
    let at = c.reach-reach.result - 1 - c.loop-passed.passed in
    let less = c.loop-passed-test.true in
    let not_same = c.if-group-number.false in
    let not_less = c.if-group-number-2.false in
    let greater : c.args.number < c.entry-group.result.number = omega (arith, not_same, not_less) in
    let next : c.reach-reach.result - c.loop-passed.passed ≡ suc at = omega (arith, less) in
    subst (λ (m : ℕ). AreAbove c.args.number (drop m gs)) (omega (arith, less))
    (above_more c.args.number at gs c.entry-group.result c.entry-group.ensures greater
    (subst (λ (m : ℕ). AreAbove c.args.number (drop m gs)) next c.loop-passed.invariant))

pub returns : goal.returns
returns c =
    let gs = c.args.self.now.entries.items in
    let done = c.loop-passed-test.false in
    let none : c.reach-reach.result - c.loop-passed.passed ≡ 0 = omega (arith, done) in
    above_none c.args.number gs
    (subst (λ (m : ℕ). AreAbove c.args.number (drop m gs)) none c.loop-passed.invariant)
