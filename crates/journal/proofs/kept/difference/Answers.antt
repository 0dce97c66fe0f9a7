use Rattle.std.proofs.Common.{◌<◌, ℕ, arith, sym, subst, length}
use Rattle.ufs_spec.specs.Plain.{unit_of}
use Rattle.journal.proofs.ShownFacts.{shows_more, unit_there}
use Rattle.journal.proofs.kept.difference.Goals as goal

pub difference_in-requires-clause-count : goal.difference_in-requires-clause-count
difference_in-requires-clause-count c =
    (unit_there c.args.numbers.now c.as_slice-units.result.now c.args.plain.now c.args.hint.unit _ c.requires
    c.as_slice-units.ensures.value c.if-near-units.true).1

pub returns-in-Some-clause-some : goal.returns-in-Some-clause-some
returns-in-Some-clause-some c =
    λ shows.
    let there = unit_there c.args.numbers.now c.as_slice-units.result.now c.args.plain.now c.args.hint.unit
    (record { blocks = 0; boot = 0; protect = 0 }) c.requires c.as_slice-units.ensures.value c.if-near-units.true in
    let inside : c.in-Some.address < length (unit_of c.args.hint.unit c.args.plain.now) =
    subst (λ (n : ℕ). c.in-Some.address < n) there.1 c.in-Some.ensures.some.0 in
    c.in-Some.ensures.some.1 (shows c.args.hint.unit c.in-Some.address there.0 inside)

pub difference_in-requires-in-loop-index-clause-count : goal.difference_in-requires-in-loop-index-clause-count
difference_in-requires-in-loop-index-clause-count c =
    (unit_there c.args.numbers.now c.as_slice-units.result.now c.args.plain.now c.loop-index.index _ c.requires
    c.loop-index.invariant.same c.loop-index-test.true).1

pub returns-in-Some-difference_in-clause-some : goal.returns-in-Some-difference_in-clause-some
returns-in-Some-difference_in-clause-some c =
    λ shows.
    let there = unit_there c.args.numbers.now c.as_slice-units.result.now c.args.plain.now c.loop-index.index
    (record { blocks = 0; boot = 0; protect = 0 }) c.requires c.loop-index.invariant.same c.loop-index-test.true in
    let inside : c.in-Some-difference_in.address < length (unit_of c.loop-index.index c.args.plain.now) =
    subst (λ (n : ℕ). c.in-Some-difference_in.address < n) there.1 c.in-Some-difference_in.ensures.some.0 in
    c.in-Some-difference_in.ensures.some.1 (shows c.loop-index.index c.in-Some-difference_in.address there.0 inside)

pub loop-index-preserved : goal.loop-index-preserved
loop-index-preserved c = record {
  few = c.loop-index.invariant.few;
  same = c.loop-index.invariant.same;
  below =
      let there = unit_there c.args.numbers.now c.as_slice-units.result.now c.args.plain.now c.loop-index.index
      (record { blocks = 0; boot = 0; protect = 0 }) c.requires c.loop-index.invariant.same c.loop-index-test.true in
      shows_more _ c.args.plain.now c.loop-index.index c.loop-index.invariant.below
      (λ a lt. c.in_default-difference_in.ensures.none a (omega arith) (subst (λ (n : ℕ). a < n) (sym there.1) lt));
}
