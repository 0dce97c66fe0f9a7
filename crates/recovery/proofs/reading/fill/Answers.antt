use Rattle.recovery.proofs.Common.{DieState, IfErr-weaker, LiesOnDie, ap, arith, length, on_ok_weaker, page_at, subst}
use Rattle.recovery.proofs.Common.{sym, ℕ, ◌+◌, ◌<◌, ◌∙◌, ◌≡◌}
use Rattle.ufs_spec.specs.Dies.{pages_of}
use Rattle.recovery.proofs.tables.Counts.{block_fault_later}
use Rattle.recovery.proofs.reading.fill.Goals as goal

pub read_pair-requires-clause-inside : goal.read_pair-requires-clause-inside
read_pair-requires-clause-inside g c = (c.requires.inside.0, omega (arith, c.requires.inside.1))

pub read_pair-requires-2-clause-inside : goal.read_pair-requires-2-clause-inside
read_pair-requires-2-clause-inside g c =
    let last : c.args.index + 2 + 1 < length (pages_of (g.D.Die.state c.args.die.now) c.args.spot.1) =
    omega (arith, c.requires.inside.1) in
    subst (λ (die : DieState). LiesOnDie die c.args.spot.1 (c.args.index + 2 + 1)) (sym c.read_pair.ensures.same)
    (c.requires.inside.0, last)

pub returns : goal.returns
returns g c =
    let before = g.D.Die.state c.args.die.now in
    let b = c.args.spot.1 in
    let same = c.read_pair.ensures.same in
    let further : c.args.index + 2 + 1 ≡ c.args.index + 3 = omega arith in
    record {
      same = c.read_pair-2.ensures.same ∙ same;
      counted = omega (arith, c.read_pair.ensures.counted, c.read_pair-2.ensures.counted);
      first = on_ok_weaker c.read_pair-2.result (λ _. c.in_default.ensures.one) c.read_pair-2.ensures.one;
      second = on_ok_weaker c.read_pair-2.result (λ _. c.in_default.ensures.next) c.read_pair-2.ensures.one;
      third =
          on_ok_weaker c.read_pair-2.result
          (λ h. h ∙ ap (λ (die : DieState). page_at die b (c.args.index + 2)) same) c.read_pair-2.ensures.one;
      fourth =
          on_ok_weaker c.read_pair-2.result
          (λ h. h ∙ ap (λ (die : DieState). page_at die b (c.args.index + 2 + 1)) same
          ∙ ap (λ (k : ℕ). page_at before b k) further)
          c.read_pair-2.ensures.next;
      fault =
          IfErr-weaker c.read_pair-2.result _ _
          (λ e h. block_fault_later c.args.spot.0 c.args.spot.1 (g.D.Die.failed c.args.die.now)
          (g.D.Die.failed c.read_pair.new.die) (g.D.Die.failed c.read_pair-2.new.die) e c.read_pair.ensures.counted h)
          c.read_pair-2.ensures.fault;
    }
