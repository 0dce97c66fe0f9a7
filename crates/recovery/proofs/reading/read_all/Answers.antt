use Rattle.recovery.proofs.Common.{IfOk-weaker, IsTableOf, length, length-map, map, subst, sym, ℕ, ◌∙◌, ◌≡◌}
use Rattle.recovery.proofs.tables.Shown.{all_shown}
use Rattle.recovery.proofs.tables.Whole.{all_read, shown_within}
use Rattle.recovery.proofs.reading.read_all.Goals as goal

pub returns-clause-read : goal.returns-clause-read
returns-clause-read g c =
    IfOk-weaker c.read_dies.result _ _
    (λ table h cells shown.
    let n = c.args.numbers.now in
    let dies = map g.D.Die.state c.args.dies.now in
    let within = shown_within n dies cells c.requires shown in
    let all : length c.args.dies.now ≡ n.dies = sym (length-map c.args.dies.now g.D.Die.state) ∙ c.requires.0 in
    all_read n cells within table
    (subst (λ (k : ℕ). IsTableOf n 0 k cells table) all (h cells within (all_shown dies cells shown))))
    c.read_dies.ensures.read
