use Rattle.std.proofs.Common.{◌≡◌, ◌∙◌, ◌+◌, ℕ, None, arith, refl, subst, sym}
use Rattle.ufs_spec.specs.Cells.{Nothing}
use Rattle.ufs_spec.proofs.CellKinds.{mark_not_nothing}
use Rattle.recovery.proofs.tables.Whole.{shown_within}
use Rattle.die_map.specs.Surveys.{IsMarkFound, IsReadTo}
use Rattle.die_map.proofs.MarkFacts.{all_read, die_shown, nothing_read}
use Rattle.die_map.proofs.survey.newest_mark.Goals as goal

pub loop-index-init : goal.loop-index-init
loop-index-init c = λ n cells few fit shown.
    nothing_read (λ s. IsMarkFound s None) n cells (λ p m e. mark_not_nothing Nothing m e refl)

pub loop-index-preserved : goal.loop-index-preserved
loop-index-preserved c = λ n cells few fit shown.
    let i = c.loop-index.index in
    let less = c.loop-index-test.true in
    let count = fit.0 in
    let same : c.number_of.result ≡ i = c.number_of.ensures ∙ omega arith in
    subst (λ (d : ℕ). IsReadTo (λ s. IsMarkFound s c.mark_on_die-found.result) (d + 1) 0 0 cells) same
    (c.mark_on_die-found.ensures n cells
    (die_shown n cells c.args.dies.now i c.number_of.result c.index-dies-index.result fit shown less
    c.index-dies-index.is same)
    (subst (λ (d : ℕ). IsReadTo (λ s. IsMarkFound s c.loop-index.found) d 0 0 cells) (sym same)
    (c.loop-index.invariant n cells few fit shown)))

pub returns : goal.returns
returns c = λ n cells few fit shown.
    let found = c.loop-index.found in
    let count = fit.0 in
    let done = c.loop-index-test.false in
    let there = c.loop-index.auto.index-end in
    let end : c.loop-index.index ≡ n.dies = omega arith in
    all_read (λ s. IsMarkFound s found) n cells (shown_within n c.args.dies.now cells fit shown)
    (subst (λ (d : ℕ). IsReadTo (λ s. IsMarkFound s found) d 0 0 cells) end
    (c.loop-index.invariant n cells few fit shown))
