use Rattle.std.proofs.Common.{◌≡◌, ◌∙◌, ◌+◌, ℕ, List, None, arith, ap, refl, subst, sym}
use Rattle.std.specs.BTreeMap.{is_at}
use Rattle.std.specs.Map.{lookup}
use Rattle.ufs_spec.specs.Cells.{Nothing}
use Rattle.ufs_spec.proofs.CellKinds.{page_not_nothing}
use Rattle.recovery.proofs.tables.Whole.{shown_within}
use Rattle.die_map.specs.Surveys.{Address, ArePagesFound, IsPageFound, IsReadTo, address_cmp, written_at}
use Rattle.die_map.specs.declared.survey.Written.{Written}
use Rattle.die_map.proofs.MarkFacts.{all_read, die_shown, nothing_read}
use Rattle.die_map.proofs.survey.newest_pages.Goals as goal

pub loop-index-init : goal.loop-index-init
loop-index-init c = λ n cells few fit shown.
    let mark = c.args.mark in
    nothing_read (λ s. ArePagesFound s mark (written_at c.new-newest.result)) n cells
    (λ a.
    let none : written_at c.new-newest.result a ≡ None =
    ap (λ (es : List (Address × Written)). lookup (is_at (address_cmp a)) es) c.new-newest.ensures.empty in
    subst (IsPageFound (λ p. Nothing) mark a) (sym none) (λ p t b e of. absurd (page_not_nothing Nothing t b e refl)))

pub loop-index-preserved : goal.loop-index-preserved
loop-index-preserved c = λ n cells few fit shown.
    let mark = c.args.mark in
    let i = c.loop-index.index in
    let less = c.loop-index-test.true in
    let count = fit.0 in
    let same : c.number_of.result ≡ i = c.number_of.ensures ∙ omega arith in
    let old = written_at c.loop-index.newest in
    let new = written_at c.pages_on_die.new.newest in
    subst (λ (d : ℕ). IsReadTo (λ s. ArePagesFound s mark new) (d + 1) 0 0 cells) same
    (c.in_ok-pages_on_die.ensures n cells
    (die_shown n cells c.args.dies.now i c.number_of.result c.index-dies-index.result fit shown less
    c.index-dies-index.is same)
    (subst (λ (d : ℕ). IsReadTo (λ s. ArePagesFound s mark old) d 0 0 cells) (sym same)
    (c.loop-index.invariant n cells few fit shown)))

pub returns : goal.returns
returns c = λ n cells few fit shown.
    let found = written_at c.loop-index.newest in
    let mark = c.args.mark in
    let count = fit.0 in
    let done = c.loop-index-test.false in
    let there = c.loop-index.auto.index-end in
    let end : c.loop-index.index ≡ n.dies = omega arith in
    all_read (λ s. ArePagesFound s mark found) n cells (shown_within n c.args.dies.now cells fit shown)
    (subst (λ (d : ℕ). IsReadTo (λ s. ArePagesFound s mark found) d 0 0 cells) end
    (c.loop-index.invariant n cells few fit shown))
