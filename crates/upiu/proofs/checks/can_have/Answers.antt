use Rattle.std.proofs.Common.{◌≡◌, ◌∙◌, ◌∷◌, [], ◌==◌, ◌||◌, ℕ, Bool, ap, false, slice_index, sym, rules}
use Rattle.std.proofs.lemmas.Bool.{ne_eqb}
use Rattle.ufs_spec.specs.Messages.{is_among, may_have}
use Rattle.upiu.proofs.FirstFault.{transfer_may, unlisted_may}
use Rattle.upiu.proofs.checks.can_have.Goals as goal

pub returns-then-segment-gt0 : goal.returns-then-segment-gt0
returns-then-segment-gt0 c =
    ap (λ (count : ℕ). c.args.segment == count) c.read_u32.ensures
    ∙ transfer_may c.args.bytes.now c.args.segment c.code.result c.in-2.is c.if-segment-gt0.true
    ∙ ap (λ (code : ℕ). may_have code c.args.bytes.now c.args.segment) c.code.ensures

pub returns-else-segment-eq0 : goal.returns-else-segment-eq0
returns-else-segment-eq0 c =
    ap (λ (none : Bool). none || (slice_index c.args.bytes.now 12 == 0x02))
    (sym (ne_eqb c.args.segment 0 c.if-segment-eq0.false))
    ∙ ap (λ (code : ℕ). may_have code c.args.bytes.now c.args.segment) (sym c.in-22.is ∙ c.code.ensures)

pub returns-in_default : goal.returns-in_default
returns-in_default c =
    let transfer : is_among (0x02 ∷ 0x22 ∷ []) c.code.result ≡ false = search rules in
    let query : (c.code.result == 0x16) ≡ false = search rules in
    let response : (c.code.result == 0x21) ≡ false = search rules in
    let answer : (c.code.result == 0x36) ≡ false = search rules in
    let none : is_among (0x00 ∷ 0x01 ∷ 0x04 ∷ 0x20 ∷ 0x24 ∷ 0x31 ∷ []) c.code.result ≡ false = search rules in
    unlisted_may c.args.bytes.now c.args.segment c.code.result transfer query response answer none
    ∙ ap (λ (code : ℕ). may_have code c.args.bytes.now c.args.segment) c.code.ensures
