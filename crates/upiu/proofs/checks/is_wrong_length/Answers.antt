use Rattle.std.proofs.Common.{◌∙◌, ap, not, sym}
use Rattle.std.proofs.lemmas.Bool.{false≢true, lt-ltb}
use Rattle.upiu.proofs.FirstFault.{by_total, not_had, too_long}
use Rattle.upiu.proofs.checks.is_wrong_length.Goals as goal
use Rattle.upiu.proofs.checks.is_wrong_length.Goals.{then-segment-gt-LONGEST, else-segment-gt-LONGEST}

pub returns-then-not-can_have : goal.returns-then-not-can_have
returns-then-not-can_have c =
    elim c.if-segment-gt-LONGEST.branch [
      | then-segment-gt-LONGEST w ↦
          c.if-not-can_have.true
          ∙ too_long c.args.bytes.now c.stated_length-segment.result c.stated_length-segment.ensures
          w.if-segment-gt-LONGEST.true
      | else-segment-gt-LONGEST w ↦
          c.if-not-can_have.true
          ∙ not_had c.args.bytes.now c.stated_length-segment.result c.stated_length-segment.ensures
          w.if-segment-gt-LONGEST.false (ap not (sym w.can_have.ensures) ∙ sym w.value-is ∙ c.if-not-can_have.true)
    ]

pub returns-else-not-can_have : goal.returns-else-not-can_have
returns-else-not-can_have c =
    elim c.if-segment-gt-LONGEST.branch [
      | then-segment-gt-LONGEST w ↦
          absurd
          (false≢true
          (sym c.if-not-can_have.false ∙ w.value-is
          ∙ lt-ltb 4096 c.stated_length-segment.result w.if-segment-gt-LONGEST.true))
      | else-segment-gt-LONGEST w ↦
          by_total c.args.bytes.now c.stated_length-segment.result c.stated_length-segment.ensures
          w.if-segment-gt-LONGEST.false (ap not (sym w.can_have.ensures) ∙ sym w.value-is ∙ c.if-not-can_have.false)
    ]
