use Rattle.std.proofs.Common.{List, ℕ, ◌++◌, drop, sym, ap, ◌∙◌, subst, arith}
use Rattle.upiu.proofs.FromFields.{spelled_from}
use Rattle.upiu.proofs.HostSpelled.{around_of}
use Rattle.upiu.specs.Reading.{IsAround}
use Rattle.upiu.proofs.reading.is_spelled.Goals as goal

pub returns-then-has_sets : goal.returns-then-has_sets
returns-then-has_sets c =
    let bytes : List ℕ = c.args.bytes.now in (
      λ yes.
          (let around = c.surround.ensures.0 yes in
          spelled_from bytes (λ place. omega (arith, c.type_inv.bytes place)) c.requires.passes c.args.message.now
          c.requires.named (c.has_sets.ensures.0 c.if-has_sets.true) (drop 32 bytes)
          (around.0 ∙ ap (λ (xs : List ℕ). xs ++ drop 32 bytes) c.header_bytes.ensures) around.1),
      λ spells.
          c.surround.ensures.1
          (subst (λ (xs : List ℕ). IsAround xs bytes) (sym c.header_bytes.ensures)
          (around_of bytes c.args.message.now spells)),
    )
