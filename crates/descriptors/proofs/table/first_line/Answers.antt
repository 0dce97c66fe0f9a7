use Rattle.std.proofs.Common.{ap, sym, ◌∙◌}
use Rattle.std.specs.Prelude.{is_none, not}
use Rattle.descriptors.specs.Asks.{query_of}
use Rattle.descriptors.specs.Lines.{index_is_wrong, selector_is_wrong, unreadable, unwritable, value_is_wrong}
use Rattle.descriptors.proofs.Passed.{passes, unlike}
use Rattle.descriptors.proofs.table.first_line.Goals as goal

pub returns-else-is_shut-clause-passed : goal.returns-else-is_shut-clause-passed
returns-else-is_shut-clause-passed c = λ p same.
    let n = c.args.numbers.now in
    let asked = c.args.query.now.asked in
    let row = c.parameter_of-row.ensures in
    passes n p c.args.may_accept (query_of c.args.query.now)
    (record {
      opcode = sym c.if-has_wrong_opcode.ensures;
      nothing = unlike asked.opcode 0 c.if-asked-eq-NO_OPERATION.false;
      idn = ap is_none (sym row) ∙ ap not c.if-is_none.ensures;
      index = sym (c.if-has_wrong_index.ensures ∙ ap (λ row. index_is_wrong n row asked.index) row);
      selector = sym (c.if-has_wrong_selector.ensures ∙ ap (λ row. selector_is_wrong row asked.selector) row);
      read = sym (c.if-is_not_readable.ensures ∙ ap (λ row. unreadable row asked.opcode) row);
      written = sym (c.if-is_not_writable.ensures ∙ ap (λ row. unwritable row asked.opcode) row);
      size = sym c.if-has_wrong_size.ensures;
      value = sym (c.if-has_wrong_value.ensures ∙ ap (λ row. value_is_wrong row (query_of c.args.query.now)) row);
      once = sym (c.if-was_written.ensures p same);
      shut = sym c.if-is_shut.ensures;
    })
