use Rattle.std.proofs.Common.{◌∙◌, ◌∷◌, [], Some, ap, arith, slice_index}
use Rattle.page_tag.proofs.MarkRead.{count_read, numbers_read}
use Rattle.page_tag.proofs.mark_read.numbers_in.Goals as goal

pub returns-then-count-gt-MOST_UNITS-clause-read : goal.returns-then-count-gt-MOST_UNITS-clause-read
returns-then-count-gt-MOST_UNITS-clause-read c = λ fence n h.
    absurd
    (omega (arith, c.if-count-gt-MOST_UNITS.true, count_read fence n c.args.body.now h, h.numbers_fit.units))

pub returns-clause-read : goal.returns-clause-read
returns-clause-read c = λ fence n h.
    let body = c.args.body.now in
    let units = c.units_in.ensures.read fence n h (count_read fence n body h) in
    (λ i. Some record {
      dies = slice_index body 16;
      blocks = c.read_u16.ensures i;
      pages = c.read_u16-2.ensures i;
      units = c.units_in.result;
      rpmb = slice_index body 22 ∷ slice_index body 28 ∷ slice_index body 29 ∷ slice_index body 30 ∷ [];
      slots = c.read_u16-3.ensures i;
      spare = c.read_u16-4.ensures i;
      profile = 0;
      serial = 1;
    })
    ∙ ap Some (numbers_read body c.units_in.result fence n h units)
