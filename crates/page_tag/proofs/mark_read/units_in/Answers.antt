use Rattle.std.proofs.Common.{◌≡◌, ◌∙◌, ◌+◌, ◌*◌, ◌<◌, ◌≤◌, All, [], ◌∷◌, ap, arith, length, length-append, subst, sym}
use Rattle.std.proofs.lemmas.List.{take_all}
use Rattle.ufs_spec.specs.Cells.{UnitFits}
use Rattle.page_tag.proofs.MarkRead.{unit_fits, unit_read, units_fit}
use Rattle.page_tag.proofs.mark_read.units_in.Goals as goal

pub loop-index-preserved : goal.loop-index-preserved
loop-index-preserved c = record {
  count =
      omega (
        arith,
        c.loop-index.invariant.count,
        ap length c.push.ensures.items,
        length-append c.loop-index.units.items (c.unit_at.result ∷ []),
      );
  fit =
      subst (All UnitFits) (sym c.push.ensures.items)
      (units_fit c.loop-index.units.items c.unit_at.result c.loop-index.invariant.fit
      (unit_fits c.args.body.now (32 + 8 * c.loop-index.index) c.unit_at.result c.fits-body c.unit_at.ensures));
  read = λ fence n h count.
      let inside : c.loop-index.index < length n.units.items =
      omega (arith, c.loop-index-test.true, c.from-index-end.ensures, count) in
      c.push.ensures.items
      ∙ unit_read fence n c.args.body.now c.loop-index.index c.loop-index.units.items c.unit_at.result h inside
      (c.loop-index.invariant.read fence n h count) c.unit_at.ensures;
}

pub returns : goal.returns
returns c =
    let all : c.loop-index.index ≡ c.args.count =
    omega (arith, c.loop-index-test.false, c.loop-index.auto.index-end, c.from-index-end.ensures) in
    let few : length c.loop-index.units.items ≤ 8 = omega (arith, c.loop-index.invariant.count, all, c.requires) in
    record {
      fit = (few, c.loop-index.invariant.fit);
      read = λ fence n h count.
          let items = c.loop-index.invariant.read fence n h count
          ∙ take_all c.loop-index.index n.units.items (omega (arith, all, count)) in
          λ i. record { items = items i };
    }
