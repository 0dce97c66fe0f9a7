use Rattle.std.proofs.Common.{◌*◌, ◌++◌, ap, arith, length, sym, ◌∙◌}
use Rattle.byteorder.specs.Endian.{big_bytes}
use Rattle.ufs_spec.specs.Identities.{luns_listed}
use Rattle.ufs_spec.specs.Messages.{zeros}
use Rattle.lun_route.specs.Lists.{ordinary_entries, other_entries}
use Rattle.lun_route.proofs.Listed.{listed_count, listed_parts, listed_units}
use Rattle.lun_route.proofs.identities.luns_bytes.Goals as goal

pub returns-clause-bytes : goal.returns-clause-bytes
returns-clause-bytes c =
    let n = c.args.numbers.now in
    let select = c.args.select in
    c.put_others.ensures.entries
    ∙ ap (λ l. l ++ other_entries select) (c.put_ordinary.ensures.entries
    ∙ ap (λ l. l ++ ordinary_entries n select) (c.header-list.ensures.bytes
    ∙ ap (λ k. big_bytes 4 (8 * k) ++ zeros 4) (c.units_listed.ensures 0 ∙ sym (listed_count n select 0))))
    ∙ ap (λ l. big_bytes 4 (8 * length (luns_listed n select)) ++ (zeros 4 ++ l)) (sym (listed_parts n select))

pub returns-clause-count : goal.returns-clause-count
returns-clause-count c = λ allocation.
    let units = listed_units c.args.numbers.now c.args.select allocation in
    omega (arith, units, c.put_others.ensures.length, c.put_ordinary.ensures.length, c.header-list.ensures.length)
