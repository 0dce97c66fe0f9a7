-- A group that is accepted behind all others leaves what is kept of the rests that are there.
use Rattle.ftl_core.proofs.Common.{Book, Cells, Group, Pending, RestKept, ap, arith, grown, page_grows, page_within}
use Rattle.ftl_core.proofs.Common.{part_of, sym, with_part_of, ◌∙◌}
use Rattle.power_loss.proofs.laid_rests.BelowGroups.{below_grows}
use Rattle.write_cache.specs.declared.rests.Rest as cache
use Rattle.ufs_spec.specs.Keys.{Contents}

pub rest_grows : (b : Book) (g : Group) (cells : Cells) (p : Pending) (rest : cache.Rest) → RestKept b cells p rest →
    RestKept (grown b g) cells p rest
rest_grows b g cells p rest h = record {
  laid = record {
    entry = h.laid.entry;
    is = page_grows b g p.number p.index h.laid.entry h.laid.is;
    key = h.laid.key;
    body = h.laid.body
        ∙ ap (λ (f : Contents). with_part_of rest.part (part_of rest.part p.body) (f p.key))
        (sym (below_grows b g p.number
        (let l = page_within b p.number p.index h.laid.entry h.laid.is in omega (arith, l))));
  };
  numbered = h.numbered;
}
