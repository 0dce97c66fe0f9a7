use Rattle.ftl_core.proofs.Common.{[], fold, key_total, none_live, rules, shape_of_numbers, sizes_of, take, with_stored}
use Rattle.ftl_core.proofs.Common.{◌≡◌}
use Rattle.std.proofs.Common.{replicate}
use Rattle.block_table.specs.Rows.{idle_row}
use Rattle.ftl_core.proofs.live_pages.PinRooms.{first_blocks, first_counted, first_dies}
use Rattle.ftl_core.proofs.opened.OpenedParts.{opened_as}
use Rattle.ftl_core.proofs.opened.OpensFound.{opens_described}
use Rattle.ftl_core.proofs.stopped.EachStop.{stops_right}
use Rattle.power_loss.proofs.stops.SealedCells.{ranges_of}
use Rattle.ftl_core.proofs.ftl.Ftl.new.Goals as goal

pub returns-clause-core : goal.returns-clause-core
returns-clause-core c =
    opened_as c.args.config c.args.found c.in_ok-new.field-0 c.in_ok-new-2.field-0
    c.in_ok-live_at.field-0 c.in_ok-new-3.field-0 c.in_ok-new-5.field-0 c.in_ok-new-4.field-0.plan
    c.first_mending-mending.result c.zeros.result
    c.mark_number_behind-next_mark.result c.in_ok-new.field-0.sizes c.in_ok-states.states.items
    c.in_ok-places.places.items c.min-last.result
    (search rules) (search rules) (search rules) (search rules) (search rules) (search rules) (search rules)
    (search rules) (search rules) (search rules) (search rules) (search rules)

pub returns-clause-described : goal.returns-clause-described
returns-clause-described c =
    opens_described c.args.config c.args.found _ (ranges_of c.args.config c.has_no_fault.ensures).count_of_regions
    (returns-clause-core c)

pub returns-clause-stop : goal.returns-clause-stop
returns-clause-stop c = λ cells bad t some right within sound found opened.
    stops_right _ _ (returns-clause-described c cells bad t some right within sound found opened)

pub invariant_of-result : goal.invariant_of-result
invariant_of-result c =
    let n = c.args.config in
    let l = c.in_ok-live_at.field-0 in
    let stored = take (key_total (shape_of_numbers n)) c.in_ok-places.places.items in
    let live : l ≡ fold with_stored (none_live (sizes_of n)) stored = search rules in
    let idle : c.in_ok-new.field-0.rows ≡ replicate n.dies idle_row = search rules in
    let none : c.in_ok-new-5.field-0 ≡ [] = search rules in
    record {
      blocks = search rules;
      block_pages = search rules;
      keys = search rules;
      slots = search rules;
      first_mark = search rules;
      last_mark = search rules;
      step = search rules;
      pins = search rules;
      units = search rules;
      plan_pages = search rules;
      live_dies = first_dies (sizes_of n) l stored c.in_ok-new.field-0.rows live idle;
      live_blocks = first_blocks (sizes_of n) l stored live;
      pinned = first_counted (sizes_of n) l stored c.in_ok-new-5.field-0
          c.in_ok-new-3.field-0.pages live none (search rules);
    }
