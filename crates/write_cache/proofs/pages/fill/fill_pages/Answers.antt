use Rattle.write_cache.proofs.Common.{AreTold, Bool, List, None, Pending, Some, ap, arith, awaits, base_behind}
use Rattle.write_cache.proofs.Common.{deque_capacity, drop, false, get_there, is_ready, length, passes, rests_filled}
use Rattle.write_cache.proofs.Common.{slice_get, subst, sym, take, tells, waits, ◌++◌, ◌+◌, ◌-◌, ◌<◌, ◌∙◌, ◌≡◌}
use Rattle.word_set.specs.Tests.{IsFirst}
use Rattle.word_set.proofs.Flags.{set_length}
use Rattle.write_cache.proofs.Fills.{all_filled, completed_length, filled_more, passed_more, skipped}
use Rattle.write_cache.proofs.Readies.{filled_ready, filled_waiting, next_told, next_within}
use Rattle.write_cache.proofs.pages.fill.fill_pages.Goals as goal
use Rattle.write_cache.proofs.pages.fill.fill_pages.Goals.{then-awaits_at, else-awaits_at}

pub set-requires : goal.set-requires
set-requires c =
    let less = next_within c.loop-at.pages.items c.loop-at.from c.in-Some.at
    (next_told waits c.loop-at.from c.loop-at.waiting c.loop-at.pages.items (Some c.in-Some.at)
    c.loop-at.invariant.waiting_told c.in-Some.ensures.what) in
    let long = c.loop-at.invariant.long in
    let places = c.loop-at.invariant.places in
    let room = c.requires.room in
    omega (arith, less, long, places, room)

pub overflow_add-from : goal.overflow_add-from
overflow_add-from c =
    let less = next_within c.loop-at.pages.items c.loop-at.from c.in-Some.at
    (next_told waits c.loop-at.from c.loop-at.waiting c.loop-at.pages.items (Some c.in-Some.at)
    c.loop-at.invariant.waiting_told c.in-Some.ensures.what) in
    let long = c.loop-at.invariant.long in
    let few = c.requires.few in
    omega (arith, less, long, few)

pub loop-at-preserved : goal.loop-at-preserved
loop-at-preserved c =
    let name = c.args.name in
    let block = c.args.block.now in
    let from = c.loop-at.from in
    let at = c.in-Some.at in
    let ps = c.loop-at.pages.items in
    let qs = c.if-awaits_at.pages.items in
    let long = c.loop-at.invariant.long in
    let places = c.loop-at.invariant.places in
    let waiting_places = c.loop-at.invariant.waiting_places in
    let room = c.requires.room in
    let waiting_room = c.requires.waiting_room in
    let next : IsFirst (passes waits ps) from at =
    next_told waits from c.loop-at.waiting ps (Some at) c.loop-at.invariant.waiting_told c.in-Some.ensures.what in
    let behind = next.behind in
    let less : at < length ps = next_within ps from at next in
    let base = base_behind block ps c.loop-at.filled in
    let found = get_there ps at less in
    let p = found.0 in
    let there : slice_get ps at ≡ Some p = found.1 in
    let tells_so : passes (awaits name) ps at ≡ awaits name p = ap (tells (awaits name)) there in
    let so_far : rests_filled name block c.args.pages.now.items ≡ take at ps ++ rests_filled name base (drop at ps) =
    c.loop-at.invariant.filled_so_far
    ∙ skipped name base ps from (at - from) at (omega (arith, behind)) next.before in
    elim c.if-awaits_at.branch [
      | then-awaits_at w ↦ record {
        long = ap (λ (xs : List Pending). length xs) ((λ i. (w.pages-is i).items) ∙ w.complete_behind.ensures.after)
            ∙ completed_length base ps at ∙ long;
        pages_room = (λ i. deque_capacity (w.pages-is i)) ∙ w.complete_behind.ensures.room
            ∙ c.loop-at.invariant.pages_room;
        places = ap (λ (fs : List Bool). length fs) (w.ready-is ∙ w.set.ensures)
            ∙ set_length c.loop-at.ready at w.is_ready_at.result ∙ places;
        waiting_places = ap (λ (fs : List Bool). length fs) (w.waiting-is ∙ w.set-then-awaits_at.ensures)
            ∙ set_length c.loop-at.waiting at false ∙ waiting_places;
        told = subst (λ (fs : List Bool). AreTold is_ready fs qs) (sym w.ready-is)
            (subst (λ (xs : List Pending). AreTold is_ready w.set.new.self xs) (sym (λ i. (w.pages-is i).items))
            (filled_ready c.loop-at.ready w.set.new.self ps w.complete_behind.new.pages.items at base p there
            (omega (arith, room, places, long, less)) w.complete_behind.ensures.after w.is_ready_at.result
            c.loop-at.invariant.told w.is_ready_at.ensures w.set.ensures));
        waiting_told = subst (λ (fs : List Bool). AreTold waits fs qs) (sym w.waiting-is)
            (subst (λ (xs : List Pending). AreTold waits w.set-then-awaits_at.new.self xs) (sym (λ i. (w.pages-is i).items))
            (filled_waiting c.loop-at.waiting w.set-then-awaits_at.new.self ps w.complete_behind.new.pages.items at base p there
            (omega (arith, waiting_room, waiting_places, long, less)) w.complete_behind.ensures.after
            c.loop-at.invariant.waiting_told w.set-then-awaits_at.ensures));
        filled_so_far =
            so_far
            ∙ filled_more name base block ps qs at p there (sym tells_so ∙ sym c.awaits_at.ensures ∙ w.if-awaits_at.true)
            ((λ i. (w.pages-is i).items) ∙ w.complete_behind.ensures.after)
            ∙ ap (λ o. take (at + 1) qs ++ rests_filled name (base_behind block qs o) (drop (at + 1) qs))
            (sym w.filled-is);
      }
      | else-awaits_at w ↦ record {
        long = (λ i. length (w.pages-is i).items) ∙ long;
        pages_room = (λ i. deque_capacity (w.pages-is i)) ∙ c.loop-at.invariant.pages_room;
        places = ap (λ (fs : List Bool). length fs) w.ready-is ∙ places;
        waiting_places = ap (λ (fs : List Bool). length fs) w.waiting-is ∙ waiting_places;
        told = subst (λ (fs : List Bool). AreTold is_ready fs qs) (sym w.ready-is)
            (subst (λ (xs : List Pending). AreTold is_ready c.loop-at.ready xs) (sym (λ i. (w.pages-is i).items))
            c.loop-at.invariant.told);
        waiting_told = subst (λ (fs : List Bool). AreTold waits fs qs) (sym w.waiting-is)
            (subst (λ (xs : List Pending). AreTold waits c.loop-at.waiting xs) (sym (λ i. (w.pages-is i).items))
            c.loop-at.invariant.waiting_told);
        filled_so_far =
            so_far
            ∙ passed_more name base ps at p there (sym tells_so ∙ sym c.awaits_at.ensures ∙ w.if-awaits_at.false)
            ∙ (λ j. take (at + 1) (sym w.pages-is j).items
            ++ rests_filled name (base_behind block (sym w.pages-is j).items (sym w.filled-is j))
            (drop (at + 1) (sym w.pages-is j).items));
      }
    ]

pub loop-at-smaller : goal.loop-at-smaller
loop-at-smaller c =
    let next : IsFirst (passes waits c.loop-at.pages.items) c.loop-at.from c.in-Some.at =
    next_told waits c.loop-at.from c.loop-at.waiting c.loop-at.pages.items (Some c.in-Some.at)
    c.loop-at.invariant.waiting_told c.in-Some.ensures.what in
    let behind = next.behind in
    let less = c.in-Some.ensures.less in
    let long : length c.if-awaits_at.waiting ≡ length c.loop-at.waiting =
    elim c.if-awaits_at.branch [
      | then-awaits_at w ↦ ap (λ (fs : List Bool). length fs) (w.waiting-is ∙ w.set-then-awaits_at.ensures)
          ∙ set_length c.loop-at.waiting c.in-Some.at false
      | else-awaits_at w ↦ ap (λ (fs : List Bool). length fs) w.waiting-is
    ] in
    omega (arith, behind, less, long)

pub returns-clause-after : goal.returns-clause-after
returns-clause-after c =
    sym (c.loop-at.invariant.filled_so_far
    ∙ all_filled c.args.name (base_behind c.args.block.now c.loop-at.pages.items c.loop-at.filled) c.loop-at.pages.items
    c.loop-at.from
    (next_told waits c.loop-at.from c.loop-at.waiting c.loop-at.pages.items None c.loop-at.invariant.waiting_told
    c.in_default.ensures.what))
