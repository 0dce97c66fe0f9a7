use Rattle.write_cache.proofs.Common.{AreRuns, GroupAt, List, Pending, ap, arith, first_number, is_ready, length, map}
use Rattle.write_cache.proofs.Common.{shown, subst, sym, waits}
use Rattle.write_cache.specs.Newest.{IsNewest}
use Rattle.write_cache.proofs.LastPlaces.{newest_none}
use Rattle.write_cache.proofs.Readies.{none_set}
use Rattle.write_cache.proofs.WrittenPlaces.{written_none}
use Rattle.write_cache.proofs.pages.Pages.new.Goals as goal

pub invariant_of-result : goal.invariant_of-result
invariant_of-result c =
    let ps = c.in_ok-pages.pages.items in
    let none = c.in_ok-pages.ensures.items in
    let many = ap (λ (xs : List Pending). length xs) none in
    let most = c.max-places.ensures in
    record {
      fits = omega (arith, many);
      few = omega arith;
      pages_room = c.in_ok-pages.ensures.capacity;
      groups_room = c.in_ok-new.ensures.room;
      front = sym (ap (first_number 0) c.in_ok-new.ensures.none);
      runs = subst (λ (gs : List GroupAt). AreRuns 0 0 0 gs (map shown ps)) (sym c.in_ok-new.ensures.none)
          (ap (λ (xs : List Pending). map shown xs) none);
      landed = omega arith;
      positions = subst (λ (xs : List Pending). IsNewest c.in_ok-new-2.field-0 0 xs) (sym none)
          (newest_none c.in_ok-new-2.field-0 c.copied.result c.in_ok-new-2.ensures.config c.in_ok-new-2.ensures.at);
      written = written_none c.in_ok-new-3.field-0 c.args.config ps none c.in_ok-new-3.ensures.config
          c.in_ok-new-3.ensures.at c.in_ok-new-3.ensures.first;
      ready = none_set is_ready c.args.room c.max-places.result c.in_ok-ready.ready ps c.in_ok-ready.ensures none
          (omega (arith, most));
      waiting = none_set waits c.args.room c.max-places.result c.in_ok-waiting.waiting ps c.in_ok-waiting.ensures none
          (omega (arith, most));
    }
