use Rattle.write_cache.proofs.Common.{Queue, ap, arith, false, length, map, shown, subst, sym, true, ◌∙◌, ◌≡◌, ◌≤◌}
use Rattle.std.specs.Prelude.{drop, filter, not, take}
use Rattle.write_cache.specs.Slots.{front_written, is_of_group}
use Rattle.write_cache.proofs.Fronts.{first_page, first_unwritten, first_written, front_told}
use Rattle.write_cache.proofs.Runs.{stands}
use Rattle.write_cache.proofs.pages.Pages.front_written.Goals as goal

pub returns-then-group-gt0-clause-what : goal.returns-then-group-gt0-clause-what
returns-then-group-gt0-clause-what c =
    let f = c.self.inside in
    let g = c.entry-group.result in
    let gs = f.groups.entries.items in
    let first = first_page f.landed f.front f.newest gs f.pages.items g c.self.invariant.runs
    c.entry-group.ensures in
    sym (front_told g.number true f.pages.items first.page first.at first.number
    (first_unwritten f.landed f.front f.newest gs f.pages.items g c.self.invariant.runs c.entry-group.ensures
    c.if-group-gt0.true))
    ∙ ap (λ (z : Queue). front_written z.items) c.self.view_is

pub returns : goal.returns
returns c =
    let f = c.self.inside in
    let g = c.entry-group.result in
    let gs = f.groups.entries.items in
    let runs = c.self.invariant.runs in
    let is = c.entry-group.ensures in
    let none = c.if-group-gt0.false in
    let page = first_page f.landed f.front f.newest gs f.pages.items g runs is in
    let front = first_written f.landed f.front f.newest gs f.pages.items g runs is (omega (arith, none)) in
    record {
      what = sym (front_told g.number false f.pages.items page.page page.at page.number front.written)
          ∙ ap (λ (z : Queue). front_written z.items) c.self.view_is;
      first = subst (λ (z : Queue). take g.pages z.items ≡ filter (is_of_group g.number) z.items) c.self.view_is
          front.taken;
      others = subst (λ (z : Queue). drop g.pages z.items ≡ filter (λ q. not (is_of_group g.number q)) z.items)
          c.self.view_is front.left;
      some = (
        (stands f.landed f.front f.newest 0 gs (map shown f.pages.items) g runs is).is_run.some,
        subst (λ (z : Queue). g.pages ≤ length z.items) c.self.view_is front.within,
      );
    }
