use Rattle.ftl_core.proofs.Common.{Core, None, Some, ap, drop, front_written, is_of_group, length, option_map, settled}
use Rattle.ftl_core.proofs.Common.{sym, take, ◌∙◌, ◌≡◌}
use Rattle.std.proofs.Common.{filter}
use Rattle.write_cache.specs.declared.slots.WholeGroup.{WholeGroup}
use Rattle.ftl_core.proofs.group_settled.Settling.{group_landed, none_written, others, settled_end, settled_step}
use Rattle.ftl_core.proofs.ftl.Ftl.settle.Goals as goal

pub loop-group-preserved : goal.loop-group-preserved
loop-group-preserved c =
    let was = c.loop-group.self in
    let number = c.in-Some.group.number in
    let pages = c.in-Some.group.pages in
    let first : front_written was ≡ Some number =
    sym (ap (λ (z : Core). front_written z) c.self.view_is) ∙ sym c.front_written.ensures.what
    ∙ ap (option_map (λ (g : WholeGroup). g.number)) c.in-Some.is in
    let mine = sym (ap (λ (z : Core). take pages z.pages) c.self.view_is) ∙ c.in-Some.ensures.first
    ∙ ap (λ (z : Core). filter (is_of_group number) z.pages) c.self.view_is in
    let left = sym (ap (λ (z : Core). drop pages z.pages) c.self.view_is) ∙ c.in-Some.ensures.others
    ∙ ap (λ (z : Core). others number z.pages) c.self.view_is in
    ap (λ (z : Core). settled z)
    (group_landed was c.pages_durable.new.self c.rise.new.self number pages mine left c.pages_durable.ensures
    c.rise.ensures)
    ∙ settled_step was number first
    ∙ c.loop-group.invariant

pub returns : goal.returns
returns c =
    let none : front_written c.loop-group.self ≡ None =
    sym (ap (λ (z : Core). front_written z) c.self.view_is) ∙ sym c.front_written.ensures.what
    ∙ ap (option_map (λ (g : WholeGroup). g.number)) (none_written c.front_written.result c.in_default.not-Some) in
    sym (settled_end (length c.loop-group.self.pages) c.loop-group.self none) ∙ c.loop-group.invariant
