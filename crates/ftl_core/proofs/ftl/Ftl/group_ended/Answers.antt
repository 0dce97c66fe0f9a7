use Rattle.ftl_core.proofs.Common.{Core, ap, core_of, group_ended, page_written, settled, sym, true, with_live, ◌∙◌}
use Rattle.ftl_core.proofs.ftl.Ftl.group_ended.Goals as goal

pub returns-then-is_done : goal.returns-then-is_done
returns-then-is_done c =
    let b = c.args.row in
    c.settle.ensures
    ∙ ap (λ (z : Core). settled z)
    (c.page_written.ensures
    ∙ (λ i. page_written (core_of (record c.self.inside { live = c.set_live.ensures i })) c.args.die b b.filling)
    ∙ ap (λ (z : Core).
    page_written (record z { live = with_live z.live c.args.place true }) c.args.die b b.filling)
    (c.self.view_is ∙ c.note_written.ensures))
    ∙ sym (ap (group_ended c.args.self.now c.args.die b c.args.place c.args.number c.args.index) c.if-is_done.true)
