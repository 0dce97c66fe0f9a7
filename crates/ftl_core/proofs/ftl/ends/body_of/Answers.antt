use Rattle.ftl_core.proofs.job_ended.UnreadPages.{none_opened}
use Rattle.ftl_core.proofs.ftl.ends.body_of.Goals as goal

pub returns-in_default : goal.returns-in_default
returns-in_default c =
    none_opened c.args.page.now c.args.key c.args.number c.args.tag.now c.in_default.not-Some c.requires.refused
