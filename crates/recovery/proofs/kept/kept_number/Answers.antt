use Rattle.recovery.proofs.whole_groups.Whole.{kept_of}
use Rattle.recovery.proofs.kept.kept_number.Goals as goal

pub returns-clause-kept : goal.returns-clause-kept
returns-clause-kept c c' m listed recorded =
    kept_of c' c.args.pages.now listed m c.args.from c.whole_count.result c.in_ok-groups.groups c.in_ok-groups.ensures
    c.whole_count.ensures.whole c.whole_count.ensures.within c.whole_count.ensures.stops c.requires recorded
