use Rattle.std.proofs.Common.{◌∙◌, ap, sym}
use Rattle.std.specs.Prelude.{option_copied}
use Rattle.collector.proofs.Named.{durable_named, pending_named}
use Rattle.collector.proofs.planned_copy.Goals as goal

pub returns-in-Some-clause-name : goal.returns-in-Some-clause-name
returns-in-Some-clause-name c =
    pending_named c.args.places.now c.args.cache.now.pages c.args.from c.in-Some.page.now
    (sym c.page_there.ensures ∙ ap option_copied c.in-Some.is)

pub returns-clause-name : goal.returns-clause-name
returns-clause-name c =
    durable_named c.args.places.now c.args.cache.now.pages c.args.from
    (sym c.page_there.ensures ∙ ap option_copied c.in_default.is) c.name_there.result c.name_there.ensures.found
    c.name_there.ensures.none _ c.unwrap_or_default-named.result c.unwrap_or_default-named.ensures
