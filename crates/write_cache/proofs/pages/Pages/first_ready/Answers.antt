use Rattle.write_cache.proofs.Common.{Queue, ap, arith, is_ready, length, ℕ, ◌<◌, ◌∙◌}
use Rattle.std.proofs.lemmas.Option.{IfSome_then}
use Rattle.word_set.proofs.Flags.{first_less}
use Rattle.write_cache.specs.Ready.{first_ready_from}
use Rattle.write_cache.proofs.Readies.{first_is_told}
use Rattle.write_cache.proofs.pages.Pages.first_ready.Goals as goal

pub returns-clause-what : goal.returns-clause-what
returns-clause-what c =
    let f = c.self.inside in
    c.first_from.ensures.what
    ∙ first_is_told is_ready c.args.from f.ready f.pages.items c.self.invariant.ready.told
    ∙ ap (λ (z : Queue). first_ready_from z.items c.args.from) c.self.view_is

pub returns-clause-less : goal.returns-clause-less
returns-clause-less c =
    let f = c.self.inside in
    first_less is_ready c.args.self.now.items c.args.from c.first_from.result
    (c.first_from.ensures.what
    ∙ first_is_told is_ready c.args.from f.ready f.pages.items c.self.invariant.ready.told
    ∙ ap (λ (z : Queue). first_ready_from z.items c.args.from) c.self.view_is)

pub returns-clause-small : goal.returns-clause-small
returns-clause-small c =
    let f = c.self.inside in
    let fits = c.self.invariant.fits in
    let few = c.self.invariant.few in
    IfSome_then c.first_from.result
    (first_less is_ready f.pages.items c.args.from c.first_from.result
    (c.first_from.ensures.what ∙ first_is_told is_ready c.args.from f.ready f.pages.items c.self.invariant.ready.told))
    (λ (k : ℕ) (l : k < length f.pages.items). omega (arith, fits, few, l))
