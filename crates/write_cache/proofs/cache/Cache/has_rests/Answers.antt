use Rattle.write_cache.proofs.Common.{WriteCache, ap, is_some, list_any, rules, waits, ◌∙◌, ◌≡◌}
use Rattle.write_cache.proofs.Waiting.{some_waits}
use Rattle.write_cache.proofs.cache.Cache.has_rests.Goals as goal

pub returns : goal.returns
returns c =
    let is : c.is_some.result ≡ is_some c.first_waiting.result = search rules in
    is ∙ ap is_some c.first_waiting.ensures.what
    ∙ some_waits 0 c.self.inside.pages.items
    ∙ ap (λ (z : WriteCache). list_any waits z.pages) c.self.view_is
