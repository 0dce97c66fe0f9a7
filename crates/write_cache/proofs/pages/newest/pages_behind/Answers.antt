use Rattle.write_cache.proofs.Common.{rules}
use Rattle.std.proofs.Common.{tests}
use Rattle.std.proofs.lemmas.Iterator.Search.{position_from_yields_List}
use Rattle.write_cache.specs.Slots.{is_page_of}
use Rattle.write_cache.proofs.Deques.{YieldsList-from_rev_deque}
use Rattle.write_cache.proofs.pages.newest.pages_behind.Goals as goal

pub returns-clause-what : goal.returns-clause-what
returns-clause-what c =
    position_from_yields_List (is_page_of c.args.key) _ _ _ c.position.ensures.ran
    (YieldsList-from_rev_deque c.args.pages.now.items (cc)) (λ x b q k. search (rules, tests))
