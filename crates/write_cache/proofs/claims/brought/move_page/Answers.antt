use Rattle.write_cache.proofs.Common.{None, [], arith, is_claim_of, rules, slice_get, take, true, ◌∷◌, ◌≡◌}
use Rattle.std.proofs.lemmas.Option.{slice_get_past}
use Rattle.write_cache.proofs.Brought.{none_moved}
use Rattle.write_cache.proofs.claims.brought.move_page.Goals as goal

pub returns-in_default-get-clause-moved : goal.returns-in_default-get-clause-moved
returns-in_default-get-clause-moved c =
    let first : take 1 c.args.claims.now.items ≡ c.in-Some.claim ∷ [] = search rules in
    let mine : is_claim_of c.args.reader c.in-Some.claim ≡ true = search rules in
    let none : slice_get c.args.pages.now c.in-Some.claim.index ≡ None =
    slice_get_past c.args.pages.now c.in-Some.claim.index (grind (arith, c.in_default-get.ensures.lookup.0)) in
    none_moved c.args.reader c.args.number c.args.pages.now c.in-Some.claim c.args.claims.now.items
    c.args.pending.now.items first mine none
