use Rattle.ftl_core.proofs.Common.{Core, List, Pending, WriteCache, [], ap, arith, fold, is_claim_of, length, new_page}
use Rattle.ftl_core.proofs.Common.{page_brought, rest_pinned, take, ◌+◌, ◌∙◌, ◌∷◌}
use Rattle.ftl_core.proofs.live_pages.BroughtPins.{accepted_as, brought_few, dropped, made_of_all, parts_made}
use Rattle.ftl_core.proofs.live_pages.RestRooms.{roomy_behind}
use Rattle.ftl_core.proofs.ftl.Ftl.append_pages.Goals as goal

pub append_pages-number-requires-clause-parts : goal.append_pages-number-requires-clause-parts
append_pages-number-requires-clause-parts c =
    let core = c.args.self.now in
    let xs = c.args.pages.now in
    parts_made core xs _
    (made_of_all (new_page core) xs c.new_page_at.result c.new_page_at-2.result c.new_page_at-3.result
    c.requires.some c.requires.few c.new_page_at.ensures c.new_page_at-2.ensures c.new_page_at-3.ensures)
    c.requires.parts

-- the blocks of their rests have their pins
pub invariant_of-self : goal.invariant_of-self
invariant_of-self c =
    let f = c.self.inside in
    let w = c.append_pages-number.new.self in
    let after = c.append_pages-number.ensures.after in
    let pages = ap (λ (z : WriteCache). z.pages) after in
    let before = c.pending-before.ensures.count in
    let slots = c.has_few_slots.ensures in
    let seen = ap (λ (z : Core). length z.pages) c.self.view_is in
    let seen_claims = ap (λ (z : Core). length z.claims) c.self.view_is in
    let ys = take (length c.args.pages.now)
    (c.new_page_at.result ∷ c.new_page_at-2.result ∷ c.new_page_at-3.result ∷ []) in
    let brought = page_brought f.cache.pages (f.cache.last + 1) ys in
    let few = brought_few brought (is_claim_of c.args.reader) f.cache.claims in
    roomy_behind f c.pin_rests.new.live w _ c.self.invariant (ap (λ (z : WriteCache). z.slots) after) pages
    (c.pin_rests.ensures.is
    ∙ ap (λ (qs : List Pending). fold rest_pinned f.live qs)
    (dropped c.pending-before.result f.cache.pages _ w.pages before pages))
    (omega (arith, slots, seen, seen_claims, few))

pub returns-clause-after : goal.returns-clause-after
returns-clause-after c =
    let f = c.self.inside in
    let core = c.args.self.now in
    let xs = c.args.pages.now in
    let reader = c.args.reader in
    let ys = take (length xs) (c.new_page_at.result ∷ c.new_page_at-2.result ∷ c.new_page_at-3.result ∷ []) in
    accepted_as f c.pin_rests.new.live c.append_pages-number.new.self core reader xs ys c.self.view_is
    c.append_pages-number.ensures.after c.pin_rests.ensures.same
    (made_of_all (new_page core) xs c.new_page_at.result c.new_page_at-2.result c.new_page_at-3.result
    c.requires.some c.requires.few c.new_page_at.ensures c.new_page_at-2.ensures c.new_page_at-3.ensures)
