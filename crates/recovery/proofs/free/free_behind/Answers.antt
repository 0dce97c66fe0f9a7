use Rattle.recovery.proofs.Common.{Aged, AreByAge, AreHeld, AreNeeded, AreRising, AreSamePages, Bool, FoundPage}
use Rattle.recovery.proofs.Common.{IsContentPage, IsIndex, Key, List, Mark, Option, Some, ap, arith, length, mark_of}
use Rattle.recovery.proofs.Common.{refl, shape_of_numbers, slice_get, slice_get_within, subst, sym, ℕ, ◌∙◌, ◌≡◌}
use Rattle.recovery.proofs.frees.Latests.{pages_rise}
use Rattle.recovery.proofs.frees.Rule.{both_ok, free_marked}
use Rattle.recovery.proofs.free.free_behind.Goals as goal

pub free_in_order-requires-clause-inside : goal.free_in_order-requires-clause-inside
free_in_order-requires-clause-inside c = λ i a h.
    let r = c.in_ok-order.ensures in
    let there = r.3.each i a (ap (λ (xs : List Aged). slice_get xs i) (sym c.as_slice-2.ensures.value) ∙ h) in
    let w = slice_get_within r.0 a.block a.latest there in
    let long = r.1 in
    let held = c.in_ok-held.ensures.long in
    let same = ap length c.as_slice-3.ensures.value in
    omega (arith, w, long, held, same)

pub returns-clause-free : goal.returns-clause-free
returns-clause-free c =
    both_ok c.free_in_order.result _ _ _
    (λ v as_many decided cells is_bad listed marked within suits bads.
    let n = c.args.numbers.now in
    let s = shape_of_numbers n in
    let m : Mark = mark_of c.args.mark.now in
    let pages = c.args.pages.now in
    let marks = c.args.marks.now in
    let contents = c.as_slice.result.now in
    let held = c.as_slice-3.result.now in
    let needed = c.as_slice-4.result.now in
    let named = c.as_slice-5.result.now in
    let r = c.in_ok-order.ensures in
    let content : (k : Key) (i : ℕ) → IsIndex s k i →
    (e : Option FoundPage) × (slice_get contents i ≡ Some e) × IsContentPage cells (Some m) m.records k e =
    λ k i index.
    let x = c.in_ok-contents.ensures.content cells (Some m) listed refl k i index in
    (x.0, ap (λ (xs : List (Option FoundPage)). slice_get xs i) c.as_slice.ensures.value ∙ x.1, x.2) in
    let need : AreNeeded s m.fence contents pages (length pages) needed =
    subst (λ (xs : List Bool). AreNeeded s m.fence contents pages (length pages) xs) (sym c.as_slice-4.ensures.value)
    c.in_ok-needed.ensures.told in
    let same : AreSamePages pages named =
    subst (λ (xs : List FoundPage). AreSamePages pages xs) (sym c.as_slice-5.ensures.value)
    c.in_ok-named.ensures.same in
    let rising : AreRising (λ (e : FoundPage). e.tag.number) named =
    subst (λ (xs : List FoundPage). AreRising (λ (e : FoundPage). e.tag.number) xs) (sym c.as_slice-5.ensures.value)
    c.in_ok-named.ensures.rising in
    let holds : AreHeld n.blocks c.args.bad.now marks (length marks) m.number held =
    subst (λ (xs : List Bool). AreHeld n.blocks c.args.bad.now marks (length marks) m.number xs)
    (sym c.as_slice-3.ensures.value) c.in_ok-held.ensures in
    let age : AreByAge r.0 c.as_slice-2.result.now =
    subst (λ (xs : List Aged). AreByAge r.0 xs) (sym c.as_slice-2.ensures.value) r.3 in
    free_marked n cells m is_bad c.args.bad.now held needed v.items pages named marks contents r.0 within listed marked
    suits bads content need same holds r.1 r.2 as_many
    (decided r.0 age (pages_rise n cells within pages listed) rising))
    c.free_in_order.ensures.as_many c.free_in_order.ensures.decided
