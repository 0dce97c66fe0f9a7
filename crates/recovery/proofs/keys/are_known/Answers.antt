use Rattle.recovery.proofs.Common.{AreListed, Cells, FoundPage, IsIndex, IsKey, Key, List, None, Option, Shape, Some}
use Rattle.recovery.proofs.Common.{ap, arith, false, false≢true, get_or, index_known, key_of, length, refl, same_Some}
use Rattle.recovery.proofs.Common.{shape, slice_get, slice_get-get_or, slice_get_within, subst, sym, true, true≢false}
use Rattle.recovery.proofs.Common.{ℕ, ⊎_elim, ◌+◌, ◌<◌, ◌∙◌, ◌≡◌, ◌≤◌, ◌⊎◌}
use Rattle.std.specs.Prelude.{MatchOption, is_some, not}
use Rattle.recovery.specs.KeysInOrder.{AreKnown}
use Rattle.recovery.proofs.key_order.Entries.{no_page}
use Rattle.recovery.proofs.keys.are_known.Goals as goal

-- the search for an index tells whether the device has the key

not_found : (s : Shape) (k : Key) (o : Option ℕ) → MatchOption o (IsKey s k → ⊥) (λ i. IsIndex s k i) →
    is_some o ≡ false → IsKey s k → ⊥
not_found s k None h none = h
not_found s k (Some i) h none = absurd (true≢false none)

is_found : (s : Shape) (k : Key) (o : Option ℕ) → MatchOption o (IsKey s k → ⊥) (λ i. IsIndex s k i) →
    is_some o ≡ true → IsKey s k
is_found s k None h some = absurd (false≢true some)
is_found s k (Some i) h some = index_known s k i h

-- the keys of the first pages are of the device

abbrev AllKnown : Shape → List FoundPage → ℕ → Type 0
AllKnown s pages n = (i : ℕ) (e : FoundPage) → i < n → slice_get pages i ≡ Some e → IsKey s (key_of e.tag)

one_unknown : (s : Shape) (pages : List FoundPage) (i : ℕ) (e : FoundPage) → slice_get pages i ≡ Some e →
    (IsKey s (key_of e.tag) → ⊥) → (c : Cells) → AreListed c pages → AreKnown s c → ⊥
one_unknown s pages i e at unknown c listed known =
    let there = listed.there i e at in unknown (known e.place e.tag there.0 there.1)

one_more : (s : Shape) (pages : List FoundPage) (n : ℕ) (e : FoundPage) → slice_get pages n ≡ Some e →
    IsKey s (key_of e.tag) → AllKnown s pages n → AllKnown s pages (n + 1)
one_more s pages n e at known before i f l there = ⊎_elim
    (λ (m : i < n). before i f m there)
    (λ (m : i ≡ n). subst (λ (f : FoundPage). IsKey s (key_of f.tag))
    (same_Some e f (sym at ∙ subst (λ (j : ℕ). slice_get pages j ≡ Some f) m there)) known)
    (last l)
  where
    last : i < n + 1 → (i < n) ⊎ (i ≡ n)
    last l = grind arith

all_known : (s : Shape) (pages : List FoundPage) (n : ℕ) → length pages ≤ n → AllKnown s pages n → (c : Cells) →
    AreListed c pages → AreKnown s c
all_known s pages n l known c listed p t body e =
    let r = listed.all p t body e in
    let m = slice_get_within pages r.0 (record { place = p; tag = t }) r.1 in
    known r.0 (record { place = p; tag = t }) (omega (arith, l, m)) r.1

-- src/keys.rt:170:13
pub returns-then-is_none : goal.returns-then-is_none
returns-then-is_none c =
    let at = slice_get-get_or c.args.pages.now c.loop-page.page-index no_page c.loop-page-test.true in
    let here = c.key_of.ensures in
    let unknown : IsKey (shape c.args.numbers.now)
    (key_of (get_or c.args.pages.now c.loop-page.page-index no_page).tag) → ⊥ =
    subst (λ (k : Key). IsKey (shape c.args.numbers.now) k → ⊥) here
    (not_found (shape c.args.numbers.now) c.key_of.result c.key_index.result c.key_index.ensures.is
    (c.is_none.ensures ∙ ap not c.if-is_none.true)) in
    λ cells listed. (
      λ no. absurd (false≢true no),
      λ known. absurd (one_unknown (shape c.args.numbers.now) c.args.pages.now c.loop-page.page-index
          (get_or c.args.pages.now c.loop-page.page-index no_page) at unknown cells listed known),
    )

-- src/keys.rt:168:5
pub loop-page-preserved : goal.loop-page-preserved
loop-page-preserved c =
    let at = slice_get-get_or c.args.pages.now c.loop-page.page-index no_page c.loop-page-test.true in
    one_more (shape c.args.numbers.now) c.args.pages.now c.loop-page.page-index
    (get_or c.args.pages.now c.loop-page.page-index no_page) at
    (subst (λ (k : Key). IsKey (shape c.args.numbers.now) k) c.key_of.ensures
    (is_found (shape c.args.numbers.now) c.key_of.result c.key_index.result c.key_index.ensures.is
    (c.is_none.ensures ∙ ap not c.if-is_none.false)))
    c.loop-page.invariant

-- src/keys.rt:164:1
pub returns : goal.returns
returns c = λ cells listed. (
  λ yes. all_known (shape c.args.numbers.now) c.args.pages.now c.loop-page.page-index (omega arith)
      c.loop-page.invariant cells listed,
  λ known. refl,
)
