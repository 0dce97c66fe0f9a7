-- A page is no two cells.
use Rattle.ufs_laws.proofs.Common.{Cell, DataHold, GroupPage, IsCell, IsMarkBody, List, Mark, MarkPage, Nothing, Opens}
use Rattle.ufs_laws.proofs.Common.{Page, Tag, ap, arith, mark_tag, refl, subst, sym, ℕ, ◌≡◌, ◌≢◌}
use Rattle.ufs_laws.proofs.pages.MarkBodies.{one_configuration, one_fence}
use Rattle.ufs_spec.proofs.SealedPages.{one_body, one_tag}

-- the data of a mark's page keep their rules
pub mark_holds : (m : Mark) (body : List ℕ) → IsMarkBody m.fence m.numbers body → DataHold (mark_tag m) body
mark_holds m body is = record {
  settings = λ (e : (mark_tag m).kind ≡ 3). absurd (omega arith);
  mark = λ (_ : (mark_tag m).kind ≡ 4). (m.fence, m.numbers, is);
}

-- marks with the same tag and the same body are the same
same_mark : (m o : Mark) (b d : List ℕ) → mark_tag m ≡ mark_tag o → b ≡ d
    → IsMarkBody m.fence m.numbers b → IsMarkBody o.fence o.numbers d → m ≡ o
same_mark m o b d tag body h k =
    let also : IsMarkBody o.fence o.numbers b = subst (IsMarkBody o.fence o.numbers) (sym body) k in
    let number : m.number ≡ o.number = ap (λ (t : Tag). t.number) tag in
    let records : m.records ≡ o.records = ap (λ (t : Tag). t.frontier) tag in
    let fence : m.fence ≡ o.fence = one_fence m.fence o.fence m.numbers o.numbers b h also in
    let numbers : m.numbers ≡ o.numbers = one_configuration m.fence o.fence m.numbers o.numbers b h also in
    λ i. record { number = number i; records = records i; fence = fence i; numbers = numbers i }

-- a page of a group is no mark
no_mark : (page : Page) (tag : Tag) (b d : List ℕ) (m : Mark) → Opens page tag b → tag.kind ≢ 4 →
    Opens page (mark_tag m) d → ⊥
no_mark page tag b d m h other k = other (ap (λ (t : Tag). t.kind) (one_tag page tag (mark_tag m) b d h k))

-- a page is one cell at most
pub one_cell : (page : Page) (c d : Cell) → IsCell page c → IsCell page d → c ≡ d
one_cell page Nothing Nothing h k = refl
one_cell page Nothing (GroupPage tag body) h k = absurd (h tag body k.0 k.1)
one_cell page Nothing (MarkPage m) h k = absurd (h (mark_tag m) k.0 k.1 (mark_holds m k.0 k.2))
one_cell page (GroupPage tag body) Nothing h k = absurd (k tag body h.0 h.1)
one_cell page (MarkPage m) Nothing h k = absurd (k (mark_tag m) h.0 h.1 (mark_holds m h.0 h.2))
one_cell page (GroupPage t b) (GroupPage u d) h k =
    let tag : t ≡ u = one_tag page t u b d h.0 k.0 in
    let body : b ≡ d = one_body page t u b d h.0 k.0 in
    cc
one_cell page (GroupPage t b) (MarkPage m) h k = absurd (no_mark page t b k.0 m h.0 h.2 k.1)
one_cell page (MarkPage m) (GroupPage t b) h k = absurd (no_mark page t b h.0 m k.0 k.2 h.1)
one_cell page (MarkPage m) (MarkPage o) h k =
    ap MarkPage
    (same_mark m o h.0 k.0 (one_tag page (mark_tag m) (mark_tag o) h.0 k.0 h.1 k.1)
    (one_body page (mark_tag m) (mark_tag o) h.0 k.0 h.1 k.1) h.2 k.2)
