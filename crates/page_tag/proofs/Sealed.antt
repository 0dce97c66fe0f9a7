-- What a sealed page reads back as, and when two pages are the same.
use Rattle.std.proofs.Common.{◌≡◌, ◌∙◌, ℕ, List, refl, sym, subst, ap, take, ◌&&◌, IfSome, Option, Some, None}
use Rattle.std.specs.Bool.{Decides}
use Rattle.std.specs.Str.{bytes_eq}
use Rattle.std.proofs.lemmas.Bool.Decides.{Decides-and, Decides-like}
use Rattle.std.proofs.lemmas.Option.{none-some}
use Rattle.std.proofs.lemmas.Slice.Eq.{bytes_eq-Decides}
use Rattle.ufs_spec.specs.Pages.{IsCheckRight, IsFrontOf, IsSealedAs, IsTag, seal_page}
use Rattle.ufs_spec.specs.declared.flash.Opened.{Opened}
use Rattle.ufs_spec.specs.declared.flash.Page.{Page}
use Rattle.ufs_spec.specs.declared.flash.Tag.{Tag}
use Rattle.page_tag.specs.Jobs.{IsTagOf}
use Rattle.ufs_spec.proofs.SealedPages.{sealed_body, sealed_tag, seals}

-- two pages are the same where their bodies and their spare bytes are
pub same_page : (p q : Page) → Decides (bytes_eq p.body q.body && bytes_eq p.spare q.spare) (p ≡ q)
same_page p q =
    Decides-like (bytes_eq p.body q.body && bytes_eq p.spare q.spare) (λ h. pages h.0 h.1)
    (λ e. (ap (λ (x : Page). x.body) e, ap (λ (x : Page). x.spare) e))
    (Decides-and (bytes_eq p.body q.body) (bytes_eq p.spare q.spare) (bytes_eq-Decides p.body q.body)
    (bytes_eq-Decides p.spare q.spare))
  where
    pages : p.body ≡ q.body → p.spare ≡ q.spare → p ≡ q
    pages b s =
        ap (λ (x : List ℕ). record { body = x; spare = p.spare }) b
        ∙ ap (λ (x : List ℕ). record { body = q.body; spare = x }) s

-- a page with a tag's front and the right check is sealed with that tag and its body
pub sealed : (p : Page) (t : Tag) → IsFrontOf t (take 64 p.spare) → IsCheckRight p → IsSealedAs p t p.body
sealed p t front check = record { front = front; check = check; holds = refl }

-- a page with the right check is sealed with the tag of its front, or with none
pub tag_checked : (p : Page) (found : Option Tag)
    → IfSome found (λ t. IsTag t × IsFrontOf t (take 64 p.spare))
    → (found ≡ None → (t : Tag) → IsTag t → ¬ IsFrontOf t (take 64 p.spare))
    → IsCheckRight p → IsTagOf p found
tag_checked p None said refuses check = record {
  sealed = tt;
  refused = λ none t b h e. refuses none t h e.front;
}
tag_checked p (Some t) said refuses check = record {
  sealed = (said.0, sealed p t said.1 check);
  refused = λ none. absurd (none-some t (sym none));
}

-- one with a wrong check is sealed with none
pub no_tag_checked : (p : Page) → ¬ IsCheckRight p → (t : Tag) (b : List ℕ) → IsTag t → ¬ IsSealedAs p t b
no_tag_checked p wrong t b h e = wrong e.check

-- a page that is sealed with a tag and a block opens to these
pub reopens : (p : Page) (t : Tag) (b : List ℕ) (r : Option Opened) → p ≡ seal_page t b → IsTag t
    → IfSome r (λ o. IsTag o.tag × IsSealedAs p o.tag o.body)
    → (r ≡ None → (u : Tag) (d : List ℕ) → IsTag u → ¬ IsSealedAs p u d)
    → r ≡ Some (record { tag = t; body = b })
reopens p t b r made h s n = opens r s n
  where
    is : IsSealedAs p t b
    is = subst (λ (x : Page). IsSealedAs x t b) (sym made) (seals t b)

    opens : (x : Option Opened) → IfSome x (λ o. IsTag o.tag × IsSealedAs p o.tag o.body)
        → (x ≡ None → (u : Tag) (d : List ℕ) → IsTag u → ¬ IsSealedAs p u d)
        → x ≡ Some (record { tag = t; body = b })
    opens None k none = absurd (none refl t b h is)
    opens (Some o) k none =
        let tag : o.tag ≡ t = sealed_tag p o.tag t o.body b k.0 h k.1 is in
        let body : o.body ≡ b = sealed_body p o.tag t o.body b k.1 is in
        ap (λ (x : Tag). Some (record { tag = x; body = o.body })) tag
        ∙ ap (λ (x : List ℕ). Some (record { tag = t; body = x })) body
