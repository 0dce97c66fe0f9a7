-- What a page that opens is.
use Rattle.std.proofs.Common.{◌≡◌, ◌≢◌, ℕ, List, Option, subst}
use Rattle.ufs_spec.specs.Cells.{DataHold, GroupPage, IsCell, IsMarkBody, Mark, MarkPage, Nothing, Opens}
use Rattle.ufs_spec.specs.Keys.{IsBlock, IsSettingsBody}
use Rattle.ufs_spec.specs.Pages.{IsSealedAs, IsTag}
use Rattle.ufs_spec.specs.declared.configs.Numbers.{Numbers}
use Rattle.ufs_spec.specs.declared.flash.Fence.{Fence}
use Rattle.ufs_spec.specs.declared.flash.Page.{Page}
use Rattle.ufs_spec.specs.declared.flash.Tag.{Tag}
use Rattle.ufs_spec.proofs.SealedPages.{one_body, one_tag}
use Rattle.ufs_laws.proofs.pages.PageIsSomeCell.{tag_of_mark}

module _ (page : Page) (tag : Tag) (body : List ℕ) (is_tag : IsTag tag) (sealed : IsSealedAs page tag body)
    (is_block : IsBlock page.body) where
  opens : Opens page tag body
  opens = record {
    tag_right = is_tag;
    body_right = subst IsBlock sealed.holds is_block;
    sealed = sealed;
  }

  -- a page of a group, whose settings are settings
  pub is_group_page : tag.kind ≢ 4 → (tag.kind ≡ 3 → IsSettingsBody body) → IsCell page (GroupPage tag body)
  is_group_page other settings =
      (opens, record { settings = settings; mark = λ kind. absurd (other kind) }, other)

  pub is_mark_page : (m : Mark) → tag.kind ≡ 4 → m.number ≡ tag.number → m.records ≡ tag.frontier
      → IsMarkBody m.fence m.numbers body → IsCell page (MarkPage m)
  is_mark_page m kind number records is =
      (body, subst (λ (t : Tag). Opens page t body) (tag_of_mark tag m is_tag kind number records) opens, is)

  -- data that do not hold
  data_fail : (DataHold tag body → ⊥) → IsCell page Nothing
  data_fail wrong t b h hold =
      let same_tag : t ≡ tag = one_tag page t tag b body h opens in
      let same_body : b ≡ body = one_body page t tag b body h opens in
      wrong (subst (λ (u : Tag). DataHold u body) same_tag (subst (DataHold t) same_body hold))

  pub no_mark : tag.kind ≡ 4 → ((fence : Option Fence) (n : Numbers) → IsMarkBody fence n body → ⊥)
      → IsCell page Nothing
  no_mark kind wrong = data_fail (λ hold. let m = hold.mark kind in wrong m.0 m.1 m.2)

-- a page that does not open
pub is_nothing : (page : Page) → ((t : Tag) (b : List ℕ) → IsTag t → ¬ IsSealedAs page t b) → IsCell page Nothing
is_nothing page closed t b h hold = closed t b h.tag_right h.sealed
