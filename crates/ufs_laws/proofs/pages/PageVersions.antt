-- A page that opens is of version 2 or of version 1, and pages of either version open.
use Rattle.ufs_laws.proofs.Common.{IsBlock, IsFrontOf, List, Opens, Page, Tag, ap, arith, get_or-take, inl, inr, refl}
use Rattle.ufs_laws.proofs.Common.{slice_index, subst, take, ℕ, ◌++◌, ◌≡◌, ◌≤◌, ◌⊎◌}
use Rattle.ufs_spec.specs.Pages.{IsTag, check_of, old_front, seal_page}
use Rattle.ufs_spec.proofs.SealedPages.{seals}

-- the version and the size that its groups may have
abbrev IsOfVersion : ℕ → Tag → Type 0
IsOfVersion version t = ((version ≡ 2) × (t.size ≤ 128)) ⊎ ((version ≡ 1) × (t.size ≤ 32))

front_version : (t : Tag) (front : List ℕ) → IsTag t → IsFrontOf t front → IsOfVersion (slice_index front 4) t
front_version t front is (inl new) = inl (ap (λ (f : List ℕ). slice_index f 4) new, is.group_not_long.1)
front_version t front is (inr old) = inr (ap (λ (f : List ℕ). slice_index f 4) old.1, old.0)

pub version_opened : (page : Page) (t : Tag) (b : List ℕ) → Opens page t b → IsOfVersion (slice_index page.spare 4) t
version_opened page t b h =
    subst (λ (version : ℕ). IsOfVersion version t) (get_or-take 64 page.spare 4 0 (omega arith))
    (front_version t (take 64 page.spare) h.tag_right h.sealed.front)

pub written_opens : (t : Tag) (b : List ℕ) → IsTag t → IsBlock b
    → Opens (seal_page t b) t b × (slice_index (seal_page t b).spare 4 ≡ 2)
written_opens t b is block = (record { tag_right = is; body_right = block; sealed = seals t b }, refl)

pub old_opens : (t : Tag) (b : List ℕ) → IsTag t → t.size ≤ 32 → IsBlock b
    → Opens (record { body = b; spare = old_front t ++ check_of b (old_front t) }) t b
old_opens t b is few block = record {
  tag_right = is;
  body_right = block;
  sealed = record { front = inr (few, refl); check = refl; holds = refl };
}
