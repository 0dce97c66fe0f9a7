-- A block whose first pages are filled, one after another.
use Rattle.std.proofs.Common.{◌≡◌, ◌≤◌, ◌<◌, ◌∙◌, ◌++◌, ◌+◌, ◌-◌, ◌∷◌, [], ℕ, zero, suc, List, ap, arith, drop, length, replicate, sym}
use Rattle.std.specs.Prelude.{slice_set}
use Rattle.std.proofs.lemmas.List.{append-nil, get_or-set_same, length-replicate, replicate-append-replicate, set-append_right, set-get_or, set-set}
use Rattle.std.proofs.lemmas.List.{append_assoc}
use Rattle.std.proofs.Math.Nat.{le_refl}
use Rattle.std.proofs.Math.Seq.{drop-cons, drop-length}
use Rattle.ufs_spec.specs.Dies.{DieState, blank_page, pages_of, with_block}
use Rattle.ufs_spec.specs.declared.flash.Page.{Page}
use Rattle.ufs_handle.specs.Left.{filled}

-- one page more of a list is set
one_more : (content : Page) (k : ℕ) (pages : List Page) → k < length pages →
    slice_set (replicate k content ++ drop k pages) k content ≡ replicate (suc k) content ++ drop (suc k) pages
one_more content k pages less =
    let rest = drop (suc k) pages in
    let here : drop k pages ≡ _ ∷ rest = drop-cons pages k blank_page less in
    let same : k - k ≡ 0 = omega arith in
    let longer : k + 1 ≡ suc k = omega arith in
    set-append_right (replicate k content) (drop k pages) k k content (length-replicate k content) (le_refl k)
    ∙ ap (λ (i : ℕ). replicate k content ++ slice_set (drop k pages) i content) same
    ∙ ap (λ (xs : List Page). replicate k content ++ slice_set xs 0 content) here
    ∙ sym (append_assoc (replicate k content) (content ∷ []) rest)
    ∙ ap (λ (xs : List Page). xs ++ rest)
    (replicate-append-replicate k 1 content ∙ ap (λ (n : ℕ). replicate n content) longer)

module _ (block : ℕ) (content : Page) (d : DieState) (there : block < length d.blocks) where
  abbrev pages : List Page
  pages = pages_of d block

  part : (k : ℕ) → k ≤ length pages →
      filled block content k d ≡ with_block d block (replicate k content ++ drop k pages)
  part zero less = ap (λ (bs : List (List Page)). record d { blocks = bs }) (sym (set-get_or d.blocks block []))
  part (suc k) less =
      let before = replicate k content ++ drop k pages in
      let there_now : pages_of (with_block d block before) block ≡ before =
      get_or-set_same d.blocks block before [] there in
      ap (λ (x : DieState). with_block x block (slice_set (pages_of x block) k content)) (part k (omega arith))
      ∙ ap (λ (xs : List Page). with_block (with_block d block before) block (slice_set xs k content)) there_now
      ∙ ap (λ (xs : List Page). with_block (with_block d block before) block xs) (one_more content k pages (omega arith))
      ∙ ap (λ (bs : List (List Page)). record d { blocks = bs })
      (set-set d.blocks block before (replicate (suc k) content ++ drop (suc k) pages))

  -- all of it
  pub filled_whole : (count : ℕ) → length pages ≡ count →
      filled block content count d ≡ with_block d block (replicate count content)
  filled_whole count all =
      part count (omega (arith, all))
      ∙ ap (λ (xs : List Page). with_block d block (replicate count content ++ xs))
      (ap (λ (n : ℕ). drop n pages) (sym all) ∙ drop-length pages)
      ∙ ap (λ (xs : List Page). with_block d block xs) (append-nil (replicate count content))
