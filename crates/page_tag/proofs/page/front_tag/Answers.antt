use Rattle.std.proofs.Common.{◌≡◌, ◌∙◌, subst, sym, true, take}
use Rattle.ufs_spec.specs.Pages.{IsFrontOf, IsTag}
use Rattle.ufs_spec.specs.declared.flash.Tag.{Tag}
use Rattle.ufs_spec.proofs.SealedPages.{tag_of_front}
use Rattle.page_tag.proofs.page.front_tag.Goals as goal

pub returns-then-not-is_tag-clause-refused : goal.returns-then-not-is_tag-clause-refused
returns-then-not-is_tag-clause-refused c = λ _ t h front.
    let same : c.tag_of-tag.result ≡ t = c.tag_of-tag.ensures ∙ tag_of_front c.args.page.now.spare t h front in
    let found : IsTag c.tag_of-tag.result = subst IsTag (sym same) h in
    let passed : c.is_tag.result ≡ true = c.is_tag.ensures.1 found in
    cc

pub returns-then-not-has_front-clause-refused : goal.returns-then-not-has_front-clause-refused
returns-then-not-has_front-clause-refused c = λ _ t h front.
    let same : c.tag_of-tag.result ≡ t = c.tag_of-tag.ensures ∙ tag_of_front c.args.page.now.spare t h front in
    let here : IsFrontOf c.tag_of-tag.result (take 64 c.args.page.now.spare) =
    subst (λ (x : Tag). IsFrontOf x (take 64 c.args.page.now.spare)) (sym same) front in
    let passed : c.has_front.result ≡ true = c.has_front.ensures.1 here in
    let fails = c.if-not-has_front.true in
    cc
