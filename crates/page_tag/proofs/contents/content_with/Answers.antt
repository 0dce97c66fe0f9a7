use Rattle.std.proofs.Common.{Option, subst}
use Rattle.ufs_spec.specs.declared.flash.Tag.{Tag}
use Rattle.page_tag.specs.Contents.{mark_of}
use Rattle.page_tag.specs.Jobs.{IsTagOf}
use Rattle.page_tag.proofs.Told.{is_group_page, is_mark_page, is_nothing, no_mark}
use Rattle.page_tag.proofs.contents.content_with.Goals as goal

pub returns-in_default : goal.returns-in_default
returns-in_default c = is_nothing c.args.page.now (c.requires.refused c.in_default.is)

pub returns-in-Some-mark_in : goal.returns-in-Some-mark_in
returns-in-Some-mark_in c =
    let told = subst (λ (found : Option Tag). IsTagOf c.args.page.now found) c.in-Some.is c.requires in
    let said = c.in-Some-mark_in.ensures.mark in
    is_mark_page c.args.page.now c.in-Some.tag c.args.page.now.body told.sealed.0 told.sealed.1
    c.bytes_are_a_block.ensures (mark_of c.in-Some-mark_in.mark) c.if-opened-eq-MARK.true said.0 said.1 said.2

pub returns-in-None : goal.returns-in-None
returns-in-None c =
    let told = subst (λ (found : Option Tag). IsTagOf c.args.page.now found) c.in-Some.is c.requires in
    no_mark c.args.page.now c.in-Some.tag c.args.page.now.body told.sealed.0 told.sealed.1 c.bytes_are_a_block.ensures
    c.if-opened-eq-MARK.true (c.mark_in.ensures.none c.in-None.is)

pub returns : goal.returns
returns c =
    let told = subst (λ (found : Option Tag). IsTagOf c.args.page.now found) c.in-Some.is c.requires in
    let group = is_group_page c.args.page.now c.in-Some.tag c.args.page.now.body told.sealed.0 told.sealed.1
    c.bytes_are_a_block.ensures c.if-opened-eq-MARK.false in
    elim c.else-opened-eq-SETTINGS.branch [
      | goal.else-opened-eq-SETTINGS-via-then-opened-eq-SETTINGS+else-not-is_settings_page w ↦
          group (λ _. w.is_settings_page.ensures.0 w.if-not-is_settings_page.false)
      | goal.else-opened-eq-SETTINGS-via-else-opened-eq-SETTINGS w ↦
          group (λ kind. absurd (w.if-opened-eq-SETTINGS.false kind))
    ]
