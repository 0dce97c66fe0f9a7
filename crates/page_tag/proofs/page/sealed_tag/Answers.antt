use Rattle.std.proofs.Common.{◌≡◌, true}
use Rattle.page_tag.proofs.Sealed.{no_tag_checked, sealed}
use Rattle.page_tag.proofs.page.sealed_tag.Goals as goal

pub returns-in_default-clause-refused : goal.returns-in_default-clause-refused
returns-in_default-clause-refused c = λ _ t b h e. c.front_tag.ensures.refused c.in_default.is t h e.front

pub returns-then-not-is_check_right-clause-refused : goal.returns-then-not-is_check_right-clause-refused
returns-then-not-is_check_right-clause-refused c = λ _.
    no_tag_checked c.args.page.now
    (λ right.
    let passed : c.is_check_right.result ≡ true = c.is_check_right.ensures.1 right in
    let fails = c.if-not-is_check_right.true in
    cc)

pub returns-clause-sealed : goal.returns-clause-sealed
returns-clause-sealed c =
    let said = c.in-Some.ensures.said in
    (said.0, sealed c.args.page.now c.in-Some.tag said.1 (c.is_check_right.ensures.0 c.if-not-is_check_right.false))
