use Rattle.page_tag.proofs.Sealed.{tag_checked}
use Rattle.page_tag.proofs.contents.content_checked.Goals as goal

pub content_with-requires : goal.content_with-requires
content_with-requires c =
    tag_checked c.args.page.now c.front_tag.result c.front_tag.ensures.said c.front_tag.ensures.refused
    (c.requires.0 c.if-not-is_right.false)
