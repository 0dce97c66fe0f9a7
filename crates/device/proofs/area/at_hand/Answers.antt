use Rattle.device.proofs.Common.{InSlot, Name, None, Some, ap, sym, ◌∙◌, ◌≡◌}
use Rattle.device.proofs.due_replies.BlocksOwed.{block_found}
use Rattle.device.proofs.area.at_hand.Goals as goal

pub returns : goal.returns
returns c =
    λ t h.
    let mended = λ (name : Name) (e : c.in_ok-looked.looked ≡ InSlot name).
    c.pinned.ensures.described_mended t name h (c.in_ok-looked.was ∙ ap Some e) in
    block_found t None c.args.tag c.args.index c.in_ok-looked.looked _ (c.pinned.ensures.described_there t h)
    (sym c.in_ok-looked.was ∙ c.pinned.ensures.described t h) (λ right. c.block_there.ensures t h mended right)
