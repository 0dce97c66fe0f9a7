use Rattle.device.proofs.Common.{InSlot, Name, Some, ap, read_at, sym, ◌∙◌, ◌≡◌}
use Rattle.device.proofs.due_replies.BlocksOwed.{block_found}
use Rattle.device.proofs.described.SameDevice.{same_layer}
use Rattle.device.proofs.device.Device.block.Goals as goal

pub returns : goal.returns
returns c =
    λ t h.
    let layer = same_layer _ _ t c.self.view_is h in
    let mended = λ (name : Name) (e : c.in_ok-looked.looked ≡ InSlot name).
    c.pinned.ensures.described_mended t name layer (c.in_ok-looked.was ∙ ap Some e) in
    block_found t (read_at c.args.self.now.tasks c.args.index) c.args.tag c.args.sent c.in_ok-looked.looked _
    (c.pinned.ensures.described_there t layer) (sym c.in_ok-looked.was ∙ c.pinned.ensures.described t layer)
    (λ right. c.block_looked.ensures t h mended right)
