use Rattle.device.proofs.Common.{InSlot, Name, Some, ap, sym, ◌∙◌, ◌≡◌}
use Rattle.device.proofs.described.AreaThere.{at_hand_found, copied_there}
use Rattle.device.proofs.described.SameDevice.{same_layer}
use Rattle.device.proofs.device.Device.is_at_hand.Goals as goal

pub returns-in-Some : goal.returns-in-Some
returns-in-Some c =
    λ t h.
    let layer = same_layer _ _ t c.self.view_is h in
    let mended = λ (name : Name) (e : c.in-Some.looked ≡ InSlot name).
    c.pinned.ensures.described_mended t name layer (c.in-Some.is ∙ ap Some e) in
    at_hand_found t c.args.tag c.args.index c.in-Some.looked c.is_some.result (c.pinned.ensures.described_there t layer)
    (sym c.in-Some.is ∙ c.pinned.ensures.described t layer)
    (λ right. c.is_some.ensures ∙ copied_there c.block_there.result _ (c.block_there.ensures t layer mended right))
