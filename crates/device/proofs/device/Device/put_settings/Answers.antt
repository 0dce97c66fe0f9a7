use Rattle.device.proofs.Common.{DeviceCore, HasPut, [], key_group, settings_key, subst, ◌∷◌}
use Rattle.device.proofs.host_messages.PagesBrought.{has_put, item_brought, one_brought}
use Rattle.device.proofs.device.Device.put_settings.Goals as goal

pub returns-clause-put : goal.returns-clause-put
returns-clause-put c =
    subst (λ (d : DeviceCore). HasPut d.ftl c.accept_pages.new.self c.args.tag (key_group c.args.settings.now)
    c.accept_pages.result) c.self.view_is
    (has_put c.self.inside.ftl c.accept_pages.new.self c.args.tag (key_group c.args.settings.now) c.accept_pages.result
    (c.settings_brought.result ∷ []) c.accept_pages.ensures.described_number c.accept_pages.ensures.described
    c.accept_pages.ensures.claims
    (λ t. one_brought t _ c.settings_brought.result
    (item_brought t settings_key 0 c.args.settings.now c.settings_brought.result c.settings_brought.ensures
    (λ apart. c.told-settings))))
