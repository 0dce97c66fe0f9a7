use Rattle.device.proofs.Common.{DeviceCore, HasPutSetting, subst}
use Rattle.device.proofs.host_messages.QueriesAnswered.{setting_put}
use Rattle.device.proofs.device.Device.put_setting.Goals as goal

pub returns-clause-put : goal.returns-clause-put
returns-clause-put c =
    let new = c.put_settings.new.self.ftl in
    subst
    (λ (d : DeviceCore). HasPutSetting d.ftl new c.args.tag c.args.page.now c.put_settings.result) c.self.view_is
    (setting_put c.self.inside.ftl c.reserve.new.self new c.args.tag c.put_settings.result c.args.page.now
    c.reserve.result c.reserve.ensures.described_found c.reserve.ensures.described c.reserve.ensures.claims
    c.put_settings.ensures.put)
