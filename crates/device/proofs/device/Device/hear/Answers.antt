use Rattle.device.proofs.Common.{Spells, refl, subst}
use Rattle.device.proofs.host_messages.HostRight.{device_kind, nop_right}
use Rattle.device.proofs.host_messages.EventsRight.{event_right}
use Rattle.device.proofs.host_messages.QueriesRight.{query_right}
use Rattle.device.proofs.managed.ManagedRight.{managing_right}
use Rattle.device.proofs.device.Device.hear.Goals as goal

pub returns-in-NopOut-clause-heard : goal.returns-in-NopOut-clause-heard
returns-in-NopOut-clause-heard c =
    λ s bytes h spells none.
    nop_right c.args.self.now c.open_short.new.self s bytes c.open_short.result h none
    c.open_short.ensures.refused c.in-NopOut.tag (subst (λ m. Spells m bytes) c.in-NopOut.is spells)
    (c.open_short.ensures.answer s.translation h.kept.layer_kept) c.open_short.ensures.after

pub returns-in-TaskRequest-clause-heard : goal.returns-in-TaskRequest-clause-heard
returns-in-TaskRequest-clause-heard c =
    λ s bytes h spells none.
    managing_right c.args.self.now s c.in-TaskRequest.lun c.in-TaskRequest.tag c.in-TaskRequest.function
    c.in-TaskRequest.meant h c.manage.new.self bytes c.manage.result
    (subst (λ m. Spells m bytes) c.in-TaskRequest.is spells) none
    (c.manage.ensures.answer s.translation h.kept.layer_kept) c.manage.ensures.refused
    (c.manage.ensures.taken s h)

pub returns-in-QueryRequest-clause-heard : goal.returns-in-QueryRequest-clause-heard
returns-in-QueryRequest-clause-heard c =
    λ s bytes h spells none.
    query_right c.args.self.now s bytes h none c.in-QueryRequest.tag c.in-QueryRequest.function c.in-QueryRequest.asked
    c.in-QueryRequest.length c.in-QueryRequest.value c.in-QueryRequest.data
    (subst (λ m. Spells m bytes) c.in-QueryRequest.is spells) c.query.new.self c.query.result c.query.ensures.refused
    (c.query.ensures.answer s.translation h.kept.layer_kept) c.query.ensures.after

pub returns-in-LinkEvent-clause-heard : goal.returns-in-LinkEvent-clause-heard
returns-in-LinkEvent-clause-heard c =
    λ s bytes h spells none.
    event_right c.args.self.now c.link_event.new.self s bytes c.in-LinkEvent.kind c.link_event.result h
    (subst (λ m. Spells m bytes) c.in-LinkEvent.is spells) none
    (c.link_event.ensures.answer s.translation h.kept.layer_kept) c.link_event.ensures.refused
    (c.link_event.ensures.taken s h)

pub returns-in_default : goal.returns-in_default
returns-in_default c = record {
  refused = refl;
  heard =
      λ s bytes h spells none.
      device_kind c.args.self.now s bytes c.args.message.now h c.requires.no_command c.requires.no_data_out
      c.in_default.not-NopOut c.in_default.not-TaskRequest c.in_default.not-QueryRequest c.in_default.not-LinkEvent
      spells none;
}
