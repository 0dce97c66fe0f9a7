use Rattle.device.proofs.Common.{Err, IsBare, IsNamed, IsPlanned, Ok, Plan, Request, Result, Some, State, Status, ap}
use Rattle.device.proofs.Common.{refl, spelled_cdb, sym, target_of, ◌∙◌, ◌≡◌}
use Rattle.ufs_spec.specs.CdbFields.{row_of, spelled_in}
use Rattle.ftl_core.specs.Public.{Describes as IsLayer}
use Rattle.device.specs.Plans.{IsRequest}
use Rattle.device.specs.declared.targets.Target.{Target}
use Rattle.device.proofs.host_messages.UnitsThere.{beyond_is, beyond_refused, if_err, if_ok, is_ok, planned_passes}
use Rattle.device.proofs.host_messages.UnitsThere.{refused_so}
use Rattle.device.proofs.Common.{false, numbers_of}
use Rattle.ufs_spec.specs.Refusals.{is_beyond}
use Rattle.device.proofs.device.Device.plan.Goals as goal

pub returns-in-Some : goal.returns-in-Some
returns-in-Some c = λ s r h bare asks. by s r h bare asks c.plan_taken.result refl
  where
    routed : (s : State) (r : Request) → IsLayer c.args.self.now.ftl s.translation → IsBare s c.args.self.now →
        IsRequest r c.args.flags c.args.lun c.args.expected c.args.cdb.now →
        IsNamed s r × (c.in-Ok.target ≡ target_of s r)
    routed s r h bare asks =
        c.in-Ok.ensures s r h bare asks.lun_is asks.flags_are (ap row_of asks.bytes_are ∙ sym c.row_of-row.ensures)

    spec_at : (s : State) (r : Request) → c.in-Ok.target ≡ target_of s r → r.lun ≡ c.in-Ok.target.lun
    spec_at s r is = sym (ap (λ (t : Target). t.lun) is)

    fewer : (s : State) (r : Request) → IsLayer c.args.self.now.ftl s.translation →
        IsRequest r c.args.flags c.args.lun c.args.expected c.args.cdb.now → is_beyond (numbers_of s) r ≡ false
    fewer s r h asks =
        beyond_is s r c.args.cdb.now c.row_of-row.result asks.bytes_are
        (ap row_of asks.bytes_are ∙ sym c.row_of-row.ensures)
        ∙ sym (c.is_beyond.ensures s.translation h) ∙ c.if-is_beyond.false

    spells : Some c.in-Some.cdb ≡ spelled_cdb c.args.cdb.now
    spells =
        sym c.in-Some.is ∙ c.spelled_in.ensures ∙ ap (spelled_in c.args.cdb.now) c.row_of-row.ensures

    by : (s : State) (r : Request) → IsLayer c.args.self.now.ftl s.translation → IsBare s c.args.self.now →
        IsRequest r c.args.flags c.args.lun c.args.expected c.args.cdb.now →
        (x : Result Plan Status) → c.plan_taken.result ≡ x → IsPlanned s r x
    by s r h bare asks (Ok todo) e =
        let its = routed s r h bare asks in
        let ok = is_ok c.plan_taken.result todo e in
        let spec = sym (ap (λ (t : Target). t.spec) its.1) in
        planned_passes s r c.args.flags c.args.lun c.args.expected c.args.cdb.now c.in-Ok.target c.in-Some.cdb todo asks
        its spells (fewer s r h asks)
        (c.plan_taken.ensures.passed ok s r h bare spec (spec_at s r its.1) asks.flags_are asks.expected_is)
        (c.plan_taken.ensures.within ok) (if_ok _ c.plan_taken.result todo e c.plan_taken.ensures.planned s h)
    by s r h bare asks (Err told) e =
        let its = routed s r h bare asks in
        let spec = sym (ap (λ (t : Target). t.spec) its.1) in
        refused_so s r c.args.flags c.args.lun c.args.expected c.args.cdb.now c.in-Some.cdb asks its.0 spells
        (fewer s r h asks)
        ∙ if_err _ c.plan_taken.result told e c.plan_taken.ensures.refused s r h bare spec (spec_at s r its.1)
        asks.flags_are asks.expected_is

pub returns-then-is_beyond : goal.returns-then-is_beyond
returns-then-is_beyond c = λ s r h bare asks.
    beyond_refused s r
    (c.in-Ok.ensures s r h bare asks.lun_is asks.flags_are (ap row_of asks.bytes_are ∙ sym c.row_of-row.ensures)).0
    (beyond_is s r c.args.cdb.now c.row_of-row.result asks.bytes_are
    (ap row_of asks.bytes_are ∙ sym c.row_of-row.ensures)
    ∙ sym (c.is_beyond.ensures s.translation h) ∙ c.if-is_beyond.true)
