-- A setting is accepted: what the device keeps then is kept of the state in which its command follows all others, and
-- its answer waits until that is durable.
use Rattle.device.proofs.Common.{Accept, Bool, Claim, Command, Core, Describes, DeviceCore, HasPutSetting, HaveAnswered}
use Rattle.device.proofs.Common.{IsAllowedMove, IsComing, IsKept, IsLayerWith, IsPlain, IsSettings, IsTied, Keeps, List}
use Rattle.device.proofs.Common.{None, Plain, Queried, Query, ShortKept, Some, State, Translation, [], all_contents, ap}
use Rattle.device.proofs.Common.{append-nil, apply, arith, before_accepted, bytes_of, claimed_by, claims_of}
use Rattle.device.proofs.Common.{command_allowed, content, fold-append, group_of, key_group, le-leb, length, machine_at}
use Rattle.device.proofs.Common.{map, moved, numbers_of, plain_now, query_with, refl, region_of, said_by}
use Rattle.device.proofs.Common.{settings_block, settings_key, settings_of, settings_ranges, subst, sym, task_of, true}
use Rattle.device.proofs.Common.{with_short, ℕ, ◌++◌, ◌+◌, ◌∙◌, ◌∷◌, ◌≡◌}
use Rattle.ufs_spec.proofs.ConfigFacts.{command_blocks-some}
use Rattle.ufs_spec.specs.Changes.{with_moves}
use Rattle.ufs_spec.specs.Exchanges as exchange
use Rattle.ufs_spec.specs.Keys.{settings_bytes}
use Rattle.ufs_spec.specs.Queries.{descriptor_told, setting_of, value_told}
use Rattle.ufs_spec.specs.QueryAnswers.{query_done, query_failed, setting_accepted}
use Rattle.ufs_spec.specs.Translation.{Rest, rests_of}
use Rattle.ufs_spec.specs.declared.messages.Message.TheVariants as message
use Rattle.ufs_laws.proofs.plain_contents.CommandsKeepPlain.{kept_plain}
use Rattle.power_loss.proofs.calls.RightChanges.{right_keeps, right_move}
use Rattle.power_loss.proofs.host_commands.AcceptedCommands.{plain_tied}
use Rattle.power_loss.proofs.host_commands.QueriesHeard.{IsSetting}
use Rattle.descriptors.specs.Answers.{command_of}
use Rattle.descriptors.specs.declared.answers.Setting.{Setting}
use Rattle.descriptors.specs.declared.answers.Setting.TheVariants as setting
use Rattle.rpmb.specs.Kept.{said_kept}
use Rattle.task_set.specs.declared.tasks.Short as kept
use Rattle.task_set.specs.declared.tasks.ShortReply.TheVariants as reply
use Rattle.device.specs.Groups.{settings_kept}
use Rattle.device.specs.Queries.{HasSet, with_setting, with_slot}
use Rattle.device.proofs.described.Machines.{all_said}
use Rattle.device.proofs.described.Settled.{kept_stays, still_answered}
use Rattle.device.proofs.described.ShortExchanges.{one_short_more}
use Rattle.device.proofs.host_messages.FramesAccepted.{contents_now}
use Rattle.device.proofs.host_messages.GroupsOfFrames.{settings_whole}
use Rattle.device.proofs.host_messages.NumbersAwaited.{number_awaited}

-- Its group

-- what the machines say of the regions
said_now : (d : DeviceCore) (s : State) → Describes d s → map said_kept d.rpmb ≡ map said_by (plain_now s).regions
said_now d s h =
    all_said d.rpmb (plain_now s) h.kept.each (plain_tied h.tied).regions_count h.kept.region

-- the settings page is the one that the command leaves
page_is : (d : DeviceCore) (s : State) (x : Setting) → Describes d s →
    bytes_of (settings_kept (with_setting d x)) ≡ settings_of (apply (plain_now s) (command_of x))
page_is d s (setting.Boot boot) h =
    λ i. settings_bytes boot (h.kept.permanent i) (said_now d s h i)
page_is d s setting.Permanent h =
    λ i. settings_bytes (h.kept.boot i) true (said_now d s h i)

-- a setting changes the settings alone
setting_grouped : (t : Translation) (p : Plain) (x : Setting) (page : List ℕ) → IsPlain p → length page ≡ 4096 →
    all_contents t.ledger settings_key ≡ content p settings_key → page ≡ settings_of (apply p (command_of x)) →
    key_group page t ≡ group_of p (command_of x)
setting_grouped t p (setting.Boot boot) page plain long old is =
    ap (λ (body : List ℕ). record { key = settings_key; body = body } ∷ [])
    (settings_whole t p (settings_of (apply p (command_of (setting.Boot boot)))) page plain long old is)
setting_grouped t p setting.Permanent page plain long old is =
    ap (λ (body : List ℕ). record { key = settings_key; body = body } ∷ [])
    (settings_whole t p (settings_of (apply p (command_of setting.Permanent))) page plain long old is)

-- its page waits for no rest
none_rests : (t : Translation) (p : Plain) (x : Setting) → rests_of t (group_of p (command_of x)) ≡ []
none_rests t p (setting.Boot boot) = refl
none_rests t p setting.Permanent = refl

-- it leaves every region
region_stays : (p : Plain) (x : Setting) (number : ℕ) →
    region_of (apply p (command_of x)) number ≡ region_of p number
region_stays p (setting.Boot boot) number = refl
region_stays p setting.Permanent number = refl

-- and the device what it has beside it
module _ (d : DeviceCore) (s : State) (x : Setting) (h : Describes d s) where
  boot_is : (with_setting d x).boot ≡ (apply (plain_now s) (command_of x)).boot
  boot_is = by x
    where
      by : (y : Setting) → (with_setting d y).boot ≡ (apply (plain_now s) (command_of y)).boot
      by (setting.Boot boot) = refl
      by setting.Permanent = h.kept.boot

  permanent_is : (with_setting d x).is_permanent ≡ (apply (plain_now s) (command_of x)).permanent
  permanent_is = by x
    where
      by : (y : Setting) → (with_setting d y).is_permanent ≡ (apply (plain_now s) (command_of y)).permanent
      by (setting.Boot boot) = h.kept.permanent
      by setting.Permanent = refl

-- nothing else that the device keeps changes
else_same : (d : DeviceCore) (x : Setting) →
    with_setting d x ≡ record d { boot = (with_setting d x).boot; is_permanent = (with_setting d x).is_permanent }
else_same d (setting.Boot boot) = refl
else_same d setting.Permanent = refl

-- Its command is accepted

module _ (d : DeviceCore) (s : State) (tag value : ℕ) (query : Queried) (x : Setting) (h : Describes d s)
    (set : IsSetting s (command_of x)) (is : setting_of (query_with query value) ≡ Some (command_of x))
    (free : task_of tag s.tasks ≡ None) where
  abbrev c : Command
  c = command_of x

  abbrev q : Query
  q = query_with query value

  -- the state in which its slot is claimed, and the one in which it is accepted
  abbrev u : State
  u = with_moves s (Claim 1 ∷ [])

  abbrev v : State
  v = setting_accepted s tag q c

  abbrev page : List ℕ
  page = bytes_of (settings_kept (with_setting d x))

  -- its group may come
  tied : IsTied u
  tied = right_keeps (right_move (Claim 1) h.tied tt set.room (omega arith)) h.tied

  coming : IsComing u c 1
  coming = let keys = set.few in record {
    is = set.is;
    can = set.can;
    few = omega arith;
    short = let some = command_blocks-some (numbers_of s) in omega arith;
    is_mended = set.is_mended;
    unlocked = set.unlocked;
  }

  allowed : IsAllowedMove u.translation (Accept 1 (group_of (plain_now s) c))
  allowed = command_allowed tied coming (omega arith)

  page_long : length page ≡ 4096
  page_long =
      let p = apply (plain_now s) c in
      let plain = kept_plain (plain_now s) c (plain_tied h.tied) set.is set.can in
      ap length (page_is d s x h)
      ∙ (settings_block p.boot p.permanent (map said_by p.regions) (settings_ranges p plain)).0

  group_is : key_group page (with_slot s.translation) ≡ group_of (plain_now s) c
  group_is =
      setting_grouped (with_slot s.translation) (plain_now s) x page (plain_tied h.tied) page_long
      (contents_now s settings_key h.tied IsSettings) (page_is d s x h)

  layer_then : (layer : Core) (number : ℕ) → HasPutSetting d.ftl layer tag page number →
      IsLayerWith layer v.translation (claims_of (numbers_of s) s.tasks)
  layer_then layer number put =
      subst (λ g. IsLayerWith layer (moved (with_slot s.translation) (Accept 1 g)) (claims_of (numbers_of s) s.tasks)) group_is
      (put.layer s.translation (claims_of (numbers_of s) s.tasks) (h.kept.layer_kept, h.kept.claims) (ap (claimed_by (numbers_of s)) free)
      (le-leb 1 _ set.room)
      (subst (λ g. IsAllowedMove (with_slot s.translation) (Accept 1 g)) (sym group_is) allowed))

  -- its answer waits for its number
  abbrev waiting : (number told : ℕ) → kept.Short
  waiting number told = record { tag = tag; awaits = Some number; reply = reply.QueryDone query told }

  abbrev awaited : exchange.Short
  awaited = record {
    tag = tag;
    awaits = Some (length s.accepted + 1);
    reply = query_done (numbers_of s) (apply (plain_now s) c) s.volatile tag q;
    locked_reply = query_failed tag q 0xFF;
  }

  short_kept : (layer : Core) (number told : ℕ) → HasPutSetting d.ftl layer tag page number →
      told ≡ value_told (apply (plain_now s) c) s.volatile q →
      ShortKept (numbers_of s) (before_accepted s.translation.ledger) (waiting number told) awaited
  short_kept layer number told put told_is = record {
    tag = refl;
    reply =
        λ i.
        message.QueryResponse tag q.function 0x00 q.asked (length (descriptor_told (numbers_of s) q)) (sym told_is i)
        (record { items = descriptor_told (numbers_of s) q });
    awaits = put.number_is s.translation h.kept.layer_kept ∙ number_awaited s h.tied;
    locked = refl;
  }

  -- what is kept then
  abbrev then_is : plain_now v ≡ apply (plain_now s) c
  then_is = fold-append apply s.base s.accepted (c ∷ [])

  keeps_with : (layer : Core) (number told boot : ℕ) (permanent : Bool) →
      IsLayerWith layer v.translation (claims_of (numbers_of s) s.tasks) →
      ShortKept (numbers_of s) (before_accepted s.translation.ledger) (waiting number told) awaited →
      boot ≡ (apply (plain_now s) c).boot → permanent ≡ (apply (plain_now s) c).permanent →
      Keeps
      (with_short (record d { ftl = layer; boot = boot; is_permanent = permanent }) (waiting number told)) v
  keeps_with layer number told boot permanent its short boot_then permanent_then = record {
    boot = boot_then ∙ sym (ap (λ (p : Plain). p.boot) then_is);
    permanent = permanent_then ∙ sym (ap (λ (p : Plain). p.permanent) then_is);
    each = h.kept.each;
    region =
        λ region. subst (IsKept (machine_at d.rpmb region).region)
        (sym (ap (λ (p : Plain). region_of p region) then_is ∙ region_stays (plain_now s) x region))
        (h.kept.region region);
    registers = h.kept.registers;
    layer_kept = its.0;
    few = h.kept.few;
    tasks = h.kept.tasks;
    one_sends = h.kept.one_sends;
    wanted = h.kept.wanted;
    claims = its.1;
    shorts =
        one_short_more (numbers_of s) (before_accepted s.translation.ledger) d.shorts s.shorts (waiting number told)
        awaited h.kept.shorts short;
    volatile = h.kept.volatile;
  }

  pub set_keeps : (e : DeviceCore) (did : HasSet d e tag query x) →
      Keeps (with_short (record (with_setting d x) { ftl = did.layer }) (waiting did.number did.value)) v
  set_keeps e did =
      subst
      (λ (y : DeviceCore). Keeps (with_short (record y { ftl = did.layer }) (waiting did.number did.value)) v)
      (sym (else_same d x))
      (keeps_with did.layer did.number did.value (with_setting d x).boot (with_setting d x).is_permanent
      (layer_then did.layer did.number did.put)
      (short_kept did.layer did.number did.value did.put (did.value_is (plain_now s) s.volatile q is))
      (boot_is d s x h) (permanent_is d s x h))

  -- and no request becomes due
  rests_stay : v.translation.work.rests ≡ s.translation.work.rests
  rests_stay =
      ap (λ (rests : List Rest). s.translation.work.rests ++ rests) (none_rests u.translation (plain_now s) x)
      ∙ append-nil s.translation.work.rests

  pub set_answered : HaveAnswered v
  set_answered =
      still_answered s v s.tasks (kept_stays s.translation v.translation s.tasks refl rests_stay) refl h.answered
