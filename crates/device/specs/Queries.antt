-- What a query is answered, and what a setting makes of what the device keeps (JESD220, 10.7.8, 10.7.9 and 14).
use Rattle.std.specs.Prelude.{◌≡◌, ℕ, ◌==◌, ◌&&◌, Bool, nat_le, not, true, List, [], Some, None}
use Rattle.ufs_spec.specs.Ledger.{next_number}
use Rattle.ufs_spec.specs.Moves.{Accept, Claim, IsAllowedMove, moved}
use Rattle.ufs_spec.specs.Plain.{apply, Plain}
use Rattle.ufs_spec.specs.Queries.{Query, query_code, setting_of, value_told}
use Rattle.ufs_spec.specs.QueryAnswers.{may_set}
use Rattle.ufs_spec.specs.Refusals.{State, mended, numbers_of, plain_now}
use Rattle.ufs_spec.specs.Translation.{Translation, free_slots}
use Rattle.descriptors.specs.Answers.{Says, code_of, command_of, is_setting, succeeds}
use Rattle.descriptors.specs.Codes.{response_byte}
use Rattle.descriptors.specs.declared.answers.QueryAnswer.{QueryAnswer}
use Rattle.descriptors.specs.declared.answers.QueryAnswer.TheVariants as answer
use Rattle.descriptors.specs.declared.answers.Setting.{Setting}
use Rattle.descriptors.specs.declared.answers.Setting.TheVariants as setting
use Rattle.descriptors.specs.declared.answers.Told.{Told}
use Rattle.descriptors.specs.declared.queries.QuerySettings.{QuerySettings}
use Rattle.ftl_core.specs.Public.{Claims, Core, Describes}
use Rattle.settings.specs.Told.{bytes_of}
use Rattle.task_set.specs.declared.tasks.Queried.{Queried}
use Rattle.task_set.specs.declared.tasks.Short.{Short}
use Rattle.task_set.specs.declared.tasks.ShortReply.{ShortReply}
use Rattle.task_set.specs.declared.tasks.ShortReply.TheVariants as reply
use Rattle.device.specs.Bare.{IsBare}
use Rattle.device.specs.Calls.{lock_told}
use Rattle.device.specs.Groups.{key_group, settings_kept}
use Rattle.device.specs.Hears.{with_short}
use Rattle.device.specs.Kept.{DeviceCore, IsLayerWith}
use Rattle.device.specs.Replies.{query_with}
use Rattle.ufs_spec.specs.declared.volatile.Volatile.{Volatile}

-- The answer

-- the settings and flags that a query finds, on a device that is mended or not
abbrev pub settings_found : (mended : Bool) → DeviceCore → QuerySettings
settings_found mended d =
    record { boot = d.boot; is_permanent = d.is_permanent; volatile = d.volatile; is_mended = mended }

-- the answer is the right one to the query in this state: its response code is that of the table, it says what it has
-- to, and it is a setting only if one can be accepted
pub record IsAnswerTo (s : State) (q : Query) (x : QueryAnswer) : Type 0 where
  pub code : code_of x ≡ query_code (numbers_of s) (plain_now s) (may_set s) q
  pub succeeds_is : succeeds x ≡
      (query_code (numbers_of s) (plain_now s) (may_set s) q == 0x00) && not (q.asked.opcode == 0)
  pub says : Says (plain_now s) (numbers_of s) (mended s) s.volatile q x
  pub may : is_setting x ≡ true → may_set s ≡ true

-- What it makes of the device

-- a short exchange whose reply is due at once
abbrev pub at_once : ℕ → ShortReply → Short
at_once tag said = record { tag = tag; awaits = None; reply = said }

-- a query is told this at once; what is volatile is as it says
abbrev pub tells_at_once : DeviceCore → ℕ → Queried → Told → DeviceCore
tells_at_once d tag query told =
    with_short (record d { volatile = told.volatile })
    (at_once tag (reply.QueryDone query told.value))

-- the boot setting or fPermanentWPEn is as it was accepted
abbrev pub with_setting : DeviceCore → Setting → DeviceCore
with_setting d (setting.Boot boot) = record d { boot = boot }
with_setting d setting.Permanent = record d { is_permanent = true }

-- one slot is claimed for the settings page
abbrev pub with_slot : Translation → Translation
with_slot t = moved t (Claim 1)

-- where a slot is free the settings page is put behind all that are pending, as a group of its own under this number
pub record HasPutSetting (before after : Core) (tag : ℕ) (page : List ℕ) (number : ℕ) : Type 0 where
  pub number_is : (t : Translation) → Describes before t → number ≡ next_number t.ledger
  pub layer : (t : Translation) (claims : Claims) → IsLayerWith before t claims → claims tag ≡ [] →
      nat_le 1 (free_slots t) ≡ true → IsAllowedMove (with_slot t) (Accept 1 (key_group page (with_slot t))) →
      IsLayerWith after (moved (with_slot t) (Accept 1 (key_group page (with_slot t)))) claims

-- a setting was accepted: its page says all settings with it, the key and the counter, as they were accepted; its
-- answer tells the value that it set and waits for the page. A lock that begins then is told
pub record HasSet (before after : DeviceCore) (tag : ℕ) (query : Queried) (x : Setting) : Type 0 where
  pub layer : Core
  pub number : ℕ
  pub value : ℕ
  pub value_is : (p : Plain) (volatile : Volatile) (q : Query) → setting_of q ≡ Some (command_of x) →
      value ≡ value_told (apply p (command_of x)) volatile q
  pub put : HasPutSetting before.ftl layer tag (bytes_of (settings_kept (with_setting before x))) number
  pub told : (t : Translation) → Describes layer t →
      after
      ≡ lock_told t
      (with_short (record (with_setting before x) { ftl = layer })
      (record { tag = tag; awaits = Some number; reply = reply.QueryDone query value }))

-- what the answer makes of the device
abbrev pub HasAnsweredBy : DeviceCore → DeviceCore → ℕ → Queried → QueryAnswer → Type 0
HasAnsweredBy before after tag query (answer.Code code) =
    after ≡ with_short before (at_once tag (reply.QueryFailed query (response_byte code)))
HasAnsweredBy before after tag query (answer.Told told) = after ≡ tells_at_once before tag query told
HasAnsweredBy before after tag query (answer.Setting x) = HasSet before after tag query x

-- a query with this value was answered rightly
pub record HasQueried (before after : DeviceCore) (tag : ℕ) (query : Queried) (value : ℕ) : Type 0 where
  pub answer : QueryAnswer
  pub is : (s : State) → Describes before.ftl s.translation → IsBare s before →
      IsAnswerTo s (query_with query value) answer
  pub answered : HasAnsweredBy before after tag query answer
