-- A QUERY REQUEST is answered as the definitions say.
use Rattle.device.proofs.Common.{ArrayVec, Call, Describes, DeviceCore, Err, HaveAnswered, Host, HostFault, IsAnswered}
use Rattle.device.proofs.Common.{IsBare, IsHeard, IsHeardAs, Keeps, List, Message, None, OfHost, Ok, OnErr, OnOk}
use Rattle.device.proofs.Common.{Queried, Query, Result, ShortReply, Some, Spelled, Spells, State, Volatile, [], ap}
use Rattle.device.proofs.Common.{at_once, false, heard, host_fault_of, is_task_of, numbers_of, opening_fault, query_with, refl}
use Rattle.device.proofs.Common.{result_of, short_answer, short_reply, short_said, subst, sym, task_of, true}
use Rattle.device.proofs.Common.{with_short, ℕ, ◌==◌, ◌∙◌, ◌∷◌, ◌≡◌}
use Rattle.std.proofs.Common.{not}
use Rattle.std.proofs.lemmas.Bool.{and_parts, not-true}
use Rattle.ufs_spec.specs.Exchanges.{number_of}
use Rattle.ufs_spec.specs.Machine as machine
use Rattle.task_set.specs.Shorts.{manages}
use Rattle.ufs_spec.specs.Messages.{IsQueryFunction}
use Rattle.ufs_spec.specs.QueryAnswers.{query_heard}
use Rattle.ufs_spec.specs.declared.messages.Asked.{Asked}
use Rattle.ufs_spec.specs.declared.messages.Message.TheVariants as message
use Rattle.ufs_laws.proofs.walk.Happenings.{code_of_query}
use Rattle.power_loss.proofs.calls.CallsKeepTied.{no_fault}
use Rattle.power_loss.proofs.host_commands.OpenedByCommands.{is_free}
use Rattle.power_loss.proofs.host_commands.QueriesHeard.{IsSetting, setting_is}
use Rattle.power_loss.proofs.open_tasks.FoundInLists.{none_found}
use Rattle.upiu.proofs.HostFault.{of_each}
use Rattle.descriptors.proofs.Decided.{decided}
use Rattle.descriptors.specs.Answers.{command_of}
use Rattle.descriptors.specs.Codes.{response_byte}
use Rattle.descriptors.specs.States.{answered_by}
use Rattle.descriptors.specs.declared.answers.QueryAnswer.{QueryAnswer}
use Rattle.descriptors.specs.declared.answers.QueryAnswer.TheVariants as answer
use Rattle.descriptors.specs.declared.answers.Setting.{Setting}
use Rattle.task_set.specs.declared.tasks.ShortReply.TheVariants as reply
use Rattle.device.specs.Queries.{HasAnsweredBy, HasQueried, IsAnswerTo, tells_at_once, with_setting}
use Rattle.device.specs.Replies.{function_of}
use Rattle.device.proofs.described.Answered.{IsBehind, answered_as, answered_locked, stays}
use Rattle.device.proofs.described.VolatileChanges.{volatile_changed}
use Rattle.device.proofs.host_messages.CommandTags.{others_send, short_fault}
use Rattle.device.proofs.host_messages.SettingsAccepted.{set_answered, set_keeps}
use Rattle.device.proofs.host_messages.ShortsOpened.{once_more, spelled_heard}

-- a query that is taken is a standard read or a standard write
function_is : (function : ℕ) → IsQueryFunction function → function_of (function == 0x81) ≡ function
function_is function among =
    of_each (λ (n : ℕ). function_of (n == 0x81) ≡ n) (0x01 ∷ 0x81 ∷ []) function (refl, (refl, tt)) among

-- with an exchange whose reply is due at once what is volatile may change
volatile_more : (d : DeviceCore) (s : State) (tag : ℕ) (said : ShortReply) (volatile : Volatile) → Describes d s →
    IsBehind (with_short (record d { volatile = volatile }) (at_once tag said))
    (machine.with_short (record s { volatile = volatile })
    (short_reply (number_of (manages said) tag) (short_said (numbers_of s) tag said)))
volatile_more d s tag said volatile h =
    volatile_changed (with_short d (at_once tag said))
    (machine.with_short s (short_reply (number_of (manages said) tag) (short_said (numbers_of s) tag said))) volatile volatile refl
    (once_more d s tag said h)

module _ (d : DeviceCore) (s : State) (bytes : List ℕ) (h : Describes d s) (none : host_fault_of bytes ≡ None)
    (tag function : ℕ) (asked : Asked) (size value : ℕ) («data» : ArrayVec ℕ)
    (spells : Spells (message.QueryRequest tag function asked size value «data») bytes) where
  abbrev said : Message
  said = message.QueryRequest tag function asked size value «data»

  -- what is kept of it, and the query that it is
  abbrev query : Queried
  query = record { writing = function == 0x81; asked = asked; length = size }

  abbrev q : Query
  q = query_with query value

  abbrev call : Call
  call = Host (Spelled said None)

  abbrev heard_so : IsHeard bytes (Spelled said None)
  heard_so = (spells, none, refl)

  -- its answer decides what it makes of the state
  heard_is : (x : QueryAnswer) → IsAnswerTo s q x → heard s said None ≡ answered_by s tag q x
  heard_is x is =
      ap (λ (n : ℕ). query_heard s tag (record { function = n; asked = asked; length = size; value = value }))
      (sym (function_is function spells.0.1))
      ∙ decided s tag (code_of_query s q) q x is.code is.succeeds_is is.says

  bare : IsBare s d
  bare = record {
    boot_is = h.kept.boot;
    permanent_is = h.kept.permanent;
    volatile_is = h.kept.volatile;
    registers_are = h.kept.registers;
    senders_are = others_send d s h;
  }

  -- where its tag is free and there is room
  module _ (free : opening_fault s false tag true ≡ None) where
    right : Ok tt ≡ result_of (opening_fault s false tag true)
    right = sym (ap result_of free)

    -- a setting is accepted
    set_right : (e : DeviceCore) (x : Setting) → IsAnswerTo s q (answer.Setting x) →
        HasAnsweredBy d e tag query (answer.Setting x) → IsAnswered s call (OfHost (Ok tt)) e
    set_right e x is did =
        answered_locked d
        (with_short (record (with_setting d x) { ftl = did.layer })
        (record { tag = tag; awaits = Some did.number; reply = reply.QueryDone query did.value })) e s call
        (OfHost (Ok tt)) h (bytes, heard_so) right
        (subst (Keeps _) (sym (heard_is (answer.Setting x) is))
        (set_keeps d s tag value query x h set is.says no_task e did))
        (subst HaveAnswered (sym (heard_is (answer.Setting x) is))
        (set_answered d s tag value query x h set is.says no_task)) did.told
      where
        both : ((code_of_query s q == 0x00) ≡ true) × (not (q.asked.opcode == 0) ≡ true)
        both = and_parts (code_of_query s q == 0x00) (not (q.asked.opcode == 0)) (sym is.succeeds_is)

        set : IsSetting s (command_of x)
        set = setting_is s q (command_of x) both.0 (not-true (q.asked.opcode == 0) both.1) is.says

        no_task : task_of tag s.tasks ≡ None
        no_task = none_found (is_task_of tag) s.tasks (is_free s false tag true free).no_task

    each_right : (e : DeviceCore) (x : QueryAnswer) → IsAnswerTo s q x → HasAnsweredBy d e tag query x →
        IsAnswered s call (OfHost (Ok tt)) e
    each_right e (answer.Code code) is did =
        subst (IsAnswered s call (OfHost (Ok tt))) (sym did)
        (answered_as d (with_short d (at_once tag (reply.QueryFailed query (response_byte code)))) s
        (answered_by s tag q (answer.Code code)) call (OfHost (Ok tt)) h (bytes, heard_so) right
        (heard_is (answer.Code code) is) (once_more d s tag (reply.QueryFailed query (response_byte code)) h))
    each_right e (answer.Told told) is did =
        subst (IsAnswered s call (OfHost (Ok tt))) (sym did)
        (answered_as d (tells_at_once d tag query told) s (answered_by s tag q (answer.Told told)) call (OfHost (Ok tt))
        h (bytes, heard_so) right (heard_is (answer.Told told) is)
        (volatile_more d s tag (reply.QueryDone query told.value) told.volatile h))
    each_right e (answer.Setting x) is did = set_right e x is did

  pub query_right : (e : DeviceCore) (result : Result Unit HostFault) → OnErr result (e ≡ d) →
      result ≡ short_answer d (numbers_of s) false tag → OnOk result (HasQueried d e tag query value) → IsHeardAs s bytes result e
  query_right e result refused told taken = by result (told ∙ sym (short_fault d s false tag h)) refused taken
    where
      by : (x : Result Unit HostFault) → x ≡ result_of (opening_fault s false tag true) → OnErr x (e ≡ d) →
          OnOk x (HasQueried d e tag query value) → IsHeardAs s bytes x e
      by (Ok done) is stayed did = record {
        heard = Spelled said None;
        is_heard = heard_so;
        answered =
            each_right (no_fault (opening_fault s false tag true) is) e did.answer (did.is s h.kept.layer_kept bare)
            did.answered;
      }
      by (Err f) is stayed did =
          spelled_heard d e s s bytes said None (Err f) h spells none refl is refl
          (subst (λ (y : DeviceCore). IsBehind y s) (sym stayed) (stays d s h))
