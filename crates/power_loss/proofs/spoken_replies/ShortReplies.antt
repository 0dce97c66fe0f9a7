-- Both replies of each open short exchange are messages, in every state that the calls lead to.
use Rattle.power_loss.proofs.Common.{All, All-append, All-cons, All-filter, All-map, All-nil, Array, Bool, List, None}
use Rattle.power_loss.proofs.Common.{Numbers, Ok, Option, Some, Spot, [], and_parts, apply, arith, config_tests, false}
use Rattle.power_loss.proofs.Common.{false≢true, find, get_or_from_slice_get, inl, inr, length, list_any, map, nat_le}
use Rattle.power_loss.proofs.Common.{not, ranges, refl, slice_get_within, subst, sym, true, ℕ, ◌&&◌, ◌==◌, ◌∷◌, ◌≡◌}
use Rattle.power_loss.proofs.Common.{◌≤◌}
use Rattle.power_loss.proofs.MachineWords.{Allowed, Answer, Call, Cdb, Command, Done, Due, Event, Faulty, Heard, Host}
use Rattle.power_loss.proofs.MachineWords.{IsHeard, IsOpened, IsSpoken, IsTied, Life, Message, OfDone, OfHost, OfReply}
use Rattle.power_loss.proofs.MachineWords.{OfTake, OfTurn, Output, Reply, Request, Short, Spelled, State, Take, Task}
use Rattle.power_loss.proofs.MachineWords.{TaskSetFull, TaskSpeaks, Turn, ValidState, behind, command_taken, fills}
use Rattle.power_loss.proofs.MachineWords.{heard, hears, is_durable, is_short_of, lock_applied, locked, lun_of, managed}
use Rattle.power_loss.proofs.MachineWords.{most_tasks, numbers_of, observe, plain_now, refusal, refused_or_begun}
use Rattle.power_loss.proofs.MachineWords.{replied_by, response, service, short_locked, short_replied, short_reply}
use Rattle.power_loss.proofs.MachineWords.{tag_in, task_locked, task_of, with_short}
use Rattle.std.specs.Prelude.{if◌then◌else◌, is_none, slice_get}
use Rattle.ufs_laws.proofs.plain_contents.CommandsKeepPlain.{kept_plain}
use Rattle.ufs_laws.proofs.walk.Happenings.{code_of_query, setting_short}
use Rattle.ufs_spec.specs.Queries.{Query, setting_of, volatile_after}
use Rattle.ufs_spec.specs.QueryAnswers.{query_done, query_failed, query_heard, query_passed}
use Rattle.power_loss.specs.WaitingFrames.{TasksSpeak}
use Rattle.power_loss.proofs.host_commands.AcceptedCommands.{plain_tied}
use Rattle.power_loss.proofs.host_commands.QueriesHeard.{setting_is}
use Rattle.power_loss.proofs.lives.EachEventKeeps.{one_event}
use Rattle.ufs_laws.proofs.exchanges.ReplySizes.{reply_speaks, response_fits, size}
use Rattle.ufs_laws.proofs.exchanges.SpokenCalls.{spoken}
use Rattle.ufs_laws.proofs.exchanges.AbortedTasks.{every_at}
use Rattle.ufs_laws.specs.Replies.{ShortSpeaks, ShortsSpeak, VolatileFits}
use Rattle.ufs_spec.specs.Exchanges.{number_of}
use Rattle.ufs_spec.specs.Machine.{NoEvent, aborts, is_named, service_found}
use Rattle.ufs_spec.specs.Refusals.{mended}
use Rattle.ufs_spec.specs.Messages.{IsByte, IsMessage, spelling}
use Rattle.ufs_spec.specs.declared.messages.Message.TheVariants as message
use Rattle.power_loss.proofs.open_tasks.OpenExchanges.{data_leaves, opened_adds, replied_leaves}
use Rattle.power_loss.proofs.kept_promises.ShortExchangesEnd.{ends_shorts, given_shorts, managed_shorts}
use Rattle.power_loss.proofs.spoken_replies.QueryReplies.{FewUnits, IsAskedWell, byte_if, code_is, done_is, failed_is}
use Rattle.power_loss.proofs.spoken_replies.VolatileWords.{asked_fits, call_fits}

-- Lists of short exchanges

-- each of them speaks, whatever is volatile
abbrev EachSpeaks : State → Type 0
EachSpeaks s = All ShortSpeaks s.shorts

same_speak : (s t : State) → t.shorts ≡ s.shorts → EachSpeaks s → EachSpeaks t
same_speak s t e h = subst (All ShortSpeaks) (sym e) h

-- one is opened
one_speaks : (s : State) (tag : ℕ) (m : Message) → IsMessage m → EachSpeaks s →
    EachSpeaks (with_short s (short_reply tag m))
one_speaks s tag m is h = All-append ShortSpeaks s.shorts (short_reply tag m ∷ []) h
    (All-cons ShortSpeaks (short_reply tag m) [] (record { reply = is; locked_reply = is }) (All-nil ShortSpeaks))

-- A COMMAND

command_speaks : (s : State) (r : Request) → IsMessage (response r.lun r.tag r.expected 0 TaskSetFull) → EachSpeaks s →
    EachSpeaks (command_taken s r)
command_speaks s r is h = by (nat_le most_tasks (length s.tasks))
  where
    by : (b : Bool) → EachSpeaks
        (if b then with_short s (short_reply r.tag (response r.lun r.tag r.expected 0 TaskSetFull))
        else refused_or_begun s r (refusal s r))
    by true = one_speaks s r.tag (response r.lun r.tag r.expected 0 TaskSetFull) is h
    by false = same_speak s (refused_or_begun s r (refusal s r)) (opened_adds r (refusal s r)).shorts_same h

-- A TASK MANAGEMENT REQUEST, whether it is carried out or not

found_byte : (b : Bool) → IsByte (service_found b)
found_byte true = omega arith
found_byte false = omega arith

service_byte : (s : State) (lun function meant : ℕ) → IsByte (service s lun function meant)
service_byte s lun function meant = byte_if (is_none (lun_of (numbers_of s) lun)) _ _ (omega arith)
    (byte_if (aborts function) _ _ (omega arith)
    (byte_if (function == 0x80) _ _ (found_byte (list_any (is_named lun meant) s.tasks))
    (byte_if (function == 0x81) _ _ (found_byte (list_any (λ (task : Task). task.lun == lun) s.tasks)) (omega arith))))

-- A QUERY REQUEST

query_speaks : (s : State) (tag : ℕ) (q : Query) → IsTied s → IsAskedWell tag q → ShortsSpeak s →
    EachSpeaks (query_heard s tag q)
query_speaks s tag q v is h = by ((code_of_query s q == 0x00) && not (q.asked.opcode == 0)) refl
  where
    units : FewUnits (numbers_of s)
    units =
        let r = ranges (numbers_of s) (config_tests (numbers_of s) v.config).0 in
        let few = r.units_bound in
        (omega arith, r.each_unit)

    passed : (o : Option Command) → setting_of q ≡ o → (code_of_query s q == 0x00) ≡ true →
        (q.asked.opcode == 0) ≡ false → EachSpeaks (query_passed s tag q o)
    passed None e code some =
        let volatile = volatile_after (numbers_of s) (mended s) s.volatile q in
        one_speaks s tag (query_done (numbers_of s) (plain_now s) volatile tag q)
        (done_is (numbers_of s) (plain_now s) volatile tag q is units (plain_tied v).boot_bound
        (asked_fits (numbers_of s) (mended s) s.volatile q is.value h.volatile)) h.shorts
    passed (Some c) e code some =
        let told = setting_is s q c code some e in
        let plain = kept_plain (plain_now s) c (plain_tied v) told.is told.can in
        All-append ShortSpeaks s.shorts (setting_short s tag q c ∷ []) h.shorts
        (All-cons ShortSpeaks (setting_short s tag q c) [] (record {
          reply =
              done_is (numbers_of s) (apply (plain_now s) c) s.volatile tag q is units plain.boot_bound h.volatile;
          locked_reply = failed_is tag q 0xFF is (omega arith);
        }) (All-nil ShortSpeaks))

    by : (b : Bool) → ((code_of_query s q == 0x00) && not (q.asked.opcode == 0)) ≡ b →
        EachSpeaks (if b then query_passed s tag q (setting_of q)
        else with_short s (short_reply tag (query_failed tag q (code_of_query s q))))
    by true e =
        let both = and_parts (code_of_query s q == 0x00) (not (q.asked.opcode == 0)) e in
        passed (setting_of q) refl both.0 (true_not (q.asked.opcode == 0) both.1)
      where
        true_not : (b : Bool) → not b ≡ true → b ≡ false
        true_not true k = absurd (false≢true k)
        true_not false k = refl
    by false e = one_speaks s tag (query_failed tag q (code_of_query s q))
        (failed_is tag q (code_of_query s q) is (code_is s q)) h.shorts

-- Messages

heard_speaks : (s : State) (m : Message) (c : Option Cdb) → IsTied s → IsMessage m → ShortsSpeak s →
    EachSpeaks (heard s m c)
heard_speaks s (message.NopOut tag) c v is h = one_speaks s tag (message.NopIn tag) is h.shorts
heard_speaks s (message.Command flags lun tag expected bytes) c v is h =
    command_speaks s (record { flags = flags; lun = lun; tag = tag; expected = expected; bytes = bytes; cdb = c })
    (response_fits lun tag expected 0 TaskSetFull is.1 is.2 is.3 (omega arith) tt) h.shorts
heard_speaks s (message.DataOut lun tag offset «data») c v is h =
    same_speak s (heard s (message.DataOut lun tag offset «data») c)
    (data_leaves (task_of tag s.tasks) «data».items refl).shorts h.shorts
heard_speaks s (message.TaskRequest lun tag function meant) c v is h =
    one_speaks (managed s lun function meant) (number_of true tag)
    (message.TaskResponse lun tag (service s lun function meant))
    (is.0, is.1, service_byte s lun function meant)
    (same_speak s (managed s lun function meant) (managed_shorts s lun function meant) h.shorts)
heard_speaks s (message.QueryRequest tag function asked size value «data») c v is h =
    let fields = is.2 in
    query_speaks s tag (record { function = function; asked = asked; length = size; value = value }) v (record {
      tag_is = is.0;
      function_is = is.1;
      opcode = fields.0;
      idn = fields.1;
      index = fields.2;
      selector = fields.3;
      value = fields.5;
    }) h
heard_speaks s (message.LinkEvent kind) c v is h = All-nil ShortSpeaks
heard_speaks s other c v is h = h.shorts

hears_speaks : (s : State) (x : Heard) → IsTied s → ((bytes : List ℕ) × IsHeard bytes x) → ShortsSpeak s →
    EachSpeaks (hears s x)
hears_speaks s (Spelled m c) v is h = heard_speaks s m c v is.1.0.0 h
hears_speaks s (Faulty fault) v is h = h.shorts
hears_speaks s NoEvent v is h = h.shorts

-- Replies

short_speaks : (s : State) (x : Option Short) → EachSpeaks s → EachSpeaks (short_replied s x)
short_speaks s None h = h
short_speaks s (Some short) h = All-filter _ ShortSpeaks s.shorts h

replied_speaks : (s : State) (tag : ℕ) (x : Option Task) → EachSpeaks s → EachSpeaks (replied_by s tag x)
replied_speaks s tag (Some task) h = same_speak s (replied_by s tag (Some task)) (replied_leaves task).shorts h
replied_speaks s tag None h = short_speaks s (find (is_short_of tag) s.shorts) h

-- Every call

behind_speaks : (s : State) (call : Call) (answer : Answer) → IsTied s → IsSpoken call → ShortsSpeak s →
    EachSpeaks (behind s call answer)
behind_speaks s (Host x) (OfHost (Ok done)) v is h = hears_speaks s x v is h
behind_speaks s (Take die) (OfTake flight) v is h = same_speak s (behind s (Take die) (OfTake flight))
    (given_shorts s die flight) h.shorts
behind_speaks s (Done die ending left) (OfDone true) v is h = same_speak s (behind s (Done die ending left) (OfDone
    true))
    (ends_shorts s die (s.translation.disk.flights die) ending left) h.shorts
behind_speaks s Turn (OfTurn due) v is h = h.shorts
behind_speaks s Reply (OfReply (Some m)) v is h = replied_speaks s (tag_in m) (task_of (tag_in m) s.tasks) h.shorts
behind_speaks s call answer v is h = h.shorts

locked_speaks : (s : State) {short : Short} → ShortSpeaks short → ShortSpeaks (short_locked s short)
locked_speaks s {short} h = by (is_durable s short.awaits)
  where
    by : (b : Bool) → ShortSpeaks (if b then short else record short { awaits = None; reply = short.locked_reply })
    by true = h
    by false = record { reply = h.locked_reply; locked_reply = h.locked_reply }

lock_speaks : (s : State) → EachSpeaks s → EachSpeaks (lock_applied s)
lock_speaks s h = by (locked s)
  where
    by : (b : Bool) → EachSpeaks
        (if b then record s { tasks = map (task_locked s) s.tasks; shorts = map (short_locked s) s.shorts } else s)
    by true = All-map ShortSpeaks (short_locked s) s.shorts (λ k d inside. locked_speaks s (h k d inside))
    by false = h

pub call_speaks : (s : State) (call : Call) (answer : Answer) → IsTied s → IsSpoken call → Allowed s call answer →
    ShortsSpeak s → ShortsSpeak (observe s call answer)
call_speaks s call answer v is may h = record {
  shorts = lock_speaks (fills (behind s call answer)) (behind_speaks s call answer v is h);
  volatile = call_fits s call answer is h.volatile;
}

pub shorts_life : (s : State) (es : List Event) (os : List Output) (t : State) → ValidState s → ShortsSpeak s →
    Life s es os t → ShortsSpeak t
shorts_life s [] [] t v h life = subst ShortsSpeak (sym life) h
shorts_life s (e ∷ es) (o ∷ os) t v h life =
    let l = life.1 in
    shorts_life life.0 es os t (one_event s life.0 e o v l)
    (subst ShortsSpeak (sym l.next) (call_speaks s l.call l.answer v.tied (spoken s e l.call l.is_call) l.right h))
    life.2
shorts_life s es os t v h life = absurd life

pub shorts_open : (n : Numbers) (array : Array) (bad : Spot → Bool) (s : State) → IsOpened n array bad s → ShortsSpeak s
shorts_open n array bad s h = record {
  shorts = subst (All ShortSpeaks) (sym h.no_shorts) (All-nil ShortSpeaks);
  volatile = subst VolatileFits (sym h.fresh) (record { level = omega arith; clock = omega arith });
}

-- What is due

pub short_message : (s : State) (k : ℕ) (short : Short) → ShortsSpeak s → slice_get s.shorts k ≡ Some short →
    IsMessage short.reply
short_message s k short h there =
    let inside = slice_get_within s.shorts k short there in
    (subst ShortSpeaks (get_or_from_slice_get s.shorts k short short there) (h.shorts k short inside)).reply

pub due_message : (s : State) (m : Message) → TasksSpeak s → ShortsSpeak s → Due s m → IsMessage m
due_message s m tasks shorts (inl due) = reply_speaks s due.1 m (every_at TaskSpeaks s.tasks due.0 due.1 tasks.tasks
    due.2)
    due.3
due_message s m tasks shorts (inr due) = subst IsMessage (sym due.4) (short_message s due.0 due.1 shorts due.2)

pub due_spelled : (s : State) (m : Message) → TasksSpeak s → ShortsSpeak s → Due s m →
    IsMessage m × (length (spelling m) ≤ 4128)
due_spelled s m tasks shorts due = let is = due_message s m tasks shorts due in (is, size m is)
