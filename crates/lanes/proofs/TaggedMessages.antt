-- Which tag a message has by its bytes, and what the short exchanges and the tasks of a tag are along a step.
use Rattle.lanes.proofs.Common.{Done, List, Message, None, OfReply, Ok, Option, Reply, Some, State, Turn, [], ap, arith}
use Rattle.lanes.proofs.Common.{false, length, map, refl, spelling, true, ℕ, ◌++◌, ◌∙◌, ◌∷◌, ◌≡◌, ◌≢◌}
use Rattle.std.proofs.Common.{find, nat_le, not, ◌&&◌, ◌==◌}
use Rattle.std.specs.Prelude.{slice_index}
use Rattle.std.specs.List.{list_any}
use Rattle.std.proofs.lemmas.Bool.{ne_eqb}
use Rattle.ufs_spec.proofs.Facts.{if_both}
use Rattle.ufs_spec.specs.Commands.{Command}
use Rattle.ufs_spec.specs.Exchanges.{Short, Task, is_short_of, most_tasks, response, short_reply, task_of}
use Rattle.ufs_spec.specs.declared.exchanges.Status.TheVariants.{TaskSetFull}
use Rattle.ufs_spec.specs.Machine.{Allowed, Answer, Call, Faulty, Host, OfDone, OfHost, OfTake, OfTurn, Spelled, Take}
use Rattle.ufs_spec.specs.Machine.{behind, command_taken, fills, heard, lock_applied, observe, refused_or_begun}
use Rattle.ufs_spec.specs.Machine.{replied_by, service, short_locked, short_replied, tag_in, task_filled, task_locked}
use Rattle.ufs_spec.specs.Machine.{NoEvent, with_short}
use Rattle.ufs_spec.specs.Queries.{Query, setting_of}
use Rattle.ufs_spec.specs.QueryAnswers.{query_heard, query_passed}
use Rattle.ufs_spec.specs.Refusals.{Request, locked, refusal}
use Rattle.ufs_spec.specs.declared.messages.Message.TheVariants as message
use Rattle.ufs_spec.specs.declared.scsi.Cdb.{Cdb}
use Rattle.ufs_laws.specs.Exchange.{HasOtherTag, IsAskedIn, IsSpoken, NoTask}
use Rattle.ufs_laws.proofs.exchanges.AbortedTasks.{stays_gone}
use Rattle.ufs_laws.proofs.exchanges.DeedLaws.{filled_keeps}
use Rattle.ufs_laws.proofs.walk.Happenings.{code_of_query}
use Rattle.ufs_laws.proofs.walk.SmallChanges.{lock_short}
use Rattle.ufs_laws.proofs.walk.TaskLaws.{every_mapped}
use Rattle.power_loss.proofs.kept_promises.ShortExchangesEnd.{ends_shorts, given_shorts, managed_shorts}
use Rattle.power_loss.proofs.open_tasks.OpenExchanges.{data_leaves, opened_adds, replied_leaves}
use Rattle.power_loss.proofs.open_tasks.TaggedLists.{any_fewer, any_map, any_push}
use Rattle.lanes.specs.Aborted.{number_read}

-- ## Bytes

-- the number of a message is read off its bytes
pub tag_at : (m : Message) → number_read (spelling m) ≡ tag_in m
tag_at (message.NopOut tag) = refl
tag_at (message.Command flags lun tag expected bytes) = refl
tag_at (message.DataOut lun tag offset «data») = refl
tag_at (message.TaskRequest lun tag function meant) = refl
tag_at (message.QueryRequest tag function asked size value «data») = refl
tag_at (message.LinkEvent kind) = refl
tag_at (message.NopIn tag) = refl
tag_at (message.Response flags lun tag response status residual sense) = refl
tag_at (message.DataIn lun tag offset «data») = refl
tag_at (message.TaskResponse lun tag service) = refl
tag_at (message.ReadyToTransfer lun tag offset count) = refl
tag_at (message.QueryResponse tag function response asked size value «data») = refl

abbrev pub byte : ℕ → List ℕ → ℕ
byte place bytes = slice_index bytes place

-- what spells a request of task management spells nothing else
module _ (lun own function meant : ℕ) where
  abbrev pub request : Message
  request = message.TaskRequest lun own function meant

  pub one_request : (m : Message) → spelling m ≡ spelling request → m ≡ request
  one_request (message.TaskRequest l o f t) e =
      let at_lun : l ≡ lun = ap (byte 2) e in
      let at_own : o ≡ own = ap (byte 3) e in
      let at_function : f ≡ function = ap (byte 5) e in
      let at_meant : t ≡ meant = ap (byte 19) e in
      λ i. message.TaskRequest (at_lun i) (at_own i) (at_function i) (at_meant i)
  one_request (message.NopOut tag) e = let code : 0x00 ≡ 0x04 = ap (byte 0) e in absurd (omega (code, arith))
  one_request (message.Command flags l tag expected bytes) e =
      let code : 0x01 ≡ 0x04 = ap (byte 0) e in absurd (omega (code, arith))
  one_request (message.DataOut l tag offset «data») e =
      let code : 0x02 ≡ 0x04 = ap (byte 0) e in absurd (omega (code, arith))
  one_request (message.QueryRequest tag f asked size value «data») e =
      let code : 0x16 ≡ 0x04 = ap (byte 0) e in absurd (omega (code, arith))
  one_request (message.LinkEvent kind) e = let code : 0x1F ≡ 0x04 = ap (byte 0) e in absurd (omega (code, arith))
  one_request (message.NopIn tag) e = let code : 0x20 ≡ 0x04 = ap (byte 0) e in absurd (omega (code, arith))
  one_request (message.Response flags l tag response status residual sense) e =
      let code : 0x21 ≡ 0x04 = ap (byte 0) e in absurd (omega (code, arith))
  one_request (message.DataIn l tag offset «data») e =
      let code : 0x22 ≡ 0x04 = ap (byte 0) e in absurd (omega (code, arith))
  one_request (message.TaskResponse l tag service) e =
      let code : 0x24 ≡ 0x04 = ap (byte 0) e in absurd (omega (code, arith))
  one_request (message.ReadyToTransfer l tag offset count) e =
      let code : 0x31 ≡ 0x04 = ap (byte 0) e in absurd (omega (code, arith))
  one_request (message.QueryResponse tag f response asked size value «data») e =
      let code : 0x36 ≡ 0x04 = ap (byte 0) e in absurd (omega (code, arith))

-- ## Short exchanges

module _ (tag : ℕ) where
  abbrev NoShort : List Short → Type 0
  NoShort shorts = list_any (is_short_of tag) shorts ≡ false

  same_shorts : {xs ys : List Short} → ys ≡ xs → NoShort xs → NoShort ys
  same_shorts e h = ap (list_any (is_short_of tag)) e ∙ h

  pub one_short : {xs ys : List Short} (x : Short) → ys ≡ xs → x.tag ≢ tag → NoShort xs → NoShort (ys ++ x ∷ [])
  one_short {ys = ys} x e other h = any_push (is_short_of tag) ys x (same_shorts e h) (ne_eqb x.tag tag other)

  command_opens : (s : State) (r : Request) → r.tag ≢ tag → NoShort s.shorts → NoShort (command_taken s r).shorts
  command_opens s r other h =
      if_both (λ (t : State). NoShort t.shorts) (nat_le most_tasks (length s.tasks))
      {x = with_short s (short_reply r.tag (response r.lun r.tag r.expected 0 TaskSetFull))}
      {y = refused_or_begun s r (refusal s r)}
      (one_short _ refl other h) (same_shorts (opened_adds r (refusal s r)).shorts_same h)

  query_opens : (s : State) (own : ℕ) (q : Query) → own ≢ tag → NoShort s.shorts →
      NoShort (query_heard s own q).shorts
  query_opens s own q other h =
      if_both (λ (t : State). NoShort t.shorts) ((code_of_query s q == 0x00) && not (q.asked.opcode == 0))
      (passed (setting_of q)) (one_short _ refl other h)
    where
      passed : (o : Option Command) → NoShort (query_passed s own q o).shorts
      passed None = one_short _ refl other h
      passed (Some c) = one_short _ refl other h

  heard_opens : (s : State) (m : Message) (c : Option Cdb) → tag_in m ≢ tag → NoShort s.shorts →
      NoShort (heard s m c).shorts
  heard_opens s (message.NopOut own) c other h = one_short _ refl other h
  heard_opens s (message.Command flags lun own expected bytes) c other h =
      command_opens s
      (record { flags = flags; lun = lun; tag = own; expected = expected; bytes = bytes; cdb = c }) other h
  heard_opens s (message.DataOut lun own offset «data») c other h =
      same_shorts (data_leaves {s = s} {tag = own} (task_of own s.tasks) «data».items refl).shorts h
  heard_opens s (message.TaskRequest lun own function meant) c other h =
      one_short _ (managed_shorts s lun function meant) other h
  heard_opens s (message.QueryRequest own function asked size value «data») c other h =
      query_opens s own (record { function = function; asked = asked; length = size; value = value }) other h
  heard_opens s (message.LinkEvent kind) c other h = refl
  heard_opens s m c other h = h

  replied_opens : (s : State) (own : ℕ) (o : Option Task) → NoShort s.shorts → NoShort (replied_by s own o).shorts
  replied_opens s own (Some task) h = same_shorts (replied_leaves {s = s} task).shorts h
  replied_opens s own None h = by (find (is_short_of own) s.shorts)
    where
      by : (o : Option Short) → NoShort (short_replied s o).shorts
      by None = h
      by (Some x) = any_fewer (is_short_of tag) (λ y. not (is_short_of x.tag y)) s.shorts h

  -- the call takes no message with the tag
  abbrev pub TakesOther : Call → Answer → Type 0
  TakesOther (Host (Spelled m c)) (OfHost (Ok done)) = tag_in m ≢ tag
  TakesOther call answer = Unit {0}

  pub behind_opens : (s : State) (call : Call) (answer : Answer) → TakesOther call answer → NoShort s.shorts →
      NoShort (behind s call answer).shorts
  behind_opens s (Host (Spelled m c)) (OfHost (Ok done)) other h = heard_opens s m c other h
  behind_opens s (Host (Faulty f)) (OfHost (Ok done)) other h = h
  behind_opens s (Host NoEvent) (OfHost (Ok done)) other h = h
  behind_opens s (Take die) (OfTake flight) other h = same_shorts (given_shorts s die flight) h
  behind_opens s (Done die ending left) (OfDone true) other h =
      same_shorts (ends_shorts s die (s.translation.disk.flights die) ending left) h
  behind_opens s Turn (OfTurn due) other h = h
  behind_opens s Reply (OfReply (Some m)) other h =
      replied_opens s (tag_in m) (task_of (tag_in m) s.tasks) h
  behind_opens s call answer other h = h

  pub settled_shorts : (u : State) → NoShort u.shorts → NoShort (lock_applied (fills u)).shorts
  settled_shorts u h =
      let f = fills u in
      if_both (λ (t : State). NoShort t.shorts) (locked f)
      {x = record f { tasks = map (task_locked f) f.tasks; shorts = map (short_locked f) f.shorts }} {y = f}
      (any_map (is_short_of tag) (is_short_of tag) (short_locked f) (λ x. ap (λ (n : ℕ). n == tag) (lock_short f x))
      f.shorts ∙ h) h

  -- ## Tasks

  pub settled_tasks : (u : State) → NoTask tag u → NoTask tag (lock_applied (fills u))
  settled_tasks u h =
      let f = fills u in
      let here =
      every_mapped (HasOtherTag tag) (task_filled u) (λ task k. filled_keeps (HasOtherTag tag) u task k k) u.tasks h in
      if_both (NoTask tag) (locked f)
      {x = record f { tasks = map (task_locked f) f.tasks; shorts = map (short_locked f) f.shorts }} {y = f}
      (every_mapped (HasOtherTag tag) (task_locked f) (λ task k. k) f.tasks here) here

  asked_other : (m : Message) (c : Option Cdb) → tag_in m ≢ tag → IsAskedIn (λ r. r.tag ≢ tag) m c
  asked_other (message.Command flags lun own expected bytes) c other = other
  asked_other m c other = tt

  pub tasks_left : (s : State) (call : Call) (answer : Answer) → IsSpoken call → Allowed s call answer →
      TakesOther call answer → NoTask tag s → NoTask tag (observe s call answer)
  tasks_left s (Host (Spelled m c)) (OfHost (Ok done)) is may other h =
      stays_gone s (Host (Spelled m c)) (OfHost (Ok done)) tag is (asked_other m c other) may h
  tasks_left s (Host (Faulty f)) (OfHost (Ok done)) is may other h = settled_tasks s h
  tasks_left s (Host NoEvent) (OfHost (Ok done)) is may other h = settled_tasks s h
  tasks_left s (Host heard) answer is may other h = settled_tasks s h
  tasks_left s (Take die) answer is may other h = stays_gone s (Take die) answer tag is tt may h
  tasks_left s (Done die ending left) answer is may other h = stays_gone s (Done die ending left) answer tag is tt may h
  tasks_left s Turn answer is may other h = stays_gone s Turn answer tag is tt may h
  tasks_left s Reply answer is may other h = stays_gone s Reply answer tag is tt may h
