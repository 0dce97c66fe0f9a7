-- Each event of a life leaves the device and the journal that hears it in agreement.
use Rattle.heard_laws.proofs.Common.{Answer, Array, ArrayVec, Awaiting, CanApplyAll, Cdb, Done, Flight, IsFree, IsTied}
use Rattle.heard_laws.proofs.Common.{List, Message, None, OfDone, OfReply, OfTake, OfTurn, Option, Request, Some, State}
use Rattle.heard_laws.proofs.Common.{Take, Task, Turn, ap, behind, eqb-true, false, find, inl, inr, is_short}
use Rattle.heard_laws.proofs.Common.{is_short_of, is_task_of, length, none-some, refl, short_replied, short_reply}
use Rattle.heard_laws.proofs.Common.{spelling, subst, sym, tag_in, task_of, true, with_short, ℕ, ◌∙◌, ◌≡◌, ◌≤◌}
use Rattle.std.specs.Prelude.{[]}
use Rattle.ufs_spec.specs.Exchanges.{Short, is_asked_in, is_asked_of, number_of}
use Rattle.ufs_spec.specs.Machine.{Due, IsCdbIn, IsHeard, OfHost, Spelled, asked_fault, cdb_of, data_heard, ends_with}
use Rattle.ufs_spec.specs.Machine.{heard, link_reset, message_fault, opens_short, replied, replied_by, service}
use Rattle.ufs_spec.specs.Messages.{IsMessage}
use Rattle.ufs_spec.specs.Moves.{Ending}
use Rattle.ufs_spec.specs.declared.faults.HostFault.TheVariants.{Code, NotAskedFor}
use Rattle.ufs_spec.specs.declared.messages.Message.TheVariants as message
use Rattle.ufs_laws.proofs.exchanges.AbortedTasks.{reply_tag}
use Rattle.ufs_laws.proofs.walk.Happenings.{ends_by, is_asked, job_over, may_open}
use Rattle.power_loss.proofs.host_commands.OpenedByCommands.{is_free}
use Rattle.power_loss.proofs.open_tasks.TaskLists.{found_short, found_task, no_task_found, short_fits_at}
use Rattle.journal.specs.Heard as journal
use Rattle.heard_laws.proofs.agreement.Agreement.{AgreeIn}
use Rattle.heard_laws.proofs.agreement.PairsOpened.{none_at, short_opens}
use Rattle.heard_laws.proofs.host_data.DataAgree.{data_agrees}
use Rattle.heard_laws.proofs.lives.SettledAgree.{block_read}
use Rattle.heard_laws.proofs.messages.CommandsAgree.{command_agrees}
use Rattle.heard_laws.proofs.messages.HeardMessages.{heard_command, heard_data, heard_query, not_short}
use Rattle.heard_laws.proofs.messages.ManagedAgree.{managed_agrees}
use Rattle.heard_laws.proofs.messages.QueriesAgree.{query_agrees}
use Rattle.power_loss.proofs.open_tasks.FoundInLists.{found_is}
use Rattle.heard_laws.proofs.replies.RepliesAgree.{reply_agrees}
use Rattle.heard_laws.proofs.replies.ShortRepliesAgree.{short_agrees}

-- ## Messages

module _ (s : State) (most : ℕ) (j : journal.Heard) (v : IsTied s) (a : AgreeIn s most s j) where
  -- an exchange that is answered at once, and of which the journal hears nothing
  nop_agrees : (tag : ℕ) (reply : Message) → IsFree s tag →
      AgreeIn s most (with_short s (short_reply tag reply)) j
  nop_agrees tag reply free = record {
    numbers = a.numbers;
    lock = a.lock;
    roll = a.roll;
    books = a.books;
    pairs = short_opens (short_reply tag reply) (none_at free) a.pairs;
    regions = a.regions;
    unmended = a.unmended;
  }

  -- a LINK EVENT ends all that is open on both sides
  event_agrees : (kind : ℕ) → AgreeIn s most (link_reset s kind) (record j { tasks = [] })
  event_agrees kind = record {
    numbers = a.numbers;
    lock = a.lock;
    roll = a.roll;
    books = a.books;
    pairs = record { differ = tt; at = λ tag. refl };
    regions = a.regions;
    unmended = a.unmended;
  }

  data_comes : (lun tag offset : ℕ) («data» : ArrayVec ℕ) (x : Option Task) → task_of tag s.tasks ≡ x →
      is_short (spelling (message.DataOut lun tag offset «data»)) ≡ false →
      asked_fault (is_asked_of x lun offset (length «data».items)) ≡ None →
      CanApplyAll s.base (data_heard s x «data».items).accepted →
      AgreeIn s most (data_heard s x «data».items)
      (journal.heard j (spelling (message.DataOut lun tag offset «data»)))
  data_comes lun tag offset «data» None e long fault can = absurd (none-some NotAskedFor (sym fault))
  data_comes lun tag offset «data» (Some task) e long fault can =
      let own : task.tag ≡ tag = eqb-true task.tag tag (found_is (is_task_of tag) s.tasks task e) in
      subst (AgreeIn s most (data_heard s (Some task) «data».items)) (sym (heard_data j lun tag offset «data» long))
      (subst (λ (k : ℕ). AgreeIn s most (data_heard s (Some task) «data».items)
      (journal.received j k (spelling (message.DataOut lun k offset «data»)))) own
      (data_agrees s most j task lun offset «data» v a (ap (λ (k : ℕ). task_of k s.tasks) own ∙ e)
      (is_asked (is_asked_in task lun offset (length «data».items) task.deed) fault) can))

  -- a message that is taken
  pub message_agrees : (m : Message) (c : Option Cdb) (bytes : List ℕ) → IsHeard bytes (Spelled m c) →
      message_fault s m ≡ None → CanApplyAll s.base (heard s m c).accepted →
      AgreeIn s most (heard s m c) (journal.heard j bytes)
  message_agrees m c bytes is fault can =
      subst (λ (xs : List ℕ). AgreeIn s most (heard s m c) (journal.heard j xs)) (sym is.0.1)
      (by m is.0.0 is.2 (ap is_short (sym is.0.1) ∙ not_short bytes is.1) fault can)
    where
      by : (m : Message) → IsMessage m →
          IsCdbIn (cdb_of m) c →
          is_short (spelling m) ≡ false → message_fault s m ≡ None → CanApplyAll s.base (heard s m c).accepted →
          AgreeIn s most (heard s m c) (journal.heard j (spelling m))
      by (message.NopOut tag) fits spells long fault can =
          nop_agrees tag (message.NopIn tag) (is_free s false tag true fault)
      by (message.Command flags lun tag expected taken) fits spells long fault can =
          let r : Request = record { flags = flags; lun = lun; tag = tag; expected = expected; bytes = taken; cdb = c }
          in
          subst (AgreeIn s most (heard s (message.Command flags lun tag expected taken) c))
          (sym (heard_command j flags lun tag expected taken fits.3 fits.4 long
          ∙ ap (λ (o : Option Cdb). journal.begun j (record { lun = lun; tag = tag }) (journal.brought_by expected o))
          (sym spells)))
          (command_agrees s most j r a (is_free s false tag (opens_short s (message.Command flags lun tag expected taken))
          (may_open s flags _ fault))
          v spells)
      by (message.DataOut lun tag offset «data») fits spells long fault can =
          data_comes lun tag offset «data» (task_of tag s.tasks) refl long fault can
      by (message.TaskRequest lun tag function meant) fits spells long fault can =
          managed_agrees s most j (number_of true tag) lun function meant
          (message.TaskResponse lun tag (service s lun function meant)) v a (is_free s true tag true fault)
      by (message.QueryRequest tag function asked size value «data») fits spells long fault can =
          subst (AgreeIn s most (heard s (message.QueryRequest tag function asked size value «data») c))
          (sym (heard_query j tag function asked size value «data» fits long))
          (query_agrees s most j tag (record { function = function; asked = asked; length = size; value = value }) a
          (is_free s false tag true fault))
      by (message.LinkEvent kind) fits spells long fault can = event_agrees kind
      by (message.NopIn tag) fits spells long fault can = absurd (none-some Code (sym fault))
      by (message.Response flags lun tag response status residual sense) fits spells long fault can =
          absurd (none-some Code (sym fault))
      by (message.DataIn lun tag offset «data») fits spells long fault can = absurd (none-some Code (sym fault))
      by (message.TaskResponse lun tag answer) fits spells long fault can = absurd (none-some Code (sym fault))
      by (message.ReadyToTransfer lun tag offset n) fits spells long fault can = absurd (none-some Code (sym fault))
      by (message.QueryResponse tag function response asked size value «data») fits spells long fault can =
          absurd (none-some Code (sym fault))

  -- ## Replies

  -- a reply that is due, where so many commands are held behind it
  pub reply_is_told : (m : Message) → Due s m →
      ((task : Task) (n : ℕ) → task_of (tag_in m) s.tasks ≡ Some task → task.deed ≡ Awaiting n → n ≤ most) →
      ((short : Short) (n : ℕ) → task_of (tag_in m) s.tasks ≡ None →
      find (is_short_of (tag_in m)) s.shorts ≡ Some short → short.awaits ≡ Some n → n ≤ most) →
      AgreeIn s most (replied s m) (journal.told j (spelling m))
  reply_is_told m (inl (k, task, at, reply)) by_task by_short =
      let found = found_task s.tasks k task v.tasks.tasks_differ at in
      let here : task_of (tag_in m) s.tasks ≡ Some task =
      ap (λ (x : ℕ). task_of x s.tasks) (reply_tag s task task.deed m reply) ∙ found in
      subst (λ (x : Option Task). AgreeIn s most (replied_by s (tag_in m) x) (journal.told j (spelling m))) (sym here)
      (reply_agrees s most j task v a found m reply (λ n e. by_task task n here e))
  reply_is_told m (inr (k, short, at, due, same)) by_task by_short =
      let fits = short_fits_at s.shorts k short v.tasks.waits at in
      let tag : tag_in m ≡ short.tag = ap tag_in same ∙ fits.reply in
      let none = no_task_found s.shorts s.tasks k short v.tasks.apart at in
      let found = found_short s.shorts k short v.tasks.shorts_differ at in
      let none_there : task_of (tag_in m) s.tasks ≡ None = ap (λ (x : ℕ). task_of x s.tasks) tag ∙ none in
      let there : find (is_short_of (tag_in m)) s.shorts ≡ Some short =
      ap (λ (x : ℕ). find (is_short_of x) s.shorts) tag ∙ found in
      subst (λ (x : Option Task). AgreeIn s most (replied_by s (tag_in m) x) (journal.told j (spelling m)))
      (sym none_there)
      (subst (λ (x : Option Short). AgreeIn s most (short_replied s x) (journal.told j (spelling m))) (sym there)
      (short_agrees s most j short a none found m same tag (λ n e. by_short short n none_there there e)))

  -- ## Other calls

  job_agrees : (die : ℕ) (flight : Option Flight) (ending : Ending) (left : Array) →
      AgreeIn s most (ends_with s die flight ending left) j
  job_agrees die flight ending left =
      ends_by (λ u. AgreeIn s most u j) s die flight ending left
      (λ tag index state. block_read s (job_over s die flight ending left) most j tag index state (over flight))
      (over flight)
    where
      over : (o : Option Flight) → AgreeIn s most (job_over s die o ending left) j
      over None = a
      over (Some x) = a

  pub take_agrees : (die : ℕ) (answer : Answer) → AgreeIn s most (behind s (Take die) answer) j
  take_agrees die (OfTake None) = a
  take_agrees die (OfTake (Some flight)) = a
  take_agrees die (OfHost result) = a
  take_agrees die (OfDone known) = a
  take_agrees die (OfTurn due) = a
  take_agrees die (OfReply reply) = a

  pub done_agrees : (die : ℕ) (ending : Ending) (left : Array) (answer : Answer) →
      AgreeIn s most (behind s (Done die ending left) answer) j
  done_agrees die ending left (OfDone true) = job_agrees die (s.translation.disk.flights die) ending left
  done_agrees die ending left (OfDone false) = a
  done_agrees die ending left (OfHost result) = a
  done_agrees die ending left (OfTake flight) = a
  done_agrees die ending left (OfTurn due) = a
  done_agrees die ending left (OfReply reply) = a

  pub turn_agrees : (answer : Answer) → AgreeIn s most (behind s Turn answer) j
  turn_agrees (OfTurn due) = a
  turn_agrees (OfHost result) = a
  turn_agrees (OfTake flight) = a
  turn_agrees (OfDone known) = a
  turn_agrees (OfReply reply) = a
