-- Behind an abort no reply has the tag of the task, up to the next message with this tag that is taken.
use Rattle.lanes.proofs.Common.{Bool, DieState, Done, Entry, Event, Follows, IsLegal, IsOpening, IsStart, Legal, List}
use Rattle.lanes.proofs.Common.{Made, Message, None, OfReply, Ok, Opening, Option, Output, Reply, Some, State, Turn, []}
use Rattle.lanes.proofs.Common.{ap, cond, false, inl, inr, refl, spelling, subst, sym, true, ℕ, ◌++◌, ◌∙◌, ◌∷◌, ◌≡◌}
use Rattle.lanes.proofs.Common.{◌≢◌}
use Rattle.std.proofs.Common.{filter, not, ◌==◌}
use Rattle.std.specs.Prelude.{All, Err, Result}
use Rattle.std.specs.List.{AllByRecursion, list_any}
use Rattle.std.proofs.lemmas.List.Elements.{recursion_from_All}
use Rattle.ufs_spec.proofs.Facts.{eqb-self, eqb-true, if_both, none-some, or_parts, same_Some, true≢false}
use Rattle.ufs_spec.proofs.Lists.{any_none}
use Rattle.ufs_spec.specs.Exchanges.{Short, Task, is_short_of, is_task_of, number_of, task_of}
use Rattle.ufs_spec.specs.Lives.{IsCall, IsShown}
use Rattle.ufs_spec.specs.Machine.{Allowed, Answer, Call, Due, Faulty, Heard, Host, IsHeard, MayHear, OfHost, Spelled}
use Rattle.ufs_spec.specs.Management.{volatile_managed}
use Rattle.ufs_spec.specs.Machine.{Take, behind, carried_out, heard, is_aborted, managed, message_fault, observe}
use Rattle.ufs_spec.specs.Machine.{NoEvent, no_event_fault, result_of, service, tag_in}
use Rattle.ufs_spec.specs.Refusals.{numbers_of}
use Rattle.ufs_spec.specs.declared.events.Event.TheVariants as event
use Rattle.ufs_spec.specs.declared.events.Output.TheVariants as output
use Rattle.ufs_spec.specs.declared.faults.HostFault.{HostFault}
use Rattle.ufs_spec.specs.declared.scsi.Cdb.{Cdb}
use Rattle.ufs_laws.specs.Exchange.{Every, HasOtherTag, IsSpoken, NoTask}
use Rattle.ufs_laws.proofs.exchanges.AbortedTasks.{no_reply, task_reply_tag}
use Rattle.ufs_laws.proofs.exchanges.SpokenCalls.{spoken}
use Rattle.ufs_laws.proofs.walk.Happenings.{not_refused}
use Rattle.ufs_laws.proofs.walk.TaskLaws.{every_filtered}
use Rattle.power_loss.proofs.host_commands.OpenedByCommands.{is_free}
use Rattle.power_loss.proofs.kept_promises.ShortExchangesEnd.{managed_shorts}
use Rattle.power_loss.proofs.lives.EachEventKeeps.{many_events, one_event}
use Rattle.power_loss.proofs.open_tasks.FoundInLists.{found_is, none_found}
use Rattle.power_loss.proofs.open_tasks.TaggedLists.{each_found}
use Rattle.power_loss.proofs.open_tasks.TaskLists.{short_fits_at}
use Rattle.power_loss.specs.Exchange.{TasksDiffer, ValidState}
use Rattle.lanes.specs.declared.view.Made.TheVariants as made
use Rattle.lanes.specs.Aborted.{Aborts, AbortsBehind, IsReplyOf, IsTakenOf, number_read}
use Rattle.lanes.specs.Legal.{IsToldAs}
use Rattle.lanes.proofs.Opened.{begins, fits_first}
use Rattle.lanes.proofs.Promises.{life_of}
use Rattle.lanes.proofs.TaggedMessages.{tag_at, request, one_request, one_short, TakesOther, behind_opens}
use Rattle.lanes.proofs.TaggedMessages.{settled_shorts, settled_tasks, tasks_left}

-- ## A tag that no task and no short exchange has

record IsQuiet (tag : ℕ) (s : State) : Type 0 where
  no_task : NoTask tag s
  no_short : list_any (is_short_of tag) s.shorts ≡ false

module _ (tag : ℕ) where
  observed : (s : State) (call : Call) (answer : Answer) → IsSpoken call → Allowed s call answer →
      TakesOther tag call answer → IsQuiet tag s → IsQuiet tag (observe s call answer)
  observed s call answer is may other q = record {
    no_task = tasks_left tag s call answer is may other q.no_task;
    no_short =
        settled_shorts tag (behind s call answer) (behind_opens tag s call answer other q.no_short);
  }

  heard_as : (m : Message) (c : Option Cdb) (told : List ℕ) (h : Heard) → Host (Spelled m c) ≡ Host h →
      IsHeard told h → IsHeard told (Spelled m c)
  heard_as m c told h e is = let same : h ≡ Spelled m c = cc in subst (IsHeard told) same is

  -- the tag of a message as the step has its bytes
  tag_of_step : (s : State) (m : Message) (c : Option Cdb) (told bytes : List ℕ) → told ≡ bytes →
      IsHeard told (Spelled m c) → number_read bytes ≡ tag_in m
  tag_of_step s m c told bytes e is = ap number_read (sym e ∙ is.0.1) ∙ tag_at m

  takes_other : (s : State) (step : Made) (e : Event) (o : Output) (call : Call) (answer : Answer) →
      IsToldAs step e o → IsCall s e call → IsShown answer o → (IsTakenOf tag step → ⊥) → TakesOther tag call answer
  takes_other s step e o (Host (Spelled m c)) (OfHost (Ok done)) = by step e o
    where
      by : (step : Made) (e : Event) (o : Output) → IsToldAs step e o → IsCall s e (Host (Spelled m c)) →
          IsShown (OfHost (Ok done)) o → (IsTakenOf tag step → ⊥) → tag_in m ≢ tag
      by (made.Host bytes (Ok taken)) (event.Host told) (output.Host answer) at is shown apart =
          let heard : IsHeard told.items (Spelled m c) = heard_as m c told.items is.0 is.2 is.1 in
          λ same. apart (tag_of_step s m c told.items bytes at.0 heard ∙ same)
      by (made.Host bytes (Err fault)) (event.Host told) (output.Host answer) at is shown apart =
          let other : Ok done ≡ Err fault = sym shown ∙ at.1 in absurd (cc)
      by (made.Reply None) event.Reply (output.Host answer) at is shown apart = absurd at
      by (made.Reply (Some bytes)) event.Reply (output.Host answer) at is shown apart = absurd at
      by (made.Take die job) (event.Take other) (output.Host answer) at is shown apart = absurd at
      by (made.Done die o known) (event.Finish other) (output.Host answer) at is shown apart = absurd at
      by (made.Done die o known) (event.Fail other left) (output.Host answer) at is shown apart = absurd at
      by (made.Turn due) event.Turn (output.Host answer) at is shown apart = absurd at
      by step e (output.Host answer) at is shown apart = absurd at
      by step e o at is shown apart = absurd shown
  takes_other s step e o call answer = λ at is shown apart. tt

  step_quiet : (s t : State) (step : Made) → Follows s step t → (IsTakenOf tag step → ⊥) → IsQuiet tag s → IsQuiet tag t
  step_quiet s t step f apart q =
      let l = f.leads in
      subst (IsQuiet tag) (sym l.next)
      (observed s l.call l.answer (spoken s f.event l.call l.is_call) l.right
      (takes_other s step f.event f.output l.call l.answer f.told_as l.is_call l.is_shown apart) q)

  -- ## Replies

  due_other : (s : State) (m : Message) → ValidState s → IsQuiet tag s → Due s m → tag_in m ≢ tag
  due_other s m v q (inl due) same =
      no_reply s tag due.0 due.1 q.no_task due.2 (sym (task_reply_tag s due.1 m due.3) ∙ same)
  due_other s m v q (inr due) same =
      let x : Short = due.1 in
      let fits = short_fits_at s.shorts due.0 x v.tied.tasks.waits due.2 in
      let own : x.tag ≡ tag = sym fits.reply ∙ ap tag_in (sym due.4) ∙ same in
      true≢false
      (sym (ap (λ (n : ℕ). n == tag) own ∙ eqb-self tag) ∙ any_none (is_short_of tag) s.shorts due.0 x q.no_short due.2)

  no_reply_now : (s t : State) (step : Made) → ValidState s → IsQuiet tag s → Follows s step t → IsReplyOf tag step → ⊥
  no_reply_now s t step v q f = by step f.event f.output f.leads.call f.leads.answer f.told_as f.leads.is_call
      f.leads.is_shown f.leads.right
    where
      by : (step : Made) (e : Event) (o : Output) (call : Call) (answer : Answer) → IsToldAs step e o → IsCall s e call →
          IsShown answer o → Allowed s call answer → IsReplyOf tag step → ⊥
      by (made.Reply (Some bytes)) event.Reply (output.Reply (Some told)) call (OfReply (Some m)) at is shown may same =
          due_other s m v q (subst (λ (c : Call). Allowed s c (OfReply (Some m))) is may)
          (sym (ap number_read (sym at ∙ shown) ∙ tag_at m) ∙ same)
      by (made.Reply (Some bytes)) event.Reply (output.Reply (Some told)) call (OfReply None) at is shown may same =
          absurd (none-some told (sym shown))
      by (made.Reply (Some bytes)) event.Reply (output.Reply (Some told)) call answer at is shown may same =
          absurd shown
      by (made.Reply (Some bytes)) event.Reply o call answer at is shown may same = absurd at
      by (made.Reply (Some bytes)) e o call answer at is shown may same = absurd at
      by step e o call answer at is shown may same = absurd same

  -- ## The abort

  has_tag : (task : Task) → task.tag ≡ tag → is_task_of tag task ≡ true
  has_tag task same = ap (λ (n : ℕ). n == tag) same ∙ eqb-self tag

  none_of : (tasks : List Task) → list_any (is_task_of tag) tasks ≡ false → Every (HasOtherTag tag) tasks
  none_of [] h = tt
  none_of (x ∷ xs) h =
      let both = or_parts (is_task_of tag x) (list_any (is_task_of tag) xs) h in (
        (λ same. true≢false (sym (has_tag x same) ∙ both.0)),
        none_of xs both.1,
      )

  dropped : (b : Bool) (x : Task) (xs : List Task) → b ≡ true → Every (HasOtherTag tag) xs →
      Every (HasOtherTag tag) (cond (not b) (x ∷ xs) xs)
  dropped true x xs is h = h
  dropped false x xs is h = absurd (true≢false (sym is))

  -- the one task of the tag is aborted, so none is left
  none_left : (tasks : List Task) (task : Task) (is : Task → Bool) → TasksDiffer tasks →
      task_of tag tasks ≡ Some task → is task ≡ true → Every (HasOtherTag tag) (filter (λ t. not (is t)) tasks)
  none_left [] task is differ found it = tt
  none_left (x ∷ xs) task is differ found it =
      by (is_task_of tag x) refl found (λ k. none_left xs task is differ.1 k it)
    where
      by : (b : Bool) → is_task_of tag x ≡ b → cond b (Some x) (task_of tag xs) ≡ Some task →
          (task_of tag xs ≡ Some task → Every (HasOtherTag tag) (filter (λ t. not (is t)) xs)) →
          Every (HasOtherTag tag) (filter (λ t. not (is t)) (x ∷ xs))
      by true e k rest =
          let same : x ≡ task = same_Some x task k in
          let others : list_any (is_task_of tag) xs ≡ false =
          subst (λ (n : ℕ). list_any (is_task_of n) xs ≡ false) (eqb-true x.tag tag e) differ.0 in
          dropped (is x) x (filter (λ t. not (is t)) xs) (ap is same ∙ it)
          (every_filtered (HasOtherTag tag) (λ t. not (is t)) xs (none_of xs others))
      by false e k rest =
          if_both (Every (HasOtherTag tag)) (not (is x))
          ((λ same. true≢false (sym (has_tag x same) ∙ e)), rest k) (rest k)

  module _ (s : State) (v : ValidState s) (task : Task) (found : task_of tag s.tasks ≡ Some task)
      (lun own function meant : ℕ) (complete : service s lun function meant ≡ 0x00)
      (it : is_aborted lun function meant task ≡ true) where
    abbrev asked : Message
    asked = request lun own function meant

    managed_tasks : NoTask tag (managed s lun function meant)
    managed_tasks =
        subst (λ (code : ℕ). NoTask tag (carried_out (record s { volatile = volatile_managed s lun function })
        lun function meant code)) (sym complete)
        (none_left s.tasks task (is_aborted lun function meant) v.tied.tasks.tasks_differ found it)

    task_tag : task.tag ≡ tag
    task_tag = eqb-true task.tag tag (found_is (is_task_of tag) s.tasks task found)

    no_short_now : list_any (is_short_of tag) s.shorts ≡ false
    no_short_now =
        subst (λ (n : ℕ). list_any (is_short_of n) s.shorts ≡ false) task_tag
        (each_found (λ (t : Task). list_any (is_short_of t.tag) s.shorts ≡ false) (is_task_of tag) s.tasks task
        v.tied.tasks.apart found)

    own_other : (done : Unit) → Ok done ≡ result_of (message_fault s asked) → number_of true own ≢ tag
    own_other done may same =
        let free = is_free s true own true (not_refused (message_fault s asked) done may) in
        none-some task
        (sym (none_found (is_task_of tag) s.tasks
        (subst (λ (n : ℕ). list_any (is_task_of n) s.tasks ≡ false) same free.no_task)) ∙ found)

    behind_request : (c : Option Cdb) (done : Unit) → Ok done ≡ result_of (message_fault s asked) →
        IsQuiet tag (observe s (Host (Spelled asked c)) (OfHost (Ok done)))
    behind_request c done may =
        let u = heard s asked c in
        record {
          no_task = settled_tasks tag u managed_tasks;
          no_short =
              settled_shorts tag u (one_short tag _ (managed_shorts s lun function meant) (own_other done may)
              no_short_now);
        }

    heard_request : (bytes told : List ℕ) → bytes ≡ spelling asked → told ≡ bytes → (heard : Heard) →
        IsHeard told heard → MayHear s heard (Ok tt) → IsQuiet tag (observe s (Host heard) (OfHost (Ok tt)))
    heard_request bytes told spelled e (Spelled m c) is may =
        let same : m ≡ asked = one_request lun own function meant m (sym is.0.1 ∙ e ∙ spelled) in
        subst (λ (n : Message). IsQuiet tag (observe s (Host (Spelled n c)) (OfHost (Ok tt)))) (sym same)
        (behind_request c tt (subst (λ (n : Message). Ok tt ≡ result_of (message_fault s n)) same may))
    heard_request bytes told spelled e (Faulty f) is may = let other : Ok tt ≡ Err f = may in absurd (cc)
    heard_request bytes told spelled e NoEvent is may =
        let other : Ok tt ≡ Err (no_event_fault (numbers_of s)) = may in absurd (cc)

  aborts_quietly : (s t : State) (step : Made) → ValidState s → Aborts s tag step → Follows s step t → IsQuiet tag t
  aborts_quietly s t step v a f =
      let g = subst (λ (x : Made). Follows s x t) a.taken f in
      let l = g.leads in
      subst (IsQuiet tag) (sym l.next) (by g.event g.output l.call l.answer g.told_as l.is_call l.is_shown l.right)
    where
      by : (e : Event) (o : Output) (call : Call) (answer : Answer) → IsToldAs (made.Host a.bytes (Ok tt)) e o →
          IsCall s e call → IsShown answer o → Allowed s call answer → IsQuiet tag (observe s call answer)
      by (event.Host told) (output.Host answer) call (OfHost result) at is shown may =
          let taken : result ≡ Ok tt = sym shown ∙ at.1 in
          let right : Allowed s (Host is.0) (OfHost (Ok tt)) =
          subst (λ (r : Result Unit HostFault). Allowed s (Host is.0) (OfHost r)) taken
          (subst (λ (c : Call). Allowed s c (OfHost result)) is.2 may) in
          subst (λ (c : Call). IsQuiet tag (observe s c (OfHost result))) (sym is.2)
          (subst (λ (r : Result Unit HostFault). IsQuiet tag (observe s (Host is.0) (OfHost r))) (sym taken)
          (heard_request s v a.task a.is_open a.lun a.own a.function a.meant a.complete a.means_it a.bytes told.items
          a.spelled.1 at.0 is.0 is.1 right))
      by (event.Host told) (output.Host answer) call (OfReply None) at is shown may = absurd shown
      by (event.Host told) (output.Host answer) call (OfReply (Some m)) at is shown may = absurd shown
      by (event.Host told) (output.Host answer) call other at is shown may = absurd shown
      by e o call answer at is shown may = absurd at

  -- ## The steps behind it

  behind_quiet : (s end : State) (between after : List Entry) (reply : Entry) → ValidState s → IsQuiet tag s →
      AllByRecursion (λ (e : Entry). IsTakenOf tag e.made → ⊥) between → Legal s (between ++ reply ∷ after) end →
      IsReplyOf tag reply.made → ⊥
  behind_quiet s end [] after reply v q none legal = no_reply_now s legal.0 reply.made v q legal.1
  behind_quiet s end (e ∷ es) after reply v q none legal =
      let f = legal.1 in
      behind_quiet legal.0 end es after reply (one_event s legal.0 f.event f.output v f.leads)
      (step_quiet s legal.0 e.made f none.0 q) none.1 legal.2

  none_late : (s end : State) (between after : List Entry) (abort reply : Entry) → ValidState s →
      Aborts s tag abort.made → All (λ (e : Entry). IsTakenOf tag e.made → ⊥) between →
      Legal s (abort ∷ between ++ reply ∷ after) end → IsReplyOf tag reply.made → ⊥
  none_late s end between after abort reply v a none legal =
      let f = legal.1 in
      behind_quiet legal.0 end between after reply (one_event s legal.0 f.event f.output v f.leads)
      (aborts_quietly s legal.0 abort.made v a f)
      (recursion_from_All (λ (e : Entry). IsTakenOf tag e.made → ⊥) between none) legal.2

-- ## From the opening on

split : (start end : State) (xs ys : List Entry) → Legal start (xs ++ ys) end →
    (s : State) × Legal start xs s × Legal s ys end
split start end [] ys legal = (start, refl, legal)
split start end (x ∷ xs) ys legal =
    let rest = split legal.0 end xs ys legal.2 in (rest.0, (legal.0, legal.1, rest.1), rest.2)

module _ {D : Type 0} (state : D → DieState) (opening : Opening D) (is : IsOpening state opening) (before between
    after : List Entry) (abort reply : Entry) (tag : ℕ)
    (none : All (λ (e : Entry). IsTakenOf tag e.made → ⊥) between) (late : IsReplyOf tag reply.made) where
  pub none_late_here : (start s end : State) → IsStart state opening start → Legal start before s →
      Aborts s tag abort.made → Legal s (abort ∷ between ++ reply ∷ after) end → ⊥
  none_late_here start s end opened legal a rest =
      let life = life_of start s before legal in
      none_late tag s end between after abort reply
      (many_events start s life.events life.outputs (fits_first state opening is start opened).valid life.life) a none
      rest late

  pub none_late_seen : IsLegal state opening (before ++ (abort ∷ between ++ reply ∷ after)) →
      AbortsBehind state opening before tag abort.made → ⊥
  none_late_seen legal aborts =
      let start = begins state opening is in
      let led = legal start.0 start.1 in
      let parts = split start.0 led.0 before (abort ∷ between ++ reply ∷ after) led.1 in
      none_late_here start.0 parts.0 led.0 start.1 parts.1 (aborts start.0 parts.0 start.1 parts.1) parts.2
