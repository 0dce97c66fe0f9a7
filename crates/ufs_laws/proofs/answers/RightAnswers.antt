-- Replies that are due, and the one right answer to a host, to the end of a job and to a step.
use Rattle.ufs_laws.proofs.Common.{Allowed, Answer, Array, Call, Done, Due, Ending, Faulty, Gets, Heard, Host}
use Rattle.ufs_laws.proofs.Common.{HostFault, Message, None, OfDone, OfHost, OfReply, OfTake, OfTurn, Option, Reply}
use Rattle.ufs_laws.proofs.Common.{Result, Short, Some, Spelled, State, Take, Task, Turn, ap, deed_reply, ending_fits}
use Rattle.ufs_laws.proofs.Common.{false≢true, inl, inr, is_durable, is_step_due, message_fault, none-some, refl}
use Rattle.ufs_laws.proofs.Common.{result_of, sym, true, ℕ, ⊎_elim, ◌∙◌, ◌≡◌, ◌⊎◌}
use Rattle.std.proofs.Common.{Err, slice_get}
use Rattle.ufs_spec.specs.Machine.{NoEvent, no_event_fault}
use Rattle.ufs_spec.specs.Refusals.{numbers_of}
use Rattle.ufs_laws.proofs.jobs.OneJob.{given}
use Rattle.ufs_laws.proofs.answers.OnlyAnswers.{finish_gets, host_gets, step_gets}
use Rattle.ufs_spec.proofs.Facts.{cases_Bool}
use Rattle.ufs_spec.proofs.Lists.{some_in}

-- Replies that are due

abbrev Replies : State → Task → Type 0
Replies s task = (m : Message) × (deed_reply s task task.deed ≡ Some m)

replies : (s : State) (task : Task) → Replies s task ⊎ (Replies s task → ⊥)
replies s task = by (deed_reply s task task.deed) refl
  where
    by : (o : Option Message) → deed_reply s task task.deed ≡ o → Replies s task ⊎ (Replies s task → ⊥)
    by (Some m) e = inl (m, e)
    by None e = inr (λ h. none-some h.0 (sym e ∙ h.1))

durable_short : (s : State) (short : Short) →
    (is_durable s short.awaits ≡ true) ⊎ (is_durable s short.awaits ≡ true → ⊥)
durable_short s short =
    ⊎_elim (λ h. inl h) (λ h. inr (λ g. false≢true (sym h ∙ g))) (cases_Bool (is_durable s short.awaits))

-- a reply that is due, or the proof that none is
pub reply_due : (s : State) → ((m : Message) × Due s m) ⊎ ((m : Message) → Due s m → ⊥)
reply_due s =
    ⊎_elim
    (λ (t : (k : ℕ) × (task : Task) × (slice_get s.tasks k ≡ Some task) × Replies s task).
    inl (t.3.0, inl (t.0, t.1, t.2, t.3.1)))
    (λ none. ⊎_elim
    (λ (t : (k : ℕ) × (short : Short) × (slice_get s.shorts k ≡ Some short) × (is_durable s short.awaits ≡ true)).
    inl (t.1.reply, inr (t.0, t.1, t.2, t.3, refl)))
    (λ no_short. inr (λ m due. ⊎_elim (λ h. none h.0 h.1 h.2 (m, h.3)) (λ h. no_short h.0 h.1 h.2 h.3) due))
    (some_in (λ (short : Short). is_durable s short.awaits ≡ true) (durable_short s) s.shorts))
    (some_in (Replies s) (replies s) s.tasks)

-- An answer to each call

-- how a message is heard
right_result : State → Heard → Result Unit HostFault
right_result s (Spelled m c) = result_of (message_fault s m)
right_result s (Faulty fault) = Err fault
right_result s NoEvent = Err (no_event_fault (numbers_of s))

hears_right : (s : State) (h : Heard) → Gets s (Host h) (OfHost (right_result s h))
unfolding right_result
hears_right s (Spelled m c) = host_gets s m c (result_of (message_fault s m)) refl
hears_right s (Faulty fault) = record { right = refl; only = only }
  where
    only : (other : Answer) → Allowed s (Host (Faulty fault)) other → other ≡ OfHost (Err fault)
    only (OfHost result) h = ap OfHost h
    only other h = absurd h
hears_right s NoEvent = record { right = refl; only = only }
  where
    only : (other : Answer) → Allowed s (Host NoEvent) other → other ≡ OfHost (Err (no_event_fault (numbers_of s)))
    only (OfHost result) h = ap OfHost h
    only other h = absurd h

pub heard : (s : State) (h : Heard) → (result : Result Unit HostFault) × Allowed s (Host h) (OfHost result)
heard s h = (right_result s h, (hears_right s h).right)

pub answered : (s : State) (call : Call) → (answer : Answer) × Allowed s call answer
answered s (Host h) = (OfHost (right_result s h), (hears_right s h).right)
answered s (Take die) =
    ⊎_elim
    {C = (answer : Answer) × Allowed s (Take die) answer}
    (λ job. (OfTake (Some job.0), job.1))
    (λ none. (OfTake None, none))
    (given s.translation die)
answered s (Done die ending left) = (OfDone (ending_fits (s.translation.disk.flights die) ending), refl)
answered s Turn = (OfTurn (is_step_due s.translation), refl)
answered s Reply =
    ⊎_elim
    {C = (answer : Answer) × Allowed s Reply answer}
    (λ reply. (OfReply (Some reply.0), reply.1))
    (λ none. (OfReply None, none))
    (reply_due s)

-- No two answers

one_right : {s : State} {call : Call} {answer : Answer} → Gets s call answer → (a b : Answer) → Allowed s call a →
    Allowed s call b → a ≡ b
one_right gets a b p q = gets.only a p ∙ sym (gets.only b q)

pub one_heard : (s : State) (h : Heard) (a b : Answer) → Allowed s (Host h) a → Allowed s (Host h) b → a ≡ b
one_heard s h = one_right (hears_right s h)

pub one_end : (s : State) (die : ℕ) (ending : Ending) (left : Array) (a b : Answer) →
    Allowed s (Done die ending left) a →
    Allowed s (Done die ending left) b → a ≡ b
one_end s die ending left =
    one_right (finish_gets s die ending left (ending_fits (s.translation.disk.flights die) ending) refl)

pub one_step : (s : State) (a b : Answer) → Allowed s Turn a → Allowed s Turn b → a ≡ b
one_step s = one_right (step_gets s (is_step_due s.translation) refl)
