-- When an answer is right and no other one is.
use Rattle.ufs_laws.proofs.Common.{Allowed, Answer, Array, Bool, Cdb, Contains, Done, Due, Ending, Flight, Gets, Host}
use Rattle.ufs_laws.proofs.Common.{HostFault, MayTake, Message, None, OfDone, OfHost, OfReply, OfTake, OfTurn, Option}
use Rattle.ufs_laws.proofs.Common.{Reading, Reply, Result, Some, Spelled, State, Take, Task, Turn, Want, [], ap, arith}
use Rattle.ufs_laws.proofs.Common.{deed_reply, ending_fits, inl, inr, is_idle, is_step_due, message_fault, next_flight}
use Rattle.ufs_laws.proofs.Common.{none-some, refl, result_of, same_Some, subst, suc, sym, true, want_at, wants_on}
use Rattle.ufs_laws.proofs.Common.{zero, ℕ, ◌∙◌, ◌∷◌, ◌≡◌}
use Rattle.std.proofs.Common.{slice_get}
use Rattle.ufs_laws.proofs.jobs.OneJob.{not_both, one_job}
use Rattle.ufs_spec.proofs.Lists.{none_in_empty}
use Rattle.ufs_spec.specs.Translation.{IsOwed}

-- Steps, messages and ends of jobs

pub step_gets : (s : State) (due : Bool) → due ≡ is_step_due s.translation → Gets s Turn (OfTurn due)
step_gets s due e = record { right = e; only = only }
  where
    only : (other : Answer) → Allowed s Turn other → other ≡ OfTurn due
    only (OfTurn d) h = ap OfTurn (h ∙ sym e)
    only other h = absurd h

pub host_gets : (s : State) (m : Message) (c : Option Cdb) (result : Result Unit HostFault) →
    result ≡ result_of (message_fault s m) → Gets s (Host (Spelled m c)) (OfHost result)
host_gets s m c result e = record { right = e; only = only }
  where
    only : (other : Answer) → Allowed s (Host (Spelled m c)) other → other ≡ OfHost result
    only (OfHost r) h = ap OfHost (h ∙ sym e)
    only other h = absurd h

pub finish_gets : (s : State) (die : ℕ) (ending : Ending) (left : Array) (known : Bool) →
    known ≡ ending_fits (s.translation.disk.flights die) ending → Gets s (Done die ending left) (OfDone known)
finish_gets s die ending left known e = record { right = e; only = only }
  where
    only : (other : Answer) → Allowed s (Done die ending left) other → other ≡ OfDone known
    only (OfDone k) h = ap OfDone (h ∙ sym e)
    only other h = absurd h

-- Jobs

-- a die that is not idle, or is owed none, gets none
pub none_gets : (s : State) (die : ℕ) → MayTake s.translation die None → Gets s (Take die) (OfTake None)
none_gets s die right = record { right = right; only = only }
  where
    only : (other : Answer) → Allowed s (Take die) other → other ≡ OfTake None
    only (OfTake None) h = refl
    only (OfTake (Some flight)) h = absurd (not_both s.translation die flight right h)
    only other h = absurd h

-- the one job that may be given
job_gets : (s : State) (die : ℕ) (job : Flight) → MayTake s.translation die (Some job) →
    ((other : Flight) → MayTake s.translation die (Some other) → other ≡ job) → Gets s (Take die) (OfTake (Some job))
job_gets s die job right one = record { right = right; only = only }
  where
    only : (other : Answer) → Allowed s (Take die) other → other ≡ OfTake (Some job)
    only (OfTake None) h = absurd (not_both s.translation die job h right)
    only (OfTake (Some other)) h = ap (λ f. OfTake (Some f)) (one other h)
    only other h = absurd h

-- where no read is owed, the next program or erase
pub flight_gets : (s : State) (die : ℕ) (flight : Flight) → MayTake s.translation die (Some flight) →
    wants_on s.translation die ≡ [] → next_flight s.translation die ≡ Some flight →
    Gets s (Take die) (OfTake (Some flight))
flight_gets s die flight right none e =
    job_gets s die flight right (λ other h. one_job s.translation die other flight none h right)

-- where one read is owed, that read
one_read : (s : State) (die : ℕ) (want : Want) (other : Flight) → wants_on s.translation die ≡ want ∷ [] →
    IsOwed s.translation die other → other ≡ Reading want.reader want.place
one_read s die want (Reading reader place) one h = found (subst (λ ws. Contains ws (want_at reader place)) one h)
  where
    found : Contains (want ∷ []) (want_at reader place) → Reading reader place ≡ Reading want.reader want.place
    found (zero, short, e) = ap (λ (w : Want). Reading w.reader w.place) (sym e)
    found (suc k, short, e) = absurd (omega (arith, short))
one_read s die want flight one h = let none = h.0 in cc

pub read_gets : (s : State) (die : ℕ) (want : Want) → is_idle s.translation die ≡ true →
    wants_on s.translation die ≡ want ∷ [] →
    Gets s (Take die) (OfTake (Some (Reading want.reader want.place)))
read_gets s die want idle one =
    job_gets s die (Reading want.reader want.place)
    (idle, subst (λ ws. Contains ws want) (sym one) (0, omega arith, refl))
    (λ other h. one_read s die want other one h.1)

-- Replies

-- where nothing is open none is due
pub none_due : (s : State) → s.tasks ≡ [] → s.shorts ≡ [] → (m : Message) → Due s m → ⊥
none_due s tasks shorts m (inl (k, task, there, due)) = none_in_empty s.tasks k task tasks there
none_due s tasks shorts m (inr (k, short, there, durable, same)) = none_in_empty s.shorts k short shorts there

-- of one open task its own reply is due, if it is
one_due : (s : State) (task : Task) → s.tasks ≡ task ∷ [] → s.shorts ≡ [] → (m : Message) → Due s m →
    deed_reply s task task.deed ≡ Some m
one_due s task tasks shorts m (inl (k, other, there, due)) =
    in_list k (subst (λ ts. slice_get ts k ≡ Some other) tasks there)
  where
    in_list : (k : ℕ) → slice_get (task ∷ []) k ≡ Some other → deed_reply s task task.deed ≡ Some m
    in_list zero e = ap (λ t. deed_reply s t t.deed) (same_Some task other e) ∙ due
    in_list (suc k) e = absurd (none-some other e)
one_due s task tasks shorts m (inr (k, short, there, durable, same)) =
    absurd (none_in_empty s.shorts k short shorts there)

no_reply_gets : (s : State) → ((m : Message) → Due s m → ⊥) → Gets s Reply (OfReply None)
no_reply_gets s none = record { right = none; only = only }
  where
    only : (other : Answer) → Allowed s Reply other → other ≡ OfReply None
    only (OfReply None) h = refl
    only (OfReply (Some m)) h = absurd (none m h)
    only other h = absurd h

pub nothing_gets : (s : State) → s.tasks ≡ [] → s.shorts ≡ [] → Gets s Reply (OfReply None)
nothing_gets s tasks shorts = no_reply_gets s (none_due s tasks shorts)

pub waiting_gets : (s : State) (task : Task) → s.tasks ≡ task ∷ [] → s.shorts ≡ [] →
    deed_reply s task task.deed ≡ None →
    Gets s Reply (OfReply None)
waiting_gets s task tasks shorts none =
    no_reply_gets s (λ m due. none-some m (sym none ∙ one_due s task tasks shorts m due))

pub reply_gets : (s : State) (task : Task) (reply : Message) → s.tasks ≡ task ∷ [] → s.shorts ≡ [] →
    deed_reply s task task.deed ≡ Some reply → Gets s Reply (OfReply (Some reply))
reply_gets s task reply tasks shorts e = record { right = due; only = only }
  where
    due : Due s reply
    due = inl (0, task, ap (λ ts. slice_get ts 0) tasks, e)

    only : (other : Answer) → Allowed s Reply other → other ≡ OfReply (Some reply)
    only (OfReply None) h = absurd (h reply due)
    only (OfReply (Some m)) h = ap OfReply (sym (one_due s task tasks shorts m h) ∙ e)
    only other h = absurd h
