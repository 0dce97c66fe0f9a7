-- Along a life the device and the journal that hears it agree.
use Rattle.heard_laws.proofs.Common.{Answer, Call, CanApplyAll, Done, Event, Flight, IsTied, List, Message, None}
use Rattle.heard_laws.proofs.Common.{OfDone, OfReply, OfTake, OfTurn, Option, Output, Plain, Some, State, Take, Turn}
use Rattle.heard_laws.proofs.Common.{[], ap, arith, behind, locked, none-some, observe, refl, spelling, subst, sym, ℕ}
use Rattle.heard_laws.proofs.Common.{◌∷◌, ◌≡◌, ◌≤◌}
use Rattle.std.specs.Global.{Vec}
use Rattle.std.specs.Prelude.{Err, Ok, Result}
use Rattle.ufs_spec.specs.Lives.{IsCall, IsFinish, IsShown, Leads, Life, ended_well, held}
use Rattle.ufs_spec.specs.Machine.{Allowed, Faulty, Heard, Host, IsHeard, NoEvent, OfHost, Reply, Spelled, message_fault}
use Rattle.ufs_spec.specs.Machine.{no_event_fault}
use Rattle.ufs_spec.specs.Refusals.{numbers_of}
use Rattle.ufs_spec.specs.declared.events.Event.TheVariants as event
use Rattle.ufs_spec.specs.declared.events.Output.TheVariants as output
use Rattle.ufs_spec.specs.declared.faults.HostFault.{HostFault}
use Rattle.ufs_laws.proofs.lives.AcceptedAndHeldGrow.{held_stays}
use Rattle.ufs_laws.proofs.lives.HeldAlongLives.{short_held, task_held}
use Rattle.power_loss.proofs.calls.CallsKeepTied.{behind_keeps, no_fault}
use Rattle.power_loss.proofs.calls.CallsLeaveTheDevice.{behind_kept, call_kept}
use Rattle.power_loss.proofs.lives.EachEventKeeps.{one_event}
use Rattle.power_loss.specs.Exchange.{ValidState}
use Rattle.journal.specs.Heard as journal
use Rattle.heard_laws.specs.Listening.{Listens, noted, with_lock}
use Rattle.heard_laws.proofs.agreement.Agreement.{AgreeIn}
use Rattle.heard_laws.proofs.lives.EventsAgree.{done_agrees, message_agrees, reply_is_told, take_agrees, turn_agrees}
use Rattle.heard_laws.proofs.lives.LockStays.{lock_stays, mended_stays}
use Rattle.heard_laws.proofs.lives.SettledAgree.{settled_agrees}
use Rattle.heard_laws.proofs.rolls.BooksKept.{held_more}

-- both agree in a state
abbrev pub AgreeNow : State → journal.Heard → Type 0
AgreeNow s j = AgreeIn s (held s) s j

more_held : (s u : State) {few more : ℕ} {j : journal.Heard} → few ≤ more → AgreeIn s few u j → AgreeIn s more u j
more_held s u l a = record {
  numbers = a.numbers;
  lock = a.lock;
  roll = a.roll;
  books = held_more l a.books;
  pairs = a.pairs;
  regions = a.regions;
  unmended = a.unmended;
}

-- what is taken is not refused
taken_or_not : (done : Unit {0}) (fault : HostFault) → Ok done ≡ Err fault → ⊥
taken_or_not done fault e = cc

module _ (s : State) (j : journal.Heard) (v : IsTied s) (a : AgreeNow s j) where
  abbrev Final : Call → Answer → journal.Heard → Type 0
  Final call answer k =
      AgreeNow (observe s call answer) (with_lock k (locked (observe s call answer)))

  -- what agrees before registers and lock agrees behind them
  close : (call : Call) (answer : Answer) (k : journal.Heard) → Allowed s call answer →
      AgreeIn s (held (observe s call answer)) (behind s call answer) k → Final call answer k
  close call answer k right h =
      let t : State = observe s call answer in
      let kept = call_kept s call answer in
      settled_agrees s (behind s call answer) (held t) (held t) k t refl (record {
        numbers = kept.0;
        base = kept.1;
        lock = lock_stays s call answer v right;
        mend = mended_stays s call answer;
      }) (omega arith) h

  -- where nothing is acknowledged
  close_quiet : (call : Call) (answer : Answer) (k : journal.Heard) → Allowed s call answer →
      AgreeIn s (held s) (behind s call answer) k → Final call answer k
  close_quiet call answer k right h = close call answer k right
      (more_held s (behind s call answer) (held_stays s call answer) h)

  -- ## The host

  taken : (bytes : Vec ℕ) (m : Message) (c : _) (done : Unit {0}) → IsHeard bytes.items (Spelled m c) →
      Allowed s (Host (Spelled m c)) (OfHost (Ok done)) →
      Final (Host (Spelled m c)) (OfHost (Ok done)) (journal.heard j bytes.items)
  taken bytes m c done is right =
      let tied = behind_keeps (Host (Spelled m c)) (OfHost (Ok done)) v (bytes.items, is) right in
      close_quiet (Host (Spelled m c)) (OfHost (Ok done)) (journal.heard j bytes.items) right
      (message_agrees s (held s) j v a m c bytes.items is (no_fault (message_fault s m) right)
      (subst (λ (p : Plain). CanApplyAll p (behind s (Host (Spelled m c)) (OfHost (Ok done))).accepted)
      (behind_kept s (Host (Spelled m c)) (OfHost (Ok done))).1 tied.commands))

  host_event : (bytes : Vec ℕ) (o : Output) (h : Heard) (result : Result (Unit {0}) HostFault) →
      IsHeard bytes.items h → o ≡ output.Host result → Allowed s (Host h) (OfHost result) →
      Final (Host h) (OfHost result) (noted j (event.Host bytes) o)
  host_event bytes o h (Err fault) is shown right =
      subst (λ (x : Output). Final (Host h) (OfHost (Err fault)) (noted j (event.Host bytes) x)) (sym shown)
      (close_quiet (Host h) (OfHost (Err fault)) j right a)
  host_event bytes o (Faulty fault) (Ok done) is shown right =
      absurd (taken_or_not done fault right)
  host_event bytes o NoEvent (Ok done) is shown right =
      absurd (taken_or_not done (no_event_fault (numbers_of s)) right)
  host_event bytes o (Spelled m c) (Ok done) is shown right =
      subst (λ (x : Output). Final (Host (Spelled m c)) (OfHost (Ok done)) (noted j (event.Host bytes) x)) (sym shown)
      (taken bytes m c done is right)

  host_shown : (bytes : Vec ℕ) (o : Output) (h : Heard) (answer : Answer) → IsHeard bytes.items h → IsShown answer o →
      Allowed s (Host h) answer → Final (Host h) answer (noted j (event.Host bytes) o)
  host_shown bytes (output.Host shown) h (OfHost result) is same right =
      host_event bytes (output.Host shown) h result is (ap output.Host same) right
  host_shown bytes (output.Take job) h (OfHost result) is same right = absurd same
  host_shown bytes output.Ended h (OfHost result) is same right = absurd same
  host_shown bytes (output.Turn due) h (OfHost result) is same right = absurd same
  host_shown bytes (output.Reply reply) h (OfHost result) is same right = absurd same
  host_shown bytes output.Stopped h (OfHost result) is same right = absurd same
  host_shown bytes o h (OfTake flight) is same right = absurd right
  host_shown bytes o h (OfDone known) is same right = absurd right
  host_shown bytes o h (OfTurn due) is same right = absurd right
  host_shown bytes o h (OfReply reply) is same right = absurd right

  -- ## Replies

  reply_told : (m : Message) → Allowed s Reply (OfReply (Some m)) →
      Final Reply (OfReply (Some m)) (journal.told j (spelling m))
  reply_told m right =
      let most = held (observe s Reply (OfReply (Some m))) in
      close Reply (OfReply (Some m)) (journal.told j (spelling m)) right
      (reply_is_told s most j v (more_held s s (held_stays s Reply (OfReply (Some m))) a) m right
      (λ task n there waits. task_held s m task n there waits)
      (λ short n none there waits. short_held s m short n none there waits))

  reply_shown : (o : Output) (answer : Answer) → IsShown answer o → Allowed s Reply answer →
      Final Reply answer (noted j event.Reply o)
  reply_shown (output.Reply (Some bytes)) (OfReply (Some m)) same right =
      subst (λ (xs : List ℕ). Final Reply (OfReply (Some m)) (journal.told j xs)) (sym same) (reply_told m right)
  reply_shown (output.Reply None) (OfReply (Some m)) same right = absurd same
  reply_shown (output.Reply None) (OfReply None) same right = close_quiet Reply (OfReply None) j right a
  reply_shown (output.Reply (Some bytes)) (OfReply None) same right = absurd (none-some bytes (sym same))
  reply_shown (output.Host result) (OfReply None) same right = absurd same
  reply_shown (output.Take job) (OfReply None) same right = absurd same
  reply_shown output.Ended (OfReply None) same right = absurd same
  reply_shown (output.Turn due) (OfReply None) same right = absurd same
  reply_shown output.Stopped (OfReply None) same right = absurd same
  reply_shown (output.Host result) (OfReply (Some m)) same right = absurd same
  reply_shown (output.Take job) (OfReply (Some m)) same right = absurd same
  reply_shown output.Ended (OfReply (Some m)) same right = absurd same
  reply_shown (output.Turn due) (OfReply (Some m)) same right = absurd same
  reply_shown output.Stopped (OfReply (Some m)) same right = absurd same
  reply_shown o (OfHost result) same right = absurd right
  reply_shown o (OfTake flight) same right = absurd right
  reply_shown o (OfDone known) same right = absurd right
  reply_shown o (OfTurn due) same right = absurd right

  -- ## Dies and turns

  done_call : (die : ℕ) (ending : _) (left : _) (answer : Answer) → Allowed s (Done die ending left) answer →
      Final (Done die ending left) answer j
  done_call die ending left answer right =
      close_quiet (Done die ending left) answer j right (done_agrees s (held s) j v a die ending left answer)

  finish_call : (die : ℕ) (o : Option Flight) (call : Call) → IsFinish s die o call → (answer : Answer) →
      Allowed s call answer → Final call answer j
  finish_call die None call is answer right = absurd is
  finish_call die (Some flight) call is answer right =
      subst (λ (c : Call). Allowed s c answer → Final c answer j) (sym is)
      (done_call die (ended_well flight) s.array answer) right

  by_event : (e : Event) (o : Output) (call : Call) (answer : Answer) → IsCall s e call → IsShown answer o →
      Allowed s call answer → Final call answer (noted j e o)
  by_event (event.Host bytes) o call answer is shown right =
      subst (λ (c : Call). Allowed s c answer → Final c answer (noted j (event.Host bytes) o)) (sym is.2)
      (host_shown bytes o is.0 answer is.1 shown) right
  by_event event.Reply o call answer is shown right =
      subst (λ (c : Call). Allowed s c answer → Final c answer (noted j event.Reply o)) (sym is)
      (reply_shown o answer shown) right
  by_event (event.Take die) o call answer is shown right =
      subst (λ (c : Call). Allowed s c answer → Final c answer j) (sym is)
      (λ r. close_quiet (Take die) answer j r (take_agrees s (held s) j v a die answer)) right
  by_event (event.Finish die) o call answer is shown right =
      finish_call die (s.translation.disk.flights die) call is answer right
  by_event (event.Fail die l) o call answer is shown right =
      subst (λ (c : Call). Allowed s c answer → Final c answer j) (sym is.3) (done_call die is.0 is.1 answer) right
  by_event event.Turn o call answer is shown right =
      subst (λ (c : Call). Allowed s c answer → Final c answer j) (sym is)
      (λ r. close_quiet Turn answer j r (turn_agrees s (held s) j v a answer)) right
  by_event (event.Stop lefts) o call answer is shown right = absurd is

-- ## Events and lives

pub event_agrees : (s t : State) (j : journal.Heard) (e : Event) (o : Output) → IsTied s → AgreeNow s j →
    Leads s e o t → AgreeNow t (with_lock (noted j e o) (locked t))
event_agrees s t j e o v a l =
    subst (λ (x : State). AgreeNow x (with_lock (noted j e o) (locked x))) (sym l.next)
    (by_event s j v a e o l.call l.answer l.is_call l.is_shown l.right)

pub life_agrees : (s t : State) (j k : journal.Heard) (es : List Event) (os : List Output) → ValidState s →
    AgreeNow s j → Listens s j es os t k → AgreeNow t k
life_agrees s t j k [] [] v a h =
    subst (λ (x : State). AgreeNow x k) (sym h.0) (subst (AgreeNow s) (sym h.1) a)
life_agrees s t j k (e ∷ es) (o ∷ os) v a h =
    life_agrees h.0 t (with_lock (noted j e o) (locked h.0)) k es os (one_event s h.0 e o v h.1)
    (event_agrees s h.0 j e o v.tied a h.1) h.2
life_agrees s t j k [] (o ∷ os) v a h = absurd h
life_agrees s t j k (e ∷ es) [] v a h = absurd h

-- each life is heard
pub each_life_is_heard : (s t : State) (j : journal.Heard) (es : List Event) (os : List Output) → Life s es os t →
    (k : journal.Heard) × Listens s j es os t k
each_life_is_heard s t j [] [] life = (j, (life, refl))
each_life_is_heard s t j (e ∷ es) (o ∷ os) life =
    let rest = each_life_is_heard life.0 t (with_lock (noted j e o) (locked life.0)) es os life.2 in
    (rest.0, (life.0, life.1, rest.1))
each_life_is_heard s t j [] (o ∷ os) life = absurd life
each_life_is_heard s t j (e ∷ es) [] life = absurd life

-- what is heard is a life
pub heard_is_life : (s t : State) (j k : journal.Heard) (es : List Event) (os : List Output) → Listens s j es os t k →
    Life s es os t
heard_is_life s t j k [] [] h = h.0
heard_is_life s t j k (e ∷ es) (o ∷ os) h =
    (h.0, h.1, heard_is_life h.0 t (with_lock (noted j e o) (locked h.0)) k es os h.2)
heard_is_life s t j k [] (o ∷ os) h = absurd h
heard_is_life s t j k (e ∷ es) [] h = absurd h
