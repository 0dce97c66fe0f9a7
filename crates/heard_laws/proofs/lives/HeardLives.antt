-- What a journal heard of a life that was opened, and of lives one after another.
use Rattle.heard_laws.proofs.Common.{AreRegionsOf, Array, Bool, Event, IsConfig, List, None, Numbers, Output, Plain}
use Rattle.heard_laws.proofs.Common.{RegionState, Spot, State, Task, [], after, ap, arith, find, is_short_of, length}
use Rattle.heard_laws.proofs.Common.{locked, numbers_of, refl, subst, sym, take, task_of, ℕ, ◌∙◌, ◌∷◌, ◌≡◌, ◌≤◌}
use Rattle.ufs_spec.specs.Commands.{Command}
use Rattle.ufs_spec.specs.Dies.{DieState}
use Rattle.ufs_spec.specs.Exchanges.{Short}
use Rattle.ufs_spec.specs.Keys.{CanApplyAll}
use Rattle.ufs_spec.specs.Lives.{Chain, Headline, IsOpened, Lived, array_of, bad_in, bad_of, held}
use Rattle.power_loss.proofs.lives.ChainedLives.{end_of_life}
use Rattle.power_loss.proofs.openings.OpenedStates.{opened_state}
use Rattle.power_loss.specs.Runs.{LifeRight, LivesRight, MayBeOpened}
use Rattle.journal.specs.Entries.{IsAfter}
use Rattle.journal.specs.Heard.{Heard}
use Rattle.heard_laws.specs.HeardHeadline.{HeardChain, HeardHeadline, KeepsWhatWasHeard, MayBeKept}
use Rattle.heard_laws.specs.Listening.{Listens, begun_in}
use Rattle.heard_laws.specs.Resolving.{AreAmong, Resolves}
use Rattle.heard_laws.proofs.agreement.Agreement.{AgreesAt}
use Rattle.heard_laws.proofs.lives.KeptEntries.{could_come, first_of, may_make}
use Rattle.heard_laws.proofs.lives.LivesAgree.{AgreeNow, life_agrees}
use Rattle.heard_laws.proofs.rolls.StandingRolls.{among, as_long, resolves, stand_take}

-- ## As a life begins

nothing_open : (n : Numbers) (is_locked ready : Bool) (tasks : List Task) (shorts : List Short) (tag : ℕ) →
    tasks ≡ [] → shorts ≡ [] →
    AgreesAt n is_locked ready [] (task_of tag tasks) (find (is_short_of tag) shorts) None
nothing_open n is_locked ready tasks shorts tag e f =
    subst (λ (ts : List Task). AgreesAt n is_locked ready [] (task_of tag ts) (find (is_short_of tag) shorts) None)
    (sym e)
    (subst (λ (xs : List Short). AgreesAt n is_locked ready [] None (find (is_short_of tag) xs) None) (sym f) refl)

begins_agreed : (n : Numbers) (array : Array) (bad : Spot → Bool) (s : State) (regions : List RegionState) →
    IsOpened n array bad s → AreRegionsOf regions s.base → AgreeNow s (begun_in s regions)
begins_agreed n array bad s regions o are = record {
  numbers = refl;
  lock = refl;
  roll = [];
  books = record { stand = tt; accepted_are = sym o.none_accepted; inside = omega arith; few = omega arith };
  pairs = record {
    differ = tt;
    at = λ tag. nothing_open (numbers_of s) (locked s) _ s.tasks s.shorts tag o.no_tasks o.no_shorts;
  };
  regions = subst (λ (cs : List Command). AreRegionsOf regions (after s.base cs)) (sym o.none_accepted) are;
  unmended = λ off. o.none_accepted;
}

agrees : (n : Numbers) (array : Array) (bad : Spot → Bool) (s t : State) (regions : List RegionState)
    (es : List Event) (os : List Output) (j : Heard) → IsConfig n → MayBeOpened n array → IsOpened n array bad s →
    AreRegionsOf regions s.base → Listens s (begun_in s regions) es os t j → AgreeNow t j
agrees n array bad s t regions es os j config may o are h =
    life_agrees s t (begun_in s regions) j es os (opened_state n array bad s config may.inside may.sound o)
    (begins_agreed n array bad s regions o are) h

-- ## One life

pub accepted_is_heard : (n : Numbers) (array : Array) (bad : Spot → Bool) (s t : State) (regions : List RegionState)
    (es : List Event) (os : List Output) (j : Heard) → IsConfig n → MayBeOpened n array → IsOpened n array bad s →
    AreRegionsOf regions s.base → Listens s (begun_in s regions) es os t j → Resolves j.entries t.accepted
accepted_is_heard n array bad s t regions es os j config may o are h =
    let a = agrees n array bad s t regions es os j config may o are h in
    subst (Resolves j.entries) a.books.accepted_are (resolves j.entries a.roll a.books.stand)

pub held_is_heard : (n : Numbers) (array : Array) (bad : Spot → Bool) (s t : State) (regions : List RegionState)
    (es : List Event) (os : List Output) (j : Heard) → IsConfig n → MayBeOpened n array → IsOpened n array bad s →
    AreRegionsOf regions s.base → Listens s (begun_in s regions) es os t j →
    AreAmong j.entries j.held t.accepted (held t)
held_is_heard n array bad s t regions es os j config may o are h =
    let a = agrees n array bad s t regions es os j config may o are h in
    subst (λ (cs : List Command). AreAmong j.entries j.held cs (held t)) a.books.accepted_are
    (among j.entries a.roll j.held a.books.stand a.books.few)

-- more are kept than are held
among_more : (j : Heard) (cs : List Command) (few more : ℕ) → few ≤ more → AreAmong j.entries j.held cs few →
    AreAmong j.entries j.held cs more
among_more j cs few more l h =
    record { count = h.count; few = (let k = h.few in omega (arith, k, l)); front = h.front; rest = h.rest }

-- ## Lives one after another

-- the base of a life stays
end_base : (n : Numbers) (array : Array) (bad : Spot → Bool) (l : Lived) → IsConfig n → LifeRight n array bad l →
    l.finish.base ≡ l.start.base
end_base n array bad l config right =
    (end_of_life bad config right.opens.inside right.opens.sound right.lived).base

chain_start : (base : Plain) (l : Lived) (ls : List Lived) (ks : List ℕ) → Chain base l ls ks → l.start.base ≡ base
chain_start base l [] [] h = h
chain_start base l (m ∷ ls) (k ∷ ks) h = h.0
chain_start base l [] (k ∷ ks) h = absurd h
chain_start base l (m ∷ ls) [] h = absurd h

-- what a check by entries finds
may_be_kept : (n : Numbers) (array : Array) (bad : Spot → Bool) (l : Lived) (next : Plain) (k : ℕ)
    (regions : List RegionState) (j : Heard) → IsConfig n → LifeRight n array bad l → held l.finish ≤ k →
    k ≤ length l.finish.accepted → next ≡ after l.start.base (take k l.finish.accepted) →
    AreRegionsOf regions l.start.base →
    Listens l.start (begun_in l.start regions) l.events l.outputs l.finish j → MayBeKept j l.start.base next
may_be_kept n array bad l next k regions j config right few some is are h =
    let a = agrees n array bad l.start l.finish regions l.events l.outputs j config right.opens right.lived.0 are h in
    let long = as_long j.entries a.roll a.books.stand in
    let all = ap length a.books.accepted_are in
    let least = a.books.few in
    let r = first_of a.roll j.held k (omega (arith, least, few)) (omega (arith, some, all)) a.books.inside in
    let base : l.finish.base ≡ l.start.base = end_base n array bad l config right in
    let inside = r.inside in
    record {
      kept = r.entries;
      acknowledged = r.enough;
      some = omega (arith, inside, long);
      may = subst (IsAfter l.start.base (take r.entries j.entries))
          (ap (after l.start.base) (r.same ∙ ap (take k) a.books.accepted_are) ∙ sym is)
          (may_make l.start.base (take r.entries j.entries) (take r.entries a.roll)
          (stand_take r.entries j.entries a.roll a.books.stand));
      can = could_come l.start.base l.start.base j.entries a.roll (record { units = refl; regions = refl })
          a.books.stand (subst (CanApplyAll l.start.base) (sym a.books.accepted_are)
          (subst (λ (p : Plain). CanApplyAll p l.finish.accepted) base right.valid.tied.commands));
    }

kept_as_heard : (n : Numbers) (array : Array) (bad : Spot → Bool) (l : Lived) (next : Plain) (k : ℕ) → IsConfig n →
    LifeRight n array bad l → held l.finish ≤ k → k ≤ length l.finish.accepted →
    next ≡ after l.start.base (take k l.finish.accepted) → KeepsWhatWasHeard l next
kept_as_heard n array bad l next k config right few some is regions j are h = record {
  commands = l.finish.accepted;
  stand = accepted_is_heard n array bad l.start l.finish regions l.events l.outputs j config right.opens right.lived.0
      are
      h;
  kept = k;
  some = some;
  acknowledged = among_more j l.finish.accepted (held l.finish) k few
      (held_is_heard n array bad l.start l.finish regions l.events l.outputs j config right.opens right.lived.0 are h);
  begins = is;
  checked = may_be_kept n array bad l next k regions j config right few some is are h;
}

heard_chain : (n : Numbers) (array : Array) (bad : Spot → Bool) (base : Plain) (l : Lived) (ls : List Lived)
    (ks : List ℕ) → IsConfig n → LivesRight n array bad l ls → Chain base l ls ks → HeardChain base l ls
heard_chain n array bad base l [] [] config right h = h
heard_chain n array bad base l (m ∷ ls) (k ∷ ks) config right h =
    let begins : m.start.base ≡ after base (take k l.finish.accepted) =
    chain_start (after base (take k l.finish.accepted)) m ls ks h.3 in (
      h.0,
      kept_as_heard n array bad l m.start.base k config right.0 h.1 h.2
          (begins ∙ ap (λ (p : Plain). after p (take k l.finish.accepted)) (sym h.0)),
      heard_chain n right.1.1 (bad_in l.finish) m.start.base m ls ks config right.1.3
          (subst (λ (p : Plain). Chain p m ls ks) (sym begins) h.3),
    )
heard_chain n array bad base l [] (k ∷ ks) config right h = absurd h
heard_chain n array bad base l (m ∷ ls) [] config right h = absurd h

pub headline_is_heard : (n : Numbers) (dies : List DieState) (es : List Event) (os : List Output) → IsConfig n →
    (h : Headline n dies es os) → LivesRight n (array_of dies) (bad_of dies) h.first h.later →
    HeardHeadline n dies es os
headline_is_heard n dies es os config h right = record {
  base = h.base;
  stands = h.stands;
  first = h.first;
  later = h.later;
  lives = h.lives;
  chain = heard_chain n (array_of dies) (bad_of dies) h.base h.first h.later h.ks config right h.chain;
}
