-- In one life a lock never goes again, nor does the mending come back.
use Rattle.heard_laws.proofs.Common.{Answer, Call, Done, Flight, IsTied, None, Numbers, OfDone, OfTake, OfTurn, Option}
use Rattle.heard_laws.proofs.Common.{Some, Spot, State, Take, Turn, [], ap, arith, cond, inl, inr, length-append}
use Rattle.heard_laws.proofs.Common.{locked, mended, none-some, observe, refl, sym, true, ℕ, ⊎_elim, ◌∙◌, ◌∷◌, ◌≡◌, ◌≤◌}
use Rattle.std.specs.Prelude.{count_by}
use Rattle.ufs_spec.proofs.Updates.{at_spot_cases}
use Rattle.ufs_spec.specs.Cells.{Nothing}
use Rattle.ufs_spec.specs.Disk.{Bad, BlockState, Closed, Erasing, Filling, Free, Programming, Reading, at_spot, spot_of}
use Rattle.ufs_spec.specs.Disk.{state_after}
use Rattle.ufs_spec.specs.Ledger.{next_number}
use Rattle.ufs_spec.specs.Machine.{Allowed}
use Rattle.ufs_spec.specs.Moves.{Accept, EndJob, Ending, GiveJob, Move, TakeStep, freed_state, moved}
use Rattle.ufs_spec.specs.Translation.{MayTake, Translation, count_blocks, is_bad, is_locked, spots}
use Rattle.ufs_spec.specs.declared.flash.Place.{Place}
use Rattle.ufs_laws.proofs.walk.LayerEffects.{BlankWritten, ComesOf, Effect, EraseFailed, MarkAgain, MarkLost}
use Rattle.ufs_laws.proofs.walk.LayerEffects.{MarkWritten, NoEffect, PageWritten, ProgramFailed, RepairOrdered, ended}
use Rattle.ufs_laws.proofs.walk.LayerEffects.{turned_by, with_effect}
use Rattle.ufs_laws.proofs.walk.SmallChanges.{Change, IsQuiet, IsSmall, Moves, call_kept, changed, first, job_over}
use Rattle.ufs_laws.proofs.walk.SmallChanges.{layer_kept, observed}
use Rattle.power_loss.proofs.collected_blocks.FewestLivePages.{locks, locks_only}
use Rattle.power_loss.proofs.jobs.StandsSecurely.{filling_is_not_bad, free_is_not_bad}
use Rattle.power_loss.proofs.jobs_owed.ProgramsAndErases.{OpensReady, program_owed}
use Rattle.power_loss.proofs.moves.MovesKeepCellsFitting.{move_stays}
use Rattle.power_loss.proofs.room_to_mend.RoomInBlocks.{sum_no_less}
use Rattle.power_loss.specs.Invariant.{Valid}

-- ## Moves

-- no block is bad no more, and no number comes back
record NoLess (t u : Translation) : Type 0 where
  numbers : u.numbers ≡ t.numbers
  bad : (s : Spot) → t.disk.blocks s ≡ Bad → u.disk.blocks s ≡ Bad
  next : next_number t.ledger ≤ next_number u.ledger

self : (t : Translation) → NoLess t t
self t = record { numbers = refl; bad = λ s e. e; next = omega arith }

both : (t u v : Translation) → NoLess t u → NoLess u v → NoLess t v
both t u v h k = record {
  numbers = k.numbers ∙ h.numbers;
  bad = λ s e. k.bad s (h.bad s e);
  next = let a = h.next in let b = k.next in omega (arith, a, b);
}

weighs : (x y : BlockState) → (x ≡ Bad → y ≡ Bad) → cond (is_bad x) 1 0 ≤ cond (is_bad y) 1 0
weighs Bad y h = let e = ap {B = ℕ} (λ (z : BlockState). cond (is_bad z) 1 0) (h refl) in omega (arith, e)
weighs Free y h = omega arith
weighs Closed y h = omega arith
weighs (Filling next) y h = omega arith

count_stays : (n : Numbers) (was now : Spot → BlockState) → ((s : Spot) → was s ≡ Bad → now s ≡ Bad) →
    (t u : Translation) → t.numbers ≡ n → u.numbers ≡ n → t.disk.blocks ≡ was → u.disk.blocks ≡ now →
    count_blocks t is_bad ≤ count_blocks u is_bad
count_stays n was now stays t u e f g k =
    let a : count_blocks t is_bad ≡ count_by (λ s. is_bad (was s)) (spots n) =
    λ i. count_by (λ s. is_bad (g i s)) (spots (e i)) in
    let b : count_blocks u is_bad ≡ count_by (λ s. is_bad (now s)) (spots n) =
    λ i. count_by (λ s. is_bad (k i s)) (spots (f i)) in
    let l = sum_no_less (λ s. cond (is_bad (was s)) 1 0) (λ s. cond (is_bad (now s)) 1 0) (spots n)
    (λ s i. weighs (was s) (now s) (stays s)) in
    omega (arith, a, b, l)

lock_kept : (t u : Translation) → NoLess t u → is_locked t ≡ true → is_locked u ≡ true
lock_kept t u h e =
    let many = count_stays t.numbers t.disk.blocks u.disk.blocks h.bad t u refl h.numbers refl refl in
    let next = h.next in
    let spare = ap (λ (n : Numbers). n.spare) h.numbers in
    locks u (⊎_elim (λ l. inl (omega (arith, l, many, spare))) (λ l. inr (omega (arith, l, next))) (locks_only t e))

-- a block that was not bad changes
good_changes : (blocks : Spot → BlockState) (s : Spot) (x : BlockState) → (blocks s ≡ Bad → ⊥) → (a : Spot) →
    blocks a ≡ Bad → at_spot blocks s x a ≡ Bad
good_changes blocks s x good a e =
    ⊎_elim (λ k. absurd (good (ap blocks (sym k.0) ∙ e))) (λ k. k.1 ∙ e) (at_spot_cases blocks s x a)

-- a block goes bad
goes_bad : (blocks : Spot → BlockState) (s a : Spot) → blocks a ≡ Bad → at_spot blocks s Bad a ≡ Bad
goes_bad blocks s a e = ⊎_elim (λ k. k.1) (λ k. k.1 ∙ e) (at_spot_cases blocks s Bad a)

freed_stays : (x : BlockState) → x ≡ Bad → freed_state x ≡ Bad
freed_stays x e = ap freed_state e

quiet_less : (t : Translation) (move : Move) → IsQuiet move → NoLess t (moved t move)
quiet_less t (Accept claimed g) is =
    let l = length-append t.ledger.groups (g ∷ []) in
    record { numbers = refl; bad = λ s e. e; next = omega (arith, l) }
quiet_less t (GiveJob die flight) is = absurd is
quiet_less t (EndJob die ending) is = absurd is
quiet_less t TakeStep is = absurd is
quiet_less t move is = self_but t (moved t move) refl refl refl
  where
    self_but : (t u : Translation) → u.numbers ≡ t.numbers → u.disk.blocks ≡ t.disk.blocks →
        next_number u.ledger ≡ next_number t.ledger → NoLess t u
    self_but t u e f g = record { numbers = e; bad = λ s k. ap (λ b. b s) f ∙ k; next = omega (arith, g) }

given_less : (t : Translation) (die : ℕ) (flight : Flight) → MayTake t die (Some flight) →
    NoLess t (moved t (GiveJob die flight))
given_less t die (Reading reader place) may = record { numbers = refl; bad = λ s e. e; next = omega arith }
given_less t die (Erasing spot) may = record { numbers = refl; bad = λ s e. e; next = omega arith }
given_less t die (Programming p cell) may = record {
  numbers = refl;
  bad = good_changes t.disk.blocks (spot_of p) (Filling p.page)
      (⊎_elim (λ e bad. filling_is_not_bad e bad) (λ (k : OpensReady t p) bad. free_is_not_bad k.free bad)
      (program_owed t die p cell may).place.next);
  next = omega arith;
}

effect_less : {t : Translation} (die : ℕ) (o : Option Flight) (e : Effect) → Valid t →
    ((p : Place) (cell : _) → o ≡ Some (Programming p cell) → t.disk.blocks (spot_of p) ≡ Bad → ⊥) →
    ComesOf t o e → NoLess t (with_effect t e)
effect_less {t} die o NoEffect v good comes = self t
effect_less {t} die o (BlankWritten p) v good comes = record {
  numbers = refl;
  bad = good_changes t.disk.blocks (spot_of p) (state_after t.numbers.pages p.page) (good p Nothing comes);
  next = omega arith;
}
effect_less {t} die o (PageWritten p tag body) v good comes = record {
  numbers = refl;
  bad = good_changes t.disk.blocks (spot_of p) (state_after t.numbers.pages p.page) (good p _ comes);
  next = omega arith;
}
effect_less {t} die o (MarkWritten p m None) v good comes = record {
  numbers = refl;
  bad = good_changes t.disk.blocks (spot_of p) (state_after t.numbers.pages p.page) (good p _ comes.0);
  next = omega arith;
}
effect_less {t} die o (MarkWritten p m (Some plan)) v good comes = record {
  numbers = refl;
  bad = λ s e.
      let blocks = at_spot t.disk.blocks (spot_of p) (state_after t.numbers.pages p.page) in
      let here = good_changes t.disk.blocks (spot_of p) (state_after t.numbers.pages p.page) (good p _ comes.0) s e in
      ⊎_elim (λ k. k.1 ∙ freed_stays (blocks plan.victim) (ap blocks (sym k.0) ∙ here)) (λ k. k.1 ∙ here)
      (at_spot_cases blocks plan.victim (freed_state (blocks plan.victim)) s);
  next = omega arith;
}
effect_less {t} die o (ProgramFailed p left) v good comes =
    record { numbers = refl; bad = goes_bad t.disk.blocks (spot_of p); next = omega arith }
effect_less {t} die o (MarkAgain p left fence) v good comes =
    record { numbers = refl; bad = goes_bad t.disk.blocks (spot_of p); next = omega arith }
effect_less {t} die o (MarkLost p left) v good comes =
    record { numbers = refl; bad = goes_bad t.disk.blocks (spot_of p); next = omega arith }
effect_less {t} die o (EraseFailed spot left) v good comes =
    record { numbers = refl; bad = goes_bad t.disk.blocks spot; next = omega arith }
effect_less {t} die o (RepairOrdered key left) v good comes =
    let l = length-append t.ledger.groups ((record { key = key; body = t.ledger.base key } ∷ []) ∷ []) in
    record { numbers = refl; bad = λ s e. e; next = omega (arith, l) }
effect_less {t} die o e v good comes = record { numbers = refl; bad = λ s e. e; next = omega arith }

ended_less : (t : Translation) (die : ℕ) (ending : Ending) → Valid t → NoLess t (moved t (EndJob die ending))
ended_less t die ending v =
    ended (NoLess t) t die (t.disk.flights die) ending (λ e comes. effect_less die (t.disk.flights die) e v
    (λ p cell is bad. filling_is_not_bad (v.flights.programs die p cell is).next bad) comes)

step_less : (t : Translation) → Valid t → NoLess t (moved t TakeStep)
step_less t v =
    turned_by (NoLess t) t
    (λ e comes. effect_less 0 None e v (λ p cell is. absurd (none-some (Programming p cell) is)) comes)

-- ## Calls

first_locked : (s : State) (call : Call) (answer : Answer) → Valid s.translation → Allowed s call answer →
    locked s ≡ true → locked (first s call answer) ≡ true
first_locked s (Take die) (OfTake (Some flight)) v right =
    lock_kept s.translation (moved s.translation (GiveJob die flight)) (given_less s.translation die flight right)
first_locked s (Done die ending left) (OfDone true) v right = by (s.translation.disk.flights die)
  where
    by : (o : Option Flight) → locked s ≡ true → locked (job_over s die o ending left) ≡ true
    by None e = e
    by (Some flight) e =
        lock_kept s.translation (moved s.translation (EndJob die ending)) (ended_less s.translation die ending v) e
first_locked s Turn (OfTurn due) v right =
    lock_kept s.translation (moved s.translation TakeStep) (step_less s.translation v)
first_locked s call answer v right = λ e. e

-- a call that is answered rightly leaves a lock
pub lock_stays : (s : State) (call : Call) (answer : Answer) → IsTied s → Allowed s call answer → locked s ≡ true →
    locked (observe s call answer) ≡ true
lock_stays s call answer v right e =
    layer_kept (λ t u. is_locked t ≡ true → is_locked u ≡ true) (record {
      self = λ t h. h;
      both = λ t u w h k x. k (h x);
      one = λ t move is. lock_kept t (moved t move) (quiet_less t move is);
    }) (observed s call answer) (first_locked s call answer v.valid right e)

-- and a mended device mended
pub mended_stays : (s : State) (call : Call) (answer : Answer) → mended s ≡ true →
    mended (observe s call answer) ≡ true
mended_stays s call answer =
    (call_kept (λ s t. mended s ≡ true → mended t ≡ true) (record {
      self = λ s h. h;
      both = λ s t u h k x. k (h x);
      one = one;
    }) (λ s move array. (move_stays s.translation move).mended) s call answer).1
  where
    one : (s : State) (change : Change) → IsSmall change → mended s ≡ true → mended (changed s change) ≡ true
    one s (Moves move) is = (move_stays s.translation move).mended
    one s change is = λ h. h
