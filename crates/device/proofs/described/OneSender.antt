-- Of the open tasks of the device no more than one brings frames, so that no more than one request is to fill its
-- register.
use Rattle.device.proofs.Common.{Bool, Frames, List, None, OneSends, OpenTask, Some, [], ap, brings_frames, cond, false}
use Rattle.device.proofs.Common.{false≢true, inl, inr, is_decided, is_sender, is_unanswered, list_any, map, none-some}
use Rattle.device.proofs.Common.{option_map, or_parts, position, refl, remove, same_Some, slice_get, slice_set, subst}
use Rattle.device.proofs.Common.{suc, sym, true, zero, ℕ, ◌++◌, ◌||◌, ◌∙◌, ◌∷◌, ◌≡◌, ◌⊎◌}
use Rattle.task_set.specs.declared.frames.Frames.TheVariants as frames
use Rattle.device.proofs.open_tasks.OpenTasks.{position_step}

-- Who brings frames

pub each_sends : (f : OpenTask → OpenTask) → ((a : OpenTask) → is_sender (f a) ≡ is_sender a) → (ts : List OpenTask) →
    OneSends ts → OneSends (map f ts)
each_sends f same [] h = tt
each_sends f same (x ∷ ts) h =
    (λ e. any_same ts ∙ h.0 (sym (same x) ∙ e), each_sends f same ts h.1)
  where
    any_same : (ys : List OpenTask) → list_any is_sender (map f ys) ≡ list_any is_sender ys
    any_same [] = refl
    any_same (y ∷ ys) = λ i. same y i || any_same ys i

-- one task more, that brings frames only where no other does
pub one_more_sends : (ts : List OpenTask) (a : OpenTask) → (is_sender a ≡ true → list_any is_sender ts ≡ false) →
    OneSends ts → OneSends (ts ++ a ∷ [])
one_more_sends [] a alone h = (λ e. refl, tt)
one_more_sends (x ∷ ts) a alone h = (
  λ e. any_more ts (h.0 e) (no_sender_too (is_sender a) refl e),
  one_more_sends ts a
      (λ e. (or_parts (is_sender x) (list_any is_sender ts) (alone e)).1) h.1,
)
  where
    any_more : (ys : List OpenTask) → list_any is_sender ys ≡ false → is_sender a ≡ false →
        list_any is_sender (ys ++ a ∷ []) ≡ false
    any_more [] none new = ap (λ (b : Bool). b || false) new
    any_more (y ∷ ys) none new =
        let both = or_parts (is_sender y) (list_any is_sender ys) none in
        λ i. both.0 i || any_more ys both.1 new i

    no_sender_too : (b : Bool) → is_sender a ≡ b → is_sender x ≡ true → is_sender a ≡ false
    no_sender_too false is e = is
    no_sender_too true is e =
        absurd (false≢true (sym (or_parts (is_sender x) (list_any is_sender ts) (alone is)).0 ∙ e))

-- one task changes, and brings frames still, or still brings none
pub one_set : (k : ℕ) (ts : List OpenTask) (a new : OpenTask) → slice_get ts k ≡ Some a →
    is_sender new ≡ is_sender a → OneSends ts → OneSends (slice_set ts k new)
one_set k [] a new at same h = tt
one_set zero (x ∷ ts) a new at same h =
    (λ e. h.0 (ap is_sender (same_Some x a at) ∙ (sym same ∙ e)), h.1)
one_set (suc k) (x ∷ ts) a new at same h =
    (λ e. any_set k ts a new at same ∙ h.0 e, one_set k ts a new at same h.1)
  where
    any_set : (k : ℕ) (ys : List OpenTask) (a new : OpenTask) → slice_get ys k ≡ Some a →
        is_sender new ≡ is_sender a → list_any is_sender (slice_set ys k new) ≡ list_any is_sender ys
    any_set k [] a new at same = refl
    any_set zero (y ∷ ys) a new at same =
        ap (λ (b : Bool). b || list_any is_sender ys) (same ∙ sym (ap is_sender (same_Some y a at)))
    any_set (suc k) (y ∷ ys) a new at same =
        ap (λ (b : Bool). is_sender y || b) (any_set k ys a new at same)

-- one task fewer
pub one_removed : (k : ℕ) (ts : List OpenTask) → OneSends ts → OneSends (remove ts k)
one_removed zero [] h = h
one_removed (suc k) [] h = h
one_removed zero (x ∷ ts) h = h.1
one_removed (suc k) (x ∷ ts) h = (λ e. fewer k ts (h.0 e), one_removed k ts h.1)
  where
    fewer : (k : ℕ) (ys : List OpenTask) → list_any is_sender ys ≡ false → list_any is_sender (remove ys k) ≡ false
    fewer zero [] none = none
    fewer (suc k) [] none = none
    fewer zero (y ∷ ys) none = (or_parts (is_sender y) (list_any is_sender ys) none).1
    fewer (suc k) (y ∷ ys) none =
        let both = or_parts (is_sender y) (list_any is_sender ys) none in
        λ i. both.0 i || fewer k ys both.1 i

-- a request that is to fill its register was brought
decided_sends : (f : Frames) → is_unanswered f ≡ true → brings_frames f ≡ true
decided_sends (frames.Decided code) e = refl
decided_sends frames.NotBrought e = absurd (false≢true e)
decided_sends frames.Undecided e = absurd (false≢true e)
decided_sends frames.Answered e = absurd (false≢true e)

sent_false : (f : Frames) → brings_frames f ≡ false → is_unanswered f ≡ false
sent_false frames.NotBrought e = refl
sent_false frames.Undecided e = refl
sent_false frames.Answered e = refl
sent_false (frames.Decided code) e = absurd (false≢true (sym e))

-- none among these is to fill a register
abbrev pub NoneDecided : List OpenTask → Type 0
NoneDecided ts = (j : ℕ) (x : OpenTask) → slice_get ts j ≡ Some x → is_decided x ≡ false

no_sender : (ts : List OpenTask) → list_any is_sender ts ≡ false → NoneDecided ts
no_sender [] none j x at = absurd (none-some x at)
no_sender (y ∷ ts) none zero x at =
    subst (λ (z : OpenTask). is_decided z ≡ false) (same_Some y x at)
    (sent_false y.frames (or_parts (is_sender y) (list_any is_sender ts) none).0)
no_sender (y ∷ ts) none (suc j) x at =
    no_sender ts (or_parts (is_sender y) (list_any is_sender ts) none).1 j x at

-- one is, and no other
pub record OneDecided (ts : List OpenTask) : Type 0 where
  pub k : ℕ
  pub a : OpenTask
  pub at : slice_get ts k ≡ Some a
  pub found : position is_decided ts ≡ Some k
  pub decided : is_decided a ≡ true
  pub others : (j : ℕ) (x : OpenTask) → slice_get ts j ≡ Some x → (j ≡ k → ⊥) → is_decided x ≡ false

abbrev pub DecidedOrNot : List OpenTask → Type 0
DecidedOrNot ts = ((position is_decided ts ≡ None) × NoneDecided ts) ⊎ OneDecided ts

pub decided_cases : (ts : List OpenTask) → OneSends ts → DecidedOrNot ts
decided_cases [] h = inl (refl, λ j x at. absurd (none-some x at))
decided_cases (y ∷ ts) h = by (is_decided y) refl (decided_cases ts h.1)
  where
    step : (b : Bool) → is_decided y ≡ b →
        position is_decided (y ∷ ts) ≡ cond b (Some 0) (option_map suc (position is_decided ts))
    step b e = position_step is_decided y ts
        ∙ ap (λ z. cond z (Some 0) (option_map suc (position is_decided ts))) e

    by : (b : Bool) → is_decided y ≡ b → DecidedOrNot ts → DecidedOrNot (y ∷ ts)
    by true e rest = inr (record {
      k = 0;
      a = y;
      at = refl;
      found = step true e;
      decided = e;
      others = other (no_sender ts (h.0 (decided_sends y.frames e)));
    })
      where
        other : NoneDecided ts → (j : ℕ) (x : OpenTask) → slice_get (y ∷ ts) j ≡ Some x → (j ≡ 0 → ⊥) →
            is_decided x ≡ false
        other none zero x at differ = absurd (differ refl)
        other none (suc j) x at differ = none j x at
    by false e (inl none) = inl (step false e ∙ ap (option_map suc) none.0, other)
      where
        other : (j : ℕ) (x : OpenTask) → slice_get (y ∷ ts) j ≡ Some x → is_decided x ≡ false
        other zero x at = subst (λ (z : OpenTask). is_decided z ≡ false) (same_Some y x at) e
        other (suc j) x at = none.1 j x at
    by false e (inr r) = inr (record {
      k = suc r.k;
      a = r.a;
      at = r.at;
      found = step false e ∙ ap (option_map suc) r.found;
      decided = r.decided;
      others = other;
    })
      where
        other : (j : ℕ) (x : OpenTask) → slice_get (y ∷ ts) j ≡ Some x → (j ≡ suc r.k → ⊥) →
            is_decided x ≡ false
        other zero x at differ = subst (λ (z : OpenTask). is_decided z ≡ false) (same_Some y x at) e
        other (suc j) x at differ = r.others j x at (λ same. differ (ap suc same))
