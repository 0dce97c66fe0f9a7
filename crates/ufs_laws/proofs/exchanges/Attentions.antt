-- The attention of each LUN: what ends it, what leaves it, and what makes it.
use Rattle.ufs_laws.proofs.Common.{Answer, Bool, Call, Cdb, Host, List, Lun, None, Numbers, Option}
use Rattle.ufs_laws.proofs.Common.{Request, Some, Spelled, State, Status, Task, Translation, [], abort_moves, ap}
use Rattle.ufs_laws.proofs.Common.{cond-false, cond-true, false, false≢true, first_line, flat_map}
use Rattle.ufs_laws.proofs.Common.{fold, if_both, if◌then◌else◌, is_aborted, lacks_unit, length, lines_after, lt-ltb}
use Rattle.ufs_laws.proofs.Common.{lun_of, moved, nat_lt, ne_eqb, no_unit, none-some, numbers_of}
use Rattle.ufs_laws.proofs.Common.{observe, refl, refusal, refused_state, same_Some, service, slice_get, slice_set}
use Rattle.ufs_laws.proofs.Common.{subst, suc, sym, true, without_tasks, zero, ℕ, ◌&&◌, ◌<◌, ◌==◌, ◌∙◌, ◌∷◌, ◌≡◌, ◌≢◌}
use Rattle.ufs_laws.proofs.Common.{and_parts, drop, filter}
use Rattle.std.specs.List.{AllByRecursion}
use Rattle.std.specs.Prelude.{unwrap_or}
use Rattle.std.proofs.lemmas.Bool.{and_right}
use Rattle.ufs_laws.proofs.exchanges.TaskManagement.{not_reset}
use Rattle.ufs_laws.proofs.walk.Happenings.{IsEventOf, IsRequestOf}
use Rattle.ufs_laws.proofs.walk.VolatileChanges.{IsVolatileKept, call_volatile, same_numbers}
use Rattle.ufs_laws.specs.TaskRequests.{IsNoReset}
use Rattle.ufs_spec.proofs.Lists.{set_here, set_other}
use Rattle.ufs_spec.specs.Begins.{volatile_told}
use Rattle.ufs_spec.specs.Exchanges.{unit_attention}
use Rattle.ufs_spec.specs.Machine.{managed}
use Rattle.ufs_spec.specs.Management.{reset_at, volatile_managed}
use Rattle.ufs_spec.specs.Refusals.{Line, attention_place, has_attention, meets_attention, table}
use Rattle.ufs_spec.specs.Refusals.{volatile_by, with_attention, without_attention}
use Rattle.ufs_spec.specs.declared.exchanges.Status.TheVariants.{CheckCondition}
use Rattle.ufs_spec.specs.declared.messages.Message.TheVariants as message
use Rattle.ufs_spec.specs.declared.operations.Told.{Told}
use Rattle.ufs_spec.specs.declared.operations.Told.TheVariants as told
use Rattle.ufs_spec.specs.declared.volatile.Volatile.{Volatile}

-- ## Among what is volatile

-- the attention of this LUN is one that no host was told of
abbrev pub is_pending : Lun → Volatile → Bool
is_pending lun volatile = unwrap_or (slice_get volatile.attentions (attention_place lun)) false

set_false : (xs : List Bool) (k : ℕ) → unwrap_or (slice_get (slice_set xs k false) k) false ≡ false
set_false [] k = refl
set_false (x ∷ xs) zero = refl
set_false (x ∷ xs) (suc k) = set_false xs k

-- none comes where one ends
none_comes : (xs : List Bool) (k j : ℕ) → unwrap_or (slice_get (slice_set xs k false) j) false ≡ true →
    unwrap_or (slice_get xs j) false ≡ true
none_comes [] k j e = e
none_comes (x ∷ xs) zero zero e = absurd (false≢true e)
none_comes (x ∷ xs) zero (suc j) e = e
none_comes (x ∷ xs) (suc k) zero e = e
none_comes (x ∷ xs) (suc k) (suc j) e = none_comes xs k j e

-- it has ended
pub is_over : (lun : Lun) (volatile : Volatile) → is_pending lun (with_attention lun false volatile) ≡ false
is_over lun volatile = set_false volatile.attentions (attention_place lun)

-- the attention of another LUN stays
pub other_stays : (lun other : Lun) (is : Bool) (volatile : Volatile) → attention_place other ≢ attention_place lun →
    is_pending other (with_attention lun is volatile) ≡ is_pending other volatile
other_stays lun other is volatile apart =
    ap (λ (o : Option Bool). unwrap_or o false)
    (set_other volatile.attentions (attention_place lun) (attention_place other) is apart)

none_more : (o : Option Lun) (volatile : Volatile) (lun : Lun) → is_pending lun (without_attention o volatile) ≡ true →
    is_pending lun volatile ≡ true
none_more None volatile lun e = e
none_more (Some other) volatile lun e = none_comes volatile.attentions (attention_place other) (attention_place lun) e

-- ## The table

abbrev AreStill : Volatile → List Line → Type 0
AreStill volatile = AllByRecursion (λ (l : Line). l.becomes volatile ≡ volatile)

still_by : (ls : List Line) (volatile : Volatile) → AreStill volatile ls → volatile_by ls volatile ≡ volatile
still_by [] volatile all = refl
still_by (l ∷ ls) volatile all = if_both (λ (v : Volatile). v ≡ volatile) l.applies all.0 (still_by ls volatile all.1)

later_still : (s : State) (r : Request) (c : Option Cdb) (volatile : Volatile) → AreStill volatile (lines_after s r c)
later_still s r None volatile = (refl, tt)
later_still s r (Some c) volatile =
    (refl, (refl, (refl, (refl, (refl, (refl, (refl, (refl, (refl, (refl, (refl, (refl, (refl, tt)))))))))))))

-- the lines behind that of the attention
abbrev behind_it : State → Request → List Line
behind_it s r = drop 2 (table s r)

behind_still : (s : State) (r : Request) → AreStill s.volatile (behind_it s r)
behind_still s r = (refl, (refl, later_still s r r.cdb s.volatile))

-- what a refusal leaves: what was, or that without the attention of the LUN
pub refused_by : (P : Volatile → Type 0) (s : State) (r : Request) → P s.volatile →
    P (without_attention (lun_of (numbers_of s) r.lun) s.volatile) → P (refused_state s r).volatile
refused_by P s r stays ends =
    if_both P (lacks_unit s r (lun_of (numbers_of s) r.lun)) stays
    (if_both P (meets_attention s r (lun_of (numbers_of s) r.lun)) ends
    (subst P (sym (still_by (behind_it s r) s.volatile (behind_still s r))) stays))

-- no other line tells an attention: none has its sense key
abbrev sense_key : Status → ℕ
sense_key (CheckCondition sense) = sense.key
sense_key status = 0

abbrev AreOthers : List Line → Type 0
AreOthers = AllByRecursion (λ (l : Line). (sense_key l.status == 6) ≡ false)

other_status : (status : Status) → (sense_key status == 6) ≡ false → Some status ≡ Some unit_attention → ⊥
other_status status other e =
    false≢true (sym other ∙ ap (λ (x : Status). sense_key x == 6) (same_Some status unit_attention e))

none_tells : (ls : List Line) → AreOthers ls → first_line ls ≡ Some unit_attention → ⊥
none_tells [] all e = none-some unit_attention e
none_tells (l ∷ ls) all e =
    if_both (λ (o : Option Status). o ≡ Some unit_attention → ⊥) l.applies (other_status l.status all.0)
    (none_tells ls all.1) e

later_others : (s : State) (r : Request) (c : Option Cdb) → AreOthers (lines_after s r c)
later_others s r None = (refl, tt)
later_others s r (Some c) =
    (refl, (refl, (refl, (refl, (refl, (refl, (refl, (refl, (refl, (refl, (refl, (refl, (refl, tt)))))))))))))

pub record IsMet (s : State) (r : Request) : Type 0 where
  pub there : lacks_unit s r (lun_of (numbers_of s) r.lun) ≡ false
  pub meets : meets_attention s r (lun_of (numbers_of s) r.lun) ≡ true

-- where 6/29/00 is told, the request meets the attention of its LUN
pub is_met : (s : State) (r : Request) → refusal s r ≡ Some unit_attention → IsMet s r
is_met s r e =
    by (lacks_unit s r (lun_of (numbers_of s) r.lun)) (meets_attention s r (lun_of (numbers_of s) r.lun)) refl refl e
  where
    by : (a b : Bool) → lacks_unit s r (lun_of (numbers_of s) r.lun) ≡ a →
        meets_attention s r (lun_of (numbers_of s) r.lun) ≡ b →
        (if a then Some no_unit else if b then Some unit_attention else first_line (behind_it s r)) ≡ Some unit_attention →
        IsMet s r
    by true b f g k = absurd (other_status no_unit refl k)
    by false true f g k = record { there = f; meets = g }
    by false false f g k = absurd (none_tells (behind_it s r) (refl, (refl, later_others s r r.cdb)) k)

pub met : (s : State) (r : Request) → refusal s r ≡ Some unit_attention →
    meets_attention s r (lun_of (numbers_of s) r.lun) ≡ true
met s r e = (is_met s r e).meets

-- and it is told where the request meets it
pub told_first : (s : State) (r : Request) → lacks_unit s r (lun_of (numbers_of s) r.lun) ≡ false →
    meets_attention s r (lun_of (numbers_of s) r.lun) ≡ true → refusal s r ≡ Some unit_attention
told_first s r there meets =
    cond-false (lacks_unit s r (lun_of (numbers_of s) r.lun)) (Some no_unit) _ there
    ∙ cond-true (meets_attention s r (lun_of (numbers_of s) r.lun)) (Some unit_attention) _ meets

-- what it leaves
pub refused_leaves : (s : State) (r : Request) (lun : Lun) → lun_of (numbers_of s) r.lun ≡ Some lun →
    refusal s r ≡ Some unit_attention → (refused_state s r).volatile ≡ with_attention lun false s.volatile
refused_leaves s r lun is e =
    let m = is_met s r e in
    cond-false (lacks_unit s r (lun_of (numbers_of s) r.lun)) s.volatile _ m.there
    ∙ cond-true (meets_attention s r (lun_of (numbers_of s) r.lun))
    (without_attention (lun_of (numbers_of s) r.lun) s.volatile) _ m.meets
    ∙ ap (λ (o : Option Lun). without_attention o s.volatile) is

-- ## Told once

-- the LUN has an attention, by numbers and what is volatile alone
abbrev pub has_in : Numbers → Volatile → Lun → Bool
has_in n volatile lun = nat_lt 0 n.profile && is_pending lun volatile

-- no attention among what is volatile is none of the device
pub none_has : (s : State) (lun : Lun) → is_pending lun s.volatile ≡ false → has_attention s lun ≡ false
none_has s lun none = and_right (nat_lt 0 (numbers_of s).profile) (is_pending lun s.volatile) none

pub refusal_ends : (s : State) (r : Request) (lun : Lun) → lun_of (numbers_of s) r.lun ≡ Some lun →
    refusal s r ≡ Some unit_attention → has_attention (refused_state s r) lun ≡ false
refusal_ends s r lun is e =
    none_has (refused_state s r) lun (ap (is_pending lun) (refused_leaves s r lun is e) ∙ is_over lun s.volatile)

pub refusal_leaves_others : (s : State) (r : Request) (lun other : Lun) → lun_of (numbers_of s) r.lun ≡ Some lun →
    attention_place other ≢ attention_place lun → refusal s r ≡ Some unit_attention →
    has_attention (refused_state s r) other ≡ has_attention s other
refusal_leaves_others s r lun other is apart e =
    ap (λ (v : Volatile). has_in (numbers_of s) v other) (refused_leaves s r lun is e)
    ∙ ap (λ (b : Bool). nat_lt 0 (numbers_of s).profile && b) (other_stays lun other false s.volatile apart)

-- whatever is asked of the LUN then, it is not refused so
pub not_again : (s : State) (q : Request) (lun : Lun) → lun_of (numbers_of s) q.lun ≡ Some lun →
    has_attention s lun ≡ false → refusal s q ≢ Some unit_attention
not_again s q lun is none e =
    let meets = subst (λ (o : Option Lun). meets_attention s q o ≡ true) is (met s q e) in
    false≢true (sym none ∙ (and_parts (has_attention s lun) _ meets).0)

-- ## What passes

pub sense_ends : (s : State) (r : Request) (unit select allocation : ℕ) (lun : Lun) →
    lun_of (numbers_of s) r.lun ≡ Some lun →
    has_attention (record s { volatile = volatile_told s r told.Sense }) lun ≡ false
sense_ends s r unit select allocation lun is =
    none_has (record s { volatile = volatile_told s r told.Sense }) lun
    (ap (λ (o : Option Lun). is_pending lun (without_attention o s.volatile)) is ∙ is_over lun s.volatile)

-- ## Resets

pub aborted_numbers : (n : Numbers) (t : Translation) (tasks : List Task) →
    (fold moved t (flat_map (abort_moves n) tasks)).numbers ≡ t.numbers
aborted_numbers n t [] = refl
aborted_numbers n t (task ∷ tasks) = aborted_numbers n (fold moved t (abort_moves n task)) tasks

module _ (s : State) (byte function meant : ℕ) where
  abbrev at_once : State
  at_once = record s { volatile = volatile_managed s byte function }

  abbrev is_done : Bool
  is_done = service s byte function meant == 0x00

  pub managed_volatile : (managed s byte function meant).volatile ≡ volatile_managed s byte function
  managed_volatile = if_both (λ (t : State). t.volatile ≡ volatile_managed s byte function) is_done
      {x = without_tasks at_once (is_aborted byte function meant)} {y = at_once} refl refl

  managed_numbers : numbers_of (managed s byte function meant) ≡ numbers_of s
  managed_numbers = if_both (λ (t : State). numbers_of t ≡ numbers_of s) is_done
      {x = without_tasks at_once (is_aborted byte function meant)} {y = at_once}
      (aborted_numbers (numbers_of s) s.translation (filter (is_aborted byte function meant) s.tasks)) refl

  managed_has : (lun : Lun) →
      has_attention (managed s byte function meant) lun
      ≡ has_in (numbers_of s) (volatile_managed s byte function) lun
  managed_has lun =
      ap (λ (n : Numbers). has_in n (managed s byte function meant).volatile lun) managed_numbers
      ∙ ap (λ (v : Volatile). has_in (numbers_of s) v lun) managed_volatile

  -- no other function leaves one, nor a reset of a LUN that is not there
  pub not_managed : function ≢ 0x08 → (managed s byte function meant).volatile ≡ s.volatile
  not_managed other = managed_volatile ∙ not_reset s byte function (ne_eqb function 0x08 other)

  pub none_managed : lun_of (numbers_of s) byte ≡ None → (managed s byte function meant).volatile ≡ s.volatile
  none_managed none =
      managed_volatile
      ∙ if_both (λ (v : Volatile). v ≡ s.volatile) (function == 0x08) (ap (λ (o : Option Lun). reset_at o s.volatile) none)
      refl

-- a reset leaves one of its LUN alone
module _ (s : State) (byte meant : ℕ) (lun : Lun) (is : lun_of (numbers_of s) byte ≡ Some lun) where
  reset : volatile_managed s byte 0x08 ≡ with_attention lun true s.volatile
  reset = ap (λ (o : Option Lun). reset_at o s.volatile) is

  pub reset_leaves : 0 < (numbers_of s).profile → attention_place lun < length s.volatile.attentions →
      has_attention (managed s byte 0x08 meant) lun ≡ true
  reset_leaves some short =
      managed_has s byte 0x08 meant lun
      ∙ ap (λ (v : Volatile). has_in (numbers_of s) v lun) reset
      ∙ ap (λ (b : Bool). b && is_pending lun (with_attention lun true s.volatile))
      (lt-ltb 0 (numbers_of s).profile some)
      ∙ ap (λ (o : Option Bool). unwrap_or o false) (set_here s.volatile.attentions (attention_place lun) true short)

  pub reset_leaves_others : (other : Lun) → attention_place other ≢ attention_place lun →
      has_attention (managed s byte 0x08 meant) other ≡ has_attention s other
  reset_leaves_others other apart =
      managed_has s byte 0x08 meant other
      ∙ ap (λ (v : Volatile). has_in (numbers_of s) v other) reset
      ∙ ap (λ (b : Bool). nat_lt 0 (numbers_of s).profile && b) (other_stays lun other true s.volatile apart)

-- ## Calls

no_request : (call : Call) → IsNoReset call → (lun function : ℕ) → IsRequestOf call lun function → function ≢ 0x08
no_request (Host (Spelled (message.TaskRequest lun tag function meant) c)) other l f (same, is) e = other (sym is ∙ e)
no_request (Host heard) other l f is e = absurd is
no_request call other l f is e = absurd is

no_event : (call : Call) → IsNoReset call → (kind : ℕ) → IsEventOf call kind → ⊥
no_event (Host (Spelled (message.LinkEvent kind) c)) other k is = other
no_event (Host heard) other k is = is
no_event call other k is = is

-- no LUN has an attention behind a call that had none before it, but by a reset
pub call_leaves : (s : State) (call : Call) (answer : Answer) (lun : Lun) → IsNoReset call →
    has_attention (observe s call answer) lun ≡ true → has_attention s lun ≡ true
call_leaves s call answer lun still has =
    let both = and_parts (nat_lt 0 (numbers_of (observe s call answer)).profile)
    (is_pending lun (observe s call answer).volatile) has in
    ap (λ (n : Numbers). has_in n s.volatile lun) (sym (same_numbers s call answer))
    ∙ ap (λ (b : Bool). b && is_pending lun s.volatile) both.0
    ∙ call_volatile (λ v. is_pending lun v ≡ true → is_pending lun s.volatile ≡ true) s call answer kept both.1
  where
    telling : (r : Request) (what : Told) → is_pending lun (volatile_told s r what) ≡ true →
        is_pending lun s.volatile ≡ true
    telling r told.Sense e = none_more (lun_of (numbers_of s) r.lun) s.volatile lun e
    telling r what e = e

    kept : IsVolatileKept (λ v. is_pending lun v ≡ true → is_pending lun s.volatile ≡ true) s call
    kept = record {
      stays = λ e. e;
      asked = λ tag q is e. e;
      refused = λ r is.
          refused_by (λ v. is_pending lun v ≡ true → is_pending lun s.volatile ≡ true) s r (λ e. e)
          (none_more (lun_of (numbers_of s) r.lun) s.volatile lun);
      told = telling;
      managed = λ byte function is e.
          (let same = not_reset s byte function (ne_eqb function 0x08 (no_request call still byte function is)) in
          sym (ap (is_pending lun) same) ∙ e);
      reset = λ kind is e. absurd (no_event call still kind is);
    }
