-- fDeviceInit: a query sets it, the mending clears it, and nothing else changes it.
use Rattle.ufs_laws.proofs.Common.{Answer, Array, Bool, Call, Event, IsOpened, Life, List, Lun, None}
use Rattle.ufs_laws.proofs.Common.{Numbers, Option, Output, Plain, Query, Request, Some, Spot, State, ap, false, if_both}
use Rattle.ufs_laws.proofs.Common.{lt-ltb, lun_of, mended, nat_lt, not, numbers_of, observe, refl, true, ℕ, ◌&&◌, ◌<◌}
use Rattle.ufs_laws.proofs.Common.{◌==◌, ◌||◌, ◌∙◌, ◌≡◌}
use Rattle.std.proofs.lemmas.Bool.{and_right}
use Rattle.ufs_laws.proofs.exchanges.Attentions.{refused_by}
use Rattle.ufs_laws.proofs.exchanges.SpokenCalls.{life_keeps}
use Rattle.ufs_laws.proofs.walk.Happenings.{IsEventOf, IsQueryOf}
use Rattle.ufs_laws.proofs.walk.VolatileChanges.{call_volatile, same_numbers}
use Rattle.ufs_laws.specs.AskedQueries.{query}
use Rattle.ufs_laws.specs.TaskRequests.{IsNoLinkEvent}
use Rattle.ufs_spec.specs.Begins.{volatile_told}
use Rattle.ufs_spec.specs.Keys.{flag_byte}
use Rattle.ufs_spec.specs.Management.{reset_at}
use Rattle.ufs_spec.specs.Machine.{Host, Spelled}
use Rattle.ufs_spec.specs.declared.messages.Message.TheVariants as message
use Rattle.ufs_spec.specs.Queries.{sets_initializing, value_told, volatile_after}
use Rattle.ufs_spec.specs.Refusals.{without_attention}
use Rattle.ufs_spec.specs.declared.operations.Told.{Told}
use Rattle.ufs_spec.specs.declared.operations.Told.TheVariants as told
use Rattle.ufs_spec.specs.declared.volatile.Volatile.{Volatile}

-- the query that sets it, and the one that reads it
abbrev set_query : ℕ → Query
set_query value = query 0x81 6 1 0 0 0 value

abbrev read_query : ℕ → Query
read_query value = query 0x01 5 1 0 0 0 value

-- ## Queries

-- a device of profile 1 that is not mended
pub set_init : (n : Numbers) (volatile : Volatile) (value : ℕ) → 0 < n.profile →
    (volatile_after n false volatile (set_query value)).initializing ≡ true
set_init n volatile value some =
    ap (λ (b : Bool). (volatile.initializing || (b && true)) && true) (lt-ltb 0 n.profile some)
    ∙ either volatile.initializing
  where
    either : (b : Bool) → ((b || true) && true) ≡ true
    either true = refl
    either false = refl

pub set_told : (n : Numbers) (p : Plain) (volatile : Volatile) (value : ℕ) → 0 < n.profile →
    value_told p (volatile_after n false volatile (set_query value)) (set_query value) ≡ 1
set_told n p volatile value some = ap flag_byte (set_init n volatile value some)

pub read_init : (n : Numbers) (p : Plain) (volatile : Volatile) (value : ℕ) → volatile.initializing ≡ true →
    value_told p (volatile_after n false volatile (read_query value)) (read_query value) ≡ 1
read_init n p volatile value is =
    ap (λ (b : Bool). flag_byte ((b || sets_initializing n (read_query value)) && true)) is

-- one that is mended
pub read_mended : (n : Numbers) (p : Plain) (volatile : Volatile) (value : ℕ) →
    value_told p (volatile_after n true volatile (read_query value)) (read_query value) ≡ 0
read_mended n p volatile value =
    ap flag_byte (and_right (volatile.initializing || sets_initializing n (read_query value)) false refl)

pub set_mended : (n : Numbers) (p : Plain) (volatile : Volatile) (value : ℕ) →
    value_told p (volatile_after n true volatile (set_query value)) (set_query value) ≡ 0
set_mended n p volatile value =
    ap flag_byte (and_right (volatile.initializing || sets_initializing n (set_query value)) false refl)

-- a device of profile 0
pub never_set : (n : Numbers) (is_mended : Bool) (volatile : Volatile) (q : Query) → n.profile ≡ 0 →
    volatile.initializing ≡ false → (volatile_after n is_mended volatile q).initializing ≡ false
never_set n is_mended volatile q profile is =
    ap
    (λ (p : ℕ). (volatile.initializing || (nat_lt 0 p && ((q.asked.opcode == 6) && (q.asked.idn == 0x01))))
    && not is_mended) profile
    ∙ ap (λ (b : Bool). (b || false) && not is_mended) is

pub read_in_profile_0 : (n : Numbers) (p : Plain) (is_mended : Bool) (volatile : Volatile) (value : ℕ) →
    n.profile ≡ 0 → volatile.initializing ≡ false →
    value_told p (volatile_after n is_mended volatile (read_query value)) (read_query value) ≡ 0
read_in_profile_0 n p is_mended volatile value profile is =
    ap flag_byte (never_set n is_mended volatile (read_query value) profile is)

pub set_in_profile_0 : (n : Numbers) (p : Plain) (is_mended : Bool) (volatile : Volatile) (value : ℕ) →
    n.profile ≡ 0 → volatile.initializing ≡ false →
    value_told p (volatile_after n is_mended volatile (set_query value)) (set_query value) ≡ 0
set_in_profile_0 n p is_mended volatile value profile is =
    ap flag_byte (never_set n is_mended volatile (set_query value) profile is)

-- ## Calls

-- an attention that ends or comes leaves it
without_leaves : (o : Option Lun) (volatile : Volatile) →
    (without_attention o volatile).initializing ≡ volatile.initializing
without_leaves None volatile = refl
without_leaves (Some lun) volatile = refl

reset_leaves : (o : Option Lun) (volatile : Volatile) → (reset_at o volatile).initializing ≡ volatile.initializing
reset_leaves None volatile = refl
reset_leaves (Some lun) volatile = refl

-- so that a call keeps it, if a query does
abbrev Queries : State → Call → Bool → Type 0
Queries s call b = (tag : ℕ) (q : Query) → IsQueryOf call tag q →
    (volatile_after (numbers_of s) (mended s) s.volatile q).initializing ≡ b

-- and no LINK EVENT comes, or it was not set
abbrev Resets : Call → Bool → Type 0
Resets call b = (kind : ℕ) → IsEventOf call kind → false ≡ b

call_keeps : (s : State) (call : Call) (answer : Answer) (b : Bool) → s.volatile.initializing ≡ b → Queries s call b →
    Resets call b → (observe s call answer).volatile.initializing ≡ b
call_keeps s call answer b is queries resets = call_volatile (λ v. v.initializing ≡ b) s call answer (record {
  stays = is;
  asked = queries;
  refused = λ r command.
      refused_by (λ v. v.initializing ≡ b) s r is (without_leaves (lun_of (numbers_of s) r.lun) s.volatile ∙ is);
  told = telling;
  managed = λ lun function asks.
      if_both (λ (v : Volatile). v.initializing ≡ b) (function == 0x08) (reset_leaves (lun_of (numbers_of s) lun) s.volatile ∙ is)
      is;
  reset = resets;
})
  where
    telling : (r : Request) (what : Told) → (volatile_told s r what).initializing ≡ b
    telling r told.Sense = without_leaves (lun_of (numbers_of s) r.lun) s.volatile ∙ is
    telling r what = is

-- until the device is mended it stays set
no_event : (call : Call) → IsNoLinkEvent call → (kind : ℕ) → IsEventOf call kind → ⊥
no_event (Host (Spelled (message.LinkEvent kind) c)) other k is = other
no_event (Host heard) other k is = is
no_event call other k is = is

pub stays_set : (s : State) (call : Call) (answer : Answer) → IsNoLinkEvent call → mended s ≡ false →
    s.volatile.initializing ≡ true →
    (observe s call answer).volatile.initializing ≡ true
stays_set s call answer no_reset mends is = call_keeps s call answer true is (λ tag q asks.
    ap (λ (b : Bool). (b || sets_initializing (numbers_of s) q) && not (mended s)) is ∙ ap not mends)
    (λ kind event. absurd (no_event call no_reset kind event))

-- and in profile 0 it is never set
abbrev IsNever : State → Type 0
IsNever s = ((numbers_of s).profile ≡ 0) × (s.volatile.initializing ≡ false)

never_call : (s : State) (call : Call) (answer : Answer) → IsNever s → IsNever (observe s call answer)
never_call s call answer (profile, is) = (
  ap (λ (n : Numbers). n.profile) (same_numbers s call answer) ∙ profile,
  call_keeps s call answer false is
      (λ tag q asks. never_set (numbers_of s) (mended s) s.volatile q profile is) (λ kind event. refl),
)

pub never_life : (s : State) (es : List Event) (os : List Output) (t : State) → (numbers_of s).profile ≡ 0 →
    s.volatile.initializing ≡ false → Life s es os t → t.volatile.initializing ≡ false
never_life s es os t profile is life =
    (life_keeps IsNever (λ u call answer spoken may h. never_call u call answer h) s es os t (profile, is) life).1

pub opened_unset : (n : Numbers) (array : Array) (bad : Spot → Bool) (s : State) → IsOpened n array bad s →
    s.volatile.initializing ≡ false
opened_unset n array bad s o = ap (λ (v : Volatile). v.initializing) o.fresh
