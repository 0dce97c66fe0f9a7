-- What a LINK EVENT leaves, and which devices take one.
use Rattle.ufs_laws.proofs.Common.{Bool, Cdb, Faulty, Heard, HostFault, IsHeard, List, Lun, Message, None, Numbers, Option}
use Rattle.ufs_laws.proofs.Common.{Some, Spelled, State, Task, ap, claimed_by, code_of, eqb-true, false}
use Rattle.ufs_laws.proofs.Common.{false≢true, if_both, if◌then◌else◌, inl, inr, length, locked, lt-ltb, lun_of}
use Rattle.ufs_laws.proofs.Common.{message_fault, not, numbers_of, refl, result_of, same_Some, slice_get}
use Rattle.ufs_laws.proofs.Common.{sym, true, true≢false, ℕ, ◌&&◌, ◌<◌, ◌==◌, ◌||◌, ◌∙◌, ◌≡◌}
use Rattle.std.proofs.Common.{Err, Ok, Result, arith}
use Rattle.std.specs.Prelude.{sum_by, ◌-◌, ◌≤◌}
use Rattle.std.proofs.lemmas.Option.{none-some}
use Rattle.ufs_laws.proofs.answers.OnlyAnswers.{none_due}
use Rattle.ufs_laws.proofs.exchanges.AbortedTasks.{released, unpinned}
use Rattle.ufs_laws.proofs.exchanges.Attentions.{has_in, is_pending}
use Rattle.ufs_laws.proofs.exchanges.ManagedTasks.{aborted_ledger, aborted_work}
use Rattle.ufs_laws.proofs.refusals.AttentionLines.{all_there, place_below}
use Rattle.ufs_laws.specs.Exchange.{Pinned}
use Rattle.ufs_laws.specs.LinkEvents.{after_event, heard_event}
use Rattle.ufs_spec.specs.Machine.{Allowed, Due, MayHear, NoEvent, OfHost, event_fault, link_reset}
use Rattle.ufs_spec.specs.Messages.{fault_among, has_digest, has_extra_header, has_other_code, has_wrong_length, host_codes}
use Rattle.ufs_spec.specs.Messages.{host_fault_of, is_short, request_codes, spelling}
use Rattle.ufs_spec.specs.Refusals.{attention_place, has_attention}
use Rattle.ufs_spec.specs.declared.faults.HostFault.TheVariants as fault
use Rattle.ufs_spec.specs.declared.messages.Message.TheVariants as message
use Rattle.ufs_laws.proofs.exchanges.Attentions.{aborted_numbers}

-- ## What is left

-- registers and lock find nothing open
pub after_is : (s : State) (kind : ℕ) → after_event s kind ≡ link_reset s kind
after_is s kind = if_both (λ (t : State). t ≡ link_reset s kind) (locked (link_reset s kind)) refl refl

pub nothing_due : (s : State) (kind : ℕ) (m : Message) → Due (link_reset s kind) m → ⊥
nothing_due s kind = none_due (link_reset s kind) refl refl

abbrev claim : Numbers → Task → ℕ
claim n task = claimed_by n task.deed task.command

pub no_claims : (s : State) (kind : ℕ) → s.translation.claims ≡ sum_by (claim (numbers_of s)) s.tasks →
    (link_reset s kind).translation.claims ≡ 0
no_claims s kind sum =
    released (numbers_of s) s.translation s.tasks
    ∙ ap (λ (n : ℕ). n - sum_by (claim (numbers_of s)) s.tasks) sum
    ∙ omega arith

pub no_pins : (s : State) (kind k : ℕ) (task : Task) → slice_get s.tasks k ≡ Some task →
    Pinned task.tag (link_reset s kind).translation.pins ≡ false
no_pins s kind k task e =
    unpinned (numbers_of s) s.translation s.tasks k task e

pub same_groups : (s : State) (kind : ℕ) → (link_reset s kind).translation.ledger ≡ s.translation.ledger
same_groups s kind = aborted_ledger (numbers_of s) s.translation s.tasks

pub same_work : (s : State) (kind : ℕ) → (link_reset s kind).translation.work ≡ s.translation.work
same_work s kind = aborted_work (numbers_of s) s.translation s.tasks

-- ## Attentions

pub all_have : (s : State) (kind byte : ℕ) (lun : Lun) → 0 < (numbers_of s).profile →
    length (numbers_of s).units.items ≤ 8 → lun_of (numbers_of s) byte ≡ Some lun →
    has_attention (link_reset s kind) lun ≡ true
all_have s kind byte lun some few is =
    ap (λ (n : Numbers). has_in n (link_reset s kind).volatile lun)
    (aborted_numbers (numbers_of s) s.translation s.tasks)
    ∙ ap (λ (b : Bool). b && is_pending lun (link_reset s kind).volatile) (lt-ltb 0 (numbers_of s).profile some)
    ∙ all_there 12 (attention_place lun) (place_below (numbers_of s) byte lun few is)

pub after_hardware : (s : State) → (link_reset s 0x01).volatile.power_on ≡ false
after_hardware s = by s.volatile.power_on
  where
    by : (b : Bool) → (b && not (0x01 == 0x01)) ≡ false
    by true = refl
    by false = refl

pub after_link : (s : State) → (link_reset s 0x02).volatile.power_on ≡ s.volatile.power_on
after_link s = by s.volatile.power_on
  where
    by : (b : Bool) → (b && not (0x02 == 0x01)) ≡ b
    by true = refl
    by false = refl

-- ## Which devices take one

pub above_zero : (n : ℕ) → 0 < n → (n == 0) ≡ false
above_zero n some = by (n == 0) refl
  where
    by : (b : Bool) → (n == 0) ≡ b → b ≡ false
    by true e = let none = eqb-true n 0 e in absurd (omega (arith, none, some))
    by false e = refl

pub is_zero : (n : ℕ) → n ≡ 0 → (n == 0) ≡ true
is_zero n e = ap (λ (k : ℕ). k == 0) e

pub takes : (s : State) (kind : ℕ) → 0 < (numbers_of s).profile → message_fault s (message.LinkEvent kind) ≡ None
takes s kind some =
    ap (λ (b : Bool). if b then Some fault.Code else None) (above_zero (numbers_of s).profile some)

pub tells_reserved : (s : State) (result : Result Unit HostFault) → 0 < (numbers_of s).profile →
    MayHear s NoEvent result → result ≡ Err fault.Reserved
tells_reserved s result some may =
    may
    ∙ ap (λ (b : Bool). Err (if b then fault.Code else fault.Reserved)) (above_zero (numbers_of s).profile some)

pub tells_code : (s : State) (kind : ℕ) → (numbers_of s).profile ≡ 0 →
    message_fault s (message.LinkEvent kind) ≡ Some fault.Code
tells_code s kind zero = ap (λ (b : Bool). if b then Some fault.Code else None) (is_zero (numbers_of s).profile zero)

pub never_taken : (s : State) (kind : ℕ) (c : Option Cdb) → (numbers_of s).profile ≡ 0 →
    Allowed s (heard_event kind c) (OfHost (Ok tt)) → ⊥
never_taken s kind c zero may = let other : Ok tt ≡ Err fault.Code = may ∙ ap result_of (tells_code s kind zero) in cc

-- ## Profile 0 tells what it told

abbrev chain : (a b c d e : Bool) → Option HostFault
chain a b c d e =
    if a then Some fault.Short
    else if b then Some fault.Length
    else if c then Some fault.Digest
    else if d then Some fault.Ehs
    else if e then Some fault.Code
    else None

-- with a code that neither list has the same fault is told
same_told : (a b c d x y : Bool) (f g : HostFault) → (y ≡ true → x ≡ true) → chain a b c d x ≡ Some f →
    chain a b c d y ≡ Some g → g ≡ f
same_told true b c d x y f g more h k = sym (same_Some _ g k) ∙ same_Some _ f h
same_told false true c d x y f g more h k = sym (same_Some _ g k) ∙ same_Some _ f h
same_told false false true d x y f g more h k = sym (same_Some _ g k) ∙ same_Some _ f h
same_told false false false true x y f g more h k = sym (same_Some _ g k) ∙ same_Some _ f h
same_told false false false false true y f g more h k = by y k
  where
    by : (z : Bool) → chain false false false false z ≡ Some g → g ≡ f
    by true e = sym (same_Some _ g e) ∙ same_Some _ f h
    by false e = absurd (none-some g e)
same_told false false false false false y f g more h k = absurd (none-some f h)

-- where only the first list tells a fault it is that of a code
only_code : (a b c d x y : Bool) (f : HostFault) → chain a b c d x ≡ Some f → chain a b c d y ≡ None →
    (x ≡ true) × (y ≡ false) × (f ≡ fault.Code)
only_code true b c d x y f h k = absurd (none-some _ (sym k))
only_code false true c d x y f h k = absurd (none-some _ (sym k))
only_code false false true d x y f h k = absurd (none-some _ (sym k))
only_code false false false true x y f h k = absurd (none-some _ (sym k))
only_code false false false false true true f h k = absurd (none-some _ (sym k))
only_code false false false false true false f h k = (refl, refl, sym (same_Some _ f h))
only_code false false false false false y f h k = absurd (none-some f h)

abbrev in_host : (a b c d e q : Bool) → Bool
in_host a b c d e q = a || (b || (c || (d || (e || (q || false)))))

abbrev in_requests : (a b c d e : Bool) → Bool
in_requests a b c d e = a || (b || (c || (d || (e || false))))

more_codes : (a b c d e q : Bool) → not (in_host a b c d e q) ≡ true → not (in_requests a b c d e) ≡ true
more_codes true b c d e q h = absurd (false≢true h)
more_codes false true c d e q h = absurd (false≢true h)
more_codes false false true d e q h = absurd (false≢true h)
more_codes false false false true e q h = absurd (false≢true h)
more_codes false false false false true q h = absurd (false≢true h)
more_codes false false false false false q h = refl

only_event : (a b c d e q : Bool) → not (in_requests a b c d e) ≡ true → not (in_host a b c d e q) ≡ false → q ≡ true
only_event true b c d e q h k = absurd (false≢true h)
only_event false true c d e q h k = absurd (false≢true h)
only_event false false true d e q h k = absurd (false≢true h)
only_event false false false true e q h k = absurd (false≢true h)
only_event false false false false true q h k = absurd (false≢true h)
only_event false false false false false true h k = refl
only_event false false false false false false h k = absurd (true≢false k)

-- a message with the transaction code of LINK EVENT is one
not_event : (code : ℕ) → (code == 0x1F) ≡ false → code ≡ 0x1F → ⊥
not_event code other is = false≢true (sym other ∙ ap (λ (n : ℕ). n == 0x1F) is)

event_told : (s : State) (m : Message) → code_of (spelling m) ≡ 0x1F → message_fault s m ≡ event_fault (numbers_of s)
event_told s (message.LinkEvent kind) is = refl
event_told s (message.NopOut tag) is = absurd (not_event 0x00 refl is)
event_told s (message.Command flags lun tag expected bytes) is = absurd (not_event 0x01 refl is)
event_told s (message.DataOut lun tag offset «data») is = absurd (not_event 0x02 refl is)
event_told s (message.TaskRequest lun tag function meant) is = absurd (not_event 0x04 refl is)
event_told s (message.QueryRequest tag function asked size value «data») is = absurd (not_event 0x16 refl is)
event_told s (message.NopIn tag) is = absurd (not_event 0x20 refl is)
event_told s (message.Response flags lun tag response status residual sense) is = absurd (not_event 0x21 refl is)
event_told s (message.DataIn lun tag offset «data») is = absurd (not_event 0x22 refl is)
event_told s (message.TaskResponse lun tag service) is = absurd (not_event 0x24 refl is)
event_told s (message.ReadyToTransfer lun tag offset count) is = absurd (not_event 0x31 refl is)
event_told s (message.QueryResponse tag function response asked size value «data») is =
    absurd (not_event 0x36 refl is)

module _ (s : State) (bytes : List ℕ) (f : HostFault) (zero : (numbers_of s).profile ≡ 0)
    (told : fault_among request_codes bytes ≡ Some f) where
  abbrev code : ℕ
  code = code_of bytes

  both : host_fault_of bytes ≡ None → (code ≡ 0x1F) × (f ≡ fault.Code)
  both none =
      let only = only_code (is_short bytes) (has_wrong_length bytes) (has_digest bytes) (has_extra_header bytes)
      (has_other_code request_codes bytes) (has_other_code host_codes bytes) f told none in (
        eqb-true code 0x1F
            (only_event (code == 0x00) (code == 0x01) (code == 0x02) (code == 0x04) (code == 0x16) (code == 0x1F)
            only.0 only.1),
        only.2,
      )

  pub told_as_before : (h : Heard) (result : Result Unit HostFault) → IsHeard bytes h → MayHear s h result →
      result ≡ Err f
  told_as_before (Spelled m c) result is may =
      let e = both is.1 in
      let spelled : code_of (spelling m) ≡ 0x1F = ap code_of (sym is.0.1) ∙ e.0 in
      may
      ∙ ap result_of (event_told s m spelled ∙ tells_code s 0 zero)
      ∙ ap Err (sym e.1)
  told_as_before (Faulty g) result (inl k) may =
      may
      ∙ ap Err
      (same_told (is_short bytes) (has_wrong_length bytes) (has_digest bytes) (has_extra_header bytes)
      (has_other_code request_codes bytes) (has_other_code host_codes bytes) f g
      (more_codes (code == 0x00) (code == 0x01) (code == 0x02) (code == 0x04) (code == 0x16) (code == 0x1F)) told k)
  told_as_before (Faulty g) result (inr k) may = absurd (k.1 (both k.0.0).0)
  told_as_before NoEvent result is may =
      may
      ∙ ap (λ (b : Bool). Err (if b then fault.Code else fault.Reserved)) (is_zero (numbers_of s).profile zero)
      ∙ ap Err (sym (both is.0.0).1)
