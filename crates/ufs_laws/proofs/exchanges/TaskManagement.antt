-- A task management request that is answered other than 00h changes no task; and which kinds of messages are heard.
use Rattle.ufs_laws.proofs.Common.{Bool, Cdb, HostFault, IsAmong, IsHeard, List, Lun, Message, None, Option, Some}
use Rattle.ufs_laws.proofs.Common.{Spelled, State, Task, ap, code_of, cond, cond-false, eqb-true, false, if◌then◌else◌, is_aborted, is_among}
use Rattle.ufs_laws.proofs.Common.{list_any, lun_of, ne_eqb, numbers_of, refl, service, short_reply, sym, true}
use Rattle.ufs_laws.proofs.Common.{with_short, without_tasks, ℕ, ◌==◌, ◌∙◌, ◌≡◌, ◌≢◌}
use Rattle.std.specs.Prelude.{is_none}
use Rattle.std.proofs.lemmas.Bool.{not-false}
use Rattle.std.proofs.lemmas.Option.{none-some}
use Rattle.ufs_spec.specs.Exchanges.{number_of}
use Rattle.ufs_spec.specs.Machine.{aborts, carried_out, heard, is_named, service_found}
use Rattle.ufs_spec.specs.Messages.{fault_among, has_digest, has_extra_header, has_other_code}
use Rattle.ufs_spec.specs.Messages.{has_wrong_length, host_codes, is_short, known_codes, read_fault_of}
use Rattle.ufs_spec.specs.declared.faults.HostFault.TheVariants as fault
use Rattle.ufs_spec.specs.declared.messages.Message.TheVariants as message
use Rattle.ufs_spec.specs.declared.volatile.Volatile.{Volatile}
use Rattle.ufs_spec.specs.Management.{reset_at, volatile_managed}

-- Task management

pub not_carried_out : (s : State) (lun function meant code : ℕ) → code ≢ 0x00 →
    carried_out s lun function meant code ≡ s
not_carried_out s lun function meant code other =
    ap (λ (b : Bool). cond b (without_tasks s (is_aborted lun function meant)) s) (ne_eqb code 0x00 other)

-- what a request is answered, by what its LUN names and whether its function aborts
abbrev pub answer_of : State → ℕ → ℕ → ℕ → Option Lun → Bool → ℕ
answer_of s lun function meant unit ends =
    if is_none unit then 0x09
    else if ends then 0x00
    else if function == 0x80 then service_found (list_any (is_named lun meant) s.tasks)
    else if function == 0x81 then service_found (list_any (λ (task : Task). task.lun == lun) s.tasks)
    else 0x04

pub no_unit_answered : (s : State) (lun function meant : ℕ) → lun_of (numbers_of s) lun ≡ None →
    service s lun function meant ≡ 0x09
no_unit_answered s lun function meant none =
    ap (λ (o : Option Lun). answer_of s lun function meant o (aborts function)) none

pub answered_complete : (s : State) (lun function meant : ℕ) (unit : Lun) → lun_of (numbers_of s) lun ≡ Some unit →
    aborts function ≡ true →
    service s lun function meant ≡ 0x00
answered_complete s lun function meant unit there ends =
    ap (λ (o : Option Lun). answer_of s lun function meant o (aborts function)) there
    ∙ ap (λ (b : Bool). answer_of s lun function meant (Some unit) b) ends

-- only a reset changes what is volatile
pub not_reset : (s : State) (lun function : ℕ) → (function == 0x08) ≡ false → volatile_managed s lun function ≡ s.volatile
not_reset s lun function other =
    cond-false (function == 0x08) (reset_at (lun_of (numbers_of s) lun) s.volatile) s.volatile other

-- and one that is refused does not either: there is no LUN to reset
pub unmanaged : (s : State) (lun function meant : ℕ) → service s lun function meant ≢ 0x00 →
    volatile_managed s lun function ≡ s.volatile
unmanaged s lun function meant other = by (function == 0x08) refl
  where
    there : (o : Option Lun) → lun_of (numbers_of s) lun ≡ o → function ≡ 0x08 → reset_at o s.volatile ≡ s.volatile
    there None k is = refl
    there (Some unit) k is =
        absurd (other (answered_complete s lun function meant unit k (ap aborts is)))

    by : (b : Bool) → (function == 0x08) ≡ b →
        (if b then reset_at (lun_of (numbers_of s) lun) s.volatile else s.volatile) ≡ s.volatile
    by true e = there (lun_of (numbers_of s) lun) refl (eqb-true function 0x08 e)
    by false e = refl

pub only_answered : (s : State) (lun tag function meant : ℕ) (c : Option Cdb) → service s lun function meant ≢ 0x00 →
    heard s (message.TaskRequest lun tag function meant) c ≡ with_short s
    (short_reply (number_of true tag) (message.TaskResponse lun tag (service s lun function meant)))
only_answered s lun tag function meant c other =
    ap (λ (t : State). with_short t
    (short_reply (number_of true tag) (message.TaskResponse lun tag (service s lun function meant))))
    (not_carried_out (record s { volatile = volatile_managed s lun function }) lun function meant
    (service s lun function meant) other
    ∙ ap (λ (v : Volatile). record s { volatile = v }) (unmanaged s lun function meant other))

-- Kinds

-- no fault was told
none_told : (b : Bool) (told : HostFault) (rest : Option HostFault) → (if b then Some told else rest) ≡ None →
    (b ≡ false) × (rest ≡ None)
none_told true told rest h = absurd (none-some _ (sym h))
none_told false told rest h = (refl, h)

-- bytes without a fault have one of the codes that are taken
is_taken : (codes bytes : List ℕ) → fault_among codes bytes ≡ None → is_among codes (code_of bytes) ≡ true
is_taken codes bytes none =
    let short = none_told (is_short bytes) fault.Short _ none in
    let size = none_told (has_wrong_length bytes) fault.Length _ short.1 in
    let digest = none_told (has_digest bytes) fault.Digest _ size.1 in
    let extra = none_told (has_extra_header bytes) fault.Ehs _ digest.1 in
    let code = none_told (has_other_code codes bytes) fault.Code _ extra.1 in
    not-false (is_among codes (code_of bytes)) code.0

pub heard_kind : (bytes : List ℕ) (m : Message) (c : Option Cdb) → IsHeard bytes (Spelled m c) →
    IsAmong host_codes (code_of bytes)
heard_kind bytes m c h = is_taken host_codes bytes h.1

pub read_kind : (bytes : List ℕ) → read_fault_of bytes ≡ None → IsAmong known_codes (code_of bytes)
read_kind bytes none = is_taken known_codes bytes none
