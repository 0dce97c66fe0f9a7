-- Requests that no line of the table refuses, and those that only one line refuses.
use Rattle.ufs_laws.proofs.Common.{Bool, Busy, IsIdle, Lun, None, Numbers, Option, Request, Some, State, Status, ap, arith}
use Rattle.ufs_laws.proofs.Common.{asks, cond-false, false, free_slots, if◌then◌else◌, le-ltb, locked, lt-ltb, mended}
use Rattle.ufs_laws.proofs.Common.{nat_lt, not, not_ready, numbers_of, plain_now, read_at, refl, refusal, row, subst}
use Rattle.ufs_laws.proofs.Common.{sym, true, write_at, write_protected, ℕ, ◌&&◌, ◌<◌, ◌||◌, ◌∙◌, ◌≡◌, ◌≤◌}
use Rattle.ufs_laws.proofs.refusals.RefusedCommands.{answers, idle_is, idle_state}
use Rattle.ufs_laws.proofs.refusals.TableLines.{decides, leaves, locked_idle, neither, once_locked, once_mended}
use Rattle.ufs_laws.specs.Table.{IsRefused, protected_row}
use Rattle.ufs_spec.proofs.Facts.{or_with_false}
use Rattle.ufs_spec.specs.Exchanges.{unit_attention}
use Rattle.ufs_spec.specs.Machine.{has_attribute}
use Rattle.ufs_spec.specs.Refusals.{has_attention}
use Rattle.ufs_spec.specs.declared.scsi.Cdb.TheVariants as cdb

-- a line that does not apply leaves it to the rest, which do not either
pub skips : (b : Bool) (status : Status) (rest : Option Status) → b ≡ false → rest ≡ None →
    (if b then Some status else rest) ≡ None
skips b status rest e k = cond-false b (Some status) rest e ∙ k

-- what is decided of an idle state
pub idle_decided : (s : State) (r : Request) (o : Option Status) → IsIdle s → refusal (idle_state s) r ≡ o →
    refusal s r ≡ o
idle_decided s r o h e = subst (λ (t : State). refusal t r ≡ o) (sym (idle_is s h)) e

-- a command that needs no slot is never short of any
pub needs_none : (s : State) → nat_lt (free_slots s.translation) 0 ≡ false
needs_none s = le-ltb (free_slots s.translation) 0 (omega arith)

-- ## UNMAP

abbrev unmap : ℕ → ℕ → Request
unmap tag list = asks 0x20 0 tag (cdb.Unmap list)

pub crowded : (s : State) (tag : ℕ) → IsIdle s → mended s ≡ true → locked s ≡ false → free_slots s.translation < 32 →
    IsRefused s (unmap tag 24) Busy
crowded s tag h e k few =
    answers s (unmap tag 24) Busy h refl
    (leaves (not (mended (idle_state s) || locked (idle_state s))) not_ready Busy _ (once_mended _ _ e)
    (leaves (locked (idle_state s) || false) write_protected Busy _ (or_with_false _ ∙ locked_idle s false h k)
    (decides (nat_lt (free_slots (idle_state s).translation) 32) Busy _
    (lt-ltb (free_slots (idle_state s).translation) 32
    (subst (λ (t : State). free_slots t.translation < 32) (idle_is s h) few)))))

pub taken : (s : State) (tag : ℕ) → IsIdle s → mended s ≡ true → locked s ≡ false → 32 ≤ free_slots s.translation →
    refusal s (unmap tag 24) ≡ None
taken s tag h e k room =
    idle_decided s (unmap tag 24) None h
    (skips (not (mended (idle_state s) || locked (idle_state s))) not_ready _ (once_mended _ _ e)
    (skips (locked (idle_state s) || false) write_protected _ (or_with_false _ ∙ locked_idle s false h k)
    (skips (nat_lt (free_slots (idle_state s).translation) 32) Busy _
    (le-ltb (free_slots (idle_state s).translation) 32
    (subst (λ (t : State). 32 ≤ free_slots t.translation) (idle_is s h) room)) refl)))

pub header_taken : (s : State) (tag : ℕ) → IsIdle s → mended s ≡ true → refusal s (unmap tag 8) ≡ None
header_taken s tag h e =
    idle_decided s (unmap tag 8) None h
    (skips (not (mended (idle_state s) || locked (idle_state s))) not_ready _ (once_mended _ _ e)
    (skips (nat_lt (free_slots (idle_state s).translation) 0) Busy _ (needs_none (idle_state s)) refl))

pub unmap_protected : (s : State) (tag : ℕ) → IsIdle s → mended s ≡ true → locked s ≡ true →
    IsRefused s (unmap tag 24) write_protected
unmap_protected s tag h e k =
    answers s (unmap tag 24) write_protected h refl
    (leaves (not (mended (idle_state s) || locked (idle_state s))) not_ready write_protected _ (once_mended _ _ e)
    (decides (locked (idle_state s) || false) write_protected _ (or_with_false _ ∙ locked_idle s true h k)))

-- ## Before the mending is over

-- the line of the mending is the first that applies
abbrev FirstUnready : State → Request → Type 0
FirstUnready s r = (later : Option Status) × (has_attribute row r.flags ≡ false) ×
    (refusal (idle_state s) r ≡
    (if not (mended (idle_state s) || locked (idle_state s)) then Some not_ready else later))

pub unready : (s : State) (r : Request) → FirstUnready s r → IsIdle s → mended s ≡ false → locked s ≡ false →
    IsRefused s r not_ready
unready s r (later, plain, first) h e k =
    answers s r not_ready h plain
    (first
    ∙ decides (not (mended (idle_state s) || locked (idle_state s))) not_ready later
    (neither _ _ e (locked_idle s false h k)))

-- TEST UNIT READY is refused so on a locked device too
pub test_unready : (s : State) (tag : ℕ) → IsIdle s → mended s ≡ false →
    IsRefused s (asks 0x00 0 tag cdb.Nothing) not_ready
test_unready s tag h e =
    answers s (asks 0x00 0 tag cdb.Nothing) not_ready h refl
    (decides (not (mended (idle_state s) || false)) not_ready _ (neither _ _ e refl))

-- a request that no line before the last can refuse, and that needs no slot
abbrev NeedsNoSlot : State → Request → Type 0
NeedsNoSlot s r =
    refusal (idle_state s) r ≡ (if nat_lt (free_slots (idle_state s).translation) 0 then Some Busy else None)

pub told : (s : State) (r : Request) → NeedsNoSlot s r → IsIdle s → refusal s r ≡ None
told s r last h =
    idle_decided s r None h
    (last
    ∙ skips (nat_lt (free_slots (idle_state s).translation) 0) Busy None (needs_none (idle_state s)) refl)

-- ## A locked device

pub read_taken : (s : State) (tag : ℕ) → IsIdle s → mended s ≡ true →
    refusal s (asks 0x40 0 tag (read_at 0 1)) ≡ None
read_taken s tag h e =
    idle_decided s (asks 0x40 0 tag (read_at 0 1)) None h
    (skips (not (mended (idle_state s) || locked (idle_state s))) not_ready _ (once_mended _ _ e)
    (skips (nat_lt (free_slots (idle_state s).translation) 0) Busy _ (needs_none (idle_state s)) refl))

-- ## A locked device that is not mended

module _ (s : State) (tag : ℕ) (h : IsIdle s) (k : locked s ≡ true) where
  -- the line of the mending does not apply
  passes_mending : not (mended (idle_state s) || locked (idle_state s)) ≡ false
  passes_mending = once_locked _ _ (locked_idle s true h k)

  pub locked_read : refusal s (asks 0x40 0 tag (read_at 0 1)) ≡ None
  locked_read =
      idle_decided s (asks 0x40 0 tag (read_at 0 1)) None h
      (skips (not (mended (idle_state s) || locked (idle_state s))) not_ready _ passes_mending
      (skips (nat_lt (free_slots (idle_state s).translation) 0) Busy _ (needs_none (idle_state s)) refl))

  pub locked_write : IsRefused s (asks 0x20 0 tag (write_at 0)) write_protected
  locked_write =
      answers s (asks 0x20 0 tag (write_at 0)) write_protected h refl
      (leaves (not (mended (idle_state s) || locked (idle_state s))) not_ready write_protected _ passes_mending
      (decides (locked (idle_state s) || false) write_protected _ (or_with_false _ ∙ locked_idle s true h k)))

  pub locked_unmap : IsRefused s (unmap tag 24) write_protected
  locked_unmap =
      answers s (unmap tag 24) write_protected h refl
      (leaves (not (mended (idle_state s) || locked (idle_state s))) not_ready write_protected _ passes_mending
      (decides (locked (idle_state s) || false) write_protected _ (or_with_false _ ∙ locked_idle s true h k)))

  pub locked_frames : 3 ≤ free_slots s.translation → refusal s (asks 0x20 0xC4 tag (cdb.SecurityOut 0 512)) ≡ None
  locked_frames room =
      idle_decided s (asks 0x20 0xC4 tag (cdb.SecurityOut 0 512)) None h
      (skips (not (mended (idle_state s) || locked (idle_state s))) not_ready _ passes_mending
      (skips (nat_lt (free_slots (idle_state s).translation) 3) Busy _
      (le-ltb (free_slots (idle_state s).translation) 3
      (subst (λ (t : State). 3 ≤ free_slots t.translation) (idle_is s h) room)) refl))

-- ## Numbers that are known

-- the state with the numbers that it has
abbrev pub numbered : State → Numbers → State
numbered s n = record s { translation = record s.translation { numbers = n } }

pub decided : (s : State) (n : Numbers) (r : Request) (o : Option Status) → numbers_of s ≡ n →
    refusal (numbered s n) r ≡ o → refusal s r ≡ o
decided s n r o h e =
    subst (λ (t : State). refusal t r ≡ o) (λ i. record s { translation = record s.translation { numbers = sym h i } }) e

-- what is decided behind the line of the attention. The request does not meet an attention, or its LUN has none
pub untold : (s : State) (n : Numbers) (lun : Lun) (meets : Bool) (r : Request) (o rest : Option Status) →
    numbers_of s ≡ n → (has_attention s lun && meets) ≡ false →
    refusal (numbered s n) r ≡ (if has_attention (numbered s n) lun && meets then Some unit_attention else rest) →
    rest ≡ o → refusal s r ≡ o
untold s n lun meets r o rest is none lines e =
    decided s n r o is
    (lines
    ∙ cond-false (has_attention (numbered s n) lun && meets) (Some unit_attention) rest
    (subst (λ (t : State). (has_attention t lun && meets) ≡ false)
    (λ i. record s { translation = record s.translation { numbers = is i } }) none)
    ∙ e)

-- a LUN has none
pub clear : (b : Bool) → b ≡ false → (b && true) ≡ false
clear b none = ap (λ (has : Bool). has && true) none

-- ## A protected unit

-- of unit 1, which fPowerOnWPEn protects
abbrev by_power_on : State → Bool → Bool
by_power_on s flag = ((flag || false) || locked (numbered s protected_row)) || false

-- of unit 2, which fPermanentWPEn protects
abbrev by_permanent : State → Bool → Bool
by_permanent s flag = (flag || locked (numbered s protected_row)) || false

module _ (s : State) (tag : ℕ) (is : numbers_of s ≡ protected_row) (ready : mended s ≡ true) where
  refused : (r : Request) (applies : Bool) (later : Option Status) →
      refusal (numbered s protected_row) r
      ≡ (if not (mended s || locked (numbered s protected_row)) then Some not_ready else if applies then Some write_protected else later) →
      applies ≡ true → refusal s r ≡ Some write_protected
  refused r applies later lines on =
      decided s protected_row r (Some write_protected) is
      (lines
      ∙ leaves (not (mended s || locked (numbered s protected_row))) not_ready write_protected _ (once_mended _ _ ready) (decides applies write_protected later on))

  pub power_on_write : s.volatile.power_on ≡ true → refusal s (asks 0x20 1 tag (write_at 0)) ≡ Some write_protected
  power_on_write on =
      refused (asks 0x20 1 tag (write_at 0)) (by_power_on s s.volatile.power_on) _ refl (ap (by_power_on s) on)

  pub power_on_unmap : s.volatile.power_on ≡ true → refusal s (asks 0x20 1 tag (cdb.Unmap 24)) ≡ Some write_protected
  power_on_unmap on =
      refused (asks 0x20 1 tag (cdb.Unmap 24)) (by_power_on s s.volatile.power_on) _ refl (ap (by_power_on s) on)

  pub permanent_write : (plain_now s).permanent ≡ true →
      refusal s (asks 0x20 2 tag (write_at 0)) ≡ Some write_protected
  permanent_write on =
      refused (asks 0x20 2 tag (write_at 0)) (by_permanent s (plain_now s).permanent) _ refl (ap (by_permanent s) on)

  pub permanent_unmap : (plain_now s).permanent ≡ true →
      refusal s (asks 0x20 2 tag (cdb.Unmap 24)) ≡ Some write_protected
  permanent_unmap on =
      refused (asks 0x20 2 tag (cdb.Unmap 24)) (by_permanent s (plain_now s).permanent) _ refl (ap (by_permanent s) on)

  passes : (r : Request) →
      refusal (numbered s protected_row) r
      ≡ (if not (mended s || locked (numbered s protected_row)) then Some not_ready
      else if nat_lt (free_slots (numbered s protected_row).translation) 0 then Some Busy else None) →
      refusal s r ≡ None
  passes r lines =
      decided s protected_row r None is
      (lines
      ∙ skips (not (mended s || locked (numbered s protected_row))) not_ready _ (once_mended _ _ ready)
      (skips (nat_lt (free_slots (numbered s protected_row).translation) 0) Busy None
      (needs_none (numbered s protected_row)) refl))

  pub no_blocks : (forced : Bool) → refusal s (asks 0x20 1 tag (cdb.Write 0 0 forced)) ≡ None
  no_blocks true = passes (asks 0x20 1 tag (cdb.Write 0 0 true)) refl
  no_blocks false = passes (asks 0x20 1 tag (cdb.Write 0 0 false)) refl

  pub header : refusal s (asks 0x20 1 tag (cdb.Unmap 8)) ≡ None
  header = passes (asks 0x20 1 tag (cdb.Unmap 8)) refl

  pub no_list : refusal s (asks 0x20 1 tag (cdb.Unmap 0)) ≡ None
  no_list = passes (asks 0x20 1 tag (cdb.Unmap 0)) refl
