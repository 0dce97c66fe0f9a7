-- What a journal notes of a life's commands, and what they may make of a plain state. A command that changes blocks or
-- the RPMB is noted once it is accepted. A setting is noted when it is asked for: its answer alone tells whether it was
-- accepted, since a device that is not mended, or has no free slot, refuses it at once (JESD220, 10.7.8).
use Rattle.std.specs.Prelude.{◌≡◌, ◌⊎◌, Bool, List, [], ◌∷◌, fold, ℕ, ◌==◌, ◌||◌, true, false, not}
use Rattle.ufs_spec.specs.Commands.{Command, SetBoot, SetPermanent, command_of}
use Rattle.ufs_spec.specs.Plain.{CanApply, Plain, apply}
use Rattle.journal.specs.declared.entries.Entry.{Entry}
use Rattle.journal.specs.declared.entries.Entry.TheVariants as entry
use Rattle.journal.specs.declared.entries.Setting.{Setting}
use Rattle.journal.specs.declared.entries.Setting.TheVariants as setting

-- a command that was accepted; a setting that may have been accepted or refused; or one that was refused
pub data Noted : Type 0 where
  Accepted : Command → Noted
  Doubted : Setting → Noted
  Refused : Noted

-- the same, from its form in code
abbrev pub noted_of : Entry → Noted
noted_of (entry.Accepted c) = Accepted (command_of c)
noted_of (entry.Doubted s) = Doubted s
noted_of entry.Refused = Refused

-- the command that a setting is
abbrev pub setting_command : Setting → Command
setting_command (setting.Boot boot) = SetBoot boot
setting_command setting.Permanent = SetPermanent

-- ## What the entries may make of a plain state

-- what one may make of it: a setting in doubt is there or not
abbrev pub Leads : Plain → Noted → Plain → Type 0
Leads p (Accepted c) q = q ≡ apply p c
Leads p (Doubted s) q = (q ≡ p) ⊎ (q ≡ apply p (setting_command s))
Leads p Refused q = q ≡ p

-- what all may make of it, one after another
abbrev pub IsAfter : Plain → List Noted → Plain → Type 0
IsAfter p [] q = q ≡ p
IsAfter p (e ∷ es) q = (m : Plain) × Leads p e m × IsAfter m es q

-- what one makes of it for sure
abbrev pub surely : Plain → Noted → Plain
surely p (Accepted c) = apply p c
surely p (Doubted s) = p
surely p Refused = p

-- what all make of it for sure, one after another
abbrev pub surely_after : Plain → List Noted → Plain
surely_after base entries = fold surely base entries

-- a command that was accepted may come in this state
abbrev pub CanCome : Plain → Noted → Type 0
CanCome p (Accepted c) = CanApply p c
CanCome p (Doubted s) = Unit {0}
CanCome p Refused = Unit {0}

-- each of the accepted ones may come in the state that those before it make
abbrev pub CanFollow : Plain → List Noted → Type 0
CanFollow p [] = Unit {0}
CanFollow p (e ∷ es) = CanCome p e × CanFollow (surely p e) es

-- ## Which settings may be there

-- whether this boot setting may be there after one entry more, if it may before (`shown`): an accepted one is there, and
-- one in doubt may be
abbrev pub boot_shown : ℕ → Bool → Noted → Bool
boot_shown boot shown (Accepted (SetBoot x)) = x == boot
boot_shown boot shown (Doubted (setting.Boot x)) = shown || (x == boot)
boot_shown boot shown e = shown

-- two flags are equal
abbrev pub same_flag : Bool → Bool → Bool
same_flag true other = other
same_flag false other = not other

-- the same for fPermanentWPEn
abbrev pub permanent_shown : Bool → Bool → Noted → Bool
permanent_shown flag shown (Accepted SetPermanent) = same_flag true flag
permanent_shown flag shown (Doubted setting.Permanent) = shown || same_flag true flag
permanent_shown flag shown e = shown
