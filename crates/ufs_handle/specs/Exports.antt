-- What an export answers, as a number that stands for the answer of a call.
use Rattle.std.specs.Prelude.{◌≡◌, ◌<◌, ◌≤◌, ℕ, Bool, true, List, [], ◌++◌, Option, Some, None, Result, Ok, Err, length, map}
use Rattle.std.specs.Prelude.{drop, is_some, replicate}
use Rattle.ufs_spec.specs.Dies.{new_die}
use Rattle.ufs_spec.specs.declared.flash.Job.{Job}
use Rattle.ufs_spec.specs.declared.flash.Outcome.{Outcome}
use Rattle.ufs_handle.specs.Calls.{Called, Ends, Fails, IsOpen, Replies, StopsSo, Takes}
use Rattle.ufs_handle.specs.Kept.{HeldState}
use Rattle.ufs_handle.specs.Plain.{IsOutcome, SaysLefts, SaysOutcome, config_numbers, left_number, numbers_fault}
use Rattle.ufs_handle.specs.Plain.{plain_of}
use Rattle.ufs_handle.specs.declared.fault.Fault.{Fault}
use Rattle.ufs_handle.specs.declared.fault.Fault.TheVariants as fault
use Rattle.ufs_handle.specs.declared.left.Left.{Left}
use Rattle.ufs_handle.specs.declared.plain.PlainConfig.{PlainConfig}
use Rattle.ufs_handle.specs.declared.plain.PlainJob.{PlainJob}
use Rattle.ufs_handle.specs.declared.plain.PlainUnit.{PlainUnit}

-- the number is that of an answer for which this holds
abbrev pub Numbered : {A : Type 0} → (A → ℕ) → ℕ → (A → Type 0) → Type 0
Numbered {A} number n P = (answer : A) × (n ≡ number answer) × P answer

-- why a handle opens no device: it holds one; else why its numbers are no configuration; else `Otherwise`
abbrev pub IsWhyNot : Option HeldState → Option Fault → (Fault → Type 0) → Fault → Type 0
IsWhyNot (Some h) wrong Otherwise f = f ≡ fault.Open
IsWhyNot None (Some why) Otherwise f = f ≡ why
IsWhyNot None None Otherwise f = Otherwise f

-- the handle held no device, the numbers are a configuration, and it holds a device of it over new dies; or it holds what
-- it held, and why: of two faults the one that IsWhyNot has first, and want of memory last
abbrev pub OpensNew : PlainConfig → List PlainUnit → Option HeldState → Result (Unit {0}) Fault → Option HeldState → Type 0
OpensNew config units before (Ok _) after =
    (before ≡ None) × (numbers_fault config units ≡ None)
    × IsOpen (config_numbers config units) (replicate config.dies (new_die config.blocks config.pages)) after
OpensNew config units before (Err f) after =
    (after ≡ before) × IsWhyNot before (numbers_fault config units) (λ why. why ≡ fault.NoMemory) f

-- the bytes of a reply stand at the front of the room, and how many they are; or nothing was written
abbrev pub IsHandedOut : Option Bool → List ℕ → List ℕ → List ℕ → ℕ → ℕ → Type 0
IsHandedOut (Some true) bytes room into count n =
    (n ≡ length bytes) × (length bytes ≤ length room) × (into ≡ bytes ++ drop (length bytes) room)
IsHandedOut flag bytes room into count n = (into ≡ room) × (n ≡ count)

-- a reply was asked for of a device, and was handed out where one was due
abbrev pub HandsReply : List ℕ → List ℕ → ℕ → ℕ → HeldState → Bool → HeldState → Type 0
HandsReply room into count n h flag after =
    (bytes : List ℕ) × Replies [] bytes h flag after × IsHandedOut (Some flag) bytes room into count n

-- the same of a handle
abbrev pub GivesReply : List ℕ → List ℕ → ℕ → ℕ → Option HeldState → Option Bool → Option HeldState → Type 0
GivesReply room into count n before flag after =
    (bytes : List ℕ) × Called (Replies [] bytes) before flag after × IsHandedOut flag bytes room into count n

-- how many bytes a reply has at most
abbrev pub most_reply : ℕ
most_reply = 4128

-- a reply was asked for; nothing was where the room is too small for the longest one
abbrev pub RepliesInto : List ℕ → List ℕ → ℕ → ℕ → Option HeldState → Option (Option Bool) → Option HeldState → Type 0
RepliesInto room into count n before None after =
    (length room < most_reply) × (into ≡ room) × (n ≡ count) × (after ≡ before)
RepliesInto room into count n before (Some flag) after =
    (most_reply ≤ length room) × GivesReply room into count n before flag after

-- the job that was given, in place of another one; where none was, that one stays
abbrev pub IsJobShown : Option (Option Job) → PlainJob → PlainJob → Type 0
IsJobShown (Some (Some job)) before after = after ≡ plain_of job before
IsJobShown answer before after = after ≡ before

-- whether a job was given
abbrev pub is_given : Option (Option Job) → Option Bool
is_given None = None
is_given (Some answer) = Some (is_some answer)

-- a job for the die was asked for of a device: whether one was given, and what is shown of it
abbrev pub HandsJob : ℕ → PlainJob → PlainJob → HeldState → Bool → HeldState → Type 0
HandsJob die shown after h flag held =
    (answer : Option Job) × (flag ≡ is_some answer) × Takes die h answer held × IsJobShown (Some answer) shown after

-- the same of a handle
abbrev pub GivesJob : ℕ → PlainJob → PlainJob → Option HeldState → Option Bool → Option HeldState → Type 0
GivesJob die shown after before flag held =
    (answer : Option (Option Job)) × (flag ≡ is_given answer) × Called (Takes die) before answer held
    × IsJobShown answer shown after

-- a die of the program's own ended its job in a way that the number and the page stand for; nothing was told where they
-- stand for none
abbrev pub EndsSo : ℕ → ℕ → List ℕ → Option HeldState → Option (Option Bool) → Option HeldState → Type 0
EndsSo die how page before None after = (SaysOutcome how page → ⊥) × (after ≡ before)
EndsSo die how page before (Some flag) after =
    SaysOutcome how page
    × ((outcome : Outcome) × IsOutcome how page outcome × Called (Ends die outcome) before flag after)

-- a job of a die in memory failed, and left what the number stands for; nothing failed where it stands for nothing
abbrev pub FailsSo : ℕ → ℕ → Option HeldState → Option (Option Bool) → Option HeldState → Type 0
FailsSo die number before None after = (2 < number) × (after ≡ before)
FailsSo die number before (Some flag) after =
    (left : Left) × (left_number left ≡ number) × Called (Fails die left) before flag after

-- the power went, and left what the numbers stand for; it did not where one of them stands for nothing
abbrev pub StopsAll : List ℕ → Option HeldState → Option (Option (Result (Unit {0}) Fault)) → Option HeldState → Type 0
StopsAll numbers before None after = (SaysLefts numbers → ⊥) × (after ≡ before)
StopsAll numbers before (Some answer) after =
    SaysLefts numbers × ((lefts : List Left) × (map left_number lefts ≡ numbers) × StopsSo lefts before answer after)
