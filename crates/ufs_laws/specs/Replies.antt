-- What a task and a short exchange need so that each of their replies is a message of the grammar.
use Rattle.std.specs.List.{All}
use Rattle.std.specs.Prelude.{◌≡◌, ◌≤◌, ◌<◌, ◌+◌, ◌*◌, ◌^◌, ℕ, length, slice_get, take, Some}
use Rattle.ufs_spec.specs.Exchanges.{Answering, Awaiting, Comparing, Deed, Gathering, ReadBlock}
use Rattle.ufs_spec.specs.declared.exchanges.Status.TheVariants.{Busy, CheckCondition, Good, TaskSetFull}
use Rattle.ufs_spec.specs.Exchanges.{ReadingArea, Sending, SendingBytes, Short, Task, bytes_sent, to_gather}
use Rattle.ufs_spec.specs.declared.exchanges.Status.{Status}
use Rattle.ufs_spec.specs.Keys.{IsBlock}
use Rattle.ufs_spec.specs.Messages.{IsByte, IsMessage, IsTransferred}
use Rattle.ufs_spec.specs.Refusals.{State}
use Rattle.ufs_spec.specs.declared.volatile.Volatile.{Volatile}

-- the sense data are bytes
abbrev pub IsStatus : Status → Type 0
IsStatus (CheckCondition sense) = IsByte sense.key × IsByte sense.asc × IsByte sense.ascq
IsStatus Good = Unit {0}
IsStatus Busy = Unit {0}
IsStatus TaskSetFull = Unit {0}

-- what it does, of a command of so many bytes of which so many are sent: it asks for bytes of it that are missing; it sends
-- no block past the last byte that is sent, and each is 4096 bytes; it compares no block past the last byte
abbrev pub DeedSpeaks : ℕ → ℕ → Deed → Type 0
DeedSpeaks total sent_bytes (Gathering purpose gathered asked) =
    (length gathered < to_gather purpose total) × (to_gather purpose total ≤ total)
DeedSpeaks total sent_bytes (Sending blocks sent) =
    (sent < length blocks) × (4096 * length blocks < sent_bytes + 4096)
    × ((k : ℕ) (block : ReadBlock) → slice_get blocks k ≡ Some block → IsBlock block.body)
DeedSpeaks total sent_bytes (SendingBytes bytes) = IsTransferred (take sent_bytes bytes)
DeedSpeaks total sent_bytes (Awaiting commands) = Unit {0}
DeedSpeaks total sent_bytes (ReadingArea pages) = Unit {0}
DeedSpeaks total sent_bytes (Comparing blocks compared asked) =
    (compared < length blocks) × (4096 * length blocks ≤ total)
DeedSpeaks total sent_bytes (Answering status carried) = IsStatus status × (carried < 2 ^ 32)

-- its LUN and tag are bytes, and its numbers fit their fields
pub record TaskSpeaks (task : Task) : Type 0 where
  pub lun : IsByte task.lun
  pub tag : IsByte task.tag
  pub expected : task.expected < 2 ^ 32
  pub length : task.length < 2 ^ 32
  pub deed : DeedSpeaks task.length (bytes_sent task) task.deed

-- its reply is a message, and so is the one that a lock makes of it
pub record ShortSpeaks (short : Short) : Type 0 where
  pub reply : IsMessage short.reply
  pub locked_reply : IsMessage short.locked_reply

-- what is volatile fits the field in which a response tells it
pub record VolatileFits (volatile : Volatile) : Type 0 where
  pub level : volatile.current_level < 2 ^ 32
  pub clock : volatile.clock < 2 ^ 32

-- each short exchange that is open does so, and so will each that a query opens
pub record ShortsSpeak (s : State) : Type 0 where
  pub shorts : All ShortSpeaks s.shorts
  pub volatile : VolatileFits s.volatile
