-- What is volatile may change on both sides: no other part of what is kept, or of the state, looks at it.
use Rattle.device.proofs.Common.{Describes, DeviceCore, IsBehind, Keeps, State, Volatile, ◌≡◌}
use Rattle.power_loss.proofs.calls.RightChanges.{right_keeps}
use Rattle.power_loss.proofs.host_commands.OpenedByCommands.{volatile_right}

keeps_volatile : (d : DeviceCore) (s : State) (v w : Volatile) → v ≡ w → Keeps d s →
    Keeps (record d { volatile = v }) (record s { volatile = w })
keeps_volatile d s v w same k = record {
  boot = k.boot;
  permanent = k.permanent;
  each = k.each;
  region = k.region;
  registers = k.registers;
  layer_kept = k.layer_kept;
  few = k.few;
  tasks = k.tasks;
  one_sends = k.one_sends;
  wanted = k.wanted;
  claims = k.claims;
  shorts = k.shorts;
  volatile = same;
}

pub volatile_changed : (d : DeviceCore) (s : State) (v w : Volatile) → v ≡ w → IsBehind d s →
    IsBehind (record d { volatile = v }) (record s { volatile = w })
volatile_changed d s v w same h = record {
  keeps = keeps_volatile d s v w same h.keeps;
  answered = h.answered;
  told = h.told;
  shorts_told = h.shorts_told;
}

pub volatile_described : (d : DeviceCore) (s : State) (v w : Volatile) → v ≡ w → Describes d s →
    Describes (record d { volatile = v }) (record s { volatile = w })
volatile_described d s v w same h = record {
  tied = right_keeps (volatile_right w h.tied) h.tied;
  shows = h.shows;
  waits = h.waits;
  reads = h.reads;
  kept = keeps_volatile d s v w same h.kept;
  answered = h.answered;
  told = h.told;
  shorts_told = h.shorts_told;
}
