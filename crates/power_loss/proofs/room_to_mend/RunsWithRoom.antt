-- Each life of a run over new dies has no more keys to repair than the write cache has slots, so the room that groups
-- leave is enough for its mending.
use Rattle.power_loss.proofs.Common.{◌≡◌, ◌+◌, ◌-◌, ◌≤◌, All, Bool, List, ◌∷◌, false, Array, Sound, Spot, is_free}
use Rattle.power_loss.proofs.Common.{Numbers}
use Rattle.power_loss.proofs.MachineWords.{DieState, IsArrayOf, IsConfig, IsLived, IsOpened, Life, Lived, Lives, Runs}
use Rattle.power_loss.proofs.MachineWords.{array_of, Event, Output, State, mended}
use Rattle.std.specs.List.{count_by}
use Rattle.ufs_spec.specs.Lives.{bad_of}
use Rattle.ufs_spec.specs.Translation.{count_blocks, least_room}
use Rattle.power_loss.specs.FewRepairs.{ArrayHasFewLost, still_lost}
use Rattle.power_loss.specs.MendingRoom.{IsNeverStuck, MayGoOn, makes_bad}
use Rattle.power_loss.specs.Runs.{AreNewDies}
use Rattle.power_loss.proofs.repaired_keys.LivesMendSoon.{each_life, each_life_of_a_run, few_keys, listed}
use Rattle.power_loss.proofs.room_to_mend.DevicesWithRoom.{device_with_least_room}

pub few_lost_go_on : (n : Numbers) (array : Array) (bad : Spot → Bool) (s t : State) (es : List Event)
    (os : List Output) → IsConfig n → IsArrayOf n array → Sound array → ArrayHasFewLost n array →
    IsOpened n array bad s → least_room n - n.dies + count_by makes_bad es ≤ count_blocks s.translation is_free →
    Life s es os t → mended t ≡ false → MayGoOn t.translation
few_lost_go_on n array bad s t es os config blank sound few o free life un =
    let w = s.translation.work.mending in
    device_with_least_room n array bad s t es os (still_lost w) config blank sound o
    (listed n s.translation.ledger.newest w o.translation.mending) (few_keys n array bad s few o) free life un

never_stuck : (n : Numbers) (array : Array) (bad : Spot → Bool) (l : Lived) → IsConfig n → IsArrayOf n array →
    Sound array → ArrayHasFewLost n array → IsLived n array bad l → IsNeverStuck n l
never_stuck n array bad l config blank sound few h es os middle life free un =
    few_lost_go_on n array bad l.start middle es os config blank sound few h.0 free life un

pub lives_never_stuck : (n : Numbers) (array : Array) (bad : Spot → Bool) (first : Lived) (later : List Lived)
    (es : List Event) (os : List Output) → IsConfig n → IsArrayOf n array → Sound array → ArrayHasFewLost n array →
    Lives n array bad first later es os → All (IsNeverStuck n) (first ∷ later)
lives_never_stuck n array bad first later es os config =
    each_life (IsNeverStuck n) n array bad first later es os (λ a b l. never_stuck n a b l config) config

pub runs_never_stuck : (n : Numbers) (dies : List DieState) (s t : State) (es : List Event) (os : List Output) →
    IsConfig n → AreNewDies n dies → IsOpened n (array_of dies) (bad_of dies) s → Runs n s es os t →
    (first : Lived) × (later : List Lived) × Lives n (array_of dies) (bad_of dies) first later es os
    × All (IsNeverStuck n) (first ∷ later)
runs_never_stuck n dies s t es os config =
    each_life_of_a_run (IsNeverStuck n) n dies s t es os (λ a b l. never_stuck n a b l config) config
