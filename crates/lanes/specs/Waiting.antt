-- What a host that waits for a reply has done.
use Rattle.std.specs.Prelude.{◌≡◌, ℕ, suc, zero, List, Some, None}
use Rattle.ufs_spec.specs.Dies.{DieState}
use Rattle.lanes.specs.declared.view.Made.TheVariants as made
use Rattle.lanes.specs.declared.view.View.{View}
use Rattle.lanes.specs.Rule.{Did}

-- the seat asked so many times for a reply, and none was due
abbrev pub AskedTimes : {D : Type 0} → (D → DieState) → ℕ → View D → View D → Type 0
AskedTimes state zero v w = w ≡ v
AskedTimes {D} state (suc n) v w =
    (between : View D) × AskedTimes state n v between × Did state between (made.Reply None) None w

-- the seat asked some number of times for a reply, and none was due
abbrev pub AskedInVain : {D : Type 0} → (D → DieState) → View D → View D → Type 0
AskedInVain state v w = (n : ℕ) × AskedTimes state n v w

-- the seat asked until this reply was handed out
abbrev pub HeardAfter : {D : Type 0} → (D → DieState) → View D → List ℕ → View D → Type 0
HeardAfter {D} state v bytes w =
    (between : View D) × AskedInVain state v between × Did state between (made.Reply (Some bytes)) None w
