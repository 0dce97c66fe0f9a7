-- What a stop leaves, by what is durable and what is pending at the stop.
use Rattle.std.specs.Prelude.{ℕ, ◌≤◌, Option, length, take}
use Rattle.ufs_spec.specs.Cells.{Cells, Mark}
use Rattle.ufs_spec.specs.Keys.{put_groups}
use Rattle.ufs_spec.specs.Kept.{HoldAll}
use Rattle.ufs_spec.specs.Ledger.{durable_contents, pending}
use Rattle.ufs_spec.specs.Translation.{Translation}

-- the contents that are durable, with those of a front of the pending groups put in
pub record IsFront (t : Translation) (c : Cells) (m : Option Mark) (kept : ℕ) : Type 0 where
  pub count : ℕ
  pub within : count ≤ length (pending t.ledger)
  pub holds : HoldAll t.numbers c m kept (put_groups (durable_contents t.ledger) (take count (pending t.ledger)))
