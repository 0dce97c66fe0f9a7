-- What the laws of UNMAP's slots speak of (SBC, UNMAP).
use Rattle.std.specs.Prelude.{◌≡◌, ◌+◌, ◌≤◌, ℕ, Bool, List, length, Some}
use Rattle.ufs_spec.specs.Exchanges.{Gathering, Task}
use Rattle.ufs_spec.specs.declared.exchanges.Purpose.TheVariants.{ForUnmap}
use Rattle.ufs_spec.specs.Translation.{Translation, pending_pages}
use Rattle.ufs_spec.specs.declared.scsi.Cdb.TheVariants as cdb

-- the task gathers the list of an UNMAP with one descriptor, for this unit
pub record GathersList (task : Task) (unit : ℕ) : Type 0 where
  pub gathered : List ℕ
  pub asked : Bool
  pub command : task.command ≡ Some (cdb.Unmap 24)
  pub deed : task.deed ≡ Gathering (ForUnmap unit) gathered asked

-- so many slots are claimed or more, all pages that are not durable and all claims have a slot, and neither repairs nor
-- the frontier are past the groups that there are
pub record HasClaimed (t : Translation) (count : ℕ) : Type 0 where
  pub claimed : count ≤ t.claims
  pub within : pending_pages t.ledger + t.claims ≤ t.numbers.slots
  pub repairs : t.ledger.repairs ≤ length t.ledger.groups
  pub frontier : t.ledger.frontier ≤ t.ledger.greatest_seen + length t.ledger.groups
