-- What a move of the translation layer does to the groups that are accepted and not durable.
use Rattle.std.specs.Prelude.{◌≡◌, ℕ, ◌+◌, ◌<◌, not, Bool, false, length, Option, Some, None}
use Rattle.ufs_spec.specs.Cells.{GroupPage}
use Rattle.ufs_spec.specs.Disk.{Flight, Programming}
use Rattle.ufs_spec.specs.Keys.{Group}
use Rattle.ufs_spec.specs.Ledger.{Ledger, durable_contents, group_at, is_standing, pending}
use Rattle.ufs_spec.specs.Moves.{Accept, EndJob, Move, WentWell}
use Rattle.ufs_spec.specs.Translation.{Translation}

-- the group that the move accepts
abbrev pub accepted_by : Move → Option Group
accepted_by (Accept claimed group) = Some group
accepted_by move = None

-- the job programs a page of a group that stands nowhere yet
abbrev pub is_new_page : Ledger → Option Flight → Bool
is_new_page l (Some (Programming place (GroupPage tag body))) = not (is_standing l tag.number tag.index)
is_new_page l flight = false

-- the move ends such a job well
abbrev pub brings_page : Translation → Move → Bool
brings_page t (EndJob die WentWell) = is_new_page t.ledger (t.disk.flights die)
brings_page t move = false

-- the group after the frontier has a page that does not stand
abbrev pub FrontierStops : Ledger → Type 0
FrontierStops l =
    (g : Group) → group_at l (l.frontier + 1) ≡ Some g →
    (i : ℕ) × (i < length g) × (l.standing (l.frontier + 1) i ≡ None)

-- the same groups are pending, and the same contents are durable
abbrev pub PendingStays : Ledger → Ledger → Type 0
PendingStays before now = (pending now ≡ pending before) × (durable_contents now ≡ durable_contents before)
