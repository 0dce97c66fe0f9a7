-- The number that the group of the next command will have. A flush waits for the number before it.
use Rattle.device.proofs.Common.{IsTied, State, ap, arith, before_accepted, length, length-drop, next_number, ◌+◌, ◌≡◌}
use Rattle.ufs_laws.proofs.plain_contents.GroupsOfCommands.{length-groups}

-- the next command's number is that of its group
pub number_awaited : (s : State) → IsTied s →
    next_number s.translation.ledger ≡ before_accepted s.translation.ledger + (length s.accepted + 1)
number_awaited s v =
    let within = v.valid.history.within in
    let all = ap length v.groups in
    let count = length-groups s.base s.accepted in
    let dropped = length-drop s.translation.ledger.repairs s.translation.ledger.groups in
    omega arith
