use Rattle.ufs_laws.proofs.Common.{[]}
use Rattle.ufs_laws.proofs.frame_laws.RegistersEmptied.{at_another, at_own}
use Rattle.ufs_laws.proofs.requests.frames_are_handed_out_once.Goals as goal

pub returns-clause-emptied : goal.returns-clause-emptied
returns-clause-emptied c s r unit region n = at_own s.registers region (record (s.registers region) { response = [] })

pub returns-clause-others : goal.returns-clause-others
returns-clause-others c s r unit region n other differ =
    at_another s.registers region (record (s.registers region) { response = [] }) other differ
