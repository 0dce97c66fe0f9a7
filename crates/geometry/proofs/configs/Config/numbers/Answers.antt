use Rattle.ufs_spec.proofs.ConfigFacts.{ranges, room, config_tests}
use Rattle.geometry.proofs.configs.Config.numbers.Goals as goal

pub returns-clause-ranges : goal.returns-clause-ranges
returns-clause-ranges c =
    rw (← c.self.view_is) (ranges c.self.inside.numbers (config_tests c.self.inside.numbers c.self.invariant).0)

pub returns-clause-room : goal.returns-clause-room
returns-clause-room c = rw (← c.self.view_is) (room c.self.inside.numbers c.self.invariant)

pub returns-clause-boot_units : goal.returns-clause-boot_units
returns-clause-boot_units c =
    rw (← c.self.view_is)
    (let tests = config_tests c.self.inside.numbers c.self.invariant in (tests.2, tests.3))
