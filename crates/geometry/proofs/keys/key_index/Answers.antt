use Rattle.std.proofs.Common.{rules, Some}
use Rattle.ufs_spec.specs.Plain.{shape_of_numbers as shape}
use Rattle.geometry.proofs.Indexes.{tells_known, tells_order}
use Rattle.geometry.proofs.KeyIndexes.{tells_value}
use Rattle.geometry.proofs.keys.key_index.Goals as goal

pub returns-in-1-clause-is : goal.returns-in-1-clause-is
returns-in-1-clause-is c = search rules

pub returns-in-1-clause-known : goal.returns-in-1-clause-known
returns-in-1-clause-known c =
    tells_known (shape c.args.numbers.now) c.args.key c.data_index.result (returns-in-1-clause-is c)

pub returns-in-1-clause-order : goal.returns-in-1-clause-order
returns-in-1-clause-order c =
    tells_order (shape c.args.numbers.now) c.args.key c.data_index.result (returns-in-1-clause-is c)

pub returns-in-2-clause-is : goal.returns-in-2-clause-is
returns-in-2-clause-is c = search rules

pub returns-in-2-clause-known : goal.returns-in-2-clause-known
returns-in-2-clause-known c =
    tells_known (shape c.args.numbers.now) c.args.key c.area_index.result (returns-in-2-clause-is c)

pub returns-in-2-clause-order : goal.returns-in-2-clause-order
returns-in-2-clause-order c =
    tells_order (shape c.args.numbers.now) c.args.key c.area_index.result (returns-in-2-clause-is c)

pub returns-in-3-clause-is : goal.returns-in-3-clause-is
returns-in-3-clause-is c = search rules

pub returns-in-3-clause-known : goal.returns-in-3-clause-known
returns-in-3-clause-known c =
    tells_known (shape c.args.numbers.now) c.args.key (Some c.settings_index.result) (returns-in-3-clause-is c)

pub returns-in-3-clause-order : goal.returns-in-3-clause-order
returns-in-3-clause-order c =
    tells_order (shape c.args.numbers.now) c.args.key (Some c.settings_index.result) (returns-in-3-clause-is c)

pub returns-in-1-clause-value : goal.returns-in-1-clause-value
returns-in-1-clause-value c =
    tells_value (shape c.args.numbers.now) c.args.key c.data_index.result (returns-in-1-clause-is c)

pub returns-in-2-clause-value : goal.returns-in-2-clause-value
returns-in-2-clause-value c =
    tells_value (shape c.args.numbers.now) c.args.key c.area_index.result (returns-in-2-clause-is c)

pub returns-in-3-clause-value : goal.returns-in-3-clause-value
returns-in-3-clause-value c =
    tells_value (shape c.args.numbers.now) c.args.key (Some c.settings_index.result) (returns-in-3-clause-is c)
