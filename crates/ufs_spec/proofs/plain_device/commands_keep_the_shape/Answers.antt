use Rattle.ufs_spec.proofs.PlainFacts.{new_shape, kept_shape, kept_shapes}
use Rattle.ufs_spec.proofs.plain_device.commands_keep_the_shape.Goals as goal

pub returns-clause-new_device : goal.returns-clause-new_device
returns-clause-new_device c = new_shape

pub returns-clause-one : goal.returns-clause-one
returns-clause-one c = kept_shape

pub returns-clause-many : goal.returns-clause-many
returns-clause-many c = kept_shapes
