use Rattle.ufs_laws.proofs.plain_contents.NewDevice.{new_plain, new_zeros}
use Rattle.ufs_laws.proofs.array_cells.StandsForSomething.{NewIsPlain, NewIsZeros, new_sound, new_stands_for_zero}
use Rattle.ufs_laws.proofs.array_cells.StandsForSomething.{new_suits}
use Rattle.ufs_laws.proofs.arrays.new_dies_stand_for_zero.Goals as goal
use Rattle.ufs_spec.proofs.PlainFacts.{new_shape}

pub returns-clause-sound : goal.returns-clause-sound
returns-clause-sound c = new_sound

pub returns-clause-suits : goal.returns-clause-suits
returns-clause-suits c = new_suits

new_is_plain : NewIsPlain
new_is_plain = new_plain

new_is_zeros : NewIsZeros
new_is_zeros = new_zeros

pub returns-clause-zero : goal.returns-clause-zero
returns-clause-zero c = new_stands_for_zero new_shape new_is_plain new_is_zeros
