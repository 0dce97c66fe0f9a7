use Rattle.ufs_images.proofs.SavedDies.{saved}
use Rattle.ufs_images.proofs.an_image_opens_as_it_was_saved.Goals as goal

pub returns : goal.returns
returns c = saved
