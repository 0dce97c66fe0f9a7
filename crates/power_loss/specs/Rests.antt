-- What a rest of an accepted group is.
use Rattle.std.specs.Prelude.{◌≡◌, ℕ, true, Some, slice_get}
use Rattle.ufs_spec.specs.Keys.{Group, Item}
use Rattle.ufs_spec.specs.Ledger.{look, next_number}
use Rattle.ufs_spec.specs.Translation.{Rest, Translation, is_in_part, source_of}

-- it is of an item that a command has in part, and comes from where the item's key is looked up when the group is
-- accepted
pub record IsRestOf (t : Translation) (g : Group) (rest : Rest) : Type 0 where
  pub index : ℕ
  pub item : Item
  pub at : slice_get g index ≡ Some item
  pub in_part : is_in_part item.key ≡ true
  pub name : rest.name ≡ record { number = next_number t.ledger; index = index }
  pub source : source_of t.work.rests (look t.ledger item.key) ≡ Some rest.source
