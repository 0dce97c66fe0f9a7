-- What is in the free blocks of a die.
use Rattle.std.specs.Prelude.{◌≡◌, ℕ, false, Contains}
use Rattle.ufs_spec.specs.Disk.{Free, Spot, Vacancy}
use Rattle.ufs_spec.specs.Translation.{Translation, is_pinned, spots_of}

-- the block is one of this die's and is free, this is what is in it, and nobody keeps a page of it
pub record IsVacantOn (t : Translation) (die : ℕ) (s : Spot) (v : Vacancy) : Type 0 where
  pub there : Contains (spots_of t.numbers die) s
  pub free : t.disk.blocks s ≡ Free
  pub vacancy : t.disk.vacancies s ≡ v
  pub not_kept : is_pinned t s ≡ false
