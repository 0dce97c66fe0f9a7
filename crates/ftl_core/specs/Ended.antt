-- How a job ended, for whoever waits for it, with the block of a read itself in place of the reference to it.
use Rattle.std.specs.Prelude.{ℕ, List, Option, option_copied}
use Rattle.ftl_core.specs.declared.ftl.Ended.{Ended}
use Rattle.ftl_core.specs.declared.ftl.Ended.TheVariants as ended

-- a read gives its reader the block of this index, or none; any other job gives nothing
pub data EndedNow : Type 0 where
  Read : (reader : ℕ) → (index : ℕ) → (body : Option (List ℕ)) → EndedNow
  Other : EndedNow

-- the same, from its form in code: the block is the one that the reference points to
abbrev pub ended_now : Ended → EndedNow
ended_now (ended.Read reader index body) = Read reader index (option_copied body)
ended_now ended.Other = Other
