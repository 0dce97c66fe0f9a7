-- What a host can change on a device (JESD220, 10.8 logical units, 12.4 RPMB; the six commands are this profile's).
use Rattle.std.specs.Prelude.{ℕ, List}
use Rattle.ufs_spec.specs.declared.commands.Cmd.{Cmd}
use Rattle.ufs_spec.specs.declared.commands.Cmd.TheVariants as cmd

-- what changes the plain state once it is accepted. A read, a flush or a refused request is no
-- command here: it changes nothing
pub data Command : Type 0 where
  -- 1 to 128 blocks are written to a unit, from an address on
  Write : (unit address : ℕ) → (blocks : List (List ℕ)) → Command
  -- 1 to 128 blocks of a unit, from an address on, become zeros (UNMAP)
  Zero : (unit address count : ℕ) → Command
  -- the key of 32 bytes of an RPMB region is programmed
  SetKey : (region : ℕ) → (key : List ℕ) → Command
  -- 1 to 8 blocks of 256 bytes are written to the area of an RPMB region; the address counts such blocks
  RpmbWrite : (region address : ℕ) → (bytes : List ℕ) → Command
  -- bBootLunEn becomes 0 to 2: no unit boots, the one with boot number A, or the one with B
  SetBoot : (boot : ℕ) → Command
  -- fPermanentWPEn is set, which nothing takes back
  SetPermanent : Command

-- the same command, from its form in code
abbrev pub command_of : Cmd → Command
command_of (cmd.Write unit address blocks) = Write unit address blocks.items
command_of (cmd.Zero unit address count) = Zero unit address count
command_of (cmd.SetKey region key) = SetKey region key
command_of (cmd.RpmbWrite region address bytes) = RpmbWrite region address bytes.items
command_of (cmd.SetBoot boot) = SetBoot boot
command_of cmd.SetPermanent = SetPermanent
