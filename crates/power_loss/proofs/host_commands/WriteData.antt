-- A WRITE that has all its data.
use Rattle.power_loss.proofs.Common.{Accept, All, CanApply, IsAllowedMove, IsBlock, List, Shape, Some, arith, below}
use Rattle.power_loss.proofs.Common.{data_key, drop, false, get_or, group_of, is_mended, length, length-drop}
use Rattle.power_loss.proofs.Common.{length-map, length-take-le, refl, shape_of_numbers, subst, suc, sym, true, zero, ℕ}
use Rattle.power_loss.proofs.Common.{◌*◌, ◌+◌, ◌<◌, ◌≡◌, ◌≤◌}
use Rattle.power_loss.proofs.MachineWords.{Command, Task, task_of, blocks_in, AreBytes, State, locked, numbers_of}
use Rattle.power_loss.proofs.MachineWords.{plain_now, IsTied, claim_of}
use Rattle.ufs_spec.proofs.ConfigFacts.{command_blocks-few}
use Rattle.ufs_spec.specs.Commands as command
use Rattle.ufs_spec.specs.Configs.{command_blocks}
use Rattle.ufs_spec.specs.Plain.{greatest_command}
use Rattle.ufs_laws.proofs.pages.ByteLists.{bytes-drop, bytes-take}
use Rattle.ufs_laws.proofs.plain_contents.ListParts.{length-below}
use Rattle.power_loss.proofs.host_commands.AcceptedCommands.{IsComing, command_allowed, shape_tied}

-- Data in blocks

pub length-blocks_in : (n : ℕ) (bytes : List ℕ) → length (blocks_in n bytes) ≡ n
length-blocks_in zero bytes = refl
length-blocks_in (suc n) bytes = let rest = length-blocks_in n (drop 4096 bytes) in omega arith

pub are_blocks : (n : ℕ) (bytes : List ℕ) → length bytes ≡ 4096 * n → AreBytes bytes → All IsBlock (blocks_in n bytes)
are_blocks zero bytes long is k d lt = absurd (omega arith)
are_blocks (suc n) bytes long is zero d lt = (length-take-le 4096 bytes (omega arith), bytes-take 4096 bytes is)
are_blocks (suc n) bytes long is (suc k) d lt =
    are_blocks n (drop 4096 bytes) (let l = length-drop 4096 bytes in omega arith) (bytes-drop 4096 bytes is) k d
    (omega arith)

-- It is accepted

pub record MayAccept (s : State) (task : Task) (unit address blocks : ℕ) (bytes : List ℕ) : Type 0 where
  pub there : task_of task.tag s.tasks ≡ Some task
  pub claim : claim_of (numbers_of s) task ≡ blocks
  pub few : blocks ≤ s.translation.claims
  pub unit_in : unit < length (shape_of_numbers (numbers_of s)).blocks
  pub some : 1 ≤ blocks
  pub not_long : blocks ≤ command_blocks (numbers_of s)
  pub within : address + blocks ≤ get_or (shape_of_numbers (numbers_of s)).blocks unit 0
  pub long : length bytes ≡ 4096 * blocks
  pub are_bytes : AreBytes bytes
  pub mended : is_mended s.translation.work.mending ≡ true

abbrev pub write_of : ℕ → ℕ → ℕ → List ℕ → Command
write_of unit address blocks bytes = command.Write unit address (blocks_in blocks bytes)

module _ (s : State) (task : Task) (unit address blocks : ℕ) (bytes : List ℕ) (v : IsTied s)
    (a : MayAccept s task unit address blocks bytes) where
  pub can_write : CanApply (plain_now s) (write_of unit address blocks bytes)
  can_write =
      let count = length-blocks_in blocks bytes in
      let some = a.some in
      let most = a.not_long in
      let least = command_blocks-few (numbers_of s) in
      let room = a.within in (
        subst
            (λ (x : Shape). (unit < length x.blocks) × (1 ≤ length (blocks_in blocks bytes))
            × (length (blocks_in blocks bytes) ≤ greatest_command)
            × (address + length (blocks_in blocks bytes) ≤ get_or x.blocks unit 0))
            (sym (shape_tied v)) (a.unit_in, omega arith, omega arith, omega arith),
        tt,
      )

  pub write_coming : locked s ≡ false → IsComing s (write_of unit address blocks bytes) blocks
  write_coming free = record {
    is = are_blocks blocks bytes a.long a.are_bytes;
    can = can_write;
    few =
        let keys = length-map (below (length (blocks_in blocks bytes))) (λ i. data_key unit (address + i)) in
        let numbers = length-below (length (blocks_in blocks bytes)) in
        let count = length-blocks_in blocks bytes in
        omega arith;
    short = a.not_long;
    is_mended = a.mended;
    unlocked = free;
  }

  pub accept_allowed : locked s ≡ false →
      IsAllowedMove s.translation (Accept blocks (group_of (plain_now s) (write_of unit address blocks bytes)))
  accept_allowed free = command_allowed v (write_coming free) a.few
