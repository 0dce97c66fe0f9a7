-- A claim is shortened to the blocks that are unmapped, and these are accepted: as if they took the place of all of it.
use Rattle.device.proofs.Common.{Accept, AreClaimed, AreClaimedBy, Claims, Core, Group, IsAllowedMove, Key, List}
use Rattle.device.proofs.Common.{Release, Translation, [], arith, group_of_blocks, length, length-take, moved, subst}
use Rattle.device.proofs.Common.{with_claimed, ℕ, ◌≡◌, ◌≤◌}
use Rattle.std.proofs.Common.{take}
use Rattle.std.specs.Prelude.{◌-◌}
use Rattle.ftl_core.specs.Public.{Describes}
use Rattle.ftl_core.proofs.small_calls.ShortenedClaims.{shortened_accept, shortened_may}
use Rattle.device.specs.Unmaps.{HasPutZeros}
use Rattle.ftl_core.proofs.look_and_accept.GroupsAccepted.{items_length}
use Rattle.device.proofs.open_tasks.KeptByTag.{claimed_last, claimed_own}

-- what accepting the blocks that a reader has claimed makes of a layer
abbrev pub AcceptsBlocks : Core → Core → ℕ → Key → Type 0
AcceptsBlocks before after tag key =
    (t : Translation) (bodies : List (List ℕ)) → Describes before t → key.kind ≡ 1 → key.unit ≤ 7 →
    AreClaimedBy before tag bodies → IsAllowedMove t (Accept (length bodies) (group_of_blocks key bodies)) →
    Describes after (moved t (Accept (length bodies) (group_of_blocks key bodies)))

pub zeros_put : (short after : Core) (t : Translation) (claims : Claims) (tag : ℕ) (key : Key) (count : ℕ) →
    Describes short (moved t (Release (length (claims tag) - count))) →
    AreClaimed short (with_claimed claims tag (take count (claims tag))) → AcceptsBlocks short after tag key →
    ((others : Claims) → AreClaimed short others → AreClaimed after (with_claimed others tag [])) →
    HasPutZeros after t claims tag key count
zeros_put short after t claims tag key count layer mine accepts claimed may = (
  subst (Describes after) (shortened_accept t all few blocks within)
      (accepts (moved t (Release (all - few))) first
      (subst (λ (n : ℕ). Describes short (moved t (Release n))) left layer) may.of_data may.of_unit
      (subst (AreClaimedBy short tag) (claimed_own claims tag first) (mine tag))
      (shortened_may t all few blocks within (let size = items_length key 0 first in omega arith)
      may.allowed)),
  subst (AreClaimed after) (claimed_last claims tag first []) (claimed (with_claimed claims tag first) mine),
)
  where
    all : ℕ
    all = length (claims tag)

    first : List (List ℕ)
    first = take count (claims tag)

    few : ℕ
    few = length first

    blocks : Group
    blocks = group_of_blocks key first

    within : few ≤ all
    within = let cut = length-take count (claims tag) in omega arith

    left : all - count ≡ all - few
    left = let cut = length-take count (claims tag) in omega arith
