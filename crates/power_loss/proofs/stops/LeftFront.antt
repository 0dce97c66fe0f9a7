-- What a stop leaves stands for what is durable after a front of what is pending.
use Rattle.power_loss.proofs.Common.{◌≡◌, ℕ, ◌+◌, ◌-◌, ◌≤◌, List, Option, drop, take, sym, ap, ◌∙◌, subst}
use Rattle.power_loss.proofs.Common.{arith, length-drop, Cells, Mark, Contents, Group, put_groups, HoldAll, IsKept}
use Rattle.power_loss.proofs.Common.{IsNewestMark, before_accepted, durable_contents, Translation, IsPrefix, Valid}
use Rattle.std.proofs.Math.Seq.{take-add}
use Rattle.ufs_spec.specs.Ledger.{accepted_groups, pending}
use Rattle.power_loss.specs.Stops.{IsFront}
use Rattle.power_loss.proofs.books.LayerParts.{StopLeaves}
use Rattle.power_loss.proofs.pending_groups.PendingByFrontier.{put_accepted, put_more}
use Rattle.power_loss.proofs.stops.LeftIsSound.{prefix}

module _ (t : Translation) (v : Valid t) where
  abbrev base : Contents
  base = t.ledger.base

  abbrev later : List Group
  later = accepted_groups t.ledger

  -- how many of the accepted groups are durable
  abbrev reached : ℕ
  reached = t.ledger.frontier - before_accepted t.ledger

  durable_is : durable_contents t.ledger ≡ put_groups base (take reached later)
  durable_is =
      put_accepted base t.ledger.groups t.ledger.repairs (t.ledger.frontier - t.ledger.greatest_seen) v.history.contents
      ∙ ap (λ (n : ℕ). put_groups base (take n later)) at
    where
      at : t.ledger.frontier - t.ledger.greatest_seen - t.ledger.repairs ≡ t.ledger.frontier -
          (t.ledger.greatest_seen + t.ledger.repairs)
      at = omega arith

  front_is : (count : ℕ) → t.ledger.frontier ≤ before_accepted t.ledger + count →
      put_groups base (take count later)
      ≡ put_groups (durable_contents t.ledger) (take (count - reached) (pending t.ledger))
  front_is count durable =
      ap (λ (n : ℕ). put_groups base (take n later)) there
      ∙ ap (put_groups base) (take-add reached (count - reached) later)
      ∙ put_more base (take reached later) (take (count - reached) (drop reached later))
      ∙ ap (λ (f : Contents). put_groups f (take (count - reached) (drop reached later))) (sym durable_is)
    where
      there : count ≡ reached + (count - reached)
      there = omega (arith, durable)

  front_of_prefix : (c : Cells) (m : Option Mark) (kept : ℕ) → IsPrefix t c m kept → IsFront t c m kept
  front_of_prefix c m kept x = record {
    count = x.count - reached;
    within = let some = x.within in let long = length-drop reached later in omega (arith, some, long);
    holds = subst (HoldAll t.numbers c m kept) (front_is x.count x.durable) x.holds;
  }

pub front : (t : Translation) (c : Cells) (m : Option Mark) (kept : ℕ) → Valid t → StopLeaves t c → IsNewestMark c m →
    IsKept c m kept → IsFront t c m kept
front t c m kept v crash newest is_kept = front_of_prefix t v c m kept (prefix t c m kept v crash newest is_kept)
