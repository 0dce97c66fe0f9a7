-- The slots that readers claim for groups to come.
use Rattle.ftl_core.proofs.Common.{Bool, Claimed, Core, Describes, Kept, List, Release, Translation, all_keep, ap}
use Rattle.ftl_core.proofs.Common.{arith, below, claim_filled, claimed_all, claims_for, empty_claim, false}
use Rattle.ftl_core.proofs.Common.{if◌then◌else◌, is_claim_of, length, length-append, length-below, length-map, map}
use Rattle.ftl_core.proofs.Common.{moved, nat_le, refl, subst, sym, true, waiting, ℕ, ◌++◌, ◌+◌, ◌-◌, ◌∙◌, ◌≡◌}
use Rattle.std.proofs.Common.{filter, not}
use Rattle.std.proofs.lemmas.Bool.{leb-true}
use Rattle.ufs_spec.specs.Moves.{Claim}
use Rattle.ufs_spec.specs.Translation as layer
use Rattle.power_loss.proofs.jobs.ReadsAndTasks.{releases}
use Rattle.ftl_core.proofs.rests_owed.RestsStay.{same_rests}
use Rattle.ftl_core.specs.Moves.{filled, free_slots, released}
use Rattle.ftl_core.proofs.small_calls.ReadersClaims.{left_beside}
use Rattle.ftl_core.proofs.small_calls.SmallCalls.{slots_right}

-- What they are to the layer

-- claims show in the layer by their number alone
pub claims_kept : (c : Core) (t : Translation) (claims : List Claimed) (m : ℕ) → Kept c t → length claims ≡ m →
    Kept (record c { claims = claims }) (record t { claims = m })
claims_kept c t claims m k same = record {
  numbers = k.numbers;
  blocks = k.blocks;
  dies = k.dies;
  fly = k.fly;
  ledger_kept = k.ledger_kept;
  work = k.work;
  plan = k.plan;
  claims = same;
  pins = k.pins;
  differ = k.differ;
  reads = k.reads;
  step_reads = k.step_reads;
  readers = k.readers;
}

claims_right : (c : Core) (t : Translation) (reader blocks : ℕ) → Describes c t →
    nat_le blocks (free_slots c) ≡ true → Describes (claimed_all c reader blocks) (moved t (Claim blocks))
claims_right c t reader blocks h room = record {
  live = h.live;
  copies = h.copies;
  rests = same_rests t (moved t (Claim blocks)) (waiting c.pages) refl refl refl refl h.rests.laid h.rests;
  valid = all_keep t (Claim blocks) h.valid
      (let l = leb-true blocks (free_slots c) room in let same = slots_right c t h in omega (arith, l, same));
  kept = claims_kept c t (c.claims ++ map (empty_claim reader) (below blocks)) (t.claims + blocks) h.kept
      (let both = length-append c.claims (map (empty_claim reader) (below blocks)) in
      let more = length-map (below blocks) (empty_claim reader) in
      let long = length-below blocks in
      let same = h.kept.claims in
      omega (arith, both, more, long, same));
}

-- so many slots are claimed where as many are free
pub reserves_told : (c after : Core) (reader blocks : ℕ) (free : Bool) → free ≡ nat_le blocks (free_slots c) →
    after ≡ (if free then claimed_all c reader blocks else c) → (t : Translation) → Describes c t →
    Describes after (if free then moved t (Claim blocks) else t)
reserves_told c after reader blocks true is new t h =
    subst (λ (x : Core). Describes x (moved t (Claim blocks))) (sym new) (claims_right c t reader blocks h (sym is))
reserves_told c after reader blocks false is new t h = subst (λ (x : Core). Describes x t) (sym new) h

pub room_right : (c : Core) (t : Translation) (blocks : ℕ) → Describes c t →
    nat_le blocks (free_slots c) ≡ nat_le blocks (layer.free_slots t)
room_right c t blocks h = ap (nat_le blocks) (slots_right c t h)

releases_right : (c : Core) (t : Translation) (reader : ℕ) → Describes c t →
    Describes (released c reader) (moved t (Release (length (claims_for c reader))))
releases_right c t reader h = record {
  valid = releases t (length (claims_for c reader)) h.valid;
  live = h.live;
  copies = h.copies;
  rests = same_rests t (moved t (Release (length (claims_for c reader)))) (waiting c.pages) refl refl refl refl
      h.rests.laid h.rests;
  kept = claims_kept c t (filter (λ claim. not (is_claim_of reader claim)) c.claims)
      (t.claims - length (claims_for c reader)) h.kept
      (let both = left_beside reader c.claims (filter (λ claim. not (is_claim_of reader claim)) c.claims) refl in
      let same = h.kept.claims in
      omega (arith, both, same));
}

pub releases_told : (c after : Core) (reader : ℕ) → after ≡ released c reader → (t : Translation) → Describes c t →
    Describes after (moved t (Release (length (claims_for c reader))))
releases_told c after reader new t h =
    subst (λ (x : Core). Describes x (moved t (Release (length (claims_for c reader))))) (sym new)
    (releases_right c t reader h)

fills_right : (c : Core) (t : Translation) (reader index : ℕ) (body : List ℕ) → Describes c t →
    Describes (filled c reader index body) t
fills_right c t reader index body h = record {
  valid = h.valid;
  live = h.live;
  copies = h.copies;
  rests = h.rests;
  kept = claims_kept c t (map (claim_filled reader index body) c.claims) t.claims h.kept
      (length-map c.claims (claim_filled reader index body) ∙ h.kept.claims);
}

pub fills_told : (c after : Core) (reader index : ℕ) (body : List ℕ) → after ≡ filled c reader index body →
    (t : Translation) → Describes c t → Describes after t
fills_told c after reader index body new t h =
    subst (λ (x : Core). Describes x t) (sym new) (fills_right c t reader index body h)
