-- What a VERIFY begins, and what it leaves.
use Rattle.std.specs.Prelude.{Bool, false, true, ℕ, ◌*◌, ◌+◌, ◌==◌, ◌≤◌, ◌≡◌, List, [], ◌∷◌, map, fold, Some}
use Rattle.ufs_laws.proofs.Common.{Answering, Good, Key, Pin, Request, State, Translation, arith, cond-false}
use Rattle.ufs_laws.proofs.Common.{if_both, moved, ne_eqb, refl, with_moves, with_task}
use Rattle.ufs_spec.specs.Begins.{begun, keeps, keeps_wanted, kept_at, wanted_at}
use Rattle.ufs_spec.specs.Exchanges.{Comparing, ReadingArea}
use Rattle.ufs_spec.specs.Keys.{below, data_key}
use Rattle.ufs_spec.specs.Machine.{read_blocks}
use Rattle.ufs_spec.specs.Moves.{Keep}
use Rattle.ufs_spec.specs.declared.scsi.Cdb.TheVariants as cdb

pub begins : (s : State) (r : Request) (unit address blocks : ℕ) → 1 ≤ blocks →
    begun s r unit (cdb.Verify address blocks false)
    ≡ with_task (with_moves s (keeps_wanted s r.tag unit address blocks)) r (Some (cdb.Verify address blocks false)) 0
    (ReadingArea (read_blocks s unit address blocks))
begins s r unit address blocks some =
    cond-false (blocks == 0) (with_task s r (Some (cdb.Verify address blocks false)) 0 (Answering Good 0)) _
    (ne_eqb blocks 0 (λ e. omega (arith, some, e)))

pub compares : (s : State) (r : Request) (unit address blocks : ℕ) → 1 ≤ blocks →
    begun s r unit (cdb.Verify address blocks true)
    ≡ with_task (with_moves s (keeps s r.tag unit address blocks)) r (Some (cdb.Verify address blocks true))
    (4096 * blocks) (Comparing (read_blocks s unit address blocks) 0 false)
compares s r unit address blocks some =
    cond-false (blocks == 0) (with_task s r (Some (cdb.Verify address blocks true)) 0 (Answering Good 0)) _
    (ne_eqb blocks 0 (λ e. omega (arith, some, e)))

-- what is kept leaves claims and groups
kept_claims : (k : ℕ → Key) (f : ℕ → Pin) (xs : List ℕ) (t : Translation) →
    (fold moved t (map (λ i. Keep (k i) (f i)) xs)).claims ≡ t.claims
kept_claims k f [] t = refl
kept_claims k f (x ∷ xs) t = kept_claims k f xs (moved t (Keep (k x) (f x)))

kept_groups : (k : ℕ → Key) (f : ℕ → Pin) (xs : List ℕ) (t : Translation) →
    (fold moved t (map (λ i. Keep (k i) (f i)) xs)).ledger ≡ t.ledger
kept_groups k f [] t = refl
kept_groups k f (x ∷ xs) t = kept_groups k f xs (moved t (Keep (k x) (f x)))

pub accepted : (s : State) (r : Request) (unit address blocks : ℕ) (compared : Bool) →
    (begun s r unit (cdb.Verify address blocks compared)).accepted ≡ s.accepted
accepted s r unit address blocks compared =
    if_both (λ (t : State). t.accepted ≡ s.accepted) (blocks == 0) refl
    (if_both (λ (t : State). t.accepted ≡ s.accepted) compared refl refl)

pub claims : (s : State) (r : Request) (unit address blocks : ℕ) (compared : Bool) →
    (begun s r unit (cdb.Verify address blocks compared)).translation.claims ≡ s.translation.claims
claims s r unit address blocks compared =
    if_both (λ (t : State). t.translation.claims ≡ s.translation.claims) (blocks == 0) refl
    (if_both (λ (t : State). t.translation.claims ≡ s.translation.claims) compared
    (kept_claims (λ i. data_key unit (address + i)) (kept_at s r.tag unit address) (below blocks) s.translation)
    (kept_claims (λ i. data_key unit (address + i)) (wanted_at s r.tag unit address) (below blocks) s.translation))

pub groups : (s : State) (r : Request) (unit address blocks : ℕ) (compared : Bool) →
    (begun s r unit (cdb.Verify address blocks compared)).translation.ledger ≡ s.translation.ledger
groups s r unit address blocks compared =
    if_both (λ (t : State). t.translation.ledger ≡ s.translation.ledger) (blocks == 0) refl
    (if_both (λ (t : State). t.translation.ledger ≡ s.translation.ledger) compared
    (kept_groups (λ i. data_key unit (address + i)) (kept_at s r.tag unit address) (below blocks) s.translation)
    (kept_groups (λ i. data_key unit (address + i)) (wanted_at s r.tag unit address) (below blocks) s.translation))
