-- What a VERIFY asks for, and what becomes of the blocks that its host sends.
use Rattle.std.specs.Prelude.{ℕ, ◌*◌, ◌+◌, ◌<◌, ◌≡◌, ◌≢◌, ◌≤◌, Bool, List, Option, Some, [], ◌∷◌, None, false, length}
use Rattle.std.specs.Prelude.{nat_lt, slice_get, true}
use Rattle.ufs_laws.proofs.Common.{Answering, Good, NotRead, ReadBlock, ReadState, State, Task, Unread, WasRead, ap}
use Rattle.ufs_laws.proofs.Common.{cond-false, cond-true, deed_after, deed_reply, if_both, inl, inr, is_at_hand, le-ltb}
use Rattle.ufs_laws.proofs.Common.{lt-ltb, pin_of, refl, response, set_deed, with_moves, ◌⊎◌, ◌∙◌}
use Rattle.ufs_laws.proofs.rpmb_frames.AcceptedWrites.{same_refl}
use Rattle.ufs_laws.proofs.rpmb_frames.RightWrites.{equal_bytes}
use Rattle.ufs_laws.specs.FrameLaws.{IsOwed, IsThere}
use Rattle.ufs_spec.specs.DataOuts.{block_compared, block_differs, block_same, data_for}
use Rattle.ufs_spec.specs.Exchanges.{Comparing, miscompare, read_error, ready_for_block}
use Rattle.ufs_spec.specs.Machine.{deed_after_asked, deed_after_compare}
use Rattle.ufs_spec.specs.Moves.{LetGo, LetGoAll, WantPage}
use Rattle.ufs_spec.specs.Replies.{compare_reply, next_compare_reply}
use Rattle.ufs_spec.specs.Rpmb.{same_bytes}

-- ## What is asked for

abbrev at_hand_now : State → Task → ℕ → Bool
at_hand_now s task index = is_at_hand s.translation.work.rests (pin_of s task index)

-- what is said of a block, by how it was found
said : (s : State) (task : Task) (blocks : List ReadBlock) (compared : ℕ) (block : ReadBlock) →
    slice_get blocks compared ≡ Some block →
    deed_reply s task (Comparing blocks compared false)
    ≡ compare_reply task compared block.state (at_hand_now s task compared)
said s task blocks compared block there = ap (next_compare_reply s task compared) there

asked_if : (task : Task) (compared : ℕ) (state : ReadState) (at_hand : Bool) → state ≢ NotRead →
    ((state ≡ WasRead) ⊎ (state ≡ NotRead) ⊎ (at_hand ≡ true)) →
    compare_reply task compared state at_hand ≡ Some (ready_for_block task compared)
asked_if task compared WasRead at_hand other there = refl
asked_if task compared NotRead at_hand other there = absurd (other refl)
asked_if task compared Unread true other there = refl
asked_if task compared Unread false other (inl e) = let no : Unread ≡ WasRead = e in cc
asked_if task compared Unread false other (inr (inl e)) = let no : Unread ≡ NotRead = e in cc
asked_if task compared Unread false other (inr (inr e)) = let no : false ≡ true = e in cc

pub asks : (s : State) (task : Task) (blocks : List ReadBlock) (compared : ℕ) (block : ReadBlock) →
    slice_get blocks compared ≡ Some block → IsThere s task compared block → block.state ≢ NotRead →
    deed_reply s task (Comparing blocks compared false) ≡ Some (ready_for_block task compared)
asks s task blocks compared block there is other =
    said s task blocks compared block there
    ∙ asked_if task compared block.state (at_hand_now s task compared) other is

pub waits : (s : State) (task : Task) (blocks : List ReadBlock) (compared : ℕ) (block : ReadBlock) →
    slice_get blocks compared ≡ Some block → IsOwed s task compared block →
    deed_reply s task (Comparing blocks compared false) ≡ None
waits s task blocks compared block there (unread, away) =
    said s task blocks compared block there
    ∙ (λ i. compare_reply task compared (unread i) (away i))

pub lost : (s : State) (task : Task) (blocks : List ReadBlock) (compared : ℕ) (block : ReadBlock) →
    slice_get blocks compared ≡ Some block → block.state ≡ NotRead →
    deed_reply s task (Comparing blocks compared false)
    ≡ Some (response task.lun task.tag task.expected (4096 * compared) read_error)
lost s task blocks compared block there e =
    said s task blocks compared block there
    ∙ ap (λ (state : ReadState). compare_reply task compared state (at_hand_now s task compared)) e

asked_after : (blocks : List ReadBlock) (compared : ℕ) (state : ReadState) → state ≢ NotRead →
    deed_after_asked blocks compared state ≡ Some (Comparing blocks compared true)
asked_after blocks compared Unread other = refl
asked_after blocks compared WasRead other = refl
asked_after blocks compared NotRead other = absurd (other refl)

pub was_asked : (task : Task) (blocks : List ReadBlock) (compared : ℕ) (block : ReadBlock) →
    slice_get blocks compared ≡ Some block → block.state ≢ NotRead →
    deed_after task (Comparing blocks compared false) ≡ Some (Comparing blocks compared true)
was_asked task blocks compared block there other =
    ap (deed_after_compare blocks compared) there ∙ asked_after blocks compared block.state other

pub lost_is_last : (task : Task) (blocks : List ReadBlock) (compared : ℕ) (block : ReadBlock) →
    slice_get blocks compared ≡ Some block → block.state ≡ NotRead →
    deed_after task (Comparing blocks compared false) ≡ None
lost_is_last task blocks compared block there e =
    ap (deed_after_compare blocks compared) there ∙ ap (deed_after_asked blocks compared) e

-- ## What is compared

found : (s : State) (task : Task) (blocks : List ReadBlock) (compared : ℕ) (block : ReadBlock) (bytes : List ℕ) →
    slice_get blocks compared ≡ Some block →
    data_for s task (Comparing blocks compared true) bytes
    ≡ block_compared s task blocks compared (Some block) bytes
found s task blocks compared block bytes there =
    ap (λ (o : Option ReadBlock). block_compared s task blocks compared o bytes) there

same : (s : State) (task : Task) (blocks : List ReadBlock) (compared : ℕ) (block : ReadBlock) →
    slice_get blocks compared ≡ Some block →
    data_for s task (Comparing blocks compared true) block.body ≡ block_same s task blocks compared
same s task blocks compared block there =
    found s task blocks compared block block.body there
    ∙ cond-true (same_bytes block.body block.body) (block_same s task blocks compared) (block_differs s task compared)
    (same_refl block.body)

pub goes_on : (s : State) (task : Task) (blocks : List ReadBlock) (compared : ℕ) (block : ReadBlock) →
    slice_get blocks compared ≡ Some block → compared + 1 < length blocks →
    data_for s task (Comparing blocks compared true) block.body
    ≡ set_deed (with_moves s (LetGo task.tag compared ∷ WantPage task.tag (compared + 1) ∷ [])) task.tag
    (Comparing blocks (compared + 1) false)
goes_on s task blocks compared block there more =
    same s task blocks compared block there
    ∙ ap (set_deed (with_moves s (LetGo task.tag compared ∷ WantPage task.tag (compared + 1) ∷ [])) task.tag)
    (cond-true (nat_lt (compared + 1) (length blocks)) _ _ (lt-ltb (compared + 1) (length blocks) more))

pub last : (s : State) (task : Task) (blocks : List ReadBlock) (compared : ℕ) (block : ReadBlock) →
    slice_get blocks compared ≡ Some block → length blocks ≤ compared + 1 →
    data_for s task (Comparing blocks compared true) block.body
    ≡ set_deed (with_moves s (LetGo task.tag compared ∷ WantPage task.tag (compared + 1) ∷ [])) task.tag
    (Answering Good task.length)
last s task blocks compared block there none =
    same s task blocks compared block there
    ∙ ap (set_deed (with_moves s (LetGo task.tag compared ∷ WantPage task.tag (compared + 1) ∷ [])) task.tag)
    (cond-false (nat_lt (compared + 1) (length blocks)) _ _ (le-ltb (compared + 1) (length blocks) none))

others_differ : (xs ys : List ℕ) (b : Bool) → same_bytes xs ys ≡ b → xs ≢ ys → same_bytes xs ys ≡ false
others_differ xs ys true e other = absurd (other (equal_bytes xs ys e))
others_differ xs ys false e other = e

pub differs : (s : State) (task : Task) (blocks : List ReadBlock) (compared : ℕ) (block : ReadBlock) (bytes : List ℕ) →
    slice_get blocks compared ≡ Some block → bytes ≢ block.body →
    data_for s task (Comparing blocks compared true) bytes
    ≡ set_deed (with_moves s (LetGoAll task.tag ∷ [])) task.tag (Answering miscompare (4096 * (compared + 1)))
differs s task blocks compared block bytes there other =
    found s task blocks compared block bytes there
    ∙ cond-false (same_bytes bytes block.body) (block_same s task blocks compared) (block_differs s task compared)
    (others_differ bytes block.body (same_bytes bytes block.body) refl other)

-- ## What stays

compared_by : (P : State → Type 0) (s : State) (task : Task) (blocks : List ReadBlock) (compared : ℕ)
    (o : Option ReadBlock) (bytes : List ℕ) → P s → P (block_same s task blocks compared) →
    P (block_differs s task compared) → P (block_compared s task blocks compared o bytes)
compared_by P s task blocks compared None bytes none equal other = none
compared_by P s task blocks compared (Some block) bytes none equal other =
    if_both P (same_bytes bytes block.body) equal other

pub accepted : (s : State) (task : Task) (blocks : List ReadBlock) (compared : ℕ) (asked : Bool) (bytes : List ℕ) →
    (data_for s task (Comparing blocks compared asked) bytes).accepted ≡ s.accepted
accepted s task blocks compared asked bytes =
    compared_by (λ (t : State). t.accepted ≡ s.accepted) s task blocks compared (slice_get blocks compared) bytes refl
    refl refl

pub claims : (s : State) (task : Task) (blocks : List ReadBlock) (compared : ℕ) (asked : Bool) (bytes : List ℕ) →
    (data_for s task (Comparing blocks compared asked) bytes).translation.claims ≡ s.translation.claims
claims s task blocks compared asked bytes =
    compared_by (λ (t : State). t.translation.claims ≡ s.translation.claims) s task blocks compared
    (slice_get blocks compared) bytes refl refl refl

pub groups : (s : State) (task : Task) (blocks : List ReadBlock) (compared : ℕ) (asked : Bool) (bytes : List ℕ) →
    (data_for s task (Comparing blocks compared asked) bytes).translation.ledger ≡ s.translation.ledger
groups s task blocks compared asked bytes =
    compared_by (λ (t : State). t.translation.ledger ≡ s.translation.ledger) s task blocks compared
    (slice_get blocks compared) bytes refl refl refl
