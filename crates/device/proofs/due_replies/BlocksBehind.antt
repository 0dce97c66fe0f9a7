-- What is kept for a READ, which has no request, once its next block was handed out: that of the block is gone, that of
-- the one behind it is wanted, and behind the last one there is nothing.
use Rattle.device.proofs.Common.{Bool, List, None, Option, Pin, ReadBlock, Sending, Some, Unread, ap, arith, eq_self}
use Rattle.device.proofs.Common.{eqb-true, false, if◌then◌else◌, is_unread, le-ltb, length, nat_lt, nat_tests}
use Rattle.device.proofs.Common.{option_map, read_by, read_in, read_of, refl, slice_get, subst, sym, true, wanted_in}
use Rattle.device.proofs.Common.{wanted_kept, wanted_of, ℕ, ◌&&◌, ◌+◌, ◌<◌, ◌==◌, ◌∙◌, ◌≡◌, ◌≤◌}
use Rattle.std.proofs.lemmas.Option.{slice_get_past}
use Rattle.device.proofs.due_replies.PinsLetGo.{next_elsewhere, next_gone, next_is_wanted, with_next}

-- the blocks behind the next one were not read yet
abbrev pub AreUnread : List ReadBlock → ℕ → Type 0
AreUnread blocks sent = (i : ℕ) (block : ReadBlock) → sent < i → slice_get blocks i ≡ Some block → block.state ≡ Unread

-- nothing was read of the one behind it
pub none_read_behind : (blocks : List ReadBlock) (sent : ℕ) → AreUnread blocks sent →
    read_in (Sending blocks (sent + 1)) ≡ None
none_read_behind blocks sent unread = by (slice_get blocks (sent + 1)) refl
  where
    by : (o : Option ReadBlock) → slice_get blocks (sent + 1) ≡ o → read_of o ≡ None
    by None e = refl
    by (Some block) e = ap (read_by block.body) (unread (sent + 1) block (omega arith) e)

-- what is kept for a READ of which so many blocks were handed out
abbrev KeptBlocks : List Pin → ℕ → List ReadBlock → ℕ → Type 0
KeptBlocks pins tag blocks sent = (index : ℕ) → wanted_kept pins tag index ≡ wanted_in index None (Sending blocks sent)

-- Which index

was_sent : (index sent : ℕ) → (index == sent) ≡ false → nat_lt index (sent + 1) ≡ nat_lt index sent
was_sent index sent other = grind (arith, nat_tests)

is_less : (sent : ℕ) → nat_lt sent (sent + 1) ≡ true
is_less sent = grind (arith, nat_tests)

-- what is wanted of a block at an index that was not handed out
wanted_at : (index sent : ℕ) (blocks : List ReadBlock) → sent ≤ index →
    wanted_in index None (Sending blocks sent) ≡ wanted_of (index == sent) (slice_get blocks index)
wanted_at index sent blocks most =
    ap (λ z. if z then None else wanted_of (index == sent) (slice_get blocks index)) (le-ltb index sent most)

-- by the index: the one that was handed out, the next one, or another
by_index : (P : ℕ → Type 0) (sent : ℕ) → P sent → P (sent + 1) →
    ((index : ℕ) → (index == sent) ≡ false → (index == (sent + 1)) ≡ false → P index) → (index : ℕ) → P index
by_index P sent here next others index = by (index == sent) (index == (sent + 1)) refl refl
  where
    by : (a b : Bool) → (index == sent) ≡ a → (index == (sent + 1)) ≡ b → P index
    by true b e f = subst P (sym (eqb-true index sent e)) here
    by false true e f = subst P (sym (eqb-true index (sent + 1) f)) next
    by false false e f = others index e f

-- More blocks follow

pub more_kept : (tag sent : ℕ) (pins : List Pin) (blocks : List ReadBlock) → KeptBlocks pins tag blocks sent →
    AreUnread blocks sent → KeptBlocks (with_next tag sent pins) tag blocks (sent + 1)
more_kept tag sent pins blocks kept unread =
    by_index
    (λ index. wanted_kept (with_next tag sent pins) tag index ≡ wanted_in index None (Sending blocks (sent + 1)))
    sent
    (next_gone tag sent pins
    ∙ sym (ap (λ z. if z then None else wanted_of (sent == (sent + 1)) (slice_get blocks sent)) (is_less sent)))
    (next_is_wanted tag sent pins
    ∙ (ap (option_map (λ (b : Bool). true)) (kept (sent + 1) ∙ wanted_at (sent + 1) sent blocks (omega arith))
    ∙ (wanted (slice_get blocks (sent + 1)) refl ∙ sym (wanted_at (sent + 1) (sent + 1) blocks (omega arith)))))
    (λ index first second. next_elsewhere tag sent index pins first second
    ∙ (kept index ∙ same index (sym (was_sent index sent first)) (first ∙ sym second)))
  where
    same : (index : ℕ) → nat_lt index sent ≡ nat_lt index (sent + 1) → (index == sent) ≡ (index == (sent + 1)) →
        wanted_in index None (Sending blocks sent) ≡ wanted_in index None (Sending blocks (sent + 1))
    same index less next i = if less i then None else wanted_of (next i) (slice_get blocks index)

    wanted : (o : Option ReadBlock) → slice_get blocks (sent + 1) ≡ o →
        option_map (λ (b : Bool). true) (wanted_of ((sent + 1) == sent) o)
        ≡ wanted_of ((sent + 1) == (sent + 1)) o
    wanted None e = refl
    wanted (Some block) e =
        sym (λ i. Some (eq_self (sent + 1) i && is_unread (unread (sent + 1) block (omega arith) e i)))

-- The last one was handed out

pub none_kept : (tag sent : ℕ) (pins : List Pin) (blocks : List ReadBlock) → KeptBlocks pins tag blocks sent →
    length blocks ≤ sent + 1 → (index : ℕ) → wanted_kept (with_next tag sent pins) tag index ≡ None
none_kept tag sent pins blocks kept most =
    by_index (λ index. wanted_kept (with_next tag sent pins) tag index ≡ None) sent (next_gone tag sent pins)
    (next_is_wanted tag sent pins
    ∙ ap (option_map (λ (b : Bool). true)) (kept (sent + 1) ∙ none (sent + 1) (omega arith)))
    (λ index first second. next_elsewhere tag sent index pins first second
    ∙ (kept index ∙ by index first (nat_lt index sent) refl))
  where
    none : (index : ℕ) → sent < index → wanted_in index None (Sending blocks sent) ≡ None
    none index above =
        wanted_at index sent blocks (omega arith)
        ∙ ap (wanted_of (index == sent)) (slice_get_past blocks index (omega arith))

    above_is : (index : ℕ) → (index == sent) ≡ false → nat_lt index sent ≡ false → sent < index
    above_is index other least = grind (arith, nat_tests)

    by : (index : ℕ) → (index == sent) ≡ false → (b : Bool) → nat_lt index sent ≡ b →
        wanted_in index None (Sending blocks sent) ≡ None
    by index other true e = ap (λ z. if z then None else wanted_of (index == sent) (slice_get blocks index)) e
    by index other false e = none index (above_is index other e)
