-- Which of the pages that a task keeps need no read.
use Rattle.device.proofs.Common.{Bool, Entry, InSlot, List, Looked, None, OnPage, Option, Pin, Some, Translation}
use Rattle.device.proofs.Common.{Unwritten, all_in, ap, block_at, book, entry_of, false, find, found_in, if◌then◌else◌}
use Rattle.device.proofs.Common.{is_pin_of, is_rest_of, list_any, none-some, not, option_map, refl, same_Some, subst}
use Rattle.device.proofs.Common.{sym, true, ℕ, ◌∙◌, ◌≡◌}
use Rattle.std.proofs.Common.{Bor, is_some}
use Rattle.std.specs.Prelude.{option_copied}
use Rattle.ufs_spec.specs.Replies.{is_at_hand, needs_no_read}
use Rattle.power_loss.specs.Invariant.{PinsRight}
use Rattle.ftl_core.specs.Public.{looked_of}
use Rattle.device.proofs.due_replies.BlocksOwed.{IsRight}

-- what needs no read is there
no_read : (t : Translation) (looked : Looked) → IsRight t looked →
    needs_no_read t.work.rests looked ≡ is_some (block_at t.work.rests t.ledger None looked)
no_read t Unwritten right = refl
no_read t (OnPage name place) right = refl
no_read t (InSlot name) right = by (list_any (is_rest_of name) t.work.rests)
  where
    by : (waits : Bool) → not waits
        ≡ is_some (if waits then None else option_map (λ (e : Entry). e.item.body) (entry_of t.ledger name))
    by true = refl
    by false = sym (ap (λ (o : Option Entry). is_some (option_map (λ (e : Entry). e.item.body) o)) right.1.1)

-- what is kept for the reader needs no read, if it is there
pub at_hand_found : (t : Translation) (tag index : ℕ) (looked : Looked) (there : Bool) →
    PinsRight (book t) t.ledger.frontier t.disk.cells t.disk.finished t.disk.erasing t.pins →
    Some looked ≡ option_map looked_of (find (is_pin_of tag index) t.pins) →
    (IsRight t looked → there ≡ is_some (block_at t.work.rests t.ledger None looked)) →
    there ≡ is_at_hand t.work.rests (find (is_pin_of tag index) t.pins)
at_hand_found t tag index looked there right pinned told = by (find (is_pin_of tag index) t.pins) refl pinned
  where
    by : (pin : Option Pin) → find (is_pin_of tag index) t.pins ≡ pin → Some looked ≡ option_map looked_of pin →
        there ≡ is_at_hand t.work.rests pin
    by None found at = absurd (none-some looked (sym at))
    by (Some pin) found at =
        let is : looked ≡ pin.looked = same_Some looked pin.looked at in
        let its : IsRight t looked =
        subst (IsRight t) (sym is)
        (all_in (λ (p : Pin). IsRight t p.looked) pin t.pins right.each
        (found_in (is_pin_of tag index) t.pins pin found).0) in
        told its ∙ (sym (no_read t looked its) ∙ ap (needs_no_read t.work.rests) is)

-- a block that was handed out is there
pub copied_there : (o : Option (Bor (List ℕ))) (x : Option (List ℕ)) → option_copied o ≡ x → is_some o ≡ is_some x
copied_there None x e = ap is_some e
copied_there (Some b) x e = ap is_some e
