-- The block that is handed out for a tag is the one that is kept for it.
use Rattle.device.proofs.Common.{Bool, Entry, InSlot, List, Looked, None, OnPage, Option, Pin, Some, Translation}
use Rattle.device.proofs.Common.{Unwritten, all_in, ap, block_at, block_for, block_of, book, entry_of, false, find}
use Rattle.device.proofs.Common.{found_in, if◌then◌else◌, is_pin_of, is_rest_of, list_any, none-some, option_map, refl}
use Rattle.device.proofs.Common.{same_Some, subst, sym, true, ℕ, ◌∙◌, ◌≡◌}
use Rattle.ufs_spec.specs.Ledger.{Ledger}
use Rattle.ufs_spec.specs.Plain.{zero_block}
use Rattle.ufs_spec.specs.Translation.{Rest}
use Rattle.power_loss.specs.Invariant.{LookedRight, PinsRight}
use Rattle.ftl_core.specs.Public.{looked_of}

abbrev pub IsRight : Translation → Looked → Type 0
IsRight t kept = LookedRight (book t) t.ledger.frontier t.disk.cells t.disk.finished t.disk.erasing kept

-- what is said of whatever the reader looks at is said of what is kept for it
pub block_found : (t : Translation) (read : Option (List ℕ)) (tag index : ℕ) (looked : Looked)
    (body : Option (List ℕ)) →
    PinsRight (book t) t.ledger.frontier t.disk.cells t.disk.finished t.disk.erasing t.pins →
    Some looked ≡ option_map looked_of (find (is_pin_of tag index) t.pins) →
    (IsRight t looked → body ≡ block_at t.work.rests t.ledger read looked) → body ≡ block_for t read tag index
block_found t read tag index looked body right pinned told = by (find (is_pin_of tag index) t.pins) refl pinned
  where
    by : (pin : Option Pin) → find (is_pin_of tag index) t.pins ≡ pin → Some looked ≡ option_map looked_of pin →
        body ≡ block_of t.work.rests t.ledger read pin
    by None found at = absurd (none-some looked (sym at))
    by (Some pin) found at =
        let is : looked ≡ pin.looked = same_Some looked pin.looked at in
        told (subst (IsRight t) (sym is)
        (all_in (λ (p : Pin). IsRight t p.looked) pin t.pins right.each
        (found_in (is_pin_of tag index) t.pins pin found).0))
        ∙ ap (block_at t.work.rests t.ledger read) is

-- the block that is there is the one that the layer has, or, where this has none, the one that was read
abbrev pub IsOwn : (read : Option (List ℕ)) (body : List ℕ) → Option (List ℕ) → Type 0
IsOwn read body None = read ≡ Some body
IsOwn read body (Some own) = own ≡ body

module _ (rests : List Rest) (l : Ledger) (read : Option (List ℕ)) (body : List ℕ) where
  own_at : (looked : Looked) → block_at rests l read looked ≡ Some body →
      IsOwn read body (block_at rests l None looked)
  own_at Unwritten e = same_Some zero_block body e
  own_at (OnPage name place) e = e
  own_at (InSlot name) e = by (list_any (is_rest_of name) rests) e
    where
      in_slot : Option (List ℕ)
      in_slot = option_map (λ (x : Entry). x.item.body) (entry_of l name)

      by : (w : Bool) → (if w then read else in_slot) ≡ Some body → IsOwn read body (if w then None else in_slot)
      by true is = is
      by false is = subst (IsOwn read body) (sym is) refl

  pub own_of_pin : (pin : Option Pin) → block_of rests l read pin ≡ Some body →
      IsOwn read body (block_of rests l None pin)
  own_of_pin None e = absurd (none-some body e)
  own_of_pin (Some pin) e = own_at pin.looked e
