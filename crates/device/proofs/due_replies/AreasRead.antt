-- A request for data of the RPMB area: no page needs a read where nothing is kept for it.
use Rattle.device.proofs.Common.{Bool, List, None, NotRead, Option, Pin, ReadBlock, ReadState, Some, State, Unread}
use Rattle.device.proofs.Common.{WasRead, [], ap, below, is_area_read, is_read, none-some, option_map, refl, slice_get}
use Rattle.device.proofs.Common.{sym, true, wanted_kept, ℕ, ◌&&◌, ◌∙◌, ◌∷◌, ◌≡◌}
use Rattle.std.specs.Prelude.{length}
use Rattle.std.specs.List.{list_all}
use Rattle.ufs_spec.specs.Exchanges as exchange
use Rattle.ufs_spec.specs.Replies.{is_at_hand, is_page_read, pin_of}

no_pin : (o : Option Pin) → option_map (λ (pin : Pin). pin.wanted) o ≡ None → o ≡ None
no_pin None none = refl
no_pin (Some pin) none = absurd (none-some pin.wanted (sym none))

all_pass : (p : ℕ → Bool) → ((index : ℕ) → p index ≡ true) → (indexes : List ℕ) → list_all p indexes ≡ true
all_pass p each [] = refl
all_pass p each (index ∷ indexes) = λ i. each index i && all_pass p each indexes i

needs_none : (state : ReadState) → is_read state true ≡ true
needs_none Unread = refl
needs_none WasRead = refl
needs_none NotRead = refl

pub none_needed : (s : State) (task : exchange.Task) (pages : List ReadBlock) →
    ((index : ℕ) → wanted_kept s.translation.pins task.tag index ≡ None) → is_area_read s task pages ≡ true
none_needed s task pages none =
    all_pass (λ index. is_page_read s task index (slice_get pages index)) (λ index. by index (slice_get pages index))
    (below (length pages))
  where
    by : (index : ℕ) (o : Option ReadBlock) → is_page_read s task index o ≡ true
    by index None = refl
    by index (Some page) =
        ap (λ (o : Option Pin). is_read page.state (is_at_hand s.translation.work.rests o))
        (no_pin (pin_of s task index) (none index))
        ∙ needs_none page.state
