-- Of a page of the RPMB area that needs no read any more, the part that is asked for is there, unless the page could
-- not be read.
use Rattle.device.proofs.Common.{AreaReading, Bool, Entry, Frame, InSlot, IsRead, Key, List, Looked, None, NotRead}
use Rattle.device.proofs.Common.{OnPage, OpenTask, Option, PartsStand, Pin, ReadBlock, ReadState, ReadingArea, Region}
use Rattle.device.proofs.Common.{ShowsReads, ShowsRight, Some, State, Unread, Unwritten, WasRead, [], all_in, and_parts}
use Rattle.device.proofs.Common.{ap, area_part, block_at, block_for, block_of, entry_of, eqb-true, false, false≢true}
use Rattle.device.proofs.Common.{find, found_in, found_is, if◌then◌else◌, is_at_hand, is_page_there, is_pin_of}
use Rattle.device.proofs.Common.{is_rest_of, is_unfilled, is_unread, list_any, none-some, not, option_map, part_held}
use Rattle.device.proofs.Common.{part_of_page, refl, same_Some, slice_get, subst, sym, task_of, true, wanted_by}
use Rattle.device.proofs.Common.{wanted_in, wanted_kept, wanted_of, ℕ, ◌&&◌, ◌++◌, ◌∙◌, ◌∷◌, ◌≡◌}
use Rattle.ufs_spec.specs.Exchanges as exchange
use Rattle.ufs_spec.specs.Ledger.{Ledger}
use Rattle.ufs_spec.specs.Machine.{needs_no_read}
use Rattle.ufs_spec.specs.RpmbResponses.{is_lost}
use Rattle.ufs_spec.specs.Translation.{Rest}
use Rattle.power_loss.specs.Shown.{IsShown, ShowsBlock}
use Rattle.rpmb.specs.Answers.{HasAskedData}
use Rattle.ufs_spec.specs.declared.exchanges.ReadState.TheVariants as page
use Rattle.device.specs.Frames.{joined, part_read}
use Rattle.device.proofs.open_tasks.KeptByTag.{WantedForAll}
use Rattle.device.proofs.open_tasks.VerifyEnds.{unfilled_keeps}

-- One page

-- by how its read ended: this part, or none if it could not be read
abbrev pub IsPartRead : ReadState → List ℕ → Option (List ℕ) → Type 0
IsPartRead Unread part o = o ≡ Some part
IsPartRead WasRead part o = o ≡ Some part
IsPartRead NotRead part o = o ≡ None

-- what was looked up and needs no read is there
in_hand : (rests : List Rest) (l : Ledger) (key : Key) (looked : Looked) (body : List ℕ) → IsShown l key looked body →
    needs_no_read rests looked ≡ true → block_at rests l None looked ≡ Some body
in_hand rests l key Unwritten body shown there = ap (λ (x : List ℕ). Some x) (sym shown)
in_hand rests l key (InSlot name) body shown there = by (list_any (is_rest_of name) rests) there
  where
    by : (b : Bool) → not b ≡ true →
        (if b then None else option_map (λ (e : Entry). e.item.body) (entry_of l name)) ≡ Some body
    by true e = absurd (false≢true e)
    by false e =
        ap (option_map (λ (e : Entry). e.item.body)) shown.is ∙ ap (λ (x : List ℕ). Some x) shown.body_is
in_hand rests l key (OnPage name place) body shown there = absurd (false≢true there)

-- what a task keeps of a page that it reads
record HasPin (v : State) (b : exchange.Task) (i : ℕ) (body : List ℕ) : Type 0 where
  pin : Pin
  found : find (is_pin_of b.tag i) v.translation.pins ≡ Some pin
  key : Key
  shown : IsShown v.translation.ledger key pin.looked body

module _ (v : State) (a : OpenTask) (b : exchange.Task) (pages : List ReadBlock) (r : AreaReading)
    (shows : ShowsReads v) (wanted : WantedForAll v.translation.pins v.tasks) (tag_is : b.tag ≡ a.tag)
    (found : task_of b.tag v.tasks ≡ Some b)
    (deed : b.deed ≡ ReadingArea pages) (unfilled : is_unfilled b.request ≡ true)
    (stand : PartsStand r a.held (ReadingArea pages)) where
  has_pin : (i : ℕ) (block : ReadBlock) → slice_get pages i ≡ Some block → HasPin v b i block.body
  has_pin i block at = by (find (is_pin_of b.tag i) v.translation.pins) refl
    where
      kept : wanted_kept v.translation.pins b.tag i ≡ Some (true && is_unread block.state)
      kept =
          wanted b.tag i
          ∙ (ap (wanted_by i) found
          ∙ (ap (wanted_in i b.request) deed
          ∙ (ap (λ (c : Bool). if c then wanted_of true (slice_get pages i) else None)
          (unfilled_keeps b.request unfilled)
          ∙ ap (wanted_of true) at)))

      by : (o : Option Pin) → find (is_pin_of b.tag i) v.translation.pins ≡ o → HasPin v b i block.body
      by None e = absurd (none-some (true && is_unread block.state)
          (sym (ap (option_map (λ (pin : Pin). pin.wanted)) e) ∙ kept))
      by (Some pin) e =
          let its = and_parts _ _ (found_is (is_pin_of b.tag i) v.translation.pins pin e) in
          let right = all_in (ShowsRight v.translation.ledger v.tasks) pin v.translation.pins shows
          (found_in (is_pin_of b.tag i) v.translation.pins pin e).0 in
          let same : right.task ≡ b =
          same_Some right.task b (sym right.there ∙ (ap (λ n. task_of n v.tasks) (eqb-true pin.tag b.tag its.0)
          ∙ found)) in
          let shown : ShowsBlock v.translation.ledger pin.looked i (ReadingArea pages) =
          subst (λ x. x) (λ j. ShowsBlock v.translation.ledger pin.looked (eqb-true pin.index i its.1 j)
          ((ap (λ (x : exchange.Task). x.deed) same ∙ deed) j)) right.shows in
          let here = shown block at in
          record { pin = pin; found = e; key = here.0; shown = here.1 }

  block_there : (i : ℕ) (block : ReadBlock) → slice_get pages i ≡ Some block →
      is_at_hand v.translation.work.rests (find (is_pin_of a.tag i) v.translation.pins) ≡ true →
      block_for v.translation None a.tag i ≡ Some block.body
  block_there i block at there =
      ap (block_of v.translation.work.rests v.translation.ledger None) pinned
      ∙ in_hand v.translation.work.rests v.translation.ledger kept.key kept.pin.looked block.body kept.shown
      (sym (ap (is_at_hand v.translation.work.rests) pinned) ∙ there)
    where
      kept : HasPin v b i block.body
      kept = has_pin i block at

      pinned : find (is_pin_of a.tag i) v.translation.pins ≡ Some kept.pin
      pinned = ap (λ (tag : ℕ). find (is_pin_of tag i) v.translation.pins) (sym tag_is) ∙ kept.found

  -- the part that is asked for of a page
  pub page_part : (i : ℕ) (how : ReadState) (block : ReadBlock) → slice_get pages i ≡ Some block →
      block.state ≡ how → is_page_there v.translation a.tag i how ≡ true →
      IsPartRead block.state (part_of_page (area_part r i) block.body) (part_read v.translation a r i how)
  page_part i how block at state there =
      subst (λ (s : ReadState).
      IsPartRead s (part_of_page (area_part r i) block.body) (part_read v.translation a r i how)) (sym state)
      (by how state there)
    where
      by : (how : ReadState) → block.state ≡ how → is_page_there v.translation a.tag i how ≡ true →
          IsPartRead how (part_of_page (area_part r i) block.body) (part_read v.translation a r i how)
      by page.WasRead is here =
          let it = stand i block at is in
          ap (option_map (part_held (area_part r i))) it.is_held ∙ ap (λ (x : List ℕ). Some x) it.same
      by page.Unread is here = ap (option_map (part_of_page (area_part r i))) (block_there i block at here)
      by page.NotRead is here = refl

-- One page or two

module _ (region : Region) (fs : List Frame) (code : ℕ) where
  pub one_read : (s : ReadState) (x : List ℕ) (o : Option (List ℕ)) → IsPartRead s x o →
      HasAskedData region fs code (x ++ []) → IsRead region fs code (s ∷ []) (joined o (Some []))
  one_read Unread x o is asked =
      subst (λ (z : Option (List ℕ)). IsRead region fs code (Unread ∷ []) (joined z (Some []))) (sym is) (refl, asked)
  one_read WasRead x o is asked =
      subst (λ (z : Option (List ℕ)). IsRead region fs code (WasRead ∷ []) (joined z (Some []))) (sym is) (refl, asked)
  one_read NotRead x o is asked =
      subst (λ (z : Option (List ℕ)). IsRead region fs code (NotRead ∷ []) (joined z (Some []))) (sym is) refl

  -- both parts are there
  both_read : (s t : ReadState) → list_any is_lost (s ∷ t ∷ []) ≡ false → (x y : List ℕ)
      (o u : Option (List ℕ)) → o ≡ Some x → u ≡ Some y → HasAskedData region fs code (x ++ y) →
      IsRead region fs code (s ∷ t ∷ []) (joined o u)
  both_read s t fine x y o u first second asked =
      subst (λ (z : Option (List ℕ)). IsRead region fs code (s ∷ t ∷ []) z) (sym (λ i. joined (first i) (second i)))
      (fine, asked)

  -- one of them is not
  none_read : (s t : ReadState) → list_any is_lost (s ∷ t ∷ []) ≡ true → (o u : Option (List ℕ)) →
      joined o u ≡ None → IsRead region fs code (s ∷ t ∷ []) (joined o u)
  none_read s t lost o u none = subst (λ (z : Option (List ℕ)). IsRead region fs code (s ∷ t ∷ []) z) (sym none) lost

  pub two_read : (s t : ReadState) (x y : List ℕ) (o u : Option (List ℕ)) → IsPartRead s x o → IsPartRead t y u →
      HasAskedData region fs code (x ++ y) → IsRead region fs code (s ∷ t ∷ []) (joined o u)
  two_read Unread Unread x y o u first second asked = both_read Unread Unread refl x y o u first second asked
  two_read Unread WasRead x y o u first second asked = both_read Unread WasRead refl x y o u first second asked
  two_read WasRead Unread x y o u first second asked = both_read WasRead Unread refl x y o u first second asked
  two_read WasRead WasRead x y o u first second asked = both_read WasRead WasRead refl x y o u first second asked
  two_read Unread NotRead x y o u first second asked =
      none_read Unread NotRead refl o u (λ i. joined (first i) (second i))
  two_read WasRead NotRead x y o u first second asked =
      none_read WasRead NotRead refl o u (λ i. joined (first i) (second i))
  two_read NotRead t x y o u first second asked =
      none_read NotRead t refl o u (ap (λ (z : Option (List ℕ)). joined z u) first)
