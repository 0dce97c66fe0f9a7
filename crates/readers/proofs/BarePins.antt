-- What becomes of pins changes no page that is live.
use Rattle.readers.proofs.Common.{Bool, List, Lives, Pin, [], false, fold, if◌then◌else◌, let_go, pin_moves, refl, true}
use Rattle.readers.proofs.Common.{without_pins, ◌∙◌, ◌∷◌, ◌≡◌}
use Rattle.ufs_spec.specs.declared.layer.Looked.{Looked}
use Rattle.ufs_spec.specs.declared.layer.Looked.TheVariants.{InSlot, OnPage, Unwritten}
use Rattle.unit_map.specs.declared.Stored.{Stored}
use Rattle.readers.specs.Pins.{block_pinned, block_unpinned, is_slot_of}

pub pinned_bare : (l : Lives) (k : Looked) → without_pins (block_pinned l k) ≡ without_pins l
pinned_bare l (OnPage name p) = refl
pinned_bare l (InSlot name) = refl
pinned_bare l Unwritten = refl

pub unpinned_bare : (l : Lives) (k : Looked) → without_pins (block_unpinned l k) ≡ without_pins l
unpinned_bare l (OnPage name p) = refl
unpinned_bare l (InSlot name) = refl
unpinned_bare l Unwritten = refl

pub gone_bare : (goes : Pin → Bool) (ps : List Pin) (l : Lives) →
    without_pins (fold (let_go goes) l ps) ≡ without_pins l
gone_bare goes [] l = refl
gone_bare goes (p ∷ ps) l = gone_bare goes ps (let_go goes l p) ∙ by (goes p)
  where
    by : (b : Bool) → without_pins (if b then block_unpinned l p.looked else l) ≡ without_pins l
    by true = unpinned_bare l p.looked
    by false = refl

pub moves_bare : (st : Stored) (ps : List Pin) (l : Lives) →
    without_pins (fold (pin_moves st) l ps) ≡ without_pins l
moves_bare st [] l = refl
moves_bare st (p ∷ ps) l = moves_bare st ps (pin_moves st l p) ∙ by (is_slot_of st p.looked)
  where
    by : (b : Bool) → without_pins (if b then block_pinned l (OnPage st.name st.place) else l) ≡ without_pins l
    by true = refl
    by false = refl
