-- A command that begins claims its slots, and each holds zeros.
use Rattle.device.proofs.Common.{AreClaimed, Bool, Claim, Claims, Core, IsKey, IsLayerWith, Key, List, Phase}
use Rattle.device.proofs.Common.{PinsDiffer, Translation, [], ap, blocks_gathered, false, fold, free_slots, has_room}
use Rattle.device.proofs.Common.{if◌then◌else◌, keeps_for, key_behind, le-leb, list_any, moved, refl, replicate}
use Rattle.device.proofs.Common.{shape_of_numbers, subst, suc, sym, true, with_claimed, zero, ℕ, ◌<◌, ◌∙◌, ◌∷◌, ◌≡◌}
use Rattle.device.proofs.Common.{◌≤◌}
use Rattle.std.proofs.Math.Seq.{drop-nil}
use Rattle.ufs_spec.specs.Plain.{zero_block}
use Rattle.ftl_core.specs.Public.{Describes, keeps_of}
use Rattle.task_set.specs.declared.tasks.Phase.TheVariants as phase
use Rattle.ufs_spec.specs.declared.exchanges.Status.TheVariants as status
use Rattle.device.specs.Calls.{HasClaimedFor, HasKept, has_slots}

-- none of the blocks of a WRITE came
pub none_gathered : (n : ℕ) → replicate n zero_block ≡ blocks_gathered n []
none_gathered zero = refl
none_gathered (suc n) =
    ap (λ (bs : List (List ℕ)). zero_block ∷ bs) (none_gathered n ∙ ap (blocks_gathered n) (sym (drop-nil 4096)))

-- how far it is, where its slots were claimed or where they were not
abbrev pub asks_or_busy : Phase → Bool → Phase
asks_or_busy asks claimed = if claimed then asks else phase.Answer status.Busy 0

-- the layer then, likewise
abbrev pub LayerThen : Core → Translation → Claims → (tag slots : ℕ) → Bool → Type 0
LayerThen after t claims tag slots claimed =
    IsLayerWith after (if claimed then moved t (Claim slots) else t)
    (if claimed then with_claimed claims tag (replicate slots zero_block) else claims)

pub slots_claimed : (after : Core) (t : Translation) (claims : Claims) (tag slots : ℕ) (asks p : Phase)
    (claimed : Bool) → claimed ≡ has_slots t slots → p ≡ asks_or_busy asks claimed →
    (claims tag ≡ [] → LayerThen after t claims tag slots claimed) → HasClaimedFor after t claims tag slots asks p
slots_claimed after t claims tag slots asks p claimed is phase_is layer = record {
  phase_is = phase_is ∙ ap (asks_or_busy asks) is;
  layer = λ none. subst (LayerThen after t claims tag slots) is (layer none);
}

-- where as many are free they are claimed
pub slots_found : (after : Core) (t : Translation) (claims : Claims) (tag slots : ℕ) (asks p : Phase) →
    slots ≤ free_slots t → claims tag ≡ [] → HasClaimedFor after t claims tag slots asks p →
    (p ≡ asks) × LayerThen after t claims tag slots true
slots_found after t claims tag slots asks p free none begun =
    let left : has_slots t slots ≡ true = le-leb slots (free_slots t) free in (
      begun.phase_is ∙ ap (asks_or_busy asks) left,
      subst (LayerThen after t claims tag slots) left (begun.layer none),
    )

-- a READ that begins, or a VERIFY that compares its blocks, keeps what it looks up, or there is no room for it
pub blocks_kept : (after : Core) (t : Translation) (claims : Claims) (tag : ℕ) (key : Key) (blocks : ℕ)
    (first p : Phase) (kept : Bool) → kept ≡ has_room t blocks → PinsDiffer t.pins → p ≡ asks_or_busy first kept →
    (key.kind ≡ 1 →
    ((i : ℕ) → i < blocks → IsKey (shape_of_numbers t.numbers) (key_behind key i)) →
    list_any (keeps_for tag) t.pins ≡ false →
    Describes after (if kept then fold moved t (keeps_of t tag key blocks) else t)) → AreClaimed after claims →
    HasKept after t claims tag key blocks first p
blocks_kept after t claims tag key blocks first p kept is differ phase_is described claimed = record {
  phase_is = phase_is ∙ ap (asks_or_busy first) is;
  differ = differ;
  layer = λ may. (
    subst (λ (b : Bool). Describes after (if b then fold moved t (keeps_of t tag key blocks) else t)) is
        (described may.of_data may.there may.new),
    claimed,
  );
}
