-- While the device is not mended what tasks keep lies in no free block.
use Rattle.power_loss.proofs.Common.{All, All-map, All-weaker, BlockState, Bool, Free, HasKey, InSlot, Key, List}
use Rattle.power_loss.proofs.Common.{Looked, Name, None, OnPage, Option, Pin, Place, Some, Spot, Translation, Unwritten}
use Rattle.power_loss.proofs.Common.{Valid, ap, arith, at_spot, at_spot_is, book, false, get_or, if_both, if◌then◌else◌}
use Rattle.power_loss.proofs.Common.{is_mended, is_pin_of, look, looked_at, looked_on, map, nat_lt, refl, same_Some}
use Rattle.power_loss.proofs.Common.{settled_look, settled_pin, spot_of, subst, sym, take, with_wanted, ℕ, ⊎_elim, ◌-◌}
use Rattle.power_loss.proofs.Common.{◌<◌, ◌∙◌, ◌≡◌, ◌≢◌, ◌≤◌}
use Rattle.power_loss.specs.MendingRoom.{ArePinsOffFree, IsOffFree}
use Rattle.power_loss.proofs.books.LayerParts.{LookedOf, SecureOf}
use Rattle.power_loss.proofs.kept_pages.UnmendedPages.{new_secure, unmended_secure}
use Rattle.ufs_spec.specs.Moves.{look_now}
use Rattle.ufs_spec.specs.Ledger.{latest_durable}

-- no block is free now that was not
abbrev pub IsNoneFreed : (Spot → BlockState) → (Spot → BlockState) → Type 0
IsNoneFreed blocks now = (s : Spot) → now s ≡ Free → blocks s ≡ Free

-- where a block gets another state than that
pub none_freed : (blocks : Spot → BlockState) (s : Spot) (x : BlockState) → x ≢ Free →
    IsNoneFreed blocks (at_spot blocks s x)
none_freed blocks s x other z h = ⊎_elim (λ k. absurd (other k.1)) (λ k. k.1) (at_spot_is blocks s x z Free h)

off_stays : {blocks now : Spot → BlockState} (looked : Looked) → IsNoneFreed blocks now → IsOffFree blocks looked →
    IsOffFree now looked
off_stays (OnPage name place) none off = λ free. off (none (spot_of place) free)
off_stays looked none off = tt

pub pins_stay : {blocks now : Spot → BlockState} (pins : List Pin) → IsNoneFreed blocks now →
    All (λ (pin : Pin). IsOffFree blocks pin.looked) pins → All (λ (pin : Pin). IsOffFree now pin.looked) pins
pins_stay {blocks} {now} pins none = All-weaker (λ (pin : Pin). IsOffFree blocks pin.looked)
    (λ (pin : Pin). IsOffFree now pin.looked) (λ pin off. off_stays pin.looked none off) pins

pub pins_wanted_off : (blocks : Spot → BlockState) (tag index : ℕ) (wanted : Bool) (pins : List Pin) →
    All (λ (pin : Pin). IsOffFree blocks pin.looked) pins →
    All (λ (pin : Pin). IsOffFree blocks pin.looked) (map (with_wanted tag index wanted) pins)
pins_wanted_off blocks tag index wanted pins off =
    All-map (λ (pin : Pin). IsOffFree blocks pin.looked) (with_wanted tag index wanted) pins
    (All-weaker (λ (pin : Pin). IsOffFree blocks pin.looked)
    (λ (pin : Pin). IsOffFree blocks (with_wanted tag index wanted pin).looked)
    (λ pin k. if_both (λ (x : Pin). IsOffFree blocks x.looked) (is_pin_of tag index pin) k k) pins off)

-- a page that stands securely lies in no free block
secure_off : (t : Translation) (name : Name) (o : Option Place) → t.ledger.standing name.number name.index ≡ o →
    ((p : Place) → o ≡ Some p → SecureOf t name.number name.index) → IsOffFree t.disk.blocks (looked_on name o)
secure_off t name None at secure = tt
secure_off t name (Some p) at secure =
    let h = secure p refl in
    let same = same_Some h.place p (sym h.known ∙ at) in
    λ free. h.needed (ap (λ (q : Place). t.disk.blocks (spot_of q)) same ∙ free)

-- what is looked up before the device is mended lies in none
pub look_off : (t : Translation) (k : Key) → Valid t → is_mended t.work.mending ≡ false → HasKey (book t) k →
    IsOffFree t.disk.blocks (look_now t k)
look_off t k v un has =
    subst (λ (b : Bool). IsOffFree t.disk.blocks
    (if b then look t.ledger k else looked_at t.ledger (latest_durable t.ledger k))) (sym un)
    (by (latest_durable t.ledger k) refl)
  where
    by : (o : Option Name) → latest_durable t.ledger k ≡ o → IsOffFree t.disk.blocks (looked_at t.ledger o)
    by None e = tt
    by (Some name) e = if_both (IsOffFree t.disk.blocks) (nat_lt t.ledger.frontier name.number) tt
        (secure_off t name (t.ledger.standing name.number name.index) refl
        (λ p at. unmended_secure k (take (t.ledger.frontier - t.ledger.greatest_seen) t.ledger.groups)
        (latest_durable t.ledger k) name v un has refl e at))

-- a slot is of a group above the frontier
abbrev IsBehind : ℕ → Looked → Type 0
IsBehind frontier (InSlot name) = frontier < name.number
IsBehind frontier looked = Unit {0}

-- nor does what was in a slot and is on its page now
settled_off : (u : Translation) (blocks : Spot → BlockState) (frontier : ℕ) (looked : Looked) → Valid u →
    is_mended u.work.mending ≡ false → u.ledger.greatest_seen ≤ frontier → IsNoneFreed blocks u.disk.blocks →
    IsBehind frontier looked → IsOffFree blocks looked → IsOffFree u.disk.blocks (settled_look u.ledger looked)
settled_off u blocks frontier Unwritten v un low none behind off = tt
settled_off u blocks frontier (OnPage name place) v un low none behind off = off_stays (OnPage name place) none off
settled_off u blocks frontier (InSlot name) v un low none behind off =
    if_both (IsOffFree u.disk.blocks) (nat_lt u.ledger.frontier name.number) tt
    (secure_off u name (u.ledger.standing name.number name.index) refl
    (λ p at. new_secure name.number name.index v un (omega (arith, low, behind)) at))

pub pins_settled_off : {t : Translation} (u : Translation) → Valid t → Valid u → is_mended u.work.mending ≡ false →
    u.ledger.greatest_seen ≡ t.ledger.greatest_seen → IsNoneFreed t.disk.blocks u.disk.blocks → ArePinsOffFree t →
    All (λ (pin : Pin). IsOffFree u.disk.blocks pin.looked) (map (settled_pin u.ledger) t.pins)
pins_settled_off {t} u v w un same none off =
    All-map (λ (pin : Pin). IsOffFree u.disk.blocks pin.looked) (settled_pin u.ledger) t.pins
    (λ k x l.
    settled_off u t.disk.blocks t.ledger.frontier (get_or t.pins k x).looked w un
    (let a = v.frontier.above in omega (arith, same, a)) none
    (slot_behind t (get_or t.pins k x).looked (v.pins.each k x l)) (off k x l))
  where
    slot_behind : (t : Translation) (looked : Looked) → LookedOf t looked → IsBehind t.ledger.frontier looked
    slot_behind t (InSlot name) h = h.0
    slot_behind t looked h = tt
