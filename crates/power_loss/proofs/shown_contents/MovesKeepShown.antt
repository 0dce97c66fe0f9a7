-- What the moves of the translation layer leave of what is kept: it shows the same blocks.
use Rattle.power_loss.proofs.Common.{◌≡◌, ℕ, Bool, true, false, if◌then◌else◌, All, List, [], ◌∷◌, ◌++◌, Option, Some}
use Rattle.power_loss.proofs.Common.{None, fold, map, refl, sym, ◌∙◌, subst, All-head, All-map, All-push, All-tail}
use Rattle.power_loss.proofs.Common.{All-weaker, Flight, Group, InSlot, Ledger, Looked, OnPage, Unwritten, looked_on}
use Rattle.power_loss.proofs.Common.{settled_look, Ending, Keep, TakeStep, end_flight, is_pin_of, moved, settled_pin}
use Rattle.power_loss.proofs.Common.{with_wanted, Pin, Translation, Key, Place, book, none-some, if_both, Valid}
use Rattle.power_loss.proofs.MachineWords.{Task, IsShown, ShowsRight}
use Rattle.std.proofs.Common.{nat_lt}
use Rattle.std.proofs.lemmas.Bool.{ltb-false}
use Rattle.ufs_laws.proofs.walk.LayerEffects.{ComesOf, Effect, PageWritten, RepairOrdered, TaskRead, ended, turned_by}
use Rattle.ufs_laws.proofs.walk.LayerEffects.{with_effect}
use Rattle.power_loss.proofs.books.PagesByName.{none_some, page_grows}
use Rattle.power_loss.proofs.shown_blocks.PinsShowBlocks.{Knows, Reshows, Show, block_reshown, show_known, shown_known}

-- what is kept shows the same after the move
abbrev pub StillShow : Translation → Translation → Type 0
StillShow t u = (tasks : List Task) → Show t.ledger tasks t.pins → Show u.ledger tasks u.pins

-- a group more
pub knows_more : (t : Translation) (g : Group) → Knows t.ledger (record t.ledger { groups = t.ledger.groups ++ g ∷ [] })
knows_more t g name e h = page_grows (book t) g name.number name.index e h

-- nothing else of the contents
pub same_shows : (t u : Translation) → Knows t.ledger u.ledger → u.pins ≡ t.pins → StillShow t u
same_shows t u knows same tasks h =
    subst (Show u.ledger tasks) (sym same) (show_known t.ledger u.ledger tasks t.pins knows h)

pub wanted_shows : (l : Ledger) (tasks : List Task) (tag index : ℕ) (wanted : Bool) (pins : List Pin) →
    Show l tasks pins → Show l tasks (map (with_wanted tag index wanted) pins)
wanted_shows l tasks tag index wanted pins h = All-map (ShowsRight l tasks) (with_wanted tag index wanted) pins
    (All-weaker (ShowsRight l tasks) (λ (pin : Pin). ShowsRight l tasks (with_wanted tag index wanted pin))
    (λ pin r. if_both (ShowsRight l tasks) (is_pin_of tag index pin)
    (record { task = r.task; there = r.there; shows = r.shows }) r) pins h)

-- Steps, and the ends of jobs

-- a slot whose group is durable now shows the same as its page
settles : (t u : Translation) (x : Looked) → Valid u → Knows t.ledger u.ledger →
    Reshows t.ledger u.ledger x (settled_look u.ledger x)
settles t u Unwritten v knows k body h = h
settles t u (OnPage name place) v knows k body h = shown_known t.ledger u.ledger k (OnPage name place) body knows h
settles t u (InSlot name) v knows k body h = by (nat_lt u.ledger.frontier name.number) refl
  where
    now : IsShown u.ledger k (InSlot name) body
    now = shown_known t.ledger u.ledger k (InSlot name) body knows h

    on : (x : Option Place) → u.ledger.standing name.number name.index ≡ x →
        ((p : Place) × (u.ledger.standing name.number name.index ≡ Some p)) → IsShown u.ledger k (looked_on name x) body
    on (Some p) e there = now
    on None e there = absurd (none_some there.0 (sym e ∙ there.1))

    by : (b : Bool) → nat_lt u.ledger.frontier name.number ≡ b →
        IsShown u.ledger k (if b then InSlot name else looked_on name (u.ledger.standing name.number name.index)) body
    by true e = now
    by false e = on (u.ledger.standing name.number name.index) refl
        (v.frontier.stand name.number name.index now.entry (ltb-false u.ledger.frontier name.number e) now.is)

settled_shows : (t u : Translation) → Valid u → Knows t.ledger u.ledger → u.pins ≡ map (settled_pin u.ledger) t.pins →
    StillShow t u
settled_shows t u v knows same tasks h = subst (Show u.ledger tasks) (sym same)
    (All-map (ShowsRight u.ledger tasks) (settled_pin u.ledger) t.pins
    (All-weaker (ShowsRight t.ledger tasks) (λ (pin : Pin). ShowsRight u.ledger tasks (settled_pin u.ledger pin))
    (λ pin r. record {
      task = r.task;
      there = r.there;
      shows = block_reshown t.ledger u.ledger pin.looked (settled_look u.ledger pin.looked) pin.index r.task.deed
          (settles t u pin.looked v knows) r.shows;
    }) t.pins h))

effect_shows : (t : Translation) (o : Option Flight) (e : Effect) → ComesOf t o e →
    ((x : Flight) → o ≡ Some x → Valid (with_effect t e)) → StillShow t (with_effect t e)
effect_shows t o (TaskRead die tag index) comes v tasks h = wanted_shows t.ledger tasks tag index false t.pins h
effect_shows t o (PageWritten p tag body) comes v tasks h =
    settled_shows t (with_effect t (PageWritten p tag body)) (v _ comes) (λ name e k. k) refl tasks h
effect_shows t o (RepairOrdered k left) comes v tasks h = same_shows t (with_effect t (RepairOrdered k left))
    (knows_more t (record { key = k; body = t.ledger.base k } ∷ [])) refl tasks h
effect_shows t o e comes v tasks h = same_shows t (with_effect t e) (λ name x k. k) refl tasks h

pub turn_shows : (t : Translation) → StillShow t (moved t TakeStep)
turn_shows t = turned_by (StillShow t) t (λ e comes. effect_shows t None e comes (λ x is. absurd (none-some x is)))

pub end_shows : (t : Translation) (die : ℕ) (flight : Option Flight) (ending : Ending) →
    Valid (end_flight t die flight ending) → StillShow t (end_flight t die flight ending)
end_shows t die flight ending = ended (λ u. Valid u → StillShow t u) t die flight ending
    (λ e comes v. effect_shows t flight e comes (λ x is. v))

-- Pins more

pub kept_pins : (P : Pin → Type 0) (k : ℕ → Key) (f : ℕ → Pin) (xs : List ℕ) (t : Translation) → All P t.pins →
    All (λ i. P (f i)) xs → All P (fold moved t (map (λ i. Keep (k i) (f i)) xs)).pins
kept_pins P k f [] t h more = h
kept_pins P k f (x ∷ xs) t h more =
    kept_pins P k f xs (moved t (Keep (k x) (f x))) (All-push P t.pins (f x) h (All-head (λ i. P (f i)) x xs more))
    (All-tail (λ i. P (f i)) x xs more)

pub kept_ledger : (k : ℕ → Key) (f : ℕ → Pin) (xs : List ℕ) (t : Translation) →
    (fold moved t (map (λ i. Keep (k i) (f i)) xs)).ledger ≡ t.ledger
kept_ledger k f [] t = refl
kept_ledger k f (x ∷ xs) t = kept_ledger k f xs (moved t (Keep (k x) (f x)))
