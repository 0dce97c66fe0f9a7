-- What no call changes: the numbers, the base, and but for the ends of jobs the pages of the dies; and each block that
-- is being erased stays one of the dies'.
use Rattle.power_loss.proofs.Common.{◌≡◌, ◌⊎◌, ℕ, Bool, true, [], ◌∷◌, Option, Some, None, refl, sym, ◌∙◌, subst, inl}
use Rattle.power_loss.proofs.Common.{inr, ⊎_elim, Array, Erasing, Flight, Spot, at_die, EndJob, Ending, GiveJob, Move}
use Rattle.power_loss.proofs.Common.{TakeStep, is_for, is_for_task, LetGo, LetGoAll, moved, MayTake, Translation}
use Rattle.power_loss.proofs.Common.{Numbers, erase_unread as unread_erases}
use Rattle.power_loss.proofs.MachineWords.{Allowed, Answer, Call, Done, Event, Host, IsOpened, IsSpot, Leads, OfDone}
use Rattle.power_loss.proofs.MachineWords.{OfTake, OfTurn, Output, Reply, State, Take, Turn, array_after, behind}
use Rattle.power_loss.proofs.MachineWords.{numbers_of, observe, with_moves}
use Rattle.ufs_laws.proofs.walk.SmallChanges.{Change, IsSmall, IsSmallMove, Moves, Small, changed, first, first_kept}
use Rattle.ufs_laws.proofs.walk.SmallChanges.{behind_call, job_over, kept, observed}
use Rattle.power_loss.proofs.books.SmallFacts.{at_die_is}
use Rattle.power_loss.proofs.jobs_owed.ProgramsAndErases.{take_inside}
pub use Rattle.ufs_laws.proofs.walk.LayerEffects.{move_numbers}
use Rattle.ufs_laws.proofs.walk.LayerEffects.{Effect, die_freed, effect_flights, ended, turned_by}
use Rattle.ufs_laws.proofs.walk.LayerEffects.{with_effect, without_job}

-- ## Moves

-- Erases: no move but a take begins one

abbrev Flights : Type 0
Flights = ℕ → Option Flight

abbrev pub NoMoreErases : Flights → Flights → Type 0
NoMoreErases f g = (die : ℕ) (spot : Spot) → g die ≡ Some (Erasing spot) → f die ≡ Some (Erasing spot)

abbrev pub NoMore : Translation → Translation → Type 0
NoMore t u = NoMoreErases t.disk.flights u.disk.flights

pub none_erases : (spot : Spot) → None ≡ Some (Erasing spot) → ⊥
none_erases spot e = cc

idle_erases : (f : Flights) (die : ℕ) → NoMoreErases f (at_die f die None)
idle_erases f die other spot h =
    ⊎_elim (λ (k : (other ≡ die) × (None ≡ Some (Erasing spot))). absurd (none_erases spot k.1)) (λ k. k.1)
    (at_die_is f die None other (Some (Erasing spot)) h)

effect_erases : (t : Translation) (e : Effect) → NoMore t (with_effect t e)
effect_erases t e = subst (NoMoreErases t.disk.flights) (sym (effect_flights t e)) (left (die_freed e))
  where
    left : (o : Option ℕ) → NoMoreErases t.disk.flights (without_job t.disk.flights o)
    left None = λ die spot h. h
    left (Some die) = idle_erases t.disk.flights die

-- the move is no take
abbrev pub IsNoTake : Move → Type 0
IsNoTake (GiveJob die flight) = ⊥
IsNoTake move = Unit {0}

pub move_erases : (t : Translation) (move : Move) → IsNoTake move → NoMore t (moved t move)
move_erases t (GiveJob die flight) free = absurd free
move_erases t (LetGo tag index) free = λ other. unread_erases (is_for tag index) (t.disk.flights other)
move_erases t (LetGoAll tag) free = λ other. unread_erases (is_for_task tag) (t.disk.flights other)
move_erases t (EndJob die ending) free =
    ended (NoMore t) t die (t.disk.flights die) ending (λ e comes. effect_erases t e)
move_erases t TakeStep free = turned_by (NoMore t) t (λ e comes. effect_erases t e)
move_erases t move free = λ other spot e. e

-- ## Calls

-- The device

-- the numbers, the base and the pages are the same, and no erase is more
abbrev pub Same : State → State → Type 0
Same s t = (numbers_of t ≡ numbers_of s) × (t.base ≡ s.base) × (t.array ≡ s.array) × NoMore s.translation t.translation

self : (s : State) → Same s s
self s = (refl, refl, refl, λ other spot e. e)

same_behind : (s t u : State) → Same s t → Same t u → Same s u
same_behind s t u h k = (k.0 ∙ h.0, k.1 ∙ h.1, k.2 ∙ h.2, λ other spot e. h.3 other spot (k.3 other spot e))

pub small_one : (s : State) (change : Change) → IsSmall change → Same s (changed s change)
small_one s (Moves move) is =
    (move_numbers s.translation move, refl, refl, move_erases s.translation move (no_take move is))
  where
    no_take : (move : Move) → IsSmallMove move → IsNoTake move
    no_take (GiveJob die flight) is = is
    no_take move is = tt
small_one s change is = self s

pub small_same : {s t : State} → Small s t → Same s t
small_same h = kept Same (record { self = self; both = same_behind; one = small_one }) h

-- the numbers and the base are the same
abbrev pub Kept : State → State → Type 0
Kept s t = (numbers_of t ≡ numbers_of s) × (t.base ≡ s.base)

pub behind_kept : (s : State) (call : Call) (answer : Answer) → Kept s (behind s call answer)
behind_kept s call answer =
    let h = first_kept Kept (λ s. (refl, refl)) (λ s move array. (move_numbers s.translation move, refl)) s call
    answer in
    let k = small_same (behind_call s call answer) in
    (k.0 ∙ h.0, k.1 ∙ h.1)

pub call_kept : (s : State) (call : Call) (answer : Answer) → Kept s (observe s call answer)
call_kept s call answer =
    let h = first_kept Kept (λ s. (refl, refl)) (λ s move array. (move_numbers s.translation move, refl)) s call
    answer in
    let k = small_same (observed s call answer) in
    (k.0 ∙ h.0, k.1 ∙ h.1)

-- The pages

-- the pages that the end of a job leaves
abbrev pub array_ended : State → Option Flight → Ending → Array → Array
array_ended s None ending left = s.array
array_ended s (Some flight) ending left = array_after s flight ending left

-- the pages that a call leaves are those that were, or those that the end of a job leaves
abbrev pub Leaves : State → Call → Array → Type 0
Leaves s (Done die ending left) array =
    (array ≡ s.array) ⊎ (array ≡ array_ended s (s.translation.disk.flights die) ending left)
Leaves s call array = array ≡ s.array

over_array : (s : State) (die : ℕ) (flight : Option Flight) (ending : Ending) (left : Array) →
    (job_over s die flight ending left).array ≡ array_ended s flight ending left
over_array s die None ending left = refl
over_array s die (Some flight) ending left = refl

first_array : (s : State) (call : Call) (answer : Answer) → Leaves s call (first s call answer).array
first_array s (Done die ending left) (OfDone true) = inr (over_array s die (s.translation.disk.flights die) ending left)
first_array s (Done die ending left) answer = inl refl
first_array s (Take die) (OfTake (Some flight)) = refl
first_array s (Take die) answer = refl
first_array s Turn (OfTurn due) = refl
first_array s Turn answer = refl
first_array s (Host h) answer = refl
first_array s Reply answer = refl

pub call_array : (s : State) (call : Call) (answer : Answer) → Leaves s call (observe s call answer).array
call_array s call answer =
    subst (Leaves s call) (sym (small_same (observed s call answer)).2) (first_array s call answer)

-- Blocks that are being erased

-- each is one of the dies'
abbrev pub ErasesInside : State → Type 0
ErasesInside s =
    (die : ℕ) (spot : Spot) → s.translation.disk.flights die ≡ Some (Erasing spot) → IsSpot (numbers_of s) spot

inside_behind : (s t : State) → numbers_of t ≡ numbers_of s → NoMore s.translation t.translation → ErasesInside s →
    ErasesInside t
inside_behind s t e free h die spot f = subst (λ (n : Numbers). IsSpot n spot) (sym e) (h die spot (free die spot f))

inside_same : (s t : State) → Same s t → ErasesInside s → ErasesInside t
inside_same s t h is = inside_behind s t h.0 h.3 is

over_inside : (s : State) (die : ℕ) (flight : Option Flight) (ending : Ending) (left : Array) → ErasesInside s →
    ErasesInside (job_over s die flight ending left)
over_inside s die None ending left is = is
over_inside s die (Some flight) ending left is =
    inside_behind s (job_over s die (Some flight) ending left) (move_numbers s.translation (EndJob die ending))
    (move_erases s.translation (EndJob die ending) tt) is

gives_inside : (s : State) (die : ℕ) (flight : Flight) → MayTake s.translation die (Some flight) → ErasesInside s →
    ErasesInside (with_moves s (GiveJob die flight ∷ []))
gives_inside s die flight may is = λ other spot e.
    ⊎_elim (λ (h : (other ≡ die) × (Some flight ≡ Some (Erasing spot))). take_inside s.translation die spot (subst
    (MayTake s.translation die) h.1 may)) (λ h. is other spot h.1)
    (at_die_is s.translation.disk.flights die (Some flight) other (Some (Erasing spot)) e)

first_inside : (s : State) (call : Call) (answer : Answer) → Allowed s call answer → ErasesInside s →
    ErasesInside (first s call answer)
first_inside s (Take die) (OfTake (Some flight)) right is = gives_inside s die flight right is
first_inside s (Done die ending left) (OfDone true) right is =
    over_inside s die (s.translation.disk.flights die) ending left is
first_inside s Turn (OfTurn due) right is =
    inside_behind s (with_moves s (TakeStep ∷ [])) (move_numbers s.translation TakeStep)
    (move_erases s.translation TakeStep tt) is
first_inside s call answer right is = is

pub call_inside : (s : State) (call : Call) (answer : Answer) → Allowed s call answer → ErasesInside s →
    ErasesInside (observe s call answer)
call_inside s call answer right is =
    inside_same (first s call answer) (observe s call answer) (small_same (observed s call answer))
    (first_inside s call answer right is)

pub event_inside : {s t : State} {e : Event} {o : Output} → Leads s e o t → ErasesInside s → ErasesInside t
event_inside {s} h is = subst ErasesInside (sym h.next) (call_inside s h.call h.answer h.right is)

pub opened_inside : (n : Numbers) (array : Array) (bad : Spot → Bool) (s : State) → IsOpened n array bad s →
    ErasesInside s
opened_inside n array bad s h die spot e = absurd (none_erases spot (sym (h.translation.disk.idle die) ∙ e))
