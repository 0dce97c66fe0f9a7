-- The replies that were put by: for each task tag a queue of its own.
use Rattle.std.specs.Prelude.{◌≡◌, ◌≢◌, ℕ, List, [], ◌∷◌, ◌++◌, Option, Some, drop, slice_get}

-- all queues but that of this tag are as before
abbrev pub OthersStay : {A : Type 0} → List (List A) → ℕ → List (List A) → Type 0
OthersStay old tag new = (other : ℕ) → other ≢ tag → slice_get new other ≡ slice_get old other

-- the first reply of the tag was taken
abbrev pub IsTaken : {A : Type 0} → List (List A) → ℕ → Option A → List (List A) → Type 0
IsTaken {A} old tag taken new = (queue : List A) → slice_get old tag ≡ Some queue →
    (taken ≡ slice_get queue 0) × (slice_get new tag ≡ Some (drop 1 queue))

-- the reply was put after all others of the tag
abbrev pub IsPut : {A : Type 0} → List (List A) → ℕ → A → List (List A) → Type 0
IsPut {A} old tag reply new = (queue : List A) → slice_get old tag ≡ Some queue →
    slice_get new tag ≡ Some (queue ++ reply ∷ [])
