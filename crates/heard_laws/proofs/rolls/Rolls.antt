-- A roll: for each entry of a journal the command that it stands for, if one.
use Rattle.heard_laws.proofs.Common.{List, None, Option, Some, [], ap, arith, drop, length, none-some, refl, slice_get}
use Rattle.heard_laws.proofs.Common.{suc, take, zero, ℕ, ◌++◌, ◌<◌, ◌∷◌, ◌≡◌, ◌≤◌}
use Rattle.ufs_spec.specs.Commands.{Command}

abbrev pub Roll : Type 0
Roll = List (Option Command)

-- the commands of a roll, in order
abbrev pub somes : Roll → List Command
somes [] = []
somes (None ∷ os) = somes os
somes (Some c ∷ os) = c ∷ somes os

-- how many commands there are among the first so many
abbrev pub count : ℕ → Roll → ℕ
count p roll = length (somes (take p roll))

-- One more

pub somes_some : (roll : Roll) (c : Command) → somes (roll ++ Some c ∷ []) ≡ somes roll ++ c ∷ []
somes_some [] c = refl
somes_some (None ∷ os) c = somes_some os c
somes_some (Some d ∷ os) c = ap (λ (cs : List Command). d ∷ cs) (somes_some os c)

pub somes_none : (roll : Roll) → somes (roll ++ None ∷ []) ≡ somes roll
somes_none [] = refl
somes_none (None ∷ os) = somes_none os
somes_none (Some d ∷ os) = ap (λ (cs : List Command). d ∷ cs) (somes_none os)

take_front : (p : ℕ) (roll : Roll) (o : Option Command) → p ≤ length roll → take p (roll ++ o ∷ []) ≡ take p roll
take_front zero roll o h = refl
take_front (suc p) [] o h = absurd (omega (arith, h))
take_front (suc p) (x ∷ roll) o h = ap (λ (xs : Roll). x ∷ xs) (take_front p roll o (omega (arith, h)))

pub count_more : (p : ℕ) (roll : Roll) (o : Option Command) → p ≤ length roll →
    count p (roll ++ o ∷ []) ≡ count p roll
count_more p roll o h = ap (λ (xs : Roll). length (somes xs)) (take_front p roll o h)

pub count_none : (roll : Roll) → count 0 roll ≡ 0
count_none roll = refl

take_whole : (p : ℕ) (roll : Roll) → length roll ≤ p → take p roll ≡ roll
take_whole zero [] h = refl
take_whole zero (x ∷ roll) h = absurd (omega (arith, h))
take_whole (suc p) [] h = refl
take_whole (suc p) (x ∷ roll) h = ap (λ (xs : Roll). x ∷ xs) (take_whole p roll (omega (arith, h)))

pub count_all : (p : ℕ) (roll : Roll) → length roll ≤ p → count p roll ≡ length (somes roll)
count_all p roll h = ap (λ (xs : Roll). length (somes xs)) (take_whole p roll h)

pub count_least : (p : ℕ) (roll : Roll) → count p roll ≤ length (somes roll)
count_least zero roll = omega arith
count_least (suc p) [] = omega arith
count_least (suc p) (None ∷ roll) = count_least p roll
count_least (suc p) (Some c ∷ roll) = let l = count_least p roll in omega (arith, l)

-- The front and the rest

pub front_of : (p : ℕ) (roll : Roll) → take (count p roll) (somes roll) ≡ somes (take p roll)
front_of zero roll = refl
front_of (suc p) [] = refl
front_of (suc p) (None ∷ roll) = front_of p roll
front_of (suc p) (Some c ∷ roll) = ap (λ (cs : List Command). c ∷ cs) (front_of p roll)

pub rest_of : (p : ℕ) (roll : Roll) → drop (count p roll) (somes roll) ≡ somes (drop p roll)
rest_of zero roll = refl
rest_of (suc p) [] = refl
rest_of (suc p) (None ∷ roll) = rest_of p roll
rest_of (suc p) (Some c ∷ roll) = rest_of p roll

pub place_within : (roll : Roll) (place : ℕ) (o : Option Command) → slice_get roll place ≡ Some o → place < length roll
place_within [] place o e = absurd (none-some o e)
place_within (x ∷ roll) zero o e = omega arith
place_within (x ∷ roll) (suc place) o e = let l = place_within roll place o e in omega (arith, l)
