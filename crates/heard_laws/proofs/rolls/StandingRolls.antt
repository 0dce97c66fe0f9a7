-- The entries of a journal and the commands that they stand for, one by one.
use Rattle.heard_laws.proofs.Common.{Doubted, List, None, Noted, Option, Some, [], ap, drop, inl, inr, length}
use Rattle.heard_laws.proofs.Common.{none-some, refl, same_Some, setting_command, slice_get, subst, suc, sym, take}
use Rattle.heard_laws.proofs.Common.{zero, ℕ, ⊎_elim, ◌++◌, ◌∷◌, ◌≡◌, ◌≤◌, ◌⊎◌}
use Rattle.std.specs.Prelude.{slice_index_or, slice_set}
use Rattle.ufs_spec.specs.Commands.{Command}
use Rattle.journal.specs.Entries.{Accepted, Refused}
use Rattle.heard_laws.specs.Resolving.{AreAmong, Resolves}
use Rattle.heard_laws.proofs.rolls.Rolls.{Roll, count, front_of, rest_of, somes}

-- one entry stands for this command, or for none
abbrev pub Stands : Noted → Option Command → Type 0
Stands (Accepted c) o = o ≡ Some c
Stands (Doubted s) o = (o ≡ None) ⊎ (o ≡ Some (setting_command s))
Stands Refused o = o ≡ None

-- and all of them
abbrev pub Stand : List Noted → Roll → Type 0
Stand [] [] = Unit {0}
Stand (e ∷ es) (o ∷ os) = Stands e o × Stand es os
Stand es os = ⊥

pub as_long : (es : List Noted) (os : Roll) → Stand es os → length os ≡ length es
as_long [] [] h = refl
as_long (e ∷ es) (o ∷ os) h = ap suc (as_long es os h.1)
as_long [] (o ∷ os) h = absurd h
as_long (e ∷ es) [] h = absurd h

pub stand_more : (es : List Noted) (os : Roll) (e : Noted) (o : Option Command) → Stand es os → Stands e o →
    Stand (es ++ e ∷ []) (os ++ o ∷ [])
stand_more [] [] e o h one = (one, tt)
stand_more (d ∷ es) (p ∷ os) e o h one = (h.0, stand_more es os e o h.1 one)
stand_more [] (p ∷ os) e o h one = absurd h
stand_more (d ∷ es) [] e o h one = absurd h

-- the entry at a place
pub stands_at : (es : List Noted) (os : Roll) (place : ℕ) (o : Option Command) → Stand es os →
    slice_get os place ≡ Some o → Stands (slice_index_or es place Refused) o
stands_at [] [] place o h e = absurd (none-some o e)
stands_at (d ∷ es) (p ∷ os) zero o h e = subst (Stands d) (same_Some p o e) h.0
stands_at (d ∷ es) (p ∷ os) (suc place) o h e = stands_at es os place o h.1 e
stands_at [] (p ∷ os) place o h e = absurd h
stands_at (d ∷ es) [] place o h e = absurd h

-- another entry at a place, that stands for the same
pub stand_set : (es : List Noted) (os : Roll) (place : ℕ) (d : Noted) (o : Option Command) → Stand es os →
    slice_get os place ≡ Some o → Stands d o → Stand (slice_set es place d) os
stand_set [] [] place d o h e one = absurd (none-some o e)
stand_set (x ∷ es) (p ∷ os) zero d o h e one = (subst (Stands d) (sym (same_Some p o e)) one, h.1)
stand_set (x ∷ es) (p ∷ os) (suc place) d o h e one = (h.0, stand_set es os place d o h.1 e one)
stand_set [] (p ∷ os) place d o h e one = absurd h
stand_set (x ∷ es) [] place d o h e one = absurd h

-- The front and the rest

pub stand_take : (n : ℕ) (es : List Noted) (os : Roll) → Stand es os → Stand (take n es) (take n os)
stand_take zero es os h = tt
stand_take (suc n) [] [] h = tt
stand_take (suc n) (e ∷ es) (o ∷ os) h = (h.0, stand_take n es os h.1)
stand_take (suc n) [] (o ∷ os) h = absurd h
stand_take (suc n) (e ∷ es) [] h = absurd h

stand_drop : (n : ℕ) (es : List Noted) (os : Roll) → Stand es os → Stand (drop n es) (drop n os)
stand_drop zero es os h = h
stand_drop (suc n) [] [] h = tt
stand_drop (suc n) (e ∷ es) (o ∷ os) h = stand_drop n es os h.1
stand_drop (suc n) [] (o ∷ os) h = absurd h
stand_drop (suc n) (e ∷ es) [] h = absurd h

-- What they stand for

one_resolves : (e : Noted) (o : Option Command) (es : List Noted) (cs : List Command) → Stands e o → Resolves es cs →
    Resolves (e ∷ es) (somes (o ∷ []) ++ cs)
one_resolves (Accepted c) o es cs h rest =
    subst (λ (x : Option Command). Resolves (Accepted c ∷ es) (somes (x ∷ []) ++ cs)) (sym h) (cs, refl, rest)
one_resolves Refused o es cs h rest =
    subst (λ (x : Option Command). Resolves (Refused ∷ es) (somes (x ∷ []) ++ cs)) (sym h) rest
one_resolves (Doubted s) o es cs h rest =
    ⊎_elim
    (λ (e : o ≡ None). subst (λ (x : Option Command). Resolves (Doubted s ∷ es) (somes (x ∷ []) ++ cs)) (sym e)
    (inl rest))
    (λ (e : o ≡ Some (setting_command s)). subst
    (λ (x : Option Command). Resolves (Doubted s ∷ es) (somes (x ∷ []) ++ cs)) (sym e) (inr (cs, refl, rest))) h

somes_first : (o : Option Command) (os : Roll) → somes (o ∷ []) ++ somes os ≡ somes (o ∷ os)
somes_first None os = refl
somes_first (Some c) os = refl

pub resolves : (es : List Noted) (os : Roll) → Stand es os → Resolves es (somes os)
resolves [] [] h = refl
resolves (e ∷ es) (o ∷ os) h =
    subst (Resolves (e ∷ es)) (somes_first o os) (one_resolves e o es (somes os) h.0 (resolves es os h.1))
resolves [] (o ∷ os) h = absurd h
resolves (e ∷ es) [] h = absurd h

-- the acknowledged ones
pub among : (es : List Noted) (os : Roll) (acknowledged : ℕ) {most : ℕ} → Stand es os →
    count acknowledged os ≤ most → AreAmong es acknowledged (somes os) most
among es os acknowledged h few = record {
  count = count acknowledged os;
  few = few;
  front = subst (Resolves (take acknowledged es)) (sym (front_of acknowledged os))
      (resolves (take acknowledged es) (take acknowledged os) (stand_take acknowledged es os h));
  rest = subst (Resolves (drop acknowledged es)) (sym (rest_of acknowledged os))
      (resolves (drop acknowledged es) (drop acknowledged os) (stand_drop acknowledged es os h));
}
