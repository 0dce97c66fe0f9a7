-- A legal list that grows at its end, and the steps of one seat in it.
use Rattle.lanes.proofs.Common.{Bool, Entry, Follows, Legal, List, Made, State, [], ap, append-nil, append_assoc, cond}
use Rattle.lanes.proofs.Common.{false, mine, refl, step_by, subst, sym, true, ℕ, ◌++◌, ◌∙◌, ◌∷◌, ◌≡◌, ◌≢◌}
use Rattle.std.proofs.Common.{eq-eqb, eqb, ne_eqb}
use Rattle.lanes.specs.Legal.{Begins}

pub legal_more : (s t u : State) (es : List Entry) (e : Entry) → Legal s es t → Follows t e.made u →
    Legal s (es ++ e ∷ []) u
legal_more s t u [] e is next = (u, subst (λ (x : State). Follows x e.made u) is next, refl)
legal_more s t u (d ∷ es) e is next = (is.0, is.1, legal_more is.0 t u es e is.2 next)

pub mine-append : (by : ℕ) (es fs : List Entry) → mine by (es ++ fs) ≡ mine by es ++ mine by fs
mine-append by [] fs = refl
mine-append by (e ∷ es) fs = each (eqb e.by by) (mine-append by es fs)
  where
    each : (b : Bool) → mine by (es ++ fs) ≡ mine by es ++ mine by fs →
        cond b (e ∷ mine by (es ++ fs)) (mine by (es ++ fs)) ≡ cond b (e ∷ mine by es) (mine by es) ++ mine by fs
    each true same = ap (λ l. e ∷ l) same
    each false same = same

-- a step of another seat adds none
pub mine-other : (by other : ℕ) (step : Made) (es : List Entry) → by ≢ other →
    mine other (es ++ step_by by step ∷ []) ≡ mine other es
mine-other by other step es apart =
    mine-append other es (step_by by step ∷ [])
    ∙ ap (λ (b : Bool). mine other es ++ cond b (step_by by step ∷ []) []) (ne_eqb by other apart)
    ∙ append-nil (mine other es)

-- a step of the seat itself is added
pub mine-own : (by : ℕ) (step : Made) (es : List Entry) →
    mine by (es ++ step_by by step ∷ []) ≡ mine by es ++ step_by by step ∷ []
mine-own by step es =
    mine-append by es (step_by by step ∷ [])
    ∙ ap (λ (b : Bool). mine by es ++ cond b (step_by by step ∷ []) []) (eq-eqb by by refl)

pub begins_more : (seen list : List Entry) (e : Entry) → Begins seen list → Begins seen (list ++ e ∷ [])
begins_more seen list e is = (is.0 ++ e ∷ [], ap (λ l. l ++ e ∷ []) is.1 ∙ append_assoc seen is.0 (e ∷ []))

pub begins_whole : (list : List Entry) → Begins list list
begins_whole list = ([], sym (append-nil list))
