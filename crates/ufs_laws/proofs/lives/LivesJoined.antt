-- A life begins with its beginning: it is cut at any of its events, and two lives joined are one.
use Rattle.ufs_laws.proofs.Common.{Event, Leads, Life, List, Output, State, [], ap, length, refl, subst, suc, ◌++◌, ◌∷◌}
use Rattle.ufs_laws.proofs.Common.{◌≡◌}

-- each event shows one output
pub life_length : (s : State) (es : List Event) (os : List Output) (t : State) → Life s es os t → length os ≡ length es
life_length s [] [] t h = refl
life_length s (e ∷ es) (o ∷ os) t h = ap suc (life_length h.0 es os t h.2)
life_length s es os t h = absurd h

-- what a life showed up to an event, and behind it
abbrev pub Cut : State → List Event → List Event → List Output → State → Type 0
Cut s es fs os t =
    (front : List Output) × (back : List Output) × (middle : State)
    × (os ≡ front ++ back) × (length front ≡ length es) × Life s es front middle × Life middle fs back t

cut_more : (s : State) (e : Event) (es fs : List Event) (o : Output) (os : List Output) (t next : State)
    → Leads s e o next → Cut next es fs os t → Cut s (e ∷ es) fs (o ∷ os) t
cut_more s e es fs o os t next leads c =
    (o ∷ c.0, c.1, c.2, ap (λ (xs : List Output). o ∷ xs) c.3, ap suc c.4, (next, leads, c.5), c.6)

pub cut : (s : State) (es fs : List Event) (os : List Output) (t : State) → Life s (es ++ fs) os t → Cut s es fs os t
cut s [] fs os t h = ([], os, s, refl, refl, refl, h)
cut s (e ∷ es) fs [] t h = absurd h
cut s (e ∷ es) fs (o ∷ os) t h = cut_more s e es fs o os t h.0 h.1 (cut h.0 es fs os t h.2)

pub join : (s : State) (es fs : List Event) (os ps : List Output) (u t : State) → Life s es os u → Life u fs ps t →
    Life s (es ++ fs) (os ++ ps) t
join s [] fs [] ps u t h k = subst (λ (v : State). Life v fs ps t) h k
join s (e ∷ es) fs (o ∷ os) ps u t h k = (h.0, h.1, join h.0 es fs os ps u t h.2 k)
join s es fs os ps u t h k = absurd h
