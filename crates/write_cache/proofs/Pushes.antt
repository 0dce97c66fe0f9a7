-- A page is put behind all others, or leaves before them: the queue and its ring.
use Rattle.write_cache.proofs.Common.{AreRuns, Bool, GroupAt, List, None, Pending, Shown, [], ap, arith, first_number}
use Rattle.write_cache.proofs.Common.{is_none, length, length-map, map, map-append, refl, shortened, shown, subst, sym}
use Rattle.write_cache.proofs.Common.{wrapped, ℕ, ◌++◌, ◌+◌, ◌<◌, ◌^◌, ◌∙◌, ◌∷◌, ◌≡◌, ◌≤◌}
use Rattle.write_cache.specs.Ring.{noted}
use Rattle.write_cache.proofs.Runs.{runs_first, runs_lower}
use Rattle.write_cache.proofs.ChangedRuns.{new, runs_noted, runs_shorter}

-- the number of the first group is that of the first entry
pub first_again : (d n : ℕ) (gs : List GroupAt) → n ≡ first_number d gs → n ≡ first_number n gs
first_again d n [] is = refl
first_again d n (g ∷ gs) is = is

-- one page more
pub pushed : (s l h front : ℕ) (gs hs : List GroupAt) (ps qs : List Pending) (p : Pending) →
    AreRuns s l h gs (map shown ps) → hs ≡ noted s p.number p.index gs → qs ≡ ps ++ p ∷ [] → h ≤ p.number →
    p.written ≡ None → length ps + 1 < 2 ^ 16 → front ≡ first_number l hs →
    AreRuns s front p.number hs (map shown qs)
pushed s l h front gs hs ps qs p r is all le none few first =
    subst (λ (n : ℕ). AreRuns s n p.number hs (map shown qs)) (sym first)
    (runs_first s 0 p.number l hs (map shown qs)
    (subst (λ (fs : List GroupAt). AreRuns s 0 p.number fs (map shown qs)) (sym is)
    (subst (λ (xs : List Shown). AreRuns s 0 p.number (noted s p.number p.index gs) xs) (sym shows)
    (runs_noted s h p.number p.index gs (map shown ps) (runs_lower s l 0 h gs (map shown ps) r (omega arith)) le
    (let long = length-map ps shown in omega (arith, long, few))))))
  where
    shows : map shown qs ≡ map shown ps ++ new p.number p.index ∷ []
    shows = ap (λ (ys : List Pending). map shown ys) all ∙ map-append shown ps (p ∷ [])
        ∙ ap (λ (b : Bool). map shown ps ++ record { number = p.number; index = p.index; is_open = b } ∷ [])
        (ap is_none none)

-- one page fewer
pub taken : (s l h front : ℕ) (gs hs : List GroupAt) (ps qs : List Pending) (p : Pending) →
    AreRuns s l h gs (map shown ps) → ps ≡ p ∷ qs → hs ≡ shortened (is_none p.written) gs →
    front ≡ first_number l hs → AreRuns (wrapped (s + 1)) front h hs (map shown qs)
taken s l h front gs hs ps qs p r all is first =
    subst (λ (n : ℕ). AreRuns (wrapped (s + 1)) n h hs (map shown qs)) (sym first)
    (runs_first (wrapped (s + 1)) 0 h l hs (map shown qs)
    (subst (λ (fs : List GroupAt). AreRuns (wrapped (s + 1)) 0 h fs (map shown qs)) (sym is)
    (runs_shorter s h gs (shown p) (map shown qs)
    (subst (λ (ys : List Pending). AreRuns s 0 h gs (map shown ys)) all
    (runs_lower s l 0 h gs (map shown ps) r (omega arith))))))
