-- How the counts of stops go on.
use Rattle.std.proofs.Common.{◌≡◌, ◌↔◌, IfOk, Ok, Result, ◌+◌, ◌∙◌, ◌∷◌, ℕ, Bool, true, false, List, Option, length, refl, sym, subst, ap, arith, if◌then◌else◌}
use Rattle.std.specs.Io.KnownBytes.{Appends}
use Rattle.ufsim.specs.Trials.{AreCounted, Counts, IsMore, IsRight, Tells, TellsGood, Trial, bad_among, capped, check_line, counted}
use Rattle.ufsim.specs.Checked.{GoesOn}
use Rattle.ufsim.specs.declared.fault.ScriptFault.{ScriptFault}
use Rattle.ufsim.specs.declared.check.Stops.{Stops}
use Rattle.ufsim.specs.declared.check.Stops.TheVariants.{One}

pub one_more : (a n : ℕ) → a ≡ capped n → capped (a + 1) ≡ capped (n + 1)
one_more a n is = omega (arith, is)

-- a good one more, or a bad one, among those that were counted
pub good_more : (s b s' : ℕ) → AreCounted s b → (t : Trial) → IsRight t → t.good ≡ true → s' ≡ capped (s + 1) →
    AreCounted s' b
good_more s b s' (ts, unread, right, stops, bad) t is good more_stops =
    let same : bad_among (t ∷ ts) ≡ bad_among ts = ap (λ (g : Bool). if g then bad_among ts else bad_among ts + 1) good in
    let long : length (t ∷ ts) ≡ length ts + 1 = omega arith in (
      t ∷ ts,
      unread,
      (is, right),
      more_stops ∙ one_more s (length ts) stops ∙ ap capped (sym long),
      bad ∙ ap (λ (n : ℕ). capped (n + unread)) (sym same),
    )

pub bad_more : (s b s' b' : ℕ) → AreCounted s b → (t : Trial) → IsRight t → t.good ≡ false → s' ≡ capped (s + 1) →
    b' ≡ capped (b + 1) → AreCounted s' b'
bad_more s b s' b' (ts, unread, right, stops, bad) t is good more_stops more_bad =
    let more : bad_among (t ∷ ts) ≡ bad_among ts + 1 =
    ap (λ (g : Bool). if g then bad_among ts else bad_among ts + 1) good in
    let long : length (t ∷ ts) ≡ length ts + 1 = omega arith in
    let ends : bad_among ts + unread + 1 ≡ bad_among ts + 1 + unread = omega arith in (
      t ∷ ts,
      unread,
      (is, right),
      more_stops ∙ one_more s (length ts) stops ∙ ap capped (sym long),
      more_bad ∙ one_more b (bad_among ts + unread) bad ∙ ap capped ends ∙ ap (λ (n : ℕ). capped (n + unread)) (sym more),
    )

-- dies that were not told rightly
pub unread_more : (s b b' : ℕ) → AreCounted s b → b' ≡ capped (b + 1) → AreCounted s b'
unread_more s b b' (ts, unread, right, stops, bad) more_bad =
    let ends : bad_among ts + unread + 1 ≡ bad_among ts + (unread + 1) = omega arith in
    (ts, unread + 1, right, stops, more_bad ∙ one_more b (bad_among ts + unread) bad ∙ ap capped ends)

-- ## So many stops more

pub more_none : (c : Counts) → IsMore 0 c c
more_none c = (refl, λ s is. is ∙ ap capped (omega arith))

pub more_one : (a b c : Counts) (k : ℕ) (good : Bool) → IsMore k a b → c ≡ counted b good → IsMore (k + 1) a c
more_one a b c k good (moments, stops) is = (
  ap (λ (x : Counts). x.moments) is ∙ moments,
  λ s now. ap (λ (x : Counts). x.stops) is ∙ one_more b.stops (s + k) (stops s now) ∙ ap capped (omega arith),
)

-- nothing was given to a die
pub stays_at : (before after : Stops) (old new : Counts) → after ≡ before → new ≡ old → GoesOn 0 before old after new
stays_at before after old new same is = (
  same,
  λ one n s moments stops. (
    ap (λ (x : Counts). x.moments) is ∙ moments ∙ ap capped (omega arith),
    ap (λ (x : Counts). x.stops) is ∙ stops ∙ ap capped (omega arith),
  ),
)

-- a program or an erase was given, and the stops at it were tried
pub moment_more : (tries : Stops) (old mid new : Counts) → mid ≡ record old { moments = capped (old.moments + 1) } →
    (tries ≡ One → IsMore 3 mid new) → GoesOn 1 tries old tries new
moment_more tries old mid new is more = (
  refl,
  λ one n s moments stops. (
    (more one).0 ∙ ap (λ (x : Counts). x.moments) is ∙ one_more old.moments n moments,
    (more one).1 s (ap (λ (x : Counts). x.stops) is ∙ stops),
  ),
)

-- it was given, and no stops are tried at it
pub moment_passed : (tries : Stops) (old new : Counts) → (tries ≡ One → ⊥) → GoesOn 1 tries old tries new
moment_passed tries old new other = (refl, λ one n s moments stops. absurd (other one))

-- ## What is told

pub tells : (before after : Option (List ℕ)) (stops bad : ℕ) (well : Bool) →
    Appends before after (check_line stops bad) → AreCounted stops bad → (well ≡ true ↔ bad ≡ 0) →
    Tells before after well
tells before after stops bad well line counts none = (stops, bad, line, counts, none)

good_of : (before after : Option (List ℕ)) → Tells before after true → TellsGood before after
good_of before after (stops, bad, line, counts, none) =
    let zero : bad ≡ 0 = none.0 refl in (
      stops,
      subst (λ (n : ℕ). Appends before after (check_line stops n)) zero line,
      subst (λ (n : ℕ). AreCounted stops n) zero counts,
    )

pub tells_good : (ended : Result Bool ScriptFault) (before after : Option (List ℕ)) →
    IfOk ended (λ well. Tells before after well) → ended ≡ Ok true → TellsGood before after
tells_good ended before after told well =
    good_of before after
    (subst (λ (e : Result Bool ScriptFault). IfOk e (λ well. Tells before after well)) well told)
