-- What was read after a stop is counted as what it is.
use Rattle.std.proofs.Common.{◌≡◌, ◌≤◌, ◌∙◌, Bool, IfNone, IfSome, List, None, Option, Some, ap, arith, false, length, map, refl, subst, sym, take, true, ℕ}
use Rattle.std.proofs.lemmas.Bool.{false≢true}
use Rattle.std.proofs.lemmas.List.{length-map}
use Rattle.std.proofs.lemmas.Option.{none-some, same_Some}
use Rattle.ufs_spec.specs.Plain.{Plain}
use Rattle.ufs_spec.specs.declared.configs.Numbers.{Numbers}
use Rattle.journal.specs.Entries.{CanFollow, IsAfter, Noted, noted_of}
use Rattle.journal.specs.Heard.{Heard}
use Rattle.journal.specs.Shown.{AreAreas, AreUnits, ShowsAll, holding}
use Rattle.journal.specs.declared.entries.Entry.{Entry}
use Rattle.journal.specs.declared.found.FoundRest.{FoundRest}
use Rattle.ufsim.specs.Trials.{Found, IsAllowed, IsRight, IsWhole, Trial, plain_of}
use Rattle.ufsim.specs.Checked.{IsMade, IsTrialIn}
use Rattle.ufsim.specs.declared.check.Life.{Life}
use Rattle.ufsim.specs.declared.reading.Holdings.{Holdings}

-- a stop after which something was not told rightly is bad
abbrev Untold : Life → Option Holdings → Type 0
Untold l found = (t : Trial) × IsTrialIn l found t × IsRight t × (t.good ≡ false)

untold_here : (l : Life) → Untold l None
untold_here l = (
  record { numbers = l.config; began = None; heard = l.journal; found = None; good = false },
  (refl, refl, refl),
  (λ no. absurd (false≢true no), λ _ f no. absurd (none-some f no)),
  refl,
)

pub untold : (l : Life) (found : Option Holdings) → found ≡ None → Untold l found
untold l found none = subst (Untold l) (sym none) (untold_here l)

-- the plain device that was made of what was read
pub made : (n m : Numbers) (units read : List (List (List ℕ))) (rest : FoundRest) (o : Option Plain) → m ≡ n →
    read ≡ units → IfSome o (λ p. p ≡ holding m read rest) →
    IfNone o (AreUnits m read → AreAreas m rest.regions → rest.boot ≤ 2 → ⊥) →
    IsMade n (Some (record { units = units; rest = rest })) o
made n m units read rest (Some p) same alike some none =
    some ∙ ap (λ (k : Numbers). holding k read rest) same ∙ ap (λ us. holding n us rest) alike
made n m units read rest None same alike some none =
    λ (wide, areas, boot).
    none
    (subst (λ (k : Numbers). AreUnits k read) (sym same) (subst (AreUnits n) (sym alike) wide))
    (subst (λ (k : Numbers). AreAreas k rest.regions) (sym same) areas) boot

-- no plain device can be made of what was read when the life began
pub none_made : (n : Numbers) (began : Option Found) (j : Heard) (found : Option Found) → (IsWhole n began → ⊥) →
    IsRight (record { numbers = n; began = began; heard = j; found = found; good = false })
none_made n began j found broken =
    (λ no. absurd (false≢true no), λ _ f said whole can allowed. broken whole)

-- what a prefix shows, told of the same journal in other words
allowed_here : (base base' : Plain) (j : Heard) (f : Found) (es : List Noted) (held : ℕ)
    (units : List (List (List ℕ))) → base ≡ base' → es ≡ j.entries → held ≡ j.held → units ≡ f.units →
    (k : ℕ) → held ≤ k → k ≤ length es → (p : Plain) → IsAfter base (take k es) p → ShowsAll units f.rest p →
    IsAllowed base' j f
allowed_here base base' j f es held units base_is es_is held_is units_is k low high p after shown = (
  k,
  subst (λ (h : ℕ). h ≤ k) held_is low,
  subst (λ (es : List Noted). k ≤ length es) es_is high,
  p,
  subst (λ (b : Plain). IsAfter b (take k j.entries) p) base_is
      (subst (λ (es : List Noted). IsAfter base (take k es) p) es_is after),
  subst (λ (us : List (List (List ℕ))). ShowsAll us f.rest p) units_is shown,
)

-- and back
allowed_there : (base base' : Plain) (j : Heard) (f : Found) (es : List Noted) (held : ℕ)
    (units : List (List (List ℕ))) → base ≡ base' → es ≡ j.entries → held ≡ j.held → units ≡ f.units →
    ((k : ℕ) → held ≤ k → k ≤ length es → (p : Plain) → IsAfter base (take k es) p → ShowsAll units f.rest p → ⊥) →
    IsAllowed base' j f → ⊥
allowed_there base base' j f es held units base_is es_is held_is units_is lost (k, low, high, p, after, shown) =
    lost k (subst (λ (h : ℕ). h ≤ k) (sym held_is) low)
    (subst (λ (es : List Noted). k ≤ length es) (sym es_is) high) p
    (subst (λ (b : Plain). IsAfter b (take k es) p) (sym base_is)
    (subst (λ (es : List Noted). IsAfter base' (take k es) p) (sym es_is) after))
    (subst (λ (us : List (List (List ℕ))). ShowsAll us f.rest p) (sym units_is) shown)

-- the answer of the comparison
pub judged : (n : Numbers) (began : Option Found) (j : Heard) (f : Found) (good : Bool) (base : Plain)
    (es : List Entry) (held : ℕ) (units : List (List (List ℕ))) →
    base ≡ plain_of n began → map noted_of es ≡ j.entries → held ≡ j.held → units ≡ f.units →
    (good ≡ true → (k : ℕ) × (held ≤ k) × (k ≤ length es) × (p : Plain)
    × IsAfter base (take k (map noted_of es)) p × ShowsAll units f.rest p) →
    (good ≡ false → CanFollow base (map noted_of es) → (k : ℕ) → held ≤ k → k ≤ length es → (p : Plain) →
    IsAfter base (take k (map noted_of es)) p → ShowsAll units f.rest p → ⊥) →
    IsRight (record { numbers = n; began = began; heard = j; found = Some f; good = good })
judged n began j f good base es held units base_is es_is held_is units_is kept lost =
    let long = length-map es noted_of in
    let here : ((k : ℕ) × (held ≤ k) × (k ≤ length es) × (p : Plain)
    × IsAfter base (take k (map noted_of es)) p × ShowsAll units f.rest p) → IsAllowed (plain_of n began) j f =
    λ (k, low, high, p, after, shown).
    allowed_here base (plain_of n began) j f (map noted_of es) held units base_is es_is held_is units_is k low
    (omega (arith, long, high)) p after shown in (
      λ yes. (f, refl, here (kept yes)),
      λ no g said whole can allowed.
          allowed_there base (plain_of n began) j f (map noted_of es) held units base_is es_is held_is units_is
          (λ k low high. lost no
          (subst (λ (b : Plain). CanFollow b (map noted_of es)) (sym base_is)
          (subst (CanFollow (plain_of n began)) (sym es_is) can)) k low (omega (arith, long, high)))
          (subst (IsAllowed (plain_of n began) j) (sym (same_Some f g said)) allowed),
    )
