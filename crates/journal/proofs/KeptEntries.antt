-- What was found is what entries may make, just where all but the settings is as they make it for sure, and the settings
-- may be there.
use Rattle.std.proofs.Common.{◌≡◌, ◌∙◌, ◌==◌, ℕ, Bool, true, false, List, ap, refl, subst, sym}
use Rattle.std.proofs.lemmas.Bool.{false≢true}
use Rattle.std.specs.Prelude.{Err, IfErr, Ok, Result}
use Rattle.std.specs.Result.{is_ok}
use Rattle.ufs_spec.specs.Plain.{Plain}
use Rattle.journal.specs.Entries.{IsAfter, Noted, same_flag, surely_after}
use Rattle.journal.specs.Shown.{MayShow, Shows, ShowsAll, ShowsRegions}
use Rattle.journal.specs.declared.found.FoundRest.{FoundRest}
use Rattle.journal.specs.declared.settings.ShownSettings.{ShownSettings}
use Rattle.journal.proofs.EntryFacts.{boot_after, made, permanent_after, seen, with_settings}

-- what is known of the plain state that the entries make for sure, and of the settings
abbrev pub IsKnown : List Noted → Plain → FoundRest → Plain → ShownSettings → Type 0
IsKnown es base rest plain may =
    (plain ≡ surely_after base es)
    × (may.boot ≡ boot_after rest.boot (base.boot == rest.boot) es)
    × (may.permanent ≡ permanent_after rest.is_permanent (same_flag base.permanent rest.is_permanent) es)

-- then the entries may make a plain state that shows it
pub shown_made : (es : List Noted) (base : Plain) (found : List (List (List ℕ))) (rest : FoundRest) (plain : Plain)
    (may : ShownSettings) → IsKnown es base rest plain may → MayShow found rest plain may →
    (p : Plain) × IsAfter base es p × ShowsAll found rest p
shown_made es base found rest plain may known shown =
    let there = subst (λ (q : Plain). MayShow found rest q may) known.0 shown in
    let boot : may.boot ≡ true = there.1 in
    let permanent : may.permanent ≡ true = there.2 in (
      with_settings rest.boot rest.is_permanent (surely_after base es),
      made es base rest.boot rest.is_permanent (sym known.1 ∙ boot) (sym known.2 ∙ permanent),
      (there.0, (refl, refl), there.3),
    )

-- and only then
pub made_shown : (es : List Noted) (base : Plain) (found : List (List (List ℕ))) (rest : FoundRest) (plain : Plain)
    (may : ShownSettings) → IsKnown es base rest plain may →
    (p : Plain) → IsAfter base es p → ShowsAll found rest p → MayShow found rest plain may
made_shown es base found rest plain may known p after shown =
    let s = seen es base p after in
    let is_boot : rest.boot ≡ p.boot = shown.1.0 in
    let is_permanent : rest.is_permanent ≡ p.permanent = shown.1.1 in
    let blocks : Shows found (surely_after base es) = subst (Shows found) (sym s.rest) shown.0 in
    let regions : ShowsRegions rest.regions (surely_after base es) =
    subst (ShowsRegions rest.regions) (sym s.rest) shown.2 in
    let boot : may.boot ≡ true =
    known.1 ∙ ap (λ (b : ℕ). boot_after b (base.boot == b) es) is_boot ∙ s.boot in
    let permanent : may.permanent ≡ true =
    known.2 ∙ ap (λ (f : Bool). permanent_after f (same_flag base.permanent f) es) is_permanent ∙ s.permanent in
    subst (λ (q : Plain). MayShow found rest q may) (sym known.0) (blocks, boot, permanent, regions)

-- what holds of each error holds of a result that is not Ok
pub if_not_ok : {A B : Type 0} (r : Result A B) (X : Type 0) → is_ok r ≡ false → IfErr r (λ (e : B). X) → X
if_not_ok (Ok a) X other h = absurd (false≢true (sym other))
if_not_ok (Err e) X other h = h
