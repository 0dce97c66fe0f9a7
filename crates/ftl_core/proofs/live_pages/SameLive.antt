-- What changes neither places of contents nor which pages are live.
use Rattle.ftl_core.proofs.Common.{Bool, Collection, Core, DieRow, Fence, ForNobody, ForRest, ForStep, ForTask}
use Rattle.ftl_core.proofs.Common.{IsReadAfter, IsReadOver, IsWrittenAt, Key, KnowsLive, List, Lives, Name, None}
use Rattle.ftl_core.proofs.Common.{Numbers, OpenBlock, Option, Outcome, Pending, Place, PlannedCopy, Reader, Some, Step}
use Rattle.ftl_core.proofs.Common.{Stored, Tag, [], ap, awaits, completed, false, greatest_number, if◌then◌else◌, inl}
use Rattle.ftl_core.proofs.Common.{inr, mark_ordered, nat_le, nat_lt, page_written, plan_next, refl, rests_filled}
use Rattle.ftl_core.proofs.Common.{step_again, subst, sym, true, with_content, with_rest, with_row, ℕ, ⊎_elim, ◌-◌, ◌∙◌}
use Rattle.ftl_core.proofs.Common.{◌∷◌, ◌≡◌}
use Rattle.ftl_core.specs.declared.books.Step.TheVariants as steps
use Rattle.write_cache.proofs.Fills.{places_kept}
use Rattle.ftl_core.specs.Turns.{IsCollectionTurned, IsStepTurned, IsTurned, plan_turned, repair_turned}
use Rattle.ftl_core.specs.declared.books.Mending.{Mending}
use Rattle.ftl_core.specs.declared.books.Mending.TheVariants as mendings

-- the numbers, the places, the live pages and the pending pages
abbrev pub Facts : Type 0
Facts = Numbers × List (Option Stored) × Lives × List Pending

abbrev pub facts : Core → Facts
facts c = (c.numbers, c.places, c.live, c.pages)

abbrev pub Knows : Facts → Type 0
Knows f = KnowsLive f.0 f.1 f.3 f.2

-- what is known goes on to be
pub knows_on : (c d : Core) → facts d ≡ facts c → Knows (facts c) → Knows (facts d)
knows_on c d e h = subst Knows (sym e) h

-- Programs and erases

either : (test : Bool) (x y : Core) (f : Facts) → facts x ≡ f → facts y ≡ f → facts (if test then x else y) ≡ f
either true x y f e g = e
either false x y f e g = g

pub written_same : (c : Core) (die : ℕ) (b : DieRow) (o : Option OpenBlock) → facts (page_written c die b o) ≡ facts c
written_same c die b None = refl
written_same c die b (Some o) = either (nat_lt o.next (c.numbers.pages - 1)) _ _ (facts c) refl refl

ordered_same : (c : Core) (fence : Option Fence) → facts (mark_ordered c fence) ≡ facts c
ordered_same c fence = either (nat_le c.next_mark greatest_number) _ _ (facts c) refl refl

pub again_same : (c : Core) (step : Option Step) → facts (step_again c step) ≡ facts c
again_same c None = refl
again_same c (Some (steps.Mark n fence)) = ordered_same c fence
again_same c (Some (steps.Repair n k from there)) = refl
again_same c (Some (steps.Copy n k from read)) = refl

-- Reads

content : (c : Core) (tag : Option Tag) (o : Option (List ℕ)) → facts (with_content c tag o) ≡ facts c
content c tag None = refl
content c tag (Some body) = refl

filled_before : (name : Name) (base : List ℕ) (ps : List Pending) (at : Place) →
    IsWrittenAt (rests_filled name base ps) at → IsWrittenAt ps at
filled_before name base [] at w = w
filled_before name base (p ∷ ps) at w =
    by (awaits name p) (filled_before name (completed base p).body ps at) (filled_before name base ps at) w
  where
    by : (b : Bool) → (IsWrittenAt (rests_filled name (completed base p).body ps) at → IsWrittenAt ps at) →
        (IsWrittenAt (rests_filled name base ps) at → IsWrittenAt ps at) →
        IsWrittenAt (if b then completed base p ∷ rests_filled name (completed base p).body ps
        else p ∷ rests_filled name base ps) at → IsWrittenAt (p ∷ ps) at
    by true filled same (inl e) = inl (sym (places_kept base p.rest p) ∙ e)
    by true filled same (inr x) = inr (filled x)
    by false filled same (inl e) = inl e
    by false filled same (inr x) = inr (same x)

filled_behind : (name : Name) (base : List ℕ) (ps : List Pending) (at : Place) → IsWrittenAt ps at →
    IsWrittenAt (rests_filled name base ps) at
filled_behind name base [] at w = w
filled_behind name base (p ∷ ps) at w =
    by (awaits name p) (filled_behind name (completed base p).body ps at) (filled_behind name base ps at) w
  where
    by : (b : Bool) → (IsWrittenAt ps at → IsWrittenAt (rests_filled name (completed base p).body ps) at) →
        (IsWrittenAt ps at → IsWrittenAt (rests_filled name base ps) at) → IsWrittenAt (p ∷ ps) at →
        IsWrittenAt (if b then completed base p ∷ rests_filled name (completed base p).body ps
        else p ∷ rests_filled name base ps) at
    by true filled same (inl e) = inl (places_kept base p.rest p ∙ e)
    by true filled same (inr x) = inr (filled x)
    by false filled same (inl e) = inl e
    by false filled same (inr x) = inr (same x)

-- so the same pages are live once rests were brought
rest_known : (c : Core) (name : Name) (o : Option (List ℕ)) → Knows (facts c) → Knows (facts (with_rest c name o))
rest_known c name None h = h
rest_known c name (Some body) h = record {
  sizes = h.sizes;
  marks = h.marks;
  held = λ p e. ⊎_elim (λ at. inl at) (λ w. inr (filled_behind name body c.pages p w)) (h.held p e);
  lives = λ p at. h.lives p (⊎_elim (λ x. inl x) (λ w. inr (filled_before name body c.pages p w)) at);
}

read_over : (c : Core) (o : Outcome) (found : Option Tag) (reader : Reader) (new : Core) →
    IsReadOver c o found reader new → Knows (facts c) → Knows (facts new)
read_over c o found (ForTask tag index) new h k = knows_on c new (ap facts h) k
read_over c o found ForStep new h k = knows_on c new (ap facts h.2 ∙ content c found h.0) k
read_over c o found (ForRest number index) new h k =
    let name : Name = record { number = number; index = index } in
    subst (λ (z : Core). Knows (facts z)) (sym h.2) (rest_known c name h.0 k)
read_over c o found ForNobody new h k = knows_on c new (ap facts h) k

pub read_known : (known : Bool) (c : Core) (die : ℕ) (b : DieRow) (o : Outcome) (found : Option Tag) (reader : Reader)
    (new : Core) → IsReadAfter known c die b o found reader new → Knows (facts c) → Knows (facts new)
read_known false c die b o found reader new h k = knows_on c new (ap facts h) k
read_known true c die b o found reader new h k =
    read_over (with_row c die record { filling = b.filling; flight = None }) o found reader new h k

-- Steps

repair_turns : (c : Core) (o : Option Key) → facts (repair_turned c o) ≡ facts c
repair_turns c None = ordered_same c None
repair_turns c (Some k) = refl

next_turns : (c : Core) (xs : List PlannedCopy) → facts (plan_next c xs) ≡ facts c
next_turns c [] = ordered_same c None
next_turns c (x ∷ xs) = refl

plan_turns : (c : Core) (o : Option Collection) → facts (plan_turned c o) ≡ facts c
plan_turns c None = refl
plan_turns c (Some p) = next_turns c p.copies

collection_turns : (c new : Core) (o : Option Collection) → IsCollectionTurned c o new → facts new ≡ facts c
collection_turns c new None h = ap facts h.2 ∙ plan_turns h.0 h.0.plan ∙ ap facts h.1.is
collection_turns c new (Some p) h = ap facts h ∙ next_turns c p.copies

step_turns : (c new : Core) (m : Mending) → IsStepTurned c m new → facts new ≡ facts c
step_turns c new (mendings.Unmarked fence) h = ap facts h ∙ ordered_same c fence
step_turns c new mendings.Repairing h = ap facts h ∙ repair_turns c _
step_turns c new mendings.Mended h = collection_turns c new c.plan h

pub turned_same : (c new : Core) (due : Bool) → IsTurned c due new → facts new ≡ facts c
turned_same c new false h = ap facts h
turned_same c new true h = step_turns c new c.mending h
