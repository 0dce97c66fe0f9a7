-- The pages that wait for their rests stay the same where others are written or become durable.
use Rattle.ftl_core.proofs.Common.{Bool, Core, List, None, Pending, Place, Some, [], ap, false, front_written}
use Rattle.ftl_core.proofs.Common.{group_durable, is_of_group, is_unwritten, list_any, none-some, or_parts, refl}
use Rattle.ftl_core.proofs.Common.{same_Some, slice_get, slice_set, suc, sym, true, true≢false, waiting, waits, zero, ℕ}
use Rattle.ftl_core.proofs.Common.{⊎_elim, ◌&&◌, ◌∙◌, ◌∷◌, ◌≡◌}
use Rattle.std.proofs.Common.{is_none, not}
use Rattle.std.specs.Prelude.{cond}
use Rattle.ftl_core.specs.Ends.{settled_by}
use Rattle.ftl_core.proofs.group_settled.Settling.{others, settled_end, settled_on, whole, written_or_not}

-- no page that is written waits for its rest
abbrev pub AreWhole : List Pending → Type 0
AreWhole [] = Unit {0}
AreWhole (p ∷ ps) = (waits p ≡ true → p.written ≡ None) × AreWhole ps

-- A page that is written

-- one that does not wait
pub written_waits : (ps : List Pending) (k : ℕ) (p : Pending) (place : Place) → slice_get ps k ≡ Some p →
    waits p ≡ false → waiting (slice_set ps k (record p { written = Some place })) ≡ waiting ps
written_waits [] k p place at none = absurd (none-some p at)
written_waits (x ∷ ps) zero p place at none =
    ap (λ (b : Bool). cond b (record p { written = Some place } ∷ waiting ps) (waiting ps)) none
    ∙ sym (ap (λ (b : Bool). cond b (x ∷ waiting ps) (waiting ps)) (ap waits (same_Some x p at) ∙ none))
written_waits (x ∷ ps) (suc k) p place at none =
    ap (λ (qs : List Pending). cond (waits x) (x ∷ qs) qs) (written_waits ps k p place at none)

pub written_whole : (ps : List Pending) (k : ℕ) (p : Pending) (place : Place) → slice_get ps k ≡ Some p →
    waits p ≡ false → AreWhole ps → AreWhole (slice_set ps k (record p { written = Some place }))
written_whole [] k p place at none h = absurd (none-some p at)
written_whole (x ∷ ps) zero p place at none h = (λ e. absurd (true≢false (sym e ∙ none)), h.1)
written_whole (x ∷ ps) (suc k) p place at none h = (h.0, written_whole ps k p place at none h.1)

-- Groups that become durable

-- the pages of a written group do not wait, so that those which wait are of others
others_wait : (number : ℕ) (ps : List Pending) → list_any (is_unwritten number) ps ≡ false → AreWhole ps →
    waiting (others number ps) ≡ waiting ps
others_wait number [] none h = refl
others_wait number (p ∷ ps) none h =
    let r = or_parts (is_unwritten number p) (list_any (is_unwritten number) ps) none in
    by (is_of_group number p) refl (waits p) refl r.0 (others_wait number ps r.1 h.1)
  where
    written_not : is_of_group number p ≡ true → p.written ≡ None → is_unwritten number p ≡ true
    written_not of none = λ i. of i && is_none (none i)

    by : (a : Bool) → is_of_group number p ≡ a → (b : Bool) → waits p ≡ b → is_unwritten number p ≡ false →
        waiting (others number ps) ≡ waiting ps →
        waiting (cond (not a) (p ∷ others number ps) (others number ps)) ≡ cond b (p ∷ waiting ps) (waiting ps)
    by true of true wait unwritten rest = absurd (true≢false (sym (written_not of (h.0 wait)) ∙ unwritten))
    by true of false wait unwritten rest = rest
    by false of true wait unwritten rest =
        ap (λ (c : Bool). cond c (p ∷ waiting (others number ps)) (waiting (others number ps))) wait
        ∙ ap (λ (qs : List Pending). p ∷ qs) rest
    by false of false wait unwritten rest =
        ap (λ (c : Bool). cond c (p ∷ waiting (others number ps)) (waiting (others number ps))) wait ∙ rest

others_whole : (number : ℕ) (ps : List Pending) → AreWhole ps → AreWhole (others number ps)
others_whole number [] h = tt
others_whole number (p ∷ ps) h = by (is_of_group number p) (others_whole number ps h.1)
  where
    by : (a : Bool) → AreWhole (others number ps) →
        AreWhole (cond (not a) (p ∷ others number ps) (others number ps))
    by true rest = rest
    by false rest = (h.0, rest)

-- every group at the front that is wholly written
pub settled_waits : (n : ℕ) (c : Core) → AreWhole c.pages → waiting (settled_by n c).pages ≡ waiting c.pages
unfolding settled_by
settled_waits zero c h = refl
settled_waits (suc n) c h =
    ⊎_elim (λ e. ap (λ (z : Core). waiting z.pages) (settled_end (suc n) c e))
    (λ (e : (number : ℕ) × (front_written c ≡ Some number)).
    ap (λ (z : Core). waiting z.pages) (settled_on n c e.0 e.1)
    ∙ settled_waits n (group_durable c e.0) (others_whole e.0 c.pages h)
    ∙ others_wait e.0 c.pages (whole c.pages e.0 e.1).written h)
    (written_or_not (front_written c))
