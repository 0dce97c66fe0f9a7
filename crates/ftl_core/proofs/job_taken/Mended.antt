-- Until the device is mended no group is accepted and no page is pending, and once it is no repair is under way.
use Rattle.ftl_core.proofs.Common.{Bool, Core, Describes, Entry, List, Name, None, Option, PagesKept, Pending, Some}
use Rattle.ftl_core.proofs.Common.{Standing, Step, StepKept, Translation, Valid, [], ap, before_accepted, book, drop}
use Rattle.ftl_core.proofs.Common.{entry_of, false, false≢true, is_mended, names_after, none_some, refl, repairs_in}
use Rattle.ftl_core.proofs.Common.{subst, suc, sym, true, two_ways, zero, ℕ, ⊎_elim, ◌∙◌, ◌∷◌, ◌≡◌}
use Rattle.std.proofs.Common.{find, ◌-◌}
use Rattle.std.proofs.Math.Seq.{drop-length}
use Rattle.ufs_spec.specs.Keys as keys
use Rattle.ufs_spec.specs.Ledger.{accepted_groups}
use Rattle.ufs_spec.specs.Translation as layer
use Rattle.power_loss.specs.Invariant.{StepKindRight}
use Rattle.ftl_core.specs.declared.books.Step.TheVariants as steps

-- until the device is mended no group is accepted
pub none_accepted : (t : Translation) → Valid t → is_mended t.work.mending ≡ false → accepted_groups t.ledger ≡ []
none_accepted t v unmended =
    ap (λ (n : ℕ). drop n t.ledger.groups) (v.history.mending unmended).0 ∙ drop-length t.ledger.groups

drop_nothing : {A : Type 0} (n : ℕ) → drop {A = A} n [] ≡ []
drop_nothing zero = refl
drop_nothing (suc n) = refl

no_pages : (standing : Standing) (entries : Name → Option Entry) (ps : List Pending) →
    PagesKept standing entries ps [] → ps ≡ []
no_pages standing entries [] h = refl
no_pages standing entries (p ∷ ps) h = absurd h

-- and no page is pending
pub none_waiting : (c : Core) (t : Translation) → Describes c t → is_mended t.work.mending ≡ false → c.pages ≡ []
none_waiting c t h unmended =
    no_pages t.ledger.standing (entry_of t.ledger) c.pages
    (subst (λ (gs : List keys.Group).
    PagesKept t.ledger.standing (entry_of t.ledger) c.pages (names_after t.ledger.frontier gs))
    (ap (drop (t.ledger.frontier - before_accepted t.ledger)) (none_accepted t h.valid unmended)
    ∙ drop_nothing (t.ledger.frontier - before_accepted t.ledger)) h.kept.ledger_kept.pages)

-- where a page is pending, the device is mended
pub mended_with : (c : Core) (t : Translation) (test : Pending → Bool) (p : Pending) → Describes c t →
    find test c.pages ≡ Some p → is_mended t.work.mending ≡ true
mended_with c t test p h found = ⊎_elim
    (λ mended. mended)
    (λ unmended. absurd (none_some p (sym (ap (find test) (none_waiting c t h unmended)) ∙ found)))
    (two_ways (is_mended t.work.mending))

-- a device that is mended repairs nothing
pub no_repair : (c : Core) (t : Translation) → Describes c t → is_mended t.work.mending ≡ true → repairs_in c.step ≡ 0
no_repair c t h mended = by c.step t.work.step h.kept.work.step_is (λ s is. h.valid.step.kind s is)
  where
    by : (kept : Option Step) (step : Option layer.Step) → StepKept t.ledger kept c.content step →
        ((s : layer.Step) → step ≡ Some s →
        StepKindRight (book t) t.ledger.marks t.disk.cells t.work.mending t.work.plan s.kind) → repairs_in kept ≡ 0
    by None step kept right = refl
    by (Some (steps.Mark n fence)) step kept right = refl
    by (Some (steps.Copy n k from read)) step kept right = refl
    by (Some (steps.Repair n k from there)) None kept right = absurd kept
    by (Some (steps.Repair n k from there)) (Some s) kept right =
        let r = subst (λ (x : layer.Step). StepKindRight (book t) t.ledger.marks t.disk.cells t.work.mending t.work.plan
        x.kind) kept.0 (right s refl) in
        absurd (false≢true (sym (ap is_mended r.1) ∙ mended))
