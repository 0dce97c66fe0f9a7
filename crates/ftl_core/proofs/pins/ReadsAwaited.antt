-- A read in flight is for a reader who keeps its page and waits for it, for the step under way, or for nobody.
use Rattle.ftl_core.proofs.Common.{Core, Describes, DieRow, Flight, ForNobody, ForRest, ForStep, ForTask, IsFlight}
use Rattle.ftl_core.proofs.Common.{None, Numbers, OpenBlock, Option, Place, Reader, Some, Step, Translation, ap}
use Rattle.ftl_core.proofs.Common.{entry_of, inl, inr, none-some, refl, slice_get, subst, sym, ℕ, ◌∙◌, ◌≡◌, ◌⊎◌}
use Rattle.ufs_spec.specs.Disk as disk
use Rattle.ufs_spec.specs.Disk.{Reading}
use Rattle.block_table.specs.declared.rows.Flight.TheVariants as flight
use Rattle.ftl_core.proofs.pins.FoundPins.{pin_found}
use Rattle.ftl_core.specs.Tells.{IsAwaited, IsReadOf}
use Rattle.ftl_core.proofs.job_taken.NextStarts.{outside}

-- Jobs

-- for nobody or for the step, for a task, or for a rest
abbrev IsReader : Reader → Type 0
IsReader who = ((who ≡ ForNobody) ⊎ (who ≡ ForStep)) ⊎ (((tag : ℕ) × (index : ℕ) × (who ≡ ForTask tag index))
    ⊎ ((number : ℕ) × (index : ℕ) × (who ≡ ForRest number index)))

reader_is : (n : Numbers) (step : Option Step) (die : ℕ) (filling : Option OpenBlock) (f : Option Flight) (who : Reader)
    (place : Place) → IsFlight n step die filling f (Some (Reading who place)) → IsReader who
reader_is n step die filling (Some (flight.Read p reader)) who place h = known reader h.1
  where
    known : (reader : Reader) → who ≡ reader → IsReader who
    known (ForTask tag index) e = inr (inl (tag, index, e))
    known ForStep e = inl (inr e)
    known ForNobody e = inl (inl e)
    known (ForRest number index) e = inr (inr (number, index, e))
reader_is n step die filling f who place h = absurd h

task_reads : (c : Core) (t : Translation) (die tag index : ℕ) (place : Place) → Describes c t →
    t.disk.flights die ≡ Some (Reading (ForTask tag index) place) → IsAwaited t tag index place
task_reads c t die tag index place h flies =
    let w = h.kept.reads die tag index place flies in
    let q = pin_found t.ledger.frontier (entry_of t.ledger) tag index c.pins t.pins w.0 h.kept.pins w.1 in
    record {
      pin = q.0;
      kept = q.1;
      wanted = q.2.wanted ∙ w.2.wanted;
      name = w.2.name;
      looks = q.2.looked ∙ w.2.looks;
    }

pub read_awaited : (c : Core) (die : ℕ) (t : Translation) (who : Reader) (place : Place) → Describes c t →
    t.disk.flights die ≡ Some (Reading who place) → IsReadOf t place who
read_awaited c die t who place h flies = by (slice_get c.rows die) refl
  where
    known : IsReader who → IsReadOf t place who
    known (inl (inl e)) = subst (IsReadOf t place) (sym e) tt
    known (inl (inr e)) = subst (IsReadOf t place) (sym e) tt
    known (inr (inl e)) = subst (IsReadOf t place) (sym e.2)
        (task_reads c t die e.0 e.1 place h (flies ∙ ap (λ (x : Reader). Some (Reading x place)) e.2))
    known (inr (inr e)) = subst (IsReadOf t place) (sym e.2)
        (h.rests.reads die e.0 e.1 place (flies ∙ ap (λ (x : Reader). Some (Reading x place)) e.2))

    by : (b : Option DieRow) → slice_get c.rows die ≡ b → IsReadOf t place who
    by None e = absurd (none-some _ (sym (h.kept.dies.no_more die (outside c t die h.kept e)) ∙ flies))
    by (Some b) e =
        known (reader_is t.numbers c.step die b.filling b.flight who place
        (subst (λ (x : Option disk.Flight). IsFlight t.numbers c.step die b.filling b.flight x) flies
        (h.kept.dies.each die b e).job))
