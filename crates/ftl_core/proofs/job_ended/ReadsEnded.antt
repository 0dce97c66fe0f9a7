-- A read ends.
use Rattle.ftl_core.proofs.Common.{All-map, Bool, Cells, Core, Describes, DieRow, Ending, ForTask, IsEndingOf}
use Rattle.ftl_core.proofs.Common.{IsInNoSlot, IsWanted, Kept, Name, None, OnPage, Outcome, Pin, Place, ReadRight}
use Rattle.ftl_core.proofs.Common.{ReadWrong, Reader, ReadsKept, Some, Translation, ap, at_die, at_die_cases, entry_of}
use Rattle.ftl_core.proofs.Common.{false, false≢true, find, if◌then◌else◌, is_pin_of, is_read, map, none_some}
use Rattle.ftl_core.proofs.Common.{option_map, refl, same_Some, slice_get, sym, true, two_ways, with_row, ℕ, ⊎_elim}
use Rattle.ftl_core.proofs.Common.{◌∙◌, ◌≡◌, ◌≢◌}
use Rattle.ufs_spec.specs.Disk as disk
use Rattle.ufs_spec.specs.Moves.{with_wanted}
use Rattle.ufs_spec.specs.declared.flash.Outcome.TheVariants as outcome
use Rattle.readers.specs.Pins.{wanted_no_more}
use Rattle.ftl_core.proofs.job_taken.Flown.{dies_put, fly_over, reads_over, step_reads_over}
use Rattle.ftl_core.proofs.pins.FoundPins.{found_mapped, found_passes, pin_told}
use Rattle.ftl_core.proofs.pins.PinsAlike.{pins_mapped}
use Rattle.ftl_core.proofs.pins.PinsDiffer.{differ_mapped}
use Rattle.ftl_core.proofs.pins.PinsWanted.{wants_alike}

-- How a read ends

-- an outcome that ends a read is one of a read, and it ends it right or wrong
pub read_ends : (P : Bool → Ending → Type 0) (cells : Cells) (who : Reader) (p : Place) → P true ReadRight →
    P true ReadWrong → (o : Outcome) (ending : Ending) → IsEndingOf cells (Some (disk.Reading who p)) o ending →
    P (is_read o) ending
read_ends P cells who p right wrong (outcome.Read page) ReadRight h = right
read_ends P cells who p right wrong (outcome.Read page) ReadWrong h = wrong
read_ends P cells who p right wrong outcome.ReadFailed ReadWrong h = wrong
read_ends P cells who p right wrong outcome.Done ending h = absurd (false≢true h.0)
read_ends P cells who p right wrong outcome.Failed ending h = absurd (false≢true h.0)
read_ends P cells who p right wrong o ending h = absurd h.1

-- no two places are read for a reader
one_place : (p q : Pin) (a b : Place) → p ≡ q → IsWanted a p → IsWanted b q → a ≡ b
one_place p q a b same x y = one_page x.name y.name (sym x.looks ∙ ap (λ (z : Pin). z.looked) same ∙ y.looks)
  where
    one_page : (m n : Name) → OnPage m a ≡ OnPage n b → a ≡ b
    one_page m n e = cc

-- What is kept

pub idle_kept : (c : Core) (t : Translation) (die : ℕ) (b : DieRow) → Kept c t → slice_get c.rows die ≡ Some b →
    Kept (with_row c die record { filling = b.filling; flight = None })
    (record t { disk = record t.disk { flights = at_die t.disk.flights die None } })
idle_kept c t die b k there = record {
  numbers = k.numbers;
  blocks = k.blocks;
  dies = dies_put t.numbers t.disk.blocks t.disk.blocks t.disk.flights c.step c.rows die b
      (record { filling = b.filling; flight = None }) None k.dies there
      (λ s apart. refl) (record { filling = (k.dies.each die b there).filling; job = tt });
  fly = fly_over t.ledger.standing t.disk.flights die c.rows b.filling k.fly;
  ledger_kept = k.ledger_kept;
  work = k.work;
  plan = k.plan;
  claims = k.claims;
  pins = k.pins;
  differ = k.differ;
  reads = reads_over t.disk.flights die c.pins k.reads;
  step_reads = step_reads_over t.disk.flights die c.step k.step_reads;
  readers = k.readers;
}

-- what is kept once the reader was told
abbrev pub reader_told : Core → ℕ → ℕ → Core
reader_told c reader index = record c { pins = map (wanted_no_more reader index) c.pins }

-- a read ended that was for a block of a task
pub task_kept : (c : Core) (t : Translation) (die reader index : ℕ) (b : DieRow) (place : Place) → Describes c t →
    slice_get c.rows die ≡ Some b →
    t.disk.flights die ≡ Some (disk.Reading (ForTask reader index) place) →
    Kept (reader_told (with_row c die record { filling = b.filling; flight = None }) reader index)
    (record t {
      disk = record t.disk { flights = at_die t.disk.flights die None };
      pins = map (with_wanted reader index false) t.pins;
    })
task_kept c t die reader index b place h there flies = record {
  numbers = k.numbers;
  blocks = k.blocks;
  dies = k.dies;
  fly = k.fly;
  ledger_kept = k.ledger_kept;
  work = k.work;
  plan = k.plan;
  claims = k.claims;
  pins = pins_mapped t.ledger.frontier t.ledger.frontier (entry_of t.ledger) (entry_of t.ledger)
      (wanted_no_more reader index) (with_wanted reader index false) c.pins t.pins
      (wants_alike t.ledger.frontier (entry_of t.ledger) reader index false) k.pins;
  differ = differ_mapped (wanted_no_more reader index) (λ x. refl) (λ x. refl) c.pins k.differ;
  reads = reads;
  step_reads = k.step_reads;
  readers = λ e. All-map (λ (p : Pin). IsInNoSlot p.looked) (wanted_no_more reader index) c.pins (k.readers e);
}
  where
    k : Kept (with_row c die record { filling = b.filling; flight = None })
        (record t { disk = record t.disk { flights = at_die t.disk.flights die None } })
    k = idle_kept c t die b h.kept there

    -- another die reads for another block
    apart : (e tag i : ℕ) (p : Place) → e ≢ die → t.disk.flights e ≡ Some (disk.Reading (ForTask tag i) p) →
        (tag ≡ reader) × (i ≡ index) → ⊥
    apart e tag i p other is same =
        let x = h.kept.reads e tag i p is in
        let y = h.kept.reads die reader index place flies in
        let pin = same_Some x.0 y.0 (sym x.1 ∙ (λ j. find (is_pin_of (same.0 j) (same.1 j)) c.pins) ∙ y.1) in
        other (sym (h.valid.reads.at_home e (ForTask tag i) p is)
        ∙ ap (λ (z : Place). z.die) (one_place x.0 y.0 p place pin x.2 y.2)
        ∙ h.valid.reads.at_home die (ForTask reader index) place flies)

    -- so its pin stays
    stays : (tag i : ℕ) (p : Place) (x : Pin) → ((tag ≡ reader) × (i ≡ index) → ⊥) → is_pin_of tag i x ≡ true →
        IsWanted p x → IsWanted p (wanted_no_more reader index x)
    stays tag i p x other of w = record {
      name = w.name;
      looks = w.looks;
      wanted = ap (λ (b : Bool). if b then false else x.wanted) (⊎_elim
          (λ is. let u = pin_told tag i x of in let v = pin_told reader index x is in
          absurd (other (sym u.0 ∙ v.0, sym u.1 ∙ v.1)))
          (λ none. none)
          (two_ways (is_pin_of reader index x))) ∙ w.wanted;
    }

    reads : ReadsKept (at_die t.disk.flights die None) (map (wanted_no_more reader index) c.pins)
    reads e tag i p is = ⊎_elim
        (λ (w : (e ≡ die) × (at_die t.disk.flights die None e ≡ None)). absurd
        (none_some (disk.Reading (ForTask tag i) p) (sym w.1 ∙ is)))
        (λ (w : (e ≢ die) × (at_die t.disk.flights die None e ≡ t.disk.flights e)).
        let r = h.kept.reads e tag i p (sym w.1 ∙ is) in (
          wanted_no_more reader index r.0,
          found_mapped (is_pin_of tag i) (wanted_no_more reader index) (λ x. refl) c.pins
              ∙ ap (option_map (wanted_no_more reader index)) r.1,
          stays tag i p r.0 (apart e tag i p w.0 (sym w.1 ∙ is)) (found_passes (is_pin_of tag i) c.pins r.0 r.1) r.2,
        ))
        (at_die_cases t.disk.flights die None e)
