-- The read that a reader is owed is that of the first pin that is owed one.
use Rattle.ftl_core.proofs.Common.{Core, Flight, None, Option, Pin, Some, ap, find, first_owed, is_owed_by}
use Rattle.ftl_core.proofs.Common.{option_and_then, owed_read, position_told, slice_get, sym, ℕ, ◌∙◌, ◌≡◌}
use Rattle.ftl_core.specs.Takes.{read_of}
use Rattle.ftl_core.proofs.pins.FoundPins.{found_at}

-- the read of the pin that was found; that of the device itself where none was
abbrev pub read_for : Core → ℕ → Option Pin → Option Flight
read_for c die None = owed_read c die None
read_for c die (Some p) = read_of p

owed_at : (c : Core) (die : ℕ) (k : Option ℕ) → first_owed c die ≡ k →
    owed_read c die k ≡ read_for c die (find (is_owed_by c.rows die) c.pins)
owed_at c die None e =
    ap (read_for c die)
    (sym (found_at (is_owed_by c.rows die) c.pins ∙ ap (option_and_then (slice_get c.pins)) e))
owed_at c die (Some k) e =
    let told = position_told (is_owed_by c.rows die) c.pins k e in
    ap (option_and_then read_of) told.1
    ∙ ap (read_for c die)
    (sym (found_at (is_owed_by c.rows die) c.pins ∙ ap (option_and_then (slice_get c.pins)) e ∙ told.1))

pub owed_found : (c : Core) (die : ℕ) (o : Option Pin) → o ≡ find (is_owed_by c.rows die) c.pins →
    read_for c die o ≡ owed_read c die (first_owed c die)
owed_found c die o is = ap (read_for c die) is ∙ sym (owed_at c die (first_owed c die) (λ i. first_owed c die))
