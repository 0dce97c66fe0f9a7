-- The die of a job that begins to fill a block is noted twice, once with the block and once with the job.
use Rattle.ftl_core.proofs.Common.{DieRow, Flight, List, OpenBlock, Some, [], ap, none_some, refl, slice_get, slice_set}
use Rattle.ftl_core.proofs.Common.{suc, zero, ℕ, ◌∙◌, ◌∷◌, ◌≡◌}
use Rattle.block_table.specs.Rows.{filling_set, flight_set, rows_filling, rows_in_flight}

there_now : {A : Type 0} (xs : List A) (k : ℕ) (x y : A) → slice_get xs k ≡ Some y →
    slice_get (slice_set xs k x) k ≡ Some x
there_now [] k x y e = absurd (none_some y e)
there_now (z ∷ zs) zero x y e = refl
there_now (z ∷ zs) (suc k) x y e = there_now zs k x y e

set_again : {A : Type 0} (xs : List A) (k : ℕ) (x y : A) → slice_set (slice_set xs k x) k y ≡ slice_set xs k y
set_again [] k x y = refl
set_again (z ∷ zs) zero x y = refl
set_again (z ∷ zs) (suc k) x y = ap (λ (rest : List _). z ∷ rest) (set_again zs k x y)

pub opened_rows : (rows : List DieRow) (die : ℕ) (b : DieRow) (o : OpenBlock) (f : Flight) →
    slice_get rows die ≡ Some b →
    rows_in_flight (rows_filling rows die (Some o)) die (Some f)
    ≡ slice_set rows die (record { filling = Some o; flight = Some f })
opened_rows rows die b o f there =
    ap (λ (rs : List DieRow). rows_in_flight rs die (Some f)) (ap (filling_set rows die (Some o)) there)
    ∙ ap (flight_set (slice_set rows die (record { filling = Some o; flight = b.flight })) die (Some f))
    (there_now rows die (record { filling = Some o; flight = b.flight }) b there)
    ∙ set_again rows die (record { filling = Some o; flight = b.flight })
    (record { filling = Some o; flight = Some f })
