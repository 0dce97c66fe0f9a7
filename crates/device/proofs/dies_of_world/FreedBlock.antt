-- The block that a plan frees behind its mark. The same blocks are bad behind it, and where a page of a block may be
-- programmed behind it, it might be so before, so the dies that fitted the blocks go on to fit them.
use Rattle.device.proofs.Common.{Bad, BlockState, BlocksFit, Cell, Closed, DieState, Filling, Free, GroupPage, List}
use Rattle.device.proofs.Common.{MarkPage, None, Nothing, Numbers, Option, Place, Programming, Some, Spot, Translation}
use Rattle.device.proofs.Common.{Vacancy, ap, at_spot, at_spot_here, at_spot_other, is_bad, next_of, none-some, refl}
use Rattle.device.proofs.Common.{spot_of, state_after, sym, ℕ, ⊎_elim, ◌∙◌, ◌≡◌, ◌≢◌}
use Rattle.ufs_spec.specs.Disk.{Disk, Stale, programmed}
use Rattle.ufs_spec.specs.Moves.{freed, freed_state}
use Rattle.ufs_spec.specs.Translation.{Plan}
use Rattle.power_loss.proofs.books.SmallFacts.{at_spot_cases}
use Rattle.device.proofs.dies_of_world.DieParts.{still_fit}
use Rattle.device.proofs.dies_of_world.FinishDies.{blocks_behind, vacancies_behind}

-- a block that is freed is bad just where it was bad before
freed_bad : (state : BlockState) → is_bad (freed_state state) ≡ is_bad state
freed_bad Free = refl
freed_bad (Filling next) = refl
freed_bad Closed = refl
freed_bad Bad = refl

-- and no page of it may be programmed before an erase
freed_next : (state : BlockState) (next : ℕ) → next_of (freed_state state) Stale ≡ Some next → ⊥
freed_next Free next e = none-some next e
freed_next (Filling other) next e = none-some next e
freed_next Closed next e = none-some next e
freed_next Bad next e = none-some next e

-- behind a mark, whatever plan it ends
freed_fits : (n : Numbers) (dies : List DieState) (d : Disk) (plan : Option Plan) →
    BlocksFit n dies d.blocks d.vacancies → BlocksFit n dies (freed d plan).blocks (freed d plan).vacancies
freed_fits n dies d None h = h
freed_fits n dies d (Some plan) h =
    still_fit n dies d.blocks blocks d.vacancies vacancies
    (λ spot next e.
    ⊎_elim
    (λ (k : (spot ≡ victim) × (blocks spot ≡ state)).
    absurd (freed_next (d.blocks victim) next
    (sym (ap (λ (s : BlockState). next_of s Stale) k.1)
    ∙ (sym (ap (next_of (blocks spot)) (stale spot k.0)) ∙ e))))
    (λ (k : (spot ≢ victim) × (blocks spot ≡ d.blocks spot)).
    sym (ap (λ (s : BlockState). next_of s (d.vacancies spot)) k.1)
    ∙ (sym (ap (next_of (blocks spot)) (as_it_was spot k.0)) ∙ e))
    (at_spot_cases d.blocks victim state spot))
    (λ spot.
    ⊎_elim
    (λ (k : (spot ≡ victim) × (blocks spot ≡ state)).
    ap is_bad k.1
    ∙ (freed_bad (d.blocks victim) ∙ ap (λ (s : Spot). is_bad (d.blocks s)) (sym k.0)))
    (λ (k : (spot ≢ victim) × (blocks spot ≡ d.blocks spot)). ap is_bad k.1)
    (at_spot_cases d.blocks victim state spot))
    h
  where
    victim : Spot
    victim = plan.victim

    state : BlockState
    state = freed_state (d.blocks plan.victim)

    blocks : Spot → BlockState
    blocks = at_spot d.blocks victim state

    vacancies : Spot → Vacancy
    vacancies = at_spot d.vacancies victim Stale

    stale : (spot : Spot) → spot ≡ victim → vacancies spot ≡ Stale
    stale spot is = ap vacancies is ∙ at_spot_here d.vacancies victim Stale victim refl

    as_it_was : (spot : Spot) → spot ≢ victim → vacancies spot ≡ d.vacancies spot
    as_it_was spot differ = at_spot_other d.vacancies victim Stale spot differ

-- behind a program, whatever cell it programmed
pub written_fits : (t : Translation) (dies : List DieState) (p : Place) (cell : Cell) →
    BlocksFit t.numbers dies (at_spot t.disk.blocks (spot_of p) (state_after t.numbers.pages p.page))
    t.disk.vacancies →
    BlocksFit t.numbers dies (blocks_behind t (Programming p cell)) (vacancies_behind t (Programming p cell))
written_fits t dies p Nothing h = h
written_fits t dies p (GroupPage tag body) h = h
written_fits t dies p (MarkPage m) h =
    freed_fits t.numbers dies (programmed t.numbers.pages t.disk p (MarkPage m)) t.work.plan h
