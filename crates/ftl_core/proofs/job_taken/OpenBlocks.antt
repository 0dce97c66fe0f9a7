-- Where room is for groups, which blocks are open, and where one may be opened: what is kept says the same of it as the
-- layer.
use Rattle.ftl_core.proofs.Common.{Collection, Core, Describes, Flight, Kept, None, OpenBlock, Option, Place, Some}
use Rattle.ftl_core.proofs.Common.{Translation, ap, bad_blocks, below, is_bad, layer_plan, list_any, nat_le, nat_lt}
use Rattle.ftl_core.proofs.Common.{next_place, refl, some_flight, sym, ◌∙◌, ◌≡◌}
use Rattle.std.proofs.Common.{count_by, if◌then◌else◌, is_some, not, option_map, ◌||◌}
use Rattle.ufs_spec.specs.Disk as disk
use Rattle.ufs_spec.specs.Translation as layer
use Rattle.ufs_spec.specs.Translation.{count_blocks, flies_erase, own_room, wanted_room}
use Rattle.block_table.specs.Blocks.{is_free}
use Rattle.ftl_core.specs.Moves.{erases, fills, flight_erases, free_blocks, has_open_block, has_room_for_groups}
use Rattle.ftl_core.specs.Moves.{is_plan_of_bad, left_by_groups, may_open_for_group, may_open_for_step}
use Rattle.ftl_core.proofs.job_taken.FlightKinds.{flight_cases}
use Rattle.ftl_core.proofs.job_taken.Flown.{rows_agree, dies_agree}
use Rattle.ftl_core.proofs.job_taken.NextErases.{state_is}
use Rattle.ftl_core.proofs.opened.Spots.{bad_counted, free_counted, next_found, same_bad}

-- Free and bad blocks

-- as many blocks are free
pub free_alike : (c : Core) (t : Translation) → Kept c t → free_blocks c ≡ count_blocks t layer.is_free
free_alike c t k = ap (count_by is_free) k.blocks ∙ free_counted t.numbers t.disk.blocks t.disk.vacancies

-- as many are bad
pub bad_alike : (c : Core) (t : Translation) → Kept c t → bad_blocks c ≡ count_blocks t layer.is_bad
bad_alike c t k = ap (count_by is_bad) k.blocks ∙ bad_counted t.numbers t.disk.blocks t.disk.vacancies

-- a bad block is collected on both sides or on none
plan_alike : (c : Core) (t : Translation) → Describes c t →
    is_plan_of_bad c c.plan ≡ layer.is_plan_of_bad t.disk.blocks t.work.plan
plan_alike c t h =
    by c.plan refl ∙ ap (layer.is_plan_of_bad t.disk.blocks) (sym h.kept.plan.plan_is)
  where
    by : (o : Option Collection) → c.plan ≡ o →
        is_plan_of_bad c o ≡ layer.is_plan_of_bad t.disk.blocks (option_map layer_plan o)
    by None is = refl
    by (Some p) is =
        let there = h.kept.plan.inside p is in
        ap is_bad (state_is c t p.victim.die p.victim.block h there.0 there.1)
        ∙ same_bad (t.disk.blocks p.victim) (t.disk.vacancies p.victim)

-- so groups leave as many blocks
left_alike : (c : Core) (t : Translation) → Describes c t → left_by_groups c ≡ layer.left_by_groups t
left_alike c t h = λ i. if plan_alike c t h i then wanted_room (h.kept.numbers i) (bad_alike c t h.kept i)
    else own_room (h.kept.numbers i) (bad_alike c t h.kept i)

-- room is for groups on both sides or on none
pub room_alike : (c : Core) (t : Translation) → Describes c t →
    has_room_for_groups c ≡ layer.has_room_for_groups t
room_alike c t h = λ i. nat_le (left_alike c t h i) (free_alike c t h.kept i)

-- and so may a block be opened for a group
pub group_alike : (c : Core) (t : Translation) → Describes c t → may_open_for_group c ≡ layer.may_open_for_group t
group_alike c t h = λ i. nat_lt (left_alike c t h i) (free_alike c t h.kept i)

-- Open blocks

-- whether a die fills a block
fills_agree : (c : Core) (t : Translation) → Kept c t →
    list_any fills c.rows ≡ list_any (λ die. is_some (layer.next_place t die)) (below t.numbers.dies)
fills_agree c t k = dies_agree c t fills (λ die. is_some (layer.next_place t die)) k
    (λ die b at book. sym (ap is_some (next_found t.numbers t.disk.blocks die b.filling book.filling)
    ∙ mapped (next_place die) b.filling))
  where
    mapped : (f : OpenBlock → Place) (o : Option OpenBlock) → is_some (option_map f o) ≡ is_some o
    mapped f None = refl
    mapped f (Some x) = refl

-- whether a die erases one
erases_agree : (c : Core) (t : Translation) → Kept c t → list_any erases c.rows ≡ some_flight t flies_erase
erases_agree c t k = rows_agree c t erases flies_erase k
    (λ die b at h. flight_cases t.numbers c.step die b.filling
    (λ (f : Option Flight) (g : Option disk.Flight). flight_erases f ≡ flies_erase g)
    refl (λ place tag i. refl) (λ place. refl) (λ place. refl) (λ place n i. refl) (λ o cell fills page. refl)
    (λ o tag body fills no_repair. refl) (λ block within. refl) b.flight (t.disk.flights die) h)

-- a block is open on both sides or on none
pub open_alike : (c : Core) (t : Translation) → Kept c t → has_open_block c ≡ layer.has_open_block t
open_alike c t k = λ i. fills_agree c t k i || erases_agree c t k i

-- and so may one be opened for a step
pub step_alike : (c : Core) (t : Translation) → Describes c t → may_open_for_step c ≡ layer.may_open_for_step t
step_alike c t h = λ i. room_alike c t h i || not (open_alike c t h.kept i)
