use Rattle.std.proofs.Common.{◌∙◌, ◌<◌, ◌≤◌, List, arith, ap, get_or, length, sym}
use Rattle.std.proofs.lemmas.List.{get_or_default, set-get_or}
use Rattle.std.proofs.lemmas.Option.{slice_get-get_or}
use Rattle.ufs_spec.specs.Plain.{Plain, area_len, empty_region, with_region}
use Rattle.ufs_spec.specs.Rpmb.{Region}
use Rattle.journal.specs.Shown.{region_found, regions_held}
use Rattle.journal.proofs.EachRegion.{no_found}
use Rattle.journal.proofs.HeldUnits.{filled, held_count, held_found, held_new, news, next_held, next_new, so_far}
use Rattle.journal.proofs.HeldUnits.{so_far_long}
use Rattle.journal.proofs.bases.set_regions.Goals as goal
use Rattle.journal.proofs.bases.set_regions.Goals.{then-area_bytes-gt0, else-area_bytes-gt0}

pub set_region-requires-clause-there : goal.set_region-requires-clause-there
set_region-requires-clause-there c =
    let long = so_far_long c.args.numbers.now c.args.found.now c.loop-index.index c.told-found c.loop-index-test.true in
    let same = ap (λ (p : Plain). length p.regions) c.loop-index.invariant in
    omega (arith, long, same, c.loop-index-test.true)

pub set_region-requires-clause-new : goal.set_region-requires-clause-new
set_region-requires-clause-new c =
    let n = c.args.numbers.now in
    let index = c.loop-index.index in
    let found = c.args.found.now in
    let there = slice_get-get_or found index no_found (omega (arith, c.loop-index-test.true, c.told-found)) in
    let some : 0 < area_len n index = omega (arith, c.if-area_bytes-gt0.true, c.area_bytes.ensures.long) in (
      n,
      ap (λ (p : Plain). get_or p.regions index empty_region) c.loop-index.invariant
          ∙ next_new n found index c.told-found c.loop-index-test.true,
      c.requires.areas index (get_or found index no_found) there some,
    )

pub loop-index-preserved : goal.loop-index-preserved
loop-index-preserved c =
    let n = c.args.numbers.now in
    let index = c.loop-index.index in
    let found = c.args.found.now in
    let r = get_or found index no_found in
    let less = c.loop-index-test.true in
    let inside : index < length found = omega (arith, less, c.told-found) in
    let here : List Region = so_far n found index c.told-found less in
    let new = next_new n found index c.told-found less in
    let held = next_held n found index c.told-found less r (get_or_default found index no_found r inside) in
    let with : List Region → Plain = λ rs. record c.args.plain.now { regions = rs } in
    elim c.if-area_bytes-gt0.branch [
      | then-area_bytes-gt0 w ↦
          let some : 0 < area_len n index = omega (arith, w.if-area_bytes-gt0.true, c.area_bytes.ensures.long) in
          let before = ap (λ (p : Plain). get_or p.regions index empty_region) c.loop-index.invariant ∙ new in
          let whole = c.requires.areas index r (slice_get-get_or found index no_found inside) some in
          w.plain-is ∙ w.set_region.ensures n before whole
          ∙ ap (with_region index (region_found n index r)) c.loop-index.invariant
          ∙ ap with (held (region_found n index r) (sym (held_found n index r some)))
      | else-area_bytes-gt0 w ↦
          let none : area_len n index ≤ 0 = omega (arith, w.if-area_bytes-gt0.false, c.area_bytes.ensures.long) in
          w.plain-is ∙ c.loop-index.invariant
          ∙ ap with (sym (set-get_or here index empty_region)
          ∙ held (get_or here index empty_region) (new ∙ sym (held_new n index r none)))
    ]

pub returns : goal.returns
returns c =
    let n = c.args.numbers.now in
    let found = c.args.found.now in
    let all = filled (regions_held n 0 found) (news n) c.loop-index.index (held_count n 0 found ∙ c.told-found)
    (omega (arith, held_count n 0 found, c.told-found, c.loop-index-test.false)) in
    c.loop-index.invariant ∙ ap (λ (rs : List Region). record c.args.plain.now { regions = rs }) all
