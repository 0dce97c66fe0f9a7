use Rattle.std.proofs.Common.{◌≡◌, ◌<◌, ℕ, arith, get_or, length, subst, sym}
use Rattle.std.proofs.lemmas.Option.{slice_get-get_or}
use Rattle.std.specs.Prelude.{IfSome}
use Rattle.ufs_spec.specs.Plain.{area_len}
use Rattle.journal.specs.Shown.{IsArea}
use Rattle.journal.specs.declared.found.FoundRegion.{FoundRegion}
use Rattle.journal.proofs.EachRegion.{no_found, of_all, one_more}
use Rattle.journal.proofs.bases.are_areas.Goals as goal
use Rattle.journal.proofs.bases.are_areas.Goals.{else-bytes-gt0-via-then-bytes-gt0+else-not-is_area}
use Rattle.journal.proofs.bases.are_areas.Goals.{else-bytes-gt0-via-else-bytes-gt0}

pub returns-then-not-is_area-clause-other : goal.returns-then-not-is_area-clause-other
returns-then-not-is_area-clause-other c =
    λ _ all.
    let index = c.loop-index.index in
    let r = get_or c.args.regions.now index no_found in
    let long = c.area_bytes-bytes.ensures.long in
    let there = slice_get-get_or c.args.regions.now index no_found (omega (arith, c.loop-index-test.true, c.told-regions)) in
    let some : 0 < area_len c.args.numbers.now index = omega (arith, c.if-bytes-gt0.true, long) in
    c.is_area.ensures.other c.if-not-is_area.true
    (subst (λ (b : ℕ). IfSome r.key (λ key. length r.area.now ≡ b)) (sym long) (all index r there some))

pub loop-index-preserved : goal.loop-index-preserved
loop-index-preserved c =
    let n = c.args.numbers.now in
    let index = c.loop-index.index in
    let r = get_or c.args.regions.now index no_found in
    let long = c.area_bytes-bytes.ensures.long in
    let there = slice_get-get_or c.args.regions.now index no_found (omega (arith, c.loop-index-test.true, c.told-regions)) in
    let holds : 0 < area_len n index → IsArea n index r = λ some. elim c.else-bytes-gt0.branch [
      | else-bytes-gt0-via-then-bytes-gt0+else-not-is_area w ↦
          subst (λ (b : ℕ). IfSome r.key (λ key. length r.area.now ≡ b)) long
          (w.is_area.ensures.whole w.if-not-is_area.false)
      | else-bytes-gt0-via-else-bytes-gt0 w ↦
          let none = w.if-bytes-gt0.false in
          absurd (omega (arith, some, none, long))
    ] in
    one_more (λ (number : ℕ) (f : FoundRegion). 0 < area_len n number → IsArea n number f) c.args.regions.now index r there
    holds c.loop-index.invariant

pub returns-clause-whole : goal.returns-clause-whole
returns-clause-whole c =
    λ _.
    let n = c.args.numbers.now in
    of_all (λ (number : ℕ) (f : FoundRegion). 0 < area_len n number → IsArea n number f) c.args.regions.now
    c.loop-index.index (omega (arith, c.loop-index-test.false, c.told-regions)) c.loop-index.invariant
