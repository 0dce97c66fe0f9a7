use Rattle.std.proofs.Common.{◌≡◌, ℕ, Bool, List, true, refl, sym, subst, arith}
use Rattle.std.specs.List.{list_all}
use Rattle.std.specs.Prelude.{slice_index}
use Rattle.ufs_spec.specs.CdbFields.{is_within}
use Rattle.ufs_spec.specs.Counting.{below}
use Rattle.scsi_cdb.proofs.ReadRows.{one_fails, one_more}
use Rattle.scsi_cdb.proofs.rows.has_only.Goals as goal

-- whether the byte at a place has only what is taken
abbrev only : List ℕ → List ℕ → ℕ → Bool
only taken bytes place = is_within (slice_index taken place) (slice_index bytes place)

pub returns-then-not-is_within : goal.returns-then-not-is_within
returns-then-not-is_within c =
    sym (one_fails (only c.args.taken.now c.args.bytes.now) 16 c.loop-place.place c.loop-place-test.true
    (sym c.if-not-is_within.ensures))

pub loop-place-preserved : goal.loop-place-preserved
loop-place-preserved c =
    one_more (only c.args.taken.now c.args.bytes.now) c.loop-place.place c.loop-place.invariant
    (sym c.if-not-is_within.ensures)

pub loop-place-init : goal.loop-place-init
loop-place-init c = refl

pub returns : goal.returns
returns c =
    let at = c.loop-place.auto.place-end in
    let not_under = c.loop-place-test.false in
    let same : c.loop-place.place ≡ 16 = omega (arith, at, not_under) in
    sym (subst (λ (n : ℕ). list_all (only c.args.taken.now c.args.bytes.now) (below n) ≡ true) same
    c.loop-place.invariant)
