-- The bytes of a page that a command brings, whole or in part, as they lie in the page's slot.
use Rattle.ftl_core.proofs.Common.{Brought, IsPartBrought, List, [], ap, append-nil, arith, drop, length, length-append}
use Rattle.ftl_core.proofs.Common.{length-drop, length-replicate, part_of, sym, take, with_part_of, ℕ, ◌*◌, ◌++◌, ◌+◌}
use Rattle.ftl_core.proofs.Common.{◌∙◌, ◌≡◌}
use Rattle.std.proofs.lemmas.List.{length-take-le}
use Rattle.std.proofs.Math.ListN.{drop_of_length-le}
use Rattle.std.proofs.Math.Seq.{drop-append_seam, take-append_seam}
use Rattle.ufs_spec.specs.Plain.{zero_block}

pub zeros_length : length zero_block ≡ 4096
unfolding zero_block
zeros_length = length-replicate {A = ℕ} 4096 0

-- what comes whole is all of the page
pub whole_page : (x : Brought) (old : List ℕ) → IsPartBrought x → x.part.blocks ≡ 16 →
    length (with_part_of x.part x.bytes.now old) ≡ 4096 → with_part_of x.part x.bytes.now old ≡ x.bytes.now
whole_page x old part whole long =
    (λ i. take (first i) old ++ (x.bytes.now ++ rest i)) ∙ append-nil x.bytes.now
  where
    first : 256 * x.part.first ≡ 0
    first = let w = part.1 in omega (arith, w, whole)

    bytes : length x.bytes.now ≡ 4096
    bytes = let b = part.0 in omega (arith, b, whole)

    front : take (256 * x.part.first) old ≡ []
    front = ap (λ (n : ℕ). take n old) first

    rest : drop (256 * x.part.first + length x.bytes.now) old ≡ []
    rest = drop_of_length-le old
        (let all = sym (length-append (take (256 * x.part.first) old)
        (x.bytes.now ++ drop (256 * x.part.first + length x.bytes.now) old)) ∙ long in
        let some = length-append x.bytes.now (drop (256 * x.part.first + length x.bytes.now) old) in
        let behind = length-drop (256 * x.part.first + length x.bytes.now) old in
        omega (arith, all, some, behind, bytes, first))

-- the own part of a page is what came of it
pub part_back : (x : Brought) (old : List ℕ) → IsPartBrought x → length old ≡ 4096 →
    part_of x.part (with_part_of x.part x.bytes.now old) ≡ x.bytes.now
part_back x old part long =
    (λ i. take (bytes i) (drop (first i) (take (256 * x.part.first) old ++ (x.bytes.now ++ rest))))
    ∙ (ap (take (length x.bytes.now)) (drop-append_seam (take (256 * x.part.first) old) (x.bytes.now ++ rest))
    ∙ take-append_seam x.bytes.now rest)
  where
    rest : List ℕ
    rest = drop (256 * x.part.first + length x.bytes.now) old

    bytes : 256 * x.part.blocks ≡ length x.bytes.now
    bytes = sym part.0

    first : 256 * x.part.first ≡ length (take (256 * x.part.first) old)
    first = sym (length-take-le (256 * x.part.first) old (let w = part.1 in omega (arith, w, long)))

-- a page has as many bytes with the part as without it
pub part_length : (x : Brought) (old : List ℕ) → IsPartBrought x → length old ≡ 4096 →
    length (with_part_of x.part x.bytes.now old) ≡ 4096
part_length x old part long =
    let within = part.1 in
    let bytes = part.0 in
    let front = length-take-le (256 * x.part.first) old (omega (arith, within, long)) in
    let behind = length-drop (256 * x.part.first + length x.bytes.now) old in
    let all = length-append (take (256 * x.part.first) old)
    (x.bytes.now ++ drop (256 * x.part.first + length x.bytes.now) old) in
    let some = length-append x.bytes.now (drop (256 * x.part.first + length x.bytes.now) old) in
    omega (arith, within, bytes, front, behind, all, some, long)
