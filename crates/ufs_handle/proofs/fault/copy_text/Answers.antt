use Rattle.std.proofs.Common.{ap, arith, drop, drop-cons, get_or, length, List, min, set, suc, take}
use Rattle.std.proofs.Common.{ℕ, ◌++◌, ◌+◌, ◌-◌, ◌<◌, ◌∙◌, ◌∷◌, ◌≡◌}
use Rattle.std.proofs.lemmas.List.{length-take, set_at}
use Rattle.ufs_handle.proofs.fault.copy_text.Goals as goal

-- a zero in the place of the byte behind what was copied
ended : (words before copied : List ℕ) (count : ℕ) → copied ≡ take count words →
    count ≡ min (length words) (length before - 1) → 0 < length before →
    set (copied ++ drop count before) count 0 ≡ take count words ++ (0 ∷ drop (count + 1) before)
ended words before copied count is least room =
    let here : count < length before = omega (arith, least, room) in
    let size : length (take count words) ≡ count = omega (arith, length-take count words, least) in
    let next : suc count ≡ count + 1 = omega arith in
    let behind : drop count before ≡ get_or before count 0 ∷ drop (count + 1) before =
    drop-cons before count 0 here ∙ ap (λ (n : ℕ). get_or before count 0 ∷ drop n before) next
    in
    rw (is, behind) (set_at (take count words) (get_or before count 0) (drop (count + 1) before) 0 count size)

pub returns-clause-said : goal.returns-clause-said
returns-clause-said c =
    let said = c.as_bytes-bytes.ensures.value ∙ c.text.ensures in
    let least = c.min-count.ensures ∙ ap (λ (w : List ℕ). min (length w) (length c.args.into.now - 1)) said in
    let copied = c.copy_from_slice.ensures.after ∙ ap (take c.min-count.result) said in
    record {
      count_is = least;
      written = ended _ c.args.into.now _ c.min-count.result copied least;
    }
