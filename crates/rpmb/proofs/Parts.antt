-- The first frame and the further ones.
use Rattle.std.proofs.Common.{◌≡◌, ◌≤◌, ◌-◌, ◌∙◌, ◌∷◌, ℕ, List, [], ap, arith, drop, get_or, length, length-drop, sym}
use Rattle.std.proofs.Common.{take}
use Rattle.std.proofs.lemmas.List.{drop_more, take_all}

pub first_and_more : (frames : List (List ℕ)) → 1 ≤ length frames
    → get_or frames 0 [] ∷ take (length frames - 1) (drop 1 frames) ≡ frames
first_and_more frames some =
    ap (λ more. get_or frames 0 [] ∷ more)
    (take_all (length frames - 1) (drop 1 frames) (omega (arith, length-drop 1 frames)))
    ∙ sym (drop_more frames 0 [] (omega arith))
