-- The line that is printed.
use Rattle.std.specs.Prelude.{ℕ, List, [], ◌∷◌, ◌++◌, codes}
use Rattle.std.specs.Fmt.{decimal}

-- the line `stress dies D hosts H writes W bad B`, with its end
abbrev pub line_of : (dies hosts writes bad : ℕ) → List ℕ
line_of dies hosts writes bad =
    codes "stress dies " ++ (decimal dies
    ++ (codes " hosts " ++ (decimal hosts
    ++ (codes " writes " ++ (decimal writes
    ++ (codes " bad " ++ (decimal bad ++ 10 ∷ [])))))))
