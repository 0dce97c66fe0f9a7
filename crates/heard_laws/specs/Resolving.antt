-- How what a journal notes stands for the commands that a device accepted.
use Rattle.std.specs.Prelude.{◌≡◌, ◌⊎◌, ℕ, ◌≤◌, List, [], ◌∷◌, drop, take}
use Rattle.ufs_spec.specs.Commands.{Command}
use Rattle.journal.specs.Entries.{Accepted, Doubted, Noted, Refused, setting_command}

-- the entries stand for these commands, in their order: an accepted one for its command, a setting in doubt for its
-- command or for none, and a refused one for none
abbrev pub Resolves : List Noted → List Command → Type 0
Resolves [] cs = cs ≡ []
Resolves (Accepted c ∷ es) cs = (rest : List Command) × (cs ≡ c ∷ rest) × Resolves es rest
Resolves (Doubted s ∷ es) cs =
    Resolves es cs ⊎ ((rest : List Command) × (cs ≡ setting_command s ∷ rest) × Resolves es rest)
Resolves (Refused ∷ es) cs = Resolves es cs

-- the first so many entries, which are acknowledged, stand for no more than the first `most` of these commands, and
-- the entries behind them for the commands behind those
pub record AreAmong (entries : List Noted) (acknowledged : ℕ) (cs : List Command) (most : ℕ) : Type 0 where
  pub count : ℕ
  pub few : count ≤ most
  pub front : Resolves (take acknowledged entries) (take count cs)
  pub rest : Resolves (drop acknowledged entries) (drop count cs)
