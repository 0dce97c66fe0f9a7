-- What the lines of the table of queries say by the row of what is asked for (JESD220, 10.7.8).
use Rattle.std.specs.Prelude.{Bool, Option, [], not, ℕ, ◌&&◌, ◌==◌, ◌∷◌}
use Rattle.ufs_spec.specs.Configs.{is_between}
use Rattle.ufs_spec.specs.Messages.{is_among}
use Rattle.ufs_spec.specs.Queries.{Query, is_index, is_selector, may_write, of_row}
use Rattle.ufs_spec.specs.declared.configs.Numbers.{Numbers}
use Rattle.ufs_spec.specs.declared.parameters.Parameter.{Parameter}

-- an index that names none of those that the row stands for
abbrev pub index_is_wrong : Numbers → Option Parameter → (index : ℕ) → Bool
index_is_wrong n row index = of_row (λ row. not (is_index n row.indexes index)) row

-- a selector that names none of them
abbrev pub selector_is_wrong : Option Parameter → (selector : ℕ) → Bool
selector_is_wrong row selector = of_row (λ row. not (is_selector row.indexes selector)) row

-- an opcode that reads, where that may not be
abbrev pub unreadable : Option Parameter → (opcode : ℕ) → Bool
unreadable row opcode = is_among (1 ∷ 3 ∷ 5 ∷ []) opcode && of_row (λ row. not row.access.reads) row

-- an opcode that writes, where that may not be
abbrev pub unwritable : Option Parameter → (opcode : ℕ) → Bool
unwritable row opcode =
    is_among (2 ∷ 4 ∷ 6 ∷ 7 ∷ 8 ∷ []) opcode && of_row (λ row. not (may_write opcode row.access)) row

-- a value that the attribute cannot have
abbrev pub value_is_wrong : Option Parameter → Query → Bool
value_is_wrong row q =
    (q.asked.opcode == 4) && of_row (λ row. not (is_between row.least row.greatest q.value)) row
