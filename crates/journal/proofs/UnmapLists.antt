-- What is accepted with the list of an UNMAP.
use Rattle.std.proofs.Common.{◌≡◌, ◌∙◌, ◌==◌, ◌++◌, ◌||◌, ◌<◌, ◌⊎◌, ℕ, Bool, true, false, not, if◌then◌else◌, List, length}
use Rattle.std.proofs.Common.{Option, None, Some, ap, nat_lt, refl, slice_get, sym, ◌+◌, ⊎_elim}
use Rattle.std.proofs.lemmas.List.{append-nil}
use Rattle.std.specs.Option.{option_to_list}
use Rattle.ufs_bytes.specs.Fields.{field_at}
use Rattle.ufs_spec.proofs.Lists.{get_there}
use Rattle.ufs_spec.specs.Commands.{Command, Zero}
use Rattle.ufs_spec.specs.Configs.{command_blocks}
use Rattle.ufs_spec.specs.DataOuts.{has_list_header, is_past_unit, is_wrong_descriptor, unmap_complete}
use Rattle.ufs_spec.specs.Exchanges.{Task}
use Rattle.ufs_spec.specs.Refusals.{State, locked, numbers_of, unit_numbers_at}
use Rattle.ufs_spec.specs.declared.configs.Numbers.{Numbers}
use Rattle.ufs_spec.specs.declared.configs.UnitSpec.{UnitSpec}
use Rattle.journal.specs.Unmaps.{zeros_accepted, zeros_asked}

-- the command, if one is accepted, by what the tests of the list and of the lock say
abbrev pub chosen : (right short wrong outside none lock : Bool) → Command → Option Command
chosen right short wrong outside none lock c =
    if not right || short || wrong || outside || none || lock then None else Some c

-- what a device accepts
device_accepts : (s : State) (task : Task) (unit : ℕ) (list : List ℕ) (right short wrong outside none lock : Bool) →
    has_list_header list ≡ right → (length list == 8) ≡ short → is_wrong_descriptor (numbers_of s) list ≡ wrong →
    is_past_unit list (unit_numbers_at (numbers_of s) (Some unit)) ≡ outside → (field_at 4 16 list == 0) ≡ none →
    locked s ≡ lock →
    (unmap_complete s task unit list).accepted
    ≡ s.accepted
    ++ option_to_list
    (chosen right short wrong outside none lock (Zero unit (field_at 8 8 list) (field_at 4 16 list)))
device_accepts s task unit list false short wrong outside none lock r h w o n k = rw r (sym (append-nil s.accepted))
device_accepts s task unit list true true wrong outside none lock r h w o n k =
    rw (r, h) (sym (append-nil s.accepted))
device_accepts s task unit list true false true outside none lock r h w o n k =
    rw (r, h, w) (sym (append-nil s.accepted))
device_accepts s task unit list true false false true none lock r h w o n k =
    rw (r, h, w, o) (sym (append-nil s.accepted))
device_accepts s task unit list true false false false true lock r h w o n k =
    rw (r, h, w, o, n) (sym (append-nil s.accepted))
device_accepts s task unit list true false false false false true r h w o n k =
    rw (r, h, w, o, n, k) (sym (append-nil s.accepted))
device_accepts s task unit list true false false false false false r h w o n k = rw (r, h, w, o, n, k) refl

-- a list without a descriptor has nothing accepted
none_of_header : (right wrong outside none lock : Bool) (c : Command) →
    (if lock then None else None) ≡ chosen right true wrong outside none lock c
none_of_header true wrong outside none true c = refl
none_of_header true wrong outside none false c = refl
none_of_header false wrong outside none true c = refl
none_of_header false wrong outside none false c = refl

-- in whatever order the tests stand
in_any_order : (right wrong outside none lock : Bool) (c : Command) →
    (if lock then None else if not right || wrong || outside || none then None else Some c)
    ≡ chosen right false wrong outside none lock c
in_any_order false wrong outside none true c = refl
in_any_order false wrong outside none false c = refl
in_any_order true true outside none true c = refl
in_any_order true true outside none false c = refl
in_any_order true false true none true c = refl
in_any_order true false true none false c = refl
in_any_order true false false true true c = refl
in_any_order true false false true false c = refl
in_any_order true false false false true c = refl
in_any_order true false false false false c = refl

-- what a journal takes
journal_takes : (n : Numbers) (lock : Bool) (unit : ℕ) (list : List ℕ) (u : UnitSpec) →
    slice_get n.units.items unit ≡ Some u → (length list ≡ 8) ⊎ (length list ≡ 24) →
    zeros_accepted n lock unit list
    ≡ chosen (has_list_header list) (length list == 8) (is_wrong_descriptor n list)
    (is_past_unit list (unit_numbers_at n (Some unit)))
    (field_at 4 16 list == 0)
    lock
    (Zero unit (field_at 8 8 list) (field_at 4 16 list))
journal_takes n lock unit list u there long =
    ⊎_elim
    (λ (short : length list ≡ 8).
    let is_short : (length list == 8) ≡ true = ap (λ k. k == 8) short in
    let is_long : (length list == 24) ≡ false = ap (λ k. k == 24) short in
    rw (there, is_short, is_long) (none_of_header (has_list_header list) (is_wrong_descriptor n list)
    (is_past_unit list (Some u)) (field_at 4 16 list == 0) lock (Zero unit (field_at 8 8 list) (field_at 4 16 list))))
    (λ (long : length list ≡ 24).
    let is_short : (length list == 8) ≡ false = ap (λ k. k == 8) long in
    let is_long : (length list == 24) ≡ true = ap (λ k. k == 24) long in
    rw (there, is_short, is_long) (in_any_order (has_list_header list) (is_wrong_descriptor n list)
    (is_past_unit list (Some u)) (field_at 4 16 list == 0) lock (Zero unit (field_at 8 8 list) (field_at 4 16 list))))
    long

-- both are the same
pub same_accepted : (s : State) (task : Task) (unit : ℕ) (list : List ℕ) → unit < length (numbers_of s).units.items →
    (length list ≡ 8) ⊎ (length list ≡ 24) →
    (unmap_complete s task unit list).accepted
    ≡ s.accepted ++ option_to_list (zeros_accepted (numbers_of s) (locked s) unit list)
same_accepted s task unit list there long =
    let got = get_there (numbers_of s).units.items unit there in
    device_accepts s task unit list _ _ _ _ _ _ refl refl refl refl refl refl
    ∙ ap (λ (c : Option Command). s.accepted ++ option_to_list c)
    (sym (journal_takes (numbers_of s) (locked s) unit list got.0 got.1 long))

-- a list that passes all tests asks for its blocks
pub blocks_asked : (n : Numbers) (unit : ℕ) (list : List ℕ) (u : UnitSpec) → (length list == 24) ≡ true →
    has_list_header list ≡ true → (field_at 4 20 list == 0) ≡ true → (field_at 4 16 list == 0) ≡ false →
    nat_lt (command_blocks n) (field_at 4 16 list) ≡ false → slice_get n.units.items unit ≡ Some u →
    nat_lt u.blocks (field_at 8 8 list + field_at 4 16 list) ≡ false →
    Some (Zero unit (field_at 8 8 list) (field_at 4 16 list)) ≡ zeros_asked n unit list
blocks_asked n unit list u long header zeros some few there within =
    rw (long, header, zeros, some, few, there, within) refl
