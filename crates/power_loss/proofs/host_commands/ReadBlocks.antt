-- What a READ keeps: the blocks that the host expects lie within its unit, and each is kept as it is looked up.
use Rattle.ufs_spec.specs.Cdbs.{blocks_meant}
use Rattle.ufs_spec.proofs.Facts.{and_from, and_parts}
use Rattle.std.specs.Prelude.{nat_le}
use Rattle.ufs_spec.specs.Refusals.{takes}
use Rattle.power_loss.proofs.Common.{◌≡◌, ℕ, ◌+◌, ◌*◌, ◌<◌, ◌≤◌, ◌==◌, ◌&&◌, Bool, true, false, List, [], ◌∷◌}
use Rattle.power_loss.proofs.Common.{Option, Some, None, length, map, get_or, min, slice_get, refl, sym, ap, ◌∙◌, subst}
use Rattle.power_loss.proofs.Common.{arith, All, nat_lt, get_or-map, length-map, All-head, All-tail}
use Rattle.power_loss.proofs.Common.{All-weaker, get_or_from_slice_get, slice_get-get_or, slice_get_within}
use Rattle.power_loss.proofs.Common.{ltb-false, ltb-true, not-false, same_Some, IsData, IsKey, below, data_key, Ledger}
use Rattle.power_loss.proofs.Common.{⊎_elim, look, Keep, shape_of_numbers, Pin, Numbers, Key, is_mended}
use Rattle.power_loss.proofs.MachineWords.{BootUnit, Cdb, IsTied, Lun, Request, State, UnitSpec, address_of}
use Rattle.power_loss.proofs.MachineWords.{blocks_expected, blocks_of, is_past, lacks_unit, lun_of, not_taken}
use Rattle.power_loss.proofs.MachineWords.{numbers_of, plain_now, unit_in, unit_numbers_at, unit_of_request}
use Rattle.power_loss.proofs.MachineWords.{unit_or_first, with_moves}
use Rattle.std.proofs.Common.{position}
use Rattle.std.specs.Prelude.{if◌then◌else◌, is_none, Bool}
use Rattle.std.specs.Int.{div_ceil}
use Rattle.std.specs.List.{position_or_len}
use Rattle.std.proofs.lemmas.Grind.{div_ceil_times}
use Rattle.ufs_spec.proofs.CommandTable.{IsUnit, reading_taken, row_behind}
use Rattle.ufs_spec.specs.CdbFields.{kind_of, row_of, spelled_cdb}
use Rattle.ufs_spec.proofs.Facts.{false≢true}
use Rattle.ufs_spec.specs.Refusals.{boot_unit, is_boot_read, is_told_anywhere, needs_blocks, row_in, takes_row}
use Rattle.ufs_spec.specs.Refusals.{tells_of_none}
use Rattle.ufs_spec.specs.declared.operations.Kind.{Kind}
use Rattle.ufs_spec.specs.declared.operations.Kind.TheVariants as kind
use Rattle.ufs_spec.specs.declared.operations.Told.TheVariants as told
use Rattle.ufs_spec.specs.declared.operations.Row.{Row}
use Rattle.ufs_laws.proofs.walk.SmallChanges.{Both, Still}
use Rattle.power_loss.proofs.ordered_lists.ElementsAndOrders.{all_below}
use Rattle.power_loss.proofs.host_commands.PassedCommands.{means_more, Passed, lun_told, no_spec}
use Rattle.power_loss.proofs.calls.RightChanges.{Right, right_keeps, right_move}
use Rattle.ufs_spec.specs.Ledger.{latest_durable, looked_at}

-- Pins

-- pins of what is found now, where the device is mended or not
pub pins_right : {s : State} {n : Numbers} {l : Ledger} {mends : Bool} (k : ℕ → Key) (f : ℕ → Pin) (xs : List ℕ) →
    IsTied s → numbers_of s ≡ n → s.translation.ledger ≡ l → is_mended s.translation.work.mending ≡ mends →
    All (λ i. IsKey (shape_of_numbers n) (k i)) xs →
    ((i : ℕ) → (f i).looked ≡ (if mends then look l (k i) else looked_at l (latest_durable l (k i)))) →
    Right s (with_moves s (map (λ i. Keep (k i) (f i)) xs))
pins_right k f [] v numbers ledger mending keys looks = Still
pins_right {s} {n} {l} {mends} k f (x ∷ xs) v numbers ledger mending keys looks =
    let head = All-head (λ i. IsKey (shape_of_numbers n) (k i)) x xs keys in
    let key = subst (λ (m : Numbers). IsKey (shape_of_numbers m) (k x)) (sym numbers) head in
    let look_is = looks x
    ∙ ap (λ (m : Ledger). if mends then look m (k x) else looked_at m (latest_durable m (k x))) (sym ledger)
    ∙ ap (λ (b : Bool). if b then look s.translation.ledger (k x)
    else looked_at s.translation.ledger (latest_durable s.translation.ledger (k x))) (sym mending) in
    let one = right_move (Keep (k x) (f x)) v tt (key, look_is) (omega arith) in
    Both one
    (pins_right k f xs (right_keeps one v) numbers ledger mending
    (All-tail (λ i. IsKey (shape_of_numbers n) (k i)) x xs keys) looks)

-- The unit

-- the unit that is read
pub record ReadsUnit (n : Numbers) (unit : Option ℕ) : Type 0 where
  pub number : ℕ
  pub spec : UnitSpec
  pub is : unit ≡ Some number
  pub there : slice_get n.units.items number ≡ Some spec

position_inside : {X : Type 0} (test : X → Bool) (xs : List X) {i : ℕ} → position test xs ≡ Some i → i < length xs
position_inside test xs {i} h = by (nat_lt (position_or_len test xs) (length xs)) refl h
  where
    by : (b : Bool) → nat_lt (position_or_len test xs) (length xs) ≡ b →
        (if b then Some (position_or_len test xs) else None) ≡ Some i → i < length xs
    by true e k =
        let same = same_Some (position_or_len test xs) i k in
        let short = ltb-true (position_or_len test xs) (length xs) e in
        omega (arith, same, short)
    by false e k = cc

unit_there : {n : Numbers} (i : ℕ) → i < length n.units.items → ReadsUnit n (Some i)
unit_there {n} i l = record {
  number = i;
  spec = get_or n.units.items i no_spec;
  is = refl;
  there = slice_get-get_or n.units.items i no_spec l;
}

boot_there : {n : Numbers} (boot : ℕ) (unit : Option ℕ) → boot_unit n boot ≡ unit → is_none unit ≡ false →
    ReadsUnit n unit
boot_there boot None e h = cc
boot_there {n} boot (Some i) e h = unit_there i (by (boot == 0) e)
  where
    by : (b : Bool) → (if b then None else position (λ (u : UnitSpec). u.boot == boot) n.units.items) ≡ Some i →
        i < length n.units.items
    by true k = cc
    by false k = position_inside (λ (u : UnitSpec). u.boot == boot) n.units.items k

-- what such bytes ask for needs blocks that can be read
abbrev pub Reads : List ℕ → Type 0
Reads bytes = (row : Row) × (row_of bytes ≡ Some row) × (needs_blocks row.kind ≡ true)

pub reads_in : (bytes : List ℕ) (c : Cdb) → spelled_cdb bytes ≡ Some c → needs_blocks (kind_of c) ≡ true → Reads bytes
reads_in bytes c e needs =
    let its = row_behind bytes c e in
    (its.row, its.found, ap needs_blocks its.kind_is ∙ needs)

lun_there : (s : State) (r : Request) (lun : Lun) → Reads r.bytes → lun_of (numbers_of s) r.lun ≡ Some lun →
    lacks_unit s r (Some lun) ≡ false → takes_row (numbers_of s) lun (row_in r) ≡ true →
    ReadsUnit (numbers_of s) (unit_in s r (Some lun))
lun_there s r lun (row, found, needs) is lacks taken =
    ⊎_elim of_unit of_boot (reading_taken r.bytes row lun found needs parts.1)
  where
    -- the device's profile has the row, and the LUN takes it
    parts : (nat_le row.profile (numbers_of s).profile ≡ true) × (takes lun row ≡ true)
    parts =
        and_parts (nat_le row.profile (numbers_of s).profile) (takes lun row)
        (subst (λ (o : Option Row). takes_row (numbers_of s) lun o ≡ true) found taken)

    of_unit : IsUnit lun → ReadsUnit (numbers_of s) (unit_in s r (Some lun))
    of_unit (unit, e) =
        let told = lun_told (numbers_of s) (is ∙ ap Some e) in
        let same = told.1 in
        let short = told.0 in
        subst (λ (l : Lun). ReadsUnit (numbers_of s) (unit_in s r (Some l))) (sym e)
        (unit_there unit (omega (arith, same, short)))

    of_boot : lun ≡ BootUnit → ReadsUnit (numbers_of s) (unit_in s r (Some lun))
    of_boot e =
        let boots : is_boot_read (numbers_of s) (row_in r) ≡ true =
        ap (is_boot_read (numbers_of s)) found ∙ and_from (nat_le row.profile (numbers_of s).profile)
        (needs_blocks row.kind) parts.0 needs in
        let there = subst (λ (l : Lun). lacks_unit s r (Some l) ≡ false) e lacks in
        subst (λ (l : Lun). ReadsUnit (numbers_of s) (unit_in s r (Some l))) (sym e)
        (boot_there (plain_now s).boot (boot_unit (numbers_of s) (plain_now s).boot) refl
        (sym (ap (λ b. b && is_none (boot_unit (numbers_of s) (plain_now s).boot)) boots) ∙ there))

-- what is answered where there is no unit reads no blocks
pub reads_told : (n : Numbers) (bytes : List ℕ) → Reads bytes → is_told_anywhere n (row_of bytes) ≡ true → ⊥
reads_told n bytes (row, found, needs) none =
    by row.kind needs
    (and_parts (nat_lt 0 n.profile) (tells_of_none row.kind)
    (subst (λ (o : Option Row). is_told_anywhere n o ≡ true) found none)).1
  where
    by : (k : Kind) → needs_blocks k ≡ true → tells_of_none k ≡ true → ⊥
    by (kind.Tell told.Identity) e f = false≢true e
    by (kind.Tell told.Sense) e f = false≢true e
    by (kind.Tell what) e f = false≢true f
    by k e f = false≢true f

-- a READ that the table lets through reads a unit
pub reads_unit : {s : State} {r : Request} {c : Cdb} → Reads r.bytes → Passed s r c →
    ReadsUnit (numbers_of s) (unit_of_request s r)
reads_unit {s} {r} reads p = by (lun_of (numbers_of s) r.lun) refl p.unit p.taken
  where
    by : (x : Option Lun) → lun_of (numbers_of s) r.lun ≡ x → lacks_unit s r x ≡ false →
        not_taken (numbers_of s) r x ≡ false → ReadsUnit (numbers_of s) (unit_in s r x)
    by None e h k = absurd (reads_told (numbers_of s) r.bytes reads (not-false _ h))
    by (Some lun) e h k = lun_there s r lun reads e h (not-false (takes_row (numbers_of s) lun (row_in r)) k)

-- The blocks

expected_few : (expected blocks : ℕ) {n : ℕ} → n ≡ blocks * 4096 → div_ceil (min expected n) 4096 ≤ blocks
expected_few expected blocks {n} e =
    let up = (div_ceil_times (min expected n) 4096 (omega arith)).1 in
    let low = least expected n in
    omega (arith, up, low, e)
  where
    least : (a b : ℕ) → min a b ≤ b
    least a b = grind arith

-- each of them is a key of the device
pub key_read : {s : State} {r : Request} {command : Cdb} {n : ℕ} → n ≡ blocks_of command * 4096 →
    Reads r.bytes → Passed s r command → (i : ℕ) → i < blocks_expected r n →
    IsKey (shape_of_numbers (numbers_of s)) (data_key (unit_or_first (unit_of_request s r)) (address_of command + i))
key_read {s} {r} {command} {n} size reads p i l =
    subst (λ (u : ℕ). IsKey (shape_of_numbers (numbers_of s)) (data_key u (address_of command + i)))
    (sym (ap unit_or_first u.is)) (IsData u.number (address_of command + i) inside within)
  where
    units : List UnitSpec
    units = (numbers_of s).units.items

    u : ReadsUnit (numbers_of s) (unit_of_request s r)
    u = reads_unit reads p

    short : u.number < length units
    short = slice_get_within units u.number u.spec u.there

    inside : u.number < length (map (λ (x : UnitSpec). x.blocks) units)
    inside = let same = length-map units (λ (x : UnitSpec). x.blocks) in omega (arith, same, short)

    room : address_of command + blocks_of command ≤ u.spec.blocks
    room =
        let more = means_more command in
        let meant = ltb-false u.spec.blocks (address_of command + blocks_meant command)
        (subst (λ (x : Option UnitSpec). is_past command x ≡ false) (ap (unit_numbers_at (numbers_of s)) u.is ∙ u.there)
        p.within) in
        omega (arith, more, meant)

    blocks : get_or (map (λ (x : UnitSpec). x.blocks) units) u.number 0 ≡ u.spec.blocks
    blocks = get_or-map (λ (x : UnitSpec). x.blocks) units u.number no_spec 0 short
        ∙ ap (λ (x : UnitSpec). x.blocks) (get_or_from_slice_get units u.number u.spec no_spec u.there)

    within : address_of command + i < get_or (map (λ (x : UnitSpec). x.blocks) units) u.number 0
    within = let few = expected_few r.expected (blocks_of command) size in omega (arith, l, few, room, blocks)

-- and so are all
abbrev pub KeysOfDevice : State → ℕ → ℕ → ℕ → Type 0
KeysOfDevice s unit address n =
    All (λ i. IsKey (shape_of_numbers (numbers_of s)) (data_key unit (address + i))) (below n)

pub keys_read : {s : State} {r : Request} {command : Cdb} {n : ℕ} → n ≡ blocks_of command * 4096 →
    Reads r.bytes → Passed s r command →
    KeysOfDevice s (unit_or_first (unit_of_request s r)) (address_of command) (blocks_expected r n)
keys_read {s} {r} {command} {n} size reads p =
    let unit = unit_or_first (unit_of_request s r) in
    All-weaker (λ i. i < blocks_expected r n)
    (λ i. IsKey (shape_of_numbers (numbers_of s)) (data_key unit (address_of command + i)))
    (key_read size reads p) (below (blocks_expected r n)) (all_below (blocks_expected r n))
