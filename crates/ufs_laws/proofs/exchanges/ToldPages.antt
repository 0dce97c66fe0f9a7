-- What pages of vital product data, mode pages and commands tell are bytes, and not many.
use Rattle.ufs_laws.proofs.Common.{AreBytes, Bool, List, Numbers, Option, Some, None, UnitSpec, [], arith, big_bytes, command_blocks}
use Rattle.ufs_laws.proofs.Common.{false, if_both, if◌then◌else◌, length, length-append, nat_lt, refl, suc, true}
use Rattle.ufs_laws.proofs.Common.{zeros, ℕ, ◌%◌, ◌*◌, ◌++◌, ◌+◌, ◌-◌, ◌/◌, ◌<◌, ◌==◌, ◌^◌, ◌∷◌, ◌||◌, ◌≡◌, ◌≤◌}
use Rattle.hex.specs.Hex.{encode_with, lower_digits}
use Rattle.std.specs.List.{list_all}
use Rattle.std.specs.Prelude.{find, slice_index, ◌&&◌}
use Rattle.ufs_laws.proofs.exchanges.ListedUnits.{seen_bytes}
use Rattle.ufs_laws.proofs.pages.ByteLists.{bytes-append, bytes-cons, bytes-nil, bytes-number, bytes-zeros}
use Rattle.ufs_spec.proofs.CommandTable.{found_holds}
use Rattle.ufs_spec.proofs.Facts.{and_parts, eqb-true, false≢true, ltb-true}
use Rattle.ufs_spec.specs.CdbFields.{all_modes, mode_page_of, page_control, reporting_of, wants_timeouts}
use Rattle.ufs_spec.specs.Identities.{designator, device_parameter, device_type, limits, long_capacity_bytes}
use Rattle.ufs_spec.specs.Identities.{mode_page, mode_values, modes_bytes, modes_told, page_body, page_bytes}
use Rattle.ufs_spec.specs.Identities.{all_commands, is_asked, one_command, operations_told, short_modes_told}
use Rattle.ufs_spec.specs.Identities.{unit_commands, vpd_pages}
use Rattle.ufs_spec.specs.Messages.{is_among}
use Rattle.ufs_spec.specs.declared.operations.Row.{Row}

-- so many bytes at most
abbrev pub AreFew : ℕ → List ℕ → Type 0
AreFew most bytes = (length bytes ≤ most) × AreBytes bytes

number_then : (n x : ℕ) (rest : List ℕ) → AreBytes rest → AreBytes (big_bytes n x ++ rest)
number_then n x rest h = bytes-append (big_bytes n x) rest (bytes-number n x) h

-- ## Capacity

pub capacity_told : (u : Option UnitSpec) → AreFew 32 (long_capacity_bytes u)
capacity_told None = (omega arith, bytes-zeros 32)
capacity_told (Some u) = (
  omega arith,
  number_then 8 (u.blocks - 1) (big_bytes 4 4096 ++ (0 ∷ 0 ∷ 0xC0 ∷ []) ++ zeros 17)
      (number_then 4 4096 ((0 ∷ 0 ∷ 0xC0 ∷ []) ++ zeros 17) (seen_bytes ((0 ∷ 0 ∷ 0xC0 ∷ []) ++ zeros 17) refl)),
)

-- ## Vital product data

digit_told : (n : ℕ) → slice_index lower_digits n < 256
digit_told = seen_bytes lower_digits refl

pub digits_told : (bytes : List ℕ) →
    (length (encode_with lower_digits bytes) ≡ 2 * length bytes) × AreBytes (encode_with lower_digits bytes)
unfolding encode_with
digits_told [] = (refl, bytes-nil)
digits_told (b ∷ bs) =
    let rest = digits_told bs in (
      omega (arith, rest.0),
      bytes-cons (slice_index lower_digits (b / 16))
          (slice_index lower_digits (b % 16) ∷ encode_with lower_digits bs) (digit_told (b / 16))
          (bytes-cons (slice_index lower_digits (b % 16)) (encode_with lower_digits bs) (digit_told (b % 16)) rest.1),
    )

serial_told : (serial : ℕ) → AreFew 60 (encode_with lower_digits (big_bytes 8 serial))
serial_told serial = let d = digits_told (big_bytes 8 serial) in (omega (arith, d.0), d.1)

designator_told : (serial lun : ℕ) → lun < 256 → AreFew 60 (designator serial lun)
designator_told serial lun l = (
  omega arith,
  bytes-append (0x01 ∷ 0x03 ∷ 0x00 ∷ 0x08 ∷ 0x30 ∷ 0x46 ∷ 0x53 ∷ []) (big_bytes 4 (serial % 2 ^ 32) ++ lun ∷ [])
      (seen_bytes (0x01 ∷ 0x03 ∷ 0x00 ∷ 0x08 ∷ 0x30 ∷ 0x46 ∷ 0x53 ∷ []) refl)
      (number_then 4 (serial % 2 ^ 32) (lun ∷ []) (bytes-cons lun [] l bytes-nil)),
)

limits_told : (most : ℕ) → AreFew 60 (limits most)
limits_told most =
    let behind : List ℕ = big_bytes 4 1 ++ (big_bytes 4 1 ++ (big_bytes 4 0x80000000 ++ zeros 28)) in
    let unmapped : List ℕ = big_bytes 4 0 ++ (big_bytes 4 most ++ behind) in
    let lengths : List ℕ = big_bytes 4 most ++ (big_bytes 4 most ++ unmapped) in (
      omega arith,
      bytes-append (0 ∷ 0 ∷ []) (big_bytes 2 1 ++ lengths) (seen_bytes (0 ∷ 0 ∷ []) refl)
          (number_then 2 1 lengths (number_then 4 most (big_bytes 4 most ++ unmapped) (number_then 4 most unmapped
          (number_then 4 0 (big_bytes 4 most ++ behind) (number_then 4 most behind (seen_bytes behind refl)))))),
    )

pages_told : (lun : ℕ) → AreFew 60 (vpd_pages lun)
pages_told lun =
    if_both (λ (xs : List ℕ). AreFew 60 ((0x00 ∷ 0x80 ∷ 0x83 ∷ 0x87 ∷ []) ++ xs)) (nat_lt lun 8)
    (omega arith, seen_bytes (0x00 ∷ 0x80 ∷ 0x83 ∷ 0x87 ∷ 0xB0 ∷ 0xB1 ∷ 0xB2 ∷ []) refl)
    (omega arith, seen_bytes (0x00 ∷ 0x80 ∷ 0x83 ∷ 0x87 ∷ []) refl)

body_told : (n : Numbers) (lun page : ℕ) → lun < 256 → AreFew 60 (page_body n lun page)
body_told n lun page l =
    if_both (AreFew 60) (page == 0x00) (pages_told lun)
    (if_both (AreFew 60) (page == 0x80) (serial_told n.serial)
    (if_both (AreFew 60) (page == 0x83) (designator_told n.serial lun l)
    (if_both (AreFew 60) (page == 0x87) (omega arith, seen_bytes (0x3F ∷ 0xFF ∷ 0 ∷ 0 ∷ []) refl)
    (if_both (AreFew 60) (page == 0xB0) (limits_told (command_blocks n))
    (if_both (AreFew 60) (page == 0xB1) (omega arith, seen_bytes (0 ∷ 0x01 ∷ zeros 58) refl)
    (omega arith, seen_bytes (0 ∷ 0x84 ∷ 0x02 ∷ 0 ∷ []) refl))))))

-- a number of a list of bytes is a byte
listed_byte : (xs : List ℕ) (n : ℕ) → AreBytes xs → is_among xs n ≡ true → n < 256
listed_byte [] n h e = absurd (false≢true e)
listed_byte (x ∷ xs) n h e = by (n == x) refl e (listed_byte xs n (λ place. h (suc place)))
  where
    by : (b : Bool) → (n == x) ≡ b → (b || is_among xs n) ≡ true → (is_among xs n ≡ true → n < 256) → n < 256
    by true f k later = let same = eqb-true n x f in let first = h 0 in omega (arith, same, first)
    by false f k later = later k

pub page_told : (n : Numbers) (lun page : ℕ) → lun < 256 → AreFew 64 (page_bytes n lun page)
page_told n lun page l = by (is_among (vpd_pages lun) page) refl
  where
    body : AreFew 60 (page_body n lun page)
    body = body_told n lun page l

    type_told : device_type lun < 256
    type_told = if_both (λ (x : ℕ). x < 256) (nat_lt lun 8) (omega arith) (omega arith)

    by : (b : Bool) → is_among (vpd_pages lun) page ≡ b →
        AreFew 64 (if b then
        (device_type lun ∷ page ∷ []) ++ big_bytes 2 (length (page_body n lun page)) ++ page_body n lun page
        else [])
    by true e =
        let code = listed_byte (vpd_pages lun) page (pages_told lun).1 e in
        let size : ℕ = length (page_body n lun page) in
        let rest : List ℕ = big_bytes 2 size ++ page_body n lun page in (
          omega (arith, body.0),
          bytes-cons (device_type lun) (page ∷ rest) type_told
              (bytes-cons page rest code (number_then 2 size (page_body n lun page) body.1)),
        )
    by false e = (omega arith, bytes-nil)

-- ## Mode pages

values_told : (control page : ℕ) → AreFew 20 (mode_values control page)
values_told control page =
    if_both (AreFew 20) (control == 1)
    (if_both (AreFew 20) (page == 0x01) (omega arith, seen_bytes (0x01 ∷ 0x0A ∷ zeros 10) refl)
    (if_both (AreFew 20) (page == 0x08) (omega arith, seen_bytes (0x08 ∷ 0x12 ∷ zeros 18) refl)
    (omega arith, seen_bytes (0x0A ∷ 0x0A ∷ zeros 10) refl)))
    (if_both (AreFew 20) (page == 0x01) (omega arith, seen_bytes (0x01 ∷ 0x0A ∷ 0x80 ∷ zeros 9) refl)
    (if_both (AreFew 20) (page == 0x08) (omega arith, seen_bytes (0x08 ∷ 0x12 ∷ 0x04 ∷ zeros 17) refl)
    (omega arith, seen_bytes (mode_page 0x0A) refl)))

pub modes_few : (select : ℕ) → AreFew 60 (modes_bytes select)
modes_few select =
    if_both (AreFew 60) (mode_page_of select == all_modes) (three (page_control select))
    (let one = values_told (page_control select) (mode_page_of select) in (omega (arith, one.0), one.1))
  where
    three : (control : ℕ) →
        AreFew 60 (mode_values control 0x01 ++ mode_values control 0x08 ++ mode_values control 0x0A)
    three control =
        let a = values_told control 0x01 in
        let b = values_told control 0x08 in
        let c = values_told control 0x0A in
        let two : List ℕ = mode_values control 0x01 ++ mode_values control 0x08 in
        let all = length-append two (mode_values control 0x0A) in
        let some = length-append (mode_values control 0x01) (mode_values control 0x08) in (
          omega (arith, a.0, b.0, c.0, all, some),
          bytes-append two (mode_values control 0x0A)
              (bytes-append (mode_values control 0x01) (mode_values control 0x08) a.1 b.1) c.1,
        )

parameter_told : (guarded : Bool) → device_parameter guarded < 256
parameter_told true = omega arith
parameter_told false = omega arith

pub long_modes : (select : ℕ) (guarded : Bool) →
    (length (modes_told select guarded) ≡ 8 + length (modes_bytes select)) × AreFew 68 (modes_told select guarded)
long_modes select guarded =
    let pages = modes_few select in
    let rest : List ℕ = zeros 4 ++ modes_bytes select in (
      omega arith,
      (
        omega (arith, pages.0),
        number_then 2 (6 + length (modes_bytes select)) (0 ∷ device_parameter guarded ∷ rest)
            (bytes-cons 0 (device_parameter guarded ∷ rest) (omega arith)
            (bytes-cons (device_parameter guarded) rest (parameter_told guarded)
            (bytes-append (zeros 4) (modes_bytes select) (bytes-zeros 4) pages.1))),
      ),
    )

pub short_modes : (select : ℕ) (guarded : Bool) →
    (length (short_modes_told select guarded) ≡ 4 + length (modes_bytes select))
    × AreFew 64 (short_modes_told select guarded)
short_modes select guarded =
    let pages = modes_few select in
    let rest : List ℕ = 0 ∷ modes_bytes select in (
      omega arith,
      (
        omega (arith, pages.0),
        bytes-cons (3 + length (modes_bytes select)) (0 ∷ device_parameter guarded ∷ rest) (omega (arith, pages.0))
            (bytes-cons 0 (device_parameter guarded ∷ rest) (omega arith)
            (bytes-cons (device_parameter guarded) rest (parameter_told guarded)
            (bytes-cons 0 (modes_bytes select) (omega arith) pages.1))),
      ),
    )

-- ## Commands

-- few bytes, as it is seen of them
abbrev are_few : List ℕ → Bool
are_few bytes = nat_lt (length bytes) 465 && list_all (λ x. nat_lt x 256) bytes

few_seen : (bytes : List ℕ) → are_few bytes ≡ true → AreFew 464 bytes
few_seen bytes e =
    let parts = and_parts (nat_lt (length bytes) 465) (list_all (λ x. nat_lt x 256) bytes) e in
    let short = ltb-true (length bytes) 465 parts.0 in
    (omega (arith, short), seen_bytes bytes parts.1)

all_told : (timed : Bool) → AreFew 464 (all_commands timed)
all_told true = few_seen (all_commands true) refl
all_told false = few_seen (all_commands false) refl

-- of each row that there may be
each_told : (timed : Bool) → list_all (λ (row : Row). are_few (one_command timed (Some row))) unit_commands ≡ true
each_told true = refl
each_told false = refl

none_told : (timed : Bool) → AreFew 464 (one_command timed None)
none_told true = few_seen (one_command true None) refl
none_told false = few_seen (one_command false None) refl

one_told : (timed : Bool) (select : ℕ) (o : Option Row) → find (is_asked select) unit_commands ≡ o →
    AreFew 464 (one_command timed o)
one_told timed select None e = none_told timed
one_told timed select (Some row) e =
    few_seen (one_command timed (Some row))
    (found_holds (is_asked select) (λ (r : Row). are_few (one_command timed (Some r))) unit_commands row
    (each_told timed) e)

pub commands_told : (select : ℕ) → AreFew 464 (operations_told select)
commands_told select =
    if_both (AreFew 464) (reporting_of select == 0) (all_told (wants_timeouts select))
    (one_told (wants_timeouts select) select (find (is_asked select) unit_commands) refl)
