-- How long it is what a unit tells, so that it fits a block.
use Rattle.std.proofs.Common.{◌≡◌, ℕ, ◌+◌, ◌==◌, ◌&&◌, ◌<◌, ◌≤◌, Bool, true, false, cond, List, [], ◌++◌, ◌∷◌, length}
use Rattle.std.proofs.Common.{arith, inl, inr, nat_lt, refl, Option, Some, None}
use Rattle.std.proofs.lemmas.Bool.{and_parts, eqb-true, false≢true, ltb-true, or_cases}
use Rattle.std.specs.List.{list_all}
use Rattle.std.proofs.lemmas.List.{length-append}
use Rattle.byteorder.specs.Endian.{big_bytes}
use Rattle.hex.proofs.HexLemmas.{length-encode_with}
use Rattle.hex.specs.Hex.{encode_lower, lower_digits}
use Rattle.ufs_spec.specs.CdbFields.{all_modes, mode_page_of, page_control}
use Rattle.ufs_spec.specs.Configs.{command_blocks}
use Rattle.ufs_spec.specs.Identities.{designator, limits, long_capacity_bytes, mode_mask, mode_page, mode_values}
use Rattle.ufs_spec.specs.Identities.{modes_bytes, modes_told, page_body, page_bytes, short_modes_told, vpd_pages}
use Rattle.ufs_spec.specs.Messages.{is_among, zeros}
use Rattle.ufs_spec.specs.declared.configs.Numbers.{Numbers}
use Rattle.ufs_spec.specs.declared.configs.UnitSpec.{UnitSpec}
use Rattle.lun_route.specs.Pages.{characteristics, known_page, mode_policy, provisioning}

-- one of two lists that are no longer than this
chosen : (b : Bool) (xs ys : List ℕ) (most : ℕ) → length xs ≤ most → length ys ≤ most → length (cond b xs ys) ≤ most
chosen true xs ys most h k = h
chosen false xs ys most h k = k

-- ## READ CAPACITY(16)

pub long_capacity_length : (o : Option UnitSpec) → length (long_capacity_bytes o) ≡ 32
long_capacity_length None = refl
long_capacity_length (Some u) = refl

-- ## Pages of vital product data

supported : (b : Bool) →
    length {A = ℕ} ((0x00 ∷ 0x80 ∷ 0x83 ∷ 0x87 ∷ []) ++ cond b (0xB0 ∷ 0xB1 ∷ 0xB2 ∷ []) []) ≤ 60
supported true = omega arith
supported false = omega arith

digits_length : (serial : ℕ) → length (encode_lower (big_bytes 8 serial)) ≡ 16
digits_length serial = length-encode_with lower_digits (big_bytes 8 serial)

body_few : (n : Numbers) (lun page : ℕ) → length (page_body n lun page) ≤ 60
body_few n lun page =
    let digits = digits_length n.serial in
    chosen (page == 0x00) (vpd_pages lun) _ 60 (supported (nat_lt lun 8))
    (chosen (page == 0x80) (encode_lower (big_bytes 8 n.serial)) _ 60 (omega (arith, digits))
    (chosen (page == 0x83) (designator n.serial lun) _ 60 (omega arith)
    (chosen (page == 0x87) mode_policy _ 60 (omega arith)
    (chosen (page == 0xB0) (limits (command_blocks n)) _ 60 (omega arith)
    (chosen (page == 0xB1) characteristics provisioning 60 (omega arith) (omega arith))))))

pub known_length : (n : Numbers) (lun page : ℕ) → length (known_page n lun page) ≡ 4 + length (page_body n lun page)
known_length n lun page = omega arith

known_few : (n : Numbers) (lun page : ℕ) → length (known_page n lun page) ≤ 64
known_few n lun page =
    let body = body_few n lun page in
    let all = known_length n lun page in
    omega (arith, body, all)

pub page_few : (n : Numbers) (lun page : ℕ) → length (page_bytes n lun page) ≤ 64
page_few n lun page =
    chosen (is_among (vpd_pages lun) page) (known_page n lun page) [] 64 (known_few n lun page) (omega arith)

pub page_fits : (n : Numbers) (lun page : ℕ) → length (page_bytes n lun page) ≤ 4096
page_fits n lun page = let few = page_few n lun page in omega (arith, few)

-- the number of a page is a byte
among_bytes : (xs : List ℕ) (page : ℕ) → list_all (λ x. nat_lt x 256) xs ≡ true → is_among xs page ≡ true → page < 256
among_bytes [] page all h = absurd (false≢true h)
among_bytes (x ∷ xs) page all h =
    let parts = and_parts (nat_lt x 256) (list_all (λ y. nat_lt y 256) xs) all in
    elim (or_cases (page == x) (is_among xs page) h) [
      | inl here ↦
          let small = ltb-true x 256 parts.0 in
          let same = eqb-true page x here in
          omega (arith, small, same)
      | inr there ↦ among_bytes xs page parts.1 there
    ]

are_bytes : (b : Bool) →
    list_all (λ x. nat_lt x 256) ((0x00 ∷ 0x80 ∷ 0x83 ∷ 0x87 ∷ []) ++ cond b (0xB0 ∷ 0xB1 ∷ 0xB2 ∷ []) []) ≡ true
are_bytes true = refl
are_bytes false = refl

pub page_is_byte : (lun page : ℕ) → is_among (vpd_pages lun) page ≡ true → page < 256
page_is_byte lun page h = among_bytes (vpd_pages lun) page (are_bytes (nat_lt lun 8)) h

-- ## Mode pages

-- the changeable values of a page are as many as its own
same_length : (b : Bool) (xs ys : List ℕ) (n : ℕ) → length xs ≡ n → length ys ≡ n → length (cond b xs ys) ≡ n
same_length true xs ys n h k = h
same_length false xs ys n h k = k

recovery_length : (control : ℕ) → length (mode_values control 0x01) ≡ 12
recovery_length control = same_length (control == 1) (mode_mask 0x01) (mode_page 0x01) 12 refl refl

caching_length : (control : ℕ) → length (mode_values control 0x08) ≡ 20
caching_length control = same_length (control == 1) (mode_mask 0x08) (mode_page 0x08) 20 refl refl

control_length : (control : ℕ) → length (mode_values control 0x0A) ≡ 12
control_length control = same_length (control == 1) (mode_mask 0x0A) (mode_page 0x0A) 12 refl refl

three : (xs ys zs : List ℕ) → length xs ≡ 12 → length ys ≡ 20 → length zs ≡ 12 → length (xs ++ ys ++ zs) ≡ 44
three xs ys zs first second third =
    let both = length-append xs ys in
    let all = length-append (xs ++ ys) zs in
    omega (arith, first, second, third, both, all)

all_length : (control : ℕ) →
    length (mode_values control 0x01 ++ mode_values control 0x08 ++ mode_values control 0x0A) ≡ 44
all_length control =
    three (mode_values control 0x01) (mode_values control 0x08) (mode_values control 0x0A) (recovery_length control)
    (caching_length control) (control_length control)

mask_few : (page : ℕ) → length (mode_mask page) ≤ 44
mask_few page =
    chosen (page == 0x01) (0x01 ∷ 0x0A ∷ zeros 10) _ 44 (omega arith)
    (chosen (page == 0x08) (0x08 ∷ 0x12 ∷ zeros 18) (0x0A ∷ 0x0A ∷ zeros 10) 44 (omega arith) (omega arith))

own_few : (page : ℕ) → length (mode_page page) ≤ 44
own_few page =
    chosen (page == 0x01) (0x01 ∷ 0x0A ∷ 0x80 ∷ zeros 9) _ 44 (omega arith)
    (chosen (page == 0x08) (0x08 ∷ 0x12 ∷ 0x04 ∷ zeros 17) _ 44 (omega arith) (omega arith))

values_few : (control page : ℕ) → length (mode_values control page) ≤ 44
values_few control page = chosen (control == 1) (mode_mask page) (mode_page page) 44 (mask_few page) (own_few page)

pub modes_few : (select : ℕ) → length (modes_bytes select) ≤ 44
modes_few select =
    let control = page_control select in
    let all = all_length control in
    chosen (mode_page_of select == all_modes)
    (mode_values control 0x01 ++ mode_values control 0x08 ++ mode_values control 0x0A)
    (mode_values control (mode_page_of select)) 44 (omega (arith, all)) (values_few control (mode_page_of select))

pub modes_length : (select : ℕ) (guarded : Bool) → length (modes_told select guarded) ≡ 8 + length (modes_bytes select)
modes_length select guarded = omega arith

pub modes_fit : (select : ℕ) (guarded : Bool) → length (modes_told select guarded) ≤ 4096
modes_fit select guarded =
    let few = modes_few select in
    let all = modes_length select guarded in
    omega (arith, few, all)

pub short_modes_length : (select : ℕ) (guarded : Bool) →
    length (short_modes_told select guarded) ≡ 4 + length (modes_bytes select)
short_modes_length select guarded = omega arith

pub short_modes_fit : (select : ℕ) (guarded : Bool) → length (short_modes_told select guarded) ≤ 4096
short_modes_fit select guarded =
    let few = modes_few select in
    let all = short_modes_length select guarded in
    omega (arith, few, all)
