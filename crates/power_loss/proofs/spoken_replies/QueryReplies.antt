-- The replies to queries are messages.
use Rattle.power_loss.proofs.Common.{All, AllByRecursion, Bool, List, None, Numbers, Option, Plain, Some, [], arith}
use Rattle.power_loss.proofs.Common.{eqb-true, false, get_or_from_slice_get, if_both, inl, inr, length, list_any, min}
use Rattle.power_loss.proofs.Common.{not, refl, replicate, slice_get_within, subst, suc, take, true, zero, ℕ, ⊎_elim, ◌++◌}
use Rattle.power_loss.proofs.Common.{◌*◌, ◌+◌, ◌<◌, ◌==◌, ◌^◌, ◌||◌, ◌∷◌, ◌≡◌, ◌≤◌, ◌⊎◌}
use Rattle.power_loss.proofs.MachineWords.{AreBytes, State, UnitSpec, numbers_of, plain_now}
use Rattle.std.specs.Prelude.{if◌then◌else◌, slice_get}
use Rattle.byteorder.specs.Endian.{big_bytes}
use Rattle.std.proofs.lemmas.List.{length-take}
use Rattle.ufs_laws.proofs.pages.ByteLists.{bytes-append, bytes-cons, bytes-nil, bytes-number, bytes-take, bytes-zeros}
use Rattle.ufs_laws.proofs.walk.Happenings.{code_of_query}
use Rattle.ufs_spec.specs.Configs.{UnitInRange, unit_blocks}
use Rattle.ufs_spec.specs.Descriptors.{absent_unit_descriptor, boots, configuration_descriptor, descriptor}
use Rattle.ufs_spec.specs.Descriptors.{device_descriptor, geometry_descriptor, has_boot, long_device_descriptor}
use Rattle.ufs_spec.specs.Descriptors.{interconnect_descriptor, power_descriptor}
use Rattle.ufs_spec.specs.Descriptors.{rpmb_blocks, rpmb_descriptor, rpmb_unit, short_device_descriptor}
use Rattle.ufs_spec.specs.Descriptors.{string_descriptor, string_of, unit_configuration_at, unit_descriptor}
use Rattle.ufs_spec.specs.Descriptors.{unit_descriptor_at, wide}
use Rattle.ufs_spec.specs.Identities.{product_name, revision, vendor_name}
use Rattle.ufs_spec.specs.Keys.{below, flag_byte}
use Rattle.ufs_spec.specs.Queries.{Query, QueryLine, attribute_told, descriptor_told, first_code, flag_told}
use Rattle.ufs_spec.specs.Queries.{has_wrong_idn, has_wrong_index, has_wrong_opcode, has_wrong_selector}
use Rattle.ufs_spec.specs.Queries.{has_wrong_size, has_wrong_value, is_not_readable, is_not_writable, is_shut}
use Rattle.ufs_spec.specs.Queries.{query_line, value_told, was_written}
use Rattle.ufs_spec.specs.Messages.{IsByte, IsMessage, IsQueryFunction, is_among}
use Rattle.ufs_spec.specs.QueryAnswers.{may_set, query_done, query_failed}
use Rattle.ufs_spec.specs.declared.messages.Asked.{Asked}
use Rattle.ufs_laws.proofs.pages.SettingsBodies.{flag_fits}
use Rattle.ufs_laws.proofs.exchanges.ListedUnits.{seen_bytes}
use Rattle.ufs_laws.proofs.exchanges.ToldPages.{digits_told}
use Rattle.ufs_laws.specs.Replies.{VolatileFits}
use Rattle.std.specs.List.{flat_map}
use Rattle.std.proofs.lemmas.List.{length-append}
use Rattle.ufs_spec.specs.declared.volatile.Volatile.{Volatile}

-- A QUERY REQUEST

-- what is said of either is said of the one that is taken
pub byte_if : (b : Bool) (m n : ℕ) → IsByte m → IsByte n → IsByte (if b then m else n)
byte_if true m n h k = h
byte_if false m n h k = k

-- the numbers of a device of this configuration are small
abbrev pub FewUnits : Numbers → Type 0
FewUnits n = (length n.units.items ≤ 8) × All UnitInRange n.units.items

short_device_is : (n : Numbers) → FewUnits n → AreBytes (short_device_descriptor n)
short_device_is n few =
    let units = few.0 in
    let boots_is = flag_fits (list_any boots n.units.items) in
    bytes-append
    ((0x40 ∷ 0 ∷ 0 ∷ 0 ∷ 0 ∷ 0 ∷ length n.units.items ∷ 0x04 ∷ flag_byte (list_any boots n.units.items) ∷ 0x01 ∷ [])
    ++ (0 ∷ 0 ∷ 0 ∷ 0x01 ∷ 0 ∷ 0 ∷ 0x02 ∷ 0x10 ∷ [])) (replicate 46 0)
    (bytes-append
    (0x40 ∷ 0 ∷ 0 ∷ 0 ∷ 0 ∷ 0 ∷ length n.units.items ∷ 0x04 ∷ flag_byte (list_any boots n.units.items) ∷ 0x01 ∷ [])
    (0 ∷ 0 ∷ 0 ∷ 0x01 ∷ 0 ∷ 0 ∷ 0x02 ∷ 0x10 ∷ [])
    (bytes-append (0x40 ∷ 0 ∷ 0 ∷ 0 ∷ 0 ∷ 0 ∷ [])
    (length n.units.items ∷ 0x04 ∷ flag_byte (list_any boots n.units.items) ∷ 0x01 ∷ [])
    (seen_bytes (0x40 ∷ 0 ∷ 0 ∷ 0 ∷ 0 ∷ 0 ∷ []) refl)
    (bytes-cons (length n.units.items) (0x04 ∷ flag_byte (list_any boots n.units.items) ∷ 0x01 ∷ []) (omega arith)
    (bytes-cons 0x04 (flag_byte (list_any boots n.units.items) ∷ 0x01 ∷ []) (omega arith)
    (bytes-cons (flag_byte (list_any boots n.units.items)) (0x01 ∷ []) boots_is (seen_bytes (0x01 ∷ []) refl)))))
    (seen_bytes (0 ∷ 0 ∷ 0 ∷ 0x01 ∷ 0 ∷ 0 ∷ 0x02 ∷ 0x10 ∷ []) refl))
    (bytes-zeros 46)

long_device_is : (n : Numbers) → FewUnits n → AreBytes (long_device_descriptor n)
long_device_is n few =
    let units = few.0 in
    let boots_is = flag_fits (has_boot n) in
    let boots_not = flag_fits (not (has_boot n)) in
    let last : List ℕ =
    (0x01 ∷ 0x01 ∷ 0x7F ∷ 0 ∷ 0x01 ∷ 0x01 ∷ 0 ∷ 0x02 ∷ 0x10 ∷ 0x11 ∷ 0x25 ∷ 0x01 ∷ 0x02 ∷ 0x03 ∷ 0x04 ∷ [])
    ++ (0 ∷ 0 ∷ 0x10 ∷ 0x10 ∷ 0x20 ∷ 0 ∷ 0 ∷ 0 ∷ 0 ∷ 0x20 ∷ 0 ∷ 0x01 ∷ []) ++ replicate 6 0 ++ 0x05 ∷ replicate 21 0 in
    let booting : List ℕ = 0x04 ∷ flag_byte (has_boot n) ∷ last in
    let counted : List ℕ = 0 ∷ length n.units.items ∷ booting in
    bytes-append (0x40 ∷ 0 ∷ 0 ∷ 0 ∷ []) (flag_byte (not (has_boot n)) ∷ counted) (seen_bytes (0x40 ∷ 0 ∷ 0 ∷ 0 ∷ []) refl)
    (bytes-cons (flag_byte (not (has_boot n))) counted boots_not
    (bytes-cons 0 (length n.units.items ∷ booting) (omega arith)
    (bytes-cons (length n.units.items) booting (omega arith)
    (bytes-cons 0x04 (flag_byte (has_boot n) ∷ last) (omega arith)
    (bytes-cons (flag_byte (has_boot n)) last boots_is (seen_bytes last refl))))))

geometry_is : (n : Numbers) → AreBytes (geometry_descriptor n)
geometry_is n =
    let last : List ℕ =
    (0 ∷ []) ++ big_bytes 4 8
    ++ (0x01 ∷ 0x08 ∷ 0x08 ∷ 0x08 ∷ 0x08 ∷ 0x08 ∷ 0x08 ∷ 0 ∷ 0 ∷ 0x05 ∷ 0 ∷ 0 ∷ 0x01 ∷ 0x80 ∷ 0x01 ∷ []) ++ replicate 40 0 in
    bytes-append (0x48 ∷ 0x07 ∷ 0 ∷ 0 ∷ []) (big_bytes 8 (8 * unit_blocks n) ++ last)
    (seen_bytes (0x48 ∷ 0x07 ∷ 0 ∷ 0 ∷ []) refl)
    (bytes-append (big_bytes 8 (8 * unit_blocks n)) last (bytes-number 8 (8 * unit_blocks n)) (seen_bytes last refl))

unit_is : (index : ℕ) (u : UnitSpec) → index < 256 → UnitInRange u → AreBytes (unit_descriptor index u)
unit_is index u few r =
    let boot = r.boot_bound in
    let protect = r.protect_bound in
    bytes-append
    ((0x23 ∷ 0x02 ∷ index ∷ 0x01 ∷ u.boot ∷ u.protect ∷ 0 ∷ 0 ∷ 0 ∷ 0x01 ∷ 0x0C ∷ []) ++ big_bytes 8 u.blocks
    ++ big_bytes 4 1 ++ (0x03 ∷ []) ++ big_bytes 8 u.blocks) (replicate 3 0)
    (bytes-append
    ((0x23 ∷ 0x02 ∷ index ∷ 0x01 ∷ u.boot ∷ u.protect ∷ 0 ∷ 0 ∷ 0 ∷ 0x01 ∷ 0x0C ∷ []) ++ big_bytes 8 u.blocks
    ++ big_bytes 4 1 ++ (0x03 ∷ [])) (big_bytes 8 u.blocks)
    (bytes-append
    ((0x23 ∷ 0x02 ∷ index ∷ 0x01 ∷ u.boot ∷ u.protect ∷ 0 ∷ 0 ∷ 0 ∷ 0x01 ∷ 0x0C ∷ []) ++ big_bytes 8 u.blocks
    ++ big_bytes 4 1) (0x03 ∷ [])
    (bytes-append
    ((0x23 ∷ 0x02 ∷ index ∷ 0x01 ∷ u.boot ∷ u.protect ∷ 0 ∷ 0 ∷ 0 ∷ 0x01 ∷ 0x0C ∷ []) ++ big_bytes 8 u.blocks)
    (big_bytes 4 1)
    (bytes-append (0x23 ∷ 0x02 ∷ index ∷ 0x01 ∷ u.boot ∷ u.protect ∷ 0 ∷ 0 ∷ 0 ∷ 0x01 ∷ 0x0C ∷ [])
    (big_bytes 8 u.blocks)
    (bytes-cons 0x23 (0x02 ∷ index ∷ 0x01 ∷ u.boot ∷ u.protect ∷ 0 ∷ 0 ∷ 0 ∷ 0x01 ∷ 0x0C ∷ []) (omega arith)
    (bytes-cons 0x02 (index ∷ 0x01 ∷ u.boot ∷ u.protect ∷ 0 ∷ 0 ∷ 0 ∷ 0x01 ∷ 0x0C ∷ []) (omega arith)
    (bytes-cons index (0x01 ∷ u.boot ∷ u.protect ∷ 0 ∷ 0 ∷ 0 ∷ 0x01 ∷ 0x0C ∷ []) few
    (bytes-cons 0x01 (u.boot ∷ u.protect ∷ 0 ∷ 0 ∷ 0 ∷ 0x01 ∷ 0x0C ∷ []) (omega arith)
    (bytes-cons u.boot (u.protect ∷ 0 ∷ 0 ∷ 0 ∷ 0x01 ∷ 0x0C ∷ []) (omega arith)
    (bytes-cons u.protect (0 ∷ 0 ∷ 0 ∷ 0x01 ∷ 0x0C ∷ []) (omega arith)
    (seen_bytes (0 ∷ 0 ∷ 0 ∷ 0x01 ∷ 0x0C ∷ []) refl)))))))
    (bytes-number 8 u.blocks)) (bytes-number 4 1)) (seen_bytes (0x03 ∷ []) refl)) (bytes-number 8 u.blocks))
    (bytes-zeros 3)

absent_is : (index : ℕ) → index < 256 → AreBytes (absent_unit_descriptor index)
absent_is index few =
    let last : List ℕ =
    (0x00 ∷ 0 ∷ 0 ∷ 0 ∷ 0 ∷ 0 ∷ 0x01 ∷ 0x0C ∷ []) ++ big_bytes 8 0 ++ big_bytes 4 1 ++ (0x03 ∷ []) ++ big_bytes 8 0
    ++ replicate 3 0 in
    bytes-cons 0x23 (0x02 ∷ index ∷ last) (omega arith)
    (bytes-cons 0x02 (index ∷ last) (omega arith) (bytes-cons index last few (seen_bytes last refl)))

rpmb_is : (n : Numbers) → AreBytes (rpmb_descriptor n)
rpmb_is n =
    let first : List ℕ = 0x23 ∷ 0x02 ∷ 0xC4 ∷ 0x01 ∷ 0 ∷ 0 ∷ 0x01 ∷ 0 ∷ 0x0F ∷ 0 ∷ 0x08 ∷ [] in
    let count : List ℕ = big_bytes 8 (rpmb_blocks n) in
    bytes-append first (count ++ replicate 5 0 ++ count ++ replicate 3 0) (seen_bytes first refl)
    (bytes-append count (replicate 5 0 ++ count ++ replicate 3 0) (bytes-number 8 (rpmb_blocks n))
    (bytes-append (replicate 5 0) (count ++ replicate 3 0) (bytes-zeros 5)
    (bytes-append count (replicate 3 0) (bytes-number 8 (rpmb_blocks n)) (bytes-zeros 3))))

-- what the configuration says of a unit that is there, or is not
one_configured : (o : Option UnitSpec) → ((u : UnitSpec) → o ≡ Some u → UnitInRange u) →
    AreBytes (unit_configuration_at o) × (length (unit_configuration_at o) ≡ 16)
one_configured None r = (bytes-zeros 16, refl)
one_configured (Some u) r =
    let is = r u refl in
    let boot = is.boot_bound in
    let protect = is.protect_bound in
    let last : List ℕ = (0x01 ∷ 0x0C ∷ 0x03 ∷ []) ++ replicate 5 0 in (
      bytes-append (0x01 ∷ u.boot ∷ u.protect ∷ 0 ∷ []) (big_bytes 4 u.blocks ++ last)
          (bytes-cons 0x01 (u.boot ∷ u.protect ∷ 0 ∷ []) (omega arith)
          (bytes-cons u.boot (u.protect ∷ 0 ∷ []) (omega arith)
          (bytes-cons u.protect (0 ∷ []) (omega arith) (seen_bytes (0 ∷ []) refl))))
          (bytes-append (big_bytes 4 u.blocks) last (bytes-number 4 u.blocks) (seen_bytes last refl)),
      refl,
    )

-- and of all of them
units_configured : (n : Numbers) → FewUnits n → (numbers : List ℕ) →
    AreBytes (flat_map (λ number. unit_configuration_at (slice_get n.units.items number)) numbers)
    × (length (flat_map (λ number. unit_configuration_at (slice_get n.units.items number)) numbers)
    ≡ 16 * length numbers)
units_configured n units [] = (bytes-nil, refl)
units_configured n units (number ∷ numbers) =
    let one = one_configured (slice_get n.units.items number) (λ u e.
    subst UnitInRange (get_or_from_slice_get n.units.items number u u e)
    (units.1 number u (slice_get_within n.units.items number u e))) in
    let more = units_configured n units numbers in
    let long = length-append (unit_configuration_at (slice_get n.units.items number))
    (flat_map (λ other. unit_configuration_at (slice_get n.units.items other)) numbers) in
    let here = one.1 in
    let there = more.1 in (
      bytes-append (unit_configuration_at (slice_get n.units.items number))
          (flat_map (λ other. unit_configuration_at (slice_get n.units.items other)) numbers) one.0 more.0,
      omega arith,
    )

-- characters of one byte each are twice as many bytes
wide_is : (characters : List ℕ) → AreBytes characters →
    AreBytes (wide characters) × (length (wide characters) ≡ 2 * length characters)
wide_is [] are = (bytes-nil, refl)
wide_is (c ∷ cs) are =
    let more = wide_is cs (λ place. are (suc place)) in
    let long = more.1 in (
      bytes-cons 0 (c ∷ wide cs) (omega arith) (bytes-cons c (wide cs) (are zero) more.0),
      omega arith,
    )

-- a descriptor is bytes, and not many
abbrev AreShort : List ℕ → Type 0
AreShort bytes = (length bytes ≤ 144) × AreBytes bytes

configuration_is : (n : Numbers) → FewUnits n → AreShort (configuration_descriptor n)
configuration_is n units =
    let each = units_configured n units (below 8) in
    let long = each.1 in (
      omega arith,
      bytes-append (0x90 ∷ 0x01 ∷ 0 ∷ flag_byte (has_boot n) ∷ same)
          (flat_map (λ number. unit_configuration_at (slice_get n.units.items number)) (below 8))
          (bytes-cons 0x90 (0x01 ∷ 0 ∷ flag_byte (has_boot n) ∷ same) (omega arith)
          (bytes-cons 0x01 (0 ∷ flag_byte (has_boot n) ∷ same) (omega arith)
          (bytes-cons 0 (flag_byte (has_boot n) ∷ same) (omega arith)
          (bytes-cons (flag_byte (has_boot n)) same (flag_fits (has_boot n)) (seen_bytes same refl))))) each.0,
    )
  where
    same : List ℕ
    same = (0x01 ∷ 0x01 ∷ 0x7F ∷ []) ++ replicate 9 0

-- a string has few characters
characters_are : (n : Numbers) (index : ℕ) → (length (string_of n index) ≤ 16) × AreBytes (string_of n index)
characters_are n index =
    let serial = digits_told (big_bytes 8 n.serial) in
    let long = serial.0 in
    if_both Fits (index == 2) (omega arith, seen_bytes product_name refl)
    (if_both Fits (index == 3) (omega arith, serial.1)
    (if_both Fits (index == 5) (omega arith, seen_bytes revision refl) (omega arith, seen_bytes vendor_name refl)))
  where
    Fits : List ℕ → Type 0
    Fits characters = (length characters ≤ 16) × AreBytes characters

string_is : (n : Numbers) (index : ℕ) → AreShort (string_descriptor n index)
string_is n index =
    let characters = characters_are n index in
    let few = characters.0 in
    let sent = wide_is (string_of n index) characters.1 in
    let long = sent.1 in (
      omega arith,
      bytes-cons (2 + 2 * length (string_of n index)) (0x05 ∷ wide (string_of n index)) (omega arith)
          (bytes-cons 0x05 (wide (string_of n index)) (omega arith) sent.0),
    )

device_is : (n : Numbers) → FewUnits n → AreShort (device_descriptor n)
device_is n units =
    if_both AreShort (n.profile == 0) (omega arith, short_device_is n units) (omega arith, long_device_is n units)

descriptor_is : (n : Numbers) (a : Asked) → a.index < 256 → FewUnits n → AreShort (descriptor n a)
descriptor_is n a few units =
    if_both AreShort (a.idn == 0x00) (device_is n units)
    (if_both AreShort (a.idn == 0x01) (configuration_is n units)
    (if_both AreShort (a.idn == 0x04) (omega arith, seen_bytes interconnect_descriptor refl)
    (if_both AreShort (a.idn == 0x05) (string_is n a.index)
    (if_both AreShort (a.idn == 0x07) (omega arith, geometry_is n)
    (if_both AreShort (a.idn == 0x08) (omega arith, seen_bytes power_descriptor refl)
    (if_both AreShort (a.index == rpmb_unit) (omega arith, rpmb_is n) (by (slice_get n.units.items a.index) refl)))))))
  where
    by : (o : Option UnitSpec) → slice_get n.units.items a.index ≡ o → AreShort (unit_descriptor_at a.index o)
    by None e = (omega arith, absent_is a.index few)
    by (Some u) e = (
      omega arith,
      unit_is a.index u few (subst UnitInRange (get_or_from_slice_get n.units.items a.index u u e)
          (units.1 a.index u (slice_get_within n.units.items a.index u e))),
    )

-- what is told of it
told_is : (n : Numbers) (q : Query) → q.asked.index < 256 → FewUnits n →
    AreShort (descriptor_told n q) × ((q.asked.opcode ≡ 1) ⊎ (descriptor_told n q ≡ []))
told_is n q few units = by (q.asked.opcode == 1) refl
  where
    by : (b : Bool) → (q.asked.opcode == 1) ≡ b →
        AreShort (if b then take q.length (descriptor n q.asked) else [])
        × ((q.asked.opcode ≡ 1) ⊎ ((if b then take q.length (descriptor n q.asked) else []) ≡ []))
    by true e =
        let all = descriptor_is n q.asked few units in
        let cut = length-take q.length (descriptor n q.asked) in
        let long = all.0 in
        let least : min q.length (length (descriptor n q.asked)) ≤ 144 = grind arith in (
          (omega (arith, cut, least), bytes-take q.length (descriptor n q.asked) all.1),
          inl (eqb-true q.asked.opcode 1 e),
        )
    by false e = ((omega arith, bytes-nil), inr refl)

-- a value fits four bytes
abbrev IsWord : ℕ → Type 0
IsWord value = value < 2 ^ 32

attribute_is : (p : Plain) (volatile : Volatile) (idn : ℕ) → p.boot ≤ 2 → VolatileFits volatile →
    IsWord (attribute_told p volatile idn)
attribute_is p volatile idn few fits =
    if_both IsWord (idn == 0x00) (omega arith)
    (if_both IsWord (idn == 0x02) (omega arith)
    (if_both IsWord (idn == 0x03) fits.level
    (if_both IsWord ((idn == 0x07) || (idn == 0x08)) (omega arith)
    (if_both IsWord (idn == 0x0A) fits.clock (if_both IsWord (idn == 0x0B) (omega arith) (omega arith))))))

flag_is : (p : Plain) (volatile : Volatile) (idn : ℕ) → IsWord (flag_told p volatile idn)
flag_is p volatile idn =
    if_both IsWord (idn == 0x01) (small volatile.initializing)
    (if_both IsWord (idn == 0x02) (small p.permanent)
    (if_both IsWord (idn == 0x03) (small volatile.power_on)
    (if_both IsWord (idn == 0x04) (small volatile.background) (omega arith))))
  where
    small : (b : Bool) → IsWord (flag_byte b)
    small b = let f = flag_fits b in omega arith

value_is : (p : Plain) (volatile : Volatile) (q : Query) → p.boot ≤ 2 → VolatileFits volatile →
    IsWord (value_told p volatile q)
value_is p volatile q few fits =
    if_both IsWord (is_among (3 ∷ 4 ∷ []) q.asked.opcode) (attribute_is p volatile q.asked.idn few fits)
    (if_both IsWord (is_among (5 ∷ 6 ∷ 7 ∷ 8 ∷ []) q.asked.opcode) (flag_is p volatile q.asked.idn) (omega arith))

-- a QUERY REQUEST in its ranges
pub record IsAskedWell (tag : ℕ) (q : Query) : Type 0 where
  pub tag_is : IsByte tag
  pub function_is : IsQueryFunction q.function
  pub opcode : IsByte q.asked.opcode
  pub idn : IsByte q.asked.idn
  pub index : IsByte q.asked.index
  pub selector : IsByte q.asked.selector
  pub value : q.value < 2 ^ 32

pub failed_is : (tag : ℕ) (q : Query) (code : ℕ) → IsAskedWell tag q → IsByte code → IsMessage (query_failed tag q code)
failed_is tag q code h is = (
  h.tag_is,
  h.function_is,
  is,
  (h.opcode, h.idn, h.index, h.selector, omega arith, omega arith),
  omega arith,
  bytes-nil,
  inr refl,
)

pub done_is : (n : Numbers) (p : Plain) (volatile : Volatile) (tag : ℕ) (q : Query) → IsAskedWell tag q → FewUnits n →
    p.boot ≤ 2 → VolatileFits volatile → IsMessage (query_done n p volatile tag q)
done_is n p volatile tag q h units few fits =
    let told = told_is n q h.index units in
    let long = told.0.0 in (
      h.tag_is,
      h.function_is,
      omega arith,
      (h.opcode, h.idn, h.index, h.selector, omega arith, value_is p volatile q few fits),
      omega arith,
      told.0.1,
      ⊎_elim (λ e. inl (e, refl)) (λ e. inr e) told.1,
    )

abbrev AreCodes : List QueryLine → Type 0
AreCodes = AllByRecursion (λ (l : QueryLine). IsByte l.code)

code_byte : (ls : List QueryLine) → AreCodes ls → IsByte (first_code ls)
code_byte [] all = omega arith
code_byte (l ∷ ls) all = if_both IsByte l.applies all.0 (code_byte ls all.1)

pub code_is : (s : State) (q : Query) → IsByte (code_of_query s q)
code_is s q =
    code_byte
    (query_line (has_wrong_opcode q) 0xFE
    ∷ query_line (q.asked.opcode == 0) 0x00
    ∷ query_line (has_wrong_idn (numbers_of s) q) 0xFD
    ∷ query_line (has_wrong_index (numbers_of s) q) 0xFC
    ∷ query_line (has_wrong_selector (numbers_of s) q) 0xFB
    ∷ query_line (is_not_readable (numbers_of s) q) 0xF6
    ∷ query_line (is_not_writable (numbers_of s) q) 0xF7
    ∷ query_line (has_wrong_size q) 0xF9
    ∷ query_line (has_wrong_value (numbers_of s) q) 0xFA
    ∷ query_line (was_written (plain_now s) q) 0xF8
    ∷ query_line (is_shut (may_set s) q) 0xFF
    ∷ []) (
      omega arith,
      (
        omega arith,
        (
          omega arith,
          (
            omega arith,
            (
              omega arith,
              (
                omega arith,
                (
                  omega arith,
                  (
                    omega arith,
                    (omega arith, (omega arith, (omega arith, tt))),
                  ),
                ),
              ),
            ),
          ),
        ),
      ),
    )
