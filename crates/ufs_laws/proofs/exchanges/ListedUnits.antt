-- What INQUIRY, REQUEST SENSE and REPORT LUNS tell are bytes, and not many.
use Rattle.ufs_laws.proofs.Common.{AreBytes, List, Numbers, [], and_parts, ap, arith, below, big_bytes}
use Rattle.ufs_laws.proofs.Common.{flat_map, if_both, if◌then◌else◌, length, length-append, length-map, list_all, map}
use Rattle.ufs_laws.proofs.Common.{nat_lt, refl, subst, suc, sym, true, zero, zeros, ℕ, ◌*◌, ◌++◌, ◌<◌, ◌==◌, ◌∙◌, ◌∷◌}
use Rattle.ufs_laws.proofs.Common.{◌≡◌, ◌≤◌}
use Rattle.std.proofs.lemmas.List.{map-append}
use Rattle.std.proofs.lemmas.List.Concat.{flat_map-cons}
use Rattle.ufs_laws.proofs.pages.ByteLists.{bytes-append, bytes-cons, bytes-nil, bytes-number, bytes-zeros}
use Rattle.ufs_laws.proofs.plain_contents.ListParts.{length-below}
use Rattle.ufs_spec.proofs.Facts.{ltb-true}
use Rattle.ufs_spec.specs.Begins.{sense_at, sense_told, type_told}
use Rattle.ufs_spec.specs.Cdbs.{fixed_sense}
use Rattle.ufs_spec.specs.Identities.{inquiry_bytes, luns_bytes, luns_listed, unit_entry}
use Rattle.ufs_spec.specs.Refusals.{has_attention}
use Rattle.ufs_spec.specs.declared.scsi.Sense.{Sense}
use Rattle.ufs_laws.proofs.Common.{Lun, None, Option, Request, Some, State, drop, lun_of, mended, numbers_of}
use Rattle.std.specs.Prelude.{is_some}

-- numbers that are all seen to be bytes
pub seen_bytes : (xs : List ℕ) → list_all (λ x. nat_lt x 256) xs ≡ true → AreBytes xs
seen_bytes [] e = bytes-nil
seen_bytes (x ∷ xs) e =
    let both = and_parts (nat_lt x 256) (list_all (λ y. nat_lt y 256) xs) e in
    bytes-cons x xs (ltb-true x 256 both.0) (seen_bytes xs both.1)

-- ## INQUIRY

pub inquiry_told : (type : ℕ) → type < 256 → AreBytes (inquiry_bytes type)
inquiry_told type byte = bytes-cons type (drop 1 (inquiry_bytes type)) byte (seen_bytes (drop 1 (inquiry_bytes type)) refl)

-- whatever the LUN is
pub type_byte : (s : State) (r : Request) → type_told s r < 256
type_byte s r =
    if_both (λ (type : ℕ). type < 256) (is_some (lun_of (numbers_of s) r.lun))
    (if_both (λ (type : ℕ). type < 256) (nat_lt r.lun 8) (omega arith) (omega arith)) (omega arith)

-- ## REQUEST SENSE

-- each part of the sense is a byte
abbrev AreParts : Sense → Type 0
AreParts sense = (sense.key < 256) × (sense.asc < 256) × (sense.ascq < 256)

sense_parts : (s : State) (r : Request) → AreParts (sense_told s r)
sense_parts s r =
    if_both AreParts ((numbers_of s).profile == 0) (omega arith, omega arith, omega arith)
    (at (lun_of (numbers_of s) r.lun))
  where
    at : (o : Option Lun) → AreParts (sense_at s o)
    at None = (omega arith, omega arith, omega arith)
    at (Some lun) =
        if_both AreParts (has_attention s lun) (omega arith, omega arith, omega arith)
        (if_both AreParts (mended s) (omega arith, omega arith, omega arith) (omega arith, omega arith, omega arith))

sense_bytes : (sense : Sense) → AreParts sense → AreBytes (fixed_sense sense)
sense_bytes sense (key, asc, ascq) =
    bytes-append (0x70 ∷ 0 ∷ sense.key ∷ 0 ∷ 0 ∷ 0 ∷ 0 ∷ 0x0A ∷ []) (zeros 4 ++ (sense.asc ∷ sense.ascq ∷ []) ++ zeros 4)
    (bytes-cons 0x70 (0 ∷ sense.key ∷ 0 ∷ 0 ∷ 0 ∷ 0 ∷ 0x0A ∷ []) (omega arith)
    (bytes-cons 0 (sense.key ∷ 0 ∷ 0 ∷ 0 ∷ 0 ∷ 0x0A ∷ []) (omega arith)
    (bytes-cons sense.key (0 ∷ 0 ∷ 0 ∷ 0 ∷ 0x0A ∷ []) key (seen_bytes (0 ∷ 0 ∷ 0 ∷ 0 ∷ 0x0A ∷ []) refl))))
    (bytes-append (zeros 4) ((sense.asc ∷ sense.ascq ∷ []) ++ zeros 4) (bytes-zeros 4)
    (bytes-cons sense.asc (sense.ascq ∷ zeros 4) asc (bytes-cons sense.ascq (zeros 4) ascq (bytes-zeros 4))))

pub sense_told_bytes : (s : State) (r : Request) → AreBytes (fixed_sense (sense_told s r))
sense_told_bytes s r = sense_bytes (sense_told s r) (sense_parts s r)

-- ## REPORT LUNS

-- each entry has eight bytes
abbrev Entries : List (List ℕ) → Type 0
Entries [] = Unit {0}
Entries (e ∷ es) = (length e ≡ 8) × AreBytes e × Entries es

entries_append : (xs ys : List (List ℕ)) → Entries xs → Entries ys → Entries (xs ++ ys)
entries_append [] ys h k = k
entries_append (x ∷ xs) ys h k = (h.0, h.1, entries_append xs ys h.2 k)

entry_is : (high low : ℕ) → high < 256 → low < 256 → (length (unit_entry high low) ≡ 8) × AreBytes (unit_entry high low)
entry_is high low h l = (refl, bytes-cons high (low ∷ zeros 6) h (bytes-cons low (zeros 6) l (bytes-zeros 6)))

numbered : (n : ℕ) → n ≤ 8 → Entries (map (unit_entry 0x00) (below n))
numbered zero few = tt
numbered (suc n) few =
    let e = entry_is 0x00 n (omega arith) (omega arith) in
    subst Entries (sym (map-append (unit_entry 0x00) (below n) (n ∷ [])))
    (entries_append (map (unit_entry 0x00) (below n)) (unit_entry 0x00 n ∷ []) (numbered n (omega arith))
    (e.0, e.1, tt))

well_known : Entries (map (unit_entry 0xC1) (0x01 ∷ 0x30 ∷ 0x44 ∷ 0x50 ∷ []))
well_known =
    let a = entry_is 0xC1 0x01 (omega arith) (omega arith) in
    let b = entry_is 0xC1 0x30 (omega arith) (omega arith) in
    let c = entry_is 0xC1 0x44 (omega arith) (omega arith) in
    let d = entry_is 0xC1 0x50 (omega arith) (omega arith) in
    (a.0, a.1, (b.0, b.1, (c.0, c.1, (d.0, d.1, tt))))

joined_size : (es : List (List ℕ)) → Entries es → length (flat_map (λ entry. entry) es) ≡ 8 * length es
joined_size [] h = refl
joined_size (e ∷ es) h =
    let rest = joined_size es h.2 in
    let first = h.0 in
    let both = length-append e (flat_map (λ entry. entry) es) in
    flat_size e es ∙ omega arith
  where
    flat_size : (x : List ℕ) (xs : List (List ℕ)) →
        length (flat_map (λ entry. entry) (x ∷ xs)) ≡ length (x ++ flat_map (λ entry. entry) xs)
    flat_size x xs = ap length (flat_map-cons (λ (entry : List ℕ). entry) x xs)

joined_bytes : (es : List (List ℕ)) → Entries es → AreBytes (flat_map (λ entry. entry) es)
joined_bytes [] h = bytes-nil
joined_bytes (e ∷ es) h =
    subst AreBytes (sym (flat_map-cons (λ (entry : List ℕ). entry) e es))
    (bytes-append e (flat_map (λ entry. entry) es) h.1 (joined_bytes es h.2))

listed : (n : Numbers) (select : ℕ) → length n.units.items ≤ 8 → Entries (luns_listed n select)
listed n select few =
    entries_append (if select == 1 then [] else map (unit_entry 0x00) (below (length n.units.items)))
    (if select == 0 then [] else map (unit_entry 0xC1) (0x01 ∷ 0x30 ∷ 0x44 ∷ 0x50 ∷ []))
    (if_both Entries (select == 1) tt (numbered (length n.units.items) few))
    (if_both Entries (select == 0) tt well_known)

few_listed : (n : Numbers) (select : ℕ) → length n.units.items ≤ 8 → length (luns_listed n select) ≤ 12
few_listed n select few =
    let ordinary : List (List ℕ) = (if select == 1 then [] else map (unit_entry 0x00) (below (length n.units.items))) in
    let others : List (List ℕ) =
    (if select == 0 then [] else map (unit_entry 0xC1) (0x01 ∷ 0x30 ∷ 0x44 ∷ 0x50 ∷ [])) in
    let both = length-append ordinary others in
    let count = length-map (below (length n.units.items)) (unit_entry 0x00) in
    let units = length-below (length n.units.items) in
    let first : length ordinary ≤ 8 =
    if_both (λ (xs : List (List ℕ)). length xs ≤ 8) (select == 1) (omega arith) (omega arith) in
    let second : length others ≤ 4 =
    if_both (λ (xs : List (List ℕ)). length xs ≤ 4) (select == 0) (omega arith) (omega arith) in
    omega arith

pub luns_size : (n : Numbers) (select : ℕ) → length n.units.items ≤ 8 → length (luns_bytes n select) ≤ 104
luns_size n select few =
    let list : List ℕ = flat_map (λ entry. entry) (luns_listed n select) in
    let count = few_listed n select few in
    let size = joined_size (luns_listed n select) (listed n select few) in
    let behind = length-append (zeros 4) list in
    let all = length-append (big_bytes 4 (8 * length (luns_listed n select))) (zeros 4 ++ list) in
    omega arith

pub luns_told : (n : Numbers) (select : ℕ) → length n.units.items ≤ 8 → AreBytes (luns_bytes n select)
luns_told n select few =
    bytes-append (big_bytes 4 (8 * length (luns_listed n select)))
    (zeros 4 ++ flat_map (λ entry. entry) (luns_listed n select)) (bytes-number 4 _)
    (bytes-append (zeros 4) (flat_map (λ entry. entry) (luns_listed n select)) (bytes-zeros 4)
    (joined_bytes (luns_listed n select) (listed n select few)))
