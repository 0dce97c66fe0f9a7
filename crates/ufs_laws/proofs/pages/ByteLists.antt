-- Lists of bytes, and blocks.
use Rattle.ufs_laws.proofs.Common.{AreBytes, IsBlock, List, Numbers, [], ap, area_page, arith, below, cases_lt, drop}
use Rattle.ufs_laws.proofs.Common.{flat_map, get_or-append_right, get_or-replicate, get_or-take, get_or_append_left}
use Rattle.ufs_laws.proofs.Common.{inl, inr, length, length-append, length-drop, length-replicate, length-take}
use Rattle.ufs_laws.proofs.Common.{length-take-le, refl, replicate, subst, suc, sym, take, zero, zeros, ℕ, ◌*◌, ◌++◌}
use Rattle.ufs_laws.proofs.Common.{◌+◌, ◌-◌, ◌/◌, ◌<◌, ◌∙◌, ◌∷◌, ◌≡◌, ◌≤◌}
use Rattle.std.proofs.Math.Nat.{mod-lt}
use Rattle.std.proofs.lemmas.List.{drop-replicate, get_or-drop, get_or_past, take-replicate}
use Rattle.std.specs.Int.{byte_at, bytes_high_first}
use Rattle.ufs_spec.specs.Pages.{zero_filled}
use Rattle.ufs_spec.specs.Plain.{area_len, zero_area, zero_block}
use Rattle.ufs_laws.proofs.plain_contents.ListParts.{joined_next}

-- Bytes

pub bytes-nil : AreBytes []
bytes-nil place = omega arith

pub bytes-cons : (x : ℕ) (xs : List ℕ) → x < 256 → AreBytes xs → AreBytes (x ∷ xs)
bytes-cons x xs first rest zero = first
bytes-cons x xs first rest (suc place) = rest place

pub bytes-append : (xs ys : List ℕ) → AreBytes xs → AreBytes ys → AreBytes (xs ++ ys)
bytes-append xs ys left right place =
    elim (cases_lt place (length xs)) [
      | inl low ↦ subst (λ (x : ℕ). x < 256) (sym (get_or_append_left xs ys 0 place low)) (left place)
      | inr high ↦ subst (λ (x : ℕ). x < 256) (sym (get_or-append_right xs ys (length xs) place 0 refl high))
          (right (place - length xs))
    ]

pub bytes-zeros : (n : ℕ) → AreBytes (replicate n 0)
bytes-zeros n place =
    let long = length-replicate {A = ℕ} n 0 in
    elim (cases_lt place n) [
      | inl low ↦ (let here = get_or-replicate {A = ℕ} n place 0 0 low in omega arith)
      | inr high ↦ (let past = get_or_past {X = ℕ} (replicate n 0) place 0 (omega arith) in omega arith)
    ]

pub bytes-take : (n : ℕ) (xs : List ℕ) → AreBytes xs → AreBytes (take n xs)
bytes-take n xs h place =
    elim (cases_lt place n) [
      | inl low ↦ subst (λ (x : ℕ). x < 256) (sym (get_or-take n xs place 0 low)) (h place)
      | inr high ↦
          (let few : length (take n xs) ≤ place = omega (arith, length-take n xs) in
          let past = get_or_past {X = ℕ} (take n xs) place 0 few in
          omega arith)
    ]

pub bytes-drop : (n : ℕ) (xs : List ℕ) → AreBytes xs → AreBytes (drop n xs)
bytes-drop n xs h place = subst (λ (x : ℕ). x < 256) (sym (get_or-drop n xs place 0)) (h (n + place))

pub bytes-joined : (f : ℕ → List ℕ) (n : ℕ) → ((i : ℕ) → i < n → AreBytes (f i)) → AreBytes (flat_map f (below n))
bytes-joined f zero each = bytes-nil
bytes-joined f (suc n) each =
    subst AreBytes (sym (joined_next f n))
    (bytes-append (flat_map f (below n)) (f n) (bytes-joined f n (λ (i : ℕ) lt. each i (omega arith)))
    (each n (omega arith)))

byte_at-lt : (place x : ℕ) → byte_at place x < 256
byte_at-lt zero x = mod-lt x (omega arith)
byte_at-lt (suc place) x = mod-lt _ (omega arith)

pub bytes-number : (n x : ℕ) → AreBytes (bytes_high_first n x)
bytes-number zero x = bytes-nil
bytes-number (suc n) x = bytes-cons (byte_at n x) (bytes_high_first n x) (byte_at-lt n x) (bytes-number n x)

-- Zeros behind bytes

pub length-filled : (n : ℕ) (bytes : List ℕ) → length bytes ≤ n → length (zero_filled n bytes) ≡ n
unfolding zero_filled
length-filled n bytes h =
    length-append bytes (replicate (n - length bytes) 0) ∙ omega (arith, length-replicate {A = ℕ} (n - length bytes) 0)

pub bytes-filled : (n : ℕ) (bytes : List ℕ) → AreBytes bytes → AreBytes (zero_filled n bytes)
unfolding zero_filled
bytes-filled n bytes h = bytes-append bytes (replicate (n - length bytes) 0) h (bytes-zeros (n - length bytes))

-- Zero blocks

pub zero_block_is : IsBlock zero_block
unfolding zero_block
zero_block_is = (length-replicate {A = ℕ} 4096 0, bytes-zeros 4096)

pub bytes-zero_area : (n : Numbers) (region : ℕ) → AreBytes (zero_area n region)
unfolding zero_area
bytes-zero_area n region = bytes-zeros (area_len n region)

-- a whole page of zeros
page_of_zeros : (size page n : ℕ) → size * page + size ≤ n → take size (drop (size * page) (zeros n)) ≡ zeros size
page_of_zeros size page n room =
    ap (take {A = ℕ} size) (drop-replicate {X = ℕ} (size * page) n 0)
    ∙ take-replicate {X = ℕ} size (n - size * page) 0 (omega arith)

pub zero_page : (n : Numbers) (region page : ℕ) → page < area_len n region / 4096 →
    area_page page (zero_area n region) ≡ zero_block
unfolding zero_area zero_block
zero_page n region page within = page_of_zeros 4096 page (area_len n region) (omega arith)

-- Area pages

pub page_is_block : (area : List ℕ) (page : ℕ) → AreBytes area → page < length area / 4096 →
    IsBlock (area_page page area)
page_is_block area page bytes within =
    let long : 4096 ≤ length (drop (4096 * page) area) = omega (arith, length-drop (4096 * page) area) in (
      length-take-le 4096 (drop (4096 * page) area) long,
      bytes-take 4096 (drop (4096 * page) area) (bytes-drop (4096 * page) area bytes),
    )
