-- Frames as bytes: what is read of 512 bytes is written again, and the other way round.
use Rattle.ufs_laws.proofs.Common.{All, AreBytes, Frame, List, [], ap, append_assoc, arith, big_bytes, big_number}
use Rattle.ufs_laws.proofs.Common.{big_number-reads_back, drop, drop-drop, drop_at, field_at, flat_map, length}
use Rattle.ufs_laws.proofs.Common.{length-take-le, refl, suc, sym, take, take-append-drop, take_all, zero, ℕ, ◌%◌, ◌*◌}
use Rattle.ufs_laws.proofs.Common.{◌++◌, ◌+◌, ◌/◌, ◌<◌, ◌^◌, ◌∙◌, ◌∷◌, ◌≡◌, ◌≤◌}
use Rattle.std.proofs.Common.{length-append, length-drop, length-take}
use Rattle.std.proofs.lemmas.List.{take_at}
use Rattle.byteorder.specs.Numbers.{big_from-take, length-bytes_high_first}
use Rattle.ufs_bytes.proofs.FieldRanges.{field_fits}
use Rattle.ufs_spec.specs.Frames.{IsFrame, covered_bytes, frame_bytes, frame_in, frames_in}
use Rattle.ufs_laws.proofs.pages.ByteLists.{bytes-drop, bytes-take}

-- parts that are joined from the front are joined from the back
seven : (a b c d e f g : List ℕ) → a ++ b ++ c ++ d ++ e ++ f ++ g ≡ a ++ (b ++ (c ++ (d ++ (e ++ (f ++ g)))))
seven a b c d e f g =
    append_assoc (a ++ b ++ c ++ d ++ e) f g ∙ append_assoc (a ++ b ++ c ++ d) e (f ++ g)
    ∙ append_assoc (a ++ b ++ c) d (e ++ (f ++ g)) ∙ append_assoc (a ++ b) c (d ++ (e ++ (f ++ g)))
    ∙ append_assoc a b (c ++ (d ++ (e ++ (f ++ g))))

abbrev from_result : Frame → List ℕ
from_result f = big_bytes 2 f.result ++ big_bytes 2 f.kind

abbrev from_count : Frame → List ℕ
from_count f = big_bytes 2 f.count ++ from_result f

abbrev from_address : Frame → List ℕ
from_address f = big_bytes 2 f.address ++ from_count f

abbrev from_counter : Frame → List ℕ
from_counter f = big_bytes 4 f.counter ++ from_address f

abbrev from_payload : Frame → List ℕ
from_payload f = f.payload ++ (f.nonce ++ from_counter f)

covered_parts : (f : Frame) → covered_bytes f ≡ from_payload f
covered_parts f =
    seven f.payload f.nonce (big_bytes 4 f.counter) (big_bytes 2 f.address) (big_bytes 2 f.count)
    (big_bytes 2 f.result) (big_bytes 2 f.kind)

frame_parts : (f : Frame) → frame_bytes f ≡ f.stuff ++ (f.key_or_mac ++ from_payload f)
frame_parts f =
    append_assoc f.stuff f.key_or_mac (covered_bytes f)
    ∙ ap (λ (l : List ℕ). f.stuff ++ (f.key_or_mac ++ l)) (covered_parts f)

-- two bytes and four bytes are those of the number that they are
two_again : (xs : List ℕ) → length xs ≡ 2 → AreBytes xs → big_bytes 2 (big_number 2 xs) ≡ xs
two_again (a ∷ b ∷ []) long are =
    let first : a < 256 = are 0 in
    let second : b < 256 = are 1 in
    let high : (a * 256 + (b * 1 + 0)) / 256 % 256 ≡ a = omega (arith, first, second) in
    let low : (a * 256 + (b * 1 + 0)) % 256 ≡ b = omega (arith, first, second) in
    λ i. high i ∷ low i ∷ []
two_again [] long are = absurd (omega (arith, long))
two_again (a ∷ []) long are = absurd (omega (arith, long))
two_again (a ∷ b ∷ c ∷ xs) long are = absurd (omega (arith, long))

four_again : (xs : List ℕ) → length xs ≡ 4 → AreBytes xs → big_bytes 4 (big_number 4 xs) ≡ xs
four_again (a ∷ b ∷ c ∷ d ∷ []) long are =
    let first : a < 256 = are 0 in
    let second : b < 256 = are 1 in
    let third : c < 256 = are 2 in
    let fourth : d < 256 = are 3 in
    let x : ℕ = a * 16777216 + (b * 65536 + (c * 256 + (d * 1 + 0))) in
    let one : x / 16777216 % 256 ≡ a = omega (arith, first, second, third, fourth) in
    let two : x / 65536 % 256 ≡ b = omega (arith, first, second, third, fourth) in
    let three : x / 256 % 256 ≡ c = omega (arith, first, second, third, fourth) in
    let four : x % 256 ≡ d = omega (arith, first, second, third, fourth) in
    λ i. one i ∷ two i ∷ three i ∷ four i ∷ []
four_again [] long are = absurd (omega (arith, long))
four_again (a ∷ []) long are = absurd (omega (arith, long))
four_again (a ∷ b ∷ []) long are = absurd (omega (arith, long))
four_again (a ∷ b ∷ c ∷ []) long are = absurd (omega (arith, long))
four_again (a ∷ b ∷ c ∷ d ∷ e ∷ xs) long are = absurd (omega (arith, long))

-- another first part, and a part and what follows it
glued : (x y rest z : List ℕ) → x ≡ y → y ++ rest ≡ z → x ++ rest ≡ z
glued x y rest z e h = ap (λ (l : List ℕ). l ++ rest) e ∙ h

joined : (n m : ℕ) (b rest : List ℕ) → rest ≡ drop (m + n) b → take n (drop m b) ++ rest ≡ drop m b
joined n m b rest e =
    ap (λ l. take n (drop m b) ++ l) (e ∙ sym (drop-drop n m b)) ∙ take-append-drop n (drop m b)

module _ (b : List ℕ) (long : length b ≡ 512) (are : AreBytes b) where
  part : (n m : ℕ) → m + n < 513 → length (take n (drop m b)) ≡ n
  part n m within = omega (arith, length-take n (drop m b), length-drop m b, long, within)

  part_bytes : (n m : ℕ) → AreBytes (take n (drop m b))
  part_bytes n m = bytes-take n (drop m b) (bytes-drop m b are)

  two : (m : ℕ) → m + 2 < 513 → big_bytes 2 (field_at 2 m b) ≡ take 2 (drop m b)
  two m within =
      ap (big_bytes 2) (sym (big_from-take 0 2 2 (drop m b) (omega arith)))
      ∙ two_again (take 2 (drop m b)) (part 2 m within) (part_bytes 2 m)

  four : big_bytes 4 (field_at 4 500 b) ≡ take 4 (drop 500 b)
  four =
      ap (big_bytes 4) (sym (big_from-take 0 4 4 (drop 500 b) (omega arith)))
      ∙ four_again (take 4 (drop 500 b)) (part 4 500 (omega arith)) (part_bytes 4 500)

  kind_again : big_bytes 2 (field_at 2 510 b) ≡ drop 510 b
  kind_again =
      two 510 (omega arith) ∙ take_all 2 (drop 510 b) (omega (arith, length-drop 510 b, long))

  result_again : big_bytes 2 (field_at 2 508 b) ++ big_bytes 2 (field_at 2 510 b) ≡ drop 508 b
  result_again =
      glued _ (take 2 (drop 508 b)) _ _ (two 508 (omega arith)) (joined 2 508 b _ kind_again)

  count_again : big_bytes 2 (field_at 2 506 b) ++ (big_bytes 2 (field_at 2 508 b) ++ big_bytes 2 (field_at 2 510 b))
      ≡ drop 506 b
  count_again = glued _ (take 2 (drop 506 b)) _ _ (two 506 (omega arith)) (joined 2 506 b _ result_again)

  address_again : big_bytes 2 (field_at 2 504 b)
      ++ (big_bytes 2 (field_at 2 506 b) ++ (big_bytes 2 (field_at 2 508 b) ++ big_bytes 2 (field_at 2 510 b)))
      ≡ drop 504 b
  address_again = glued _ (take 2 (drop 504 b)) _ _ (two 504 (omega arith)) (joined 2 504 b _ count_again)

  counter_again : big_bytes 4 (field_at 4 500 b)
      ++ (big_bytes 2 (field_at 2 504 b)
      ++ (big_bytes 2 (field_at 2 506 b) ++ (big_bytes 2 (field_at 2 508 b) ++ big_bytes 2 (field_at 2 510 b))))
      ≡ drop 500 b
  counter_again = glued _ (take 4 (drop 500 b)) _ _ four (joined 4 500 b _ address_again)

  -- the MAC covers the bytes from 228 on
  pub covered : covered_bytes (frame_in b) ≡ drop 228 b
  covered = covered_parts (frame_in b) ∙ joined 256 228 b _ (joined 16 484 b _ counter_again)

  pub bytes_again : frame_bytes (frame_in b) ≡ b
  bytes_again =
      append_assoc (take 196 b) (take 32 (drop 196 b)) (covered_bytes (frame_in b))
      ∙ joined 196 0 b _ (joined 32 196 b _ covered)

  pub is_frame : IsFrame (frame_in b)
  is_frame =
      record {
        stuff = (part 196 0 (omega arith), part_bytes 196 0);
        key_or_mac = (part 32 196 (omega arith), part_bytes 32 196);
        payload = (part 256 228 (omega arith), part_bytes 256 228);
        nonce = (part 16 484 (omega arith), part_bytes 16 484);
        counter = field_fits 4 500 b are;
        address = field_fits 2 504 b are;
        count = field_fits 2 506 b are;
        result = field_fits 2 508 b are;
        kind = field_fits 2 510 b are;
      }

-- what stands behind the next part
behind : (n m : ℕ) (b part rest : List ℕ) → drop m b ≡ part ++ rest → length part ≡ n → drop (m + n) b ≡ rest
behind n m b part rest e long = sym (drop-drop n m b) ∙ ap (drop n) e ∙ drop_at part rest n long

-- the part itself, and a number that is one
taken : (n m : ℕ) (b part rest : List ℕ) → drop m b ≡ part ++ rest → length part ≡ n → take n (drop m b) ≡ part
taken n m b part rest e long = ap (take n) e ∙ take_at part rest n long

number : (n m x : ℕ) (b rest : List ℕ) → drop m b ≡ big_bytes n x ++ rest → x < 256 ^ n → field_at n m b ≡ x
number n m x b rest e fits = ap (big_number n) e ∙ big_number-reads_back n x rest fits

module _ (f : Frame) (is : IsFrame f) (b : List ℕ) (e : b ≡ f.stuff ++ (f.key_or_mac ++ from_payload f)) where
  at_key : drop 196 b ≡ f.key_or_mac ++ from_payload f
  at_key = behind 196 0 b f.stuff _ e is.stuff.0

  at_payload : drop 228 b ≡ from_payload f
  at_payload = behind 32 196 b f.key_or_mac _ at_key is.key_or_mac.0

  at_nonce : drop 484 b ≡ f.nonce ++ from_counter f
  at_nonce = behind 256 228 b f.payload _ at_payload is.payload.0

  at_counter : drop 500 b ≡ from_counter f
  at_counter = behind 16 484 b f.nonce _ at_nonce is.nonce.0

  at_address : drop 504 b ≡ from_address f
  at_address = behind 4 500 b (big_bytes 4 f.counter) _ at_counter (length-bytes_high_first 4 f.counter)

  at_count : drop 506 b ≡ from_count f
  at_count = behind 2 504 b (big_bytes 2 f.address) _ at_address (length-bytes_high_first 2 f.address)

  at_result : drop 508 b ≡ from_result f
  at_result = behind 2 506 b (big_bytes 2 f.count) _ at_count (length-bytes_high_first 2 f.count)

  at_kind : drop 510 b ≡ big_bytes 2 f.kind ++ []
  at_kind = behind 2 508 b (big_bytes 2 f.result) _ at_result (length-bytes_high_first 2 f.result)

  read_again : frame_in b ≡ f
  read_again =
      let stuff = taken 196 0 b f.stuff _ e is.stuff.0 in
      let key_or_mac = taken 32 196 b f.key_or_mac _ at_key is.key_or_mac.0 in
      let payload = taken 256 228 b f.payload _ at_payload is.payload.0 in
      let nonce = taken 16 484 b f.nonce _ at_nonce is.nonce.0 in
      let counter = number 4 500 f.counter b _ at_counter is.counter in
      let address = number 2 504 f.address b _ at_address is.address in
      let count = number 2 506 f.count b _ at_count is.count in
      let result = number 2 508 f.result b _ at_result is.result in
      let kind = number 2 510 f.kind b [] at_kind is.kind in
      λ i. record {
        stuff = stuff i;
        key_or_mac = key_or_mac i;
        payload = payload i;
        nonce = nonce i;
        counter = counter i;
        address = address i;
        count = count i;
        result = result i;
        kind = kind i;
      }

pub frame_again : (f : Frame) → IsFrame f → frame_in (frame_bytes f) ≡ f
frame_again f is = read_again f is (frame_bytes f) (frame_parts f)

pub length-frame : (f : Frame) → IsFrame f → length (frame_bytes f) ≡ 512
length-frame f is =
    let numbers : length (from_counter f) ≡ 12 = refl in
    ap length (frame_parts f)
    ∙ omega (
      arith,
      length-append f.stuff (f.key_or_mac ++ from_payload f),
      is.stuff.0,
      length-append f.key_or_mac (from_payload f),
      is.key_or_mac.0,
      length-append f.payload (f.nonce ++ from_counter f),
      is.payload.0,
      length-append f.nonce (from_counter f),
      is.nonce.0,
      numbers,
    )

all_cons : (P : Frame → Type 0) (f : Frame) (fs : List Frame) → P f → All P fs → All P (f ∷ fs)
all_cons P f fs one more zero d lt = one
all_cons P f fs one more (suc k) d lt = more k d (omega (arith, lt))

pub frames_again : (fs : List Frame) → All IsFrame fs → frames_in (length fs) (flat_map frame_bytes fs) ≡ fs
frames_again [] are = refl
frames_again (f ∷ fs) are =
    let rest : List ℕ = flat_map frame_bytes fs in
    let one : IsFrame f = are 0 f (omega arith) in
    let others : All IsFrame fs = λ k d lt. are (suc k) d (omega (arith, lt)) in
    let first : frame_in (take 512 (frame_bytes f ++ rest)) ≡ f =
    ap frame_in (take_at (frame_bytes f) rest 512 (length-frame f one)) ∙ frame_again f one in
    let more : frames_in (length fs) (drop 512 (frame_bytes f ++ rest)) ≡ fs =
    ap (frames_in (length fs)) (drop_at (frame_bytes f) rest 512 (length-frame f one)) ∙ frames_again fs others in
    λ i. first i ∷ more i

pub all_bytes_again : (n : ℕ) (b : List ℕ) → length b ≡ 512 * n → AreBytes b → flat_map frame_bytes (frames_in n b) ≡ b
all_bytes_again zero [] long are = refl
all_bytes_again zero (x ∷ b) long are = absurd (omega (arith, long))
all_bytes_again (suc n) b long are =
    let first : frame_bytes (frame_in (take 512 b)) ≡ take 512 b =
    bytes_again (take 512 b) (omega (arith, length-take 512 b, long)) (bytes-take 512 b are) in
    let more : flat_map frame_bytes (frames_in n (drop 512 b)) ≡ drop 512 b =
    all_bytes_again n (drop 512 b) (omega (arith, length-drop 512 b, long)) (bytes-drop 512 b are) in
    (λ i. first i ++ more i) ∙ take-append-drop 512 b

-- of bytes that are no fewer
pub first_frames : (n : ℕ) (b : List ℕ) → 512 * n ≤ length b → AreBytes b → All IsFrame (frames_in n b)
first_frames zero b long are k d lt = absurd (omega (arith, lt))
first_frames (suc n) b long are k d lt =
    all_cons IsFrame (frame_in (take 512 b)) (frames_in n (drop 512 b))
    (is_frame (take 512 b) (length-take-le 512 b (omega (arith, long))) (bytes-take 512 b are))
    (first_frames n (drop 512 b) (omega (arith, length-drop 512 b, long)) (bytes-drop 512 b are)) k d lt

pub are_frames : (n : ℕ) (b : List ℕ) → length b ≡ 512 * n → AreBytes b → All IsFrame (frames_in n b)
are_frames n b long = first_frames n b (omega (arith, long))

-- so many frames are so many
pub length-frames_in : (n : ℕ) (bytes : List ℕ) → length (frames_in n bytes) ≡ n
length-frames_in zero bytes = refl
length-frames_in (suc n) bytes = ap suc (length-frames_in n (drop 512 bytes))
