-- The frames that answer an RPMB request are 512 bytes each, and no more than eight.
use Rattle.power_loss.proofs.Common.{All, All-cons, All-head, All-map, All-nil, All-tail, All-weaker, Bool, List, None}
use Rattle.power_loss.proofs.Common.{Option, Some, [], ap, arith, below, drop, eqb-true, false, get_or_from_slice_get}
use Rattle.power_loss.proofs.Common.{if_both, length, length-append, length-drop, length-map, length-take-le, map}
use Rattle.power_loss.proofs.Common.{or_cases, refl, slice_get, slice_get_within, subst, suc, sym, true, zero, ℕ}
use Rattle.power_loss.proofs.Common.{⊎_elim, ◌*◌, ◌++◌, ◌+◌, ◌<◌, ◌==◌, ◌∙◌, ◌∷◌, ◌≡◌, ◌≤◌}
use Rattle.power_loss.proofs.MachineWords.{AreBytes, Deed, ReadBlock, ReadState, ReadingArea, Registers}
use Rattle.ufs_spec.specs.FrameRequests.{result_now}
use Rattle.std.specs.Prelude.{bit_and, bit_or, if◌then◌else◌}
use Rattle.std.specs.List.{list_any}
use Rattle.std.proofs.lemmas.Nat.{and_or_self, le_or_r}
use Rattle.byteorder.specs.Endian.{big_bytes}
use Rattle.sha2.proofs.Facts256.{length-sha256}
use Rattle.sha2.specs.Sha256.{digest_bytes, sha256}
use Rattle.ufs_spec.specs.Frames.{Frame, covered_bytes, frame_bytes}
use Rattle.ufs_spec.specs.Messages.{zeros}
use Rattle.ufs_spec.specs.Rpmb.{Region, frames_mac, program_key, read_counter, read_data, read_result, write_data}
use Rattle.ufs_spec.specs.RpmbResponses.{area_block, counter_response, data_response, data_responses, emptied_by}
use Rattle.ufs_spec.specs.RpmbResponses.{filled_with, frames_of, has_result_register, is_lost, is_success}
use Rattle.ufs_spec.specs.RpmbResponses.{response_frame, response_frames, signed, with_last_mac, with_reads}
use Rattle.ufs_spec.specs.RpmbResponses.{write_response}
use Rattle.ufs_laws.proofs.pages.ByteLists.{bytes-append, bytes-drop, bytes-nil, bytes-number, bytes-take, bytes-zeros}
use Rattle.ufs_laws.proofs.plain_contents.ListParts.{length-below}
use Rattle.power_loss.specs.WaitingFrames.{AsksInside, AsksRightly, FramesAsk, IsFrameSaid, RegistersHold}
use Rattle.power_loss.proofs.ordered_lists.ElementsAndOrders.{all_below}

-- One frame

-- its parts have their lengths, and are bytes
record IsShaped (f : Frame) : Type 0 where
  stuff : (length f.stuff ≡ 196) × AreBytes f.stuff
  key_or_mac : (length f.key_or_mac ≡ 32) × AreBytes f.key_or_mac
  payload : (length f.payload ≡ 256) × AreBytes f.payload
  nonce : (length f.nonce ≡ 16) × AreBytes f.nonce

-- bytes that are joined
both_said : (m n : ℕ) (xs ys : List ℕ) → (length xs ≡ m) × AreBytes xs → (length ys ≡ n) × AreBytes ys →
    (length (xs ++ ys) ≡ m + n) × AreBytes (xs ++ ys)
both_said m n xs ys h k =
    let long = length-append xs ys in
    let left = h.0 in
    let right = k.0 in
    (omega (arith, long, left, right), bytes-append xs ys h.1 k.1)

frame_said : (f : Frame) → IsShaped f → IsFrameSaid (frame_bytes f)
frame_said f h =
    let one = both_said 256 16 f.payload f.nonce h.payload h.nonce in
    let two = both_said 272 4 (f.payload ++ f.nonce) (big_bytes 4 f.counter) one (refl, bytes-number 4 f.counter) in
    let three = both_said 276 2 (f.payload ++ f.nonce ++ big_bytes 4 f.counter) (big_bytes 2 f.address) two
    (refl, bytes-number 2 f.address) in
    let four = both_said 278 2 (f.payload ++ f.nonce ++ big_bytes 4 f.counter ++ big_bytes 2 f.address)
    (big_bytes 2 f.count) three (refl, bytes-number 2 f.count) in
    let five = both_said 280 2 (f.payload ++ f.nonce ++ big_bytes 4 f.counter ++ big_bytes 2 f.address
    ++ big_bytes 2 f.count) (big_bytes 2 f.result) four (refl, bytes-number 2 f.result) in
    let covered = both_said 282 2 (f.payload ++ f.nonce ++ big_bytes 4 f.counter ++ big_bytes 2 f.address
    ++ big_bytes 2 f.count ++ big_bytes 2 f.result) (big_bytes 2 f.kind) five (refl, bytes-number 2 f.kind) in
    let front = both_said 196 32 f.stuff f.key_or_mac h.stuff h.key_or_mac in
    both_said 228 284 (f.stuff ++ f.key_or_mac) (covered_bytes f) front covered

blank_shaped : (kind result : ℕ) → IsShaped (response_frame kind result)
blank_shaped kind result = record {
  stuff = (refl, bytes-zeros 196);
  key_or_mac = (refl, bytes-zeros 32);
  payload = (refl, bytes-zeros 256);
  nonce = (refl, bytes-zeros 16);
}

data_shaped : (asked : Frame) (result : ℕ) (payload : List ℕ) → (length asked.nonce ≡ 16) × AreBytes asked.nonce →
    (length payload ≡ 256) × AreBytes payload → IsShaped (data_response asked result payload)
data_shaped asked result payload nonce is = record {
  stuff = (refl, bytes-zeros 196);
  key_or_mac = (refl, bytes-zeros 32);
  payload = is;
  nonce = nonce;
}

-- MACs

digest_are : (h : List ℕ) (n : ℕ) → AreBytes (digest_bytes h n)
unfolding digest_bytes
digest_are h zero = bytes-nil
digest_are h (suc n) = bytes-append (digest_bytes h n) _ (digest_are h n) (bytes-number 4 _)

hash_are : (m : List ℕ) → AreBytes (sha256 m)
unfolding sha256
hash_are m = digest_are _ 8

-- the last of the frames has a MAC
mac_shaped : (bytes : List ℕ) → (length bytes ≡ 32) × AreBytes bytes → (fs : List Frame) → All IsShaped fs →
    All IsShaped (with_last_mac bytes fs)
mac_shaped bytes is [] each = each
mac_shaped bytes is (f ∷ []) each =
    let h = All-head IsShaped f [] each in
    All-cons IsShaped (record f { key_or_mac = bytes }) []
    (record { stuff = h.stuff; key_or_mac = is; payload = h.payload; nonce = h.nonce }) (All-nil IsShaped)
mac_shaped bytes is (f ∷ g ∷ gs) each = All-cons IsShaped f (with_last_mac bytes (g ∷ gs))
    (All-head IsShaped f (g ∷ gs) each) (mac_shaped bytes is (g ∷ gs) (All-tail IsShaped f (g ∷ gs) each))

mac_length : (bytes : List ℕ) (fs : List Frame) → length (with_last_mac bytes fs) ≡ length fs
mac_length bytes [] = refl
mac_length bytes (f ∷ []) = refl
mac_length bytes (f ∷ g ∷ gs) = ap suc (mac_length bytes (g ∷ gs))

-- frames of one to eight blocks
abbrev Answer : List Frame → Type 0
Answer fs = All IsShaped fs × (length fs ≤ 8)

signed_answer : (key : Option (List ℕ)) (fs : List Frame) → Answer fs → Answer (signed key fs)
signed_answer None fs h = h
signed_answer (Some key) fs h = (
  mac_shaped (frames_mac key fs) (length-sha256 _, hash_are _) fs h.0,
  let long = mac_length (frames_mac key fs) fs in let few = h.1 in omega (arith, long, few),
)

one_answer : (f : Frame) → IsShaped f → Answer (f ∷ [])
one_answer f h = (All-cons IsShaped f [] h (All-nil IsShaped), omega arith)

-- Data

block_is : (region : Region) (n : ℕ) → AreBytes region.area → 256 * n + 256 ≤ length region.area →
    (length (area_block region n) ≡ 256) × AreBytes (area_block region n)
block_is region n are room = (
  length-take-le 256 (drop (256 * n) region.area) (let l = length-drop (256 * n) region.area in omega (arith, l, room)),
  bytes-take 256 (drop (256 * n) region.area) (bytes-drop (256 * n) region.area are),
)

data_answer : (region : Region) (asked : Frame) (result : ℕ) → AreBytes region.area →
    (length asked.nonce ≡ 16) × AreBytes asked.nonce →
    (is_success result ≡ true → AsksInside (length region.area) asked) → Answer (data_responses region asked result)
data_answer region asked result are nonce inside = by (is_success result) refl
  where
    one : ℕ → Frame
    one i = data_response asked result (area_block region (asked.address + i))

    by : (b : Bool) → is_success result ≡ b →
        Answer (if b then map one (below asked.count) else data_response asked result (zeros 256) ∷ [])
    by true e =
        let h = inside e in (
          All-map IsShaped one (below asked.count)
              (All-weaker (λ i. i < asked.count) (λ i. IsShaped (one i))
              (λ i low. data_shaped asked result (area_block region (asked.address + i)) nonce
              (block_is region (asked.address + i) are (let w = h.within in omega (arith, w, low))))
              (below asked.count) (all_below asked.count)),
          let long = length-map (below asked.count) one in let n = length-below asked.count in let few = h.few in
              omega (arith, long, n, few),
        )
    by false e = one_answer (data_response asked result (zeros 256))
        (data_shaped asked result (zeros 256) nonce (refl, bytes-zeros 256))

-- All answers

answers : (region : Region) (asked : Frame) (result : ℕ) → AreBytes region.area →
    AsksRightly (length region.area) asked result → Answer (response_frames region asked result)
answers region asked result are h =
    if_both Answer (asked.kind == program_key) (one_answer _ (blank_shaped 0x0100 result))
    (if_both Answer (asked.kind == read_counter) (signed_answer region.key _ (one_answer _ counted))
    (if_both Answer (asked.kind == write_data) (signed_answer region.key _ (one_answer _ written))
    (told (asked.kind == read_data) refl)))
  where
    nonce : (length asked.nonce ≡ 16) × AreBytes asked.nonce
    nonce = (h.nonce, h.nonce_bytes)

    counted : IsShaped (counter_response region asked result)
    counted = record {
      stuff = (refl, bytes-zeros 196);
      key_or_mac = (refl, bytes-zeros 32);
      payload = (refl, bytes-zeros 256);
      nonce = nonce;
    }

    written : IsShaped (write_response region asked result)
    written = record {
      stuff = (refl, bytes-zeros 196);
      key_or_mac = (refl, bytes-zeros 32);
      payload = (refl, bytes-zeros 256);
      nonce = (refl, bytes-zeros 16);
    }

    told : (b : Bool) → (asked.kind == read_data) ≡ b →
        Answer (if b then signed region.key (data_responses region asked result) else [])
    told true e = signed_answer region.key (data_responses region asked result)
        (data_answer region asked result are nonce (λ good. h.inside (eqb-true asked.kind read_data e) good))
    told false e = (All-nil IsShaped, omega arith)

answer_said : (fs : List Frame) → All IsShaped fs → All IsFrameSaid (map frame_bytes fs)
answer_said fs each = All-map IsFrameSaid frame_bytes fs
    (All-weaker IsShaped (λ f. IsFrameSaid (frame_bytes f)) frame_said fs each)

-- Registers

pub empty_hold : RegistersHold (record { result = None; response = [] })
empty_hold = record {
  result = λ bytes e. absurd (none bytes e);
  response = All-nil IsFrameSaid;
  few = omega arith;
}
  where
    none : (bytes : List ℕ) → None ≡ Some bytes → ⊥
    none bytes e = cc

pub no_response : (r : Registers) → RegistersHold r → RegistersHold (record r { response = [] })
no_response r h = record { result = h.result; response = All-nil IsFrameSaid; few = omega arith }

pub emptied_hold : (frames : List Frame) (r : Registers) → RegistersHold r → RegistersHold (emptied_by frames r)
emptied_hold [] r h = h
emptied_hold (f ∷ fs) r h = by (has_result_register f.kind)
  where
    by : (b : Bool) →
        RegistersHold (if b then record { result = None; response = [] } else record r { response = [] })
    by true = empty_hold
    by false = no_response r h

first_of : (xs : List (List ℕ)) → All IsFrameSaid xs → (bytes : List ℕ) → slice_get xs 0 ≡ Some bytes →
    IsFrameSaid bytes
first_of xs each bytes e =
    subst IsFrameSaid (get_or_from_slice_get xs 0 bytes bytes e) (each 0 bytes (slice_get_within xs 0 bytes e))

result_said : (o : Option (List ℕ)) → ((bytes : List ℕ) → o ≡ Some bytes → IsFrameSaid bytes) →
    All IsFrameSaid (frames_of o) × (length (frames_of o) ≤ 8)
result_said None h = (All-nil IsFrameSaid, omega arith)
result_said (Some bytes) h = (All-cons IsFrameSaid bytes [] (h bytes refl) (All-nil IsFrameSaid), omega arith)

pub filled_hold : (region : Region) (frames : List Frame) (result : ℕ) (r : Registers) → AreBytes region.area →
    FramesAsk (length region.area) frames result → RegistersHold r → RegistersHold (filled_with region frames result r)
filled_hold region [] result r are asks h = h
filled_hold region (f ∷ fs) result r are asks h = by (has_result_register f.kind) (f.kind == read_result)
  where
    said : List (List ℕ)
    said = map frame_bytes (response_frames region f result)

    each : All IsFrameSaid said
    each = answer_said (response_frames region f result) (answers region f result are asks).0

    few : length said ≤ 8
    few =
        let long = length-map (response_frames region f result) frame_bytes in
        let most = (answers region f result are asks).1 in
        omega (arith, long, most)

    by : (b c : Bool) → RegistersHold (if b then record r { result = slice_get said 0 }
        else if c then record r { response = frames_of r.result } else record r { response = said })
    by true c = record { result = first_of said each; response = h.response; few = h.few }
    by false true =
        let told = result_said r.result h.result in
        record { result = h.result; response = told.0; few = told.1 }
    by false false = record { result = h.result; response = each; few = few }

-- a page that could not be read is no success
lost_fails : (result : ℕ) → is_success (bit_or result 6) ≡ true → is_success result ≡ true
lost_fails result e = ⊎_elim (λ k. absurd (some (eqb-true (bit_or result 6) 0 k)))
    (λ k. absurd (end (eqb-true (bit_or result 6) 0x80 k)))
    (or_cases (bit_or result 6 == 0) (bit_or result 6 == 0x80) e)
  where
    some : bit_or result 6 ≡ 0 → ⊥
    some k = let least = le_or_r result 6 in omega (arith, k, least)

    end : bit_or result 6 ≡ 0x80 → ⊥
    end k =
        let six : bit_and 0x80 6 ≡ 6 = ap (λ (n : ℕ). bit_and n 6) (sym k) ∙ and_or_self 6 result in
        let none : 0 ≡ 6 = six in
        omega (arith, none)

reads_success : (states : List ReadState) (result : ℕ) → is_success (with_reads states result) ≡ true →
    is_success result ≡ true
reads_success states result e = by (list_any is_lost states) e
  where
    by : (b : Bool) → is_success (if b then bit_or result 6 else result) ≡ true → is_success result ≡ true
    by true k = lost_fails result k
    by false k = k

pub now_success : (deed : Deed) (result : ℕ) → is_success (result_now deed result) ≡ true → is_success result ≡ true
now_success (ReadingArea pages) result e = reads_success (map (λ (page : ReadBlock). page.state) pages) result e
now_success deed result e = e
