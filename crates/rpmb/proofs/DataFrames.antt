-- The frames that answer a request for data.
use Rattle.std.proofs.Common.{◌≡◌, ◌∙◌, ◌+◌, ◌-◌, ◌*◌, ◌/◌, ◌<◌, ◌≤◌, ◌∷◌, ◌++◌, ℕ, zero, suc, Bool, true, false}
use Rattle.std.proofs.Common.{List, [], ap, arith, drop, if◌then◌else◌, length, map, refl, sym, take}
use Rattle.std.proofs.lemmas.List.{drop-drop, drop-take, length-replicate, map-append, take-take}
use Rattle.std.specs.Simd.{first_chunks}
use Rattle.ufs_spec.specs.Frames.{Frame, frame_bytes}
use Rattle.ufs_spec.specs.Keys.{below}
use Rattle.ufs_spec.specs.Messages.{zeros}
use Rattle.ufs_spec.specs.Rpmb.{Region}
use Rattle.ufs_spec.specs.RpmbResponses.{area_block, data_response, data_responses, is_success}
use Rattle.rpmb.specs.Answers.{HasData, HasPlaces, HavePlaces, data_bytes}

-- the chunk behind so many others
chunks_more : (w k : ℕ) (xs : List ℕ) → first_chunks w (suc k) xs ≡ first_chunks w k xs ++ take w (drop (w * k) xs) ∷ []
chunks_more w zero xs = let none : w * 0 ≡ 0 = omega arith in rw none refl
chunks_more w (suc k) xs =
    let next : w + w * k ≡ w * suc k = omega arith in
    ap (λ (l : List (List ℕ)). take w xs ∷ l) (chunks_more w k (drop w xs)
    ∙ ap (λ (l : List ℕ). first_chunks w k (drop w xs) ++ take w l ∷ [])
    (drop-drop (w * k) w xs ∙ ap (λ n. drop n xs) next))

-- one block of a part of the area
block_of : (area : List ℕ) (n a k : ℕ) → k < n
    → take 256 (drop (256 * k) (take (256 * n) (drop (256 * a) area))) ≡ take 256 (drop (256 * (a + k)) area)
block_of area n a k within =
    let whole : 256 * n ≡ 256 * k + (256 * n - 256 * k) = omega arith in
    let place : 256 * a + 256 * k ≡ 256 * (a + k) = omega arith in
    ap (λ m. take 256 (drop (256 * k) (take m (drop (256 * a) area)))) whole
    ∙ ap (take 256) (drop-take (256 * k) (256 * n - 256 * k) (drop (256 * a) area))
    ∙ take-take 256 (256 * n - 256 * k) (drop (256 * k) (drop (256 * a) area)) (omega arith)
    ∙ ap (take 256) (drop-drop (256 * k) (256 * a) area ∙ ap (λ m. drop m area) place)

-- the first blocks of a part of the area
blocks_are : (region : Region) (a n k : ℕ) → k ≤ n
    → first_chunks 256 k (take (256 * n) (drop (256 * a) region.area)) ≡ map (λ i. area_block region (a + i)) (below k)
blocks_are region a n zero within = refl
blocks_are region a n (suc k) within =
    chunks_more 256 k (take (256 * n) (drop (256 * a) region.area))
    ∙ (λ i. blocks_are region a n k (omega arith) i ++ block_of region.area n a k (omega arith) i ∷ [])
    ∙ sym (map-append (λ i. area_block region (a + i)) (below k) (k ∷ []))

-- frames made of blocks
same_frames : (h : List ℕ → Frame) (g : ℕ → List ℕ) (ns : List ℕ)
    → map (λ b. frame_bytes (h b)) (map g ns) ≡ map frame_bytes (map (λ n. h (g n)) ns)
same_frames h g [] = refl
same_frames h g (n ∷ ns) = ap (λ (l : List (List ℕ)). frame_bytes (h (g n)) ∷ l) (same_frames h g ns)

-- the frames of a request that did not fail
pub data_of_all : (region : Region) (asked : Frame) (code : ℕ) (bytes : List ℕ) → is_success code ≡ true
    → HasData region asked code bytes
    → map (data_bytes asked code) (first_chunks 256 (length bytes / 256) bytes)
    ≡ map frame_bytes (data_responses region asked code)
data_of_all region asked code bytes success has =
    let long : length bytes ≡ 256 * asked.count = (has success).0 in
    let many : length bytes / 256 ≡ asked.count = omega arith in
    let made : List Frame =
    map (λ i. data_response asked code (area_block region (asked.address + i))) (below asked.count) in
    ap (map (data_bytes asked code))
    ((λ i. first_chunks 256 (many i) ((has success).1 i))
    ∙ blocks_are region asked.address asked.count asked.count (omega arith))
    ∙ same_frames (data_response asked code) (λ i. area_block region (asked.address + i)) (below asked.count)
    ∙ sym (ap (λ (b : Bool). map frame_bytes (if b then made else data_response asked code (zeros 256) ∷ [])) success)

-- the frame of a request that failed
pub data_of_none : (region : Region) (asked : Frame) (code : ℕ) → is_success code ≡ false
    → data_bytes asked code (zeros 256) ∷ [] ≡ map frame_bytes (data_responses region asked code)
data_of_none region asked code failed = rw failed refl

-- a response to a request for data has its parts in their places
data_has : (asked : Frame) (code : ℕ) (block : List ℕ) → HasPlaces (data_response asked code block)
data_has asked code block =
    record { stuff = length-replicate {A = ℕ} 196 0; key_or_mac = length-replicate {A = ℕ} 32 0 }

made_have : (asked : Frame) (code : ℕ) (g : ℕ → List ℕ) (ns : List ℕ)
    → HavePlaces (map (λ n. data_response asked code (g n)) ns)
made_have asked code g [] = tt
made_have asked code g (n ∷ ns) = (data_has asked code (g n), made_have asked code g ns)

pub data_have : (region : Region) (asked : Frame) (code : ℕ) → HavePlaces (data_responses region asked code)
data_have region asked code = either (is_success code)
  where
    made : List Frame
    made = map (λ i. data_response asked code (area_block region (asked.address + i))) (below asked.count)

    either : (b : Bool) → HavePlaces (if b then made else data_response asked code (zeros 256) ∷ [])
    either true = made_have asked code (λ i. area_block region (asked.address + i)) (below asked.count)
    either false = (data_has asked code (zeros 256), tt)
