-- The outcome of frames that are malformed, and of well-formed ones.
use Rattle.std.proofs.Common.{Bool, List, None, Option, Some, [], ap, arith, drop, get_or, length, map, option_map}
use Rattle.std.proofs.Common.{refl, slice_get, subst, suc, sym, take, zero, ℕ, ◌∙◌, ◌∷◌, ◌≡◌, ◌≤◌}
use Rattle.std.proofs.lemmas.List.{drop_more}
use Rattle.std.proofs.lemmas.Option.{slice_get-map}
use Rattle.std.specs.Simd.{first_chunks}
use Rattle.ufs_spec.specs.Exchanges.{Registers, invalid_list_field}
use Rattle.ufs_spec.specs.Frames.{Frame, frame_in, frames_in}
use Rattle.ufs_spec.specs.Rpmb.{Refused, Region, RpmbOutcome, rpmb_outcome}
use Rattle.ufs_spec.specs.RpmbResponses.{emptied_by, filled_with}
use Rattle.rpmb.specs.Answers.{HasAskedData}
use Rattle.rpmb.specs.Outcomes.{outcome_formed}
use Rattle.rpmb.specs.Requests.{AreMalformed, Asks, IsRequest, data_at}
use Rattle.rpmb.specs.declared.requests.Request.{Request}

-- chunks of 512 bytes are frames
pub chunks_are : (n : ℕ) (bytes : List ℕ) → map frame_in (first_chunks 512 n bytes) ≡ frames_in n bytes
chunks_are zero bytes = refl
chunks_are (suc n) bytes = ap (λ (fs : List Frame). frame_in (take 512 bytes) ∷ fs) (chunks_are n (drop 512 bytes))

pub malformed_as : (number : ℕ) (region : Region) (r : Registers) (locked : Bool) (fs : List Frame) → AreMalformed fs
    → rpmb_outcome number region r locked fs ≡ Refused invalid_list_field
malformed_as number region r locked [] bad = refl
malformed_as number region r locked (f ∷ fs) bad = rw bad refl

-- what a well-formed request has as its outcome, whatever its frames are
pub formed_as : (number : ℕ) (region : Region) (r : Registers) (locked : Bool) (asked : Request) (fs : List Frame)
    (told : List Frame → RpmbOutcome) → Asks asked fs
    → ((f : Frame) (gs : List Frame) → f ∷ gs ≡ fs → IsRequest asked f
    → outcome_formed number region r locked f gs ≡ told (f ∷ gs))
    → rpmb_outcome number region r locked fs ≡ told fs
formed_as number region r locked asked [] told asks right = absurd asks
formed_as number region r locked asked (f ∷ fs) told asks right =
    let formed = asks.1 in rw formed (right f fs refl asks.0)

-- the first of these frames
pub first_told : (chunks : List (List ℕ)) (f : Frame) (fs : List Frame) → map frame_in chunks ≡ fs → 1 ≤ length chunks
    → f ≡ frame_in (get_or chunks 0 []) → (more : List Frame) × (f ∷ more ≡ fs)
first_told chunks f fs are some is = (
  map frame_in (drop 1 chunks),
  (λ i. is i ∷ map frame_in (drop 1 chunks)) ∙ ap (map frame_in) (sym (drop_more chunks 0 [] (omega arith))) ∙ are,
)

-- what empties a register for the first frame empties it for all
pub emptied_as : (r : Registers) (f : Frame) (fs : List Frame) → ((more : List Frame) × (f ∷ more ≡ fs))
    → emptied_by (f ∷ []) r ≡ emptied_by fs r
emptied_as r f fs first = ap (λ (gs : List Frame). emptied_by gs r) first.1

-- what fills a register for the first frame fills it for all
pub filled_as : (region : Region) (code : ℕ) (r : Registers) (f : Frame) (fs : List Frame)
    → ((more : List Frame) × (f ∷ more ≡ fs)) → filled_with region (f ∷ []) code r ≡ filled_with region fs code r
filled_as region code r f fs first = ap (λ (gs : List Frame). filled_with region gs code r) first.1

-- the data that all frames ask for are those that the first one asks for
pub asked_as : (region : Region) (code : ℕ) (bytes : List ℕ) (f : Frame) (fs : List Frame)
    → ((more : List Frame) × (f ∷ more ≡ fs)) → HasAskedData region fs code bytes
    → HasAskedData region (f ∷ []) code bytes
asked_as region code bytes f fs first has =
    subst (λ (gs : List Frame). HasAskedData region gs code bytes) (sym first.1) has

-- the data of the frame at an index
payload_of : (o : Option (List ℕ))
    → option_map (λ (b : List ℕ). take 256 (drop 228 b)) o
    ≡ option_map (λ (f : Frame). f.payload) (option_map frame_in o)
payload_of None = refl
payload_of (Some b) = refl

pub data_told : (chunks : List (List ℕ)) (fs : List Frame) (index : ℕ) (found : Option (List ℕ))
    → map frame_in chunks ≡ fs → found ≡ slice_get chunks index
    → option_map (λ (b : List ℕ). take 256 (drop 228 b)) found ≡ data_at fs index
data_told chunks fs index found are e =
    payload_of found
    ∙ ap (option_map (λ (f : Frame). f.payload))
    (ap (option_map frame_in) e ∙ sym (slice_get-map frame_in chunks index)
    ∙ ap (λ (gs : List Frame). slice_get gs index) are)
