-- The bytes of frames, one after another, and the MAC of all in the last one.
use Rattle.std.proofs.Common.{◌≡◌, ◌∙◌, ℕ, ◌*◌, List, [], ◌∷◌, ◌++◌, Some, ap, arith, drop, length, map, refl, sym}
use Rattle.std.proofs.Common.{length-append}
use Rattle.std.proofs.lemmas.Grind.{flat_map-append}
use Rattle.std.proofs.lemmas.List.{append-nil, drop_at, map-append}
use Rattle.std.specs.List.{flat_map}
use Rattle.ufs_spec.specs.Frames.{Frame, covered_bytes, frame_bytes}
use Rattle.ufs_spec.specs.Rpmb.{frames_mac, mac}
use Rattle.ufs_spec.specs.RpmbResponses.{signed, with_last_mac}

-- what the MAC covers of a frame
pub covered_of : (f : Frame) (bytes part : List ℕ) → length f.stuff ≡ 196 → length f.key_or_mac ≡ 32
    → bytes ≡ frame_bytes f → part ≡ drop 228 bytes → part ≡ covered_bytes f
covered_of f bytes part stuff key is place =
    place ∙ ap (drop 228) is
    ∙ drop_at (f.stuff ++ f.key_or_mac) (covered_bytes f) 228
    (omega (arith, length-append f.stuff f.key_or_mac, stuff, key))

-- one more frame
pub one_more : (g : Frame → List ℕ) (fs : List Frame) (f : Frame) → flat_map g fs ++ g f ≡ flat_map g (fs ++ f ∷ [])
one_more g fs f = ap (λ l. flat_map g fs ++ l) (sym (append-nil (g f))) ∙ sym (flat_map-append g fs (f ∷ []))

-- the MAC is in the last frame
last_signed : (m : List ℕ) (fs : List Frame) (f : Frame)
    → with_last_mac m (fs ++ f ∷ []) ≡ fs ++ record f { key_or_mac = m } ∷ []
last_signed m [] f = refl
last_signed m (g ∷ []) f = refl
last_signed m (g ∷ h ∷ gs) f = ap (λ (l : List Frame). g ∷ l) (last_signed m (h ∷ gs) f)

-- the frames before the last one, and the last one with the MAC of all
pub all_signed : (key m bytes : List ℕ) (fs : List Frame) (f : Frame)
    → m ≡ mac key (flat_map covered_bytes fs ++ covered_bytes f)
    → bytes ≡ flat_map frame_bytes fs ++ frame_bytes (record f { key_or_mac = m })
    → bytes ≡ flat_map frame_bytes (signed (Some key) (fs ++ f ∷ []))
all_signed key m bytes fs f is_mac is =
    let same : m ≡ frames_mac key (fs ++ f ∷ []) = is_mac ∙ ap (mac key) (one_more covered_bytes fs f) in
    is ∙ one_more frame_bytes fs (record f { key_or_mac = m })
    ∙ ap (flat_map frame_bytes) (sym (last_signed m fs f))
    ∙ ap (λ (n : List ℕ). flat_map frame_bytes (with_last_mac n (fs ++ f ∷ []))) same

-- the bytes of one more frame, and how many they are
pub grown : (old new bytes : List ℕ) (fs : List Frame) (f : Frame) → old ≡ flat_map frame_bytes fs
    → bytes ≡ frame_bytes f → new ≡ old ++ bytes → new ≡ flat_map frame_bytes (fs ++ f ∷ [])
grown old new bytes fs f e is more = more ∙ (λ i. e i ++ is i) ∙ one_more frame_bytes fs f

pub longer : (old new bytes : List ℕ) (fs : List Frame) (f : Frame) → length old ≡ 512 * length fs
    → length bytes ≡ 512 → new ≡ old ++ bytes → length new ≡ 512 * length (fs ++ f ∷ [])
longer old new bytes fs f long one more =
    omega (arith, ap length more, length-append old bytes, length-append fs (f ∷ []), long, one)

-- a frame for each block of these, and one for the last block
pub each_block : (g : List ℕ → Frame) (blocks front : List (List ℕ)) (last : List ℕ) → blocks ≡ front ++ last ∷ []
    → map g blocks ≡ map g front ++ g last ∷ []
each_block g blocks front last e = ap (map g) e ∙ map-append g front (last ∷ [])
