-- Frames with the MAC of all in the last one.
use Rattle.std.proofs.Common.{◌≡◌, ◌∙◌, ◌-◌, ℕ, List, [], ◌∷◌, ◌++◌, Option, Some, ap, append_assoc}
use Rattle.std.proofs.Common.{append-nil, arith, drop, get_or, length, length-append, map, refl, set, sym, take}
use Rattle.std.proofs.lemmas.List.{drop_at, length-map, take-append-drop, take_at}
use Rattle.std.proofs.lemmas.Slice.{drop-put_mid, take-put_mid}
use Rattle.std.specs.List.{flat_map}
use Rattle.ufs_spec.specs.Frames.{Frame, covered_bytes, frame_bytes}
use Rattle.ufs_spec.specs.Rpmb.{frames_mac, mac}
use Rattle.ufs_spec.specs.RpmbResponses.{signed, with_last_mac}
use Rattle.rpmb.specs.Answers.{HasPlaces, HavePlaces}
use borrow.Rule.Slice.PartMut.{put_mid}

-- a MAC that is written between byte 196 and byte 228
pub written_between : (bytes written made : List ℕ) → length bytes ≡ 512 → length made ≡ 32 → written ≡ made
    → put_mid 196 32 bytes written ≡ take 196 bytes ++ (made ++ drop 228 bytes)
written_between bytes written made long short e =
    let short_written : length written ≡ 32 = ap length e ∙ short in
    sym (take-append-drop 228 (put_mid 196 32 bytes written))
    ∙ (λ i.
    take-put_mid 196 32 bytes written 228 (omega (arith, short_written)) (omega (arith, long)) i
    ++ drop-put_mid 196 32 bytes written 228 (omega arith) (omega (arith, long)) short_written i)
    ∙ append_assoc (take 196 bytes) written (drop 228 bytes)
    ∙ ap (λ (m : List ℕ). take 196 bytes ++ (m ++ drop 228 bytes)) e

-- the bytes from 228 on are those that the MAC covers
covered_behind : (f : Frame) → HasPlaces f → drop 228 (frame_bytes f) ≡ covered_bytes f
covered_behind f has =
    drop_at (f.stuff ++ f.key_or_mac) (covered_bytes f) 228
    (omega (arith, length-append f.stuff f.key_or_mac, has.stuff, has.key_or_mac))

-- a frame's bytes with another MAC are those of the frame with it
put_in : (f : Frame) (made : List ℕ) → HasPlaces f
    → take 196 (frame_bytes f) ++ (made ++ drop 228 (frame_bytes f)) ≡ frame_bytes (record f { key_or_mac = made })
put_in f made has =
    (λ i. (ap (take 196) (append_assoc f.stuff f.key_or_mac (covered_bytes f)) ∙ take_at f.stuff _ 196 has.stuff) i
    ++ (made ++ covered_behind f has i))
    ∙ sym (append_assoc f.stuff made (covered_bytes f))

-- one frame with its MAC
pub signed_one : (key : List ℕ) (f : Frame) (bytes made : List ℕ) → HasPlaces f → bytes ≡ frame_bytes f
    → made ≡ mac key (drop 228 bytes)
    → take 196 bytes ++ (made ++ drop 228 bytes) ≡ frame_bytes (record f { key_or_mac = frames_mac key (f ∷ []) })
signed_one key f bytes made has e is =
    (λ i. take 196 (e i) ++ (made ++ drop 228 (e i)))
    ∙ put_in f made has
    ∙ ap (λ (m : List ℕ). frame_bytes (record f { key_or_mac = m }))
    (is ∙ ap (mac key) (ap (drop 228) e ∙ covered_behind f has ∙ sym (append-nil (covered_bytes f))))

-- what the MAC covers in all frames
covered_all : (fs : List Frame) → HavePlaces fs → flat_map (drop 228) (map frame_bytes fs) ≡ flat_map covered_bytes fs
covered_all [] have = refl
covered_all (f ∷ fs) have = λ i. covered_behind f have.0 i ++ covered_all fs have.1 i

-- the last frame gets a MAC
last_put : (made : List ℕ) (f : Frame) (fs : List Frame) → HavePlaces (f ∷ fs)
    → (last : List ℕ) → last ≡ get_or (map frame_bytes (f ∷ fs)) (length fs) []
    → set (map frame_bytes (f ∷ fs)) (length fs) (take 196 last ++ (made ++ drop 228 last))
    ≡ map frame_bytes (with_last_mac made (f ∷ fs))
last_put made f [] have last e =
    ap (λ (b : List ℕ). b ∷ []) ((λ i. take 196 (e i) ++ (made ++ drop 228 (e i))) ∙ put_in f made have.0)
last_put made f (g ∷ gs) have last e = ap (λ (l : List (List ℕ)). frame_bytes f ∷ l) (last_put made g gs have.1 last e)

-- all frames of a response, with the MAC in the last one
pub signed_all : (key : Option (List ℕ)) (k : List ℕ) (frames : List (List ℕ)) (fs : List Frame)
    (last made new : List ℕ) → key ≡ Some k → HavePlaces fs → frames ≡ map frame_bytes fs
    → last ≡ get_or frames (length frames - 1) [] → made ≡ mac k (flat_map (drop 228) frames)
    → new ≡ take 196 last ++ (made ++ drop 228 last)
    → set frames (length frames - 1) new ≡ map frame_bytes (signed key fs)
signed_all key k frames [] last made new is_key have e at is is_new =
    rw (e, is_key) refl
signed_all key k frames (f ∷ fs) last made new is_key have e at is is_new =
    let long : length frames - 1 ≡ length fs =
    omega (arith, ap length e, length-map (f ∷ fs) frame_bytes) in
    (λ i. set (e i) (long i) (is_new i))
    ∙ last_put made f fs have last (at ∙ (λ i. get_or (e i) (long i) []))
    ∙ (λ i. map frame_bytes (with_last_mac
    ((is ∙ ap (mac k) (ap (flat_map (drop 228)) e ∙ covered_all (f ∷ fs) have)) i) (f ∷ fs)))
    ∙ ap (λ (o : Option (List ℕ)). map frame_bytes (signed o (f ∷ fs))) (sym is_key)

-- one frame is the whole response
pub signed_alone : (key : Option (List ℕ)) (k : List ℕ) (f : Frame) (bytes made new : List ℕ) → key ≡ Some k
    → HasPlaces f → bytes ≡ frame_bytes f → made ≡ mac k (drop 228 bytes)
    → new ≡ take 196 bytes ++ (made ++ drop 228 bytes)
    → new ∷ [] ≡ map frame_bytes (signed key (f ∷ []))
signed_alone key k f bytes made new is_key has e is is_new =
    ap (λ (b : List ℕ). b ∷ []) (is_new ∙ signed_one k f bytes made has e is)
    ∙ ap (λ (o : Option (List ℕ)). map frame_bytes (signed o (f ∷ []))) (sym is_key)
