-- What a MAC covers of several frames.
use Rattle.std.proofs.Common.{◌≡◌, ◌∙◌, ℕ, ◌+◌, ◌<◌, List, [], ap, drop, get_or, length, map, sym, take, ◌++◌}
use Rattle.std.proofs.lemmas.List.{flat_map_more, map_more, take_more}
use Rattle.std.specs.List.{flat_map}
use Rattle.ufs_spec.specs.Frames.{covered_bytes, frame_in}

-- one more frame is covered
pub covered_more : (frames : List (List ℕ)) (i : ℕ) (part : List ℕ) → i < length frames
    → part ≡ covered_bytes (frame_in (get_or frames i []))
    → flat_map covered_bytes (map frame_in (take i frames)) ++ part
    ≡ flat_map covered_bytes (map frame_in (take (i + 1) frames))
covered_more frames i part within e =
    ap (λ (p : List ℕ). flat_map covered_bytes (map frame_in (take i frames)) ++ p) e
    ∙ flat_map_more covered_bytes [] (map frame_in (take i frames)) (frame_in (get_or frames i []))
    ∙ ap (flat_map covered_bytes) (sym (map_more frame_in frames i [] within))

-- the bytes from 228 on of one more frame
pub part_more : (frames : List (List ℕ)) (i : ℕ) (part : List ℕ) → i < length frames
    → part ≡ drop 228 (get_or frames i [])
    → flat_map (drop 228) (take i frames) ++ part ≡ flat_map (drop 228) (take (i + 1) frames)
part_more frames i part within e =
    ap (λ (p : List ℕ). flat_map (drop 228) (take i frames) ++ p) e
    ∙ flat_map_more (drop 228) [] (take i frames) (get_or frames i [])
    ∙ ap (flat_map (drop 228)) (sym (take_more frames i [] within))
