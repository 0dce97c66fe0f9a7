-- The data of all frames, one after another.
use Rattle.std.proofs.Common.{◌≡◌, ◌∙◌, ℕ, ◌+◌, ◌<◌, ◌≤◌, ◌/◌, List, [], ◌++◌, ap, arith, get_or, length, map}
use Rattle.std.proofs.Common.{sym, take}
use Rattle.std.specs.Prelude.{IsOk, OnOk, Result, Ok, Err}
use Rattle.std.proofs.lemmas.Bool.{false≢true}
use Rattle.std.proofs.lemmas.List.{flat_map_more, length-map, map_more}
use Rattle.ufs_laws.proofs.rpmb_frames.FramesRead.{length-frames_in}
use Rattle.ufs_spec.specs.Frames.{Frame, frame_in}
use Rattle.rpmb.specs.Requests.{frames_of, payload_in, payloads}

-- what holds where it went well, where it did
pub went_well : {X E : Type 0} (r : Result X E) (P : Type 0) → IsOk r → OnOk r P → P
went_well (Ok x) P is holds = holds
went_well (Err e) P is holds = absurd (false≢true is)

-- so many whole frames are there
pub many_frames : (frames : List (List ℕ)) (bytes : List ℕ) → map frame_in frames ≡ frames_of bytes →
    length frames ≡ length bytes / 512
many_frames frames bytes is =
    sym (length-map frames frame_in) ∙ (ap length is ∙ length-frames_in (length bytes / 512) bytes)

-- 4096 bytes have room for eight frames
pub few_frames : (frames : List (List ℕ)) (bytes : List ℕ) → map frame_in frames ≡ frames_of bytes →
    length bytes ≤ 4096 → length frames ≤ 8
few_frames frames bytes is few =
    let many = many_frames frames bytes is in
    omega arith

-- the data of one more frame
pub data_more : (frames : List (List ℕ)) (i : ℕ) (part : List ℕ) → i < length frames →
    part ≡ payload_in (get_or frames i []) →
    payloads (map frame_in (take i frames)) ++ part ≡ payloads (map frame_in (take (i + 1) frames))
data_more frames i part within e =
    ap (λ (p : List ℕ). payloads (map frame_in (take i frames)) ++ p) e
    ∙ flat_map_more (λ (f : Frame). f.payload) [] (map frame_in (take i frames)) (frame_in (get_or frames i []))
    ∙ ap payloads (sym (map_more frame_in frames i [] within))
