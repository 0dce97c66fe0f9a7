-- A frame is written part by part, each behind the last one.
use Rattle.std.proofs.Common.{◌≡◌, ◌∙◌, ℕ, ◌+◌, ◌≤◌, List, ◌++◌, length, take, drop, refl, sym, ap, arith, subst}
use Rattle.std.proofs.Common.{length-append, length-drop, length-take}
use Rattle.std.proofs.lemmas.List.{append_assoc, drop_at, take_all}
use Rattle.std.proofs.lemmas.Slice.{take-put_mid}
use Rattle.byteorder.specs.Endian.{big_bytes}
use Rattle.byteorder.specs.Numbers.{length-bytes_high_first}
use Rattle.ufs_bytes.specs.Fields.{with_field}
use Rattle.ufs_spec.specs.Frames.{Frame, IsFrame, covered_bytes, frame_bytes}
use borrow.Rule.Slice.PartMut.{put_mid, same_len_mid}

-- of the 512 bytes the first ones are these
abbrev pub Begins : ℕ → List ℕ → List ℕ → Type 0
Begins n bytes front = (length bytes ≡ 512) × (take n bytes ≡ front)

-- a part that is written behind these
pub one_part : (m n : ℕ) (bytes written part front : List ℕ) → m + n ≤ 512 → written ≡ part
    → length written ≡ length (take n (drop m bytes)) → Begins m bytes front
    → Begins (m + n) (put_mid m n bytes written) (front ++ part)
one_part m n bytes written part front room same long begins =
    let long_part : length written ≡ n =
    omega (arith, long, begins.0, length-take n (drop m bytes), length-drop m bytes) in (
      same_len_mid m n bytes written long ∙ begins.0,
      take-put_mid m n bytes written (m + n) (omega (arith, long_part)) (omega (arith, begins.0))
          ∙ (λ i. begins.1 i ++ same i),
    )

-- a number that is written behind these
pub one_number : (m n x : ℕ) (bytes new front : List ℕ) → m + n ≤ 512 → new ≡ with_field n m x bytes
    → Begins m bytes front → Begins (m + n) new (front ++ big_bytes n x)
one_number m n x bytes new front room e begins =
    let long : length (big_bytes n x) ≡ length (take n (drop m bytes)) =
    omega (arith, length-bytes_high_first n x, begins.0, length-take n (drop m bytes), length-drop m bytes) in
    subst (λ l. Begins (m + n) l (front ++ big_bytes n x)) (sym e)
    (one_part m n bytes (big_bytes n x) (big_bytes n x) front room refl long begins)

-- what begins 512 bytes and has as many is all of them
pub all_bytes : (bytes front : List ℕ) → Begins 512 bytes front → bytes ≡ front
all_bytes bytes front begins = sym (take_all 512 bytes (omega (arith, begins.0))) ∙ begins.1

-- one more list, behind lists that follow a front
behind : (front lists more joined : List ℕ) → joined ≡ front ++ lists → joined ++ more ≡ front ++ (lists ++ more)
behind front lists more joined e = ap (λ l. l ++ more) e ∙ append_assoc front lists more

-- the parts of a frame, one after another
pub in_order : (f : Frame) → f.stuff ++ f.key_or_mac ++ f.payload ++ f.nonce ++ big_bytes 4 f.counter
    ++ big_bytes 2 f.address ++ big_bytes 2 f.count ++ big_bytes 2 f.result ++ big_bytes 2 f.kind ≡ frame_bytes f
in_order f =
    let front : List ℕ = f.stuff ++ f.key_or_mac in
    behind front _ (big_bytes 2 f.kind) _
    (behind front _ (big_bytes 2 f.result) _
    (behind front _ (big_bytes 2 f.count) _
    (behind front _ (big_bytes 2 f.address) _
    (behind front _ (big_bytes 4 f.counter) _ (append_assoc front f.payload f.nonce)))))

-- the bytes from 228 on are those that the MAC covers
pub covered_behind : (f : Frame) (bytes : List ℕ) → IsFrame f → frame_bytes f ≡ bytes → drop 228 bytes ≡ covered_bytes f
covered_behind f bytes is e =
    ap (drop 228) (sym e)
    ∙ drop_at (f.stuff ++ f.key_or_mac) (covered_bytes f) 228
    (omega (arith, length-append f.stuff f.key_or_mac, is.stuff.0, is.key_or_mac.0))
