-- From the last whole block of a message to its digest.
use Rattle.std.proofs.Common.{◌≡◌, ℕ, zero, suc, ◌+◌, ◌-◌, ◌*◌, ◌/◌, ◌%◌, ◌^◌, ◌≤◌, List, ◌∷◌, ◌++◌, length}
use Rattle.std.proofs.Common.{take, drop, replicate, slice_set, refl, sym, ap, ◌∙◌, arith, append_assoc}
use Rattle.std.proofs.Common.{length-append, length-drop, add-zero}
use Rattle.std.proofs.lemmas.List.{take-append-drop, length-take-le, drop-append-le, drop-replicate, take-append-le, take-replicate, length-replicate}
use Rattle.std.proofs.lemmas.Slice.{take-put_mid}
use Rattle.std.proofs.Math.Nat.{add-suc}
use Rattle.std.proofs.Math.Seq.{drop-append-add, take-append-add, set-append_seam}
use Rattle.std.specs.Int.{w64, to_be_bytes}
use Rattle.sha2.specs.Sha256.{compress, digest_bytes, final_hash, hash_after, initial_hash_256, padded_message}
use Rattle.sha2.specs.Sha256.{padding, sha256}
use Rattle.sha2.proofs.Absorbing256.{hash_after-append, hash_after_next}
use Rattle.sha256_lanes.specs.Keyed.{AreFour, part}
use Rattle.sha256_lanes.specs.Lanes.{of_four, tail_size}
use Rattle.sha256_lanes.proofs.LaneByLane.{of_four-part}
use borrow.Rule.Slice.PartMut.{put_mid}

-- one more block of message j
pub next_block : (j : ℕ) (ini h next a b c d : List ℕ) (i from to : ℕ) → from ≡ i * 64 → to - from ≡ 64
    → h ≡ hash_after ini (of_four a b c d j) i
    → next ≡ compress h (of_four (take (to - from) (drop from a)) (take (to - from) (drop from b))
    (take (to - from) (drop from c)) (take (to - from) (drop from d)) j)
    → next ≡ hash_after ini (of_four a b c d j) (i + 1)
next_block j ini h next a b c d i from to start width held e =
    let m : List ℕ = of_four a b c d j in
    (rw (width, start) at e)
    ∙ ap (compress h) (of_four-part a b c d 64 (i * 64) j)
    ∙ ap (λ (s : List ℕ). compress s (take 64 (drop (i * 64) m))) held
    ∙ sym (hash_after_next ini m i)

-- n blocks, and k more
hash_after_more : (ini x t : List ℕ) (n k : ℕ) → length x ≡ n * 64
    → hash_after ini (x ++ t) (n + k) ≡ hash_after (hash_after ini x n) t k
unfolding hash_after
hash_after_more ini x t n zero e = rw (add-zero n) (hash_after-append ini x t n (omega arith))
hash_after_more ini x t n (suc k) e =
    let len : (n + k) * 64 ≡ length x + k * 64 = omega arith in
    let same : drop ((n + k) * 64) (x ++ t) ≡ drop (k * 64) t = rw len (drop-append-add x t (k * 64)) in
    rw (add-suc n k, same, hash_after_more ini x t n k e) refl

-- whole blocks after whole blocks
pub taken : (ini p m h s : List ℕ) → length p % 64 ≡ 0 → length m % 64 ≡ 0 → h ≡ hash_after ini p (length p / 64)
    → s ≡ hash_after h m (length m / 64) → s ≡ hash_after ini (p ++ m) (length (p ++ m) / 64)
taken ini p m h s wp wm eh es =
    let count : length (p ++ m) / 64 ≡ length p / 64 + length m / 64 = omega (arith, length-append p m) in
    rw (count, hash_after_more ini p m (length p / 64) (length m / 64) (omega arith), ← eh) es

-- the same of message j of four, of one length each
pub each_taken : (ini e f g h a b c d : List ℕ) (j : ℕ) (s0 s1 : List ℕ) → length e % 64 ≡ 0 → length f ≡ length e
    → length g ≡ length e → length h ≡ length e → length a % 64 ≡ 0 → length b ≡ length a → length c ≡ length a
    → length d ≡ length a → s0 ≡ hash_after ini (of_four e f g h j) (length e / 64)
    → s1 ≡ hash_after s0 (of_four a b c d j) (length a / 64)
    → s1 ≡ hash_after ini (of_four (e ++ a) (f ++ b) (g ++ c) (h ++ d) j) (length (e ++ a) / 64)
each_taken ini e f g h a b c d zero s0 s1 we lf lg lh wa lb lc ld e0 e1 =
    taken ini e a s0 s1 we wa e0 e1
each_taken ini e f g h a b c d (suc zero) s0 s1 we lf lg lh wa lb lc ld e0 e1 =
    let same : length (f ++ b) ≡ length (e ++ a) = omega (arith, length-append f b, length-append e a) in
    rw (← same) (taken ini f b s0 s1 (omega arith) (omega arith) (rw lf e0) (rw lb e1))
each_taken ini e f g h a b c d (suc (suc zero)) s0 s1 we lf lg lh wa lb lc ld e0 e1 =
    let same : length (g ++ c) ≡ length (e ++ a) = omega (arith, length-append g c, length-append e a) in
    rw (← same) (taken ini g c s0 s1 (omega arith) (omega arith) (rw lg e0) (rw lc e1))
each_taken ini e f g h a b c d (suc (suc (suc j))) s0 s1 we lf lg lh wa lb lc ld e0 e1 =
    let same : length (h ++ d) ≡ length (e ++ a) = omega (arith, length-append h d, length-append e a) in
    rw (← same) (taken ini h d s0 s1 (omega arith) (omega arith) (rw lh e0) (rw ld e1))

-- the hash value of a message that has the whole blocks p and its last part m, after p, after q blocks of m and after
-- the tail t
hashed : (ini p m t s0 s1 s2 : List ℕ) (q k : ℕ) → q * 64 ≤ length m → length p % 64 ≡ 0
    → s0 ≡ hash_after ini p (length p / 64)
    → s1 ≡ hash_after s0 m q → t ≡ drop (q * 64) m ++ padding (length (p ++ m))
    → s2 ≡ hash_after s1 t k → k ≡ length t / 64 → s2 ≡ final_hash ini (p ++ m)
hashed ini p m t s0 s1 s2 q k within whole e0 e1 et e2 ek =
    let x : List ℕ = take (q * 64) m in
    let pad : List ℕ = padding (length (p ++ m)) in
    let lx : length x ≡ q * 64 = length-take-le (q * 64) m (omega arith) in
    let lp : length (p ++ x) ≡ (length p / 64 + q) * 64 = omega (arith, length-append p x) in
    let parts : x ++ drop (q * 64) m ≡ m = take-append-drop (q * 64) m in
    let end : x ++ t ≡ m ++ pad =
    rw et (sym (append_assoc x (drop (q * 64) m) pad) ∙ ap (λ (y : List ℕ). y ++ pad) parts) in
    let all : (p ++ x) ++ t ≡ padded_message (p ++ m) =
    append_assoc p x t ∙ ap (λ (y : List ℕ). p ++ y) end ∙ sym (append_assoc p m pad) in
    let count : length (padded_message (p ++ m)) / 64 ≡ length p / 64 + q + k =
    omega (arith, ap length all, length-append (p ++ x) t) in
    let before : s1 ≡ hash_after ini (p ++ x) (length p / 64 + q) =
    e1 ∙ ap (λ (y : List ℕ). hash_after s0 y q) (sym parts) ∙ hash_after-append s0 x (drop (q * 64) m) q (omega arith)
    ∙ ap (λ (s : List ℕ). hash_after s x q) e0 ∙ sym (hash_after_more ini p x (length p / 64) q (omega arith)) in
    e2 ∙ ap (λ (s : List ℕ). hash_after s t k) before ∙ sym (hash_after_more ini (p ++ x) t (length p / 64 + q) k lp)
    ∙ ap (λ (y : List ℕ). hash_after ini y (length p / 64 + q + k)) all
    ∙ ap (hash_after ini (padded_message (p ++ m))) (sym count)

-- the digest of a message, from what each step gives: s0 is the hash value after its whole blocks p, s1 after those of
-- its last part m, which has n bytes, and s2 after its tail, which is as long as another message's
pub digest_of : (p m other tail s0 s1 s2 out : List ℕ) (n k end : ℕ) → length p % 64 ≡ 0 → k ≡ length p / 64
    → length m ≡ n → end ≡ tail_size n → length other ≡ 128 → length tail ≡ 128
    → s0 ≡ hash_after initial_hash_256 p k → s1 ≡ hash_after s0 m (n / 64)
    → take (tail_size (length m)) tail ≡ drop (length m / 64 * 64) m ++ padding (length (p ++ m))
    → s2 ≡ hash_after s1 (take end tail) (length (take end other) / 64) → out ≡ digest_bytes s2 8
    → out ≡ sha256 (p ++ m)
unfolding sha256
digest_of p m other tail s0 s1 s2 out n k end whole ek en size lo lt e0 e1 et e2 eo =
    let short : end ≤ 128 = omega arith in
    let same : length (take end other) ≡ length (take end tail) =
    length-take-le end other (omega arith) ∙ sym (length-take-le end tail (omega arith)) in
    let at : tail_size (length m) ≡ end = rw en (sym size) in
    let ended : take end tail ≡ drop (length m / 64 * 64) m ++ padding (length (p ++ m)) =
    ap (λ (k : ℕ). take k tail) (sym at) ∙ et in
    eo ∙ ap (λ (h : List ℕ). digest_bytes h 8)
    (hashed initial_hash_256 p m (take end tail) s0 s1 s2 (length m / 64) _ (omega arith) whole (rw ek at e0) (rw en e1)
    ended e2
    (ap (λ (k : ℕ). k / 64) same))

-- so many zeros
abbrev zeros : ℕ → List ℕ
zeros k = replicate k 0

-- a message's last bytes, a bit 1 and the length over so many zeros are these bytes and the padding
pub padded_end : (rest ys : List ℕ) (room n total used end k : ℕ) → total ≡ n % 2 ^ 64 → used ≡ length rest
    → end ≡ used + 1 + (119 - n % 64) % 64 + 8 → end ≤ room → ys ≡ to_be_bytes w64 (total * 8 % 2 ^ 64)
    → take end (put_mid (end - 8) k (slice_set (rest ++ drop used (zeros room)) used 0x80) ys) ≡ rest ++ padding n
padded_end rest ys room n total used end k et eu ee within ey =
    let bits : total * 8 % 2 ^ 64 ≡ n * 8 % 2 ^ 64 = omega arith in
    let z : ℕ = (119 - n % 64) % 64 in
    let left : ℕ = room - used - 1 in
    let ly : length ys ≡ 8 = rw ey refl in
    let more : room - used ≡ suc left = omega arith in
    let behind : drop used (zeros room) ≡ 0 ∷ zeros left =
    drop-replicate {X = ℕ} used room 0 ∙ ap (λ (k : ℕ). zeros k) more in
    let marked : slice_set (rest ++ drop used (zeros room)) used 0x80 ≡ rest ++ 0x80 ∷ zeros left =
    rw behind
    (ap (λ (i : ℕ). slice_set (rest ++ 0 ∷ zeros left) i 0x80) eu ∙ set-append_seam rest 0 (zeros left) 0x80) in
    let long : length (rest ++ 0x80 ∷ zeros left) ≡ room =
    omega (arith, length-append rest (0x80 ∷ zeros left), length-replicate {A = ℕ} left 0) in
    let some : take z (zeros left) ≡ zeros z = take-replicate z left 0 (omega arith) in
    let to : end - 8 ≡ length rest + suc z = omega arith in
    let front : take (end - 8) (rest ++ 0x80 ∷ zeros left) ≡ rest ++ 0x80 ∷ zeros z =
    rw (to, take-append-add rest (0x80 ∷ zeros left) (suc z), some) refl in
    rw marked
    (take-put_mid (end - 8) k (rest ++ 0x80 ∷ zeros left) ys end (omega arith) (omega arith))
    ∙ ap (λ (f : List ℕ). f ++ ys) front ∙ append_assoc rest (0x80 ∷ zeros z) ys ∙ rw (ey, bits) refl

-- the bytes after the last whole block, a bit 1 and the length over 128 zeros are the tail
pub tail_is : (m rest ys : List ℕ) (n total used end k : ℕ) → n % 64 ≡ length m % 64 → total ≡ n % 2 ^ 64
    → used ≡ length m - length m / 64 * 64 → end ≡ tail_size (length m)
    → rest ≡ drop (length m / 64 * 64) m → ys ≡ to_be_bytes w64 (total * 8 % 2 ^ 64)
    → take (tail_size (length m)) (put_mid (end - 8) k (slice_set (rest ++ drop used (zeros 128)) used 0x80) ys)
    ≡ drop (length m / 64 * 64) m ++ padding n
tail_is m rest ys n total used end k en et eu ee er ey =
    let lr : used ≡ length rest = omega (arith, ap length er, length-drop (length m / 64 * 64) m) in
    let size : end ≡ used + 1 + (119 - n % 64) % 64 + 8 = omega arith in
    rw (← ee) (padded_end rest ys 128 n total used end k et lr size (omega arith) ey ∙ rw er refl)

-- k blocks more of a message
pub blocks_more : (ini p s next : List ℕ) (n k all : ℕ) → s ≡ hash_after ini p n → n * 64 ≤ length p
    → next ≡ hash_after s (drop (n * 64) p) k → n + k ≡ all → next ≡ hash_after ini p all
blocks_more ini p s next n k all es within en ea =
    let x : List ℕ = take (n * 64) p in
    let y : List ℕ = drop (n * 64) p in
    let lx : length x ≡ n * 64 = length-take-le (n * 64) p within in
    let both : x ++ y ≡ p = take-append-drop (n * 64) p in
    let before : s ≡ hash_after ini x n =
    es ∙ ap (λ (z : List ℕ). hash_after ini z n) (sym both) ∙ hash_after-append ini x y n (omega arith) in
    en ∙ ap (λ (h : List ℕ). hash_after h y k) before ∙ sym (hash_after_more ini x y n k lx)
    ∙ ap (λ (z : List ℕ). hash_after ini z (n + k)) both ∙ ap (hash_after ini p) ea

-- one block more
pub part_next : (ini p s next : List ℕ) (i : ℕ) → s ≡ hash_after ini p i → next ≡ compress s (part p i)
    → next ≡ hash_after ini p (i + 1)
part_next ini p s next i es en =
    let at : 64 * i ≡ i * 64 = omega arith in
    en ∙ rw (es, at) (sym (hash_after_next ini p i))

-- the first of them
pub part_first : (p s next : List ℕ) → next ≡ compress s (part p 0) → next ≡ hash_after s p 1
unfolding hash_after
part_first p s next en = en

-- four blocks of a message are blocks of the message
pub four_of : (p : List ℕ) (rows : List (List ℕ)) → 256 ≤ length p → AreFour (take 256 p) rows → AreFour p rows
four_of p rows long held = λ j lt.
    let x : List ℕ = take 256 p in
    let y : List ℕ = drop 256 p in
    let lx : length x ≡ 256 = length-take-le 256 p long in
    let within : 64 ≤ length (drop (64 * j) x) = omega (arith, length-drop (64 * j) x) in
    let same : part p j ≡ part x j =
    ap (λ (z : List ℕ). part z j) (sym (take-append-drop 256 p))
    ∙ rw (drop-append-le (64 * j) x y (omega arith)) (take-append-le 64 (drop (64 * j) x) y within) in
    rw same (held j lt)

-- the same of four blocks in a message
pub four_at : (p : List ℕ) (rows : List (List ℕ)) (i : ℕ) → 256 * i + 256 ≤ length p
    → AreFour (take (256 * i + 256 - 256 * i) (drop (256 * i) p)) rows → AreFour (drop (4 * i * 64) p) rows
four_at p rows i long held =
    let width : 256 * i + 256 - 256 * i ≡ 256 = omega arith in
    let start : 4 * i * 64 ≡ 256 * i = omega arith in
    rw start (four_of (drop (256 * i) p) rows (omega (arith, length-drop (256 * i) p)) (rw width at held))

-- the digest of a message that has the whole blocks p and its last part m, of which the first q blocks come before the
-- last bytes: s0 is the hash value after p, s1 after these blocks, and s2 after the last bytes with the padding, which
-- are the first bytes of t
pub digest_of_one : (p m fours rest t s0 s1 s2 out : List ℕ) (q end : ℕ) → length p % 64 ≡ 0
    → s0 ≡ hash_after initial_hash_256 p (length p / 64) → fours ≡ take (q * 64) m → rest ≡ drop (q * 64) m
    → q * 64 ≤ length m → s1 ≡ hash_after s0 fours (length fours / 64)
    → end ≤ length t → take end t ≡ rest ++ padding (length (p ++ m))
    → s2 ≡ hash_after s1 t (end / 64) → out ≡ digest_bytes s2 8 → out ≡ sha256 (p ++ m)
unfolding sha256
digest_of_one p m fours rest t s0 s1 s2 out q end whole e0 ef er within e1 le et e2 eo =
    let lf : length fours ≡ q * 64 = ap length ef ∙ length-take-le (q * 64) m within in
    let count : length fours / 64 ≡ q = omega arith in
    let parts : fours ++ drop (q * 64) m ≡ m = rw ef (take-append-drop (q * 64) m) in
    let taken : s1 ≡ hash_after s0 m q =
    e1 ∙ ap (hash_after s0 fours) count ∙ sym (hash_after-append s0 fours (drop (q * 64) m) q (omega arith))
    ∙ ap (λ (z : List ℕ). hash_after s0 z q) parts in
    let lt : length (take end t) ≡ end = length-take-le end t le in
    let last : s2 ≡ hash_after s1 (take end t) (end / 64) =
    e2 ∙ ap (λ (z : List ℕ). hash_after s1 z (end / 64)) (sym (take-append-drop end t))
    ∙ hash_after-append s1 (take end t) (drop end t) (end / 64) (omega arith) in
    eo ∙ ap (λ (h : List ℕ). digest_bytes h 8)
    (hashed initial_hash_256 p m (take end t) s0 s1 s2 q (end / 64) within whole e0 taken (et ∙ rw er refl) last
    (ap (λ (n : ℕ). n / 64) (sym lt)))
