-- The pages whose rests come by one read, one after another.
use Rattle.write_cache.proofs.Common.{Bool, List, None, Option, Pending, Rest, Some, [], ap, append-nil, arith, awaits}
use Rattle.write_cache.proofs.Common.{base_behind, completed, completed_at, completed_by, cond, drop, drop_all, false}
use Rattle.write_cache.proofs.Common.{is_some, length, list_any, none-some, option_and_then, option_map, passes, refl}
use Rattle.write_cache.proofs.Common.{rests_filled, same_Some, set_length, shown, slice_get, slice_set, suc, sym, take}
use Rattle.write_cache.proofs.Common.{tells, true, true≢false, waits, zero, ℕ, ◌++◌, ◌+◌, ◌<◌, ◌||◌, ◌∙◌, ◌∷◌, ◌≡◌, ◌≤◌}
use Rattle.std.proofs.Common.{add-one}
use Rattle.std.proofs.lemmas.List.{take_all}
use Rattle.ufs_spec.specs.declared.layer.Name.{Name}
use Rattle.write_cache.specs.Rests.{awaited_by, body_or, comes_by, own_name}

-- What stays

pub shown_kept : (base : List ℕ) (o : Option Rest) (p : Pending) → shown (completed_by base o p) ≡ shown p
shown_kept base None p = refl
shown_kept base (Some r) p = refl

pub keys_kept : (base : List ℕ) (o : Option Rest) (p : Pending) → (completed_by base o p).key ≡ p.key
keys_kept base None p = refl
keys_kept base (Some r) p = refl

pub places_kept : (base : List ℕ) (o : Option Rest) (p : Pending) → (completed_by base o p).written ≡ p.written
places_kept base None p = refl
places_kept base (Some r) p = refl

-- there are as many pages
pub rests_length : (name : Name) (base : List ℕ) (ps : List Pending) → length (rests_filled name base ps) ≡ length ps
rests_length name base [] = refl
rests_length name base (p ∷ ps) = by (awaits name p) (rests_length name (completed base p).body ps)
    (rests_length name base ps)
  where
    by : (c : Bool) → length (rests_filled name (completed base p).body ps) ≡ length ps →
        length (rests_filled name base ps) ≡ length ps → length
        (cond c (completed base p ∷ rests_filled name (completed base p).body ps) (p ∷ rests_filled name base ps))
        ≡ suc (length ps)
    by true filled same = ap suc filled
    by false filled same = ap suc same

-- none of them waits for that read any more
rest_gone : (name : Name) (base : List ℕ) (o : Option Rest) (p : Pending) → p.rest ≡ o →
    awaits name (completed_by base o p) ≡ false
rest_gone name base None p e = ap (λ (o : Option Rest). comes_by name (awaited_by (own_name p) o)) e
rest_gone name base (Some r) p e = refl

pub none_waits : (name : Name) (base : List ℕ) (ps : List Pending) →
    list_any (awaits name) (rests_filled name base ps) ≡ false
none_waits name base [] = refl
none_waits name base (p ∷ ps) = by (awaits name p) refl (none_waits name (completed base p).body ps)
    (none_waits name base ps)
  where
    by : (c : Bool) → awaits name p ≡ c →
        list_any (awaits name) (rests_filled name (completed base p).body ps) ≡ false →
        list_any (awaits name) (rests_filled name base ps) ≡ false → list_any (awaits name)
        (cond c (completed base p ∷ rests_filled name (completed base p).body ps) (p ∷ rests_filled name base ps))
        ≡ false
    by true e filled same =
        ap (λ (b : Bool). b || list_any (awaits name) (rests_filled name (completed base p).body ps))
        (rest_gone name base p.rest p refl)
        ∙ filled
    by false e filled same = ap (λ (b : Bool). b || list_any (awaits name) (rests_filled name base ps)) e ∙ same

-- One page further

further : (name : Name) (base block : List ℕ) (ps : List Pending) (k : ℕ) (p : Pending) → slice_get ps k ≡ Some p →
    awaits name p ≡ true →
    take k ps ++ rests_filled name base (drop k ps)
    ≡ take (suc k) (slice_set ps k (completed base p))
    ++ rests_filled name (body_or block (slice_get (slice_set ps k (completed base p)) k))
    (drop (suc k) (slice_set ps k (completed base p)))
further name base block [] k p at w = absurd (none-some p at)
further name base block (x ∷ ps) zero p at w =
    ap (λ (y : Pending). rests_filled name base (y ∷ ps)) (same_Some x p at)
    ∙ ap (λ (c : Bool). cond c (completed base p ∷ rests_filled name (completed base p).body ps)
    (p ∷ rests_filled name base ps)) w
further name base block (x ∷ ps) (suc k) p at w =
    ap (λ (qs : List Pending). x ∷ qs) (further name base block ps k p at w)

beyond : (name : Name) (base : List ℕ) (ps : List Pending) (k : ℕ) (p : Pending) → slice_get ps k ≡ Some p →
    awaits name p ≡ false →
    take k ps ++ rests_filled name base (drop k ps) ≡ take (suc k) ps ++ rests_filled name base (drop (suc k) ps)
beyond name base [] k p at w = absurd (none-some p at)
beyond name base (x ∷ ps) zero p at w =
    ap (λ (c : Bool). cond c (completed base x ∷ rests_filled name (completed base x).body ps)
    (x ∷ rests_filled name base ps)) (ap (awaits name) (same_Some x p at) ∙ w)
beyond name base (x ∷ ps) (suc k) p at w =
    ap (λ (qs : List Pending). x ∷ qs) (beyond name base ps k p at w)

-- a page that waits has its content then
pub filled_more : (name : Name) (base block : List ℕ) (ps qs : List Pending) (k : ℕ) (p : Pending) →
    slice_get ps k ≡ Some p → awaits name p ≡ true → qs ≡ completed_at base ps k (slice_get ps k) →
    take k ps ++ rests_filled name base (drop k ps)
    ≡ take (k + 1) qs ++ rests_filled name (base_behind block qs (Some k)) (drop (k + 1) qs)
filled_more name base block ps qs k p at w is =
    further name base block ps k p at w
    ∙ ap (λ (m : ℕ). take m rs ++ rests_filled name (base_behind block rs (Some k)) (drop m rs)) (sym (add-one k))
    ∙ ap (λ (zs : List Pending). take (k + 1) zs ++ rests_filled name (base_behind block zs (Some k)) (drop (k + 1) zs))
    (sym (is ∙ ap (completed_at base ps k) at))
  where
    rs : List Pending
    rs = slice_set ps k (completed base p)

-- and any other page stays
pub passed_more : (name : Name) (base : List ℕ) (ps : List Pending) (k : ℕ) (p : Pending) → slice_get ps k ≡ Some p →
    awaits name p ≡ false →
    take k ps ++ rests_filled name base (drop k ps) ≡ take (k + 1) ps ++ rests_filled name base (drop (k + 1) ps)
passed_more name base ps k p at w =
    beyond name base ps k p at w ∙ ap (λ (m : ℕ). take m ps ++ rests_filled name base (drop m ps)) (sym (add-one k))

-- and so do all that wait for nothing
past : (name : Name) (base : List ℕ) (ps : List Pending) (k : ℕ) → slice_get ps k ≡ None →
    take k ps ++ rests_filled name base (drop k ps) ≡ take (suc k) ps ++ rests_filled name base (drop (suc k) ps)
past name base [] zero e = refl
past name base [] (suc k) e = refl
past name base (x ∷ ps) zero e = absurd (none-some x (sym e))
past name base (x ∷ ps) (suc k) e = ap (λ (qs : List Pending). x ∷ qs) (past name base ps k e)

not_awaited : (name : Name) (p : Pending) (o : Option Rest) → p.rest ≡ o → is_some o ≡ false → awaits name p ≡ false
not_awaited name p None e w = ap (λ (o : Option Rest). comes_by name (awaited_by (own_name p) o)) e
not_awaited name p (Some r) e w = absurd (true≢false w)

unwaited : (name : Name) (base : List ℕ) (ps : List Pending) (k : ℕ) → passes waits ps k ≡ false →
    take k ps ++ rests_filled name base (drop k ps) ≡ take (suc k) ps ++ rests_filled name base (drop (suc k) ps)
unwaited name base ps k none = by (slice_get ps k) refl none
  where
    by : (o : Option Pending) → slice_get ps k ≡ o → tells waits o ≡ false →
        take k ps ++ rests_filled name base (drop k ps) ≡ take (suc k) ps ++ rests_filled name base (drop (suc k) ps)
    by None e w = past name base ps k e
    by (Some p) e w = beyond name base ps k p e (not_awaited name p p.rest refl w)

pub skipped : (name : Name) (base : List ℕ) (ps : List Pending) (from n at : ℕ) → at ≡ from + n →
    ((j : ℕ) → from ≤ j → j < at → passes waits ps j ≡ false) →
    take from ps ++ rests_filled name base (drop from ps) ≡ take at ps ++ rests_filled name base (drop at ps)
skipped name base ps from zero at is none =
    ap (λ (m : ℕ). take m ps ++ rests_filled name base (drop m ps)) (let e : from ≡ at = omega (arith, is) in e)
skipped name base ps from (suc n) at is none =
    unwaited name base ps from (none from (omega arith) (omega (arith, is)))
    ∙ skipped name base ps (suc from) n at (omega (arith, is)) (λ j behind less. none j (omega (arith, behind)) less)

-- so where none waits any more, all are filled
pub all_filled : (name : Name) (base : List ℕ) (ps : List Pending) (from : ℕ) →
    ((j : ℕ) → from ≤ j → passes waits ps j ≡ false) → take from ps ++ rests_filled name base (drop from ps) ≡ ps
all_filled name base ps from none =
    skipped name base ps from (length ps) (from + length ps) refl (λ j behind less. none j behind)
    ∙ ap (λ (qs : List Pending). qs ++ rests_filled name base (drop (from + length ps) ps))
    (take_all (from + length ps) ps (omega arith))
    ∙ ap (λ (qs : List Pending). ps ++ rests_filled name base qs) (drop_all (from + length ps) ps (omega arith))
    ∙ append-nil ps

-- there are as many pages
pub completed_length : (base : List ℕ) (ps : List Pending) (k : ℕ) →
    length (completed_at base ps k (slice_get ps k)) ≡ length ps
completed_length base ps k = by (slice_get ps k)
  where
    by : (o : Option Pending) → length (completed_at base ps k o) ≡ length ps
    by None = refl
    by (Some p) = set_length ps k (completed base p)

-- The bytes of the page that was filled last

pub base_there : (block body : List ℕ) (ps : List Pending) (o : Option ℕ) →
    option_map (λ (p : Pending). p.body) (option_and_then (slice_get ps) o) ≡ Some body → base_behind block ps o ≡ body
base_there block body ps None e = absurd (none-some body e)
base_there block body ps (Some k) e = by (slice_get ps k) e
  where
    by : (o : Option Pending) → option_map (λ (p : Pending). p.body) o ≡ Some body → body_or block o ≡ body
    by None e = absurd (none-some body e)
    by (Some p) e = same_Some p.body body e

-- or what was read
pub base_read : (block : List ℕ) (ps : List Pending) (o : Option ℕ) →
    option_map (λ (p : Pending). p.body) (option_and_then (slice_get ps) o) ≡ None → base_behind block ps o ≡ block
base_read block ps None e = refl
base_read block ps (Some k) e = by (slice_get ps k) e
  where
    by : (o : Option Pending) → option_map (λ (p : Pending). p.body) o ≡ None → body_or block o ≡ block
    by None e = refl
    by (Some p) e = absurd (none-some p.body (sym e))
