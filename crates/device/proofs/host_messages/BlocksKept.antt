-- What a READ keeps when it begins: each of its blocks under its index, and the page of the first is wanted.
use Rattle.device.proofs.Common.{Bool, Key, List, None, Option, Pin, ReadBlock, ReadState, Sending, Some, Translation}
use Rattle.device.proofs.Common.{Unread, [], ap, append-nil, arith, below, cond, eq_self, eqb-true, false, find, fold}
use Rattle.device.proofs.Common.{get_or_from_slice_get, if◌then◌else◌, is_pin_of, is_unread, le-ltb, length}
use Rattle.device.proofs.Common.{length-made, ltb-false, ltb-true, map, moved, nat_lt, nat_tests, none-some, option_map}
use Rattle.device.proofs.Common.{option_or, other_way, refl, slice_get, slice_get-get_or, slice_get_within, suc, sym}
use Rattle.device.proofs.Common.{true, wanted_in, wanted_kept, wanted_of, zero, ℕ, ◌++◌, ◌==◌, ◌∙◌, ◌∷◌, ◌≡◌, ◌≤◌}
use Rattle.std.specs.Prelude.{◌&&◌}
use Rattle.std.proofs.lemmas.List.{append_assoc, map-append}
use Rattle.std.proofs.lemmas.List.Folds.{find-append}
use Rattle.std.proofs.lemmas.Option.{slice_get_past}
use Rattle.ufs_spec.specs.Machine.{sending}
use Rattle.ufs_spec.specs.Moves.{Keep}
use Rattle.ufs_laws.proofs.plain_contents.ListParts.{get_or-made}

-- The layer

-- what is kept stands behind what was, and nothing else of the layer changes
pub kept_are : (k : ℕ → Key) (f : ℕ → Pin) (xs : List ℕ) (t : Translation) →
    fold moved t (map (λ i. Keep (k i) (f i)) xs) ≡ record t { pins = t.pins ++ map f xs }
kept_are k f [] t = ap (λ (ps : List Pin). record t { pins = ps }) (sym (append-nil t.pins))
kept_are k f (x ∷ xs) t =
    kept_are k f xs (moved t (Keep (k x) (f x)))
    ∙ ap (λ (ps : List Pin). record t { pins = ps }) (append_assoc t.pins (f x ∷ []) (map f xs))

-- Lists made from functions of the place

-- what is found of a place
abbrev pub at : {X : Type 0} → (ℕ → X) → ℕ → Bool → Option X
at f i b = if b then Some (f i) else None

found_below : {X : Type 0} (p : X → Bool) (f : ℕ → X) (i : ℕ) → ((j : ℕ) → p (f j) ≡ (j == i)) → (m : ℕ) →
    find p (map f (below m)) ≡ at f i (nat_lt i m)
found_below p f i is zero = ap (at f i) (sym (le-ltb i 0 (omega arith)))
found_below p f i is (suc m) =
    ap (find p) (map-append f (below m) (m ∷ []))
    ∙ (find-append p (map f (below m)) (f m ∷ [])
    ∙ ((λ j. option_or (found_below p f i is m j) (cond (is m j) (Some (f m)) None))
    ∙ by (nat_lt i m) (m == i) (nat_lt i (suc m)) refl refl refl))
  where
    by : (b c e : Bool) → nat_lt i m ≡ b → (m == i) ≡ c → nat_lt i (suc m) ≡ e →
        option_or (at f i b) (cond c (Some (f m)) None) ≡ at f i e
    by true c true kb kc ke = refl
    by true c false kb kc ke = let low = ltb-true i m kb in let high = ltb-false i (suc m) ke in absurd (omega arith)
    by false true true kb kc ke = ap (λ j. Some (f j)) (eqb-true m i kc)
    by false true false kb kc ke =
        let same = eqb-true m i kc in let high = ltb-false i (suc m) ke in absurd (omega arith)
    by false false true kb kc ke = absurd (last i m kb kc ke)
      where
        last : (i m : ℕ) → nat_lt i m ≡ false → (m == i) ≡ false → nat_lt i (suc m) ≡ true → ⊥
        last i m a b c = grind (arith, nat_tests)
    by false false false kb kc ke = refl

none_made : {X : Type 0} (p : X → Bool) (f : ℕ → X) → ((j : ℕ) → p (f j) ≡ false) → (xs : List ℕ) →
    find p (map f xs) ≡ None
none_made p f not [] = refl
none_made p f not (x ∷ xs) = (λ j. cond (not x j) (Some (f x)) (none_made p f not xs j))

-- the element of a place
pub made_at : {X : Type 0} (f : ℕ → X) (m i : ℕ) → slice_get (map f (below m)) i ≡ at f i (nat_lt i m)
made_at f m i = by (nat_lt i m) refl
  where
    by : (b : Bool) → nat_lt i m ≡ b → slice_get (map f (below m)) i ≡ at f i b
    by true e =
        let long = length-made f m in
        let low = ltb-true i m e in
        slice_get-get_or (map f (below m)) i (f i) (omega arith) ∙ ap (λ x. Some x) (get_or-made f m i (f i) low)
    by false e =
        let long = length-made f m in
        let high = ltb-false i m e in
        slice_get_past (map f (below m)) i (omega arith)

pub made_is : {X : Type 0} (f : ℕ → X) (m i : ℕ) (x : X) → slice_get (map f (below m)) i ≡ Some x → x ≡ f i
made_is f m i x there =
    let long = length-made f m in
    let short = slice_get_within (map f (below m)) i x there in
    sym (get_or_from_slice_get (map f (below m)) i x x there) ∙ get_or-made f m i x (omega arith)

-- Pins

abbrev pub wanted : Option Pin → Option Bool
wanted o = option_map (λ (pin : Pin). pin.wanted) o

-- pins more for a tag that had none, each under its index
module _ (before : List Pin) (tag m : ℕ) (f : ℕ → Pin) (tags : (j : ℕ) → (f j).tag ≡ tag)
    (indexes : (j : ℕ) → (f j).index ≡ j) (none : (i : ℕ) → wanted_kept before tag i ≡ None) where
  abbrev kept : List Pin
  kept = before ++ map f (below m)

  more : (n i : ℕ) → wanted_kept kept n i ≡ wanted
      (option_or (find (is_pin_of n i) before) (find (is_pin_of n i) (map f (below m))))
  more n i = ap wanted (find-append (is_pin_of n i) before (map f (below m)))

  -- of the tag they are found
  pub own_found : (i : ℕ) → wanted_kept kept tag i ≡ wanted (at f i (nat_lt i m))
  own_found i = more tag i
      ∙ (behind (find (is_pin_of tag i) before) (none i)
      ∙ ap wanted (found_below (is_pin_of tag i) f i
      (λ j. (λ k. (tags j k == tag) && (indexes j k == i)) ∙ ap (λ b. b && (j == i)) (eq_self tag)) m))
    where
      behind : (o : Option Pin) → wanted o ≡ None →
          wanted (option_or o (find (is_pin_of tag i) (map f (below m))))
          ≡ wanted (find (is_pin_of tag i) (map f (below m)))
      behind None e = refl
      behind (Some x) e = absurd (none-some x.wanted (sym e))

  -- and of no other
  pub others_found : (n i : ℕ) → (n == tag) ≡ false → find (is_pin_of n i) kept ≡ find (is_pin_of n i) before
  others_found n i other = find-append (is_pin_of n i) before (map f (below m))
      ∙ (ap (option_or (find (is_pin_of n i) before))
      (none_made (is_pin_of n i) f
      (λ j. (λ k. (tags j k == n) && ((f j).index == i)) ∙ ap (λ b. b && ((f j).index == i)) (other_way n tag other))
      (below m))
      ∙ still (find (is_pin_of n i) before))
    where
      still : (o : Option Pin) → option_or o None ≡ o
      still None = refl
      still (Some x) = refl

  pub others_wanted : (n i : ℕ) → (n == tag) ≡ false → wanted_kept kept n i ≡ wanted_kept before n i
  others_wanted n i other = ap wanted (others_found n i other)

  -- so the blocks that the task sends are kept, and the first is wanted
  pub own_wanted : (g : ℕ → ReadBlock) → ((j : ℕ) → (g j).state ≡ Unread) → ((j : ℕ) → (f j).wanted ≡ (j == 0)) →
      (i : ℕ) → wanted_kept kept tag i ≡ wanted_in i None (Sending (map g (below m)) 0)
  own_wanted g unread first i = own_found i ∙ sym (sent i)
    where
      both : (b : Bool) (x : ReadState) → x ≡ Unread → (b && is_unread x) ≡ b
      both true x e = ap is_unread e
      both false x e = refl

      by : (i : ℕ) (b : Bool) → wanted_of (i == 0) (at g i b) ≡ wanted (at f i b)
      by i true = ap (λ b. Some b) (both (i == 0) (g i).state (unread i) ∙ sym (first i))
      by i false = refl

      sent : (i : ℕ) → wanted_in i None (Sending (map g (below m)) 0) ≡ wanted (at f i (nat_lt i m))
      sent i =
          ap (λ b. if b then None else wanted_of (i == 0) (slice_get (map g (below m)) i)) (le-ltb i 0 (omega arith))
          ∙ (ap (wanted_of (i == 0)) (made_at g m i) ∙ by i (nat_lt i m))

-- The deed

-- where there is a block it is sent
pub sends : (blocks : List ReadBlock) (n : ℕ) → 1 ≤ length blocks → sending blocks n ≡ Sending blocks 0
sends [] n some = absurd (omega arith)
sends (b ∷ bs) n some = refl
