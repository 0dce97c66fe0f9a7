-- Queues in a list, each seen as its items, when one of them is changed.
use Rattle.std.proofs.Common.{◌≡◌, ◌∙◌, ◌<◌, ℕ, List, [], ◌∷◌, ◌++◌, length, map, ap, arith, sym, refl, slice_set}
use Rattle.std.specs.Prelude.{◌≢◌, false, if◌then◌else◌, Option, Some, None, Result, Ok, Err, drop, is_err, is_ok}
use Rattle.std.specs.Prelude.{option_map, option_to_list, slice_get}
use Rattle.std.proofs.Math.ListN.{get_or}
use Rattle.std.proofs.lemmas.Option.{get_or_from_slice_get, none-some, same_Some, slice_get-map}
use Rattle.std.proofs.lemmas.Bool.{true≢false}
use Rattle.ufs_spec.proofs.Lists.{set_here, set_other}

module _ {Q A : Type 0} (items : Q → List A) (qs : List Q) (tag : ℕ) where
  -- the changed queue is there
  pub here : (q : Q) → tag < length qs → slice_get (map items (slice_set qs tag q)) tag ≡ Some (items q)
  here q less = slice_get-map items (slice_set qs tag q) tag ∙ ap (option_map items) (set_here qs tag q less)

  -- and the others are as before
  pub other_stays : (q : Q) (other : ℕ) → other ≢ tag →
      slice_get (map items (slice_set qs tag q)) other ≡ slice_get (map items qs) other
  other_stays q other differs =
      slice_get-map items (slice_set qs tag q) other
      ∙ ap (option_map items) (set_other qs tag other q differs)
      ∙ sym (slice_get-map items qs other)

  -- the queue that is at the place of a tag has the tag's items
  pub was : (q : Q) (queue : List A) → q ≡ get_or qs tag q → slice_get (map items qs) tag ≡ Some queue → items q ≡ queue
  was q queue own is = from (slice_get qs tag) refl (sym (slice_get-map items qs tag) ∙ is)
    where
      from : (o : Option Q) → slice_get qs tag ≡ o → option_map items o ≡ Some queue → items q ≡ queue
      from None at h = absurd (none-some queue h)
      from (Some x) at h = ap items (own ∙ get_or_from_slice_get qs tag x q at) ∙ same_Some (items x) queue h

-- the first of the items was taken
pub taken_first : {A : Type 0} (old new : List A) (r : Option A) → old ≡ option_to_list r ++ new → new ≡ drop 1 old →
    (r ≡ slice_get old 0) × (new ≡ drop 1 old)
taken_first [] new None is rest = (refl, rest)
taken_first (x ∷ xs) new None is rest = let longer = ap length (is ∙ rest) in absurd (omega (longer, arith))
taken_first old new (Some x) is rest = (sym (ap (λ xs. slice_get xs 0) is), rest)

-- what was pushed without a want of memory comes last
pub pushed : {T E A : Type 0} (r : Result T E) (old new : List A) (x : A) →
    new ≡ (if is_ok r then old ++ x ∷ [] else old) → is_err r ≡ false → new ≡ old ++ x ∷ []
pushed (Ok y) old new x is good = is
pushed (Err e) old new x is good = absurd (true≢false good)
