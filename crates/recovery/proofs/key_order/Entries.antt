-- The entries of all keys, in their order, after one page more; and the states of blocks, one by one.
use Rattle.recovery.proofs.Common.{Bool, Fence, FoundPage, IsIndex, IsKey, IsNewestOf, Key, List, None, Option, Shape}
use Rattle.recovery.proofs.Common.{Some, add-one, and_from, ap, arith, cond-false, cond-true, false}
use Rattle.recovery.proofs.Common.{get_or_from_slice_get, index_known, is_fenced, key_of, key_total, length, not, refl}
use Rattle.recovery.proofs.Common.{replicate, same_key, slice_get, slice_get-get_or, slice_set, subst, sym, take, true}
use Rattle.recovery.proofs.Common.{ℕ, ⊎_elim, ◌&&◌, ◌++◌, ◌+◌, ◌<◌, ◌∙◌, ◌≡◌, ◌≢◌, ◌≤◌}
use Rattle.std.proofs.Common.{drop}
use Rattle.std.specs.Prelude.{cond, get_or, nat_le}
use Rattle.std.proofs.Math.Seq.{take-append_seam}
use Rattle.ufs_spec.proofs.Equalities.{key_cases, key_same}
use Rattle.ufs_spec.proofs.Facts.{le-leb, not_from_false}
use Rattle.ufs_spec.proofs.Lists.{get_replicate, set_here, set_other}
use Rattle.recovery.specs.KeysInOrder.{is_kept_page, is_newer, with_page}
use Rattle.geometry.proofs.Indexes.{index_below, indexes_apart, one_index}
use Rattle.recovery.proofs.key_order.NewestPages.{one_more}

-- A slice's new content in the list that it is a slice of

pub whole_written : {A : Type 0} (n : ℕ) (new old : List A) → n ≡ length old → length new ≡ length old →
    take n (new ++ drop (length new) old) ≡ new
whole_written n new old long same =
    subst (λ (m : ℕ). take m (new ++ drop (length new) old) ≡ new) (same ∙ sym long)
    (take-append_seam new (drop (length new) old))

-- One page

module _ (fence : Option Fence) (kept : ℕ) (k : Key) (e : FoundPage) (old : Option FoundPage) where
  -- a page of another key changes nothing
  of_another : key_of e.tag ≢ k → with_page fence kept k e old ≡ old
  of_another apart =
      ⊎_elim
      (λ (h : (same_key (key_of e.tag) k ≡ true) × (key_of e.tag ≡ k)). absurd (apart h.1))
      (λ (h : (same_key (key_of e.tag) k ≡ false) × (key_of e.tag ≢ k)). rw h.0 refl)
      (key_cases (key_of e.tag) k)

  not_newer : is_newer e old ≡ false → with_page fence kept k e old ≡ old
  not_newer off = by (is_kept_page fence kept k e) (is_newer e old) off
    where
      by : (a b : Bool) → b ≡ false → cond (a && b) (Some e) old ≡ old
      by true b h = cond-false b (Some e) old h
      by false b h = refl

  newer : key_of e.tag ≡ k → is_fenced fence e.tag.number ≡ false → e.tag.number ≤ kept → is_newer e old ≡ true →
      with_page fence kept k e old ≡ Some e
  newer key free within on =
      cond-true (is_kept_page fence kept k e && is_newer e old) (Some e) old
      (and_from (is_kept_page fence kept k e) (is_newer e old)
      (and_from (same_key (key_of e.tag) k && not (is_fenced fence e.tag.number)) (nat_le e.tag.number kept)
      (and_from (same_key (key_of e.tag) k) (not (is_fenced fence e.tag.number)) (key_same (key_of e.tag) k key)
      (not_from_false (is_fenced fence e.tag.number) free))
      (le-leb e.tag.number kept within))
      on)

module _ (s : Shape) (fence : Option Fence) (kept : ℕ) (entries : List (Option FoundPage)) (e : FoundPage) (at : ℕ)
  where
    -- the page takes its key's entry
    pub entry_taken : IsIndex s (key_of e.tag) at → at < length entries → is_fenced fence e.tag.number ≡ false →
        e.tag.number ≤ kept → is_newer e (get_or entries at None) ≡ true →
        (k : Key) (i : ℕ) (old : Option FoundPage) → IsIndex s k i → slice_get entries i ≡ Some old →
        slice_get (slice_set entries at (Some e)) i ≡ Some (with_page fence kept k e old)
    entry_taken is l free within on k i old index there =
        ⊎_elim
        (λ (h : (same_key (key_of e.tag) k ≡ true) × (key_of e.tag ≡ k)).
        let same = one_index s k i at index (subst (λ (k : Key). IsIndex s k at) h.1 is) in
        let now = get_or_from_slice_get entries i old None there in
        ap (slice_get (slice_set entries at (Some e))) same ∙ set_here entries at (Some e) l
        ∙ ap Some (sym (newer fence kept k e old h.1 free within
        (ap (is_newer e) (sym now ∙ ap (λ (i : ℕ). get_or entries i None) same) ∙ on))))
        (λ (h : (same_key (key_of e.tag) k ≡ false) × (key_of e.tag ≢ k)).
        set_other entries at i (Some e) (indexes_apart s k (key_of e.tag) i at index is (λ a. h.1 (sym a)))
        ∙ there ∙ ap Some (sym (of_another fence kept k e old h.1)))
        (key_cases (key_of e.tag) k)

    -- the entry of its key stays
    pub entry_stays : IsIndex s (key_of e.tag) at → is_newer e (get_or entries at None) ≡ false →
        (k : Key) (i : ℕ) (old : Option FoundPage) → IsIndex s k i → slice_get entries i ≡ Some old →
        slice_get entries i ≡ Some (with_page fence kept k e old)
    entry_stays is off k i old index there =
        ⊎_elim
        (λ (h : (same_key (key_of e.tag) k ≡ true) × (key_of e.tag ≡ k)).
        let same = one_index s k i at index (subst (λ (k : Key). IsIndex s k at) h.1 is) in
        let now = get_or_from_slice_get entries i old None there in
        there ∙ ap Some (sym (not_newer fence kept k e old
        (ap (is_newer e) (sym now ∙ ap (λ (i : ℕ). get_or entries i None) same) ∙ off))))
        (λ (h : (same_key (key_of e.tag) k ≡ false) × (key_of e.tag ≢ k)).
        there ∙ ap Some (sym (of_another fence kept k e old h.1)))
        (key_cases (key_of e.tag) k)

-- a page whose key the device has not changes nothing
pub unknown_passed : (s : Shape) (fence : Option Fence) (kept : ℕ) (entries : List (Option FoundPage)) (e : FoundPage) →
    (IsKey s (key_of e.tag) → ⊥) →
    (k : Key) (i : ℕ) (old : Option FoundPage) → IsIndex s k i → slice_get entries i ≡ Some old →
    slice_get entries i ≡ Some (with_page fence kept k e old)
unknown_passed s fence kept entries e unknown k i old index there =
    there ∙ ap Some (sym (of_another fence kept k e old
    (λ same. unknown (subst (λ (k : Key). IsKey s k) (sym same) (index_known s k i index)))))

-- Each entry after one page more

abbrev pub AreNewest : Shape → List FoundPage → Option Fence → ℕ → ℕ → List (Option FoundPage) → Type 0
AreNewest s pages fence kept n entries = (k : Key) (i : ℕ) → IsIndex s k i →
    (e : Option FoundPage) × (slice_get entries i ≡ Some e) × IsNewestOf pages n fence kept k e

pub entries_grow : (s : Shape) (pages : List FoundPage) (fence : Option Fence) (kept n : ℕ) (d : FoundPage)
    (old new : List (Option FoundPage)) → n < length pages → AreNewest s pages fence kept n old →
    ((k : Key) (i : ℕ) (e : Option FoundPage) → IsIndex s k i → slice_get old i ≡ Some e →
    slice_get new i ≡ Some (with_page fence kept k (get_or pages n d) e)) →
    AreNewest s pages fence kept (n + 1) new
entries_grow s pages fence kept n d old new l are noted k i index =
    let r = are k i index in (
      with_page fence kept k (get_or pages n d) r.0,
      noted k i r.0 index r.1,
      rw add-one (one_more fence kept k pages n (get_or pages n d) r.0 (slice_get-get_or pages n d l) r.2),
    )

-- before the first page no key has one
pub none_newest : (s : Shape) (pages : List FoundPage) (fence : Option Fence) (kept n : ℕ)
    (entries : List (Option FoundPage)) → n ≡ key_total s → entries ≡ replicate n None →
    AreNewest s pages fence kept 0 entries
none_newest s pages fence kept n entries count are k i index =
    let l = index_below s k i index in (
      None,
      ap (λ (xs : List (Option FoundPage)). slice_get xs i) are ∙ get_replicate n i None (omega (arith, l, count)),
      λ j e m there h. omega (arith, m),
    )

abbrev pub no_page : FoundPage
no_page = record {
  place = record { die = 0; block = 0; page = 0 };
  tag = record { kind = 0; unit = 0; address = 0; number = 0; index = 0; size = 0; frontier = 0 };
}
