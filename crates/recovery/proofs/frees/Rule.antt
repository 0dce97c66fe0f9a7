-- What is found of each block by its lists is which blocks are free as the rule goes through them.
use Rattle.recovery.proofs.Common.{AreGreatest, AreHeld, AreListed, AreMarksListed, AreNeeded, AreSamePages, AreWithin}
use Rattle.recovery.proofs.Common.{Bool, Cell, Cells, FoundMark, FoundPage, GroupPage, IfOk, IsBefore, IsContentPage}
use Rattle.recovery.proofs.Common.{IsDecided, IsFenced, IsIndex, IsNeededIn, IsNewestMark, Key, List, Mark, MarkPage}
use Rattle.recovery.proofs.Common.{None, Nothing, Numbers, Option, Place, RecordsUpTo, Some, Spot, Tag, and_from}
use Rattle.recovery.proofs.Common.{and_parts, ap, arith, block_of, cases_Bool, cond-false, cond-true, false}
use Rattle.recovery.proofs.Common.{get_or_from_slice_get, inl, inr, is_free_in, key_of, length, length-map, lt-ltb}
use Rattle.recovery.proofs.Common.{ltb-true, map, mark_not_nothing, nat_lt, not, not-true, refl, same_Some}
use Rattle.recovery.proofs.Common.{shape_of_numbers, slice_get, slice_get_within, slice_index_or, spot_number, spot_of}
use Rattle.recovery.proofs.Common.{spots, subst, sym, true, true≢false, ℕ, ⊎_elim, ◌∙◌, ◌≡◌, ◌≢◌, ◌≤◌, ◌⊎◌}
use Rattle.std.specs.Prelude.{Err, Ok, Result}
use Rattle.ufs_spec.specs.Sound.{CellsSuit}
use Rattle.ufs_spec.specs.Translation.{name_of}
use Rattle.ufs_spec.specs.declared.layer.Name.{Name}
use Rattle.ufs_spec.proofs.Equalities.{name_is}
use Rattle.ufs_spec.proofs.Facts.{not-false}
use Rattle.geometry.proofs.Indexes.{known_index}
use Rattle.recovery.specs.Frees.{AreDecided, AreFoundFree, AreUnused, HasCopyOutside, HasOtherThen, IsItOrFoundFree}
use Rattle.recovery.specs.Frees.{IsOlder, IsOverwrittenIn, MayGoWith, has_spot}
use Rattle.recovery.proofs.bad_listed.BadBlocks.{bad_at}
use Rattle.recovery.proofs.frees.InOrder.{said}
use Rattle.recovery.proofs.frees.Latests.{entry_there, inside, older_listed, older_told, page_inside, page_some}
use Rattle.recovery.proofs.frees.Needs.{needed_told, spare_told}
use Rattle.recovery.proofs.frees.Spots.{IsInside, one_spot, spot_there}

-- Two facts of what was made, if it was

pub both_ok : {A E : Type 0} (r : Result A E) (P Q R : A → Type 0) → ((v : A) → P v → Q v → R v) → IfOk r P → IfOk r Q →
    IfOk r R
both_ok (Ok v) P Q R f p q = f v p q
both_ok (Err e) P Q R f p q = tt

-- A list with an answer for each block, as a function of blocks

module _ (n : Numbers) (bad : Spot → Bool) (free : List Bool) where
  spot_inside : (s : Spot) → has_spot n s ≡ true → IsInside n s
  spot_inside s h =
      let r = and_parts (nat_lt s.die n.dies) (nat_lt s.block n.blocks) h in
      record { die = ltb-true s.die n.dies r.0; block = ltb-true s.block n.blocks r.1 }

  inside_spot : (s : Spot) → IsInside n s → has_spot n s ≡ true
  inside_spot s is =
      and_from (nat_lt s.die n.dies) (nat_lt s.block n.blocks) (lt-ltb s.die n.dies is.die)
      (lt-ltb s.block n.blocks is.block)

  free_there : (s : Spot) → IsInside n s → is_free_in n bad free s ≡ slice_index_or free (spot_number n.blocks s) false
  free_there s is =
      cond-true (has_spot n s) (slice_index_or free (spot_number n.blocks s) false) (not (bad s)) (inside_spot s is)

  free_elsewhere : (s : Spot) → has_spot n s ≡ false → is_free_in n bad free s ≡ not (bad s)
  free_elsewhere s h = cond-false (has_spot n s) (slice_index_or free (spot_number n.blocks s) false) (not (bad s)) h

  module _ (c : Cells) (m : Option Mark) (within : AreWithin n c) (long : length free ≡ length (spots n))
      (good : (s : Spot) → IsInside n s → slice_get free (spot_number n.blocks s) ≡ Some true → bad s ≡ false)
      (goes : (s : Spot) → IsInside n s → slice_get free (spot_number n.blocks s) ≡ Some true → (p : Place) →
      spot_of p ≡ s → c p ≢ Nothing → MayGoWith c m (IsItOrFoundFree c (is_free_in n bad free) s) (c p))
      (stays : (s : Spot) → IsInside n s → bad s ≡ false → slice_get free (spot_number n.blocks s) ≡ Some false →
      (p : Place) × (spot_of p ≡ s) × (c p ≢ Nothing)
      × (MayGoWith c m (IsItOrFoundFree c (is_free_in n bad free) s) (c p) → ⊥)) where
    on_there : (s : Spot) → IsInside n s → is_free_in n bad free s ≡ true →
        slice_get free (spot_number n.blocks s) ≡ Some true
    on_there s is h = said free (spot_number n.blocks s) (sym (free_there s is) ∙ h)

    off_there : (s : Spot) → IsInside n s → is_free_in n bad free s ≡ false →
        slice_get free (spot_number n.blocks s) ≡ Some false
    off_there s is h =
        let r = entry_there n free s long is in
        r.1 ∙ ap Some (sym (get_or_from_slice_get free (spot_number n.blocks s) r.0 false r.1)
        ∙ (sym (free_there s is) ∙ h))

    -- what holds of the blocks of the dies holds of all
    pub of_all : AreFoundFree c m bad (is_free_in n bad free)
    of_all = record {
      good = λ s h.
          ⊎_elim (λ (is : has_spot n s ≡ true). good s (spot_inside s is) (on_there s (spot_inside s is) h))
          (λ (out : has_spot n s ≡ false). not-true (bad s) (sym (free_elsewhere s out) ∙ h))
          (cases_Bool (has_spot n s));
      goes = λ s h p here some.
          let is : IsInside n s = subst (IsInside n) here (inside n c within p some) in
          goes s is (on_there s is h) p here some;
      stays = λ s fine h.
          ⊎_elim (λ (is : has_spot n s ≡ true). stays s (spot_inside s is) fine (off_there s (spot_inside s is) h))
          (λ (out : has_spot n s ≡ false).
          absurd (true≢false (sym (not-false (bad s) (sym (free_elsewhere s out) ∙ h)) ∙ fine)))
          (cases_Bool (has_spot n s));
    }

-- Without a mark

module _ (n : Numbers) (c : Cells) (bad : Spot → Bool) (bads free : List Bool) (pages : List FoundPage)
    (within : AreWithin n c) (listed : AreListed c pages) (none : IsNewestMark c None)
    (is_bad : bads ≡ map bad (spots n)) (are : AreUnused n.blocks bads pages (length pages) free) where
  pub free_unmarked : AreFoundFree c None bad (is_free_in n bad free)
  free_unmarked =
      of_all n bad free c None within (are.long ∙ (ap length is_bad ∙ length-map (spots n) bad)) good goes stays
    where
      bad_there : (s : Spot) → IsInside n s → slice_get bads (spot_number n.blocks s) ≡ Some (bad s)
      bad_there s is = bad_at n bad bads (spot_number n.blocks s) s is_bad (spot_there n s is)

      good : (s : Spot) → IsInside n s → slice_get free (spot_number n.blocks s) ≡ Some true → bad s ≡ false
      good s is h =
          same_Some (bad s) false (sym (bad_there s is) ∙ (are.unused (spot_number n.blocks s) h).0)

      goes : (s : Spot) → IsInside n s → slice_get free (spot_number n.blocks s) ≡ Some true → (p : Place) →
          spot_of p ≡ s → c p ≢ Nothing → ⊥
      goes s is h p here some = by (c p) refl
        where
          by : (x : Cell) → c p ≡ x → ⊥
          by Nothing e = some e
          by (GroupPage t body) e =
              let r = listed.all p t body e in
              (are.unused (spot_number n.blocks s) h).1 r.0 (record { place = p; tag = t })
              (slice_get_within pages r.0 (record { place = p; tag = t }) r.1) r.1 (ap (spot_number n.blocks) here)
          by (MarkPage m) e = none p m e

      stays : (s : Spot) → IsInside n s → bad s ≡ false → slice_get free (spot_number n.blocks s) ≡ Some false →
          (p : Place) × (spot_of p ≡ s) × (c p ≢ Nothing) × (⊥ → ⊥)
      stays s is fine h =
          ⊎_elim
          (λ (b : slice_get bads (spot_number n.blocks s) ≡ Some true).
          absurd (true≢false (sym (same_Some (bad s) true (sym (bad_there s is) ∙ b)) ∙ fine)))
          (λ (r : (i : ℕ) × (e : FoundPage) × (slice_get pages i ≡ Some e)
          × (block_of n.blocks e ≡ spot_number n.blocks s)). (
            r.1.place,
            one_spot n (spot_of r.1.place) s (page_inside n c within pages listed r.0 r.1 r.2) is r.3,
            page_some n c within pages listed r.0 r.1 r.2,
            λ x. x,
          ))
          (are.used (spot_number n.blocks s) h)

-- By the newest mark

module _ (n : Numbers) (c : Cells) (m : Mark) (bad : Spot → Bool) (bads held needed free : List Bool)
    (pages named : List FoundPage) (marks : List FoundMark) (contents : List (Option FoundPage)) (latests : List ℕ)
    (within : AreWithin n c) (listed : AreListed c pages) (marked : AreMarksListed c marks)
    (suits : CellsSuit n c (Some m)) (is_bad : bads ≡ map bad (spots n))
    (content : (k : Key) (i : ℕ) → IsIndex (shape_of_numbers n) k i →
    (e : Option FoundPage) × (slice_get contents i ≡ Some e) × IsContentPage c (Some m) m.records k e)
    (need : AreNeeded (shape_of_numbers n) m.fence contents pages (length pages) needed)
    (same : AreSamePages pages named) (holds : AreHeld n.blocks bads marks (length marks) m.number held)
    (long : length latests ≡ length bads)
    (greatest : AreGreatest (RecordsUpTo n.blocks pages marks (length marks)) latests)
    (as_many : length free ≡ length held)
    (decided : AreDecided n.blocks latests held pages needed named free) where
  all_long : length bads ≡ length (spots n)
  all_long = ap length is_bad ∙ length-map (spots n) bad

  bad_there : (s : Spot) → IsInside n s → slice_get bads (spot_number n.blocks s) ≡ Some (bad s)
  bad_there s is = bad_at n bad bads (spot_number n.blocks s) s is_bad (spot_there n s is)

  decided_there : (s : Spot) → IsInside n s →
      IsDecided n.blocks latests held pages needed named free (spot_number n.blocks s)
  decided_there s is =
      let r = entry_there n latests s (long ∙ all_long) is in decided (spot_number n.blocks s) r.0 r.1

  -- whether a listed page is needed
  told_there : (i : ℕ) (e : FoundPage) → slice_get pages i ≡ Some e →
      (told : Bool) × (slice_get needed i ≡ Some told)
      × ((told ≡ false → IsFenced m.fence e.tag.number ⊎ IsOverwrittenIn c m e.tag)
      × (told ≡ true → IsFenced m.fence e.tag.number ⊎ IsOverwrittenIn c m e.tag → ⊥))
  told_there i e h =
      let r = need i e (slice_get_within pages i e h) h in
      let p = listed.there i e h in
      let x = known_index (shape_of_numbers n) (key_of e.tag) (suits.keys e.place e.tag p.0 p.1) in
      let o = content (key_of e.tag) x.0 x.1 in
      let is = r.2 x.0 o.0 x.1 o.1 in (
        r.0,
        r.1,
        (
          λ off. spare_told c m e.tag o.0 o.2 (sym is ∙ off),
          λ on. needed_told c m e.tag o.0 o.2 (sym is ∙ on),
        ),
      )

  good : (s : Spot) → IsInside n s → slice_get free (spot_number n.blocks s) ≡ Some true → bad s ≡ false
  good s is h =
      same_Some (bad s) false (sym (bad_there s is)
      ∙ (holds.lets_go (spot_number n.blocks s) ((decided_there s is).goes h).0).0)

  -- a copy in another block that is not both free and older
  copy_outside : (s : Spot) → IsInside n s → (p : Place) (t : Tag) → spot_of p ≡ s →
      HasOtherThen n.blocks latests named free (record { place = p; tag = t }) →
      HasCopyOutside c (IsItOrFoundFree c (is_free_in n bad free) s) t
  copy_outside s is p t here (i, q, there, other, out) =
      let j = same.each i q there in
      let r = listed.there j.0 q j.1 in
      let lies : IsInside n (spot_of q.place) = page_inside n c within pages listed j.0 q j.1 in (
        q.place,
        (q.tag, r.0, r.1, name_is (name_of q.tag) (name_of t) other.number other.index),
        λ x. ⊎_elim
            (λ (at : spot_of q.place ≡ s).
            other.apart (ap (spot_number n.blocks) (at ∙ sym here)))
            (λ (before : (is_free_in n bad free (spot_of q.place) ≡ true) × IsOlder c (spot_of q.place) s).
            out (sym (free_there n bad free (spot_of q.place) lies) ∙ before.0)
            (subst (IsBefore latests (block_of n.blocks q)) (ap (spot_number n.blocks) (sym here))
            (older_listed n c within pages listed marks marked latests (long ∙ all_long) greatest (spot_of q.place) s
            lies is before.1)))
            x,
      )

  goes : (s : Spot) → IsInside n s → slice_get free (spot_number n.blocks s) ≡ Some true → (p : Place) →
      spot_of p ≡ s → c p ≢ Nothing → MayGoWith c (Some m) (IsItOrFoundFree c (is_free_in n bad free) s) (c p)
  goes s is h p here some =
      by (c p) refl
    where
      blocks : Spot → Type 0
      blocks = IsItOrFoundFree c (is_free_in n bad free) s

      by : (x : Cell) → c p ≡ x → MayGoWith c (Some m) blocks (c p)
      by Nothing e = absurd (some e)
      by (GroupPage t body) e =
          let r = listed.all p t body e in
          let f : FoundPage = record { place = p; tag = t } in
          let told = told_there r.0 f r.1 in
          subst (MayGoWith c (Some m) blocks) (sym e)
          (⊎_elim
          (λ (on : told.0 ≡ true).
          inr (inr (copy_outside s is p t here
          (((decided_there s is).goes h).1 r.0 f
          (record { there = r.1; needed_there = told.1 ∙ ap Some on; inside = ap (spot_number n.blocks) here })))))
          (λ (off : told.0 ≡ false). ⊎_elim (λ x. inl x) (λ x. inr (inl x)) (told.2.0 off))
          (cases_Bool told.0))
      by (MarkPage o) e =
          let r = marked.all p o e in
          let f : FoundMark = record { place = p; number = o.number; records = o.records } in
          subst (MayGoWith c (Some m) blocks) (sym e)
          ((holds.lets_go (spot_number n.blocks s) ((decided_there s is).goes h).0).1 r.0 f
          (slice_get_within marks r.0 f r.1) r.1 (ap (spot_number n.blocks) here))

  -- a needed page that has no other outside may not go
  no_copy : (s : Spot) → IsInside n s → (i : ℕ) (e : FoundPage) →
      IsNeededIn n.blocks pages needed (spot_number n.blocks s) i e →
      (HasOtherThen n.blocks latests named free e → ⊥) → (body : List ℕ) → c e.place ≡ GroupPage e.tag body →
      MayGoWith c (Some m) (IsItOrFoundFree c (is_free_in n bad free) s) (GroupPage e.tag body) → ⊥
  no_copy s is i e x none body there = by
    where
      told : (told : Bool) × (slice_get needed i ≡ Some told)
          × ((told ≡ false → IsFenced m.fence e.tag.number ⊎ IsOverwrittenIn c m e.tag)
          × (told ≡ true → IsFenced m.fence e.tag.number ⊎ IsOverwrittenIn c m e.tag → ⊥))
      told = told_there i e x.there

      on : told.0 ≡ true
      on = same_Some told.0 true (sym told.1 ∙ x.needed_there)

      by : MayGoWith c (Some m) (IsItOrFoundFree c (is_free_in n bad free) s) (GroupPage e.tag body) → ⊥
      by (inl fenced) = told.2.1 on (inl fenced)
      by (inr (inl over)) = told.2.1 on (inr over)
      by (inr (inr (q, (u, other, at, same_name), out))) =
          let j = listed.all q u other at in
          let f : FoundPage = record { place = q; tag = u } in
          let k = same.all j.0 f j.1 in
          let lies : IsInside n (spot_of q) = page_inside n c within pages listed j.0 f j.1 in
          none (
            k.0,
            f,
            k.1,
            record {
              number = ap (λ (x : Name). x.number) same_name;
              index = ap (λ (x : Name). x.index) same_name;
              apart = λ e. out (inl (one_spot n (spot_of q) s lies is (e ∙ x.inside)));
            },
            λ free_too before. out (inr (
              free_there n bad free (spot_of q) lies ∙ free_too,
              older_told n c within pages listed marks marked latests (long ∙ all_long) greatest (spot_of q) s lies is
                  (subst (IsBefore latests (spot_number n.blocks (spot_of q))) x.inside before),
            )),
          )

  stays : (s : Spot) → IsInside n s → bad s ≡ false → slice_get free (spot_number n.blocks s) ≡ Some false →
      (p : Place) × (spot_of p ≡ s) × (c p ≢ Nothing)
      × (MayGoWith c (Some m) (IsItOrFoundFree c (is_free_in n bad free) s) (c p) → ⊥)
  stays s is fine h = ⊎_elim by_mark by_page ((decided_there s is).stays h)
    where
      blocks : Spot → Type 0
      blocks = IsItOrFoundFree c (is_free_in n bad free) s

      Stays : Type 0
      Stays = (p : Place) × (spot_of p ≡ s) × (c p ≢ Nothing) × (MayGoWith c (Some m) blocks (c p) → ⊥)

      held_by : (i : ℕ) × (e : FoundMark) × (slice_get marks i ≡ Some e)
          × (spot_number n.blocks (spot_of e.place) ≡ spot_number n.blocks s) × (m.number ≤ e.number) → Stays
      held_by (i, e, there, at, high) =
          let r = marked.there i e there in
          let some = mark_not_nothing (c e.place) r.0 r.1 in (
            e.place,
            one_spot n (spot_of e.place) s (inside n c within e.place some) is at,
            some,
            λ may. let low = subst (MayGoWith c (Some m) blocks) r.1 may in let same = r.2 in
                omega (arith, low, high, same),
          )

      by_mark : slice_get held (spot_number n.blocks s) ≡ Some true → Stays
      by_mark on =
          ⊎_elim
          (λ (b : slice_get bads (spot_number n.blocks s) ≡ Some true).
          absurd (true≢false (sym (same_Some (bad s) true (sym (bad_there s is) ∙ b)) ∙ fine)))
          held_by
          (holds.holds (spot_number n.blocks s) on)

      by_page : (i : ℕ) × (e : FoundPage) × IsNeededIn n.blocks pages needed (spot_number n.blocks s) i e
          × (HasOtherThen n.blocks latests named free e → ⊥) → Stays
      by_page (i, e, x, none) =
          let r = listed.there i e x.there in (
            e.place,
            one_spot n (spot_of e.place) s (page_inside n c within pages listed i e x.there) is x.inside,
            page_some n c within pages listed i e x.there,
            λ may. no_copy s is i e x none r.0 r.1 (subst (MayGoWith c (Some m) blocks) r.1 may),
          )

  pub free_marked : AreFoundFree c (Some m) bad (is_free_in n bad free)
  free_marked = of_all n bad free c (Some m) within (as_many ∙ (holds.long ∙ all_long)) good goes stays
