-- What is looked up of a key of the device is there: a page that no erase is near, or a slot of a group above the
-- frontier.
use Rattle.power_loss.proofs.Common.{◌≡◌, ℕ, suc, ◌+◌, ◌-◌, ◌<◌, ◌≤◌, ◌⊎◌, Bool, true, false, List, [], ◌∷◌, ◌++◌, drop}
use Rattle.power_loss.proofs.Common.{length, take, Option, Some, None, slice_get, refl, sym, ap, ◌∙◌, subst, inl, inr}
use Rattle.power_loss.proofs.Common.{⊎_elim, arith, nat_lt, length-take-le, take-append-drop, Cells, BlockState, Spot}
use Rattle.power_loss.proofs.Common.{spot_of, Group, recorded_in, Entry, InSlot, Ledger, Name, index_in, latest}
use Rattle.power_loss.proofs.Common.{latest_durable, latest_in, look, looked_at, looked_on, name_or, Mended, Mending}
use Rattle.power_loss.proofs.Common.{Repairing, Translation, Unmarked, is_mended, name_of, Key, Place, Book, FirstRight}
use Rattle.power_loss.proofs.Common.{HasKey, IsLostNumber, IsOverwritten, IsPageAt, IsWritten, book, last_number}
use Rattle.power_loss.proofs.Common.{IsGroupPage, IsSecure, Standing, Valid, ltb-false, ltb-true, at_most, same_Some}
use Rattle.power_loss.proofs.Common.{cases_Bool, name_is}
use Rattle.std.specs.Prelude.{if◌then◌else◌}
use Rattle.ufs_spec.specs.Keys as keys
use Rattle.power_loss.proofs.books.PagesByName.{is_old, new_page, old_page, page_new, page_within, written_more}
use Rattle.power_loss.proofs.books.LastOfEachKey.{IsLastOf, NoneOf, latest_cases}
use Rattle.ufs_spec.proofs.Lists.{get_take, take_get}
use Rattle.power_loss.proofs.books.LayerParts.{LookedOf, SecureOf, MendingOf}
use Rattle.power_loss.proofs.kept_pages.UnmendedPages.{unmended_secure}
use Rattle.ufs_spec.specs.Moves.{look_now}

-- All groups

latest_append : (k : Key) (n : ℕ) (xs ys : List Group) (older : Option Name) →
    latest_in k n (xs ++ ys) older ≡ latest_in k (n + length xs) ys (latest_in k n xs older)
latest_append k n [] ys older = ap (λ z. latest_in k z ys older) (omega arith)
latest_append k n (x ∷ xs) ys older = latest_append k (suc n) xs ys (name_or (suc n) (index_in k x) older)
    ∙ ap (λ z. latest_in k z ys (latest_in k (suc n) xs (name_or (suc n) (index_in k x) older))) (more n (length xs))
  where
    more : (n m : ℕ) → suc n + m ≡ n + suc m
    more n m = omega arith

-- the page of the key after all groups is found among those behind the frontier, else it is the one at the frontier
pub latest_splits : (l : Ledger) (k : Key) → l.greatest_seen ≤ l.frontier →
    l.frontier ≤ l.greatest_seen + length l.groups →
    latest l k ≡ latest_in k l.frontier (drop (l.frontier - l.greatest_seen) l.groups) (latest_durable l k)
latest_splits l k low high = ap (λ (gs : List Group). latest_in k l.greatest_seen gs (l.first_page k))
    (sym (take-append-drop (l.frontier - l.greatest_seen) l.groups))
    ∙ latest_append k l.greatest_seen (take (l.frontier - l.greatest_seen) l.groups)
    (drop (l.frontier - l.greatest_seen) l.groups) (l.first_page k)
    ∙ ap (λ z. latest_in k z (drop (l.frontier - l.greatest_seen) l.groups) (latest_durable l k))
    (at_frontier (length-take-le (l.frontier - l.greatest_seen) l.groups (omega arith)))
  where
    at_frontier : length (take (l.frontier - l.greatest_seen) l.groups) ≡ l.frontier - l.greatest_seen →
        l.greatest_seen + length (take (l.frontier - l.greatest_seen) l.groups) ≡ l.frontier
    at_frontier e = omega arith

-- What is lost is written again, and marks record no more than the frontier

-- each key with a lost page is written again in this life, at or under the frontier
abbrev pub AreRewritten : Translation → Type 0
AreRewritten t = (n i : ℕ) (e : Entry) → IsLostNumber (book t) n → t.ledger.entries_before n i ≡ Some e →
    IsWritten (book t) e.item.key t.ledger.frontier

-- and what the newest finished mark records, or every number, is at or under the frontier
abbrev pub IsSettled : Translation → Type 0
IsSettled t = AreRewritten t × ((recorded_in t.ledger.newest ≤ t.ledger.frontier)
    ⊎ (last_number (book t) ≤ t.ledger.frontier))

pub settled_mended : (t : Translation) (w : Mending) → is_mended w ≡ true → MendingOf t w → IsSettled t
settled_mended t (Unmarked fence lost) e m = cc
settled_mended t (Repairing left) e m = cc
settled_mended t Mended e m = (
  λ n i x lost old. written_more (book t) x.item.key m.mark.records t.ledger.frontier m.right.within
      (m.more.repaired n i x lost old),
  inl (subst (λ o. recorded_in o ≤ t.ledger.frontier) (sym m.is) m.right.within),
)

-- The page of a key at the frontier

-- the groups at or under the frontier, and those above it
abbrev durable_groups : Translation → List Group
durable_groups t = take (t.ledger.frontier - t.ledger.greatest_seen) t.ledger.groups

abbrev later_groups : Translation → List Group
later_groups t = drop (t.ledger.frontier - t.ledger.greatest_seen) t.ledger.groups

abbrev IsSecureAs : Translation → Name → Type 0
IsSecureAs t name = SecureOf t name.number name.index

-- the page that has the key's content at the frontier: it is of the key, it is not lost, and none that is not lost is
-- newer
pub record IsLatest (t : Translation) (k : Key) (name : Name) : Type 0 where
  pub entry : Entry
  pub is : IsPageAt (book t) name.number name.index entry
  pub key : entry.item.key ≡ k
  pub free : IsLostNumber (book t) name.number → ⊥
  pub within : name.number ≤ t.ledger.frontier
  pub newest : (n i : ℕ) (e : Entry) → IsPageAt (book t) n i e → e.item.key ≡ k → (IsLostNumber (book t) n → ⊥) →
      n ≤ t.ledger.frontier → n ≤ name.number

-- the last of some groups from the first on that has the key has a page of it
pub last_page : (b : Book) (k : Key) (gs : List keys.Group) (o : Option Name) (l : IsLastOf k b.greatest_seen gs o) →
    slice_get b.groups l.at ≡ Some l.group →
    IsPageAt b l.name.number l.name.index (record { item = l.item; size = length l.group })
last_page b k gs o l at =
    let z = l.number in
    new_page b l.name.number l.name.index (record { item = l.item; size = length l.group }) (omega arith)
    (record { group = l.group; is = ap (slice_get b.groups) (omega arith) ∙ at; item = l.has; size = refl })

-- what is secure is the page of its name
pub secure_page : {standing : Standing} {cells : Cells} {finished : Place → Bool} {blocks : Spot → BlockState}
    {erasing : Spot → Bool} {name : Name} {p : Place} → standing name.number name.index ≡ Some p →
    IsSecure standing cells finished blocks erasing name.number name.index → IsGroupPage cells finished erasing name p
secure_page {cells = cells} {finished = finished} {erasing = erasing} {name = name} {p = p} known h =
    let at = same_Some h.place p (sym h.known ∙ known) in
    record {
      tag = h.tag;
      body = h.body;
      there = ap cells (sym at) ∙ h.there;
      is = name_is (name_of h.tag) name h.number h.index;
      ended = ap finished (sym at) ∙ h.ended;
      stays = ap (λ (q : Place). erasing (spot_of q)) (sym at) ∙ h.stays;
    }

module _ (t : Translation) (k : Key) where
  -- a page of this life at or under the frontier is of one of those groups
  in_durable : (n i : ℕ) (e : Entry) → IsPageAt (book t) n i e → t.ledger.greatest_seen < n → n ≤ t.ledger.frontier →
      (g : Group) × (slice_get (durable_groups t) (n - t.ledger.greatest_seen - 1) ≡ Some g)
      × (slice_get g i ≡ Some e.item)
  in_durable n i e h new l =
      let p = page_new (book t) n new h in (
        p.group,
        take_get (t.ledger.frontier - t.ledger.greatest_seen) t.ledger.groups (n - t.ledger.greatest_seen - 1) p.group
            (omega arith) p.is,
        p.item,
      )

  latest_of_group : (o : Option Name) (l : IsLastOf k t.ledger.greatest_seen (durable_groups t) o) → IsLatest t k l.name
  latest_of_group o l = record {
    entry = record { item = l.item; size = length l.group };
    is = last_page (book t) k (durable_groups t) o l there.1;
    key = l.key;
    free = λ lost. let z = l.number in let u = lost.to in omega arith;
    within = let z = l.number in let u = there.0 in omega arith;
    newest = λ n i e h key free u. ⊎_elim (λ old. let z = l.number in omega arith)
        (λ new.
        let p = in_durable n i e h new u in
        let last = l.last (n - t.ledger.greatest_seen - 1) i p.0 e.item p.1 p.2 key in
        let z = l.number in
        omega arith) (at_most n t.ledger.greatest_seen);
  }
    where
      there : (l.at < t.ledger.frontier - t.ledger.greatest_seen) × (slice_get t.ledger.groups l.at ≡ Some l.group)
      there = get_take (t.ledger.frontier - t.ledger.greatest_seen) t.ledger.groups l.at l.group l.there

  latest_of_first : {name : Name} → Valid t → AreRewritten t → FirstRight (book t) k (Some name) →
      NoneOf k (durable_groups t) → IsLatest t k name
  latest_of_first {name} v again first none = record {
    entry = first.0;
    is = old_page (book t) name.number name.index within first.1;
    key = first.2;
    free = free;
    within = let a = v.frontier.above in let w = within in omega arith;
    newest = λ n i e h key kept u. ⊎_elim (λ lost. absurd (free lost))
        (λ (o : (name.number < t.ledger.first_lost)
        × ((n i : ℕ) (e : Entry) → t.ledger.entries_before n i ≡ Some e → e.item.key ≡ k →
        n < t.ledger.first_lost → n ≤ name.number)). ⊎_elim
        (λ old. o.1 n i e (is_old (book t) n i e old h) key (under n kept old))
        (λ new. absurd (none_new n i e h key new u)) (at_most n t.ledger.greatest_seen)) first.3;
  }
    where
      within : name.number ≤ t.ledger.greatest_seen
      within = v.book_right.old_within name.number name.index first.0 first.1

      none_new : (n i : ℕ) (e : Entry) → IsPageAt (book t) n i e → e.item.key ≡ k → t.ledger.greatest_seen < n →
          n ≤ t.ledger.frontier → ⊥
      none_new n i e h key new l =
          let p = in_durable n i e h new l in
          none (n - t.ledger.greatest_seen - 1) i p.0 e.item p.1 p.2 key

      -- where it is lost the key is written again
      free : IsLostNumber (book t) name.number → ⊥
      free lost =
          let w = again name.number name.index first.0 lost first.1 in
          none_new w.number w.index w.page w.is (w.key ∙ first.2) w.new w.within

      under : (n : ℕ) → (IsLostNumber (book t) n → ⊥) → n ≤ t.ledger.greatest_seen → n < t.ledger.first_lost
      under n kept old =
          ⊎_elim (λ l. absurd (kept (record { from = l; to = old }))) (λ l. l) (at_most t.ledger.first_lost n)

  pub latest_right : (name : Name) → Valid t → AreRewritten t → HasKey (book t) k →
      latest_durable t.ledger k ≡ Some name → IsLatest t k name
  latest_right name v again has e = ⊎_elim
      (λ (l : IsLastOf k t.ledger.greatest_seen (durable_groups t) (latest_durable t.ledger k)).
      subst (IsLatest t k) (same_Some l.name name (sym l.is ∙ e)) (latest_of_group (latest_durable t.ledger k) l))
      (λ (r : (latest_durable t.ledger k ≡ t.ledger.first_page k) × NoneOf k (durable_groups t)).
      latest_of_first v again (subst (FirstRight (book t) k) (sym r.0 ∙ e) (v.book_right.first_page k has)) r.1)
      (latest_cases k t.ledger.greatest_seen (durable_groups t) (t.ledger.first_page k))

  -- where it stands, its place holds its page and no erase is near
  pub latest_secure : {name : Name} {p : Place} → Valid t → IsSettled t → IsLatest t k name →
      t.ledger.standing name.number name.index ≡ Some p → IsSecureAs t name
  latest_secure {name} {p} v s l e = ⊎_elim (λ h. h)
      (λ h.
      let newer = h.by.newer in
      let u = l.newest h.by.number h.by.index h.by.page h.by.is (h.by.key ∙ l.key) h.by.free (bound h.by s.1) in
      absurd (omega arith)) (v.safe.safe name.number name.index l.entry p l.is e l.free)
    where
      bound : (o : IsOverwritten (book t) name.number l.entry.item.key (recorded_in t.ledger.newest)) →
          (recorded_in t.ledger.newest ≤ t.ledger.frontier) ⊎ (last_number (book t) ≤ t.ledger.frontier) →
          o.number ≤ t.ledger.frontier
      bound o (inl h) = let w = o.within in omega arith
      bound o (inr h) = let w = page_within (book t) o.number o.index o.page o.is in omega arith

  -- at or under it the page of the key at the frontier is the one after all groups
  pub latest_is_durable : (name : Name) → Valid t → latest t.ledger k ≡ Some name → name.number ≤ t.ledger.frontier →
      latest_durable t.ledger k ≡ Some name
  latest_is_durable name v e l = ⊎_elim
      (λ (last : IsLastOf k t.ledger.frontier (later_groups t)
      (latest_in k t.ledger.frontier (later_groups t) (latest_durable t.ledger k))).
      let z = last.number in
      let same = ap (λ (x : Name). x.number) (same_Some last.name name (sym last.is ∙ sym splits ∙ e)) in
      absurd (omega arith)) (λ r. sym r.0 ∙ sym splits ∙ e)
      (latest_cases k t.ledger.frontier (later_groups t) (latest_durable t.ledger k))
    where
      splits : latest t.ledger k ≡ latest_in k t.ledger.frontier (later_groups t) (latest_durable t.ledger k)
      splits = latest_splits t.ledger k v.frontier.above v.frontier.within

  -- What is looked up

  -- above the frontier it is a page of a group
  in_slot : {name : Name} → Valid t → HasKey (book t) k → latest t.ledger k ≡ Some name →
      t.ledger.frontier < name.number → (e : Entry) × IsPageAt (book t) name.number name.index e
  in_slot {name} v has e behind = ⊎_elim
      (λ (l : IsLastOf k t.ledger.greatest_seen t.ledger.groups (latest t.ledger k)).
      let entry : Entry = record { item = l.item; size = length l.group } in (
        entry,
        subst (λ (z : Name). IsPageAt (book t) z.number z.index entry) (same_Some l.name name (sym l.is ∙ e))
            (last_page (book t) k t.ledger.groups (latest t.ledger k) l l.there),
      ))
      (λ (r : (latest t.ledger k ≡ t.ledger.first_page k) × NoneOf k t.ledger.groups).
      let first = subst (FirstRight (book t) k) (sym r.0 ∙ e) (v.book_right.first_page k has) in
      let w = v.book_right.old_within name.number name.index first.0 first.1 in
      let a = v.frontier.above in
      absurd (omega arith)) (latest_cases k t.ledger.greatest_seen t.ledger.groups (t.ledger.first_page k))

  stands_secure : {name : Name} {p : Place} → Valid t → HasKey (book t) k → latest t.ledger k ≡ Some name →
      name.number ≤ t.ledger.frontier → t.ledger.standing name.number name.index ≡ Some p → IsSecureAs t name
  stands_secure {name} {p} v has e low known = ⊎_elim
      (λ m.
      let s = settled_mended t t.work.mending m v.mending in
      latest_secure v s (latest_right name v s.0 has (latest_is_durable name v e low)) known)
      (λ un. unmended_secure k t.ledger.groups (latest t.ledger k) name v un has refl e known)
      (cases_Bool (is_mended t.work.mending))

  latest_looks : (o : Option Name) → Valid t → HasKey (book t) k → latest t.ledger k ≡ o →
      LookedOf t (looked_at t.ledger o)
  latest_looks None v has e = tt
  latest_looks (Some name) v has e = by (nat_lt t.ledger.frontier name.number) refl
    where
      stands : (at : Option Place) → t.ledger.standing name.number name.index ≡ at →
          name.number ≤ t.ledger.frontier → LookedOf t (looked_on name at)
      stands None at low = tt
      stands (Some p) at low = secure_page at (stands_secure v has e low at)

      by : (b : Bool) → nat_lt t.ledger.frontier name.number ≡ b →
          LookedOf t (if b then InSlot name else looked_on name (t.ledger.standing name.number name.index))
      by true h =
          let above = ltb-true t.ledger.frontier name.number h in
          (above, in_slot v has e above)
      by false h = stands (t.ledger.standing name.number name.index) refl (ltb-false t.ledger.frontier name.number h)

-- the page of a key at the frontier has a number at or under it
pub durable_within : {t : Translation} (k : Key) (name : Name) → Valid t → HasKey (book t) k →
    latest_durable t.ledger k ≡ Some name → name.number ≤ t.ledger.frontier
durable_within {t} k name v has e = ⊎_elim
    (λ (l : IsLastOf k t.ledger.greatest_seen (durable_groups t) (latest_durable t.ledger k)).
    let same = ap (λ (x : Name). x.number) (same_Some l.name name (sym l.is ∙ e)) in
    let there = get_take (t.ledger.frontier - t.ledger.greatest_seen) t.ledger.groups l.at l.group l.there in
    let low = there.0 in
    let n = l.number in
    omega (arith, same, low, n))
    (λ (r : (latest_durable t.ledger k ≡ t.ledger.first_page k) × NoneOf k (durable_groups t)).
    let first = subst (FirstRight (book t) k) (sym r.0 ∙ e) (v.book_right.first_page k has) in
    let w = v.book_right.old_within name.number name.index first.0 first.1 in
    let a = v.frontier.above in
    omega (arith, w, a))
    (latest_cases k t.ledger.greatest_seen (durable_groups t) (t.ledger.first_page k))

-- what is found of a key at the frontier before the device is mended
durable_looks : {t : Translation} (k : Key) (o : Option Name) → Valid t → is_mended t.work.mending ≡ false →
    HasKey (book t) k → latest_durable t.ledger k ≡ o → LookedOf t (looked_at t.ledger o)
durable_looks k None v un has e = tt
durable_looks {t} k (Some name) v un has e = by (nat_lt t.ledger.frontier name.number) refl
  where
    stands : (at : Option Place) → t.ledger.standing name.number name.index ≡ at → LookedOf t (looked_on name at)
    stands None at = tt
    stands (Some p) at =
        secure_page at (unmended_secure k (durable_groups t) (latest_durable t.ledger k) name v un has refl e at)

    by : (b : Bool) → nat_lt t.ledger.frontier name.number ≡ b →
        LookedOf t (if b then InSlot name else looked_on name (t.ledger.standing name.number name.index))
    by true h = let l = ltb-true t.ledger.frontier name.number h in
        absurd (let w = durable_within k name v has e in omega (arith, l, w))
    by false h = stands (t.ledger.standing name.number name.index) refl

pub look_right : {t : Translation} (k : Key) → Valid t → HasKey (book t) k → LookedOf t (look t.ledger k)
look_right {t} k v has = latest_looks t k (latest t.ledger k) v has refl

-- what a task finds of a key is there
pub look_now_right : {t : Translation} (k : Key) → Valid t → HasKey (book t) k → LookedOf t (look_now t k)
look_now_right {t} k v has = by (is_mended t.work.mending) refl
  where
    by : (b : Bool) → is_mended t.work.mending ≡ b →
        LookedOf t (if b then look t.ledger k else looked_at t.ledger (latest_durable t.ledger k))
    by true e = look_right k v has
    by false e = durable_looks k (latest_durable t.ledger k) v e has refl
