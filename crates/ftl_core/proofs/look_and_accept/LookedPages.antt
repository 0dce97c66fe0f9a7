-- What is looked up of a key is of the key: the page of a group that has it, in its slot or where it stands.
use Rattle.ftl_core.proofs.Common.{FirstRight, HasKey, InSlot, IsInNoSlot, IsLastOf, IsLookOf, Key, Name, None, NoneOf}
use Rattle.ftl_core.proofs.Common.{Option, Place, Some, Translation, Valid, arith, book, entry_of, false, if_false}
use Rattle.ftl_core.proofs.Common.{if_true, if◌then◌else◌, is_mended, latest_cases, latest_durable, le-ltb, length}
use Rattle.ftl_core.proofs.Common.{look, look_now, looked_on, ltb-true, nat_lt, refl, some_is, subst, sym, true}
use Rattle.ftl_core.proofs.Common.{two_ways, ⊎_elim, ◌<◌, ◌∙◌, ◌≡◌, ◌≤◌}
use Rattle.std.specs.Prelude.{Bool}
use Rattle.ufs_spec.proofs.Facts.{ltb-false}
use Rattle.ufs_spec.specs.Ledger.{latest, looked_at}
use Rattle.power_loss.proofs.kept_pages.LookedUpPages.{AreRewritten, last_page, latest_is_durable, latest_right}
use Rattle.power_loss.proofs.kept_pages.LookedUpPages.{durable_within as durable_below, settled_mended}
use Rattle.ftl_core.specs.Describes.{IsNameOf}
use Rattle.power_loss.proofs.shown_blocks.LooksShowContents.{HasContent, durable_has}

-- once the device is mended what is lost is written again
rewritten : (t : Translation) → Valid t → is_mended t.work.mending ≡ true → AreRewritten t
rewritten t v mended = (settled_mended t t.work.mending mended v.mending).0

-- What is looked up

-- behind the frontier it is a page of a group
behind_there : (t : Translation) (k : Key) (name : Name) → Valid t → HasKey (book t) k → latest t.ledger k ≡ Some name →
    t.ledger.frontier < name.number → IsNameOf (entry_of t.ledger) k name
behind_there t k name v has e behind =
    ⊎_elim
    (λ (l : IsLastOf k t.ledger.greatest_seen t.ledger.groups (latest t.ledger k)). (
      record { item = l.item; size = length l.group },
      subst (λ (z : Name). entry_of t.ledger z ≡ Some (record { item = l.item; size = length l.group }))
          (some_is l.name name (sym l.is ∙ e))
          (last_page (book t) k t.ledger.groups (latest t.ledger k) l l.there),
      l.key,
    ))
    (λ (r : (latest t.ledger k ≡ t.ledger.first_page k) × NoneOf k t.ledger.groups).
    let first = subst (FirstRight (book t) k) (sym r.0 ∙ e) (v.book_right.first_page k has) in
    let w = v.book_right.old_within name.number name.index first.0 first.1 in
    let a = v.frontier.above in
    absurd (omega arith))
    (latest_cases k t.ledger.greatest_seen t.ledger.groups (t.ledger.first_page k))

look_there : (t : Translation) (k : Key) (o : Option Name) → Valid t → AreRewritten t → HasKey (book t) k →
    latest t.ledger k ≡ o →
    IsLookOf t.ledger.frontier (entry_of t.ledger) k (looked_at t.ledger o)
look_there t k None v s has e = tt
look_there t k (Some name) v s has e = ⊎_elim behind durable (two_ways (nat_lt t.ledger.frontier name.number))
  where
    behind : nat_lt t.ledger.frontier name.number ≡ true →
        IsLookOf t.ledger.frontier (entry_of t.ledger) k (looked_at t.ledger (Some name))
    behind h =
        let l = ltb-true t.ledger.frontier name.number h in
        subst (IsLookOf t.ledger.frontier (entry_of t.ledger) k)
        (sym (if_true (nat_lt t.ledger.frontier name.number) (InSlot name)
        (looked_on name (t.ledger.standing name.number name.index)) h))
        (l, behind_there t k name v has e l)

    durable : nat_lt t.ledger.frontier name.number ≡ false →
        IsLookOf t.ledger.frontier (entry_of t.ledger) k (looked_at t.ledger (Some name))
    durable h =
        subst (IsLookOf t.ledger.frontier (entry_of t.ledger) k)
        (sym (if_false (nat_lt t.ledger.frontier name.number) (InSlot name)
        (looked_on name (t.ledger.standing name.number name.index)) h))
        (stands (t.ledger.standing name.number name.index))
      where
        stands : (at : Option Place) → IsLookOf t.ledger.frontier (entry_of t.ledger) k (looked_on name at)
        stands None = tt
        stands (Some p) =
            let l = latest_right t k name v s has
            (latest_is_durable t k name v e (ltb-false t.ledger.frontier name.number h)) in
            (l.entry, l.is, l.key)

-- the page of a key at the frontier has a number at or under it
pub durable_within : (t : Translation) (k : Key) (name : Name) → Valid t → is_mended t.work.mending ≡ true →
    HasKey (book t) k → latest_durable t.ledger k ≡ Some name →
    name.number ≤ t.ledger.frontier
durable_within t k name v mended has e = (latest_right t k name v (rewritten t v mended) has e).within

-- what is looked up of a key of the device is of the key
pub looked_there : (t : Translation) (k : Key) → Valid t → is_mended t.work.mending ≡ true → HasKey (book t) k →
    IsLookOf t.ledger.frontier (entry_of t.ledger) k (look t.ledger k)
looked_there t k v mended has = look_there t k (latest t.ledger k) v (rewritten t v mended) has refl

-- until the device is mended it is the page of the key at the frontier
durable_there : (t : Translation) (k : Key) (o : Option Name) → Valid t → HasKey (book t) k →
    latest_durable t.ledger k ≡ o → HasContent t.ledger k o (t.ledger.base k) →
    IsLookOf t.ledger.frontier (entry_of t.ledger) k (looked_at t.ledger o)
durable_there t k None v has e c = tt
durable_there t k (Some name) v has e c =
    subst (IsLookOf t.ledger.frontier (entry_of t.ledger) k)
    (sym (if_false (nat_lt t.ledger.frontier name.number) (InSlot name)
    (looked_on name (t.ledger.standing name.number name.index))
    (le-ltb t.ledger.frontier name.number (durable_below k name v has e))))
    (stands (t.ledger.standing name.number name.index))
  where
    stands : (at : Option Place) → IsLookOf t.ledger.frontier (entry_of t.ledger) k (looked_on name at)
    stands None = tt
    stands (Some p) = (c.entry, c.is, c.key)

-- what a task finds of a key of the device is of the key
pub found_there : (t : Translation) (k : Key) → Valid t → HasKey (book t) k →
    IsLookOf t.ledger.frontier (entry_of t.ledger) k (look_now t k)
found_there t k v has = by (is_mended t.work.mending) refl
  where
    by : (b : Bool) → is_mended t.work.mending ≡ b →
        IsLookOf t.ledger.frontier (entry_of t.ledger) k
        (if b then look t.ledger k else looked_at t.ledger (latest_durable t.ledger k))
    by true e = looked_there t k v e has
    by false e = durable_there t k (latest_durable t.ledger k) v has refl (durable_has v e has)

-- and in no slot, until the device is mended
pub found_off : (t : Translation) (k : Key) → Valid t → HasKey (book t) k → is_mended t.work.mending ≡ false →
    IsInNoSlot (look_now t k)
found_off t k v has un =
    subst (λ (b : Bool). IsInNoSlot
    (if b then look t.ledger k else looked_at t.ledger (latest_durable t.ledger k))) (sym un)
    (by (latest_durable t.ledger k) refl)
  where
    on : (name : Name) (at : Option Place) → IsInNoSlot (looked_on name at)
    on name None = tt
    on name (Some p) = tt

    by : (o : Option Name) → latest_durable t.ledger k ≡ o → IsInNoSlot (looked_at t.ledger o)
    by None e = tt
    by (Some name) e =
        subst IsInNoSlot
        (sym (if_false (nat_lt t.ledger.frontier name.number) (InSlot name)
        (looked_on name (t.ledger.standing name.number name.index))
        (le-ltb t.ledger.frontier name.number (durable_below k name v has e))))
        (on name (t.ledger.standing name.number name.index))
