-- The keys of a sort, each once and in order, where it can be said of each number below an end which keys those are.
use Rattle.power_loss.proofs.Common.{◌≡◌, ◌⊎◌, ℕ, zero, suc, ◌<◌, List, [], ◌∷◌, Some, slice_get, refl, sym, ◌∙◌, subst}
use Rattle.power_loss.proofs.Common.{inl, inr, ⊎_elim, arith, cases_order, IsBefore, Key}
use Rattle.ufs_laws.proofs.deciding.SearchOverPlaces.{split}
use Rattle.ufs_spec.proofs.Facts.{key_is}
use Rattle.power_loss.proofs.ordered_lists.ElementsAndOrders.{IsIn, IsOrdered, order_at}
pub use Rattle.power_loss.proofs.ordered_lists.ElementsAndOrders.{at_has, has_at}

-- Order

compare : {j k : Key} → IsBefore j k ⊎ ((j ≡ k) ⊎ IsBefore k j)
compare {j} {k} = ⊎_elim by_unit (⊎_elim (λ l. inl (inl l)) (λ l. inr (inr (inl l)))) (cases_order j.kind k.kind)
  where
    by_address : j.kind ≡ k.kind → j.unit ≡ k.unit → IsBefore j k ⊎ ((j ≡ k) ⊎ IsBefore k j)
    by_address e f = ⊎_elim (λ g. inr (inl (key_is j k e f g)))
        (⊎_elim (λ l. inl (inr (inr (e, f, l)))) (λ l. inr (inr (inr (inr (sym e, sym f, l))))))
        (cases_order j.address k.address)

    by_unit : j.kind ≡ k.kind → IsBefore j k ⊎ ((j ≡ k) ⊎ IsBefore k j)
    by_unit e = ⊎_elim (by_address e) (⊎_elim (λ l. inl (inr (inl (e, l)))) (λ l. inr (inr (inr (inl (sym e, l))))))
        (cases_order j.unit k.unit)

before_trans : (a b c : Key) → IsBefore a b → IsBefore b c → IsBefore a c
before_trans a b c (inl h) (inl k) = inl (omega arith)
before_trans a b c (inl h) (inr (inl k)) = inl (let e = k.0 in omega arith)
before_trans a b c (inl h) (inr (inr k)) = inl (let e = k.0 in omega arith)
before_trans a b c (inr (inl h)) (inl k) = inl (let e = h.0 in omega arith)
before_trans a b c (inr (inr h)) (inl k) = inl (let e = h.0 in omega arith)
before_trans a b c (inr (inl h)) (inr (inl k)) = inr (inl (h.0 ∙ k.0, omega (arith, h.1, k.1)))
before_trans a b c (inr (inl h)) (inr (inr k)) = inr (inl (h.0 ∙ k.0, omega (arith, h.1, k.1)))
before_trans a b c (inr (inr h)) (inr (inl k)) = inr (inl (h.0 ∙ k.0, omega (arith, h.1, k.1)))
before_trans a b c (inr (inr h)) (inr (inr k)) = inr (inr (h.0 ∙ k.0, h.1 ∙ k.1, omega (arith, h.2, k.2)))

-- Lists

abbrev pub Has : List Key → Key → Type 0
Has keys k = IsIn k keys

abbrev pub Sorted : List Key → Type 0
Sorted = IsOrdered IsBefore

record Inserted (k : Key) (xs : List Key) : Type 0 where
  pub keys : List Key
  pub sorted : Sorted keys
  pub has : Has keys k
  pub kept : (j : Key) → Has xs j → Has keys j
  pub only : (j : Key) → Has keys j → (j ≡ k) ⊎ Has xs j

inserted_behind : {k : Key} (x : Key) {xs : List Key} → Sorted (x ∷ xs) → IsBefore x k → Inserted k xs →
    Inserted k (x ∷ xs)
inserted_behind x s l r = record {
  keys = x ∷ r.keys;
  sorted = ((λ j h. ⊎_elim (λ e. subst (IsBefore x) (sym e) l) (λ g. s.0 j g) (r.only j h)), r.sorted);
  has = inr r.has;
  kept = λ j h. ⊎_elim (λ e. inl e) (λ g. inr (r.kept j g)) h;
  only = λ j h. ⊎_elim (λ e. inr (inl e)) (λ g. ⊎_elim (λ e. inl e) (λ y. inr (inr y)) (r.only j g)) h;
}

insert : {k : Key} (xs : List Key) → Sorted xs → Inserted k xs
insert {k} [] s = record {
  keys = k ∷ [];
  sorted = ((λ j h. absurd h), tt);
  has = inl refl;
  kept = λ j h. absurd h;
  only = λ j h. ⊎_elim (λ e. inl (sym e)) (λ g. absurd g) h;
}
insert {k} (x ∷ xs) s = ⊎_elim
    (λ (l : IsBefore k x). record {
      keys = k ∷ x ∷ xs;
      sorted = ((λ j h. ⊎_elim (λ e. subst (IsBefore k) e l) (λ g. before_trans k x j l (s.0 j g)) h), s);
      has = inl refl;
      kept = λ j h. inr h;
      only = λ j h. ⊎_elim (λ e. inl (sym e)) (λ g. inr g) h;
    })
    (⊎_elim
    (λ (e : k ≡ x). record { keys = x ∷ xs; sorted = s; has = inl (sym e); kept = λ j h. h; only = λ j h. inr h })
    (λ (l : IsBefore x k). inserted_behind x s l (insert xs s.1))) (compare)

-- all keys of a sort
pub record Listed (P : Key → Type 0) : Type 0 where
  pub keys : List Key
  pub sorted : Sorted keys
  pub has : (k : Key) → P k → Has keys k
  pub only : (k : Key) → Has keys k → P k

insert_all : (P : Key → Type 0) (xs : List Key) → Listed P → Listed (λ k. Has xs k ⊎ P k)
insert_all P [] l = record {
  keys = l.keys;
  sorted = l.sorted;
  has = λ k h. ⊎_elim (λ g. absurd g) (λ g. l.has k g) h;
  only = λ k h. inr (l.only k h);
}
insert_all P (x ∷ xs) l =
    let r = insert_all P xs l in
    let i = insert r.keys r.sorted in
    record {
      keys = i.keys;
      sorted = i.sorted;
      has = λ k h. ⊎_elim (⊎_elim (λ e. subst (Has i.keys) e i.has) (λ g. i.kept k (r.has k (inl g))))
          (λ g. i.kept k (r.has k (inr g))) h;
      only = λ k h. ⊎_elim (λ e. inl (inl (sym e))) (λ g. ⊎_elim (λ a. inl (inr a)) (λ a. inr a) (r.only k g))
          (i.only k h);
    }

abbrev pub Below : ℕ → (ℕ → Key → Type 0) → Key → Type 0
Below end P k = (i : ℕ) × (i < end) × P i k

-- those of each number below the end
pub collect : (P : ℕ → Key → Type 0) → ((i : ℕ) → Listed (P i)) → (end : ℕ) → Listed (Below end P)
collect P l zero = record {
  keys = [];
  sorted = tt;
  has = λ k h. absurd (let low = h.1 in omega arith);
  only = λ k h. absurd h;
}
collect P l (suc end) =
    let rest = collect P l end in
    let all = insert_all (Below end P) (l end).keys rest in
    record {
      keys = all.keys;
      sorted = all.sorted;
      has = λ k h. ⊎_elim (λ low. all.has k (inr (h.0, low, h.2)))
          (λ high. all.has k (inl ((l end).has k (subst (λ i. P i k) (let low = h.1 in omega arith) h.2))))
          (split (suc h.0) end);
      only = λ k h. ⊎_elim (λ g. (end, omega arith, (l end).only k g))
          (λ (g : Below end P k). (g.0, (let low = g.1 in omega arith), g.2)) (all.only k h);
    }

pub none_listed : (P : Key → Type 0) → ((k : Key) → P k → ⊥) → Listed P
none_listed P none = record { keys = []; sorted = tt; has = λ k h. absurd (none k h); only = λ k h. absurd h }

pub one_listed : (P : Key → Type 0) {x : Key} → P x → ((k : Key) → P k → x ≡ k) → Listed P
one_listed P {x} is only = record {
  keys = x ∷ [];
  sorted = ((λ k h. absurd h), tt);
  has = λ k h. inl (only k h);
  only = λ k h. ⊎_elim (λ e. subst P e is) (λ g. absurd g) h;
}

-- a key by its index comes before each that stands later
pub ordered_at : (xs : List Key) → Sorted xs → (i j : ℕ) (a b : Key) → slice_get xs i ≡ Some a →
    slice_get xs j ≡ Some b → i < j → IsBefore a b
ordered_at = order_at IsBefore
