-- Keys, names, spots and places are equal where their fields are, and the machine's tests tell so.
use Rattle.std.proofs.Common.{◌≡◌, ◌≢◌, ◌⊎◌, ◌&&◌, ◌==◌, Bool, true, false, Option, Some, None, sym, ap, ◌∙◌, inl, inr}
use Rattle.std.proofs.Common.{⊎_elim}
use Rattle.ufs_spec.specs.Cells.{same_place}
use Rattle.ufs_spec.specs.Disk.{Spot, same_spot}
use Rattle.ufs_spec.specs.Keys.{same_key}
use Rattle.ufs_spec.specs.Ledger.{is_name, same_name}
use Rattle.ufs_spec.specs.declared.flash.Key.{Key}
use Rattle.ufs_spec.specs.declared.flash.Place.{Place}
use Rattle.ufs_spec.specs.declared.layer.Name.{Name}
use Rattle.ufs_spec.proofs.Facts.{and_parts, cases_Bool, eqb-self, eqb-true, false≢true, key_is}

-- A test that tells equality decides it
module _ {A : Type 0} (same : A → A → Bool) (told : (a b : A) → same a b ≡ true → a ≡ b)
    (self : (a : A) → same a a ≡ true) where
  pub told_cases : (a b : A) → ((same a b ≡ true) × (a ≡ b)) ⊎ ((same a b ≡ false) × (a ≢ b))
  told_cases a b =
      ⊎_elim
      (λ h. inl (h, told a b h))
      (λ h. inr (h, λ (e : a ≡ b). false≢true (sym h ∙ (sym (ap (same a) e) ∙ self a))))
      (cases_Bool (same a b))

-- Keys

pub key_told : (a b : Key) → same_key a b ≡ true → a ≡ b
key_told a b h =
    let r = and_parts ((a.kind == b.kind) && (a.unit == b.unit)) (a.address == b.address) h in
    let u = and_parts (a.kind == b.kind) (a.unit == b.unit) r.0 in
    key_is a b (eqb-true a.kind b.kind u.0) (eqb-true a.unit b.unit u.1) (eqb-true a.address b.address r.1)

pub key_self : (k : Key) → same_key k k ≡ true
key_self k = rw (eqb-self k.kind) (rw (eqb-self k.unit) (eqb-self k.address))

pub key_same : (a b : Key) → a ≡ b → same_key a b ≡ true
key_same a b e = sym (ap (same_key a) e) ∙ key_self a

pub key_cases : (a b : Key) → ((same_key a b ≡ true) × (a ≡ b)) ⊎ ((same_key a b ≡ false) × (a ≢ b))
key_cases = told_cases same_key key_told key_self

-- Names

pub name_is : (a b : Name) → a.number ≡ b.number → a.index ≡ b.index → a ≡ b
name_is a b d e i = record { number = d i; index = e i }

pub name_told : (a b : Name) → same_name a b ≡ true → a ≡ b
name_told a b h =
    let r = and_parts (a.number == b.number) (a.index == b.index) h in
    name_is a b (eqb-true a.number b.number r.0) (eqb-true a.index b.index r.1)

pub name_self : (a : Name) → same_name a a ≡ true
name_self a = rw (eqb-self a.number) (eqb-self a.index)

pub name_cases : (a b : Name) → ((same_name a b ≡ true) × (a ≡ b)) ⊎ ((same_name a b ≡ false) × (a ≢ b))
name_cases = told_cases same_name name_told name_self

pub is_name_told : (name : Name) (o : Option Name) → is_name name o ≡ true → o ≡ Some name
is_name_told name None h = absurd (false≢true h)
is_name_told name (Some other) h = ap (λ (x : Name). Some x) (sym (name_told name other h))

-- Spots

pub spot_is : (a b : Spot) → a.die ≡ b.die → a.block ≡ b.block → a ≡ b
spot_is a b d e i = record { die = d i; block = e i }

pub spot_told : (a b : Spot) → same_spot a b ≡ true → a ≡ b
spot_told a b h =
    let r = and_parts (a.die == b.die) (a.block == b.block) h in
    spot_is a b (eqb-true a.die b.die r.0) (eqb-true a.block b.block r.1)

pub spot_self : (a : Spot) → same_spot a a ≡ true
spot_self a = rw (eqb-self a.die) (eqb-self a.block)

pub spot_cases : (a b : Spot) → ((same_spot a b ≡ true) × (a ≡ b)) ⊎ ((same_spot a b ≡ false) × (a ≢ b))
spot_cases = told_cases same_spot spot_told spot_self

-- Places

pub place_is : (p q : Place) → p.die ≡ q.die → p.block ≡ q.block → p.page ≡ q.page → p ≡ q
place_is p q d e f i = record { die = d i; block = e i; page = f i }

pub place_told : (p q : Place) → same_place p q ≡ true → p ≡ q
place_told p q h =
    let r = and_parts ((p.die == q.die) && (p.block == q.block)) (p.page == q.page) h in
    let u = and_parts (p.die == q.die) (p.block == q.block) r.0 in
    place_is p q (eqb-true p.die q.die u.0) (eqb-true p.block q.block u.1) (eqb-true p.page q.page r.1)

pub place_self : (p : Place) → same_place p p ≡ true
place_self p = rw (eqb-self p.die) (rw (eqb-self p.block) (eqb-self p.page))

pub place_cases : (p q : Place) → ((same_place p q ≡ true) × (p ≡ q)) ⊎ ((same_place p q ≡ false) × (p ≢ q))
place_cases = told_cases same_place place_told place_self
