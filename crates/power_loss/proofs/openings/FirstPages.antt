-- The page that a key begins with has the content that the key has at the life's start.
use Rattle.std.proofs.Common.{List, None, Option, Some, ap, arith, inl, inr, suc, sym, ℕ, ◌∙◌, ◌≡◌}
use Rattle.ufs_spec.specs.Cells.{Cells, Mark, key_of}
use Rattle.ufs_spec.specs.Kept.{Counts, Holds, IsNewest}
use Rattle.ufs_spec.specs.Ledger.{Entry}
use Rattle.ufs_spec.specs.Openings.{IsEntry, IsFirst}
use Rattle.ufs_spec.specs.Sound.{CellsSound}
use Rattle.ufs_spec.specs.Translation.{name_of}
use Rattle.ufs_spec.specs.declared.flash.Key.{Key}
use Rattle.ufs_spec.specs.declared.flash.Place.{Place}
use Rattle.ufs_spec.specs.declared.flash.Tag.{Tag}
use Rattle.ufs_spec.specs.declared.layer.Name.{Name}

-- the newest page of a key that counts holds the key's content
body_held : (c : Cells) (m : Option Mark) (bound : ℕ) (k : Key) (p : Place) (t : Tag) (body x : List ℕ) →
    CellsSound c m → IsNewest c m bound k p t body → Holds c m bound k x → body ≡ x
body_held c m bound k p t body x sound is (inl (q, u, other)) =
    let low = other.greatest p t body is.counts is.key is.within in
    let high = is.greatest q u x other.counts other.key other.within in
    (sound.pages p q t u body x is.counts.there other.counts.there (omega (arith, low, high))
    (inr (is.key ∙ sym other.key))).4
body_held c m bound k p t body x sound is (inr (none, zeros)) =
    let above = none p t body is.counts is.key in
    let below = is.within in
    absurd (omega (arith, above, below))

-- what the page of a name has
abbrev pub IsFirstEntry : Key → List ℕ → Option Entry → Type 0
IsFirstEntry k x o = (size : ℕ) × (o ≡ Some (record { item = record { key = k; body = x }; size = size }))

entry_held : (c : Cells) (m : Option Mark) (k : Key) (name : Name) (p : Place) (t : Tag) (body x : List ℕ)
    (o : Option Entry) → CellsSound c m → Counts c m p t body → key_of t ≡ k → name_of t ≡ name → body ≡ x →
    IsEntry c name o → IsFirstEntry k x o
entry_held c m k name p t body x None sound is key named same h = absurd (h p (t, body, is.there, named))
entry_held c m k name p t body x (Some e) sound is key named same (q, u, there, other, of, size) =
    let alike = sound.pages q p u t e.item.body body there is.there
    (ap (λ (n : Name). n.number) (other ∙ sym named)) (inl (ap (λ (n : Name). n.index) (other ∙ sym named))) in
    let key_is = of ∙ (alike.0 ∙ key) in
    let body_is = alike.4 ∙ same in
    (e.size, λ i. Some (record { item = record { key = key_is i; body = body_is i }; size = e.size }))

pub first_held : (c : Cells) (m : Option Mark) (kept : ℕ) (k : Key) (x : List ℕ) (first : Option Name) (name : Name)
    (o : Option Entry) → CellsSound c m → IsFirst c m kept k first → Holds c m (suc kept) k x → first ≡ Some name →
    IsEntry c name o → IsFirstEntry k x o
first_held c m kept k x None name o sound h holds e entry = cc
first_held c m kept k x (Some other) name o sound (p, t, body, is, named) holds e entry =
    entry_held c m k name p t body x o sound is.counts is.key (named ∙ same_name e)
    (body_held c m (suc kept) k p t body x sound is holds) entry
  where
    same_name : Some other ≡ Some name → other ≡ name
    same_name e = cc
