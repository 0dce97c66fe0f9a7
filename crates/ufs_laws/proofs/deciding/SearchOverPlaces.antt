-- A search over all places of the dies: the greatest weight of a cell, and whether a cell of some sort stands there.
pub use Rattle.ufs_spec.proofs.Facts.{at_most as split}
use Rattle.ufs_laws.proofs.Common.{AreWithin, Cell, Cells, Nothing, Numbers, Place, ap, arith, at_most, inl, inr, refl}
use Rattle.ufs_laws.proofs.Common.{subst, suc, zero, ℕ, ⊎_elim, ◌<◌, ◌∙◌, ◌≡◌, ◌≤◌, ◌⊎◌}
use Rattle.ufs_spec.specs.Cells.{IsPlace}
use Rattle.std.proofs.lemmas.Bool.Decides.{eqb_tells}

-- a fact that is so, or is not so
abbrev pub Decided : Type 0 → Type 0
Decided P = P ⊎ (P → ⊥)

pub not : {P : Type 0} → Decided P → Decided (P → ⊥)
not (inl h) = inr (λ f. f h)
not (inr h) = inl h

pub both : {P Q : Type 0} → Decided P → Decided Q → Decided (P × Q)
both (inl p) (inl q) = inl (p, q)
both (inl p) (inr q) = inr (λ h. q h.1)
both (inr p) _ = inr (λ h. p h.0)

-- what says the same is decided alike
pub alike : {P Q : Type 0} → (P → Q) → (Q → P) → Decided P → Decided Q
alike f g (inl p) = inl (f p)
alike f g (inr n) = inr (λ q. n (g q))

pub is_number : (a b : ℕ) → Decided (a ≡ b)
is_number a b = ⊎_elim (λ h. inl h.1) (λ h. inr h.1) (eqb_tells a b)

pub is_at_most : (a b : ℕ) → Decided (a ≤ b)
is_at_most a b = ⊎_elim (λ l. inl l) (λ l. inr (λ h. omega arith)) (at_most a b)

pub is_below : (a b : ℕ) → Decided (a < b)
is_below a b = is_at_most (suc a) b

-- Below a number

-- some number below the end has it, or none
pub some_below : (P : ℕ → Type 0) → ((i : ℕ) → Decided (P i)) → (end : ℕ) →
    ((i : ℕ) × (i < end) × P i) ⊎ ((i : ℕ) → i < end → P i → ⊥)
some_below P d zero = inr (λ i l h. omega arith)
some_below P d (suc end) =
    ⊎_elim
    (λ h. inl (end, omega arith, h))
    (λ none. ⊎_elim (λ (h : (i : ℕ) × (i < end) × P i). inl (h.0, (let l = h.1 in omega arith), h.2))
    (λ rest. inr (λ i l h. ⊎_elim (λ k. rest i k h) (λ k. none (subst P (omega arith) h)) (at_most (suc i) end)))
    (some_below P d end))
    (d end)

-- the greatest value of a function below the end; 0 if there is none above it
record Top (f : ℕ → ℕ) (end : ℕ) : Type 0 where
  pub weight : ℕ
  pub above : (i : ℕ) → i < end → f i ≤ weight
  pub reached : (weight ≡ 0) ⊎ ((i : ℕ) × (i < end) × (f i ≡ weight))

top_more : (f : ℕ → ℕ) (end : ℕ) → Top f end → Top f (suc end)
top_more f end t = ⊎_elim old new (at_most (f end) t.weight)
  where
    old : f end ≤ t.weight → Top f (suc end)
    old low = record {
      weight = t.weight;
      above =
          λ i l. ⊎_elim (λ k. t.above i k) (λ k. subst (λ j. f j ≤ t.weight) (omega arith) low) (at_most (suc i) end);
      reached =
          ⊎_elim (λ h. inl h)
          (λ (h : (i : ℕ) × (i < end) × (f i ≡ t.weight)). inr (h.0, (let l = h.1 in omega arith), h.2)) t.reached;
    }

    last : (i : ℕ) → i ≡ end → f i ≤ f end
    last i e = let same = ap f e in omega arith

    new : t.weight < f end → Top f (suc end)
    new high = record {
      weight = f end;
      above =
          λ i l. ⊎_elim (λ k. let low = t.above i k in omega arith) (λ k. last i (omega arith)) (at_most (suc i) end);
      reached = inr (end, omega arith, refl);
    }

top : (f : ℕ → ℕ) (end : ℕ) → Top f end
top f zero = record { weight = 0; above = λ i l. omega arith; reached = inl refl }
top f (suc end) = top_more f end (top f end)

-- Over places

abbrev at : ℕ → ℕ → ℕ → Place
at die block page = record { die = die; block = block; page = page }

module _ (f : Place → ℕ) (n : Numbers) where
  on_block : (die block : ℕ) → Top (λ page. f (at die block page)) n.pages
  on_block die block = top (λ page. f (at die block page)) n.pages

  on_die : (die : ℕ) → Top (λ block. (on_block die block).weight) n.blocks
  on_die die = top (λ block. (on_block die block).weight) n.blocks

  on_all : Top (λ die. (on_die die).weight) n.dies
  on_all = top (λ die. (on_die die).weight) n.dies

  low : (p : Place) → IsPlace n p → f p ≤ on_all.weight
  low p h =
      let a = (on_block p.die p.block).above p.page h.page in
      let b = (on_die p.die).above p.block h.block in
      let c = on_all.above p.die h.die in
      omega arith

  abbrev Reached : ℕ → Type 0
  Reached w = (w ≡ 0) ⊎ ((p : Place) × (f p ≡ w))

  by_block : (die block : ℕ) → Reached (on_block die block).weight
  by_block die block =
      ⊎_elim (λ h. inl h) (λ (h : (i : ℕ) × (i < n.pages) × (f (at die block i) ≡ (on_block die block).weight)).
      inr (at die block h.0, h.2)) (on_block die block).reached

  by_die : (die : ℕ) → Reached (on_die die).weight
  by_die die =
      ⊎_elim (λ h. inl h) (λ (h : (i : ℕ) × (i < n.blocks) × ((on_block die i).weight ≡ (on_die die).weight)).
      subst Reached h.2 (by_block die h.0)) (on_die die).reached

  by_all : Reached on_all.weight
  by_all =
      ⊎_elim (λ h. inl h)
      (λ (h : (i : ℕ) × (i < n.dies) × ((on_die i).weight ≡ on_all.weight)). subst Reached h.2 (by_die h.0))
      on_all.reached

-- the place is one of the dies', or not
pub is_place : (n : Numbers) (p : Place) → Decided (IsPlace n p)
is_place n p =
    alike (λ h. record { die = h.0; block = h.1.0; page = h.1.1 }) (λ h. (h.die, (h.block, h.page)))
    (both (is_below p.die n.dies) (both (is_below p.block n.blocks) (is_below p.page n.pages)))

-- Over cells

-- the greatest weight of a cell; 0 if none weighs more
pub record Greatest (c : Cells) (weigh : Cell → ℕ) : Type 0 where
  pub weight : ℕ
  pub above : (p : Place) → weigh (c p) ≤ weight
  pub reached : (weight ≡ 0) ⊎ ((p : Place) × (weigh (c p) ≡ weight))

pub greatest : (n : Numbers) (c : Cells) → AreWithin n c → (weigh : Cell → ℕ) → weigh Nothing ≡ 0 → Greatest c weigh
greatest n c within weigh none = record {
  weight = (on_all f n).weight;
  above = λ p. ⊎_elim (low f n p) (λ h. let e = ap weigh (within p h) ∙ none in omega arith) (is_place n p);
  reached = by_all f n;
}
  where
    f : Place → ℕ
    f p = weigh (c p)

-- a weight where a fact is so, and 0 where it is not
abbrev pub if_so : {P : Type 0} → Decided P → ℕ → ℕ
if_so (inl h) w = w
if_so (inr h) w = 0

pub so : {P : Type 0} (d : Decided P) (w : ℕ) → P → if_so d w ≡ w
so (inl h) w p = refl
so (inr h) w p = absurd (h p)

pub was_so : {P : Type 0} (d : Decided P) (w : ℕ) → 0 < if_so d w → P × (if_so d w ≡ w)
was_so (inl h) w l = (h, refl)
was_so (inr h) w l = absurd (omega arith)

-- some cell is of the sort, or none
pub some_cell : (n : Numbers) (c : Cells) → AreWithin n c → (P : Cell → Type 0) → ((x : Cell) → Decided (P x)) →
    (P Nothing → ⊥) → Decided ((p : Place) × P (c p))
some_cell n c within P d none = ⊎_elim zero found g.reached
  where
    weigh : Cell → ℕ
    weigh x = if_so (d x) 1

    nothing : (e : Decided (P Nothing)) → if_so e 1 ≡ 0
    nothing (inl h) = absurd (none h)
    nothing (inr h) = refl

    g : Greatest c weigh
    g = greatest n c within weigh (nothing (d Nothing))

    missing : g.weight ≡ 0 → (p : Place) × P (c p) → ⊥
    missing e (p, h) = let a = g.above p in let b = so (d (c p)) 1 h in omega arith

    zero : g.weight ≡ 0 → Decided ((p : Place) × P (c p))
    zero e = inr (missing e)

    found : (p : Place) × (weigh (c p) ≡ g.weight) → Decided ((p : Place) × P (c p))
    found (p, e) =
        ⊎_elim (λ z. zero (omega arith)) (λ l. inl (p, (was_so (d (c p)) 1 (omega arith)).0)) (at_most g.weight 0)
