-- The lowest place whose cell is of a sort.
use Rattle.power_loss.proofs.Common.{◌≡◌, ◌⊎◌, ℕ, zero, suc, ◌<◌, sym, subst, inl, inr, ⊎_elim, arith, cases_order}
use Rattle.power_loss.proofs.Common.{AreWithin, Cell, Cells, IsPlace, Nothing, Numbers, Place}
use Rattle.ufs_laws.proofs.deciding.SearchOverPlaces.{Decided, is_place, split}
use Rattle.ufs_spec.specs.Openings.{IsNotHigher}

record Least (P : ℕ → Type 0) (end : ℕ) : Type 0 where
  pub at : ℕ
  pub below : at < end
  pub is : P at
  pub least : (j : ℕ) → j < at → P j → ⊥

least_below : (P : ℕ → Type 0) → ((i : ℕ) → Decided (P i)) → (end : ℕ) → Least P end ⊎ ((i : ℕ) → i < end → P i → ⊥)
least_below P d zero = inr (λ i l h. omega arith)
least_below P d (suc end) = ⊎_elim
    (λ (l : Least P end). inl record { at = l.at; below = let b = l.below in omega arith; is = l.is; least = l.least })
    (λ none. ⊎_elim (λ h. inl record { at = end; below = omega arith; is = h; least = none })
    (λ no. inr (λ i l h. ⊎_elim (λ low. none i low h) (λ high. no (subst P (omega arith) h)) (split (suc i) end)))
    (d end)) (least_below P d end)

abbrev at : ℕ → ℕ → ℕ → Place
at die block page = record { die = die; block = block; page = page }

module _ (n : Numbers) (c : Cells) (within : AreWithin n c) (P : Cell → Type 0) (d : (x : Cell) → Decided (P x))
    (none : P Nothing → ⊥) where
  abbrev OnPage : ℕ → ℕ → ℕ → Type 0
  OnPage die block page = P (c (at die block page))

  abbrev InBlock : ℕ → ℕ → Type 0
  InBlock die block = (page : ℕ) × (page < n.pages) × OnPage die block page

  abbrev OnDie : ℕ → Type 0
  OnDie die = (block : ℕ) × (block < n.blocks) × InBlock die block

  in_block : (die block : ℕ) → Least (OnPage die block) n.pages ⊎
      ((page : ℕ) → page < n.pages → OnPage die block page → ⊥)
  in_block die block = least_below (OnPage die block) (λ page. d (c (at die block page))) n.pages

  has_block : (die block : ℕ) → Decided (InBlock die block)
  has_block die block = ⊎_elim (λ l. inl (l.at, l.below, l.is)) (λ no. inr (λ h. no h.0 h.1 h.2)) (in_block die block)

  on_die : (die : ℕ) → Least (InBlock die) n.blocks ⊎ ((block : ℕ) → block < n.blocks → InBlock die block → ⊥)
  on_die die = least_below (InBlock die) (has_block die) n.blocks

  has_die : (die : ℕ) → Decided (OnDie die)
  has_die die = ⊎_elim (λ l. inl (l.at, l.below, l.is)) (λ no. inr (λ h. no h.0 h.1 h.2)) (on_die die)

  -- a place of the sort is one of the dies'
  inside : (q : Place) → P (c q) → IsPlace n q
  inside q h = ⊎_elim (λ i. i) (λ out. absurd (none (subst P (within q out) h))) (is_place n q)

  module _ (x : Least OnDie n.dies) (y : Least (InBlock x.at) n.blocks) (z : Least (OnPage x.at y.at) n.pages) where
    by_page : {q : Place} → P (c q) → IsPlace n q → x.at ≡ q.die → y.at ≡ q.block → IsNotHigher (at x.at y.at z.at) q
    by_page {q} h i e f =
        inr (inr (
          e,
          f,
          ⊎_elim (λ l. l)
              (λ l. absurd (z.least q.page l
              (subst (λ die. OnPage die y.at q.page) (sym e)
              (subst (λ block. OnPage q.die block q.page) (sym f) h)))) (split z.at q.page),
        ))

    by_block : {q : Place} → P (c q) → IsPlace n q → x.at ≡ q.die → IsNotHigher (at x.at y.at z.at) q
    by_block {q} h i e = ⊎_elim (by_page h i e)
        (⊎_elim (λ l. inr (inl (e, l)))
        (λ l. absurd (y.least q.block l (subst (λ die. InBlock die q.block) (sym e) (q.page, i.page, h)))))
        (cases_order y.at q.block)

    lower : (q : Place) → P (c q) → IsNotHigher (at x.at y.at z.at) q
    lower q h =
        let i = inside q h in
        ⊎_elim (by_block h i)
        (⊎_elim (λ l. inl l) (λ l. absurd (x.least q.die l (q.block, i.block, (q.page, i.page, h)))))
        (cases_order x.at q.die)

  abbrev IsLowest : Place → Type 0
  IsLowest p = P (c p) × ((q : Place) → P (c q) → IsNotHigher p q)

  pub lowest : ((p : Place) × IsLowest p) ⊎ ((p : Place) → P (c p) → ⊥)
  lowest = ⊎_elim
      (λ (x : Least OnDie n.dies). ⊎_elim
      (λ (y : Least (InBlock x.at) n.blocks). ⊎_elim
      (λ (z : Least (OnPage x.at y.at) n.pages). inl (at x.at y.at z.at, (z.is, lower x y z)))
      (λ no. absurd (no y.is.0 y.is.1 y.is.2)) (in_block x.at y.at)) (λ no. absurd (no x.is.0 x.is.1 x.is.2))
      (on_die x.at)) (λ no. inr (λ p h. let i = inside p h in no p.die i.die (p.block, i.block, (p.page, i.page, h))))
      (least_below OnDie has_die n.dies)
