-- Some blocks are found free over any cells, sound or not: they are gone through from the older on.
use Rattle.power_loss.proofs.Common.{◌≡◌, ◌≢◌, ◌⊎◌, ℕ, zero, suc, ◌<◌, ◌==◌, Bool, true, false, if◌then◌else◌, Option}
use Rattle.power_loss.proofs.Common.{refl, sym, ap, ◌∙◌, subst, inl, inr, ⊎_elim, arith, cases_Bool, cond-false}
use Rattle.power_loss.proofs.Common.{cond-true, eqb_tells, cases_order, true≢false, AreWithin, Cell, Cells, Mark}
use Rattle.power_loss.proofs.Common.{Nothing, Spot, spot_of, Numbers, Place}
use Rattle.power_loss.specs.FreeBlocks.{AreFoundFree, IsItOrFoundFree, MayGoWith}
use Rattle.power_loss.proofs.stops.LeftUnmarked.{some_or_nothing}
use Rattle.ufs_laws.proofs.deciding.SearchOverPlaces.{Decided, both, is_below, not}
use Rattle.ufs_spec.specs.Openings.{IsOlder}
use Rattle.power_loss.proofs.openings.BlocksByAge.{either, is_spot, some_place, inside, is_older, IsInside, inside_spot}
use Rattle.power_loss.proofs.openings.BlocksByAge.{rank, older_rank, end, below_end}
use Rattle.power_loss.proofs.openings.PagesThatMayGo.{may_go_same, may_go}

module _ (n : Numbers) (c : Cells) (within : AreWithin n c) (m : Option Mark) (bad : Spot → Bool) where
  abbrev Goes : (Spot → Bool) → Spot → Type 0
  Goes f s =
      (bad s ≡ false) ×
      ((p : Place) → spot_of p ≡ s → c p ≢ Nothing → MayGoWith c m (IsItOrFoundFree c f s) (c p))

  abbrev Stuck : (Spot → Bool) → Spot → Place → Type 0
  Stuck f s p = (spot_of p ≡ s) × ((c p ≢ Nothing) × (MayGoWith c m (IsItOrFoundFree c f s) (c p) → ⊥))

  is_it : (f : Spot → Bool) (s other : Spot) → Decided (IsItOrFoundFree c f s other)
  is_it f s other = either (is_spot other s) (both (is_true (f other)) (is_older n c within other s))
    where
      is_true : (b : Bool) → Decided (b ≡ true)
      is_true true = inl refl
      is_true false = inr (λ e. true≢false (sym e))

  may : (f : Spot → Bool) (s : Spot) (p : Place) → Decided (MayGoWith c m (IsItOrFoundFree c f s) (c p))
  may f s p = may_go n c within (IsItOrFoundFree c f s) (is_it f s) m (c p)

  stuck : (f : Spot → Bool) (s : Spot) → Decided ((p : Place) × Stuck f s p)
  stuck f s = some_place n (Stuck f s)
      (λ p. both (is_spot (spot_of p) s) (both (is_some (c p)) (not (may f s p)))) (λ p h. inside n c within p h.1.0)
    where
      is_some : (x : Cell) → Decided (x ≢ Nothing)
      is_some x = ⊎_elim (λ e. inr (λ h. h e)) (λ h. inl h) (some_or_nothing x)

  -- whether a block may go where these are free, or why not
  choice : (f : Spot → Bool) (s : Spot) → Goes f s ⊎ ((bad s ≡ true) ⊎ ((p : Place) × Stuck f s p))
  choice f s = ⊎_elim (λ e. inr (inl e))
      (λ e. ⊎_elim (λ h. inr (inr h))
      (λ none. inl (e, λ p at some. ⊎_elim (λ h. h) (λ no. absurd (none (p, (at, (some, no))))) (may f s p)))
      (stuck f s))
      (cases_Bool (bad s))

  abbrev is_goes : {A B : Type 0} → A ⊎ B → Bool
  is_goes (inl h) = true
  is_goes (inr h) = false

  taken : (Spot → Bool) → Spot → Bool
  taken f s = is_goes (choice f s)

  taken_goes : (f : Spot → Bool) (s : Spot) → taken f s ≡ true → Goes f s
  unfolding taken
  taken_goes f s e = by (choice f s) e
    where
      by : (x : Goes f s ⊎ ((bad s ≡ true) ⊎ ((p : Place) × Stuck f s p))) → is_goes x ≡ true → Goes f s
      by (inl h) e = h
      by (inr h) e = absurd (true≢false (sym e))

  taken_stays : (f : Spot → Bool) (s : Spot) → taken f s ≡ false → (bad s ≡ true) ⊎ ((p : Place) × Stuck f s p)
  unfolding taken
  taken_stays f s e = by (choice f s) e
    where
      by : (x : Goes f s ⊎ ((bad s ≡ true) ⊎ ((p : Place) × Stuck f s p))) → is_goes x ≡ false →
          (bad s ≡ true) ⊎ ((p : Place) × Stuck f s p)
      by (inl h) e = absurd (true≢false e)
      by (inr h) e = h

  -- it depends on older blocks alone
  goes_same : (f g : Spot → Bool) (s : Spot) → ((o : Spot) → IsOlder c o s → IsInside n c within o → f o ≡ g o) →
      Goes f s → Goes g s
  goes_same f g s same h = (
    h.0,
    λ p at some. may_go_same m (IsItOrFoundFree c f s) (IsItOrFoundFree c g s) (c p)
        (λ q is k. ⊎_elim (λ e. inl e)
        (λ x. inr (same (spot_of q) x.1 (inside_spot n c within q is) ∙ x.0, x.1)) k) (h.1 p at some),
  )

  clash : (f : Spot → Bool) (s : Spot) → Goes f s → (bad s ≡ true) ⊎ ((p : Place) × Stuck f s p) → ⊥
  clash f s g (inl e) = true≢false (sym e ∙ g.0)
  clash f s g (inr h) = h.1.1.1 (g.1 h.0 h.1.0 h.1.1.0)

  taken_same : (f g : Spot → Bool) (s : Spot) → ((o : Spot) → IsOlder c o s → IsInside n c within o → f o ≡ g o) →
      taken f s ≡ taken g s
  taken_same f g s same = by (taken f s) (taken g s) refl refl
    where
      by : (x y : Bool) → taken f s ≡ x → taken g s ≡ y → taken f s ≡ taken g s
      by true true e k = e ∙ sym k
      by false false e k = e ∙ sym k
      by true false e k = absurd (clash g s (goes_same f g s same (taken_goes f s e)) (taken_stays g s k))
      by false true e k = absurd
          (clash f s (goes_same g f s (λ o l i. sym (same o l i)) (taken_goes g s k)) (taken_stays f s e))

  -- the blocks are gone through by their rank
  abbrev up_to : ℕ → Spot → Bool
  up_to zero s = false
  up_to (suc k) s = if rank n c within s == k then taken (up_to k) s else up_to k s

  was_taken : (j : ℕ) (s : Spot) → rank n c within s < j → up_to j s ≡ taken (up_to (rank n c within s)) s
  was_taken zero s l = absurd (omega arith)
  was_taken (suc j) s l = ⊎_elim
      (λ h. cond-true (rank n c within s == j) (taken (up_to j) s) (up_to j s) h.0
      ∙ ap (λ k. taken (up_to k) s) (sym h.1))
      (λ h. cond-false (rank n c within s == j) (taken (up_to j) s) (up_to j s) h.0
      ∙ was_taken j s (differ h.1)) (eqb_tells (rank n c within s) j)
    where
      differ : rank n c within s ≢ j → rank n c within s < j
      differ other = ⊎_elim (λ e. absurd (other e)) (λ x. ⊎_elim (λ a. a) (λ b. absurd (omega arith)) x)
          (cases_order (rank n c within s) j)

  abbrev found : Spot → Bool
  found s = up_to (end n c within) s

  found_taken : (s : Spot) → IsInside n c within s → found s ≡ taken found s
  found_taken s i =
      let low = below_end n c within s i in
      was_taken (end n c within) s low
      ∙ taken_same (up_to (rank n c within s)) found s
      (λ o older inside. let l = older_rank n c within o s older inside in
      was_taken (rank n c within s) o l ∙ sym (was_taken (end n c within) o (omega arith)))

  is_on_dies : (s : Spot) → Decided (IsInside n c within s)
  is_on_dies s = both (is_below s.die n.dies) (is_below s.block n.blocks)

  -- a block that is none of the dies' holds nothing: it is free unless it is bad
  abbrev free_by : Bool → {P : Type 0} → Decided P → Bool → Bool
  free_by b (inl i) f = f
  free_by true (inr out) f = false
  free_by false (inr out) f = true

  pub found_free : Spot → Bool
  found_free s = free_by (bad s) (is_on_dies s) (found s)

  on_dies : (s : Spot) → IsInside n c within s → found_free s ≡ found s
  unfolding found_free
  on_dies s i = by (is_on_dies s)
    where
      by : (d : Decided (IsInside n c within s)) → free_by (bad s) d (found s) ≡ found s
      by (inl h) = refl
      by (inr out) = absurd (out i)

  good_out : (b : Bool) (s : Spot) (d : Decided (IsInside n c within s)) (f : Bool) → bad s ≡ b →
      free_by b d f ≡ true → (IsInside n c within s × (f ≡ true)) ⊎ (bad s ≡ false)
  good_out b s (inl i) f e h = inl (i, h)
  good_out true s (inr out) f e h = absurd (true≢false (sym h))
  good_out false s (inr out) f e h = inr e

  stays_in : (b : Bool) (s : Spot) (d : Decided (IsInside n c within s)) (f : Bool) → b ≡ false →
      free_by b d f ≡ false → IsInside n c within s × (f ≡ false)
  stays_in b s (inl i) f e h = (i, h)
  stays_in true s (inr out) f e h = absurd (true≢false e)
  stays_in false s (inr out) f e h = absurd (true≢false h)

  more : (s : Spot) → Goes found s → Goes found_free s
  more s = goes_same found found_free s (λ o older i. sym (on_dies o i))

  less : (s : Spot) → Goes found_free s → Goes found s
  less s = goes_same found_free found s (λ o older i. on_dies o i)

  -- so some blocks are found free
  pub are_found : AreFoundFree c m bad found_free
  unfolding found_free
  are_found = record {
    good = λ s h. ⊎_elim (λ k. (taken_goes found s (sym (found_taken s k.0) ∙ k.1)).0) (λ e. e) (told s h);
    goes = λ s h p at some. ⊎_elim
        (λ k. (more s (taken_goes found s (sym (found_taken s k.0) ∙ k.1))).1 p at some)
        (λ e. (more s (taken_goes found s (sym (found_taken s (within_s s p at some))
        ∙ sym (on_dies s (within_s s p at some)) ∙ h))).1 p at some) (told s h);
    stays = λ s e h.
        let k = out s e h in
        ⊎_elim (λ b. absurd (true≢false (sym b ∙ e)))
        (λ x. (
          x.0,
          x.1.0,
          x.1.1.0,
          λ may. x.1.1.1 (may_go_same m (IsItOrFoundFree c found_free s) (IsItOrFoundFree c found s) (c x.0)
              (λ q is z. ⊎_elim (λ it. inl it)
              (λ y. inr (on_dies (spot_of q) (inside_spot n c within q is) ∙ y.0, y.1)) z) may),
        )) (taken_stays found s (sym (found_taken s k.0) ∙ k.1));
  }
    where
      within_s : (s : Spot) (p : Place) → spot_of p ≡ s → c p ≢ Nothing → IsInside n c within s
      within_s s p at some = subst (IsInside n c within) at (inside_spot n c within p some)

      told : (s : Spot) → found_free s ≡ true → (IsInside n c within s × (found s ≡ true)) ⊎ (bad s ≡ false)
      told s h = good_out (bad s) s (is_on_dies s) (found s) refl h

      out : (s : Spot) → bad s ≡ false → found_free s ≡ false → IsInside n c within s × (found s ≡ false)
      out s e h = stays_in (bad s) s (is_on_dies s) (found s) e h

-- What is found free is one

module _ (n : Numbers) (c : Cells) (within : AreWithin n c) (m : Option Mark) (bad : Spot → Bool) where
  -- a block that is found free is so in the other too, if the older ones are
  not_stays : (f g : Spot → Bool) → AreFoundFree c m bad f → AreFoundFree c m bad g → (s : Spot) →
      ((o : Spot) → IsOlder c o s → IsInside n c within o → f o ≡ g o) → f s ≡ true → g s ≡ false → ⊥
  not_stays f g x y s same e k =
      let goes : Goes n c within m bad g s =
      goes_same n c within m bad f g s same (x.good s e, λ p at some. x.goes s e p at some) in
      let stuck = y.stays s goes.0 k in
      stuck.3 (goes.1 stuck.0 stuck.1 stuck.2)

  found_by : (f g : Spot → Bool) → AreFoundFree c m bad f → AreFoundFree c m bad g → (s : Spot) →
      ((o : Spot) → IsOlder c o s → IsInside n c within o → f o ≡ g o) → f s ≡ g s
  found_by f g x y s same = by (f s) (g s) refl refl
    where
      by : (a b : Bool) → f s ≡ a → g s ≡ b → f s ≡ g s
      by true true e k = e ∙ sym k
      by false false e k = e ∙ sym k
      by true false e k = absurd (not_stays f g x y s same e k)
      by false true e k = absurd (not_stays g f y x s (λ o older i. sym (same o older i)) k e)

  found_below : (f g : Spot → Bool) → AreFoundFree c m bad f → AreFoundFree c m bad g → (fuel : ℕ) (s : Spot) →
      rank n c within s < fuel → f s ≡ g s
  found_below f g x y zero s l = absurd (omega arith)
  found_below f g x y (suc fuel) s l = found_by f g x y s (λ o older i. found_below f g x y fuel o
      (let k = older_rank n c within o s older i in omega arith))

  pub found_one : (f g : Spot → Bool) (s : Spot) → AreFoundFree c m bad f → AreFoundFree c m bad g → f s ≡ g s
  found_one f g s x y = found_below f g x y (suc (rank n c within s)) s (omega arith)
