-- The pages before a page, in the order by die, then by block, then by page.
use Rattle.recovery.proofs.Common.{AreWithin, Cells, IsNotHigher, Nothing, Numbers, Place, ap, arith, at_place}
use Rattle.recovery.proofs.Common.{cases_lt, inl, inr, place_at, refl, subst, sym, ℕ, ⊎_elim, ◌+◌, ◌<◌, ◌∙◌, ◌≡◌, ◌≢◌}
use Rattle.recovery.proofs.Common.{◌≤◌, ◌⊎◌}
use Rattle.ufs_spec.specs.Cells.{IsPlace}
use Rattle.ufs_spec.proofs.Equalities.{place_is}
use Rattle.ufs_spec.proofs.Updates.{at_place_cases}
use Rattle.recovery.specs.Reading.{AreRead, StandsBefore}

-- a page before this one stands no higher than it
pub before_is_lower : (d b g : ℕ) (p : Place) → StandsBefore d b g p → IsNotHigher p (place_at d b g)
before_is_lower d b g p (inl die) = inl die
before_is_lower d b g p (inr (inl block)) = inr (inl block)
before_is_lower d b g p (inr (inr (die, block, page))) = inr (inr (die, block, omega (arith, page)))

pub not_before_itself : (d b g : ℕ) → StandsBefore d b g (place_at d b g) → ⊥
not_before_itself d b g (inl die) = omega (arith, die)
not_before_itself d b g (inr (inl block)) = omega (arith, block.1)
not_before_itself d b g (inr (inr page)) = omega (arith, page.2)

-- whether a page stands before this one
pub is_before : (d b g : ℕ) (p : Place) → StandsBefore d b g p ⊎ (StandsBefore d b g p → ⊥)
is_before d b g p =
    ⊎_elim (λ (low : p.die < d). inl (inl low))
    (λ (high : d ≤ p.die). ⊎_elim (λ (higher : d < p.die). inr (of_later_die higher))
    (λ (low : p.die ≤ d). on_die (omega (arith, low, high))) (cases_lt d p.die))
    (cases_lt p.die d)
  where
    of_later_die : d < p.die → StandsBefore d b g p → ⊥
    of_later_die high (inl die) = omega (arith, die, high)
    of_later_die high (inr (inl block)) = omega (arith, block.0, high)
    of_later_die high (inr (inr page)) = omega (arith, page.0, high)

    of_later_block : p.die ≡ d → b < p.block → StandsBefore d b g p → ⊥
    of_later_block e high (inl die) = omega (arith, die, e)
    of_later_block e high (inr (inl block)) = omega (arith, block.1, high)
    of_later_block e high (inr (inr page)) = omega (arith, page.1, high)

    of_later_page : p.die ≡ d → p.block ≡ b → g ≤ p.page → StandsBefore d b g p → ⊥
    of_later_page e f high (inl die) = omega (arith, die, e)
    of_later_page e f high (inr (inl block)) = omega (arith, block.1, f)
    of_later_page e f high (inr (inr page)) = omega (arith, page.2, high)

    in_block : p.die ≡ d → p.block ≡ b → StandsBefore d b g p ⊎ (StandsBefore d b g p → ⊥)
    in_block e f =
        ⊎_elim (λ (low : p.page < g). inl (inr (inr (e, f, low))))
        (λ (high : g ≤ p.page). inr (of_later_page e f high)) (cases_lt p.page g)

    on_die : p.die ≡ d → StandsBefore d b g p ⊎ (StandsBefore d b g p → ⊥)
    on_die e =
        ⊎_elim (λ (low : p.block < b). inl (inr (inl (e, low))))
        (λ (high : b ≤ p.block). ⊎_elim (λ (higher : b < p.block). inr (of_later_block e higher))
        (λ (low : p.block ≤ b). in_block e (omega (arith, low, high))) (cases_lt b p.block))
        (cases_lt p.block b)

-- One page more

before_more : (d b g : ℕ) (p : Place) → StandsBefore d b g p → StandsBefore d b (g + 1) p
before_more d b g p (inl die) = inl die
before_more d b g p (inr (inl block)) = inr (inl block)
before_more d b g p (inr (inr (die, block, page))) = inr (inr (die, block, omega (arith, page)))

before_less : (d b g : ℕ) (p : Place) → StandsBefore d b (g + 1) p → p ≢ place_at d b g → StandsBefore d b g p
before_less d b g p (inl die) apart = inl die
before_less d b g p (inr (inl block)) apart = inr (inl block)
before_less d b g p (inr (inr (die, block, page))) apart =
    ⊎_elim (λ (low : p.page < g). inr (inr (die, block, low)))
    (λ (high : g ≤ p.page).
    let last : p.page ≡ g = omega (arith, page, high) in
    absurd (apart (place_is p (place_at d b g) die block last)))
    (cases_lt p.page g)

-- it is read too
pub page_is_read : (d b g : ℕ) (c seen : Cells) → AreRead d b g c seen
    → AreRead d b (g + 1) c (at_place seen (place_at d b g) (c (place_at d b g)))
page_is_read d b g c seen are = record {
  read = λ p before.
      ⊎_elim (λ here. here.1 ∙ ap c (sym here.0))
      (λ there. there.1 ∙ are.read p (before_less d b g p before there.0))
      (at_place_cases seen (place_at d b g) (c (place_at d b g)) p);
  unread = λ p no.
      ⊎_elim
      (λ here.
      let last : StandsBefore d b (g + 1) (place_at d b g) = inr (inr (refl, refl, omega arith)) in
      absurd (no (subst (StandsBefore d b (g + 1)) (sym here.0) last)))
      (λ there. there.1 ∙ are.unread p (λ before. no (before_more d b g p before)))
      (at_place_cases seen (place_at d b g) (c (place_at d b g)) p);
}

-- The end of a block, of a die and of all

module _ (n : Numbers) (c seen : Cells) (within : AreWithin n c) where
  -- a place past the end of its block, of its die or of all dies
  past : (p : Place) → ((IsPlace n p) → ⊥) → (d b g : ℕ) → (StandsBefore d b g p → ⊥) → AreRead d b g c seen
      → seen p ≡ c p
  past p out d b g behind are = are.unread p behind ∙ sym (within p out)

  -- the first page of the next block
  pub block_is_read : (d b : ℕ) → AreRead d b n.pages c seen → AreRead d (b + 1) 0 c seen
  block_is_read d b are = record { read = read; unread = λ p no. are.unread p (λ h. no (up p h)) }
    where
      up : (p : Place) → StandsBefore d b n.pages p → StandsBefore d (b + 1) 0 p
      up p (inl die) = inl die
      up p (inr (inl (die, block))) = inr (inl (die, omega (arith, block)))
      up p (inr (inr (die, block, page))) = inr (inl (die, omega (arith, block)))

      none : (p : Place) → p.die ≡ d → b ≤ p.block → n.pages ≤ p.page → StandsBefore d b n.pages p → ⊥
      none p die block page (inl low) = omega (arith, low, die)
      none p die block page (inr (inl low)) = omega (arith, low.1, block)
      none p die block page (inr (inr low)) = omega (arith, low.2, page)

      of_block : (p : Place) → p.die ≡ d → p.block ≡ b → seen p ≡ c p
      of_block p die block =
          ⊎_elim (λ (page : p.page < n.pages). are.read p (inr (inr (die, block, page))))
          (λ (page : n.pages ≤ p.page).
          past p (λ is. let low = is.page in omega (arith, low, page)) d b n.pages
          (none p die (omega (arith, block)) page) are)
          (cases_lt p.page n.pages)

      read : (p : Place) → StandsBefore d (b + 1) 0 p → seen p ≡ c p
      read p (inl die) = are.read p (inl die)
      read p (inr (inl (die, block))) =
          ⊎_elim (λ (low : p.block < b). are.read p (inr (inl (die, low))))
          (λ (high : b ≤ p.block). of_block p die (omega (arith, block, high))) (cases_lt p.block b)
      read p (inr (inr low)) = absurd (omega (arith, low.2))

  -- the first page of the next die
  pub die_is_read : (d : ℕ) → AreRead d n.blocks 0 c seen → AreRead (d + 1) 0 0 c seen
  die_is_read d are = record { read = read; unread = λ p no. are.unread p (λ h. no (up p h)) }
    where
      up : (p : Place) → StandsBefore d n.blocks 0 p → StandsBefore (d + 1) 0 0 p
      up p (inl die) = inl (omega (arith, die))
      up p (inr (inl (die, block))) = inl (omega (arith, die))
      up p (inr (inr low)) = absurd (omega (arith, low.2))

      none : (p : Place) → p.die ≡ d → n.blocks ≤ p.block → StandsBefore d n.blocks 0 p → ⊥
      none p die block (inl low) = omega (arith, low, die)
      none p die block (inr (inl low)) = omega (arith, low.1, block)
      none p die block (inr (inr low)) = omega (arith, low.2)

      of_die : (p : Place) → p.die ≡ d → seen p ≡ c p
      of_die p die =
          ⊎_elim (λ (block : p.block < n.blocks). are.read p (inr (inl (die, block))))
          (λ (block : n.blocks ≤ p.block).
          past p (λ is. let low = is.block in omega (arith, low, block)) d n.blocks 0 (none p die block) are)
          (cases_lt p.block n.blocks)

      read : (p : Place) → StandsBefore (d + 1) 0 0 p → seen p ≡ c p
      read p (inl die) =
          ⊎_elim (λ (low : p.die < d). are.read p (inl low))
          (λ (high : d ≤ p.die). of_die p (omega (arith, die, high))) (cases_lt p.die d)
      read p (inr (inl low)) = absurd (omega (arith, low.1))
      read p (inr (inr low)) = absurd (omega (arith, low.2))

  -- behind the last die all is read
  pub all_is_read : AreRead n.dies 0 0 c seen → seen ≡ c
  all_is_read are = λ i p. each p i
    where
      none : (p : Place) → n.dies ≤ p.die → StandsBefore n.dies 0 0 p → ⊥
      none p high (inl low) = omega (arith, low, high)
      none p high (inr (inl low)) = omega (arith, low.1)
      none p high (inr (inr low)) = omega (arith, low.2)

      each : (p : Place) → seen p ≡ c p
      each p =
          ⊎_elim (λ (low : p.die < n.dies). are.read p (inl low))
          (λ (high : n.dies ≤ p.die).
          past p (λ is. let low = is.die in omega (arith, low, high)) n.dies 0 0 (none p high) are)
          (cases_lt p.die n.dies)

-- before the first page of a die none is read, when nothing stands on the dies before it
pub nothing_before : (d : ℕ) (c : Cells) → ((p : Place) → p.die < d → c p ≡ Nothing) → AreRead d 0 0 c (λ p. Nothing)
nothing_before d c before = record { read = read; unread = λ p no. refl }
  where
    read : (p : Place) → StandsBefore d 0 0 p → Nothing ≡ c p
    read p (inl low) = sym (before p low)
    read p (inr (inl low)) = absurd (omega (arith, low.1))
    read p (inr (inr low)) = absurd (omega (arith, low.2))

-- before the first page none is read
pub nothing_is_read : (c : Cells) → AreRead 0 0 0 c (λ p. Nothing)
nothing_is_read c = nothing_before 0 c (λ p low. absurd (omega (arith, low)))
