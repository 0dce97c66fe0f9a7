-- The order in which blocks are gone through for free ones, the older first; and what is said of all places is decided.
use Rattle.power_loss.proofs.Common.{◌≡◌, ◌≢◌, ◌⊎◌, ℕ, zero, suc, ◌+◌, ◌*◌, ◌<◌, ◌≤◌, Bool, true, false, if◌then◌else◌}
use Rattle.power_loss.proofs.Common.{refl, sym, ap, subst, inl, inr, ⊎_elim, arith, cases_order, AreWithin, Cells}
use Rattle.power_loss.proofs.Common.{Cell, IsPlace, Nothing, Spot, Stale, Untouched, Vacancy, same_spot, spot_of}
use Rattle.power_loss.proofs.Common.{Numbers, Place, spot_cases}
use Rattle.power_loss.proofs.stops.LeftUnmarked.{some_or_nothing}
use Rattle.ufs_laws.proofs.deciding.SearchOverPlaces.{Decided, Greatest, alike, both, greatest, is_below, is_number}
use Rattle.ufs_laws.proofs.deciding.SearchOverPlaces.{is_place, some_below}
use Rattle.ufs_spec.specs.Openings.{IsLatestIn, IsLowerSpot, IsOlder, IsVacancyAt, recorded_by}

-- Deciding

pub either : {P Q : Type 0} → Decided P → Decided Q → Decided (P ⊎ Q)
either (inl p) q = inl (inl p)
either (inr p) (inl q) = inl (inr q)
either (inr p) (inr q) = inr (λ h. ⊎_elim p q h)

pub is_spot : (a b : Spot) → Decided (a ≡ b)
is_spot a b = ⊎_elim (λ h. inl h.1) (λ h. inr h.1) (spot_cases a b)

abbrev at : ℕ → ℕ → ℕ → Place
at die block page = record { die = die; block = block; page = page }

module _ (n : Numbers) (Q : Place → Type 0) (d : (p : Place) → Decided (Q p)) where
  abbrev InBlock : ℕ → ℕ → Type 0
  InBlock die block = (page : ℕ) × (page < n.pages) × Q (at die block page)

  abbrev OnDie : ℕ → Type 0
  OnDie die = (block : ℕ) × (block < n.blocks) × InBlock die block

  in_block : (die block : ℕ) → Decided (InBlock die block)
  in_block die block = ⊎_elim (λ h. inl h) (λ none. inr (λ h. none h.0 h.1 h.2))
      (some_below (λ page. Q (at die block page)) (λ page. d (at die block page)) n.pages)

  on_die : (die : ℕ) → Decided (OnDie die)
  on_die die = ⊎_elim (λ h. inl h) (λ none. inr (λ h. none h.0 h.1 h.2))
      (some_below (InBlock die) (in_block die) n.blocks)

  -- some place of the dies has it, or none
  pub some_place : ((p : Place) → Q p → IsPlace n p) → Decided ((p : Place) × Q p)
  some_place inside = ⊎_elim (λ h. inl (at h.0 h.2.0 h.2.2.0, h.2.2.2))
      (λ none. inr (λ h.
      let i = inside h.0 h.1 in
      none h.0.die i.die (h.0.block, i.block, (h.0.page, i.page, h.1)))) (some_below OnDie on_die n.dies)

-- The order of blocks

times_more : (x y d : ℕ) → x ≤ y → x * d ≤ y * d
times_more zero y d l = omega arith
times_more (suc x) zero d l = absurd (omega arith)
times_more (suc x) (suc y) d l = let h = times_more x y d (omega arith) in omega arith

-- what is below in the first number is below in both
lex : (x y a b d : ℕ) → x < y → a < d → x * d + a < y * d + b
lex x y a b d l h = let k = times_more (suc x) y d l in omega arith

module _ (n : Numbers) (c : Cells) (within : AreWithin n c) where
  pub inside : (p : Place) → c p ≢ Nothing → IsPlace n p
  inside p some = ⊎_elim (λ i. i) (λ out. absurd (some (within p out))) (is_place n p)

  -- what is in a block: nothing that opens, or a page at least
  pub vacancy_at : (s : Spot) → (x : Vacancy) × IsVacancyAt c s x
  vacancy_at s = ⊎_elim (λ h. (Stale, (h.0, h.1.0, h.1.1)))
      (λ none. (Untouched, λ p at. ⊎_elim (λ e. e) (λ some. absurd (none (p, (at, some)))) (some_or_nothing (c p))))
      (some_place n (λ p. (spot_of p ≡ s) × (c p ≢ Nothing)) (λ p. both (is_spot (spot_of p) s) (is_some (c p)))
      (λ p h. inside p h.1))
    where
      is_some : (x : Cell) → Decided (x ≢ Nothing)
      is_some x = ⊎_elim (λ e. inr (λ h. h e)) (λ h. inl h) (some_or_nothing x)

  abbrev only_in : Spot → Cells
  only_in s p = if same_spot (spot_of p) s then c p else Nothing

  only_within : (s : Spot) → AreWithin n (only_in s)
  only_within s p out = by (same_spot (spot_of p) s)
    where
      by : (b : Bool) → (if b then c p else Nothing) ≡ Nothing
      by true = within p out
      by false = refl

  last_in : (s : Spot) → Greatest (only_in s) recorded_by
  last_in s = greatest n (only_in s) (only_within s) recorded_by refl

  latest : Spot → ℕ
  latest s = (last_in s).weight

  latest_is : (s : Spot) → IsLatestIn c s (latest s)
  unfolding latest
  latest_is s = record { within = low; reached = ⊎_elim (λ e. inl e) (λ r. found r.0 r.1) (last_in s).reached }
    where
      low : (p : Place) → spot_of p ≡ s → recorded_by (c p) ≤ (last_in s).weight
      low p at = ⊎_elim
          (λ h. subst (λ b. recorded_by (if b then c p else Nothing) ≤ (last_in s).weight) h.0 ((last_in s).above p))
          (λ h. absurd (h.1 at)) (spot_cases (spot_of p) s)

      found : (p : Place) → recorded_by (only_in s p) ≡ (last_in s).weight → ((last_in s).weight ≡ 0) ⊎
          ((q : Place) × (spot_of q ≡ s) × (recorded_by (c q) ≡ (last_in s).weight))
      found p e = ⊎_elim
          (λ h. inr (p, h.1, subst (λ b. recorded_by (if b then c p else Nothing) ≡ (last_in s).weight) h.0 e))
          (λ h. inl (sym (subst (λ b. recorded_by (if b then c p else Nothing) ≡ (last_in s).weight) h.0 e)))
          (spot_cases (spot_of p) s)

  latest_one : (s : Spot) (x : ℕ) → IsLatestIn c s x → x ≡ latest s
  latest_one s x h = let a = under h (latest_is s) in let b = under (latest_is s) h in omega arith
    where
      under : {a b : ℕ} → IsLatestIn c s a → IsLatestIn c s b → a ≤ b
      under {a} {b} f g = ⊎_elim (λ e. omega arith)
          (λ r. let l = g.within r.0 r.1 in let e = r.2 in omega arith) f.reached

  abbrev Before : Spot → Spot → Type 0
  Before a b = (latest a < latest b) ⊎ ((latest a ≡ latest b) × IsLowerSpot a b)

  older_before : (a b : Spot) → IsOlder c a b → Before a b
  older_before a b (x, y, f, g, h) =
      let e = latest_one a x f in
      let k = latest_one b y g in
      ⊎_elim (λ l. inl (omega arith)) (λ l. inr (let s = l.0 in omega arith, l.1)) h

  before_older : (a b : Spot) → Before a b → IsOlder c a b
  before_older a b h = (latest a, latest b, latest_is a, latest_is b, h)

  pub is_older : (a b : Spot) → Decided (IsOlder c a b)
  is_older a b = alike (before_older a b) (older_before a b)
      (either (is_below (latest a) (latest b))
      (both (is_number (latest a) (latest b))
      (either (is_below a.die b.die) (both (is_number a.die b.die) (is_below a.block b.block)))))

  -- the block lies on the dies
  abbrev pub IsInside : Spot → Type 0
  IsInside s = (s.die < n.dies) × (s.block < n.blocks)

  pub inside_spot : (p : Place) → c p ≢ Nothing → IsInside (spot_of p)
  inside_spot p some = let i = inside p some in (i.die, i.block)

  -- a number that rises with the order
  pub rank : Spot → ℕ
  rank s = (latest s * n.dies + s.die) * n.blocks + s.block

  before_rank : (a b : Spot) → Before a b → IsInside a → rank a < rank b
  unfolding rank
  before_rank a b (inl l) i =
      lex (latest a * n.dies + a.die) (latest b * n.dies + b.die) a.block b.block n.blocks
      (lex (latest a) (latest b) a.die b.die n.dies l i.0) i.1
  before_rank a b (inr (e, inl l)) i =
      lex (latest a * n.dies + a.die) (latest b * n.dies + b.die) a.block b.block n.blocks
      (let same = ap (λ x. x * n.dies) e in omega arith) i.1
  before_rank a b (inr (e, inr (f, l))) i =
      let same : (latest a * n.dies + a.die) * n.blocks ≡ (latest b * n.dies + b.die) * n.blocks =
      λ j. (e j * n.dies + f j) * n.blocks in
      omega arith

  pub older_rank : (a b : Spot) → IsOlder c a b → IsInside a → rank a < rank b
  older_rank a b h i = before_rank a b (older_before a b h) i

  -- of two blocks one is older
  pub rank_else : (a b : Spot) → a ≢ b → (IsOlder c a b → ⊥) → IsInside b → rank b < rank a
  rank_else a b differ none i = ⊎_elim (λ e. ⊎_elim (λ d. ⊎_elim (λ k. absurd (differ (λ j. record {
    die = d j;
    block = k j;
  }))) (⊎_elim (λ l. absurd (none (before_older a b (inr (e, inr (d, l))))))
      (λ l. before_rank b a (inr (sym e, inr (sym d, l))) i)) (cases_order a.block b.block))
      (⊎_elim (λ l. absurd (none (before_older a b (inr (e, inl l)))))
      (λ l. before_rank b a (inr (sym e, inl l)) i)) (cases_order a.die b.die))
      (⊎_elim (λ l. absurd (none (before_older a b (inl l)))) (λ l. before_rank b a (inl l) i))
      (cases_order (latest a) (latest b))

  all_last : Greatest c recorded_by
  all_last = greatest n c within recorded_by refl

  -- all ranks are below it
  pub end : ℕ
  end = (suc all_last.weight * n.dies + 0) * n.blocks + 0

  pub below_end : (s : Spot) → IsInside s → rank s < end
  unfolding rank end
  below_end s i =
      lex (latest s * n.dies + s.die) (suc all_last.weight * n.dies + 0) s.block 0 n.blocks
      (lex (latest s) (suc all_last.weight) s.die 0 n.dies (low (latest_is s).reached) i.0) i.1
    where
      low : (latest s ≡ 0) ⊎ ((p : Place) × (spot_of p ≡ s) × (recorded_by (c p) ≡ latest s)) →
          latest s < suc all_last.weight
      low (inl e) = omega arith
      low (inr r) = let a = all_last.above r.0 in let e = r.2 in omega arith
