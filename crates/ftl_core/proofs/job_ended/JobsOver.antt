-- What is kept of a die's open block where the state of one of its blocks changes.
use Rattle.ftl_core.proofs.Common.{IsFilling, None, Numbers, OpenBlock, Option, Some, Spot, ap, at_spot, at_spot_cases}
use Rattle.ftl_core.proofs.Common.{eqb_tells, false, filling_but, if_false, if_true, refl, spot_at, subst, sym, true, ℕ}
use Rattle.ftl_core.proofs.Common.{⊎_elim, ◌<◌, ◌==◌, ◌∙◌, ◌≡◌, ◌≢◌}
use Rattle.ufs_spec.specs.Disk as disk
use Rattle.power_loss.proofs.books.SmallFacts.{at_spot_is}
use Rattle.power_loss.proofs.jobs.StandsSecurely.{at_spot_here}

-- the block that was filled is filled no more
pub filling_over : (n : Numbers) (blocks : Spot → disk.BlockState) (die : ℕ) (o : OpenBlock) (x : disk.BlockState) →
    ((next : ℕ) → x ≡ disk.Filling next → ⊥) →
    IsFilling n blocks die (Some o) → IsFilling n (at_spot blocks (spot_at die o.block) x) die None
filling_over n blocks die o x none h block next within e = ⊎_elim
    (λ (k : (spot_at die block ≡ spot_at die o.block) × (x ≡ disk.Filling next)). none next k.1)
    (λ (k : (spot_at die block ≢ spot_at die o.block) × (blocks (spot_at die block) ≡ disk.Filling next)). k.0
    (ap (spot_at die) (h.2 block next within k.1)))
    (at_spot_is blocks (spot_at die o.block) x (spot_at die block) (disk.Filling next) e)

-- no block was filled, and none is
pub filling_none : (n : Numbers) (blocks : Spot → disk.BlockState) (die at : ℕ) (x : disk.BlockState) →
    ((next : ℕ) → x ≡ disk.Filling next → ⊥) →
    IsFilling n blocks die None → IsFilling n (at_spot blocks (spot_at die at) x) die None
filling_none n blocks die at x none h block next within e = ⊎_elim
    (λ (k : (spot_at die block ≡ spot_at die at) × (x ≡ disk.Filling next)). none next k.1)
    (λ (k : (spot_at die block ≢ spot_at die at) ×
    (blocks (spot_at die block) ≡ disk.Filling next)). h block next within k.1)
    (at_spot_is blocks (spot_at die at) x (spot_at die block) (disk.Filling next) e)

-- the block that was filled has another next page
pub filling_on : (n : Numbers) (blocks : Spot → disk.BlockState) (die : ℕ) (o : OpenBlock) (k : ℕ) →
    IsFilling n blocks die (Some o) → IsFilling n (at_spot blocks (spot_at die o.block) (disk.Filling k)) die
    (Some (record { block = o.block; next = k }))
filling_on n blocks die o k h = (
  h.0,
  at_spot_here blocks (spot_at die o.block) (disk.Filling k) (spot_at die o.block) refl,
  λ (block : ℕ) (next : ℕ) (within : block < n.blocks)
      (e : at_spot blocks (spot_at die o.block) (disk.Filling k) (spot_at die block) ≡ disk.Filling next). ⊎_elim
      (λ (u : (spot_at die block ≡ spot_at die o.block) × (disk.Filling k ≡ disk.Filling next)). ap
      (λ (s : Spot). s.block) u.0)
      (λ (u : (spot_at die block ≢ spot_at die o.block) ×
      (blocks (spot_at die block) ≡ disk.Filling next)). h.2 block next within u.1)
      (at_spot_is blocks (spot_at die o.block) (disk.Filling k) (spot_at die block) (disk.Filling next) e),
)

-- no block was filled, and one is
pub filling_begun : (n : Numbers) (blocks : Spot → disk.BlockState) (die at : ℕ) (k : ℕ) → at < n.blocks →
    IsFilling n blocks die None → IsFilling n (at_spot blocks (spot_at die at) (disk.Filling k)) die
    (Some (record { block = at; next = k }))
filling_begun n blocks die at k inside h = (
  inside,
  at_spot_here blocks (spot_at die at) (disk.Filling k) (spot_at die at) refl,
  λ (block : ℕ) (next : ℕ) (within : block < n.blocks)
      (e : at_spot blocks (spot_at die at) (disk.Filling k) (spot_at die block) ≡ disk.Filling next). ⊎_elim
      (λ (u : (spot_at die block ≡ spot_at die at) × (disk.Filling k ≡ disk.Filling next)). ap
      (λ (s : Spot). s.block) u.0)
      (λ (u : (spot_at die block ≢ spot_at die at) × (blocks (spot_at die block) ≡ disk.Filling next)). absurd
      (h block next within u.1))
      (at_spot_is blocks (spot_at die at) (disk.Filling k) (spot_at die block) (disk.Filling next) e),
)

-- a block that was not filled and is not filled is open on no die
pub filling_beside : (n : Numbers) (blocks : Spot → disk.BlockState) (s : Spot) (x : disk.BlockState) (die : ℕ)
    (o : Option OpenBlock) → ((next : ℕ) → blocks s ≡ disk.Filling next → ⊥) →
    ((next : ℕ) → x ≡ disk.Filling next → ⊥) → IsFilling n blocks die o → IsFilling n (at_spot blocks s x) die o
filling_beside n blocks s x die None was is h = λ block next within e. ⊎_elim
    (λ (k : (spot_at die block ≡ s) × (x ≡ disk.Filling next)). is next k.1)
    (λ (k : (spot_at die block ≢ s) × (blocks (spot_at die block) ≡ disk.Filling next)). h block next within k.1)
    (at_spot_is blocks s x (spot_at die block) (disk.Filling next) e)
filling_beside n blocks s x die (Some o) was is h = (
  h.0,
  ⊎_elim
      (λ k. absurd (was o.next (sym (ap blocks k.0) ∙ h.1)))
      (λ k. k.1 ∙ h.1)
      (at_spot_cases blocks s x (spot_at die o.block)),
  λ (block : ℕ) (next : ℕ) (within : block < n.blocks)
      (e : at_spot blocks s x (spot_at die block) ≡ disk.Filling next). ⊎_elim
      (λ (k : (spot_at die block ≡ s) × (x ≡ disk.Filling next)). absurd (is next k.1))
      (λ (k : (spot_at die block ≢ s) × (blocks (spot_at die block) ≡ disk.Filling next)). h.2 block next within k.1)
      (at_spot_is blocks s x (spot_at die block) (disk.Filling next) e),
)

-- a block goes bad, and is filled no more
pub filling_failed : (n : Numbers) (blocks : Spot → disk.BlockState) (die at : ℕ) (o : Option OpenBlock) →
    at < n.blocks → IsFilling n blocks die o →
    IsFilling n (at_spot blocks (spot_at die at) disk.Bad) die (filling_but at o)
filling_failed n blocks die at None within h = filling_none n blocks die at disk.Bad never h
  where
    never : (next : ℕ) → disk.Bad ≡ disk.Filling next → ⊥
    never next e = cc
filling_failed n blocks die at (Some o) within h = ⊎_elim
    (λ (e : ((o.block == at) ≡ true) × (o.block ≡ at)).
    subst (λ (z : Option OpenBlock). IsFilling n (at_spot blocks (spot_at die at) disk.Bad) die z)
    (sym (if_true (o.block == at) None (Some o) e.0))
    (subst (λ (k : ℕ). IsFilling n (at_spot blocks (spot_at die k) disk.Bad) die None) e.1
    (filling_over n blocks die o disk.Bad never h)))
    (λ (e : ((o.block == at) ≡ false) × (o.block ≢ at)).
    subst (λ (z : Option OpenBlock). IsFilling n (at_spot blocks (spot_at die at) disk.Bad) die z)
    (sym (if_false (o.block == at) None (Some o) e.0))
    (filling_beside n blocks (spot_at die at) disk.Bad die (Some o)
    (λ next f. e.1 (sym (h.2 at next within f))) never h))
    (eqb_tells o.block at)
  where
    never : (next : ℕ) → disk.Bad ≡ disk.Filling next → ⊥
    never next e = cc
