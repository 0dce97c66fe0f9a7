-- What is free and to be erased, and what is so before any step: no block becomes so unless a job makes it.
use Rattle.many_stops.proofs.Common.{AreNoneStale, Bad, BlockState, Cell, Cells, Filling, Flight, Free, IsAsOpened}
use Rattle.many_stops.proofs.Common.{IsNewPage, KeepsFree, None, Nothing, Option, Place, Programming, Some, Spot, Step}
use Rattle.many_stops.proofs.Common.{Translation, ap, at_die, at_die_is, at_spot, at_spot_is, free_is_not_filling, inl}
use Rattle.many_stops.proofs.Common.{inr, none-some, refl, spot_cases, spot_of, subst, sym, taken, ℕ, ⊎_elim, ◌<◌, ◌∙◌}
use Rattle.many_stops.proofs.Common.{◌≡◌, ◌≢◌, ◌⊎◌}
use Rattle.ufs_spec.specs.Disk.{Vacancy}
use Rattle.power_loss.proofs.jobs.NoneStale.{WereStale}
use Rattle.power_loss.proofs.jobs.StandsSecurely.{at_spot_here, free_is_not_bad}
use Rattle.many_stops.proofs.free_at_stops.BeforeAnyStep.{AsOpened, was_unfilled}
use Rattle.many_stops.proofs.free_at_stops.OneStaleBlock.{OneStale}
use Rattle.many_stops.specs.FreeOverStops.{IsThinned}

abbrev pub NoneStale : Translation → Type 0
NoneStale t = AreNoneStale t.numbers t.disk.blocks t.disk.vacancies

-- What is free and to be erased

-- no block becomes so, and no step begins
pub record IsCalm (t u : Translation) : Type 0 where
  pub numbers : u.numbers ≡ t.numbers
  pub old : WereStale t.disk.blocks u.disk.blocks t.disk.vacancies u.disk.vacancies
  pub mending : u.work.mending ≡ t.work.mending
  pub step : t.work.step ≡ None → u.work.step ≡ None

none_calm : (t u : Translation) → IsCalm t u → NoneStale t → NoneStale u
none_calm t u c none s die block free stale =
    let k = c.old s free stale in
    none s (subst (λ n. s.die < n.dies) c.numbers die) (subst (λ n. s.block < n.blocks) c.numbers block) k.0 k.1

one_calm : (t u : Translation) → IsCalm t u → OneStale t → OneStale u
one_calm t u c one = record {
  spot = one.spot;
  alone = λ s die block free stale.
      (let k = c.old s free stale in
      one.alone s (subst (λ n. s.die < n.dies) c.numbers die) (subst (λ n. s.block < n.blocks) c.numbers block) k.0
      k.1);
  mended = c.mending ∙ one.mended;
  no_step = c.step one.no_step;
}

pub calmly : (t u : Translation) → IsCalm t u → (AsOpened t → AsOpened u) → KeepsFree t → KeepsFree u
calmly t u c opened (inl none) = inl (none_calm t u c none)
calmly t u c opened (inr (inl one)) = inr (inl (one_calm t u c one))
calmly t u c opened (inr (inr a)) = inr (inr (opened a))

-- a block that is not free any more is not to be erased
pub put_old : (blocks : Spot → BlockState) (vacancies : Spot → Vacancy) (s : Spot) (x : BlockState) → x ≢ Free →
    WereStale blocks (at_spot blocks s x) vacancies vacancies
put_old blocks vacancies s x other z free stale = ⊎_elim (λ k. absurd (other k.1)) (λ k. (k.1, stale))
    (at_spot_is blocks s x z Free free)

pub filling_is_not_free : (page : ℕ) → Filling page ≢ Free
filling_is_not_free page e = free_is_not_filling refl (sym e)

pub bad_is_not_free : Bad ≢ Free
bad_is_not_free e = free_is_not_bad refl (sym e)

-- Before any step

-- no die has a program that it had not
pub fewer : (t : Translation) (a : AsOpened t) {flights : ℕ → Option Flight} {step : Option Step} → step ≡ None →
    ((die : ℕ) (p : Place) (cell : Cell) → flights die ≡ Some (Programming p cell) →
    t.disk.flights die ≡ Some (Programming p cell)) →
    IsAsOpened t.ledger.newest t.ledger.greatest_seen t.disk.cells t.disk.blocks flights step
fewer t a none old = record {
  opening = a.opening;
  bad = a.bad;
  first = a.first;
  found = a.found;
  is_newest = a.is_newest;
  seen = a.seen;
  no_step = none;
  stays = a.stays;
  same = a.same;
  thinned = a.thinned;
  flies = λ die p cell e. a.flies die p cell (old die p cell e);
}

pub idle : (flights : ℕ → Option Flight) (die : ℕ) (other : ℕ) (p : Place) (cell : Cell) →
    at_die flights die None other ≡ Some (Programming p cell) → flights other ≡ Some (Programming p cell)
idle flights die other p cell e = ⊎_elim (λ k. absurd (none-some _ k.1)) (λ k. k.1)
    (at_die_is flights die None other (Some (Programming p cell)) e)

-- a block changes that was free when the life began
pub changed : (t : Translation) (a : AsOpened t) (s : Spot) {cells : Cells} {blocks : Spot → BlockState}
    {flights : ℕ → Option Flight} {step : Option Step} → a.first s ≡ Free → step ≡ None →
    ((z : Spot) → z ≢ s → blocks z ≡ t.disk.blocks z) →
    ((p : Place) → spot_of p ≢ s → cells p ≡ t.disk.cells p) →
    ((p : Place) → spot_of p ≡ s →
    IsThinned t.ledger.greatest_seen (a.opening p) (cells p) (blocks (spot_of p))) →
    ((die : ℕ) (p : Place) (cell : Cell) → flights die ≡ Some (Programming p cell) →
    IsNewPage t.ledger.greatest_seen cell) →
    IsAsOpened t.ledger.newest t.ledger.greatest_seen cells blocks flights step
changed t a s {cells} {blocks} free none others pages inside flies = record {
  opening = a.opening;
  bad = a.bad;
  first = a.first;
  found = a.found;
  is_newest = a.is_newest;
  seen = a.seen;
  no_step = none;
  stays = λ z out. others z (λ e. out (ap a.first e ∙ free)) ∙ a.stays z out;
  same = λ p out. pages p (λ e. out (ap a.first e ∙ free)) ∙ a.same p out;
  thinned = λ p was. ⊎_elim (λ h. inside p h.1)
      (λ h. subst (λ x. IsThinned t.ledger.greatest_seen (a.opening p) x (blocks (spot_of p))) (sym (pages p h.1))
      (subst (IsThinned t.ledger.greatest_seen (a.opening p) (t.disk.cells p)) (sym (others (spot_of p) h.1))
      (a.thinned p was))) (spot_cases (spot_of p) s);
  flies = flies;
}

-- a page of a block that is being filled is nothing, or of a group of this life
abbrev pub IsUnopened : ℕ → Cell → Type 0
IsUnopened top x = (x ≡ Nothing) ⊎ IsNewPage top x

pub unopened : (t : Translation) (a : AsOpened t) {page : ℕ} (p : Place) → t.disk.blocks (spot_of p) ≡ Filling page →
    IsUnopened t.ledger.greatest_seen (t.disk.cells p)
unopened t a p filling = ⊎_elim (λ e. inl e)
    (λ h. ⊎_elim (λ k. absurd (free_is_not_filling k.1 filling)) (λ k. inr k.0) h)
    (a.thinned p (was_unfilled t a filling))

-- so it stays, whatever the block becomes but free
pub put_thinned : (top : ℕ) (opened : Cell) {now : Cell} (blocks : Spot → BlockState) (s : Spot) (x : BlockState)
    {z : Spot} → z ≡ s → x ≢ Free → IsUnopened top now → IsThinned top opened now (at_spot blocks s x z)
put_thinned top opened blocks s x at taken (inl e) = inl e
put_thinned top opened blocks s x {z} at taken (inr new) =
    inr (inr (new, λ e. taken (sym (at_spot_here blocks s x z at) ∙ e)))
