-- From the order of the first mark on no free block is to be erased for pages of it that may go, until the device is
-- mended.
use Rattle.power_loss.proofs.Common.{◌≡◌, ◌&&◌, Bool, true, false, not, is_none, if◌then◌else◌, Option, Some, None}
use Rattle.power_loss.proofs.Common.{refl, BlockState, Free, Spot, Stale, Vacancy, Mended, Mending}
use Rattle.power_loss.proofs.Common.{Numbers, Order, Repairing, Step, Translation, Unmarked, due_order, next_order}
use Rattle.power_loss.proofs.Common.{AreNoneStale, StaleRight, none-some}
use Rattle.ufs_spec.specs.Translation.{has_stale}
use Rattle.power_loss.proofs.collected_blocks.FewestLivePages.{stale_told}

-- what is to be erased now was so before
abbrev pub WereStale : (blocks now : Spot → BlockState) (vacancies has : Spot → Vacancy) → Type 0
WereStale blocks now vacancies has =
    (s : Spot) → now s ≡ Free → has s ≡ Stale → (blocks s ≡ Free) × (vacancies s ≡ Stale)

-- a step is under way only where one was
abbrev pub HadStep : Option Step → Option Step → Type 0
HadStep step next = (s : Step) → next ≡ Some s → (x : Step) × (step ≡ Some x)

pub none_stale_stays : (n : Numbers) {blocks now : Spot → BlockState} {vacancies has : Spot → Vacancy} →
    WereStale blocks now vacancies has → AreNoneStale n blocks vacancies → AreNoneStale n now has
none_stale_stays n old r s die block free stale = let k = old s free stale in r s die block k.0 k.1

pub stale_stays : (n : Numbers) {blocks now : Spot → BlockState} {vacancies has : Spot → Vacancy}
    {step next : Option Step} (w : Mending) → WereStale blocks now vacancies has → HadStep step next →
    StaleRight n blocks vacancies step w → StaleRight n now has next w
stale_stays n (Unmarked fence lost) old had r = λ s e. let x = had s e in none_stale_stays n old (r x.0 x.1)
stale_stays n (Repairing left) old had r = none_stale_stays n old r
stale_stays n Mended old had r = tt

-- where none is there, any step may be ordered
pub none_is_right : (n : Numbers) {blocks : Spot → BlockState} {vacancies : Spot → Vacancy} (step : Option Step)
    (w : Mending) → AreNoneStale n blocks vacancies → StaleRight n blocks vacancies step w
none_is_right n step (Unmarked fence lost) none = λ s e. none
none_is_right n step (Repairing left) none = none
none_is_right n step Mended none = tt

-- a step is ordered only where none is there
pub none_at_order : (t : Translation) (o : Order) → due_order t ≡ Some o →
    AreNoneStale t.numbers t.disk.blocks t.disk.vacancies
none_at_order t o e s die block free = stale_told t (by t.work.step (has_stale t) refl e) s
    (record { die = die; block = block }) free
  where
    by : (step : Option Step) (b : Bool) → has_stale t ≡ b →
        (if is_none step && not b then next_order t t.work.mending t.work.plan else None) ≡ Some o →
        has_stale t ≡ false
    by step false is k = is
    by None true is k = absurd (none-some o k)
    by (Some step) true is k = absurd (none-some o k)
