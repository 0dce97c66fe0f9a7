-- What each move leaves of a translation layer whose pages, once programmed, open as they are meant to.
use Rattle.ufs_spec.specs.Configs.{marked}
use Rattle.power_loss.proofs.Common.{Accept, Book, Bool, Cell, Contents, CopyStep, Disk, EndJob, Entry, Fence}
use Rattle.power_loss.proofs.Common.{FenceRight, Flight, Flights, GiveJob, Group, IsAllowedMove, IsBlock, IsCell}
use Rattle.power_loss.proofs.Common.{IsFence, IsFirstFence, IsKey, IsLastRepair, IsSettingsBody, Item, Key, Ledger}
use Rattle.power_loss.proofs.Common.{LetGo, LetGoAll, List, Mark, MarkFlightRight, MarkPage, MarkStep, MayTake, Mended}
use Rattle.power_loss.proofs.Common.{Mending, MendingRight, Move, Name, None, Numbers, Option, Place, Plan, Programming}
use Rattle.power_loss.proofs.Common.{Reader, RepairStep, Repairing, Some, Step, StepKind, StepKindRight, TakeStep}
use Rattle.power_loss.proofs.Common.{Translation, Unmarked, Valid, [], ap, arith, at_die, at_name, before_accepted}
use Rattle.power_loss.proofs.Common.{book, cell_now, drop, false≢true, get_or_from_slice_get, has_mark_number}
use Rattle.power_loss.proofs.Common.{has_number, is_mended, is_standing, last_number, leb-true, length, length-append}
use Rattle.power_loss.proofs.Common.{mending_after, moved, name_of, next_number, none-some, page_of}
use Rattle.power_loss.proofs.Common.{program_unread as program_left, records_now, refl, repair_ordered, same_Some}
use Rattle.power_loss.proofs.Common.{shape_of_numbers, slice_get_within, step_cell, subst, suc, sym, taken, true}
use Rattle.power_loss.proofs.Common.{without_reader, zero, ℕ, ⊎_elim, ◌+◌, ◌-◌, ◌∙◌, ◌∷◌, ◌≡◌, ◌≤◌}
use Rattle.power_loss.proofs.MachineWords.{IsConfig, BookFits, EntryFits}
use Rattle.std.specs.Prelude.{slice_get}
use Rattle.std.proofs.lemmas.Bool.{ltb-true}
use Rattle.ufs_spec.proofs.ConfigFacts.{command_blocks-few}
use Rattle.ufs_spec.specs.Pages.{greatest_number, group_bound}
use Rattle.ufs_spec.specs.Ledger.{entry_of}
use Rattle.power_loss.proofs.moves.MovesKeepValid.{all_keep}
use Rattle.power_loss.proofs.jobs_owed.ProgramsAndErases.{NameOwed, page_owed}
use Rattle.power_loss.proofs.books.PagesByName.{IsAdded, grown, page_splits}
use Rattle.power_loss.proofs.books.FrontierClimbs.{climb}
use Rattle.ufs_laws.proofs.walk.LayerEffects.{ComesOf, Effect, MarkAgain, MarkOrdered, MarkWritten, PageWritten}
use Rattle.ufs_laws.proofs.walk.LayerEffects.{PlanMarkOrdered, RepairOrdered, die_freed, effect_flights, ended}
use Rattle.ufs_laws.proofs.walk.LayerEffects.{turned_by, with_effect, without_job}
use Rattle.power_loss.proofs.books.SmallFacts.{at_die_is}
use Rattle.power_loss.proofs.stops.SealedCells.{mark_cell, page_cell, ranges_of, numbers_fit}
use Rattle.power_loss.proofs.books.LayerParts.{MendingOf}

-- the contents that a key has at the life's start may be written
pub record BaseFits (n : Numbers) (base : Contents) : Type 0 where
  pub block : (k : Key) → IsKey (shape_of_numbers n) k → IsBlock (base k)
  pub settings : (k : Key) → IsKey (shape_of_numbers n) k → k.kind ≡ 3 → IsSettingsBody (base k)

-- each page in flight shows the cell that it is meant to be
abbrev pub ProgramsFit : Flights → Type 0
ProgramsFit flights =
    (die : ℕ) (p : Place) (cell : Cell) → flights die ≡ Some (Programming p cell) → IsCell (page_of cell) cell

pub record Fits (t : Translation) : Type 0 where
  pub config : IsConfig t.numbers
  pub valid : Valid t
  pub book_fits : BookFits (book t)
  pub programs : ProgramsFit t.disk.flights
  pub marks : t.ledger.marks ≤ greatest_number
  pub repaired : is_mended t.work.mending ≡ true → before_accepted t.ledger ≤ t.ledger.frontier
  pub base : BaseFits t.numbers t.ledger.base

-- what no move changes, but for the mending, that never goes back
pub record Stays (t u : Translation) : Type 0 where
  pub numbers : u.numbers ≡ t.numbers
  pub base : u.ledger.base ≡ t.ledger.base
  pub mended : is_mended t.work.mending ≡ true → is_mended u.work.mending ≡ true

-- Jobs

pub idle_programs : (f : Flights) (die : ℕ) → ProgramsFit f → ProgramsFit (at_die f die None)
idle_programs f die h e p cell is = ⊎_elim (λ k. absurd (none-some (Programming p cell) k.1)) (λ k. h e p cell k.1)
    (at_die_is f die None e (Some (Programming p cell)) is)

gone_programs : (f : Flights) (reads : Reader → Bool) → ProgramsFit f →
    ProgramsFit (λ die. without_reader reads (f die))
gone_programs f reads h die p cell is = h die p cell (program_left reads (f die) p cell is)

begun_programs : (f : Flights) (die : ℕ) (flight : Flight) →
    ((p : Place) (cell : Cell) → flight ≡ Programming p cell → IsCell (page_of cell) cell) → ProgramsFit f →
    ProgramsFit (at_die f die (Some flight))
begun_programs f die flight new h e p cell is =
    ⊎_elim (λ k. new p cell (same_Some flight (Programming p cell) k.1)) (λ k. h e p cell k.1)
    (at_die_is f die (Some flight) e (Some (Programming p cell)) is)

-- an effect leaves them, but for the one that ends
effect_programs : (t : Translation) (e : Effect) → ProgramsFit t.disk.flights →
    ProgramsFit (with_effect t e).disk.flights
effect_programs t e h = subst ProgramsFit (sym (effect_flights t e)) (left (die_freed e))
  where
    left : (o : Option ℕ) → ProgramsFit (without_job t.disk.flights o)
    left None = h
    left (Some die) = idle_programs t.disk.flights die h

-- What leaves the numbers and contents of the book

light : {t u : Translation} → Fits t → Valid u → book u ≡ book t → ProgramsFit u.disk.flights →
    u.ledger.marks ≤ greatest_number →
    (is_mended u.work.mending ≡ true → before_accepted u.ledger ≤ u.ledger.frontier) → Fits u
light {t} {u} f v b programs marks repaired = record {
  config = subst IsConfig (sym (ap (λ (x : Book). x.numbers) b)) f.config;
  valid = v;
  book_fits = subst BookFits (sym b) f.book_fits;
  programs = programs;
  marks = marks;
  repaired = repaired;
  base = subst (λ (x : Book). BaseFits x.numbers x.base) (sym b) f.base;
}

-- One group more

abbrev pub ItemsFit : Group → Type 0
ItemsFit g = (i : ℕ) (item : Item) → slice_get g i ≡ Some item → IsBlock item.body
    × (item.key.kind ≡ 3 → IsSettingsBody item.body)

group_fits : {b : Book} (g : Group) → BookFits b → length g ≤ group_bound → ItemsFit g →
    last_number b + 1 ≤ greatest_number → BookFits (grown b g)
group_fits {b} g f few items fit = record {
  entries = λ n i e is. ⊎_elim (f.entries n i e) (added n i e) (page_splits b g n i e is);
  last = omega (arith, length-append b.groups (g ∷ []));
  lost = f.lost;
}
  where
    added : (n i : ℕ) (e : Entry) → IsAdded b g n i e → EntryFits e i × (1 ≤ n)
    added n i e a =
        let item = items i e.item a.item in
        let size = a.size in
        let last = a.last in
        let inside = slice_get_within g i e.item a.item in
        (record { block = item.0; settings = item.1; size = omega arith; inside = omega arith }, omega arith)

accepts_fit : {t : Translation} (claimed : ℕ) (g : Group) → Fits t → IsAllowedMove t (Accept claimed g) →
    Fits (moved t (Accept claimed g))
accepts_fit {t} claimed g f may = assumption (
  all_keep t (Accept claimed g) f.valid may,
  group_fits g f.book_fits few items (leb-true (next_number t.ledger) greatest_number may.1),
)
  where
    -- what a device accepts is never more than a tag can say
    few : length g ≤ group_bound
    few = let most = may.4.not_long in let least = command_blocks-few t.numbers in omega arith

    items : ItemsFit g
    items i item at =
        let w = slice_get_within g i item at in
        let h = may.4.items i item w in
        let e = get_or_from_slice_get g i item item at in (
          subst (λ (x : Item). IsBlock x.body) e h.block,
          λ k. subst (λ (x : Item). x.key.kind ≡ 3 → IsSettingsBody x.body) e h.settings k,
        )

-- What is programmed

abbrev IsFit : Cell → Type 0
IsFit cell = IsCell (page_of cell) cell

cell_now_fits : {t : Translation} (name : Name) → Fits t → IsFit (cell_now t.ledger name)
cell_now_fits {t} name f = page_cell name
    (entry_of t.ledger name) t.ledger.frontier f.config f.valid.book_right f.book_fits f.valid.frontier.within
    (λ x h. h)

-- the fence of a mark that is ordered covers what is lost
fence_bounds : (b : Book) (d : Disk) (l : Ledger) (plan : Option Plan) (step : Option Step) (w : Mending)
    {fence : Option Fence} → MendingRight b d l plan step w → FenceRight w fence → (f : Fence) → fence ≡ Some f →
    (f.first ≡ b.first_lost) × (f.last ≡ b.greatest_seen) × (b.first_lost ≤ b.greatest_seen)
fence_bounds b d l plan step (Unmarked first lost) m r f e =
    subst (λ (x : Option Fence). IsFirstFence l.newest b.first_lost b.greatest_seen x) (sym r ∙ e) m.fence_right
fence_bounds b d l plan step (Repairing left) m r f e = absurd (none-some f (sym r.0 ∙ e))
fence_bounds b d l plan step Mended m r f e = absurd (none-some f (sym r ∙ e))

fence_fits : {b : Book} {f : Fence} → BookFits b → (f.first ≡ b.first_lost) × (f.last ≡ b.greatest_seen)
    × (b.first_lost ≤ b.greatest_seen) → IsFence f
fence_fits fits h =
    let some = fits.lost h.2 in
    let last = fits.last in
    let first = h.0 in
    let end = h.1 in
    let order = h.2 in
    record { ordered = omega arith; some = omega arith; fits = omega arith }

records_fit : {t : Translation} (fence : Option Fence) → Fits t →
    ((f : Fence) → fence ≡ Some f → (f.first ≡ t.ledger.first_lost) × (f.last ≡ t.ledger.greatest_seen)
    × (t.ledger.first_lost ≤ t.ledger.greatest_seen)) → records_now t.ledger fence ≤ greatest_number
records_fit None f h = let w = f.valid.frontier.within in let l = f.book_fits.last in omega arith
records_fit (Some fence) f h = let l = f.book_fits.last in let e = (h fence refl).1 in omega arith

step_cell_fits : {t : Translation} (kind : StepKind) → Fits t →
    StepKindRight (book t) t.ledger.marks t.disk.cells t.work.mending t.work.plan kind → IsFit (step_cell t kind)
step_cell_fits {t} (MarkStep number fence) f r =
    let bounds =
    fence_bounds (book t) t.disk t.ledger t.work.plan t.work.step t.work.mending f.valid.mending r.fence_right in
    let marks = f.marks in
    let last = r.last in
    let some = r.given in
    mark_cell
    (record { number = number; records = records_now t.ledger fence; fence = fence; numbers = marked t.numbers })
    (numbers_fit (ranges_of t.numbers f.config)) (λ x e. fence_fits f.book_fits (bounds x e)) (omega arith) (omega arith)
    (records_fit fence f bounds)
step_cell_fits {t} (CopyStep name from) f r = cell_now_fits name f
step_cell_fits {t} (RepairStep name from) f r = cell_now_fits name f

takes_fit : {t : Translation} (die : ℕ) (flight : Flight) → Fits t → MayTake t die (Some flight) →
    Fits (taken t die flight)
takes_fit {t} die flight f may = light f (all_keep t (GiveJob die flight) f.valid may) refl
    (begun_programs t.disk.flights die flight new f.programs) f.marks f.repaired
  where
    new : (p : Place) (cell : Cell) → flight ≡ Programming p cell → IsFit cell
    new p cell e = ⊎_elim
        (λ s. subst IsFit s.is (step_cell_fits s.step.kind f (f.valid.step.kind s.step s.under_way)))
        (λ (k : (name : Name) × (cell ≡ cell_now t.ledger name) × NameOwed t name).
        subst IsFit (sym k.1) (cell_now_fits k.0 f))
        (page_owed t die p cell (subst (λ (x : Flight). MayTake t die (Some x)) e may))

-- Jobs that end

-- behind a mark each repair is durable
pub mark_repaired : {t : Translation} (w : Mending) {m : Mark} → Valid t →
    MarkFlightRight t.numbers t.ledger.marks t.work.step m → MendingOf t w →
    (is_mended w ≡ true → before_accepted t.ledger ≤ t.ledger.frontier) → before_accepted t.ledger ≤ t.ledger.frontier
mark_repaired {t} (Unmarked fence lost) v h r known =
    let within = v.history.within in
    let none : length t.ledger.groups ≡ 0 = ap (λ (x : List Group). length x) r.none_new in
    let still = r.still in
    omega arith
mark_repaired {t} (Repairing left) v h r known =
    let within = v.history.within in
    ⊎_elim (λ (e : t.ledger.frontier ≡ last_number (book t)). omega arith)
    (λ (e : (suc t.ledger.frontier ≡ last_number (book t)) × IsLastRepair (book t) t.work.step). absurd (other _ _ _ _
    (kinds _ _ (sym h.step_is ∙ e.1.2)))) r.more.under_way
  where
    kinds : (x y : Step) → Some x ≡ Some y → x.kind ≡ y.kind
    kinds x y e = let same : x ≡ y = cc in ap (λ (z : Step). z.kind) same

    other : (number : ℕ) (fence : Option Fence) (name : Name) (from : Option Place) →
        MarkStep number fence ≡ RepairStep name from → ⊥
    other number fence name from e = cc
mark_repaired Mended v h r known = known refl

numbered : (t : Translation) → has_mark_number t ≡ true → t.ledger.marks + 1 ≤ greatest_number
numbered t h = let lt = ltb-true t.ledger.marks greatest_number h in omega arith

repairs_fit : {t : Translation} (k : Key) (left : List Key) → Fits t → t.work.mending ≡ Repairing (k ∷ left) →
    has_number t ≡ true → Valid (repair_ordered t k left) → Fits (repair_ordered t k left)
repairs_fit {t} k left f w number v = record {
  config = f.config;
  valid = v;
  book_fits = group_fits (record { key = k; body = t.ledger.base k } ∷ []) f.book_fits (omega arith) items
      (leb-true (next_number t.ledger) greatest_number number);
  programs = f.programs;
  marks = f.marks;
  repaired = λ h. absurd (false≢true h);
  base = f.base;
}
  where
    is_key : IsKey (shape_of_numbers t.numbers) k
    is_key =
        let m = subst (MendingOf t) w f.valid.mending in
        m.more.keys 0 k refl

    items : ItemsFit (record { key = k; body = t.ledger.base k } ∷ [])
    items zero item at =
        let e = same_Some (record { key = k; body = t.ledger.base k }) item at in
        subst (λ (x : Item). IsBlock x.body × (x.key.kind ≡ 3 → IsSettingsBody x.body)) e
        (f.base.block k is_key, f.base.settings k is_key)
    items (suc i) item at = absurd (none-some item at)

-- Steps, and the ends of jobs in flight

effect_fits : {t : Translation} {o : Option Flight} (e : Effect) →
    ((x : Flight) → o ≡ Some x → (die : ℕ) × (t.disk.flights die ≡ Some x)) → ComesOf t o e → Fits t →
    Valid (with_effect t e) → Fits (with_effect t e)
effect_fits {t} (PageWritten p tag body) flies comes f v =
    let l : Ledger = record t.ledger { standing = at_name t.ledger.standing (name_of tag) (Some p) } in
    let up = (climb (is_standing l) l.frontier (drop (l.frontier - l.greatest_seen) l.groups)).from in
    light f v refl (effect_programs t (PageWritten p tag body) f.programs) f.marks
    (λ h. let low = f.repaired h in omega arith)
effect_fits {t} (MarkWritten p m plan) flies comes f v =
    let job = flies (Programming p (MarkPage m)) comes.0 in
    light f v refl (effect_programs t (MarkWritten p m plan) f.programs) f.marks
    (λ h. mark_repaired t.work.mending f.valid (f.valid.flights.mark job.0 p m job.1) f.valid.mending f.repaired)
effect_fits {t} (MarkAgain p left fence) flies comes f v =
    light f v refl (effect_programs t (MarkAgain p left fence) f.programs) (numbered t comes.2) f.repaired
effect_fits {t} (MarkOrdered fence) flies comes f v = light f v refl f.programs (numbered t comes.1.0) f.repaired
effect_fits {t} (PlanMarkOrdered s) flies comes f v = light f v refl f.programs (numbered t comes.1.0) f.repaired
effect_fits {t} (RepairOrdered k left) flies comes f v = repairs_fit k left f comes.1.1 comes.1.0 v
effect_fits {t} e flies comes f v = light f v refl (effect_programs t e f.programs) f.marks f.repaired

-- Moves

pub move_fits : {t : Translation} (move : Move) → Fits t → IsAllowedMove t move → Fits (moved t move)
move_fits {t} (Accept claimed g) f may = accepts_fit claimed g f may
move_fits {t} (LetGo tag index) f may = light f (all_keep t (LetGo tag index) f.valid may) refl
    (gone_programs t.disk.flights _ f.programs) f.marks f.repaired
move_fits {t} (LetGoAll tag) f may = light f (all_keep t (LetGoAll tag) f.valid may) refl
    (gone_programs t.disk.flights _ f.programs) f.marks f.repaired
move_fits {t} (GiveJob die flight) f may = takes_fit die flight f may
move_fits {t} (EndJob die ending) f may = ended (λ u. Valid u → Fits u) t die (t.disk.flights die) ending
    (λ e comes v. effect_fits e (λ x is. (die, is)) comes f v) (all_keep t (EndJob die ending) f.valid may)
move_fits {t} TakeStep f may = turned_by (λ u. Valid u → Fits u) t
    (λ e comes v. effect_fits e (λ x is. absurd (none-some x is)) comes f v) (all_keep t TakeStep f.valid may)
move_fits {t} move f may = light f (all_keep t move f.valid may) refl f.programs f.marks f.repaired

-- the mending never goes back

behind_mended : (w : Mending) → is_mended w ≡ true → is_mended (mending_after w) ≡ true
behind_mended (Unmarked fence lost) h = absurd (false≢true h)
behind_mended w h = refl

effect_stays : {t : Translation} (o : Option Flight) (e : Effect) → ComesOf t o e → Stays t (with_effect t e)
effect_stays {t} o (MarkWritten p m plan) comes =
    record { numbers = refl; base = refl; mended = behind_mended t.work.mending }
effect_stays o (RepairOrdered k left) comes =
    record { numbers = refl; base = refl; mended = λ h. absurd (false≢true (ap is_mended (sym comes.1.1) ∙ h)) }
effect_stays o e comes = record { numbers = refl; base = refl; mended = λ h. h }

pub move_stays : (t : Translation) (move : Move) → Stays t (moved t move)
move_stays t (EndJob die ending) =
    ended (Stays t) t die (t.disk.flights die) ending (λ e comes. effect_stays (t.disk.flights die) e comes)
move_stays t TakeStep = turned_by (Stays t) t (λ e comes. effect_stays None e comes)
move_stays t move = record { numbers = refl; base = refl; mended = λ h. h }
