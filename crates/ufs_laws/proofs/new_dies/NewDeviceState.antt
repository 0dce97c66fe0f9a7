-- What a device is that was opened over new dies: all of it is known, but for the arrays, the base, and what its ledger
-- says of keys.
use Rattle.ufs_laws.proofs.Common.{Array, Bool, Contents, Disk, IsCell, IsNew, IsOpened, Key, Ledger, List, Mending}
use Rattle.ufs_laws.proofs.Common.{Name, None, Nothing, Numbers, Option, Place, Plain, Spot, State, Translation}
use Rattle.ufs_laws.proofs.Common.{Unmarked, Untouched, Work, [], ap, false, false≢true, fence_in, find, has_stale}
use Rattle.ufs_laws.proofs.Common.{is_ready, is_stale, is_vacant, lowest_vacant, may_be_used, none_passes, refl, row}
use Rattle.ufs_laws.proofs.Common.{spots, subst, suc, sym, true, ℕ, ◌&&◌, ◌∙◌, ◌∷◌, ◌≡◌}
use Rattle.std.proofs.Math.Bool.{and-false}
use Rattle.ufs_laws.proofs.pages.BlankPages.{blank_is_nothing}
use Rattle.ufs_laws.proofs.array_cells.EmptyCells as cells
use Rattle.ufs_laws.proofs.array_cells.EmptyCells.{fresh_block}
use Rattle.ufs_laws.proofs.array_cells.StandsForSomething.{AllBlank}
use Rattle.ufs_spec.specs.Exchanges.{all_empty}
use Rattle.ufs_spec.specs.Openings.{IsGreatestSeen, IsMendingAt, lost_from, number_of}
use Rattle.ufs_spec.specs.Translation.{is_free, spots_of}
use Rattle.ufs_spec.specs.declared.volatile.TheConstants.Volatile.{NEW}

-- what a life begins with that the numbers do not say
pub record Open : Type 0 where
  pub array : Array
  pub base : Plain
  pub contents : Contents
  pub first : Key → Option Name

abbrev pub open_in : State → Open
open_in s = record {
  array = s.array;
  base = s.base;
  contents = s.translation.ledger.base;
  first = s.translation.ledger.first_page;
}

abbrev pub first_disk : (Spot → Bool) → Disk
first_disk bad = record {
  cells = λ p. Nothing;
  finished = λ p. true;
  blocks = λ b. fresh_block (bad b);
  vacancies = λ b. Untouched;
  flights = λ die. None;
  erasing = λ b. false;
}

abbrev pub new_ledger : Open → Ledger
new_ledger o = record {
  base = o.contents;
  entries_before = λ number index. None;
  first_page = o.first;
  greatest_seen = 0;
  first_lost = 1;
  groups = [];
  repairs = 0;
  standing = λ number index. None;
  frontier = 0;
  newest = None;
  marks = 0;
  held = 0;
}

abbrev pub new_work : Work
new_work = record { mending = Unmarked None []; plan = None; step = None; rests = [] }

abbrev pub first_layer : Numbers → (Spot → Bool) → Open → Translation
first_layer n bad o =
    record { numbers = n; disk = first_disk bad; ledger = new_ledger o; work = new_work; claims = 0; pins = [] }

abbrev pub first_state : Numbers → (Spot → Bool) → Open → State
first_state n bad o = record {
  array = o.array;
  base = o.base;
  accepted = [];
  translation = first_layer n bad o;
  tasks = [];
  shorts = [];
  volatile = NEW;
  registers = all_empty;
}

-- Nothing to erase is in any of its blocks

none_found : (f : Spot → Bool) (spots : List Spot) → ((s : Spot) → f s ≡ false) → find f spots ≡ None
none_found f [] none = refl
none_found f (s ∷ more) none = rw (none s) (none_found f more none)

never : (free other : Bool) → ((free && false) && other) ≡ false
never true other = refl
never false other = refl

module _ (n : Numbers) (bad : Spot → Bool) (o : Open) where
  pub none_stale : (die : ℕ) → lowest_vacant (first_layer n bad o) is_stale die ≡ None
  none_stale die =
      none_found (may_be_used (first_layer n bad o) is_stale) (spots_of n die)
      (λ s. never (is_free (fresh_block (bad s))) true)

  pub none_ready : (die : ℕ) → lowest_vacant (first_layer n bad o) is_ready die ≡ None
  none_ready die =
      none_found (may_be_used (first_layer n bad o) is_ready) (spots_of n die)
      (λ s. never (is_free (fresh_block (bad s))) true)

  pub no_stale : has_stale (first_layer n bad o) ≡ false
  no_stale =
      none_passes (is_vacant (first_layer n bad o) is_stale) (spots n)
      (λ k s at is. false≢true (sym (and-false (is_free (fresh_block (bad s)))) ∙ is))

-- Of the worked run's device, of which no block is bad

abbrev none_bad : Spot → Bool
none_bad b = false

abbrev pub new_disk : Disk
new_disk = first_disk none_bad

abbrev pub new_translation : Open → Translation
new_translation = first_layer row none_bad

abbrev pub new_state : Open → State
new_state = first_state row none_bad

-- All of it

module _ (n : Numbers) (array : Array) (bad : Spot → Bool) (s : State) (blank : AllBlank array)
    (h : IsOpened n array bad s) where
  pub none_there : (p : Place) → h.cells p ≡ Nothing
  none_there p = blank_is_nothing (h.cells p) (subst (λ page. IsCell page (h.cells p)) (blank p) (h.shown p))

  newest : s.translation.ledger.newest ≡ None
  newest = cells.no_newest h.cells none_there s.translation.ledger.newest h.translation.ledger.newest

  top : s.translation.ledger.greatest_seen ≡ 0
  top =
      let seen = s.translation.ledger.greatest_seen in
      cells.is_top h.cells none_there seen
      (subst (λ m. IsGreatestSeen h.cells m seen) newest h.translation.ledger.greatest_seen)

  low : s.translation.ledger.first_lost ≡ 1
  low =
      let l = h.translation.ledger in
      let kept = cells.kept_none h.cells none_there s.translation.ledger.newest l.kept l.is_kept in
      l.first_lost ∙ (ap (λ m. lost_from (fence_in m) l.kept) newest ∙ ap suc kept)

  work_is : s.translation.work ≡ new_work
  work_is i =
      let t = h.translation in
      let l = s.translation.ledger in
      let mending : Mending = s.translation.work.mending in
      let at : IsMendingAt n h.cells None 1 0 mending =
      subst (λ k. IsMendingAt n h.cells None 1 k mending) top
      (subst (λ k. IsMendingAt n h.cells None k l.greatest_seen mending) low
      (subst (λ m. IsMendingAt n h.cells m l.first_lost l.greatest_seen mending) newest t.mending)) in
      record {
        mending = cells.is_unmarked h.cells none_there n mending at i;
        plan = t.no_plan i;
        step = t.no_step i;
        rests = t.no_rests i;
      }

  disk_is : s.translation.disk ≡ first_disk bad
  disk_is i =
      let d = h.translation.disk in
      record {
        cells = λ p. (ap (λ c. c p) d.cells ∙ none_there p) i;
        finished = λ p. d.finished p i;
        blocks = λ b.
            cells.blocks_one h.cells none_there s.translation.ledger.newest bad s.translation.disk.blocks d.blocks b i;
        vacancies = λ b. cells.is_untouched h.cells none_there b (s.translation.disk.vacancies b) (d.vacancies b) i;
        flights = λ die. d.idle die i;
        erasing = λ b. d.none_erasing b i;
      }

  ledger_is : s.translation.ledger ≡ new_ledger (open_in s)
  ledger_is i =
      let l = h.translation.ledger in
      let own = s.translation.ledger in
      let name : ℕ → ℕ → Name = λ number index. record { number = number; index = index } in
      record {
        base = own.base;
        entries_before = λ number index.
            cells.no_entry h.cells none_there (name number index) (own.entries_before number index)
            (l.entries_before number index) i;
        first_page = own.first_page;
        greatest_seen = top i;
        first_lost = low i;
        groups = l.none_new i;
        repairs = l.none_repaired i;
        standing = λ number index.
            cells.none_stands h.cells none_there s.translation.disk.blocks (name number index)
            (own.standing number index) (l.standing number index) i;
        frontier = (l.frontier ∙ top) i;
        newest = newest i;
        marks = (l.marks ∙ ap number_of newest) i;
        held = l.none_held i;
      }

  pub first_is : s ≡ first_state n bad (open_in s)
  first_is i =
      let t = h.translation in
      record {
        array = s.array;
        base = s.base;
        accepted = h.none_accepted i;
        translation = record {
          numbers = t.numbers i;
          disk = disk_is i;
          ledger = ledger_is i;
          work = work_is i;
          claims = t.no_claims i;
          pins = t.no_pins i;
        };
        tasks = h.no_tasks i;
        shorts = h.no_shorts i;
        volatile = h.fresh i;
        registers = h.no_registers i;
      }

pub state_is : (s : State) (n : IsNew s) → s ≡ new_state (open_in s)
state_is s n =
    first_is row n.array n.bad s n.blank n.opened
    ∙ ap (λ (bad : Spot → Bool). first_state row bad (open_in s)) (λ i b. n.none_bad b i)
