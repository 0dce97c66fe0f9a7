-- A device can be opened over any array that is sound and suits it: the state that an opening finds is one.
use Rattle.power_loss.proofs.Common.{◌≡◌, ℕ, suc, ◌≤◌, Bool, true, false, [], Option, Some, None, refl, ap, subst}
use Rattle.power_loss.proofs.Common.{arith, AreFirstBlocks, AreWithin, Array, BlockState, Cells, Mark, Shows, Disk}
use Rattle.power_loss.proofs.Common.{Spot, content, HoldAll, IsKept, IsNewestMark, StandsFor, fence_in, Ledger}
use Rattle.power_loss.proofs.Common.{IsOpenedTranslation, IsGreatestSeen, lost_from, number_of, Plain, CellsSound}
use Rattle.power_loss.proofs.Common.{CellsSuit, Sound, Suits, Translation, Numbers, Fence, none-some, CellsRight}
use Rattle.power_loss.proofs.MachineWords.{IsOpened, State, IsArrayOf}
use Rattle.ufs_laws.proofs.array_cells.NewestFound.{holds}
use Rattle.ufs_laws.proofs.array_cells.StandsForOne.{cells_one, mark_one}
use Rattle.ufs_laws.proofs.pages.PageIsOneCell.{one_cell}
use Rattle.ufs_laws.proofs.array_cells.StandsForSomething.{stands_for_something, within_dies}
use Rattle.ufs_laws.proofs.plain_contents.PlainFromContents.{contents_there, state_is_plain}
use Rattle.ufs_spec.specs.Exchanges.{all_empty}
use Rattle.ufs_spec.specs.Openings.{IsOpenedDisk, IsOpenedLedger}
use Rattle.power_loss.proofs.openings.OpenedFromPages.{cells_right}
use Rattle.power_loss.proofs.openings.FoundInCells.{first_of, is_entry, mending_at, some_top, stands_at}
use Rattle.power_loss.proofs.openings.BlocksByAge.{vacancy_at}
use Rattle.power_loss.proofs.openings.FreeInOrder.{are_found, found_free}
use Rattle.power_loss.proofs.openings.FreeTogether.{first_blocks}
use Rattle.power_loss.specs.FreeBlocks.{blocks_by}
use Rattle.ufs_spec.specs.declared.volatile.TheConstants.Volatile.{NEW}

module _ (n : Numbers) (c : Cells) (within : AreWithin n c) (bad : Spot → Bool) (m : Option Mark)
    (newest : IsNewestMark c m) (kept : ℕ) (is_kept : IsKept c m kept) (base : Plain)
    (holds_base : HoldAll n c m kept (content base)) (suit : CellsSuit n c m) (sound : CellsSound c m)
    (ordered : (f : Fence) → fence_in m ≡ Some f → f.first ≤ f.last) where
  last : ℕ
  last = (some_top n c within m).0

  last_is : IsGreatestSeen c m last
  unfolding last
  last_is = (some_top n c within m).1

  low : ℕ
  low = lost_from (fence_in m) kept

  wide : (f : Fence) → fence_in m ≡ Some f → low ≤ last
  unfolding low
  wide f e =
      let first : low ≡ f.first = ap (λ x. lost_from x kept) e in
      let a = ordered f e in
      let b = last_is.0.fence f e in
      omega arith

  -- what each block is
  blocks : Spot → BlockState
  blocks = blocks_by bad (found_free n c within m bad)

  blocks_are : AreFirstBlocks c m bad blocks
  unfolding blocks
  blocks_are = first_blocks n c within m sound bad (found_free n c within m bad)
      (are_found n c within m bad)

  disk : Disk
  disk = record {
    cells = c;
    finished = λ p. true;
    blocks = blocks;
    vacancies = λ s. (vacancy_at n c within s).0;
    flights = λ die. None;
    erasing = λ s. false;
  }

  ledger : Ledger
  ledger = record {
    base = content base;
    entries_before = λ number index. (is_entry n c within (record { number = number; index = index })).0;
    first_page = λ k. (first_of n c within m kept k (holds n c within m (suc kept) k).0
        (holds n c within m (suc kept) k).1).0;
    greatest_seen = last;
    first_lost = low;
    groups = [];
    repairs = 0;
    standing = λ number index. (stands_at n c within blocks (record { number = number; index = index })).0;
    frontier = last;
    newest = m;
    marks = number_of m;
    held = 0;
  }

  translation : Translation
  translation = record {
    numbers = n;
    disk = disk;
    ledger = ledger;
    work = record { mending = (mending_at n c within m low last wide suit.config).0; plan = None; step = None; rests = [] };
    claims = 0;
    pins = [];
  }

  disk_opens : IsOpenedDisk c m bad disk
  unfolding disk
  disk_opens = record {
    cells = refl;
    finished = λ p. refl;
    blocks = blocks_are;
    vacancies = λ s. (vacancy_at n c within s).1;
    idle = λ die. refl;
    none_erasing = λ s. refl;
  }

  ledger_opens : IsOpenedLedger n c blocks ledger
  unfolding ledger low
  ledger_opens = record {
    newest = newest;
    kept = kept;
    is_kept = is_kept;
    holds = holds_base;
    greatest_seen = last_is;
    first_lost = refl;
    entries_before = λ number index. (is_entry n c within (record { number = number; index = index })).1;
    standing = λ number index. (stands_at n c within blocks (record { number = number; index = index })).1;
    first_page = λ k key. (first_of n c within m kept k (holds n c within m (suc kept) k).0
        (holds n c within m (suc kept) k).1).1;
    none_new = refl;
    none_repaired = refl;
    frontier = refl;
    marks = refl;
    none_held = refl;
  }

  translation_opens : IsOpenedTranslation n c bad translation
  unfolding translation ledger disk
  translation_opens = record {
    numbers = refl;
    suits = suit;
    disk = disk_opens;
    ledger = ledger_opens;
    mending = (mending_at n c within m low last wide suit.config).1;
    no_plan = refl;
    no_step = refl;
    no_rests = refl;
    no_claims = refl;
    no_pins = refl;
  }

  state_over : Array → State
  state_over array = record {
    array = array;
    base = base;
    accepted = [];
    translation = translation;
    tasks = [];
    shorts = [];
    volatile = NEW;
    registers = all_empty;
  }

  opens : (array : Array) → Shows array c → StandsFor n array base → (s : State) × IsOpened n array bad s
  unfolding translation ledger state_over
  opens array shown stands = (
    state_over array,
    record {
      array_now = refl;
      cells = c;
      shown = shown;
      translation = translation_opens;
      stands = stands;
      contents = λ k key. refl;
      none_accepted = refl;
      no_tasks = refl;
      no_shorts = refl;
      fresh = refl;
      no_registers = refl;
    },
  )

-- The array

ordered_fence : {c : Cells} (m : Option Mark) → CellsRight c → IsNewestMark c m → (f : Fence) → fence_in m ≡ Some f →
    f.first ≤ f.last
ordered_fence None right newest f e = absurd (none-some f e)
ordered_fence (Some m) right newest f e = right.fences newest.0.0 m f newest.0.1 e

pub any_opens : (n : Numbers) (array : Array) (bad : Spot → Bool) → IsArrayOf n array → Sound array → Suits n array →
    (s : State) × IsOpened n array bad s
any_opens n array bad inside sound suits =
    let found =
    stands_for_something state_is_plain (λ s f contents whole k is_key. contents_there s f contents k is_key) n
    array inside sound suits in
    let base : Plain = found.0 in
    let c : Cells = found.1.0 in
    let shown : Shows array c = found.1.1 in
    let is = found.1.2 in
    let within : AreWithin n c = within_dies n array c inside shown in
    let same : sound.cells ≡ c = cells_one one_cell array sound.cells c sound.shown shown in
    let suited : suits.cells ≡ c = cells_one one_cell array suits.cells c suits.shown shown in
    let first : IsNewestMark c sound.newest = subst (λ x. IsNewestMark x sound.newest) same sound.is_newest in
    let other : IsNewestMark c suits.newest = subst (λ x. IsNewestMark x suits.newest) suited suits.is_newest in
    let right : CellsSound c sound.newest = subst (λ x. CellsSound x sound.newest) same sound.sound in
    let one : suits.newest ≡ is.newest = mark_one c sound.newest suits.newest is.newest right other is.is_newest in
    let suit : CellsSuit n c is.newest = subst (CellsSuit n c) one
    (subst (λ x. CellsSuit n x suits.newest) suited suits.suit) in
    opens n c within bad is.newest is.is_newest is.kept is.is_kept base is.holds suit
    (subst (CellsSound c) (mark_one c sound.newest sound.newest is.newest right first is.is_newest) right)
    (ordered_fence is.newest (cells_right array shown) is.is_newest) array shown found.1
