-- The ring of pending groups: what its entries tell of the pages, and how calls change it.
use Rattle.std.specs.Prelude.{◌≡◌, ℕ, ◌+◌, ◌-◌, ◌%◌, ◌^◌, ◌<◌, ◌≤◌, ◌==◌, min, nat_le, nat_lt, Bool, true, false, ◌&&◌}
use Rattle.std.specs.Prelude.{if◌then◌else◌, List, [], ◌∷◌, ◌++◌, count_by, drop, is_none, length, slice_get}
use Rattle.std.specs.Prelude.{slice_set, Option, Some, None}
use Rattle.write_cache.specs.declared.pages.ring.GroupAt.{GroupAt}
use Rattle.write_cache.specs.declared.slots.Pending.{Pending}

-- Pages

-- what the ring knows of a pending page: its number, its index, and whether it is still to be written
pub record Shown : Type 0 where
  pub number : ℕ
  pub index : ℕ
  pub is_open : Bool

abbrev pub shown : Pending → Shown
shown p = record { number = p.number; index = p.index; is_open = is_none p.written }

-- the page is there, and is still to be written
abbrev pub is_open_at : Option Pending → Bool
is_open_at None = false
is_open_at (Some p) = is_none p.written

-- all pages are of the group with this number
abbrev pub AreOf : ℕ → List Shown → Type 0
AreOf n [] = Unit {0}
AreOf n (x ∷ xs) = (x.number ≡ n) × AreOf n xs

-- no page is of the group with this number
abbrev pub AreApart : ℕ → List Shown → Type 0
AreApart n [] = Unit {0}
AreApart n (x ∷ xs) = ((x.number == n) ≡ false) × AreApart n xs

-- the indexes rise by one from page to page, and the last is this
abbrev pub is_row : ℕ → List Shown → Bool
is_row last [] = true
is_row last (x ∷ xs) = (x.index + length xs == last) && is_row last xs

-- Positions

-- positions are counted modulo 2^16
abbrev pub wrapped : ℕ → ℕ
wrapped n = n % 2 ^ 16

-- the position that lies so many before this one
abbrev pub back : ℕ → ℕ → ℕ
back n m = wrapped (n + (2 ^ 16 - m))

-- Entries

-- the indexes of the group's pages rise by one from page to page
abbrev pub is_straight : GroupAt → Bool
is_straight g = nat_le g.pages g.row

-- where the page of this index stands among all, in a group whose indexes rise by one
abbrev pub place_of : GroupAt → (landed index : ℕ) → Option ℕ
place_of g landed index =
    if nat_le index g.last && nat_lt (g.last - index) g.pages
    then Some (back (back g.end (g.last - index + 1)) landed)
    else None

-- a group that begins with a page of this index, which stands at this position and is not written
abbrev pub begun : (number index at : ℕ) → GroupAt
begun number index at =
    record { number = number; pages = 1; unwritten = 1; end = wrapped (at + 1); last = index; row = 1 }

-- how many of the last pages have indexes that rise by one, once a page of this index is the last
abbrev pub row_with : GroupAt → ℕ → ℕ
row_with g index = if index == g.last + 1 then min (g.row + 1) (2 ^ 16 - 1) else 1

-- the group with a page of this index behind the others, which is not written
abbrev pub longer : GroupAt → ℕ → GroupAt
longer g index =
    record g {
      pages = g.pages + 1;
      unwritten = g.unwritten + 1;
      end = wrapped (g.end + 1);
      last = index;
      row = row_with g index;
    }

-- the group once one page more is written, if it was not
abbrev pub written : GroupAt → Bool → GroupAt
written g is_open = record g { unwritten = g.unwritten - (if is_open then 1 else 0) }

-- the group without its first page
abbrev pub shorter : GroupAt → Bool → GroupAt
shorter g is_open = record (written g is_open) { pages = g.pages - 1 }

-- The ring

-- one page more, behind all others: of the last group, or the first of one more
abbrev pub noted_behind : (landed number index : ℕ) → List GroupAt → Option GroupAt → List GroupAt
noted_behind landed number index gs None = gs ++ begun number index landed ∷ []
noted_behind landed number index gs (Some g) =
    if g.number == number
    then slice_set gs (length gs - 1) (longer g index)
    else gs ++ begun number index g.end ∷ []

abbrev pub noted : (landed number index : ℕ) → List GroupAt → List GroupAt
noted landed number index gs = noted_behind landed number index gs (slice_get gs (length gs - 1))

-- the first page of the first group is gone, and the group with its last one
abbrev pub shortened : Bool → List GroupAt → List GroupAt
shortened is_open [] = []
shortened is_open (g ∷ gs) = if nat_lt 1 g.pages then shorter g is_open ∷ gs else gs

-- the number of the first group, and this one if there is none
abbrev pub first_number : ℕ → List GroupAt → ℕ
first_number otherwise [] = otherwise
first_number otherwise (g ∷ gs) = g.number

-- the numbers rise from entry to entry, and begin at this one or above
abbrev pub IsRising : ℕ → List GroupAt → Type 0
IsRising least [] = Unit {0}
IsRising least (g ∷ gs) = (least ≤ g.number) × IsRising (g.number + 1) gs

-- no entry has this number
abbrev pub HasNone : ℕ → List GroupAt → Type 0
HasNone n [] = Unit {0}
HasNone n (g ∷ gs) = ((g.number == n) ≡ false) × HasNone n gs

-- Pages and entries

-- the entry tells of these pages, the first of which stands at this position
pub record IsRun (start : ℕ) (g : GroupAt) (xs : List Shown) : Type 0 where
  pub many : length xs ≡ g.pages
  pub some : 0 < g.pages
  pub of_group : AreOf g.number xs
  pub end : g.end ≡ wrapped (start + g.pages)
  pub unwritten : g.unwritten ≡ count_by (λ (x : Shown). x.is_open) xs
  pub some_row : 0 < g.row
  -- from the page at each place on they are in a row, or not, as the count of those in a row says
  pub row : (k : ℕ) → is_row g.last (drop k xs) ≡ nat_le (length xs) (g.row + k)

-- the pages are two parts, of which this is true of the first and that of the others
pub record IsSplit (P Q : List Shown → Type 0) (xs : List Shown) : Type 0 where
  pub front : List Shown
  pub behind : List Shown
  pub whole : xs ≡ front ++ behind
  pub first : P front
  pub others : Q behind

-- the entries tell of all these pages, one after another from this position on; the numbers of the groups rise, and
-- lie between these two
abbrev pub AreRuns : (start least greatest : ℕ) → List GroupAt → List Shown → Type 0
AreRuns start least greatest [] xs = xs ≡ []
AreRuns start least greatest (g ∷ gs) xs =
    (least ≤ g.number) × (g.number ≤ greatest)
    × IsSplit (IsRun start g) (λ ys. AreRuns g.end (g.number + 1) greatest gs ys) xs

-- the group of this entry stands among the pages, as far behind their first one as its position tells, and no other
-- page is of it
pub record Stands (landed : ℕ) (g : GroupAt) (xs : List Shown) : Type 0 where
  pub before : List Shown
  pub run : List Shown
  pub behind : List Shown
  pub whole : xs ≡ before ++ (run ++ behind)
  pub start : ℕ
  pub is_run : IsRun start g run
  pub place : g.end ≡ wrapped (landed + (length before + g.pages))
  pub apart_before : AreApart g.number before
  pub apart_behind : AreApart g.number behind
