-- What a life knows of numbers and contents, whatever pages they lie on, and what holds of it. Groups are added
-- to it, and all else stays for the whole life.
use Rattle.std.specs.Prelude.{◌≡◌, ◌⊎◌, ℕ, suc, ◌+◌, ◌-◌, ◌<◌, ◌≤◌, nat_le, if◌then◌else◌, List, length, Option, Some}
use Rattle.std.specs.Prelude.{None, option_and_then, slice_get}
use Rattle.ufs_spec.specs.Cells.{Cells, Mark, MarkPage, key_of}
use Rattle.ufs_spec.specs.Keys.{Contents, Group, IsKey}
use Rattle.ufs_spec.specs.Ledger.{Entry, Ledger, entry_in}
use Rattle.ufs_spec.specs.Plain.{shape_of_numbers, zero_block}
use Rattle.ufs_spec.specs.Translation.{Translation, name_of}
use Rattle.ufs_spec.specs.declared.configs.Numbers.{Numbers}
use Rattle.ufs_spec.specs.declared.flash.Fence.{Fence}
use Rattle.ufs_spec.specs.declared.flash.Key.{Key}
use Rattle.ufs_spec.specs.declared.flash.Place.{Place}
use Rattle.ufs_spec.specs.declared.flash.Tag.{Tag}
use Rattle.ufs_spec.specs.declared.layer.Name.{Name}

-- Cells as pages show them

-- the ends of a fence are in order, as each page that opens as a mark has them
pub record CellsRight (c : Cells) : Type 0 where
  pub fences : (p : Place) (m : Mark) (f : Fence) → c p ≡ MarkPage m → m.fence ≡ Some f → f.first ≤ f.last

-- The book

-- the numbers, the contents at the life's start, the pages of earlier lives by number and index, the page that each key
-- began with, the greatest number seen, the first lost number, and the groups of this life
pub record Book : Type 0 where
  pub numbers : Numbers
  pub base : Contents
  pub entries_before : ℕ → ℕ → Option Entry
  pub first_page : Key → Option Name
  pub greatest_seen : ℕ
  pub first_lost : ℕ
  pub groups : List Group

-- what a ledger knows of numbers and contents, without where pages stand
abbrev pub book_of : Numbers → Ledger → Book
book_of n l = record {
  numbers = n;
  base = l.base;
  entries_before = l.entries_before;
  first_page = l.first_page;
  greatest_seen = l.greatest_seen;
  first_lost = l.first_lost;
  groups = l.groups;
}

-- what a translation layer knows of numbers and contents
abbrev pub book : Translation → Book
book t = book_of t.numbers t.ledger

-- the keys of the device
abbrev pub HasKey : Book → Key → Type 0
HasKey b k = IsKey (shape_of_numbers b.numbers) k

-- what the page of a name has; `entry_of` of a ledger reads the same
abbrev pub page_at : Book → Name → Option Entry
page_at b name =
    if nat_le name.number b.greatest_seen then b.entries_before name.number name.index
    else option_and_then (λ g. entry_in g name.index) (if nat_le name.number b.greatest_seen then None
    else slice_get b.groups (name.number - b.greatest_seen - 1))

-- the page of this number and index is known, with its key, its content and the size of its group
abbrev pub IsPageAt : Book → ℕ → ℕ → Entry → Type 0
IsPageAt b n i e = page_at b (record { number = n; index = i }) ≡ Some e

-- the number of the last group
abbrev pub last_number : Book → ℕ
last_number b = b.greatest_seen + length b.groups

-- the number is lost
pub record IsLostNumber (b : Book) (n : ℕ) : Type 0 where
  pub from : b.first_lost ≤ n
  pub to : n ≤ b.greatest_seen

-- a page with this tag and body is the one that its name has
abbrev pub IsKnown : Book → Tag → List ℕ → Type 0
IsKnown b t body = page_at b (name_of t) ≡ Some (record {
  item = record { key = key_of t; body = body };
  size = t.size;
})

-- a group of this life, at or under the bound, has the key
pub record IsWritten (b : Book) (k : Key) (bound : ℕ) : Type 0 where
  pub number : ℕ
  pub index : ℕ
  pub page : Entry
  pub is : IsPageAt b number index page
  pub key : page.item.key ≡ k
  pub new : b.greatest_seen < number
  pub within : number ≤ bound

-- a page of the key that is not lost has a number above n, at or under the bound
pub record IsOverwritten (b : Book) (n : ℕ) (k : Key) (bound : ℕ) : Type 0 where
  pub number : ℕ
  pub index : ℕ
  pub page : Entry
  pub is : IsPageAt b number index page
  pub key : page.item.key ≡ k
  pub newer : n < number
  pub within : number ≤ bound
  pub free : IsLostNumber b number → ⊥

-- Contents at the life's start

-- the last page below the lost numbers has the key's content
pub record BaseAt (b : Book) (k : Key) : Type 0 where
  pub number : ℕ
  pub index : ℕ
  pub size : ℕ
  pub is : b.entries_before number index ≡ Some (record { item = record { key = k; body = b.base k }; size = size })
  pub below : number < b.first_lost
  pub last : (n i : ℕ) (e : Entry) → b.entries_before n i ≡ Some e → e.item.key ≡ k → n < b.first_lost → n ≤ number

-- no page below the lost numbers is of the key
pub record BaseNone (b : Book) (k : Key) : Type 0 where
  pub none : (n i : ℕ) (e : Entry) → b.entries_before n i ≡ Some e → e.item.key ≡ k → n < b.first_lost → ⊥
  pub zeros : b.base k ≡ zero_block

-- the page is lost, or the last of its key below the lost numbers
abbrev pub IsLastOrLost : Book → Key → ℕ → Type 0
IsLastOrLost b k number =
    IsLostNumber b number
    ⊎ ((number < b.first_lost) × ((n i : ℕ) (e : Entry) → b.entries_before n i ≡ Some e → e.item.key ≡ k →
    n < b.first_lost → n ≤ number))

-- the name that a key began with
abbrev pub FirstRight : Book → Key → Option Name → Type 0
FirstRight b k None = (n i : ℕ) (e : Entry) → b.entries_before n i ≡ Some e → e.item.key ≡ k → n < b.first_lost → ⊥
FirstRight b k (Some name) =
    (e : Entry) × (b.entries_before name.number name.index ≡ Some e) × (e.item.key ≡ k) × IsLastOrLost b k name.number

-- What holds of the book

-- what holds of the book in every life: its keys are the device's, no group has a key twice, and the content of each
-- key at the start is that of its last page below the lost numbers, or zeros
pub record BookRight (b : Book) : Type 0 where
  -- a block has a page
  pub pages : 1 ≤ b.numbers.pages
  pub keys : (n i : ℕ) (e : Entry) → IsPageAt b n i e → HasKey b e.item.key
  -- no key stands twice in a group
  pub differ : (n i j : ℕ) (e f : Entry) → IsPageAt b n i e → IsPageAt b n j f → e.item.key ≡ f.item.key → i ≡ j
  -- a group of this life has a page
  pub some : (j : ℕ) (g : Group) → slice_get b.groups j ≡ Some g → 0 < length g
  pub old_within : (n i : ℕ) (e : Entry) → b.entries_before n i ≡ Some e → n ≤ b.greatest_seen
  pub first_lost : b.first_lost ≤ suc b.greatest_seen
  pub base : (k : Key) → HasKey b k → BaseAt b k ⊎ BaseNone b k
  pub first_page : (k : Key) → HasKey b k → FirstRight b k (b.first_page k)
  -- the page that a key began with has the content that the key had at the life's start
  pub first_content : (k : Key) (name : Name) → HasKey b k → b.first_page k ≡ Some name →
      (size : ℕ)
      × (b.entries_before name.number name.index ≡
      Some (record { item = record { key = k; body = b.base k }; size = size }))

-- the pages of a group that is wholly there have one size, and all indexes below it
pub record IsWholeOld (b : Book) (n : ℕ) : Type 0 where
  pub size : ℕ
  pub some : 0 < size
  pub one_size : (i : ℕ) (e : Entry) → b.entries_before n i ≡ Some e → e.size ≡ size
  pub each : (i : ℕ) → i < size → (e : Entry) × (b.entries_before n i ≡ Some e)

-- each group of earlier lives above the number is wholly there
abbrev pub AreWholeAbove : Book → ℕ → Type 0
AreWholeAbove b marked = (n : ℕ) → marked < n → n ≤ b.greatest_seen → IsWholeOld b n

-- Marks

-- the mark has no fence, and each key with a lost page is written in this life at or under what it records
pub record IsPlainMark (b : Book) (m : Mark) : Type 0 where
  pub none : m.fence ≡ None
  pub repaired : (n i : ℕ) (e : Entry) → IsLostNumber b n → b.entries_before n i ≡ Some e →
      IsWritten b e.item.key m.records

-- the mark's fence is what is lost
pub record IsFenceMark (b : Book) (m : Mark) : Type 0 where
  pub fence : Fence
  pub is : m.fence ≡ Some fence
  pub first : fence.first ≡ b.first_lost
  pub last : fence.last ≡ b.greatest_seen
  pub some : b.first_lost ≤ b.greatest_seen
  pub records : m.records ≡ b.greatest_seen
