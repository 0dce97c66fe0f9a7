-- What pages open to. A page counts as a page of a group, or as a mark, if it is sealed with a tag, in
-- either version, and its data keep the rules of its kind. Any other page, a blank one and a torn one
-- too, is nothing (this profile).
use Rattle.std.specs.Prelude.{◌≡◌, ◌≢◌, ℕ, ◌<◌, ◌≤◌, ◌^◌, ◌==◌, ◌&&◌, Bool, List, All, length, Option, Some}
use Rattle.ufs_spec.specs.Keys.{IsBlock, IsSettingsBody}
use Rattle.ufs_spec.specs.Pages.{IsSealedAs, IsTag, mark_bytes}
use Rattle.ufs_spec.specs.Plain.{regions}
use Rattle.ufs_spec.specs.declared.configs.Numbers.{Numbers}
use Rattle.ufs_spec.specs.declared.configs.UnitSpec.{UnitSpec}
use Rattle.ufs_spec.specs.declared.flash.Fence.{Fence}
use Rattle.ufs_spec.specs.declared.flash.Key.{Key}
use Rattle.ufs_spec.specs.declared.flash.Page.{Page}
use Rattle.ufs_spec.specs.declared.flash.Place.{Place}
use Rattle.ufs_spec.specs.declared.flash.Tag.{Tag}

-- Marks

-- what a mark says: its number among marks, the frontier that it records, its fence, if
-- it has one, and the configuration
pub record Mark : Type 0 where
  pub number : ℕ
  pub records : ℕ
  pub fence : Option Fence
  pub numbers : Numbers

-- the tag of a mark's page: the only page of its group, with the frontier that the mark records
abbrev pub mark_tag : Mark → Tag
mark_tag m = record { kind = 4; unit = 0; address = 0; number = m.number; index = 0; size = 1; frontier = m.records }

-- a fence is a range that is not empty and whose numbers fit 64 bits. Its first number may be 0, its last one may
-- not, since both 0 say in a mark that there is no fence
pub record IsFence (f : Fence) : Type 0 where
  pub ordered : f.first ≤ f.last
  pub some : 0 < f.last
  pub fits : f.last < 2 ^ 64

-- the numbers of a unit fit their places in a mark; what a configuration may have is narrower
pub record UnitFits (u : UnitSpec) : Type 0 where
  pub blocks : u.blocks < 2 ^ 32
  pub boot : u.boot < 2 ^ 8
  pub protect : u.protect < 2 ^ 8

-- the numbers fit their places in a mark; what a configuration may have is narrower
pub record NumbersFit (n : Numbers) : Type 0 where
  pub dies : n.dies < 2 ^ 8
  pub blocks : n.blocks < 2 ^ 16
  pub pages : n.pages < 2 ^ 16
  pub units : length n.units.items ≤ 8
  pub each_unit : All UnitFits n.units.items
  pub regions : length n.rpmb ≡ regions
  pub rpmb : All (λ steps. steps < 2 ^ 8) n.rpmb
  pub slots : n.slots < 2 ^ 16
  pub spare : n.spare < 2 ^ 16
  -- what no mark holds
  pub profile : n.profile ≡ 0
  pub serial : n.serial ≡ 1

-- the body is that of a mark with this fence and these numbers
pub record IsMarkBody (fence : Option Fence) (n : Numbers) (body : List ℕ) : Type 0 where
  pub fence_right : (f : Fence) → fence ≡ Some f → IsFence f
  pub numbers_fit : NumbersFit n
  pub bytes : body ≡ mark_bytes n fence

-- Opening a page

-- the page is sealed with this tag and this body. A blank page opens to nothing, and so does a torn one,
-- by the premise on checks (`MayBeLeft`)
pub record Opens (page : Page) (tag : Tag) (body : List ℕ) : Type 0 where
  pub tag_right : IsTag tag
  pub body_right : IsBlock body
  pub sealed : IsSealedAs page tag body

-- the data of a settings page are settings in their ranges, and those of a mark are a
-- mark's; other data are any bytes
pub record DataHold (tag : Tag) (body : List ℕ) : Type 0 where
  pub settings : tag.kind ≡ 3 → IsSettingsBody body
  pub mark : tag.kind ≡ 4 → (fence : Option Fence) × (n : Numbers) × IsMarkBody fence n body

-- what a page is
pub data Cell : Type 0 where
  -- no page of the device: blank, torn, or not written by it
  Nothing : Cell
  -- a page of a group, with its tag and its data
  GroupPage : (tag : Tag) → (body : List ℕ) → Cell
  -- a mark
  MarkPage : (mark : Mark) → Cell

-- what a page is, read off its bytes: each page is one cell and no other. A page that opens and whose data break
-- the rule of its kind is `Nothing`; a device never writes one
abbrev pub IsCell : Page → Cell → Type 0
IsCell page Nothing = (tag : Tag) (body : List ℕ) → Opens page tag body → DataHold tag body → ⊥
IsCell page (GroupPage tag body) = Opens page tag body × DataHold tag body × (tag.kind ≢ 4)
IsCell page (MarkPage m) =
    (body : List ℕ) × Opens page (mark_tag m) body × IsMarkBody m.fence m.numbers body

-- the key whose content a group's page holds
abbrev pub key_of : Tag → Key
key_of t = record { kind = t.kind; unit = t.unit; address = t.address }

-- Arrays

-- the page at each place, that is die, block and page, of all dies
abbrev pub Array : Type 0
Array = Place → Page

-- the cell at each place: from here on most is said of cells, not of bytes
abbrev pub Cells : Type 0
Cells = Place → Cell

-- these are the cells of that array, place by place
abbrev pub Shows : Array → Cells → Type 0
Shows array cells = (p : Place) → IsCell (array p) (cells p)

-- compares two places by die, block and page
abbrev pub same_place : Place → Place → Bool
same_place p q = (p.die == q.die) && (p.block == q.block) && (p.page == q.page)

-- the place lies on the dies that these numbers give
pub record IsPlace (n : Numbers) (p : Place) : Type 0 where
  pub die : p.die < n.dies
  pub block : p.block < n.blocks
  pub page : p.page < n.pages

-- every cell outside the dies is `Nothing`
abbrev pub AreWithin : Numbers → Cells → Type 0
AreWithin n c = (p : Place) → (IsPlace n p → ⊥) → c p ≡ Nothing
