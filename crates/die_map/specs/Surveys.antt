-- What a survey of all pages finds: the newest mark, and of each address the newest page that counts (this profile).
use Rattle.std.specs.Prelude.{◌≡◌, ℕ, ◌≤◌, ◌&&◌, nat_le, nat_lt, Bool, true, false, if◌then◌else◌, List, Option}
use Rattle.std.specs.Prelude.{Some, None}
use Rattle.std.specs.BTreeMap.{BTreeMap, get}
use Rattle.std.specs.Ordering.{is_eq, nat_cmp, ordering_then}
use Rattle.std.specs.declared.cmp.Ordering.{Ordering}
use Rattle.ufs_spec.specs.Cells.{AreWithin, Cell, Cells, GroupPage, IsCell, Mark, MarkPage, Nothing}
use Rattle.ufs_spec.specs.Dies.{DieState, IsOfSize, page_at}
use Rattle.ufs_spec.specs.declared.configs.Numbers.{Numbers}
use Rattle.ufs_spec.specs.declared.flash.Fence.{Fence}
use Rattle.ufs_spec.specs.declared.flash.Place.{Place}
use Rattle.ufs_spec.specs.declared.flash.Tag.{Tag}
use Rattle.recovery.specs.Reading.{AreRead, place_at}
use Rattle.die_map.specs.declared.survey.FoundMark.{FoundMark}
use Rattle.die_map.specs.declared.survey.Survey.{Survey}
use Rattle.die_map.specs.declared.survey.Written.{Written}

-- ## The newest mark

-- a mark that stands at the place, with its number and its fence, and no mark has a greater number; or none, and no
-- mark is there
abbrev pub IsMarkFound : Cells → Option FoundMark → Type 0
IsMarkFound c None = (p : Place) (m : Mark) → c p ≡ MarkPage m → ⊥
IsMarkFound c (Some f) =
    ((m : Mark) × (c f.place ≡ MarkPage m) × (f.number ≡ m.number) × (f.fence ≡ m.fence))
    × ((p : Place) (m : Mark) → c p ≡ MarkPage m → m.number ≤ f.number)

-- no mark is known with this number or a greater one
abbrev pub is_newer : Option FoundMark → ℕ → Bool
is_newer None number = true
is_newer (Some f) number = nat_lt f.number number

-- a mark more: the known one stays unless the new one has a greater number
abbrev pub newer_mark : Place → Mark → Option FoundMark → Option FoundMark
newer_mark p m f =
    if is_newer f m.number then Some (record { number = m.number; fence = m.fence; place = p }) else f

-- the newest mark once this page was read too: only a mark can change it
abbrev pub mark_after : Place → Cell → Option FoundMark → Option FoundMark
mark_after p Nothing f = f
mark_after p (GroupPage tag body) f = f
mark_after p (MarkPage m) f = newer_mark p m f

-- ## The newest pages

-- the kind, the unit or RPMB region, and the address of a page
abbrev pub Address : Type 0
Address = ℕ × ℕ × ℕ

-- the address that a page's tag names, whatever its number
abbrev pub address_of : Tag → Address
address_of t = (t.kind, t.unit, t.address)

-- by kind, then by unit, then by address
abbrev pub address_cmp : Address → Address → Ordering
address_cmp a b = ordering_then (ordering_then (nat_cmp a.0 b.0) (nat_cmp a.1 b.1)) (nat_cmp a.2 b.2)

-- both have the same kind, unit or RPMB region, and address
abbrev pub same_address : Address → Address → Bool
same_address a b = is_eq (address_cmp a b)

-- what a map has at an address
abbrev pub written_at : BTreeMap Address Written → Address → Option Written
written_at pages a = get address_cmp pages a

-- the number is within the fence
abbrev pub is_within : Option Fence → ℕ → Bool
is_within None number = false
is_within (Some f) number = nat_le f.first number && nat_le number f.last

-- the fence of the mark covers the number
abbrev pub is_fenced : Option FoundMark → ℕ → Bool
is_fenced None number = false
is_fenced (Some m) number = is_within m.fence number

-- a page of a group of this address stands at the place, with this number, and counts: the mark's fence does not cover
-- its number. No page of the address that counts has a greater number; or none counts
abbrev pub IsPageFound : Cells → Option FoundMark → Address → Option Written → Type 0
IsPageFound c mark a None =
    (p : Place) (t : Tag) (body : List ℕ) → c p ≡ GroupPage t body → address_of t ≡ a
    → is_fenced mark t.number ≡ true
IsPageFound c mark a (Some w) =
    ((t : Tag) × (body : List ℕ) × (c w.place ≡ GroupPage t body) × (address_of t ≡ a) × (w.number ≡ t.number)
    × (is_fenced mark t.number ≡ false))
    × ((p : Place) (t : Tag) (body : List ℕ) → c p ≡ GroupPage t body → address_of t ≡ a
    → is_fenced mark t.number ≡ false → t.number ≤ w.number)

-- of each address the survey has the newest page that counts, or none if none counts
abbrev pub ArePagesFound : Cells → Option FoundMark → (Address → Option Written) → Type 0
ArePagesFound c mark found = (a : Address) → IsPageFound c mark a (found a)

-- no page is known with this number or a greater one
abbrev pub is_newer_page : Option Written → ℕ → Bool
is_newer_page None number = true
is_newer_page (Some w) number = nat_lt w.number number

-- a page of a group more: at its address it is the newest one if no known one has its number or a greater one
abbrev pub with_page : Place → Tag → (Address → Option Written) → Address → Option Written
with_page p t found a =
    if same_address (address_of t) a && is_newer_page (found (address_of t)) t.number
    then Some (record { number = t.number; place = p })
    else found a

-- the newest pages once this page was read too: only a page of a group that counts can change them
abbrev pub pages_after : Place → Cell → Option FoundMark → (Address → Option Written) → Address → Option Written
pages_after p Nothing mark found a = found a
pages_after p (MarkPage m) mark found a = found a
pages_after p (GroupPage t body) mark found a =
    if is_fenced mark t.number then found a else with_page p t found a

-- ## What a survey found

-- the newest mark, and of each address the newest page that counts
pub record IsSurvey (c : Cells) (s : Survey) : Type 0 where
  pub mark : IsMarkFound c s.mark
  pub pages : ArePagesFound c s.mark (written_at s.newest)

-- ## While the pages are read

-- a fact of the cells of the pages before this one
pub record IsReadTo (R : Cells → Type 0) (die block page : ℕ) (c : Cells) : Type 0 where
  pub seen : Cells
  pub are_read : AreRead die block page c seen
  pub so : R seen

-- the die has this number and these sizes, and its pages are these cells
pub record IsDieShown (n : Numbers) (c : Cells) (number : ℕ) (d : DieState) : Type 0 where
  pub size : IsOfSize n.blocks n.pages d
  pub within : AreWithin n c
  pub shown : (block page : ℕ) → IsCell (page_at d block page) (c (place_at number block page))
