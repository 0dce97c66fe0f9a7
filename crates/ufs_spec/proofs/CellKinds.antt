-- A cell is of one kind, and so is a flight: nothing, a group's page or a mark; a read, a program or an erase.
use Rattle.std.proofs.Common.{◌≡◌, ◌≢◌, ℕ, Bool, List, Option, Some}
use Rattle.ufs_spec.specs.Cells.{Cell, GroupPage, Mark, MarkPage, Nothing}
use Rattle.ufs_spec.specs.Disk.{Erasing, Flight, Programming, Reading, Spot}
use Rattle.ufs_spec.specs.Moves.{without_reader}
use Rattle.ufs_spec.specs.declared.flash.Place.{Place}
use Rattle.ufs_spec.specs.declared.flash.Tag.{Tag}
use Rattle.ufs_spec.specs.declared.layer.Reader.{Reader}

-- Cells

pub page_not_nothing : (x : Cell) (tag : Tag) (body : List ℕ) → x ≡ GroupPage tag body → x ≢ Nothing
page_not_nothing x tag body e h = cc

pub mark_not_nothing : (x : Cell) (m : Mark) → x ≡ MarkPage m → x ≢ Nothing
mark_not_nothing x m e h = cc

pub page_not_mark : (x : Cell) (tag : Tag) (body : List ℕ) (m : Mark) → x ≡ GroupPage tag body → x ≢ MarkPage m
page_not_mark x tag body m e h = cc

pub one_mark : (m n : Mark) → MarkPage m ≡ MarkPage n → m ≡ n
one_mark m n e = cc

pub one_page : (t u : Tag) (a b : List ℕ) → GroupPage t a ≡ GroupPage u b → (t ≡ u) × (a ≡ b)
one_page t u a b e = (cc, cc)

-- Flights that go on though a reader no longer waits

pub program_unread : (reads : Reader → Bool) (o : Option Flight) (p : Place) (x : Cell) →
    without_reader reads o ≡ Some (Programming p x) → o ≡ Some (Programming p x)
program_unread reads (Some (Reading reader q)) p x h = cc
program_unread reads o p x h = h

pub erase_unread : (reads : Reader → Bool) (o : Option Flight) (s : Spot) → without_reader reads o ≡ Some (Erasing s) →
    o ≡ Some (Erasing s)
erase_unread reads (Some (Reading reader q)) s h = cc
erase_unread reads o s h = h
