-- What is right of single parts of a translation layer, said of the layer.
use Rattle.power_loss.proofs.Common.{ℕ, List, Option, Cells, Mark, CellCrash, Mending, Translation, Fence, Key, book}
use Rattle.power_loss.proofs.Common.{IsOwnMark, IsSecure, MarksRight, MendingRight, Name, Place, Looked, Source}
use Rattle.power_loss.proofs.Common.{IsGroupPage, IsNeededPage, LookedRight, SourceRight}
use Rattle.power_loss.specs.Invariant.{UnmarkedRight}

-- this is its newest finished mark, and its marks are right
abbrev pub MarksOf : Translation → Mark → Type 0
MarksOf t newest = MarksRight (book t) t.ledger.frontier t.ledger.marks t.disk.cells t.disk.finished t.disk.blocks
    t.disk.erasing t.disk.flights newest

-- its first mark is due, with this fence for these keys
abbrev pub UnmarkedOf : Translation → Option Fence → List Key → Type 0
UnmarkedOf t fence lost = UnmarkedRight (book t) t.ledger.frontier t.ledger.marks t.ledger.newest t.disk.cells
    t.disk.finished t.disk.blocks t.disk.erasing t.disk.flights t.work.plan fence lost

-- the mark is one of those that it writes first
abbrev pub OwnMarkOf : Translation → Option Fence → Mark → Type 0
OwnMarkOf t fence m = IsOwnMark (book t) t.ledger.newest t.ledger.marks fence m

-- it is mended so far
abbrev pub MendingOf : Translation → Mending → Type 0
MendingOf t w = MendingRight (book t) t.disk t.ledger t.work.plan t.work.step w

-- the page of this name stands securely
abbrev pub SecureOf : Translation → ℕ → ℕ → Type 0
SecureOf t n i = IsSecure t.ledger.standing t.disk.cells t.disk.finished t.disk.blocks t.disk.erasing n i

-- a stop may leave these cells of it
abbrev pub StopLeaves : Translation → Cells → Type 0
StopLeaves t c = CellCrash t.disk.cells t.disk.flights c

-- the finished page of the name is there
abbrev pub PageOf : Translation → Name → Place → Type 0
PageOf t name place = IsGroupPage t.disk.cells t.disk.finished t.disk.erasing name place

-- and in a block that is not free
abbrev pub NeededOf : Translation → Place → Type 0
NeededOf t place = IsNeededPage t.disk.cells t.disk.finished t.disk.blocks t.disk.erasing place

-- what was looked up is there
abbrev pub LookedOf : Translation → Looked → Type 0
LookedOf t looked = LookedRight (book t) t.ledger.frontier t.disk.cells t.disk.finished t.disk.erasing looked

-- and so is what the rest of another is read from
abbrev pub SourceOf : Translation → Source → Type 0
SourceOf t source = SourceRight t.disk.cells t.disk.finished t.disk.erasing source
