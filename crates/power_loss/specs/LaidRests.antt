-- What the page of a group is laid over that a command has only in part, until its rest is read: the content that its
-- key had below the group. So the parts of the groups that wait for one read, laid over what is read one after another,
-- give each group's own content.
use Rattle.std.specs.Prelude.{◌≡◌, ℕ, ◌-◌, ◌<◌, ◌≤◌, Bool, false, true, Contains, List, [], Option, Some, None, take}
use Rattle.ufs_spec.specs.Cells.{Cells, GroupPage, key_of}
use Rattle.ufs_spec.specs.Disk.{Programming}
use Rattle.ufs_spec.specs.Keys.{Contents, put_groups}
use Rattle.ufs_spec.specs.Ledger.{Entry}
use Rattle.ufs_spec.specs.Moves.{is_kind_of}
use Rattle.ufs_spec.specs.Translation.{FromPage, FromSlot, Rest, Source, Step, Translation, awaited_read, is_in_part}
use Rattle.ufs_spec.specs.Translation.{is_mended, name_of}
use Rattle.ufs_spec.specs.declared.flash.Key.{Key}
use Rattle.ufs_spec.specs.declared.flash.Place.{Place}
use Rattle.ufs_spec.specs.declared.flash.Tag.{Tag}
use Rattle.ufs_spec.specs.declared.layer.Name.{Name}
use Rattle.power_loss.specs.Book.{Book, IsPageAt, book}
use Rattle.power_loss.specs.Invariant.{Flights, Standing}

-- the contents below the group with the number: those of the life's start, after the groups before it
abbrev pub contents_below : Book → ℕ → Contents
contents_below b n = put_groups b.base (take (n - b.greatest_seen - 1) b.groups)

-- the rest of the other name is there, is read from a page, and is of an older page of the key
pub record IsOfFirst (b : Book) (rests : List Rest) (name other : Name) (k : Key) : Type 0 where
  pub first : Rest
  pub there : Contains rests first
  pub name_is : first.name ≡ other
  pub place : Place
  pub read : first.source ≡ FromPage place
  pub entry : Entry
  pub page : IsPageAt b other.number other.index entry
  pub key : entry.item.key ≡ k
  pub older : other.number < name.number

-- the page that is read has the key's content below the group; a slot is that of the first rest, which reads one
abbrev pub SourceLaid : Book → Cells → List Rest → Name → Key → Source → Type 0
SourceLaid b cells rests name k (FromPage place) =
    (tag : Tag) (body : List ℕ) → cells place ≡ GroupPage tag body →
    (key_of tag ≡ k) × (body ≡ contents_below b name.number k)
SourceLaid b cells rests name k (FromSlot other) = IsOfFirst b rests name other k

-- a rest for the page of this name is there that waits for this read
pub record WaitsFor (rests : List Rest) (read : Name) (n i : ℕ) : Type 0 where
  pub rest : Rest
  pub there : Contains rests rest
  pub number : rest.name.number ≡ n
  pub index : rest.name.index ≡ i
  pub awaits : awaited_read rest ≡ read

-- no die programs the page of the name
abbrev pub IsUnflown : Flights → Name → Type 0
IsUnflown flights name = (die : ℕ) (p : Place) (tag : Tag) (body : List ℕ) →
    flights die ≡ Some (Programming p (GroupPage tag body)) → name_of tag ≡ name → ⊥

-- the step under way neither copies nor repairs the page of the name
abbrev pub IsUnstepped : Option Step → Name → Type 0
IsUnstepped step name = (s : Step) → step ≡ Some s → is_kind_of name s.kind ≡ false

-- a rest is of a page that a command has in part, which is programmed nowhere, neither by a die nor by the step under
-- way; it is laid over its source; and each page of its key in a later group waits for the same read
pub record RestLaid (b : Book) (standing : Standing) (flights : Flights) (step : Option Step) (cells : Cells)
    (rests : List Rest) (rest : Rest) : Type 0 where
  pub entry : Entry
  pub is : IsPageAt b rest.name.number rest.name.index entry
  pub in_part : is_in_part entry.item.key ≡ true
  pub nowhere : standing rest.name.number rest.name.index ≡ None
  pub unflown : IsUnflown flights rest.name
  pub unstepped : IsUnstepped step rest.name
  pub laid : SourceLaid b cells rests rest.name entry.item.key rest.source
  pub later : (n i : ℕ) (e : Entry) → rest.name.number ≤ n → IsPageAt b n i e → e.item.key ≡ entry.item.key →
      WaitsFor rests (awaited_read rest) n i

-- each rest is so, rests of one name wait for one read, and until the device is mended there is none
pub record RestsLaidOf (b : Book) (mended : Bool) (standing : Standing) (flights : Flights) (step : Option Step)
    (cells : Cells) (rests : List Rest) : Type 0 where
  pub each : (rest : Rest) → Contains rests rest → RestLaid b standing flights step cells rests rest
  pub one_read : (r s : Rest) → Contains rests r → Contains rests s → r.name ≡ s.name → awaited_read r ≡ awaited_read s
  pub unmended : mended ≡ false → rests ≡ []

-- the rests of a translation layer are so
abbrev pub RestsLaid : Translation → Type 0
RestsLaid t = RestsLaidOf (book t) (is_mended t.work.mending) t.ledger.standing t.disk.flights t.work.step t.disk.cells
    t.work.rests

-- the page there is of the key, and has the content that the key had below the group
pub record HoldsBelow (b : Book) (cells : Cells) (name : Name) (k : Key) (place : Place) : Type 0 where
  pub tag : Tag
  pub body : List ℕ
  pub there : cells place ≡ GroupPage tag body
  pub key : key_of tag ≡ k
  pub body_is : body ≡ contents_below b name.number k

-- no rest that waits for the read is of a group between the two numbers
abbrev pub NoneBetween : List Rest → Name → ℕ → ℕ → Type 0
NoneBetween rests read low high = (rest : Rest) → Contains rests rest → awaited_read rest ≡ read →
    low < rest.name.number → rest.name.number < high → ⊥
