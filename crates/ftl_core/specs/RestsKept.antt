-- How the pending pages that wait for their rests describe those of the translation layer as it is specified.
use Rattle.std.specs.Prelude.{◌≡◌, ℕ, List, filter, filter_map, Contains, Option, Some, option_map}
use Rattle.ufs_spec.specs.Cells.{Cells, GroupPage}
use Rattle.ufs_spec.specs.Disk as disk
use Rattle.ufs_spec.specs.Ledger.{Entry}
use Rattle.ufs_spec.specs.Translation.{FromPage, FromSlot, Source, Translation}
use Rattle.ufs_spec.specs.Translation as layer
use Rattle.ufs_spec.specs.declared.flash.Place.{Place}
use Rattle.ufs_spec.specs.declared.flash.Tag.{Tag}
use Rattle.ufs_spec.specs.declared.layer.Looked.{Looked}
use Rattle.ufs_spec.specs.declared.layer.Looked.TheVariants.{OnPage}
use Rattle.ufs_spec.specs.declared.layer.Name.{Name}
use Rattle.ufs_spec.specs.declared.layer.Reader.TheVariants.{ForRest}
use Rattle.power_loss.specs.Book.{Book, IsPageAt, book}
use Rattle.power_loss.specs.LaidRests.{RestsLaid, contents_below}
use Rattle.write_cache.specs.declared.rests.OwedSource.{OwedSource}
use Rattle.write_cache.specs.declared.rests.OwedSource.TheVariants as owed
use Rattle.write_cache.specs.declared.rests.Rest.{Rest}
use Rattle.write_cache.specs.declared.slots.Pending.{Pending}
use Rattle.ftl_core.specs.Rests.{own_name, part_of, waits, with_part_of}
use Rattle.ftl_core.specs.Pinned.{look_of_source}

-- where a rest comes from
abbrev pub source_kept : OwedSource → Source
source_kept (owed.Page name place) = FromPage place
source_kept (owed.Slot name) = FromSlot name

-- the rest that the page of this name waits for, if it waits for one
abbrev pub rest_of_name : Name → Option Rest → Option layer.Rest
rest_of_name name rest = option_map (λ (r : Rest). record { name = name; source = source_kept r.source }) rest

-- the rest that a pending page waits for, if it waits for one
abbrev pub rest_kept : Pending → Option layer.Rest
rest_kept p = rest_of_name (own_name p) p.rest

-- the pending pages that wait for their rests, in their order
abbrev pub waiting : List Pending → List Pending
waiting ps = filter waits ps

-- the own part of the page, laid over what its key has below its group, is what the page has
pub record IsLaid (b : Book) (p : Pending) (rest : Rest) : Type 0 where
  pub entry : Entry
  pub is : IsPageAt b p.number p.index entry
  pub key : entry.item.key ≡ p.key
  pub body : entry.item.body ≡ with_part_of rest.part (part_of rest.part p.body) (contents_below b p.number p.key)

-- if a group's page is at the place that is looked at, it has the number of the name
abbrev pub IsNumbered : Cells → Looked → Type 0
IsNumbered cells (OnPage name place) = (tag : Tag) (body : List ℕ) → cells place ≡ GroupPage tag body →
    tag.number ≡ name.number
IsNumbered cells looked = Unit {0}

-- a pending page that waits for this rest is laid so, and the page that it is read from has its number
pub record RestKept (b : Book) (cells : Cells) (p : Pending) (rest : Rest) : Type 0 where
  pub laid : IsLaid b p rest
  pub numbered : IsNumbered cells (look_of_source rest.source)

-- a read in flight for a rest is of a rest that is owed, from that page
abbrev pub RestReadsKept : (ℕ → Option disk.Flight) → List layer.Rest → Type 0
RestReadsKept flights rests =
    (die number index : ℕ) (place : Place) → flights die ≡ Some (disk.Reading (ForRest number index) place) →
    Contains rests (record { name = record { number = number; index = index }; source = FromPage place })

-- the rests of the layer are those that these pages wait for, in the same order, and they are laid over their pages
pub record RestsKept (t : Translation) (owed : List Pending) : Type 0 where
  pub are : t.work.rests ≡ filter_map rest_kept owed
  pub laid : RestsLaid t
  pub each : (p : Pending) (rest : Rest) → Contains owed p → p.rest ≡ Some rest → RestKept (book t) t.disk.cells p rest
  pub reads : RestReadsKept t.disk.flights t.work.rests
