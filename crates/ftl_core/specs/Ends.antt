-- How a group moves on until it is durable, as the code does it. Describes says what that means.
use Rattle.std.specs.Prelude.{ℕ, zero, suc, ◌+◌, ◌==◌, if◌then◌else◌, min, nat_le, not, List, filter, find, fold}
use Rattle.std.specs.Prelude.{length, drop, map, slice_get, take, Option, Some, None, true}
use Rattle.ufs_spec.specs.declared.flash.Key.{Key}
use Rattle.ufs_spec.specs.declared.flash.Place.{Place}
use Rattle.ufs_spec.specs.declared.flash.Tag.{Tag}
use Rattle.block_table.specs.Blocks.{freed_state}
use Rattle.block_table.specs.Lives.{with_live}
use Rattle.collector.specs.Plans.{Collection}
use Rattle.ufs_spec.specs.Disk.{Spot}
use Rattle.unit_map.specs.declared.Stored.{Stored}
use Rattle.block_table.specs.declared.rows.DieRow.{DieRow}
use Rattle.write_cache.specs.declared.slots.Landed.{Landed}
use Rattle.write_cache.specs.declared.slots.Pending.{Pending}
use Rattle.ftl_core.specs.declared.books.Mending.{Mending}
use Rattle.ftl_core.specs.declared.books.Mending.TheVariants as mending
use Rattle.ftl_core.specs.declared.books.Step.{Step}
use Rattle.ftl_core.specs.declared.books.Step.TheVariants as step
use Rattle.unit_map.specs.Places.{places_noted, position_of}
use Rattle.write_cache.specs.Slots.{is_named, is_of_group, whole_group, page_written as page_at_written}
use Rattle.ftl_core.specs.Core.{Core}
use Rattle.ftl_core.specs.KnownLive.{live_moved, page_moved}
use Rattle.ftl_core.specs.Moves.{mark_ordered, page_written, state_of, stored_of, went_bad, with_state}
use Rattle.readers.specs.Pins.{moved_pin}

-- Groups

-- the page with this number and index is written there, if it is pending, and it is live
abbrev pub pending_written : Core → ℕ → ℕ → Place → Core
pending_written c number index place =
    record c { pages = page_at_written c.pages number index place; live = with_live c.live place true }

-- the number of the first pending group, if all its pages are written
abbrev pub front_written : Core → Option ℕ
front_written c = whole_group c.pages (slice_get c.pages 0)

-- the durable content of the address stands there, and its page is live in the place of the one where it stood
abbrev pub noted : Core → Key → Stored → Core
noted c k s =
    record c {
      places = places_noted c.places s (position_of c.numbers k);
      live = live_moved c.live (stored_of c k) s.place;
    }

-- who keeps the slot of the page keeps its place
abbrev pub pins_moved : Core → Stored → Core
pins_moved c s = record c { pins = map (moved_pin s) c.pins }

-- the page of a group with this number and index, which stands there
abbrev pub page_at : ℕ → ℕ → Place → Stored
page_at n i p = record { name = record { number = n; index = i }; place = p }

-- the page is durable: its address reads from where it is written, and so does who keeps its slot
abbrev pub page_durable_at : Core → Pending → Option Place → Core
page_durable_at c p None = c
page_durable_at c p (Some place) =
    pins_moved (noted c p.key (page_at p.number p.index place)) (page_at p.number p.index place)

-- the group of a written page is durable, so its key reads from where the page is written
abbrev pub page_durable : Core → Pending → Core
page_durable c p = page_durable_at c p p.written

-- a page that left its slot is durable: its key reads from where it is written, and so does who kept its slot
abbrev pub landed_at : Core → Landed → Option Place → Core
landed_at c p None = c
landed_at c p (Some place) =
    pins_moved (noted c p.key (page_at p.number p.index place)) (page_at p.number p.index place)

-- a page whose slot is free by now is durable: its key reads from where the page is written
abbrev pub page_landed : Core → Landed → Core
page_landed c p = landed_at c p p.written

-- so many pages at the front are durable, in order, and pending no more
abbrev pub pages_landed : Core → ℕ → Core
pages_landed c n = record (fold page_durable c (take n c.pages)) { pages = drop n c.pages }

-- the number behind the frontier, if it was given
abbrev pub risen : Core → ℕ
risen c = min (c.frontier + 1) c.last

-- the group with this number is durable, each of its pages in order, and pending no more
abbrev pub group_durable : Core → ℕ → Core
group_durable c number =
    record (fold page_durable c (filter (is_of_group number) c.pages)) {
      pages = filter (λ p. not (is_of_group number p)) c.pages;
      frontier = risen c;
    }

-- so many groups at most become durable, each only while it is wholly written and the first
unfoldable pub settled_by : ℕ → Core → Core
settled_by zero c = c
settled_by (suc n) c =
    elim (front_written c) as (λ number. Core) [
      | None ↦ c
      | Some number ↦ settled_by n (group_durable c number)
    ]

-- every group at the front that is wholly written is durable
abbrev pub settled : Core → Core
settled c = settled_by (length c.pages) c

-- The step under way

-- a mark with a fence is followed by the repairs; one without ends the mending
abbrev pub mending_after : Mending → Mending
mending_after (mending.Unmarked (Some fence)) = mending.Repairing
mending_after m = mending.Mended

-- the mark is finished: no step is under way, and the mending goes on behind it
abbrev pub mark_over : Core → Core
mark_over c = record c { step = None; mending = mending_after c.mending }

-- the block of a collection is free behind its mark and to be erased, unless it is bad
abbrev pub block_freed : Core → Spot → Core
block_freed c s = with_state c s.die s.block (freed_state (state_of c s.die s.block))

-- the begun collection, if there is one, is over, and its block is free and to be erased unless it is bad
abbrev pub plan_freed : Core → Option Collection → Core
plan_freed c None = c
plan_freed c (Some p) = record (block_freed c p.victim) { plan = None }

-- the collection that is begun, if one is, is over
abbrev pub plan_over : Core → Core
plan_over c = plan_freed c c.plan

-- the repair is durable: its key reads from this place
abbrev pub repair_over : Core → Key → Place → Core
repair_over c k p =
    noted (record c { step = None; frontier = risen c }) k (page_at (risen c) 0 p)

-- the index of a copy, by the tag of the page that was read
abbrev pub index_in : Option Tag → ℕ
index_in None = 0
index_in (Some t) = t.index

-- the key reads from the copy of its page, if no newer page of it is durable
abbrev pub copy_durable : Core → ℕ → Key → Place → Option Stored → Core
copy_durable c n k p None = c
copy_durable c n k p (Some s) = if s.name.number == n then noted c k (record s { place = p }) else c

-- the page of a pending group is written where its copy is
abbrev pub copy_pending : Core → ℕ → ℕ → Place → Option Pending → Core
copy_pending c n i p None = c
copy_pending c n i p (Some q) =
    record c { pages = page_at_written c.pages n i p; live = page_moved c.live q.written p }

-- the copy of a page stands there
abbrev pub copy_stands : Core → ℕ → Key → ℕ → Place → Core
copy_stands c n k i p =
    if nat_le n c.frontier
    then copy_durable c n k p (stored_of c k)
    else copy_pending c n i p (find (is_named n i) c.pages)

-- the copy is finished: no step is under way, and whatever stood on the old page stands on the copy
abbrev pub copy_over : Core → ℕ → Key → ℕ → Place → Core
copy_over c n k i p = copy_stands (record c { step = None }) n k i p

-- a page of the step that is under way is written, and the step is over
abbrev pub step_over : Core → Option Step → ℕ → DieRow → Place → Core
step_over c None die b p = page_written c die b b.filling
step_over c (Some (step.Mark n fence)) die b p = plan_over (page_written (mark_over c) die b b.filling)
step_over c (Some (step.Repair n k from there)) die b p = page_written (repair_over c k p) die b b.filling
step_over c (Some (step.Copy n k from tag)) die b p =
    settled (page_written (copy_over c n k (index_in tag) p) die b b.filling)

-- the page of the step under way was programmed at this place
abbrev pub step_written : Core → ℕ → DieRow → Place → Core
step_written c die b p = step_over c c.step die b p

-- in place of a failed mark waits one with the next number and the same fence; a failed repair or copy waits again by
-- itself
abbrev pub step_again : Core → Option Step → Core
step_again c (Some (step.Mark n fence)) = mark_ordered c fence
step_again c (Some (step.Repair n k from there)) = c
step_again c (Some (step.Copy n k from tag)) = c
step_again c None = c

-- the program of the step's page failed: its block is bad, and the step waits again
abbrev pub step_failed : Core → ℕ → Place → Core
step_failed c die p = went_bad (step_again c c.step) die p.block

-- the content of the step is there, which was read from a page with this tag
abbrev pub step_there : Option Tag → Option Step → Option Step
step_there tag (Some (step.Repair n k from there)) = Some (step.Repair n k from true)
step_there tag (Some (step.Copy n k from before)) = Some (step.Copy n k from tag)
step_there tag (Some (step.Mark n fence)) = Some (step.Mark n fence)
step_there tag None = None

-- the step under way has the content that was read; if the read gave none, it is still to be read
abbrev pub with_content : Core → Option Tag → Option (List ℕ) → Core
with_content c tag None = c
with_content c tag (Some body) = record c { content = body; step = step_there tag c.step }
