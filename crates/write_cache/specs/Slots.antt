-- What a slot holds, and what the calls of the write cache make of it.
use Rattle.std.specs.Prelude.{Bool, List, None, Option, Some, [], false, filter, if◌then◌else◌, is_none, length, map}
use Rattle.std.specs.Prelude.{min, nat_le, nat_lt, not, option_and_then, option_map, position, reverse, slice_get}
use Rattle.std.specs.Prelude.{slice_set, ℕ, ◌&&◌, ◌++◌, ◌+◌, ◌-◌, ◌==◌, ◌∷◌}
use Rattle.std.specs.List.{list_any}
use Rattle.ufs_spec.specs.Pages.{greatest_number}
use Rattle.ufs_spec.specs.Cells.{same_place}
use Rattle.ufs_spec.specs.Keys.{below, same_key}
use Rattle.ufs_spec.specs.Plain.{zero_block}
use Rattle.ufs_spec.specs.declared.flash.Key.{Key}
use Rattle.ufs_spec.specs.declared.flash.Place.{Place}
use Rattle.write_cache.specs.declared.slots.Claimed.{Claimed}
use Rattle.write_cache.specs.declared.slots.Landed.{Landed}
use Rattle.write_cache.specs.declared.slots.Pending.{Pending}
use Rattle.write_cache.specs.Kept.{WriteCache}

-- Room and numbers

-- the slots that neither a page of a pending group nor a claim holds
abbrev pub free_slots : WriteCache → ℕ
free_slots c = c.slots - length c.pages - length c.claims

-- a number is left
abbrev pub has_number : WriteCache → Bool
has_number c = nat_lt c.last greatest_number

-- the number behind the frontier, if it was given
abbrev pub risen : WriteCache → ℕ
risen c = min (c.frontier + 1) c.last

-- Pages

-- the pending page is of this key
abbrev pub is_page_of : Key → Pending → Bool
is_page_of k p = same_key p.key k

-- the position of the last page of a pending group that is of the address
abbrev pub last_of : Key → List Pending → Option ℕ
last_of k ps = option_map (λ behind. length ps - 1 - behind) (position (is_page_of k) (reverse ps))

-- the last page of a pending group that is of the address, so the newest content that is not durable
abbrev pub last_page : Key → List Pending → Option Pending
last_page k ps = option_and_then (slice_get ps) (last_of k ps)

-- the pending page is that of this number and index
abbrev pub is_named : ℕ → ℕ → Pending → Bool
is_named number index p = (p.number == number) && (p.index == index)

-- the pending page is of the group with this number
abbrev pub is_of_group : ℕ → Pending → Bool
is_of_group number p = p.number == number

-- the page is written, and at this place
abbrev pub is_at : Place → Option Place → Bool
is_at place None = false
is_at place (Some written) = same_place written place

-- the page is written at this place
abbrev pub is_there : Place → Pending → Bool
is_there place p = is_at place p.written

-- the page at this position is written there
abbrev pub written_at : List Pending → ℕ → Place → Option Pending → List Pending
written_at ps k place None = ps
written_at ps k place (Some p) = slice_set ps k (record p { written = Some place })

-- the page at the position that was found is written there; if none was found all stay
abbrev pub written_if : List Pending → Place → Option ℕ → List Pending
written_if ps place None = ps
written_if ps place (Some k) = written_at ps k place (slice_get ps k)

-- the page with this number and index is written there, if it is pending
abbrev pub page_written : List Pending → (number index : ℕ) → Place → List Pending
page_written ps number index place = written_if ps place (position (is_named number index) ps)

-- a page of this group is not written yet
abbrev pub is_unwritten : ℕ → Pending → Bool
is_unwritten number p = is_of_group number p && is_none p.written

-- the number of the page's group, if no page of this group is still to be written
abbrev pub whole_group : List Pending → Option Pending → Option ℕ
whole_group ps None = None
whole_group ps (Some p) = if list_any (is_unwritten p.number) ps then None else Some p.number

-- the number of the first pending group, if all its pages are written
abbrev pub front_written : List Pending → Option ℕ
front_written ps = whole_group ps (slice_get ps 0)

-- where a page is, once its slot is free
abbrev pub landed : Pending → Landed
landed p = record { key = p.key; number = p.number; index = p.index; written = p.written }

-- Claims

-- the reader has claimed this slot
abbrev pub is_claim_of : ℕ → Claimed → Bool
is_claim_of reader claim = claim.reader == reader

-- the slots that the reader has claimed, in the order of its blocks
abbrev pub claims_of : List Claimed → ℕ → List Claimed
claims_of claims reader = filter (is_claim_of reader) claims

-- a claimed slot before its block came: it holds zeros
abbrev pub empty_claim : ℕ → ℕ → Claimed
empty_claim reader i = record { reader = reader; index = i; body = zero_block }

-- a slot is claimed for each of so many blocks
abbrev pub claimed_all : WriteCache → ℕ → ℕ → WriteCache
claimed_all c reader n = record c { claims = c.claims ++ map (empty_claim reader) (below n) }

-- the claims but those that go
abbrev pub claims_but : (Claimed → Bool) → List Claimed → List Claimed
claims_but goes claims = filter (λ claim. not (goes claim)) claims

-- the reader has claimed nothing any more
abbrev pub without_claims : List Claimed → ℕ → List Claimed
without_claims claims reader = claims_but (is_claim_of reader) claims

-- the reader has claimed this slot, for a block behind its first so many
abbrev pub is_claim_behind : ℕ → ℕ → Claimed → Bool
is_claim_behind reader count claim = is_claim_of reader claim && nat_le count claim.index

-- the reader has claimed no slot any more but for its first so many blocks
abbrev pub without_claims_behind : List Claimed → ℕ → ℕ → List Claimed
without_claims_behind claims reader count = claims_but (is_claim_behind reader count) claims

-- the first claim is gone, if it goes; else it is the last
abbrev pub turned_but : (Claimed → Bool) → List Claimed → List Claimed
turned_but goes [] = []
turned_but goes (claim ∷ claims) = if goes claim then claims else claims ++ claim ∷ []

-- the first claim is gone, if the reader has claimed it; else it is the last
abbrev pub turned : ℕ → List Claimed → List Claimed
turned reader claims = turned_but (is_claim_of reader) claims

-- what came for this block of the reader lies in its slot
abbrev pub claim_filled : ℕ → ℕ → List ℕ → Claimed → Claimed
claim_filled reader index body claim =
    record claim { body = if (claim.reader == reader) && (claim.index == index) then body else claim.body }

-- the address that lies so many behind this one, and the last there is where there are fewer
abbrev pub key_at : Key → ℕ → Key
key_at k i = record { kind = k.kind; unit = k.unit; address = min (k.address + i) 4294967295 }

-- the page of a group for which this slot was claimed, from an address on
abbrev pub page_claimed : Key → (number size : ℕ) → Claimed → Pending
page_claimed k number size claim =
    record {
      key = key_at k claim.index;
      number = number;
      index = claim.index;
      size = size;
      written = None;
      rest = None;
      body = claim.body;
    }

-- the pages of the group that takes the place of all that the reader claimed
abbrev pub pages_claimed : WriteCache → ℕ → Key → List Pending
pages_claimed c reader k =
    map (page_claimed k (c.last + 1) (length (claims_of c.claims reader))) (claims_of c.claims reader)

-- one group more, with the next number, in the place of the slots that the reader claimed
abbrev pub appended : WriteCache → ℕ → Key → WriteCache
appended c reader k =
    record c {
      claims = without_claims c.claims reader;
      pages = c.pages ++ pages_claimed c reader k;
      last = c.last + 1;
    }
