-- Pages of which a command brings only some blocks of 256 bytes: the rest that such a page waits for, a group of such
-- pages, and what the read of a rest makes of them (JESD220, 12.4).
use Rattle.std.specs.Prelude.{◌≡◌, ℕ, ◌+◌, ◌*◌, ◌≤◌, Bool, false, if◌then◌else◌, List, [], ◌∷◌, ◌++◌, drop, filter_map}
use Rattle.std.specs.Prelude.{find, is_some, length, option_and_then, option_map, slice_get, slice_set, take, unwrap_or}
use Rattle.std.specs.Prelude.{Option, Some, None}
use Rattle.ufs_spec.specs.Ledger.{same_name}
use Rattle.ufs_spec.specs.Plain.{with_part}
use Rattle.ufs_spec.specs.declared.layer.Name.{Name}
use Rattle.write_cache.specs.declared.rests.NewPage.{NewPage}
use Rattle.write_cache.specs.declared.rests.OwedSource.{OwedSource}
use Rattle.write_cache.specs.declared.rests.OwedSource.TheVariants as owed
use Rattle.write_cache.specs.declared.rests.Part.{Part}
use Rattle.write_cache.specs.declared.rests.Rest.{Rest}
use Rattle.write_cache.specs.declared.rests.RestSource.{RestSource}
use Rattle.write_cache.specs.declared.rests.RestSource.TheVariants as source
use Rattle.write_cache.specs.declared.slots.Claimed.{Claimed}
use Rattle.write_cache.specs.declared.slots.Pending.{Pending}
use Rattle.write_cache.specs.Kept.{WriteCache}
use Rattle.write_cache.specs.Slots.{claims_of, is_claim_of, is_named, without_claims}

-- Parts

-- the blocks of the part, as they stand in the page with these bytes
abbrev pub part_of : Part → List ℕ → List ℕ
part_of part body = take (256 * part.blocks) (drop (256 * part.first) body)

-- the page with these bytes, once the blocks of the part are those that come
abbrev pub with_part_of : Part → List ℕ → List ℕ → List ℕ
with_part_of part blocks body = with_part (256 * part.first) blocks body

-- the content of a page that is all there; None while the page waits for its rest
abbrev pub content_by : Option Rest → List ℕ → Option (List ℕ)
content_by None body = Some body
content_by (Some rest) body = None

-- the 4096 bytes that a READ gets and a program writes; there are none while the page waits for its rest
abbrev pub content_of : Pending → Option (List ℕ)
content_of p = content_by p.rest p.body

-- A group of pages with keys of their own

-- the command brings whole blocks, and the page has room for them
abbrev pub IsPart : NewPage → Type 0
IsPart x = (length x.bytes.now ≡ 256 * x.part.blocks) × (x.part.first + x.part.blocks ≤ 16)

-- the bytes over which the blocks of a new page are put: the content of a pending page, or what lies in its own slot
abbrev pub base_in : List Pending → List ℕ → RestSource → List ℕ
base_in ps body source.Nothing = body
base_in ps body (source.Slot name) =
    unwrap_or (option_and_then content_of (find (is_named name.number name.index) ps)) body
base_in ps body (source.Page name place) = body
base_in ps body (source.Owed name) = body

-- the bytes in the slot of a new page: its own blocks over their base
abbrev pub body_brought : List Pending → NewPage → List ℕ → List ℕ
body_brought ps x body = with_part_of x.part x.bytes.now (base_in ps body x.source)

-- what the part waits for, if its rest is still to be read
abbrev pub rest_by : Part → RestSource → Option Rest
rest_by part source.Nothing = None
rest_by part (source.Slot name) = None
rest_by part (source.Page name place) = Some (record { source = owed.Page name place; part = part })
rest_by part (source.Owed name) = Some (record { source = owed.Slot name; part = part })

-- the new page in the slot that was claimed for it, which holds these bytes now
abbrev pub page_of : (number size : ℕ) → Claimed → List ℕ → NewPage → Pending
page_of number size claim body x =
    record {
      key = x.key;
      number = number;
      index = claim.index;
      size = size;
      written = None;
      rest = rest_by x.part x.source;
      body = body;
    }

-- the new page for which the slot was claimed; None if the group has no page of this index
abbrev pub page_brought : List Pending → ℕ → List NewPage → Claimed → Option Pending
page_brought ps number xs claim =
    option_map (λ (x : NewPage). page_of number (length xs) claim (body_brought ps x claim.body) x)
    (slice_get xs claim.index)

-- one group more, of these pages, with the next number, in the place of the slots that the reader claimed. A
-- slot of which the group has no page is free
abbrev pub pages_appended : WriteCache → ℕ → List NewPage → WriteCache
pages_appended c reader xs =
    record c {
      claims = without_claims c.claims reader;
      pages = c.pages ++ filter_map (page_brought c.pages (c.last + 1) xs) (claims_of c.claims reader);
      last = c.last + 1;
    }

-- the slot of the new page with the index of the claim, once its bytes lie there
abbrev pub claim_with : List Pending → Option NewPage → Claimed → Claimed
claim_with ps None claim = claim
claim_with ps (Some x) claim = record claim { body = body_brought ps x claim.body }

-- a slot that the reader claimed has the bytes of its new page, and any other slot stays
abbrev pub claim_brought : List Pending → ℕ → List NewPage → Claimed → Claimed
claim_brought ps reader xs claim =
    if is_claim_of reader claim then claim_with ps (slice_get xs claim.index) claim else claim

-- the new page of a claim in whose slot its bytes lie
abbrev pub page_moved : ℕ → List NewPage → Claimed → Option Pending
page_moved number xs claim =
    option_map (λ (x : NewPage). page_of number (length xs) claim claim.body x) (slice_get xs claim.index)

-- The read of a rest

-- the page waits for its rest
abbrev pub waits : Pending → Bool
waits p = is_some p.rest

-- the name of the pending page
abbrev pub own_name : Pending → Name
own_name p = record { number = p.number; index = p.index }

-- the pending page whose read brings the rest of the page of this name: itself if its rest is read from a page, else
-- the one that is named
abbrev pub read_by : Name → OwedSource → Name
read_by own (owed.Page name place) = own
read_by own (owed.Slot name) = name

-- the read that brings the rest of the page of this name, if it waits for one
abbrev pub awaited_by : Name → Option Rest → Option Name
awaited_by own rest = option_map (λ (r : Rest). read_by own r.source) rest

-- the read that the page waits for, by the name of the page for which it is done; None if its content is all there
abbrev pub awaited : Pending → Option Name
awaited p = awaited_by (own_name p) p.rest

-- what is awaited is the read that is done for the page of this name
abbrev pub comes_by : Name → Option Name → Bool
comes_by name None = false
comes_by name (Some read) = same_name read name

-- the page waits for that read
abbrev pub awaits : Name → Pending → Bool
awaits name p = comes_by name (awaited p)

-- the page waits no more: its own blocks stand over these bytes
abbrev pub completed_by : List ℕ → Option Rest → Pending → Pending
completed_by base None p = p
completed_by base (Some rest) p =
    record p { rest = None; body = with_part_of rest.part (part_of rest.part p.body) base }

-- the page with its rest from these bytes, if it waits for one
abbrev pub completed : List ℕ → Pending → Pending
completed base p = completed_by base p.rest p

-- each page that waits for that read has its content. The first has its rest from what was read, and each later
-- one from the one before it: all of them are of one key
abbrev pub rests_filled : Name → (base : List ℕ) → List Pending → List Pending
rests_filled name base [] = []
rests_filled name base (p ∷ ps) =
    if awaits name p
    then completed base p ∷ rests_filled name (completed base p).body ps
    else p ∷ rests_filled name base ps

-- the bytes of the page that was found, and these where none was
abbrev pub body_or : List ℕ → Option Pending → List ℕ
body_or body None = body
body_or body (Some p) = p.body

-- the bytes of the last page that was filled, and what was read where none was yet
abbrev pub base_behind : List ℕ → List Pending → Option ℕ → List ℕ
base_behind base ps None = base
base_behind base ps (Some k) = body_or base (slice_get ps k)

-- the page at this position has its content
abbrev pub completed_at : List ℕ → List Pending → ℕ → Option Pending → List Pending
completed_at base ps k None = ps
completed_at base ps k (Some p) = slice_set ps k (completed base p)
