-- The slots that an UNMAP claims and gives back, and the group that it becomes.
use Rattle.ufs_laws.proofs.Common.{Answering, Deed, ForUnmap, Gathering, Good, Group, Item, Key, Ledger, List, None}
use Rattle.ufs_laws.proofs.Common.{Numbers, Plain, Request, Some, State, Status, Task, Zero, [], ap, apply, arith}
use Rattle.ufs_laws.proofs.Common.{begun, below, command_blocks, cond-false, content, data_key, drop, false, field_at}
use Rattle.ufs_laws.proofs.Common.{free_slots, group_of, is_past_unit, is_wrong_descriptor, length, length-map, locked}
use Rattle.ufs_laws.proofs.Common.{map, nat_lt, ne_eqb, not, numbers_of, or_parts, plain_now, refl, row, shape_of}
use Rattle.ufs_laws.proofs.Common.{unit_numbers_at, unmap_complete, ℕ, ◌++◌, ◌+◌, ◌-◌, ◌<◌, ◌==◌, ◌∙◌, ◌∷◌, ◌≡◌, ◌≢◌}
use Rattle.ufs_laws.proofs.Common.{◌≤◌}
use Rattle.std.proofs.Common.{length-drop, sum_by}
use Rattle.std.proofs.lemmas.List.{drop-append-le}
use Rattle.std.proofs.lemmas.List.Sums.{sum_by_push}
use Rattle.ufs_laws.proofs.decided_data.ListsJudged as judged
use Rattle.ufs_laws.proofs.plain_contents.ListParts.{length-below, made_same}
use Rattle.ufs_laws.specs.Decisions.{PassesList, list_of}
use Rattle.ufs_laws.specs.Unmaps.{GathersList, HasClaimed}
use Rattle.ufs_spec.proofs.Facts.{ltb-false}
use Rattle.ufs_spec.specs.Changes.{claimed_by, ends_with_status, with_task}
use Rattle.ufs_spec.specs.Begins.{gathering_begun}
use Rattle.ufs_spec.specs.Ledger.{accepted_groups, before_accepted}
use Rattle.ufs_spec.specs.Plain.{LiesWithin, zero_block}
use Rattle.ufs_spec.specs.Translation.{pending_pages}
use Rattle.ufs_spec.specs.declared.scsi.Cdb.TheVariants as cdb

-- ## Claims

pub gathers : (s : State) (r : Request) (unit list : ℕ) → list ≢ 0 →
    (begun s r unit (cdb.Unmap list)).tasks
    ≡ s.tasks
    ++ record {
      lun = r.lun;
      tag = r.tag;
      expected = r.expected;
      command = Some (cdb.Unmap list);
      length = list;
      deed = Gathering (ForUnmap unit) [] false;
      request = None;
    } ∷ []
gathers s r unit list some =
    ap (λ (t : State). t.tasks)
    (cond-false (list == 0) (with_task s r (Some (cdb.Unmap list)) 0 (Answering Good 0))
    (gathering_begun s r (cdb.Unmap list) list (ForUnmap unit)) (ne_eqb list 0 some))

pub header_claims : (s : State) (r : Request) (unit : ℕ) →
    (begun s r unit (cdb.Unmap 8)).translation.claims ≡ s.translation.claims
header_claims s r unit = let same : s.translation.claims + 0 ≡ s.translation.claims = omega arith in same

claimed_is : (s : State) (task : Task) (unit : ℕ) → GathersList task unit →
    claimed_by (numbers_of s) task.deed task.command ≡ command_blocks (numbers_of s)
claimed_is s task unit h =
    ap (λ (d : Deed). claimed_by (numbers_of s) d task.command) h.deed
    ∙ ap (claimed_by (numbers_of s) (Gathering (ForUnmap unit) h.gathered h.asked)) h.command

pub claims : (s : State) (task : Task) (unit : ℕ) (list : List ℕ) → GathersList task unit →
    (unmap_complete s task unit list).translation.claims ≡ s.translation.claims - command_blocks (numbers_of s)
claims s task unit list h =
    judged.gives_back s task unit list ∙ ap (λ (x : ℕ). s.translation.claims - x) (claimed_is s task unit h)

-- ## Free slots

freed : (slots pages claims count : ℕ) → count ≤ claims → pages + claims ≤ slots →
    slots - pages - (claims - count) ≡ slots - pages - claims + count
freed slots pages claims count few within = omega arith

pub not_accepted : (s : State) (task : Task) (unit : ℕ) (status : Status) → GathersList task unit →
    HasClaimed s.translation (command_blocks (numbers_of s)) →
    free_slots (ends_with_status s task status).translation ≡ free_slots s.translation + command_blocks (numbers_of s)
not_accepted s task unit status h has =
    let pages = pending_pages s.translation.ledger in
    ap (λ (x : ℕ). s.translation.numbers.slots - pages - (s.translation.claims - x)) (claimed_is s task unit h)
    ∙ freed s.translation.numbers.slots pages s.translation.claims (command_blocks (numbers_of s)) has.claimed has.within

-- a group more has its pages
pub more_pages : (l : Ledger) (g : Group) → l.repairs ≤ length l.groups →
    l.frontier ≤ l.greatest_seen + length l.groups →
    pending_pages (record l { groups = l.groups ++ g ∷ [] }) ≡ pending_pages l + length g
more_pages l g repairs frontier =
    let left = l.frontier - before_accepted l in
    let long = length-drop l.repairs l.groups in
    ap (λ (gs : List Group). sum_by length (drop left gs)) (drop-append-le l.repairs l.groups (g ∷ []) repairs)
    ∙ (ap (λ (gs : List Group). sum_by length gs)
    (drop-append-le left (accepted_groups l) (g ∷ []) (omega (arith, long, repairs, frontier)))
    ∙ sum_by_push length (drop left (accepted_groups l)) g)

-- the pages of a group take the place of a part of the claim
taken : (slots pages claims count claim : ℕ) → claim ≤ claims → pages + claims ≤ slots → count ≤ claim →
    slots - (pages + count) - (claims - claim) ≡ slots - pages - claims + (claim - count)
taken slots pages claims count claim few within most = omega arith

zeros_long : (p : Plain) (unit address count : ℕ) → length (group_of p (Zero unit address count)) ≡ count
zeros_long p unit address count =
    length-map (map (λ i. data_key unit (address + i)) (below count))
    (λ (k : Key). record { key = k; body = content (apply p (Zero unit address count)) k })
    ∙ length-map (below count) (λ i. data_key unit (address + i))
    ∙ length-below count

pub accepted : (s : State) (task : Task) (unit : ℕ) (list : List ℕ) → GathersList task unit →
    HasClaimed s.translation (command_blocks (numbers_of s)) → PassesList s unit list → field_at 4 16 list ≢ 0 →
    locked s ≡ false →
    free_slots (unmap_complete s task unit list).translation
    ≡ free_slots s.translation + (command_blocks (numbers_of s) - field_at 4 16 list)
accepted s task unit list h has passes some unlocked =
    let t = s.translation in
    let count = field_at 4 16 list in
    let g = group_of (plain_now s) (Zero unit (field_at 8 8 list) count) in
    let claim = command_blocks (numbers_of s) in
    let most : count ≤ claim =
    ltb-false claim count (or_parts (nat_lt claim count) (not (field_at 4 20 list == 0)) passes.1).0 in
    ap (λ (u : State). free_slots u.translation) (judged.accepted s task unit list passes some unlocked)
    ∙ ap (λ (pages : ℕ). t.numbers.slots - pages - (t.claims - claimed_by (numbers_of s) task.deed task.command))
    (more_pages t.ledger g has.repairs has.frontier
    ∙ ap (λ (n : ℕ). pending_pages t.ledger + n)
    (zeros_long (plain_now s) unit (field_at 8 8 list) count))
    ∙ ap (λ (x : ℕ). t.numbers.slots - (pending_pages t.ledger + count) - (t.claims - x)) (claimed_is s task unit h)
    ∙ taken t.numbers.slots (pending_pages t.ledger) t.claims count claim has.claimed has.within most

-- ## The group

-- the item of a key after a command, for keys that are made from numbers
made : (f : ℕ → Key) (item : Key → Item) (xs : List ℕ) → map item (map f xs) ≡ map (λ i. item (f i)) xs
made f item [] = refl
made f item (x ∷ xs) = ap (λ (rest : List Item). item (f x) ∷ rest) (made f item xs)

pub pages : (p : Plain) (unit address count : ℕ) → LiesWithin (shape_of p) (Zero unit address count) →
    group_of p (Zero unit address count)
    ≡ map (λ i. record { key = data_key unit (address + i); body = zero_block }) (below count)
pages p unit address count can =
    made (λ i. data_key unit (address + i))
    (λ k. record { key = k; body = content (apply p (Zero unit address count)) k }) (below count)
    ∙ made_same (λ i. record { key = data_key unit (address + i); body = body i })
    (λ i. record { key = data_key unit (address + i); body = zero_block }) count same
  where
    body : ℕ → List ℕ
    body i = content (apply p (Zero unit address count)) (data_key unit (address + i))

    item : ℕ → List ℕ → Item
    item i bytes = record { key = data_key unit (address + i); body = bytes }

    same : (i : ℕ) → i < count → item i (body i) ≡ item i zero_block
    same i low = ap (item i) (judged.zeros p unit address count (address + i) can (omega arith) (omega arith))

-- ## A list

abbrev worked : List ℕ
worked = list_of 0x16 0x10 5 2

within_row : (s : State) → numbers_of s ≡ row → PassesList s 0 worked
within_row s e = (
  (refl, λ other. omega (arith, other)),
  ap (λ (n : Numbers). is_wrong_descriptor n worked) e,
  ap (λ (n : Numbers). is_past_unit worked (unit_numbers_at n (Some 0))) e,
)

pub list : (s : State) (task : Task) → numbers_of s ≡ row → locked s ≡ false →
    (unmap_complete s task 0 worked).accepted ≡ s.accepted ++ Zero 0 5 2 ∷ []
list s task e unlocked =
    ap (λ (t : State). t.accepted) (judged.accepted s task 0 worked (within_row s e) (λ none. omega (arith, none)) unlocked)
