-- The data of a command are asked for one part after another, and what a WRITE accepts is all of them.
use Rattle.ufs_laws.proofs.Common.{Bool, Comparing, Deed, ForWrite, Gathering, List, None, Option, Purpose, Sending, Some, State}
use Rattle.ufs_laws.proofs.Common.{Task, Write, [], accepts, and_parts, ap, arith, blocks_in, complete, cond-false}
use Rattle.ufs_laws.proofs.Common.{cond-true, count_at, drop, eqb-true, false, inl, inr, is_asked_of, le-ltb, length}
use Rattle.ufs_laws.proofs.Common.{length-append, length-drop, locked, message_fault, nat_lt, refl, set_deed, suc, sym}
use Rattle.ufs_laws.proofs.Common.{take, take-append-drop, task_of, true, zero, ℕ, ◌&&◌, ◌*◌, ◌++◌, ◌+◌, ◌-◌, ◌<◌, ◌==◌}
use Rattle.ufs_laws.proofs.Common.{◌∙◌, ◌∷◌, ◌≡◌, ◌≤◌, ◌⊎◌}
use Rattle.std.specs.List.{concat}
use Rattle.ufs_laws.proofs.walk.Happenings.{is_asked}
use Rattle.ufs_laws.specs.Exchange.{AreAsked, WasAsked, WasAskedToCompare}
use Rattle.ufs_spec.specs.Exchanges.{is_asked_in, to_gather}
use Rattle.ufs_spec.specs.Machine.{data_for, write_complete, write_deed}
use Rattle.ufs_spec.specs.declared.messages.Message.TheVariants as message

-- ## Data that are taken

-- it asked for the next of its data, or for the block that it compares next
abbrev pub WasAskedFor : Task → ℕ → ℕ → ℕ → Type 0
WasAskedFor task lun offset count = WasAsked task lun offset count ⊎ WasAskedToCompare task lun offset count

in_deed : (task : Task) (lun offset count : ℕ) (deed : Deed) → task.deed ≡ deed →
    is_asked_in task lun offset count deed ≡ true → WasAskedFor task lun offset count
in_deed task lun offset count (Gathering purpose gathered asked) e h =
    let last = and_parts (asked && (task.lun == lun) && (offset == length gathered))
    (count == count_at (to_gather purpose task.length) (length gathered)) h in
    let third = and_parts (asked && (task.lun == lun)) (offset == length gathered) last.0 in
    let second = and_parts asked (task.lun == lun) third.0 in
    inl (record {
      purpose = purpose;
      gathered = gathered;
      deed = e ∙ ap (Gathering purpose gathered) second.0;
      lun_is = sym (eqb-true task.lun lun second.1);
      offset_is = eqb-true offset (length gathered) third.1;
      count_is = eqb-true count (count_at (to_gather purpose task.length) (length gathered)) last.1;
    })
in_deed task lun offset count (Comparing blocks compared asked) e h =
    let last = and_parts (asked && (task.lun == lun) && (offset == 4096 * compared)) (count == 4096) h in
    let third = and_parts (asked && (task.lun == lun)) (offset == 4096 * compared) last.0 in
    let second = and_parts asked (task.lun == lun) third.0 in
    inr (record {
      blocks = blocks;
      compared = compared;
      deed = e ∙ ap (Comparing blocks compared) second.0;
      lun_is = sym (eqb-true task.lun lun second.1);
      offset_is = eqb-true offset (4096 * compared) third.1;
      count_is = eqb-true count 4096 last.1;
    })
in_deed task lun offset count (Sending blocks sent) e h = let no : false ≡ true = h in cc
in_deed task lun offset count deed e h = let no : false ≡ true = h in cc

of_task : (o : Option Task) (lun offset count : ℕ) → is_asked_of o lun offset count ≡ true →
    (task : Task) × (o ≡ Some task) × WasAskedFor task lun offset count
of_task None lun offset count h = let no : false ≡ true = h in cc
of_task (Some task) lun offset count h = (task, refl, in_deed task lun offset count task.deed refl h)

pub taken : (s : State) (lun tag offset : ℕ) (bytes : List ℕ) →
    message_fault s (message.DataOut lun tag offset (record { items = bytes })) ≡ None →
    (task : Task) × (task_of tag s.tasks ≡ Some task) × WasAskedFor task lun offset (length bytes)
taken s lun tag offset bytes h = of_task (task_of tag s.tasks) lun offset (length bytes) (is_asked _ h)

-- ## What becomes of them

pub gathered : (s : State) (task : Task) (purpose : Purpose) (before bytes : List ℕ) →
    nat_lt (length (before ++ bytes)) (to_gather purpose task.length) ≡ true →
    data_for s task (Gathering purpose before true) bytes ≡ set_deed s task.tag
    (Gathering purpose (before ++ bytes) false)
gathered s task purpose before bytes more =
    cond-true (nat_lt (length (before ++ bytes)) (to_gather purpose task.length)) _ (complete s task purpose (before ++ bytes)) more

pub accepted : (s : State) (task : Task) (unit address blocks : ℕ) (forced : Bool) (before bytes : List ℕ) →
    locked s ≡ false → length (before ++ bytes) ≡ 4096 * blocks →
    (data_for s task (Gathering (ForWrite unit address blocks forced) before true) bytes).accepted ≡ s.accepted ++ Write
    unit address (blocks_in blocks (before ++ bytes)) ∷ []
accepted s task unit address blocks forced before bytes free whole =
    ap (λ (t : State). t.accepted) (cond-false (nat_lt (length (before ++ bytes)) (4096 * blocks)) _
    (write_complete s task unit address blocks forced (before ++ bytes))
    (le-ltb (length (before ++ bytes)) (4096 * blocks) (omega arith)))
    ∙ ap (λ (t : State). t.accepted) (cond-false (locked s) _
    (set_deed (accepts s (Write unit address (blocks_in blocks (before ++ bytes))) blocks) task.tag
    (write_deed forced (length s.accepted + 1) task.length)) free)

-- the blocks joined are the bytes
pub all_bytes : (blocks : ℕ) (bytes : List ℕ) → length bytes ≡ 4096 * blocks → concat (blocks_in blocks bytes) ≡ bytes
all_bytes zero [] e = refl
all_bytes zero (x ∷ xs) e = absurd (omega arith)
all_bytes (suc n) bytes e =
    let rest = all_bytes n (drop 4096 bytes) (length-drop 4096 bytes ∙ omega arith) in
    ap (λ (xs : List ℕ). take 4096 bytes ++ xs) rest ∙ take-append-drop 4096 bytes

-- ## Offsets

count_is : (total offset : ℕ) →
    ((count_at total offset ≡ 4096) × (offset + 4096 ≤ total))
    ⊎ ((count_at total offset ≡ total - offset) × (total < offset + 4096))
count_is total offset = grind arith

pub within : (total offset : ℕ) (segments : List (List ℕ)) → offset ≤ total → AreAsked total offset segments →
    offset + length (concat segments) ≤ total
within total offset [] low h = omega arith
within total offset (x ∷ xs) low h =
    let here : offset + length x ≤ total = one (count_is total offset) in
    let rest = within total (offset + length x) xs here h.1 in
    let joined = length-append x (concat xs) in
    omega arith
  where
    one :
        (((count_at total offset ≡ 4096) × (offset + 4096 ≤ total))
        ⊎ ((count_at total offset ≡ total - offset) × (total < offset + 4096))) →
        offset + length x ≤ total
    one (inl (e, l)) = let k = h.0 in omega arith
    one (inr (e, l)) = let k = h.0 in omega arith

-- past the end nothing is asked for
nothing_left : (total offset : ℕ) (front : List (List ℕ)) (segment : List ℕ) (back : List (List ℕ)) → total ≤ offset →
    AreAsked total offset (front ++ segment ∷ back) → length segment ≡ 0
nothing_left total offset [] segment back past h =
    let e = h.0 in let none : count_at total offset ≡ 0 = grind arith in omega arith
nothing_left total offset (x ∷ xs) segment back past h =
    nothing_left total (offset + length x) xs segment back (omega arith) h.1

from_offset : (total offset : ℕ) (front : List (List ℕ)) (segment : List ℕ) (back : List (List ℕ)) →
    AreAsked total offset (front ++ segment ∷ back) → 1 ≤ length segment →
    (length (concat front) ≡ 4096 * length front) × (length segment ≡ count_at total (offset + 4096 * length front))
from_offset total offset [] segment back h some = (refl, h.0 ∙ ap (count_at total) (omega arith))
from_offset total offset (x ∷ xs) segment back h some =
    by (count_is total offset) (from_offset total (offset + length x) xs segment back h.1 some)
  where
    by :
        (((count_at total offset ≡ 4096) × (offset + 4096 ≤ total))
        ⊎ ((count_at total offset ≡ total - offset) × (total < offset + 4096))) →
        ((length (concat xs) ≡ 4096 * length xs) ×
        (length segment ≡ count_at total (offset + length x + 4096 * length xs))) →
        (length (concat (x ∷ xs)) ≡ 4096 * length (x ∷ xs))
        × (length segment ≡ count_at total (offset + 4096 * length (x ∷ xs)))
    by (inl (e, l)) rest =
        let whole : length x ≡ 4096 = h.0 ∙ e in
        let size : length (concat xs) ≡ 4096 * length xs = rest.0 in
        (length-append x (concat xs) ∙ omega arith, rest.1 ∙ ap (count_at total) (omega arith))
    by (inr (e, l)) rest =
        let last : length x ≡ total - offset = h.0 ∙ e in
        let none = nothing_left total (offset + length x) xs segment back (omega arith) h.1 in
        absurd (omega arith)

pub offsets : (total : ℕ) (front : List (List ℕ)) (segment : List ℕ) (back : List (List ℕ)) →
    AreAsked total 0 (front ++ segment ∷ back) → 1 ≤ length segment →
    (length (concat front) ≡ 4096 * length front) × (length segment ≡ count_at total (4096 * length front))
offsets total front segment back h some =
    let f = from_offset total 0 front segment back h some in (f.0, f.1 ∙ ap (count_at total) (omega arith))
