-- The group of a WRITE is its blocks, each under its key, and what the WRITE leaves else.
use Rattle.device.proofs.Common.{CanApply, Command, Item, Key, List, Plain, [], after, ap, apply, arith, below, content}
use Rattle.device.proofs.Common.{data_key, drop, fold-append, get_or-set_same, group_of, group_of_blocks, key_behind}
use Rattle.device.proofs.Common.{length, length-map, length-take-le, map, region_of, slice_index_or, slice_set, suc}
use Rattle.device.proofs.Common.{with_part, zero, ℕ, ◌++◌, ◌+◌, ◌-◌, ◌<◌, ◌∙◌, ◌∷◌, ◌≡◌, ◌≤◌}
use Rattle.std.proofs.Common.{take}
use Rattle.std.proofs.lemmas.List.{get_or-append_right, get_or-map, get_or_append_left}
use Rattle.std.proofs.lemmas.Simd.{map-map}
use Rattle.ufs_spec.specs.Commands as command
use Rattle.ufs_laws.proofs.plain_contents.ListParts.{made_of}
use Rattle.ftl_core.proofs.look_and_accept.GroupsAccepted.{items_length}
use Rattle.ftl_core.specs.Public.{items_behind}

-- The content of a written block

part_written : (old : List (List ℕ)) (address i : ℕ) (blocks : List (List ℕ)) → i < length blocks →
    address + length blocks ≤ length old →
    slice_index_or (with_part address blocks old) (address + i) [] ≡ slice_index_or blocks i []
part_written old address i blocks there within =
    let front : length (take address old) ≡ address = length-take-le address old (omega arith) in
    let place : address + i - address ≡ i = omega arith in
    get_or-append_right (take address old) (blocks ++ drop (address + length blocks) old) address (address + i) [] front
    (omega arith)
    ∙ (ap (λ (j : ℕ). slice_index_or (blocks ++ drop (address + length blocks) old) j []) place
    ∙ get_or_append_left blocks (drop (address + length blocks) old) [] i there)

block_written : (units : List (List (List ℕ))) (unit address i : ℕ) (blocks : List (List ℕ)) → i < length blocks →
    unit < length (map length units) → address + length blocks ≤ slice_index_or (map length units) unit 0 →
    slice_index_or (slice_index_or
    (slice_set units unit (with_part address blocks (slice_index_or units unit []))) unit []) (address + i) [] ≡
    slice_index_or blocks i []
block_written units unit address i blocks at there within =
    let old : List (List ℕ) = slice_index_or units unit [] in
    let few : unit < length units = omega (arith, length-map units length) in
    let size = get_or-map length units unit [] 0 few in
    ap (λ (bs : List (List ℕ)). slice_index_or bs (address + i) [])
    (get_or-set_same units unit (with_part address blocks old) [] few)
    ∙ part_written old address i blocks at (omega arith)

-- Items by their places

abbrev item : Key → List ℕ → Item
item k body = record { key = k; body = body }

items_at : (k : Key) (i j : ℕ) (bodies : List (List ℕ)) (d : Item) → j < length bodies →
    item (key_behind k (i + j)) (slice_index_or bodies j []) ≡ slice_index_or (items_behind k i bodies) j d
items_at k i j [] d there = absurd (omega arith)
items_at k i zero (body ∷ bodies) d there =
    let here : i + 0 ≡ i = omega arith in
    ap (λ n. item (key_behind k n) body) here
items_at k i (suc j) (body ∷ bodies) d there =
    let at : i + suc j ≡ (i + 1) + j = omega arith in
    ap (λ n. item (key_behind k n) (slice_index_or bodies j [])) at ∙ items_at k (i + 1) j bodies d (omega arith)

-- the group of a WRITE that may come
pub group_written : (p : Plain) (unit address : ℕ) (blocks : List (List ℕ)) →
    CanApply p (command.Write unit address blocks) →
    group_of p (command.Write unit address blocks) ≡ group_of_blocks (data_key unit address) blocks
group_written p unit address blocks can =
    map-map item_of key_at (below (length blocks))
    ∙ made_of (λ i. item_of (key_at i)) (length blocks) (group_of_blocks (data_key unit address) blocks)
    (items_length (data_key unit address) 0 blocks)
    (λ i d there. content_at i there ∙ items_at (data_key unit address) 0 i blocks d there)
  where
    key_at : ℕ → Key
    key_at i = data_key unit (address + i)

    item_of : Key → Item
    item_of k = item k (content (apply p (command.Write unit address blocks)) k)

    content_at : (i : ℕ) → i < length blocks →
        item_of (key_at i) ≡ item (key_behind (data_key unit address) (0 + i)) (slice_index_or blocks i [])
    content_at i there =
        let start : address + i ≡ address + (0 + i) = omega arith in
        ap (item (key_at i)) (block_written p.units unit address i blocks there can.0.0 can.0.3)
        ∙ ap (λ n. item (data_key unit n) (slice_index_or blocks i [])) start

-- What it leaves

-- a WRITE leaves each region as it is
pub region_still : (p : Plain) (cs : List Command) (unit address : ℕ) (blocks : List (List ℕ)) (number : ℕ) →
    region_of (after p (cs ++ command.Write unit address blocks ∷ [])) number ≡ region_of (after p cs) number
region_still p cs unit address blocks number =
    ap (λ (q : Plain). region_of q number) (fold-append apply p cs (command.Write unit address blocks ∷ []))

-- a WRITE leaves the protection for ever as it is
pub permanent_still : (p : Plain) (cs : List Command) (unit address : ℕ) (blocks : List (List ℕ)) →
    (after p (cs ++ command.Write unit address blocks ∷ [])).permanent ≡ (after p cs).permanent
permanent_still p cs unit address blocks =
    ap (λ (q : Plain). q.permanent) (fold-append apply p cs (command.Write unit address blocks ∷ []))

-- a WRITE leaves the boot setting as it is
pub boot_still : (p : Plain) (cs : List Command) (unit address : ℕ) (blocks : List (List ℕ)) →
    (after p (cs ++ command.Write unit address blocks ∷ [])).boot ≡ (after p cs).boot
boot_still p cs unit address blocks =
    ap (λ (q : Plain). q.boot) (fold-append apply p cs (command.Write unit address blocks ∷ []))
