-- The group of a key or of a write, as the device makes it, is the one that the definitions have for the command.
use Rattle.device.proofs.Common.{All, Bool, CanApply, Command, Group, IsKey, IsPlain, IsSettings, Item, Key, List}
use Rattle.device.proofs.Common.{Plain, RpmbWrite, SetKey, Translation, [], all_contents, ap, append-nil, apply}
use Rattle.device.proofs.Common.{area_key, area_page, area_there, arith, below, content, drop, false, get_or, group_of}
use Rattle.device.proofs.Common.{if◌then◌else◌, inl, inr, key_group, length, length-drop, map, named_changed, nat_le}
use Rattle.device.proofs.Common.{refl, region_of, regions, said_by, settings_block, settings_key, settings_of}
use Rattle.device.proofs.Common.{settings_ranges, shape_of_numbers, subst, sym, take_all, true, with_part, write_group}
use Rattle.device.proofs.Common.{ℕ, ◌*◌, ◌++◌, ◌+◌, ◌-◌, ◌/◌, ◌<◌, ◌∙◌, ◌∷◌, ◌≡◌, ◌≤◌}
use Rattle.std.proofs.Common.{take, ◌%◌}
use Rattle.std.proofs.lemmas.Bool.{leb-false, leb-true}
use Rattle.std.proofs.lemmas.List.{drop_all}
use Rattle.ufs_spec.specs.Moves.{IsItem}
use Rattle.ufs_spec.specs.Plain.{Region}
use Rattle.ufs_laws.proofs.plain_contents.CommandsKeepPlain.{its_region}
use Rattle.device.specs.Groups.{area_item, room_from, settings_item}
use Rattle.device.proofs.host_messages.AreaPages.{LiesInPage, page_written}

-- the settings page of a plain state comes whole
pub settings_whole : (t : Translation) (p : Plain) (body page : List ℕ) → IsPlain p → length page ≡ 4096 →
    all_contents t.ledger settings_key ≡ content p settings_key → page ≡ body →
    with_part 0 page (all_contents t.ledger settings_key) ≡ body
settings_whole t p body page plain long old is =
    let block = settings_block p.boot p.permanent (map said_by p.regions) (settings_ranges p plain) in
    let as_long = ap length old ∙ block.0 in
    ap (λ (rest : List ℕ). page ++ rest) (drop_all (0 + length page) (all_contents t.ledger settings_key) (omega arith))
    ∙ (append-nil page ∙ is)

-- a key changes the settings alone
pub key_grouped : (t : Translation) (p : Plain) (region : ℕ) (bytes page : List ℕ) → IsPlain p →
    length page ≡ 4096 → all_contents t.ledger settings_key ≡ content p settings_key →
    page ≡ settings_of (apply p (SetKey region bytes)) → key_group page t ≡ group_of p (SetKey region bytes)
key_grouped t p region bytes page plain long old is =
    ap (λ (body : List ℕ). record { key = settings_key; body = body } ∷ [])
    (settings_whole t p (settings_of (apply p (SetKey region bytes))) page plain long old is)

module _ (t : Translation) (p : Plain) (region : ℕ) (known : region < regions) (address : ℕ) (bytes page : List ℕ)
    (plain : IsPlain p) (can : CanApply p (RpmbWrite region address bytes))
    (contents : (k : Key) → IsKey (shape_of_numbers t.numbers) k → all_contents t.ledger k ≡ content p k)
    (items : All (IsItem t) (group_of p (RpmbWrite region address bytes)))
    (long : length page ≡ 4096) (page_is : page ≡ settings_of (apply p (RpmbWrite region address bytes))) where
  abbrev c : Command
  c = RpmbWrite region address bytes

  abbrev area : List ℕ
  area = (region_of p region).area

  -- what the group has of a key
  abbrev item_of : Key → Item
  item_of k = record { key = k; body = content (apply p c) k }

  -- its page of this place behind the first
  abbrev key_at : ℕ → Key
  key_at i = area_key region (address / 16 + i)

  -- how many pages of the area it has
  abbrev spanned : ℕ
  spanned = (address + length bytes / 256 - 1) / 16 + 1 - address / 16

  -- a group with so many pages of the area
  abbrev pages : ℕ → Group
  pages n = map item_of (map key_at (below n) ++ settings_key ∷ [])

  abbrev first : ℕ
  first = address % 16

  abbrev room : ℕ
  room = room_from first

  abbrev count : ℕ
  count = can.0.1.0.0

  size : length bytes ≡ 256 * count
  size = can.0.1.0.1

  within : 256 * address + length bytes ≤ length area
  within = let there = area_there p region in let low = can.0.1.1 in omega arith

  whole : length area ≡ 4096 * (length area / 4096)
  whole = (its_region p region plain known).area

  changed : (region_of (apply p c) region).area ≡ with_part (256 * address) bytes area
  changed =
      ap (λ (r : Region). r.area) (named_changed p c region (let many = plain.regions_count in omega arith) refl)

  -- a page of the area that the group has
  page_of : (i lo from n : ℕ) → LiesInPage (256 * address) (length bytes) (4096 * (address / 16 + i)) lo from n →
      4096 * (address / 16 + i) < length area → IsKey (shape_of_numbers t.numbers) (key_at i) →
      item_of (key_at i)
      ≡ record {
        key = key_at i;
        body = with_part lo (take n (drop from bytes)) (all_contents t.ledger (key_at i));
      }
  page_of i lo from n lies there is_key =
      ap (λ (body : List ℕ). record { key = key_at i; body = body })
      (ap (area_page (address / 16 + i)) changed
      ∙ (page_written (256 * address) (4096 * (address / 16 + i)) lo from n bytes area within
      (let full = whole in omega arith) lies
      ∙ ap (λ (old : List ℕ). with_part lo (take n (drop from bytes)) old) (sym (contents (key_at i) is_key))))

  at_first : address / 16 + 0 ≡ address / 16
  at_first = omega arith

  settings_end : item_of settings_key ≡ settings_item t page
  settings_end =
      ap (λ (body : List ℕ). record { key = settings_key; body = body })
      (sym (settings_whole t p (settings_of (apply p c)) page plain long (contents settings_key IsSettings) page_is))

  some : 256 ≤ length bytes
  some = let its = size in let low = can.0.1.0.2 in omega arith

  few : length bytes ≤ 2048
  few = let its = size in let most = can.0.1.0.3 in omega arith

  -- each of its keys is one of the device
  key_there : (n : ℕ) → n ≡ spanned → (i : ℕ) → i < length (pages n) →
      IsKey (shape_of_numbers t.numbers) (get_or (pages n) i (item_of settings_key)).key
  key_there n is i low = (subst (λ (m : ℕ). All (IsItem t) (pages m)) (sym is) items i (item_of settings_key) low).key

  -- the item of a page, with these bytes from this place on
  abbrev placed : ℕ → ℕ → List ℕ → Item
  placed q lo body =
      record { key = area_key region q; body = with_part lo body (all_contents t.ledger (area_key region q)) }

  -- all lies in one page
  in_one : length bytes ≤ room → 1 ≡ spanned →
      pages 1 ≡ area_item t region (address / 16) first bytes ∷ settings_item t page ∷ []
  in_one low one =
      (λ i. page_of 0 (256 * first) 0 (length bytes) lies reached (key_there 1 one 0 (omega arith)) i
      ∷ settings_end i ∷ [])
      ∙ (ap (λ (q : ℕ). placed q (256 * first) (take (length bytes) bytes) ∷ settings_item t page ∷ []) at_first
      ∙ ap (λ (bs : List ℕ). area_item t region (address / 16) first bs ∷ settings_item t page ∷ [])
      (take_all (length bytes) bytes (omega arith)))
    where
      lies : LiesInPage (256 * address) (length bytes) (4096 * (address / 16 + 0)) (256 * first) 0 (length bytes)
      lies = record {
        aligned = omega arith;
        fits = omega arith;
        there = omega arith;
        begins = inr refl;
        ends = inr (omega arith);
      }

      reached : 4096 * (address / 16 + 0) < length area
      reached = let last = within in let low = some in omega arith

  -- it lies in two pages
  in_two : room < length bytes → 2 ≡ spanned →
      pages 2
      ≡ area_item t region (address / 16) first (take room bytes) ∷ area_item t region (address / 16 + 1) 0 (drop room bytes)
      ∷ settings_item t page ∷ []
  in_two high two =
      (λ i. page_of 0 (256 * first) 0 room here (reached 0 (omega arith)) (key_there 2 two 0 (omega arith)) i
      ∷ page_of 1 0 room (length bytes - room) behind (reached 1 (omega arith)) (key_there 2 two 1 (omega arith)) i
      ∷ settings_end i ∷ [])
      ∙ (ap (λ (q : ℕ). placed q (256 * first) (take room bytes)
      ∷ placed (address / 16 + 1) 0 (take (length bytes - room) (drop room bytes)) ∷ settings_item t page ∷ []) at_first
      ∙ ap (λ (bs : List ℕ). area_item t region (address / 16) first (take room bytes) ∷ area_item t region (address / 16 + 1) 0 bs
      ∷ settings_item t page ∷ [])
      (take_all (length bytes - room) (drop room bytes) (let rest = length-drop room bytes in omega arith)))
    where
      here : LiesInPage (256 * address) (length bytes) (4096 * (address / 16 + 0)) (256 * first) 0 room
      here = record {
        aligned = omega arith;
        fits = omega arith;
        there = omega arith;
        begins = inr refl;
        ends = inl (omega arith);
      }

      behind : LiesInPage (256 * address) (length bytes) (4096 * (address / 16 + 1)) 0 room (length bytes - room)
      behind = record {
        aligned = omega arith;
        fits = let most = few in omega arith;
        there = omega arith;
        begins = inl refl;
        ends = inr (omega arith);
      }

      reached : (i : ℕ) → i ≤ 1 → 4096 * (address / 16 + i) < length area
      reached i low = let last = within in omega arith

  pub write_grouped : write_group region address bytes page t ≡ group_of p c
  write_grouped = by (nat_le (length bytes) room) refl
    where
      -- the group by whether all fits into one page
      grouped : Bool → Group
      grouped b =
          (if b then area_item t region (address / 16) first bytes ∷ []
          else area_item t region (address / 16) first (take room bytes)
          ∷ area_item t region (address / 16 + 1) 0 (drop room bytes) ∷ []) ++ settings_item t page ∷ []

      by : (b : Bool) → nat_le (length bytes) room ≡ b → write_group region address bytes page t ≡ group_of p c
      by true fits =
          let low = leb-true (length bytes) room fits in
          let its = size in
          let least = some in
          let one : 1 ≡ spanned = omega arith in
          ap grouped fits ∙ (sym (in_one low one) ∙ ap pages one)
      by false past =
          let high = leb-false (length bytes) room past in
          let its = size in
          let most = few in
          let two : 2 ≡ spanned = omega arith in
          ap grouped past ∙ (sym (in_two (omega arith) two) ∙ ap pages two)
