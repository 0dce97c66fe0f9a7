-- The group of a command that may come is one that may be accepted.
use Rattle.power_loss.proofs.Common.{CanApply, Group, IsArea, IsBlock, IsCommand, IsData, IsGroup, IsKey, IsPlain}
use Rattle.power_loss.proofs.Common.{IsSettings, IsSettingsBody, Item, Key, KeysDiffer, List, Plain, Shape, Some}
use Rattle.power_loss.proofs.Common.{Translation, [], ap, apply, arith, below, content, data_key, get_or, get_splits}
use Rattle.power_loss.proofs.Common.{group_of, kept_shape, length, length-append, length-map, map, none-some, shape_of}
use Rattle.power_loss.proofs.Common.{shape_of_numbers, slice_get, slice_get-get_or, subst, sym, ℕ, ⊎_elim, ◌*◌, ◌++◌}
use Rattle.power_loss.proofs.Common.{◌+◌, ◌-◌, ◌<◌, ◌∙◌, ◌∷◌, ◌≡◌, ◌≤◌}
use Rattle.power_loss.proofs.MachineWords.{Command}
use Rattle.std.specs.Prelude.{◌/◌}
use Rattle.ufs_spec.specs.Commands as command
use Rattle.ufs_spec.specs.Configs.{command_blocks}
use Rattle.ufs_spec.specs.Keys.{area_key, area_keys, data_keys, keys, region_pages, settings_key}
use Rattle.ufs_spec.proofs.RegionPages.{area_there, pages_held}
use Rattle.ufs_laws.proofs.plain_contents.CommandsKeepPlain.{kept_plain, region_right}
use Rattle.ufs_spec.specs.Moves.{IsItem}
use Rattle.ufs_spec.specs.Plain.{LiesWithin, regions}
use Rattle.ufs_spec.proofs.Lists.{get_below}
use Rattle.ufs_laws.proofs.plain_contents.ListParts.{length-below}
use Rattle.ufs_laws.proofs.plain_contents.PlainFromContents.{contents_of}
use Rattle.power_loss.proofs.ordered_lists.ElementsAndOrders.{mapped_at}

-- Keys

-- keys of the device, none of them twice
record Keyed (s : Shape) (ks : List Key) : Type 0 where
  each : (i : ℕ) (k : Key) → slice_get ks i ≡ Some k → IsKey s k
  apart : (i j : ℕ) (k : Key) → slice_get ks i ≡ Some k → slice_get ks j ≡ Some k → i ≡ j

made_keyed : (s : Shape) (f : ℕ → Key) (n : ℕ) → ((i : ℕ) → i < n → IsKey s (f i)) →
    ((i j : ℕ) → f i ≡ f j → i ≡ j) → Keyed s (map f (below n))
made_keyed s f n is one = record { each = each; apart = apart }
  where
    at : (i : ℕ) (k : Key) → slice_get (map f (below n)) i ≡ Some k → (i < n) × (f i ≡ k)
    at i k h =
        let r = mapped_at f (below n) i k h in
        let low = get_below n i r.0 r.1 in
        let same = low.0 in
        (omega (arith, low.1, same), ap f (sym same) ∙ r.2)

    each : (i : ℕ) (k : Key) → slice_get (map f (below n)) i ≡ Some k → IsKey s k
    each i k h = let r = at i k h in subst (IsKey s) r.1 (is i r.0)

    apart : (i j : ℕ) (k : Key) → slice_get (map f (below n)) i ≡ Some k → slice_get (map f (below n)) j ≡ Some k →
        i ≡ j
    apart i j k h g = one i j ((at i k h).1 ∙ sym (at j k g).1)

-- one key more, which none of the others is
push_keyed : (s : Shape) (ks : List Key) (k : Key) → Keyed s ks → IsKey s k →
    ((i : ℕ) → slice_get ks i ≡ Some k → ⊥) → Keyed s (ks ++ k ∷ [])
push_keyed s ks k h is none = record {
  each = λ i j at. ⊎_elim (λ e. h.each i j e) (λ e. subst (IsKey s) (sym e.1) is) (get_splits ks k i j at);
  apart = λ i j l a b. ⊎_elim
      (λ (e : slice_get ks i ≡ Some l). ⊎_elim (λ (g : slice_get ks j ≡ Some l). h.apart i j l e g)
      (λ (g : (j ≡ length ks) × (l ≡ k)). absurd (none i (e ∙ ap Some g.1))) (get_splits ks k j l b))
      (λ (e : (i ≡ length ks) × (l ≡ k)). ⊎_elim
      (λ (g : slice_get ks j ≡ Some l). absurd (none j (g ∙ ap Some e.1)))
      (λ (g : (j ≡ length ks) × (l ≡ k)). e.0 ∙ sym g.0) (get_splits ks k j l b)) (get_splits ks k i l a);
}

one_keyed : (s : Shape) (k : Key) → IsKey s k → Keyed s (k ∷ [])
one_keyed s k is = push_keyed s [] k
    (record { each = λ i j h. absurd (none-some j h); apart = λ i j l h. absurd (none-some l h) }) is
    (λ i h. absurd (none-some k h))

data_keyed : (s : Shape) (unit address n : ℕ) → unit < length s.blocks → address + n ≤ get_or s.blocks unit 0 →
    Keyed s (data_keys unit address n)
data_keyed s unit address n there room = made_keyed s (λ i. data_key unit (address + i)) n
    (λ i low. IsData unit (address + i) there (omega arith))
    (λ i j e. let places : address + i ≡ address + j = ap (λ (k : Key). k.address) e in omega arith)

-- the areas have whole pages
abbrev pub AreWhole : Shape → Type 0
AreWhole s = (region : ℕ) → get_or s.areas region 0 ≡ 4096 * get_or (region_pages s) region 0

areas_whole : (p : Plain) → IsPlain p → AreWhole (shape_of p)
areas_whole p plain region =
    let pages = pages_held p region in
    let bytes = area_there p region in
    let whole = (region_right p plain region).area in
    omega (arith, pages, bytes, whole)

-- the pages of the area in which so many blocks of 256 bytes lie
area_keyed : (s : Shape) (region address count : ℕ) → region < regions → 1 ≤ count →
    256 * address + 256 * count ≤ get_or s.areas region 0 → AreWhole s →
    Keyed s (area_keys region address (address + count - 1))
area_keyed s region address count there some room whole = made_keyed s
    (λ i. area_key region (address / 16 + i)) ((address + count - 1) / 16 + 1 - address / 16)
    (λ i low. IsArea region (address / 16 + i) there
    (let pages = whole region in omega (arith, low, some, room, pages)))
    (λ i j e. let places : address / 16 + i ≡ address / 16 + j = ap (λ (k : Key). k.address) e in omega arith)

no_settings : (region n m : ℕ) (i : ℕ) → slice_get (map (λ j. area_key region (n + j)) (below m)) i ≡ Some
    settings_key →
    ⊥
no_settings region n m i h =
    let r = mapped_at (λ j. area_key region (n + j)) (below m) i settings_key h in
    let kinds : 2 ≡ 3 = ap (λ (k : Key). k.kind) r.2 in
    absurd (omega (arith, kinds))

-- a command has a key
abbrev pub HasKey : List Key → Type 0
HasKey ks = 1 ≤ length ks

key_made : (f : ℕ → Key) (n : ℕ) → 1 ≤ n → HasKey (map f (below n))
key_made f n some =
    let long = length-map (below n) f in
    let size = length-below n in
    omega arith

-- the keys of a command are keys of the device, and differ
command_keyed : (s : Shape) (c : Command) → AreWhole s → LiesWithin s c → Keyed s (keys c)
command_keyed s (command.Write unit address blocks) whole can = data_keyed s unit address (length blocks) can.0 can.3
command_keyed s (command.Zero unit address count) whole can = data_keyed s unit address count can.0 can.3
command_keyed s (command.SetKey region bytes) whole can = one_keyed s settings_key IsSettings
command_keyed s (command.RpmbWrite region address bytes) whole can =
    let count : ℕ = can.1.0.0 in
    let size : length bytes ≡ 256 * count = can.1.0.1 in
    let some = can.1.0.2 in
    let room = can.1.1 in
    let again : length bytes / 256 ≡ count = omega arith in
    let last : address + length bytes / 256 - 1 ≡ address + count - 1 = ap (λ (n : ℕ). address + n - 1) again in
    subst (λ (n : ℕ). Keyed s (area_keys region address n ++ settings_key ∷ [])) (sym last)
    (push_keyed s (area_keys region address (address + count - 1)) settings_key
    (area_keyed s region address count can.0.0 some (omega arith) whole) IsSettings
    (no_settings region (address / 16) ((address + count - 1) / 16 + 1 - address / 16)))
command_keyed s (command.SetBoot boot) whole can = one_keyed s settings_key IsSettings
command_keyed s command.SetPermanent whole can = one_keyed s settings_key IsSettings

-- an RPMB write has three keys at most
pub area_few : (s : Shape) (region address : ℕ) (bytes : List ℕ) → LiesWithin s (command.RpmbWrite region address
    bytes) →
    (1 ≤ length (keys (command.RpmbWrite region address bytes)))
    × (length (keys (command.RpmbWrite region address bytes)) ≤ 3)
area_few s region address bytes can =
    let count : ℕ = can.1.0.0 in
    let size : length bytes ≡ 256 * count = can.1.0.1 in
    let some = can.1.0.2 in
    let few = can.1.0.3 in
    let last : ℕ = address + length bytes / 256 - 1 in
    let n : ℕ = last / 16 + 1 - address / 16 in
    let long = length-append (area_keys region address last) (settings_key ∷ []) in
    let pages = length-map (below n) (λ i. area_key region (address / 16 + i)) in
    let size_of = length-below n in
    let again : length bytes / 256 ≡ count = omega arith in
    let bound : n ≤ 2 = omega arith in
    (omega arith, omega arith)

some_keys : (s : Shape) (c : Command) → LiesWithin s c → HasKey (keys c)
some_keys s (command.Write unit address blocks) can =
    key_made (λ i. data_key unit (address + i)) (length blocks) can.1
some_keys s (command.Zero unit address count) can = key_made (λ i. data_key unit (address + i)) count can.1
some_keys s (command.SetKey region bytes) can = omega arith
some_keys s (command.RpmbWrite region address bytes) can = (area_few s region address bytes can).0
some_keys s (command.SetBoot boot) can = omega arith
some_keys s command.SetPermanent can = omega arith

-- The group

abbrev item_of : Plain → Key → Item
item_of p k = record { key = k; body = content p k }

pub group_length : (p : Plain) (c : Command) → length (group_of p c) ≡ length (keys c)
group_length p c = length-map (keys c) (item_of (apply p c))

-- the item at an index has the key there, with its content behind the command
record IsAt (p : Plain) (ks : List Key) (i : ℕ) (item : Item) : Type 0 where
  at : slice_get ks i ≡ Some item.key
  body : item.body ≡ content p item.key

item_at : (p : Plain) (ks : List Key) (i : ℕ) (item : Item) → slice_get (map (item_of p) ks) i ≡ Some item →
    IsAt p ks i item
item_at p ks i item h =
    let r = mapped_at (item_of p) ks i item h in
    let key : r.0 ≡ item.key = ap (λ (x : Item). x.key) r.2 in
    record {
      at = r.1 ∙ ap Some key;
      body = sym (ap (λ (x : Item). x.body) r.2) ∙ ap (content p) key;
    }

settings_at : (p : Plain) (s : Shape) → IsSettingsBody (content p settings_key) → (k : Key) → IsKey s k → k.kind ≡ 3 →
    IsSettingsBody (content p k)
settings_at p s settings k (IsData unit address there within) e = absurd (omega arith)
settings_at p s settings k (IsArea region page there within) e = absurd (omega arith)
settings_at p s settings k IsSettings e = settings

pub command_group : (t : Translation) (p : Plain) (c : Command) → shape_of p ≡ shape_of_numbers t.numbers → IsPlain p →
    IsCommand c → CanApply p c → length (keys c) ≤ command_blocks t.numbers → IsGroup t (group_of p c)
command_group t p c shape plain is can few = record {
  some = let some = some_keys (shape_of p) c can.0 in omega (arith, long, some);
  not_long = omega (arith, long, few);
  differ = differ;
  items = λ k d lt. item k (get_or group k d) (slice_get-get_or group k d lt);
}
  where
    after : Plain
    after = apply p c

    group : Group
    group = group_of p c

    long : length group ≡ length (keys c)
    long = group_length p c

    keyed : Keyed (shape_of p) (keys c)
    keyed = command_keyed (shape_of p) c (areas_whole p plain) can.0

    differ : KeysDiffer group
    differ i j a b at also same =
        keyed.apart i j a.key (item_at after (keys c) i a at).at
        ((item_at after (keys c) j b also).at ∙ ap Some (sym same))

    item : (i : ℕ) (x : Item) → slice_get group i ≡ Some x → IsItem t x
    item i x at =
        let w = item_at after (keys c) i x at in
        let contents = contents_of after (kept_plain p c plain is can) in
        let key : IsKey (shape_of p) x.key = keyed.each i x.key w.at in
        let kept : IsKey (shape_of after) x.key = subst (λ (s : Shape). IsKey s x.key) (sym (kept_shape p c can.0))
        key in
        record {
          key = subst (λ (s : Shape). IsKey s x.key) shape key;
          block = subst IsBlock (sym w.body) (contents.blocks x.key kept);
          settings = λ kind. subst IsSettingsBody (sym w.body)
              (settings_at after (shape_of after) contents.settings x.key kept kind);
        }
