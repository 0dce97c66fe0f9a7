-- The settings page of a command carries what all commands before it and its own make of the settings.
use Rattle.ufs_laws.proofs.Common.{Bool, Command, Frame, Group, Item, Key, KeyAndCounter, List, None, Option, Plain}
use Rattle.ufs_laws.proofs.Common.{Query, Region, Results, RpmbWrite, SetKey, Some, State, Task, Write, Zero, []}
use Rattle.ufs_laws.proofs.Common.{accepts_nothing, after, ap, apply, area_key, arith, below, changed_by, command_in}
use Rattle.ufs_laws.proofs.Common.{content, empty_region, false, flat_map, frames_complete, group_of, inl, inr, length}
use Rattle.ufs_laws.proofs.Common.{map, none-some, outcome_in, plain_now, query_passed, refl, region_of, said_by}
use Rattle.ufs_laws.proofs.Common.{said_of, same_Some, setting_of, settings_key, slice_get, slice_get-map, subst, sym}
use Rattle.ufs_laws.proofs.Common.{true, with_region, ℕ, ◌++◌, ◌+◌, ◌-◌, ◌/◌, ◌==◌, ◌∙◌, ◌∷◌, ◌≡◌, ◌≢◌}
use Rattle.std.proofs.Math.ListN as lists
use Rattle.std.proofs.lemmas.List.{map-set}
use Rattle.std.proofs.lemmas.List.Sums.{fold-append}
use Rattle.std.specs.Prelude.{if◌then◌else◌, option_map}
use Rattle.ufs_laws.proofs.frame_laws.RegistersEmptied.{decided_as}
use Rattle.ufs_laws.proofs.exchanges.RpmbResults.{accepted_command}
use Rattle.ufs_laws.specs.SettingsPages.{AddsPage, ChangesSettings, HasSettingsPage, Settings, settings_after}
use Rattle.ufs_laws.specs.SettingsPages.{counted, settings_after_all, settings_in, with_said}
use Rattle.ufs_spec.proofs.Lists.{get_last, get_splits}
use Rattle.ufs_spec.specs.Changes.{accepts}
use Rattle.ufs_spec.specs.Commands.{SetBoot, SetPermanent}
use Rattle.ufs_spec.specs.Keys.{area_keys}
use Rattle.ufs_spec.specs.Queries.{sets_permanent, writes_boot}

-- ## What commands make of the settings

-- what the settings say of a region
pub said_now : (p : Plain) (number : ℕ) → said_of (map said_by p.regions) number ≡ said_by (region_of p number)
said_now p number = lists.get_or-map said_by p.regions number empty_region

-- the settings say of the region that is changed what it becomes
region_changed : (p : Plain) (number : ℕ) (new : Region) →
    settings_in (with_region number new p) ≡ with_said number (said_by new) (settings_in p)
region_changed p number new =
    ap (λ (said : List KeyAndCounter). record (settings_in p) { said = said })
    (map-set said_by p.regions number new)

one_command : (p : Plain) (c : Command) → settings_in (apply p c) ≡ settings_after (settings_in p) c
one_command p (SetBoot boot) = refl
one_command p SetPermanent = refl
one_command p (SetKey number bytes) =
    region_changed p number (changed_by (region_of p number) (SetKey number bytes))
    ∙ ap (λ (r : KeyAndCounter). with_said number (record r { key = Some bytes }) (settings_in p)) (sym (said_now p number))
one_command p (RpmbWrite number address bytes) =
    region_changed p number (changed_by (region_of p number) (RpmbWrite number address bytes))
    ∙ ap (λ (r : KeyAndCounter). with_said number (record r { counter = r.counter + 1 }) (settings_in p))
    (sym (said_now p number))
one_command p (Write unit address blocks) = refl
one_command p (Zero unit address count) = refl

pub commands : (p : Plain) (cs : List Command) → settings_in (after p cs) ≡ settings_after_all (settings_in p) cs
commands p [] = refl
commands p (c ∷ cs) =
    commands (apply p c) cs ∙ ap (λ (s : Settings). settings_after_all s cs) (one_command p c)

-- a write counts one more
pub write_counts : (p : Plain) (region address : ℕ) (bytes : List ℕ) →
    settings_after (settings_in p) (RpmbWrite region address bytes) ≡ counted p region
write_counts p region address bytes =
    ap (λ (r : KeyAndCounter). with_said region (record r { counter = r.counter + 1 }) (settings_in p))
    (said_now p region)

-- ## The group of a command

-- the pages of these keys, as they are in a plain state
abbrev pages : Plain → List Key → Group
pages p ks = map (λ (k : Key). record { key = k; body = content p k }) ks

mapped : {A B : Type 0} (f : A → B) (o : Option A) (y : B) → option_map f o ≡ Some y →
    (x : A) × (o ≡ Some x) × (f x ≡ y)
mapped f None y e = absurd (none-some y e)
mapped f (Some x) y e = (x, refl, same_Some (f x) y e)

-- none of the keys is that of the settings
abbrev AreOthers : List Key → Type 0
AreOthers ks = (i : ℕ) (k : Key) → slice_get ks i ≡ Some k → k ≢ settings_key

-- the page of the settings comes after those of other keys
last_page : (p : Plain) (ks : List Key) → AreOthers ks →
    HasSettingsPage (pages p (ks ++ settings_key ∷ [])) (settings_in p)
last_page p ks others = record {
  index = length ks;
  page = slice_get-map of_key (ks ++ settings_key ∷ []) (length ks) ∙ ap (option_map of_key) (get_last ks settings_key);
  no_other = no_other;
}
  where
    of_key : Key → Item
    of_key k = record { key = k; body = content p k }

    no_other : (i : ℕ) (item : Item) → slice_get (pages p (ks ++ settings_key ∷ [])) i ≡ Some item →
        item.key ≡ settings_key → i ≡ length ks
    no_other i item e same =
        let found = mapped of_key (slice_get (ks ++ settings_key ∷ []) i) item
        (sym (slice_get-map of_key (ks ++ settings_key ∷ []) i) ∙ e) in
        let is : found.0 ≡ settings_key = ap (λ (x : Item). x.key) found.2 ∙ same in
        elim (get_splits ks settings_key i found.0 found.1) [
          | inl before ↦ absurd (others i found.0 before is)
          | inr last ↦ last.0
        ]

no_keys : AreOthers []
no_keys i k e = absurd (none-some k e)

area_is_other : (region page : ℕ) → area_key region page ≢ settings_key
area_is_other region page e = let kinds : 2 ≡ 3 = ap (λ (k : Key). k.kind) e in omega (arith, kinds)

areas_are_others : (region first last : ℕ) → AreOthers (area_keys region first last)
areas_are_others region first last i k e same =
    let of_page : ℕ → Key = λ (j : ℕ). area_key region (first / 16 + j) in
    let found = mapped of_page (slice_get (below (last / 16 + 1 - first / 16)) i) k
    (sym (slice_get-map of_page (below (last / 16 + 1 - first / 16)) i) ∙ e) in
    area_is_other region (first / 16 + found.0) (found.2 ∙ same)

has_page : (p : Plain) (c : Command) → ChangesSettings c → HasSettingsPage (group_of p c) (settings_in (apply p c))
has_page p (SetBoot boot) changes = last_page (apply p (SetBoot boot)) [] no_keys
has_page p SetPermanent changes = last_page (apply p SetPermanent) [] no_keys
has_page p (SetKey number bytes) changes = last_page (apply p (SetKey number bytes)) [] no_keys
has_page p (RpmbWrite number address bytes) changes =
    last_page (apply p (RpmbWrite number address bytes))
    (area_keys number address (address + length bytes / 256 - 1))
    (areas_are_others number address (address + length bytes / 256 - 1))
has_page p (Write unit address blocks) changes = absurd changes
has_page p (Zero unit address count) changes = absurd changes

-- ## What is accepted

adds : (s t : State) (c : Command) → ChangesSettings c →
    t.translation.ledger.groups ≡ s.translation.ledger.groups ++ group_of (plain_now s) c ∷ [] →
    AddsPage s t (settings_after (settings_in (plain_now s)) c)
adds s t c changes behind = (
  group_of (plain_now s) c,
  behind,
  subst (HasSettingsPage (group_of (plain_now s) c))
      (one_command (plain_now s) c) (has_page (plain_now s) c changes),
)

abbrev changed : State → Command → Settings
changed s c = settings_after (settings_in (plain_now s)) c

pub accepted : (s : State) (c : Command) (claimed : ℕ) → ChangesSettings c →
    AddsPage s (accepts s c claimed) (changed s c)
accepted s c claimed changes = adds s (accepts s c claimed) c changes refl

-- the device has what the command makes of what it had
pub now_applied : (s : State) (c : Command) (claimed : ℕ) → plain_now (accepts s c claimed) ≡ apply (plain_now s) c
now_applied s c claimed = fold-append apply s.base s.accepted (c ∷ [])

pub as_it_is : (s : State) (c : Command) (claimed : ℕ) → ChangesSettings c →
    AddsPage s (accepts s c claimed) (settings_in (plain_now (accepts s c claimed)))
as_it_is s c claimed changes = (
  group_of (plain_now s) c,
  refl,
  subst (λ (p : Plain). HasSettingsPage (group_of (plain_now s) c) (settings_in p)) (sym (now_applied s c claimed))
      (has_page (plain_now s) c changes),
)

pub of_all : (s : State) (c : Command) (claimed : ℕ) → ChangesSettings c →
    AddsPage s (accepts s c claimed) (settings_after_all (settings_in s.base) (s.accepted ++ c ∷ []))
of_all s c claimed changes =
    subst (AddsPage s (accepts s c claimed)) (commands s.base (s.accepted ++ c ∷ []))
    (as_it_is s c claimed changes)

-- ## Two of them

pub second : (s : State) (c d : Command) (m n : ℕ) → ChangesSettings d →
    AddsPage (accepts s c m) (accepts (accepts s c m) d n) (settings_after (changed s c) d)
second s c d m n changes =
    let had : settings_in (plain_now (accepts s c m)) ≡ changed s c = ap settings_in (now_applied s c m)
    ∙ one_command (plain_now s) c in
    subst (λ (x : Settings). AddsPage (accepts s c m) (accepts (accepts s c m) d n) (settings_after x d)) had
    (accepted (accepts s c m) d n changes)

-- ## Settings and requests

setting_changes : (q : Query) (c : Command) → setting_of q ≡ Some c → ChangesSettings c
setting_changes q c e = by (writes_boot q) (sets_permanent q) e
  where
    by : (a b : Bool) → (if a then Some (SetBoot q.value) else if b then Some SetPermanent else None) ≡ Some c →
        ChangesSettings c
    by true b k = subst ChangesSettings (same_Some (SetBoot q.value) c k) tt
    by false true k = subst ChangesSettings (same_Some SetPermanent c k) tt
    by false false k = absurd (none-some c k)

pub of_setting : (s : State) (tag : ℕ) (q : Query) (c : Command) → setting_of q ≡ Some c →
    AddsPage s (query_passed s tag q (setting_of q)) (changed s c)
of_setting s tag q c e =
    adds s (query_passed s tag q (setting_of q)) c (setting_changes q c e)
    (ap (λ (o : Option Command). (query_passed s tag q o).translation.ledger.groups) e)

request_changes : (region : ℕ) (f : Frame) (fs : List Frame) (c : Command) → command_in region f fs ≡ Some c →
    ChangesSettings c
request_changes region f fs c e = by (f.kind == 1) (f.kind == 3) e
  where
    key : Command
    key = SetKey region f.key_or_mac

    write : Command
    write = RpmbWrite region f.address (flat_map (λ (g : Frame). g.payload) (f ∷ fs))

    by : (a b : Bool) → (if a then Some key else if b then Some write else None) ≡ Some c → ChangesSettings c
    by true b k = subst ChangesSettings (same_Some key c k) tt
    by false true k = subst ChangesSettings (same_Some write c k) tt
    by false false k = absurd (none-some c k)

pub of_request : (s : State) (task : Task) (region : ℕ) (f : Frame) (fs : List Frame) (result : ℕ) (c : Command) →
    outcome_in s region (f ∷ fs) ≡ Results result (Some c) →
    AddsPage s (frames_complete s task region (f ∷ fs)) (changed s c)
of_request s task region f fs result c e =
    adds s (frames_complete s task region (f ∷ fs)) c
    (request_changes region f fs c
    (accepted_command region (region_of (plain_now s) region) (s.registers region) (accepts_nothing s) f fs result c e))
    (ap (λ (t : State). t.translation.ledger.groups)
    (decided_as s task region (f ∷ fs) (Results result (Some c)) e))
