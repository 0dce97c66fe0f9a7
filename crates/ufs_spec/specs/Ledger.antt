-- What is known in one life of numbers, groups and contents, whatever pages they lie on (this profile).
-- Only `standing` says where pages are.
use Rattle.std.specs.Prelude.{ℕ, zero, suc, ◌+◌, ◌-◌, ◌==◌, ◌&&◌, nat_le, nat_lt, Bool, true, false, if◌then◌else◌}
use Rattle.std.specs.Prelude.{is_some, List, [], ◌∷◌, drop, length, position, slice_get, take, Option, Some, None}
use Rattle.std.specs.Prelude.{option_and_then, option_map}
use Rattle.ufs_spec.specs.Cells.{Mark}
use Rattle.ufs_spec.specs.Keys.{Contents, Group, Item, put_groups, same_key}
use Rattle.ufs_spec.specs.declared.flash.Key.{Key}
use Rattle.ufs_spec.specs.declared.flash.Place.{Place}
use Rattle.ufs_spec.specs.declared.layer.Looked.{Looked}
use Rattle.ufs_spec.specs.declared.layer.Looked.TheVariants.{InSlot, OnPage, Unwritten}
use Rattle.ufs_spec.specs.declared.layer.Name.{Name}

-- Names of pages

-- compares two names by number and index
abbrev pub same_name : Name → Name → Bool
same_name a b = (a.number == b.number) && (a.index == b.index)

-- what a page has under its name: its item, and the size of its group
pub record Entry : Type 0 where
  pub item : Item
  pub size : ℕ

-- what one life knows of numbers, groups and contents
pub record Ledger : Type 0 where
  -- the contents at the life's start
  pub base : Contents
  -- the pages that were there then, by name, and of each key the one that had its content
  pub entries_before : ℕ → ℕ → Option Entry
  pub first_page : Key → Option Name
  -- the greatest number seen then; numbers from `first_lost` to it are lost, none if `first_lost` is above it
  pub greatest_seen : ℕ
  pub first_lost : ℕ
  -- the groups of this life, numbered from `greatest_seen` + 1 on: so many repairs,
  -- and then those of accepted commands
  pub groups : List Group
  pub repairs : ℕ
  -- where the page of a name is: of copies the one whose program ended last. It stays so
  -- when that block is erased later
  pub standing : ℕ → ℕ → Option Place
  -- at or under it every group is wholly programmed or lost: what is not kept at the life's
  -- start is lost from then on
  pub frontier : ℕ
  -- the newest finished mark, and the greatest number that a mark was given
  pub newest : Option Mark
  pub marks : ℕ
  -- how many accepted commands, from the first on, are acknowledged as durable
  pub held : ℕ

-- Groups by number

-- the group of this life that has the number; none if the number is older or not given yet
abbrev pub group_at : Ledger → ℕ → Option Group
group_at l n = if nat_le n l.greatest_seen then None else slice_get l.groups (n - l.greatest_seen - 1)

-- what the page with an index has in a group of this life
abbrev pub entry_in : Group → ℕ → Option Entry
entry_in g i = option_map (λ item. record { item = item; size = length g }) (slice_get g i)

-- what the page of a name has, be it of an earlier life or of this one
abbrev pub entry_of : Ledger → Name → Option Entry
entry_of l name =
    if nat_le name.number l.greatest_seen then l.entries_before name.number name.index
    else option_and_then (λ g. entry_in g name.index) (group_at l name.number)

-- the number that the next group gets
abbrev pub next_number : Ledger → ℕ
next_number l = l.greatest_seen + length l.groups + 1

-- the groups of accepted commands, without the repairs before them
abbrev pub accepted_groups : Ledger → List Group
accepted_groups l = drop l.repairs l.groups

-- the number before the first accepted command of this life: the n-th one has the number that is n more
abbrev pub before_accepted : Ledger → ℕ
before_accepted l = l.greatest_seen + l.repairs

-- the groups that are accepted and not durable, in order of number
abbrev pub pending : Ledger → List Group
pending l = drop (l.frontier - before_accepted l) (accepted_groups l)

-- the contents that are durable: after the groups of this life at or under the frontier
abbrev pub durable_contents : Ledger → Contents
durable_contents l = put_groups l.base (take (l.frontier - l.greatest_seen) l.groups)

-- the contents as a host sees them: after all groups of this life, durable or not
abbrev pub all_contents : Ledger → Contents
all_contents l = put_groups l.base l.groups

-- The frontier

-- whether the page of this number and index was there at the life's start or its program has ended well
abbrev pub is_standing : Ledger → ℕ → ℕ → Bool
is_standing l n i = is_some (l.standing n i)

-- whether the pages with an index below this one stand: with the group's size, whether the whole group does
abbrev pub all_stand : (ℕ → Bool) → ℕ → Bool
all_stand stands zero = true
all_stand stands (suc i) = stands i && all_stand stands i

-- from a number on, over the groups after it, up to the first that is not wholly there
abbrev pub climbed : (ℕ → ℕ → Bool) → ℕ → List Group → ℕ
climbed stands n [] = n
climbed stands n (g ∷ gs) = if all_stand (stands (suc n)) (length g) then climbed stands (suc n) gs else n

-- the function with one value changed: that of this name
abbrev pub at_name : {A : Type 0} → (ℕ → ℕ → A) → Name → A → ℕ → ℕ → A
at_name f name x n i = if (n == name.number) && (i == name.index) then x else f n i

-- the frontier climbs over the groups after it that are wholly there; it never falls in a life
abbrev pub climbs : Ledger → Ledger
climbs l = record l { frontier = climbed (is_standing l) l.frontier (drop (l.frontier - l.greatest_seen) l.groups) }

-- a page's program ended well at this place, so the frontier may climb
abbrev pub page_stands : Ledger → Name → Place → Ledger
page_stands l name p = climbs (record l { standing = at_name l.standing name (Some p) })

-- What a key has

-- the index of the page in the group that has the key; none if the group does not have it
abbrev pub index_in : Key → Group → Option ℕ
index_in k g = position (λ (item : Item). same_key item.key k) g

-- the page of group n that has the key, else an older one
abbrev pub name_or : ℕ → Option ℕ → Option Name → Option Name
name_or n (Some i) older = Some (record { number = n; index = i })
name_or n None older = older

-- the page with the key in the last of the groups after number n that has it, else an older one
abbrev pub latest_in : Key → ℕ → List Group → Option Name → Option Name
latest_in k n [] older = older
latest_in k n (g ∷ gs) older = latest_in k (suc n) gs (name_or (suc n) (index_in k g) older)

-- the page with the key's content at the frontier; none if no page has it, so that it is zeros
abbrev pub latest_durable : Ledger → Key → Option Name
latest_durable l k = latest_in k l.greatest_seen (take (l.frontier - l.greatest_seen) l.groups) (l.first_page k)

-- the page with the key's content after all groups, durable or not; none if no page has it, so that it is zeros
abbrev pub latest : Ledger → Key → Option Name
latest l k = latest_in k l.greatest_seen l.groups (l.first_page k)

-- whether this is the name that was found
abbrev pub is_name : Name → Option Name → Bool
is_name name None = false
is_name name (Some other) = same_name name other

-- What was looked up

-- a durable page is found at the place where it stands; one that stands nowhere is taken as never written
abbrev pub looked_on : Name → Option Place → Looked
looked_on name None = Unwritten
looked_on name (Some place) = OnPage name place

-- where the page of a name is found: in its slot until its group is durable, also
-- if this page is programmed already
abbrev pub looked_at : Ledger → Option Name → Looked
looked_at l None = Unwritten
looked_at l (Some name) =
    if nat_lt l.frontier name.number then InSlot name else looked_on name (l.standing name.number name.index)

-- what holds the content of the key after all groups
abbrev pub look : Ledger → Key → Looked
look l k = looked_at l (latest l k)

-- who looked at a slot whose group is durable now looks at its page; any other look stays as it was
abbrev pub settled_look : Ledger → Looked → Looked
settled_look l (InSlot name) = looked_at l (Some name)
settled_look l looked = looked
