-- What a request for data keeps of the area: one page or two, each of them wanted, and none of them read yet.
use Rattle.device.proofs.Common.{Bool, List, None, Option, PartsStand, Pin, ReadBlock, ReadState, ReadingArea, Some}
use Rattle.device.proofs.Common.{Unread, WasRead, [], ap, arith, below, false, if◌then◌else◌, is_unread, ltb-false}
use Rattle.device.proofs.Common.{ltb-true, map, min, nat_lt, refl, second_read, slice_get, sym, true, wanted_kept}
use Rattle.device.proofs.Common.{wanted_of, ℕ, ◌%◌, ◌++◌, ◌+◌, ◌-◌, ◌/◌, ◌∙◌, ◌∷◌, ◌≡◌, ◌≤◌}
use Rattle.task_set.specs.Frames.{pages_read, reading_of}
use Rattle.ufs_spec.specs.declared.exchanges.ReadState.TheVariants as page
use Rattle.device.proofs.host_messages.BlocksKept.{at, made_at, made_is, own_found, wanted}

-- how many pages these blocks of the area lie in
abbrev pages_of : ℕ → ℕ → ℕ
pages_of address count = (address + count - 1) / 16 + 1 - address / 16

-- how the reads of these pages ended
abbrev states : List ReadBlock → List ReadState
states pages = map (λ (page : ReadBlock). page.state) pages

-- blocks that reach past the sixteen of their first page lie in two pages, and all others in one
in_two : (address count : ℕ) → 1 ≤ count → count ≤ 8 → nat_lt 16 (address % 16 + min count 8) ≡ true →
    pages_of address count ≡ 2
in_two address count some few e =
    let past = ltb-true 16 (address % 16 + min count 8) e in
    omega arith

in_one : (address count : ℕ) → 1 ≤ count → count ≤ 8 → nat_lt 16 (address % 16 + min count 8) ≡ false →
    pages_of address count ≡ 1
in_one address count some few e =
    let within = ltb-false 16 (address % 16 + min count 8) e in
    omega arith

-- none of them is read yet
pub none_read : (address count size : ℕ) (g : ℕ → ReadBlock) → 1 ≤ count → count ≤ 8 →
    ((j : ℕ) → (g j).state ≡ Unread) →
    states (map g (below (pages_of address count))) ≡ pages_read (reading_of address count size)
none_read address count size g some few unread = by (nat_lt 16 (address % 16 + min count 8)) refl
  where
    by : (b : Bool) → nat_lt 16 (address % 16 + min count 8) ≡ b →
        states (map g (below (pages_of address count)))
        ≡ Unread ∷ second_read (if b then Some page.Unread else None)
    by true e =
        ap (λ (n : ℕ). states (map g (below n))) (in_two address count some few e) ∙ (λ i. unread 0 i ∷ unread 1 i ∷ [])
    by false e = ap (λ (n : ℕ). states (map g (below n))) (in_one address count some few e) ∙ (λ i. unread 0 i ∷ [])

not_read : Unread ≡ WasRead → ⊥
not_read e = cc

-- so none stands in the block of the task
pub none_stands : (address count size n : ℕ) (held : Option (List ℕ)) (g : ℕ → ReadBlock) →
    ((j : ℕ) → (g j).state ≡ Unread) → PartsStand (reading_of address count size) held (ReadingArea (map g (below n)))
none_stands address count size n held g unread i block there read =
    absurd (not_read (sym (unread i) ∙ (sym (ap (λ (x : ReadBlock). x.state) (made_is g n i block there)) ∙ read)))

-- pins of these pages, for a tag that had none, are all wanted
pub all_wanted : (before : List Pin) (tag n : ℕ) (f : ℕ → Pin) (g : ℕ → ReadBlock) → ((j : ℕ) → (f j).tag ≡ tag) →
    ((j : ℕ) → (f j).index ≡ j) → ((j : ℕ) → (f j).wanted ≡ true) → ((i : ℕ) → wanted_kept before tag i ≡ None) →
    ((j : ℕ) → (g j).state ≡ Unread) → (i : ℕ) →
    wanted_kept (before ++ map f (below n)) tag i ≡ wanted_of true (slice_get (map g (below n)) i)
all_wanted before tag n f g tags indexes all none unread i =
    own_found before tag n f tags indexes none i
    ∙ sym (ap (wanted_of true) (made_at g n i) ∙ by (nat_lt i n))
  where
    by : (b : Bool) → wanted_of true (at g i b) ≡ wanted (at f i b)
    by true = (λ j. Some (is_unread (unread i j))) ∙ (λ j. Some (sym (all i) j))
    by false = refl
