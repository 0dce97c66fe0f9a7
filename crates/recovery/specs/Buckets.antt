-- What is noted of the pages of one group number, and what the groups behind a number are.
use Rattle.std.specs.Prelude.{◌≡◌, ◌≢◌, ◌⊎◌, ◌↔◌, ℕ, suc, ◌+◌, ◌-◌, ◌*◌, ◌^◌, ◌<◌, ◌≤◌, ◌==◌, ◌&&◌, ◌||◌, Bool}
use Rattle.std.specs.Prelude.{List, Some, false, if◌then◌else◌, length, min, not, slice_get, true}
use Rattle.ufs_spec.specs.Pages.{IsTag, greatest_number, group_bound}
use Rattle.ufs_spec.specs.declared.flash.Tag.{Tag}
use Rattle.recovery.specs.declared.kept.Bucket.{Bucket}
use Rattle.recovery.specs.declared.kept.Groups.{Groups}
use Rattle.recovery.specs.declared.pages.FoundPage.{FoundPage}

-- the tag of each page has its ranges
abbrev pub AreTags : List FoundPage → Type 0
AreTags pages = (j : ℕ) (e : FoundPage) → slice_get pages j ≡ Some e → IsTag e.tag

-- the page is one of the first of the list
abbrev pub IsAmong : List FoundPage → ℕ → FoundPage → Type 0
IsAmong pages i e = (j : ℕ) × (j < i) × (slice_get pages j ≡ Some e)

-- the page is one of the first, and of the group with the number
abbrev pub IsOfGroup : List FoundPage → ℕ → ℕ → FoundPage → Type 0
IsOfGroup pages i n e = IsAmong pages i e × (e.tag.number ≡ n)

-- what is noted of no page
abbrev pub nothing_noted : Bucket
nothing_noted = record { size = 0; mixed = false }

-- a page of the group is noted, which says this size
unfoldable pub noted : Bucket → ℕ → Bucket
noted b size = record {
  size = if b.size == 0 then size else b.size;
  mixed = b.mixed || (not (b.size == 0) && not (b.size == size));
}

-- a page has the index x in the bucket at the place k: one set has the indexes of all buckets, bucket after bucket
abbrev pub HasIndex : List Bool → (k x : ℕ) → Type 0
HasIndex seen k x = slice_get seen (k * group_bound + x) ≡ Some true

-- the set has numbers for the indexes of each bucket, and no others
pub record HasRoom (g : Groups) : Type 0 where
  pub each : length g.seen ≡ length g.buckets.items * group_bound
  pub few : length g.seen < 2 ^ 64

-- the page is noted in the bucket of its number, if there is one, with its index, and the others stay
pub record IsNotedAt (old : Groups) (from : ℕ) (t : Tag) (new : Groups) : Type 0 where
  pub other : (k : ℕ) (b : Bucket) → slice_get new.buckets.items k ≡ Some b → t.number ≢ suc (from + k) →
      slice_get old.buckets.items k ≡ Some b
  pub here : (k : ℕ) (b : Bucket) → slice_get new.buckets.items k ≡ Some b → t.number ≡ suc (from + k) →
      (a : Bucket) × (slice_get old.buckets.items k ≡ Some a) × (b ≡ noted a t.size)
  pub indexes : (k x : ℕ) → k < length new.buckets.items → x < group_bound →
      HasIndex new.seen k x ↔ HasIndex old.seen k x ⊎ ((t.number ≡ suc (from + k)) × (t.index ≡ x))
  pub count : length new.buckets.items ≡ length old.buckets.items
  pub room : length new.seen ≡ length old.seen

-- what is noted of the pages of the group with the number, of the first pages of the list, and which indexes there are
pub record IsBucket (pages : List FoundPage) (i n : ℕ) (b : Bucket) (Has : ℕ → Type 0) : Type 0 where
  -- no size is noted if no page is of the group, and else the size that one of them says
  pub none : b.size ≡ 0 → (e : FoundPage) → IsOfGroup pages i n e → ⊥
  pub some : b.size ≢ 0 → (e : FoundPage) × IsOfGroup pages i n e × (e.tag.size ≡ b.size)
  -- whether one of them says another size
  pub same : b.mixed ≡ false → (e : FoundPage) → IsOfGroup pages i n e → e.tag.size ≡ b.size
  pub differ : b.mixed ≡ true → (e : FoundPage) × IsOfGroup pages i n e × (e.tag.size ≢ b.size)
  -- which indexes they have
  pub seen : (x : ℕ) → x < group_bound → Has x → (e : FoundPage) × IsOfGroup pages i n e × (e.tag.index ≡ x)
  pub all : (e : FoundPage) → IsOfGroup pages i n e → Has e.tag.index

-- the pages that are noted say one size, and each index below it is there
pub record IsWholeBucket (b : Bucket) (Has : ℕ → Type 0) : Type 0 where
  pub one_size : b.mixed ≡ false
  pub some : 0 < b.size
  pub within : b.size ≤ group_bound
  pub each : (x : ℕ) → x < b.size → Has x

-- a bucket for each of the numbers behind this one, as many as there are pages, up to the greatest number of all
pub record AreBuckets (pages : List FoundPage) (from : ℕ) (g : Groups) : Type 0 where
  pub count : length g.buckets.items ≡ min (length pages) (greatest_number - from)
  pub room : HasRoom g
  pub each : AreTags pages → (k : ℕ) (b : Bucket) → slice_get g.buckets.items k ≡ Some b →
      IsBucket pages (length pages) (suc (from + k)) b (HasIndex g.seen k)
