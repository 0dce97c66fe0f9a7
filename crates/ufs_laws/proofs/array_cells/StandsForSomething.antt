-- A sound array stands for a plain state, and new dies for a new device.
use Rattle.ufs_laws.proofs.Common.{All-map, AreWithin, Array, Cell, Cells, Contents, DataHold, GroupPage, Holds}
use Rattle.ufs_laws.proofs.Common.{IsBlock, IsCell, IsKept, IsKey, IsNewestMark, IsPlain, IsSettingsBody, Key, List}
use Rattle.ufs_laws.proofs.Common.{Mark, None, Nothing, Numbers, Opens, Option, Page, Place, Plain, Shows, Tag, ap}
use Rattle.ufs_laws.proofs.Common.{arith, content, inl, inr, length-map, refl, regions, settings_key, shape_of}
use Rattle.ufs_laws.proofs.Common.{shape_of_numbers, subst, suc, sym, ℕ, ◌*◌, ◌/◌, ◌≡◌}
use Rattle.ufs_spec.specs.Counting.{below}
use Rattle.ufs_laws.proofs.pages.BlankPages.{blank_is_nothing, blank_opens_not, nothing_is_blank, zeros_are_settings}
use Rattle.ufs_laws.proofs.array_cells.EmptyCells as cells
use Rattle.ufs_laws.proofs.array_cells.NewestFound.{holds}
use Rattle.ufs_spec.proofs.CellKinds.{page_not_nothing}
use Rattle.ufs_laws.proofs.array_cells.KeptNumberFound.{kept}
use Rattle.ufs_spec.specs.Cells.{IsPlace}
use Rattle.ufs_spec.specs.Dies.{blank_page}
use Rattle.ufs_spec.specs.Keys.{AreContents, HasWholeAreas, plain_of}
use Rattle.ufs_spec.specs.Kept.{CellsStandFor, StandsFor}
use Rattle.ufs_spec.specs.Plain.{Shape, area_len, zero_block}
use Rattle.ufs_spec.specs.Plain as plain
use Rattle.ufs_spec.specs.Sound.{Sound, Suits}
use Rattle.ufs_laws.proofs.pages.ByteLists.{zero_block_is}

-- What contents found on pages are

page_opens : (page : Page) (x : Cell) (t : Tag) (body : List ℕ) → IsCell page x → x ≡ GroupPage t body →
    Opens page t body × DataHold t body
page_opens page x t body h e = let g = subst (IsCell page) e h in (g.0, g.1)

block_held : (array : Array) (c : Cells) (m : Option Mark) (bound : ℕ) (k : Key) (x : List ℕ) → Shows array c →
    Holds c m bound k x → IsBlock x
block_held array c m bound k x shown (inl (p, t, h)) =
    (page_opens (array p) (c p) t x (shown p) h.counts.there).0.body_right
block_held array c m bound k x shown (inr (none, e)) = subst IsBlock (sym e) zero_block_is

settings_held : (array : Array) (c : Cells) (m : Option Mark) (bound : ℕ) (x : List ℕ) → Shows array c →
    Holds c m bound settings_key x → IsSettingsBody x
settings_held array c m bound x shown (inl (p, t, h)) =
    (page_opens (array p) (c p) t x (shown p) h.counts.there).1.settings (ap (λ k. k.kind) h.key)
settings_held array c m bound x shown (inr (none, e)) = subst IsSettingsBody (sym e) zeros_are_settings

-- what the laws of plain states say, as facts that the lemmas here take
abbrev pub ContentsArePlain : Type 0
ContentsArePlain =
    (s : Shape) (f : Contents) → AreContents s f → HasWholeAreas s → IsPlain
    (plain_of s f) × (shape_of (plain_of s f) ≡ s)

abbrev pub ContentsAreThere : Type 0
ContentsAreThere =
    (s : Shape) (f : Contents) → AreContents s f → HasWholeAreas s → (k : Key) → IsKey s k → content
    (plain_of s f) k ≡ f k

-- the areas have whole pages
whole_pages : (n : Numbers) → HasWholeAreas (shape_of_numbers n)
whole_pages n = record {
  count = length-map (below regions) (area_len n);
  whole =
      All-map (λ (bytes : ℕ). bytes ≡ 4096 * (bytes / 4096)) (area_len n) (below regions) (λ k d lt. (omega arith));
}

module _ (are_plain : ContentsArePlain) (are_there : ContentsAreThere) (n : Numbers) (array : Array) (c : Cells)
    (within : AreWithin n c) (shown : Shows array c) (m : Option Mark) where
  last : ℕ
  last = (kept n c within m).0

  held : (k : Key) → (x : List ℕ) × Holds c m (suc last) k x
  held k = holds n c within m (suc last) k

  contents : Contents
  contents k = (held k).0

  are_contents : AreContents (shape_of_numbers n) contents
  unfolding contents
  are_contents = record {
    blocks = λ k key. block_held array c m (suc last) k (contents k) shown (held k).1;
    settings = settings_held array c m (suc last) (contents settings_key) shown (held settings_key).1;
  }

  content_held : (k : Key) → Holds c m (suc last) k (contents k)
  unfolding contents
  content_held k = (held k).1

  last_kept : IsKept c m last
  unfolding last
  last_kept = (kept n c within m).1

  found : IsNewestMark c m → CellsStandFor n c (plain_of (shape_of_numbers n) contents)
  found newest =
      let s = shape_of_numbers n in
      let right = are_plain s contents are_contents (whole_pages n) in
      record {
        newest = m;
        is_newest = newest;
        kept = last;
        is_kept = last_kept;
        shape = right.1;
        plain = right.0;
        holds =
            λ k key. subst (Holds c m (suc last) k) (sym (are_there s contents are_contents (whole_pages n) k key))
            (content_held k);
      }

-- blank pages outside the dies are nothing
pub within_dies : (n : Numbers) (array : Array) (c : Cells) → ((p : Place) → (IsPlace n p → ⊥) → array p ≡ blank_page) →
    Shows array c → AreWithin n c
within_dies n array c outside shown p h =
    blank_is_nothing (c p) (subst (λ page. IsCell page (c p)) (outside p h) (shown p))

pub stands_for_something : ContentsArePlain → ContentsAreThere → (n : Numbers) (array : Array) →
    ((p : Place) → (IsPlace n p → ⊥) → array p ≡ blank_page) → Sound array → Suits n array →
    (p : Plain) × StandsFor n array p
stands_for_something are_plain are_there n array outside s suits =
    let within = within_dies n array s.cells outside s.shown in (
      plain_of (shape_of_numbers n) (contents are_plain are_there n array s.cells within s.shown s.newest),
      (s.cells, s.shown, found are_plain are_there n array s.cells within s.shown s.newest s.is_newest),
    )

-- New dies

abbrev pub empty : Cells
empty p = Nothing

abbrev pub AllBlank : Array → Type 0
AllBlank array = (p : Place) → array p ≡ blank_page

pub shows_nothing : (array : Array) → AllBlank array → Shows array empty
shows_nothing array blank p = subst (λ page. IsCell page Nothing) (sym (blank p)) nothing_is_blank

pub no_page : (t : Tag) (body : List ℕ) → Nothing ≡ GroupPage t body → ⊥
no_page t body e = page_not_nothing Nothing t body e refl

no_newest : IsNewestMark empty None
no_newest = cells.no_mark empty (λ p. refl)

pub new_sound : (array : Array) → AllBlank array → Sound array
new_sound array blank = record {
  cells = empty;
  shown = shows_nothing array blank;
  newest = None;
  is_newest = no_newest;
  sound = cells.sound empty (λ p. refl);
  hold = λ p t body h. absurd (blank_opens_not t body (subst (λ page. Opens page t body) (blank p) h));
}

pub new_suits : (n : Numbers) (array : Array) → AllBlank array → Suits n array
new_suits n array blank = record {
  cells = empty;
  shown = shows_nothing array blank;
  newest = None;
  is_newest = no_newest;
  suit = cells.suit empty (λ p. refl) n;
}

-- what the laws of a new device say
abbrev pub NewIsPlain : Type 0
NewIsPlain = (n : Numbers) → IsPlain (plain.zero n)

abbrev pub NewIsZeros : Type 0
NewIsZeros = (n : Numbers) (k : Key) → IsKey (shape_of_numbers n) k → content (plain.zero n) k ≡ zero_block

abbrev pub NewHasShape : Type 0
NewHasShape = (n : Numbers) → shape_of (plain.zero n) ≡ shape_of_numbers n

pub new_stands_for_zero : NewHasShape → NewIsPlain → NewIsZeros → (n : Numbers) (array : Array) → AllBlank array →
    StandsFor n array (plain.zero n)
new_stands_for_zero shape is_plain zeros n array blank = (
  empty,
  shows_nothing array blank,
  record {
    newest = None;
    is_newest = no_newest;
    kept = 0;
    is_kept = cells.none_kept empty (λ p. refl) None;
    shape = shape n;
    plain = is_plain n;
    holds = λ k key. inr (cells.none_has empty (λ p. refl) None 1 k, zeros n k key);
  },
)
