-- A plain state is the same as a content for each key.
use Rattle.ufs_laws.proofs.Common.{All, Contents, IsArea, IsBlock, IsData, IsKey, IsKeyAndCounter, IsPlain, IsRegion}
use Rattle.ufs_laws.proofs.Common.{IsSettings, IsSettingsBody, Key, KeyAndCounter, List, Plain, Region, [], ap}
use Rattle.ufs_laws.proofs.Common.{area_key, area_page, arith, below, content, data_key, empty_region, flat_map, get_or}
use Rattle.ufs_laws.proofs.Common.{get_or-map, length, length-map, map, refl, region_of, regions, said_by, said_in}
use Rattle.ufs_laws.proofs.Common.{said_of, settings_key, shape_of, slice_index, slice_index_or, subst, sym, take_all}
use Rattle.ufs_laws.proofs.Common.{ℕ, ◌*◌, ◌/◌, ◌<◌, ◌==◌, ◌∙◌, ◌≡◌}
use Rattle.std.proofs.Math.ListN as lists
use Rattle.std.proofs.lemmas.List.{get_or_default, same_lists}
use Rattle.ufs_spec.specs.Keys.{AreContents, HasWholeAreas, counter_in, key_in, plain_of, region_in, region_pages}
use Rattle.ufs_spec.specs.Keys.{settings_of}
use Rattle.ufs_spec.specs.Plain.{Shape}
use Rattle.ufs_spec.proofs.RegionPages.{pages_held}
use Rattle.ufs_laws.proofs.pages.ByteLists.{bytes-joined, page_is_block}
use Rattle.ufs_laws.proofs.plain_contents.CommandsKeepPlain.{its_region, settings_ranges}
use Rattle.ufs_laws.proofs.plain_contents.ListParts.{get_or-made, joined_part, joined_same, length-joined, length-made}
use Rattle.ufs_laws.proofs.plain_contents.ListParts.{made_of, made_same, parts_joined}
use Rattle.ufs_laws.proofs.pages.SettingsBodies.{ReadsBack, ranges_read, read_back, said_right, said_there}
use Rattle.ufs_laws.proofs.pages.SettingsBodies.{settings_block, written_again}

-- The contents of a plain state

-- the settings of a plain state are a body of settings
settings_body : (p : Plain) → IsPlain p → IsSettingsBody (settings_of p)
settings_body p plain = record {
  boot = p.boot;
  permanent = p.permanent;
  said = map said_by p.regions;
  ranges = settings_ranges p plain;
  bytes = refl;
}

pub content_is_block : (p : Plain) → IsPlain p → (k : Key) → IsKey (shape_of p) k → IsBlock (content p k)
content_is_block p plain k (IsData unit address there within) =
    let lt : unit < length p.units = omega (arith, length-map p.units length) in
    let size = get_or-map length p.units unit [] 0 lt in
    plain.blocks unit [] lt address [] (omega arith)
content_is_block p plain k (IsArea region page there within) =
    page_is_block (region_of p region).area page (its_region p region plain there).area_bytes
    (omega (arith, within, pages_held p region))
content_is_block p plain k IsSettings =
    settings_block p.boot p.permanent (map said_by p.regions) (settings_ranges p plain)

pub contents_of : (p : Plain) → IsPlain p → AreContents (shape_of p) (content p)
contents_of p plain = record { blocks = content_is_block p plain; settings = settings_body p plain }

-- Back from contents

-- the units of contents
abbrev pub units_of : Shape → Contents → List (List (List ℕ))
units_of s f =
    map (λ (unit : ℕ). map (λ (address : ℕ). f (data_key unit address)) (below (slice_index_or s.blocks unit 0)))
    (below (length s.blocks))

-- how many pages the area of a region has
abbrev pub pages_in : Shape → ℕ → ℕ
pages_in s number = slice_index_or (region_pages s) number 0

-- the area of a region of contents
abbrev pub area_of : Shape → Contents → ℕ → List ℕ
area_of s f number = flat_map (λ (page : ℕ). f (area_key number page)) (below (pages_in s number))

-- the regions of contents
abbrev pub regions_of : Shape → Contents → List Region
regions_of s f = map (region_in s f) (below regions)

units_back : (p : Plain) → units_of (shape_of p) (content p) ≡ p.units
units_back p =
    let blocks : List ℕ = map length p.units in
    let long = length-map p.units length in
    made_of
    (λ (unit : ℕ). map (λ (address : ℕ). content p (data_key unit address)) (below (slice_index_or blocks unit 0)))
    (length blocks) p.units (sym long)
    (λ (unit : ℕ) (d : List (List ℕ)) there.
    (let lt : unit < length p.units = omega arith in
    let size : slice_index_or blocks unit 0 ≡ length (get_or p.units unit d) = get_or-map length p.units unit d 0 lt in
    made_of (λ (address : ℕ). content p (data_key unit address)) (slice_index_or blocks unit 0) (get_or p.units unit d)
    (sym size)
    (λ (address : ℕ) (e : List ℕ) within.
    (let inside : address < length (get_or p.units unit d) = omega arith in
    ap (λ (bs : List (List ℕ)). get_or bs address []) (get_or_default p.units unit [] d lt)
    ∙ get_or_default (get_or p.units unit d) address [] e inside))))

area_back : (p : Plain) → IsPlain p → (number : ℕ) → number < regions →
    area_of (shape_of p) (content p) number ≡ (region_of p number).area
area_back p plain number there =
    let pages : ℕ = pages_in (shape_of p) number in
    let area : List ℕ = (region_of p number).area in
    parts_joined 4096 pages area
    ∙ take_all (4096 * pages) area (omega (arith, (its_region p number plain there).area, pages_held p number))

-- what is read of the settings
settings_back : (p : Plain) → IsPlain p →
    ReadsBack (settings_of p) p.boot p.permanent (map said_by p.regions)
settings_back p plain = read_back p.boot p.permanent (map said_by p.regions) (settings_ranges p plain)

-- what is read of a region is what the settings say of it
said_back : (p : Plain) → IsPlain p → (number : ℕ) → number < regions →
    said_of (said_in (settings_of p)) number ≡ said_by (region_of p number)
said_back p plain number there =
    ap (λ (said : List KeyAndCounter). said_of said number) (settings_back p plain).said_is
    ∙ lists.get_or-map said_by p.regions number empty_region

-- the region has the key and the counter that the settings say
region_back : (p : Plain) → IsPlain p → (number : ℕ) → number < regions →
    region_in (shape_of p) (content p) number ≡ region_of p number
region_back p plain number there =
    let said = sym (said_there (settings_of p) number there) ∙ said_back p plain number there in
    let key = ap (λ (r : KeyAndCounter). r.key) said in
    let counter = ap (λ (r : KeyAndCounter). r.counter) said in
    let area = area_back p plain number there in
    λ i. record { key = key i; area = area i; counter = counter i }

regions_back : (p : Plain) → IsPlain p → regions_of (shape_of p) (content p) ≡ p.regions
regions_back p plain =
    made_of (region_in (shape_of p) (content p)) regions p.regions plain.regions_count
    (λ (number : ℕ) (d : Region) there. region_back p plain number there
    ∙ get_or_default p.regions number empty_region d (omega (arith, there, plain.regions_count)))

pub back_again : (p : Plain) → IsPlain p → plain_of (shape_of p) (content p) ≡ p
back_again p plain =
    let units = units_back p in
    let back = settings_back p plain in
    let boot = back.boot_is in
    let permanent = back.permanent_is in
    let all = regions_back p plain in
    λ i. record { units = units i; boot = boot i; permanent = permanent i; regions = all i }

-- the state of contents depends on the contents of the keys alone
same_state : (s : Shape) (f g : Contents) → ((k : Key) → IsKey s k → f k ≡ g k) → plain_of s f ≡ plain_of s g
same_state s f g h =
    let units : units_of s f ≡ units_of s g =
    made_same (λ (unit : ℕ). map (λ (address : ℕ). f (data_key unit address)) (below (slice_index_or s.blocks unit 0)))
    (λ (unit : ℕ). map (λ (address : ℕ). g (data_key unit address)) (below (slice_index_or s.blocks unit 0)))
    (length s.blocks)
    (λ (unit : ℕ) there.
    made_same (λ (address : ℕ). f (data_key unit address)) (λ (address : ℕ). g (data_key unit address))
    (slice_index_or s.blocks unit 0)
    (λ (address : ℕ) within. h (data_key unit address) (IsData unit address there within))) in
    let settings : f settings_key ≡ g settings_key = h settings_key IsSettings in
    let each : (number : ℕ) → number < regions → region_in s f number ≡ region_in s g number =
    λ (number : ℕ) there.
    (let area : area_of s f number ≡ area_of s g number =
    joined_same (λ (page : ℕ). f (area_key number page)) (λ (page : ℕ). g (area_key number page)) (pages_in s number)
    (λ (page : ℕ) within. h (area_key number page) (IsArea number page there within)) in
    λ i. record {
      key = key_in number (settings i);
      area = area i;
      counter = counter_in number (settings i);
    }) in
    let all = made_same (region_in s f) (region_in s g) regions each in
    λ i. record {
      units = units i;
      boot = slice_index (settings i) 0;
      permanent = slice_index (settings i) 1 == 1;
      regions = all i;
    }

pub same_contents : (p q : Plain) → IsPlain p → IsPlain q → shape_of p ≡ shape_of q →
    ((k : Key) → IsKey (shape_of p) k → content p k ≡ content q k) → p ≡ q
same_contents p q left right shape h =
    sym (back_again p left)
    ∙ (same_state (shape_of p) (content p) (content q) h
    ∙ (ap (λ (s : Shape). plain_of s (content q)) shape ∙ back_again q right))

-- The state of contents

-- the blocks of a unit of contents
abbrev pub blocks_of : Shape → Contents → ℕ → List (List ℕ)
blocks_of s f unit = map (λ (address : ℕ). f (data_key unit address)) (below (slice_index_or s.blocks unit 0))

blocks_are : (s : Shape) (f : Contents) → AreContents s f → All (All IsBlock) (units_of s f)
blocks_are s f contents unit d there =
    let count = length-made (blocks_of s f) (length s.blocks) in
    let low : unit < length s.blocks = omega arith in
    let each : All IsBlock (blocks_of s f unit) =
    λ (address : ℕ) (e : List ℕ) within.
    (let size = length-made (λ (a : ℕ). f (data_key unit a)) (slice_index_or s.blocks unit 0) in
    let inside : address < slice_index_or s.blocks unit 0 = omega arith in
    subst IsBlock (sym (get_or-made (λ (a : ℕ). f (data_key unit a)) (slice_index_or s.blocks unit 0) address e inside))
    (contents.blocks (data_key unit address) (IsData unit address low inside))) in
    subst (All IsBlock) (sym (get_or-made (blocks_of s f) (length s.blocks) unit d low)) each

page_is : (s : Shape) (f : Contents) → AreContents s f → (number page : ℕ) → number < regions →
    page < pages_in s number → IsBlock (f (area_key number page))
page_is s f contents number page there within =
    contents.blocks (area_key number page) (IsArea number page there within)

length-area_of : (s : Shape) (f : Contents) → AreContents s f → (number : ℕ) → number < regions →
    length (area_of s f number) ≡ 4096 * pages_in s number
length-area_of s f contents number there =
    length-joined (λ (page : ℕ). f (area_key number page)) 4096 (pages_in s number)
    (λ (page : ℕ) within. (page_is s f contents number page there within).0)

sizes_of : (s : Shape) (f : Contents) → map length (units_of s f) ≡ s.blocks
sizes_of s f =
    let n : ℕ = length s.blocks in
    let count : length (units_of s f) ≡ n = length-made (blocks_of s f) n in
    let long : length (map length (units_of s f)) ≡ n = length-map (units_of s f) length ∙ count in
    same_lists (map length (units_of s f)) s.blocks long
    (λ (unit d : ℕ) there.
    (let low : unit < n = omega arith in
    let lt : unit < length (units_of s f) = omega arith in
    get_or-map length (units_of s f) unit [] d lt
    ∙ (ap length (get_or-made (blocks_of s f) n unit [] low)
    ∙ (length-made (λ (a : ℕ). f (data_key unit a)) (slice_index_or s.blocks unit 0)
    ∙ get_or_default s.blocks unit 0 d low))))

region_is : (s : Shape) (f : Contents) → AreContents s f → (number : ℕ) → number < regions →
    IsRegion (region_in s f number)
region_is s f contents number there =
    let long = length-area_of s f contents number there in
    let ranges = said_right (slice_index (f settings_key) 0) (said_in (f settings_key))
    (ranges_read (f settings_key) contents.settings) number there in
    let said = subst IsKeyAndCounter (said_there (f settings_key) number there) ranges in
    record {
      key_length = said.key_length;
      area = omega (arith, long);
      area_bytes =
          bytes-joined (λ (page : ℕ). f (area_key number page)) (pages_in s number)
          (λ (page : ℕ) within. (page_is s f contents number page there within).1);
      counter_fits = said.counter_fits;
    }

regions_are : (s : Shape) (f : Contents) → AreContents s f → All IsRegion (regions_of s f)
regions_are s f contents number d lt =
    let there : number < regions = omega (arith, lt, length-made (region_in s f) regions) in
    subst IsRegion (sym (get_or-made (region_in s f) regions number d there)) (region_is s f contents number there)

areas_of : (s : Shape) (f : Contents) → AreContents s f → HasWholeAreas s →
    map (λ (r : Region). length r.area) (regions_of s f) ≡ s.areas
areas_of s f contents has =
    let count : length (regions_of s f) ≡ regions = length-made (region_in s f) regions in
    let long = length-map (regions_of s f) (λ (r : Region). length r.area) in
    same_lists (map (λ (r : Region). length r.area) (regions_of s f)) s.areas (long ∙ count ∙ sym has.count)
    (λ (number d : ℕ) lt.
    (let there : number < regions = omega (arith, lt, long, count) in
    let low : number < length s.areas = omega (arith, there, has.count) in
    let pages = lists.get_or-map (λ (b : ℕ). b / 4096) s.areas number 0 in
    let whole = has.whole number 0 low in
    get_or-map (λ (r : Region). length r.area) (regions_of s f) number empty_region d (omega (arith, there, count))
    ∙ (ap (λ (r : Region). length r.area) (get_or-made (region_in s f) regions number empty_region there)
    ∙ (length-area_of s f contents number there ∙ omega (arith, pages, whole)
    ∙ get_or_default s.areas number 0 d low))))

pub state_is_plain : (s : Shape) (f : Contents) → AreContents s f → HasWholeAreas s →
    IsPlain (plain_of s f) × (shape_of (plain_of s f) ≡ s)
state_is_plain s f contents has =
    let sizes = sizes_of s f in
    let areas = areas_of s f contents has in
    let shape : shape_of (plain_of s f) ≡ s = λ i. record { blocks = sizes i; areas = areas i } in
    let plain : IsPlain (plain_of s f) = record {
      blocks = blocks_are s f contents;
      boot_bound = (ranges_read (f settings_key) contents.settings).boot_bound;
      regions_count = length-made (region_in s f) regions;
      each_region = regions_are s f contents;
    } in
    (plain, shape)

pub contents_there : (s : Shape) (f : Contents) → AreContents s f → (k : Key) → IsKey s k →
    content (plain_of s f) k ≡ f k
contents_there s f contents k (IsData unit address there within) =
    ap (λ (bs : List (List ℕ)). get_or bs address []) (get_or-made (blocks_of s f) (length s.blocks) unit [] there)
    ∙ get_or-made (λ (a : ℕ). f (data_key unit a)) (slice_index_or s.blocks unit 0) address [] within
contents_there s f contents k (IsArea number page there within) =
    ap (λ (r : Region). area_page page r.area) (get_or-made (region_in s f) regions number empty_region there)
    ∙ joined_part (λ (i : ℕ). f (area_key number i)) 4096 (pages_in s number) page
    (λ (i : ℕ) lt. (page_is s f contents number i there lt).0) within
contents_there s f contents k IsSettings = written_again (f settings_key) contents.settings
