-- A page is some cell.
use Rattle.ufs_laws.proofs.Common.{Cell, DataHold, GroupPage, IsCell, IsFrontOf, List, Mark, MarkPage, Nothing, Opens}
use Rattle.ufs_laws.proofs.Common.{Page, Tag, arith, dec_le, dec_lt, drop, map_dec, mark_tag, refl, regions, subst, sym}
use Rattle.ufs_laws.proofs.Common.{take, ℕ, ℕ_discrete, ◌^◌, ◌≡◌, ◌≤◌}
use Rattle.ufs_spec.specs.Pages.{IsTag, check_of, greatest_number, group_bound, old_front, old_group_bound}
use Rattle.ufs_spec.specs.Pages.{spare_front, tag_in}
use Rattle.ufs_laws.proofs.pages.BodiesDecided.{is_mark_body, is_settings_body}
use Rattle.ufs_laws.proofs.deciding.Connectives.{dec_and, dec_implies, dec_or, is_block, same_bytes}
use Rattle.ufs_spec.proofs.SealedPages.{body_opened, tag_opened}

-- Deciding

dec_between : (low high n : ℕ) → Dec ((low ≤ n) × (n ≤ high))
dec_between low high n = dec_and (dec_le low n) (dec_le n high)

is_tag : (t : Tag) → Dec (IsTag t)
is_tag t =
    map_dec
    (λ h. record {
      kind_known = h.0.0.0;
      mark_alone = h.0.0.1;
      unit_known = h.0.1.0;
      region_known = h.0.1.1.0;
      unit_of_blocks_alone = h.0.1.1.1;
      address_fits = h.1.0.0;
      address_of_blocks_alone = h.1.0.1;
      number_given = h.1.1.0.0;
      frontier_fits = h.1.1.0.1;
      group_not_long = h.1.1.1.0;
      index_in_group = h.1.1.1.1;
    })
    (λ r. (
      ((r.kind_known, r.mark_alone), (r.unit_known, (r.region_known, r.unit_of_blocks_alone))),
      (
        (r.address_fits, r.address_of_blocks_alone),
        ((r.number_given, r.frontier_fits), (r.group_not_long, r.index_in_group)),
      ),
    ))
    (dec_and
    (dec_and
    (dec_and (dec_between 1 4 t.kind)
    (dec_implies (ℕ_discrete t.kind 4) (dec_and (ℕ_discrete t.index 0) (ℕ_discrete t.size 1))))
    (dec_and (dec_lt t.unit 8)
    (dec_and (dec_implies (ℕ_discrete t.kind 2) (dec_lt t.unit regions))
    (dec_implies (dec_le 3 t.kind) (ℕ_discrete t.unit 0)))))
    (dec_and
    (dec_and (dec_lt t.address (2 ^ 32)) (dec_implies (dec_le 3 t.kind) (ℕ_discrete t.address 0)))
    (dec_and (dec_and (dec_between 1 greatest_number t.number) (dec_le t.frontier greatest_number))
    (dec_and (dec_between 1 group_bound t.size) (dec_lt t.index t.size)))))

-- whether bytes are those of a tag, in one of the versions
is_front : (t : Tag) (front : List ℕ) → Dec (IsFrontOf t front)
is_front t front =
    dec_or (same_bytes front (spare_front t))
    (dec_and (dec_le t.size old_group_bound) (same_bytes front (old_front t)))

-- whether a page opens to a tag and its own block
opens : (page : Page) (t : Tag) → Dec (Opens page t page.body)
opens page t =
    map_dec
    (λ h. record {
      tag_right = h.0;
      body_right = h.1.0;
      sealed = record { front = h.1.1.0; check = h.1.1.1; holds = refl };
    })
    (λ r. (r.tag_right, (r.body_right, (r.sealed.front, r.sealed.check))))
    (dec_and (is_tag t)
    (dec_and (is_block page.body)
    (dec_and (is_front t (take 64 page.spare))
    (same_bytes (drop 64 page.spare) (check_of page.body (take 64 page.spare))))))

data_hold : (t : Tag) (body : List ℕ) → Dec (DataHold t body)
data_hold t body =
    map_dec (λ h. record { settings = h.0; mark = h.1 }) (λ r. (r.settings, r.mark))
    (dec_and (dec_implies (ℕ_discrete t.kind 3) (is_settings_body body))
    (dec_implies (ℕ_discrete t.kind 4) (is_mark_body body)))

-- What a page opens to, as it is read

opens_as_read : (page : Page) (t : Tag) (body : List ℕ) → Opens page t body → Opens page (tag_in page.spare) page.body
opens_as_read page t body h =
    subst (λ (u : Tag). Opens page u page.body) (sym (tag_opened page t body h))
    (subst (λ (b : List ℕ). Opens page t b) (sym (body_opened page t body h)) h)

hold_as_read : (page : Page) (t : Tag) (body : List ℕ) → Opens page t body → DataHold t body
    → DataHold (tag_in page.spare) page.body
hold_as_read page t body h hold =
    subst (λ (u : Tag). DataHold u page.body) (sym (tag_opened page t body h))
    (subst (λ (b : List ℕ). DataHold t b) (sym (body_opened page t body h)) hold)

-- Marks

-- the tag of a mark is that of its number and the frontier that it records
pub tag_of_mark : (t : Tag) (m : Mark) → IsTag t → t.kind ≡ 4 → m.number ≡ t.number → m.records ≡ t.frontier →
    t ≡ mark_tag m
tag_of_mark t m is kind number records =
    let unit : t.unit ≡ 0 = is.unit_of_blocks_alone (omega arith) in
    let address : t.address ≡ 0 = is.address_of_blocks_alone (omega arith) in
    let alone : (t.index ≡ 0) × (t.size ≡ 1) = is.mark_alone kind in
    λ i. record {
      kind = kind i;
      unit = unit i;
      address = address i;
      number = sym number i;
      index = alone.0 i;
      size = alone.1 i;
      frontier = sym records i;
    }

mark_page : (page : Page) (t : Tag) → Opens page t page.body → DataHold t page.body → t.kind ≡ 4 →
    (c : Cell) × IsCell page c
mark_page page t h hold kind =
    let read = hold.mark kind in
    let m : Mark = record { number = t.number; records = t.frontier; fence = read.0; numbers = read.1 } in
    let tag : t ≡ mark_tag m = tag_of_mark t m h.tag_right kind refl refl in
    (MarkPage m, (page.body, subst (λ (u : Tag). Opens page u page.body) tag h, read.2))

-- a page is some cell
pub some_cell : (page : Page) → (c : Cell) × IsCell page c
some_cell page = opened (opens page tag)
  where
    tag : Tag
    tag = tag_in page.spare

    told : Opens page tag page.body → DataHold tag page.body → Dec (tag.kind ≡ 4) → (c : Cell) × IsCell page c
    told h hold (yes kind) = mark_page page tag h hold kind
    told h hold (no other) = (GroupPage tag page.body, (h, hold, other))

    held : Opens page tag page.body → Dec (DataHold tag page.body) → (c : Cell) × IsCell page c
    held h (yes hold) = told h hold (ℕ_discrete tag.kind 4)
    held h (no wrong) = (Nothing, λ t body k hold. wrong (hold_as_read page t body k hold))

    opened : Dec (Opens page tag page.body) → (c : Cell) × IsCell page c
    opened (yes h) = held h (data_hold tag page.body)
    opened (no closed) = (Nothing, λ t body k hold. closed (opens_as_read page t body k))
