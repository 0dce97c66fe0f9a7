-- The rows of claims: what is done to each row is done to all claims, one row after another.
use Rattle.write_cache.proofs.Common.{AreBare, Bool, ClaimQueue, Claimed, List, None, Option, Pending, Some, []}
use Rattle.write_cache.proofs.Common.{all_claims, ap, append_assoc, arith, claims_but, claims_of, cond, drop}
use Rattle.write_cache.proofs.Common.{false≢true, filter-append, filter_map, get_or, get_or_default, is_claim_of}
use Rattle.write_cache.proofs.Common.{length, map, map-append, not, refl, subst, suc, sym, take, take_more, true, zero}
use Rattle.write_cache.proofs.Common.{ℕ, ◌++◌, ◌+◌, ◌<◌, ◌∙◌, ◌∷◌, ◌≡◌, ◌≤◌}
use Rattle.std.proofs.Common.{MatchOption, append-nil, drop-cons, length-append, slice_set, ◌==◌}
use Rattle.std.proofs.Math.Dec.{eqb-suc-zero}
use Rattle.std.proofs.lemmas.List.{take-append-drop}
use Rattle.std.proofs.lemmas.List.Elements.{filter_map-append}
use Rattle.std.proofs.lemmas.List.Filters.{length-filter_both}
use Rattle.write_cache.specs.ClaimRows.{kept_row, kept_rows, used_rows}

-- All claims of rows

pub all_append : (front behind : List (List Claimed)) →
    all_claims (front ++ behind) ≡ all_claims front ++ all_claims behind
all_append [] behind = refl
all_append (row ∷ front) behind =
    ap (λ (xs : List Claimed). row ++ xs) (all_append front behind)
    ∙ sym (append_assoc row (all_claims front) (all_claims behind))

pub all_last : (rows : List (List Claimed)) (row : List Claimed) →
    all_claims (rows ++ row ∷ []) ≡ all_claims rows ++ row
all_last rows row =
    all_append rows (row ∷ []) ∙ ap (λ (xs : List Claimed). all_claims rows ++ xs) (append-nil row)

all_kept : (row : List Claimed) → all_claims (kept_row row) ≡ row
all_kept [] = refl
all_kept (claim ∷ claims) =
    ap (λ (b : Bool). all_claims (cond b [] ((claim ∷ claims) ∷ []))) (eqb-suc-zero (length claims))
    ∙ append-nil (claim ∷ claims)

-- each row with other bytes
pub all_map : (f : Claimed → Claimed) (rows : List (List Claimed)) →
    all_claims (map (map f) rows) ≡ map f (all_claims rows)
all_map f [] = refl
all_map f (row ∷ rows) =
    ap (λ (xs : List Claimed). map f row ++ xs) (all_map f rows) ∙ sym (map-append f row (all_claims rows))

all_used : (rows : List (List Claimed)) → all_claims (used_rows rows) ≡ all_claims rows
all_used [] = refl
all_used (row ∷ rows) =
    all_append (kept_row row) (used_rows rows)
    ∙ ap (λ (xs : List Claimed). xs ++ all_claims (used_rows rows)) (all_kept row)
    ∙ ap (λ (xs : List Claimed). row ++ xs) (all_used rows)

all_but : (goes : Claimed → Bool) (rows : List (List Claimed)) →
    all_claims (map (claims_but goes) rows) ≡ claims_but goes (all_claims rows)
all_but goes [] = refl
all_but goes (row ∷ rows) =
    ap (λ (xs : List Claimed). claims_but goes row ++ xs) (all_but goes rows)
    ∙ sym (filter-append (λ x. not (goes x)) row (all_claims rows))

-- each row without the claims that go
pub all_left : (goes : Claimed → Bool) (rows : List (List Claimed)) →
    all_claims (kept_rows goes rows) ≡ claims_but goes (all_claims rows)
all_left goes rows = all_used (map (claims_but goes) rows) ∙ all_but goes rows

-- shedding rows sheds no claim
pub as_long : (rows new_rows : List (List Claimed)) → new_rows ≡ used_rows rows →
    length (all_claims new_rows) ≡ length (all_claims rows)
as_long rows new_rows are =
    ap (λ (rs : List (List Claimed)). length (all_claims rs)) are
    ∙ ap (λ (xs : List Claimed). length xs) (all_used rows)

-- Bare rows

pub bare_more : (rows : List (List Claimed)) (row : List Claimed) → AreBare rows → row ≡ [] →
    AreBare (rows ++ row ∷ [])
bare_more [] row all one = (one, tt)
bare_more (x ∷ rows) row all one = (all.0, bare_more rows row all.1 one)

pub none_bare : (row : List Claimed) → (length row == 0) ≡ true → row ≡ []
none_bare [] is = refl
none_bare (claim ∷ claims) is = absurd (false≢true (sym (eqb-suc-zero (length claims)) ∙ is))

front_bare : (rows : List (List Claimed)) (row : List Claimed) → AreBare (rows ++ row ∷ []) → AreBare rows
front_bare [] row all = tt
front_bare (x ∷ rows) row all = (all.0, front_bare rows row all.1)

last_bare : (rows : List (List Claimed)) (row : List Claimed) → AreBare (rows ++ row ∷ []) → row ≡ []
last_bare [] row all = all.0
last_bare (x ∷ rows) row all = last_bare rows row all.1

pub bare_front : (all rows : List (List Claimed)) (row : List Claimed) → AreBare all → all ≡ rows ++ row ∷ [] →
    AreBare rows
bare_front all rows row bare is = front_bare rows row (subst AreBare is bare)

pub bare_last : (all rows : List (List Claimed)) (row : List Claimed) → AreBare all → all ≡ rows ++ row ∷ [] →
    row ≡ []
bare_last all rows row bare is = last_bare rows row (subst AreBare is bare)

-- Rows without a claim go

used_append : (front behind : List (List Claimed)) → used_rows (front ++ behind) ≡ used_rows front ++ used_rows behind
used_append [] behind = refl
used_append (row ∷ front) behind =
    ap (λ (xs : List (List Claimed)). kept_row row ++ xs) (used_append front behind)
    ∙ sym (append_assoc (kept_row row) (used_rows front) (used_rows behind))

-- one row further
used_last : (rows : List (List Claimed)) (i : ℕ) → i < length rows →
    used_rows (take i rows) ++ kept_row (get_or rows i []) ≡ used_rows (take (i + 1) rows)
used_last rows i less =
    ap (λ (xs : List (List Claimed)). used_rows (take i rows) ++ xs) (sym (append-nil (kept_row (get_or rows i []))))
    ∙ sym (used_append (take i rows) (get_or rows i [] ∷ []))
    ∙ ap used_rows (sym (take_more rows i [] less))

-- what stands at the place where the rows behind begin
seam : (front behind : List (List Claimed)) (row : List Claimed) →
    get_or (front ++ row ∷ behind) (length front) [] ≡ row
seam [] behind row = refl
seam (x ∷ front) behind row = seam front behind row

seam_take : (front behind : List (List Claimed)) → take (length front) (front ++ behind) ≡ front
seam_take [] behind = refl
seam_take (x ∷ front) behind = ap (λ (rs : List (List Claimed)). x ∷ rs) (seam_take front behind)

seam_drop : (front behind : List (List Claimed)) (row : List Claimed) →
    drop (suc (length front)) (front ++ row ∷ behind) ≡ behind
seam_drop [] behind row = refl
seam_drop (x ∷ front) behind row = seam_drop front behind row

-- rows of which the first were looked at, and the next is
parted : (passed : ℕ) (all rows : List (List Claimed)) → passed < length all →
    rows ≡ used_rows (take passed all) ++ drop passed all →
    rows ≡ used_rows (take passed all) ++ get_or all passed [] ∷ drop (suc passed) all
parted passed all rows less are =
    are ∙ ap (λ (rs : List (List Claimed)). used_rows (take passed all) ++ rs) (drop-cons all passed [] less)

-- the next row is there
pub shed_there : (passed at : ℕ) (all rows : List (List Claimed)) → passed < length all →
    rows ≡ used_rows (take passed all) ++ drop passed all → at ≡ length (used_rows (take passed all)) →
    at < length rows
shed_there passed at all rows less are is =
    let parts = ap (λ (rs : List (List Claimed)). length rs) (parted passed all rows less are) in
    let long = length-append (used_rows (take passed all)) (get_or all passed [] ∷ drop (suc passed) all) in
    omega (arith, parts, long, is)

next_is : (passed at : ℕ) (all rows : List (List Claimed)) → passed < length all →
    rows ≡ used_rows (take passed all) ++ drop passed all → at ≡ length (used_rows (take passed all)) →
    get_or rows at [] ≡ get_or all passed []
next_is passed at all rows less are is =
    ap (λ (n : ℕ). get_or rows n []) is
    ∙ ap (λ (rs : List (List Claimed)). get_or rs (length (used_rows (take passed all))) [])
    (parted passed all rows less are)
    ∙ seam (used_rows (take passed all)) (drop (suc passed) all) (get_or all passed [])

-- and the rows behind it
pub shed_on : (passed at : ℕ) (all rows new_rows : List (List Claimed)) → passed < length all →
    rows ≡ used_rows (take passed all) ++ drop passed all → at ≡ length (used_rows (take passed all)) →
    new_rows ≡ take at rows ++ kept_row (get_or rows at []) ++ drop (at + 1) rows →
    new_rows ≡ used_rows (take (passed + 1) all) ++ drop (passed + 1) all
shed_on passed at all rows new_rows less are is new_are =
    new_are
    ∙ ap (λ (row : List Claimed). take at rows ++ kept_row row ++ drop (at + 1) rows)
    (next_is passed at all rows less are is)
    ∙ ap (λ (n : ℕ). take n rows ++ kept_row next ++ drop (n + 1) rows) is
    ∙ ap (λ (rs : List (List Claimed)). take (length front) rs ++ kept_row next ++ drop (length front + 1) rs)
    (parted passed all rows less are)
    ∙ ap (λ (rs : List (List Claimed)). rs ++ kept_row next ++ drop (length front + 1) (front ++ next ∷ behind))
    (seam_take front (next ∷ behind))
    ∙ ap (λ (n : ℕ). front ++ kept_row next ++ drop n (front ++ next ∷ behind)) (one (length front))
    ∙ ap (λ (rs : List (List Claimed)). front ++ kept_row next ++ rs) (seam_drop front behind next)
    ∙ ap (λ (rs : List (List Claimed)). rs ++ behind) (used_last all passed less)
    ∙ ap (λ (n : ℕ). used_rows (take (passed + 1) all) ++ drop n all) (sym (one passed))
  where
    front : List (List Claimed)
    front = used_rows (take passed all)

    next : List Claimed
    next = get_or all passed []

    behind : List (List Claimed)
    behind = drop (suc passed) all

    one : (n : ℕ) → n + 1 ≡ suc n
    one n = omega arith

pub shed_next : (passed at next : ℕ) (all rows : List (List Claimed)) → passed < length all →
    rows ≡ used_rows (take passed all) ++ drop passed all → at ≡ length (used_rows (take passed all)) →
    next ≡ at + length (kept_row (get_or rows at [])) → next ≡ length (used_rows (take (passed + 1) all))
shed_next passed at next all rows less are is next_is_there =
    let row = ap (λ (r : List Claimed). length (kept_row r)) (next_is passed at all rows less are is) in
    let long = length-append (used_rows (take passed all)) (kept_row (get_or all passed [])) in
    let more = ap (λ (rs : List (List Claimed)). length rs) (used_last all passed less) in
    omega (arith, row, long, more, is, next_is_there)

-- a row that was seen without a claim has none when it is taken
pub same_bare : (rows : List (List Claimed)) (at : ℕ) (row seen : List Claimed) → at < length rows →
    row ≡ get_or rows at row → seen ≡ get_or rows at seen → (length seen == 0) ≡ true → row ≡ []
same_bare rows at row seen less is was none =
    is ∙ get_or_default rows at row seen less ∙ sym was ∙ none_bare seen none

-- Each row in turn

-- the row at the place that is looked at is as it was
pub next_at : (f : List Claimed → List Claimed) (i : ℕ) (all rows : List (List Claimed)) (d : List Claimed) →
    i < length all → rows ≡ map f (take i all) ++ drop i all → get_or rows i d ≡ get_or all i d
next_at f i all rows d less are = ap (λ (rs : List (List Claimed)). get_or rs i d) are ∙ by i all less
  where
    by : (i : ℕ) (all : List (List Claimed)) → i < length all →
        get_or (map f (take i all) ++ drop i all) i d ≡ get_or all i d
    by zero [] less = absurd (omega arith)
    by zero (x ∷ all) less = refl
    by (suc i) [] less = absurd (omega arith)
    by (suc i) (x ∷ all) less = by i all (omega arith)

-- claims of one row are among all
pub row_within : (rows : List (List Claimed)) (i : ℕ) (row : List Claimed) → i < length rows → row ≡ get_or rows i row →
    length row ≤ length (all_claims rows)
row_within [] i row less is = absurd (omega arith)
row_within (x ∷ rows) zero row less is =
    let same = ap (λ (xs : List Claimed). length xs) is in
    let long = length-append x (all_claims rows) in
    omega (arith, same, long)
row_within (x ∷ rows) (suc i) row less is =
    let more = row_within rows i row (omega arith) is in
    let long = length-append x (all_claims rows) in
    omega (arith, more, long)

-- as many claims more or less are in all rows as in the one
pub set_long : (rows : List (List Claimed)) (i : ℕ) (row new_row : List Claimed) → i < length rows →
    row ≡ get_or rows i row →
    length (all_claims (slice_set rows i new_row)) + length row ≡ length (all_claims rows) + length new_row
set_long [] i row new_row less is = absurd (omega arith)
set_long (x ∷ rows) zero row new_row less is =
    let same = ap (λ (xs : List Claimed). length xs) is in
    let before = length-append x (all_claims rows) in
    let after = length-append new_row (all_claims rows) in
    omega (arith, same, before, after)
set_long (x ∷ rows) (suc i) row new_row less is =
    let more = set_long rows i row new_row (omega arith) is in
    let before = length-append x (all_claims rows) in
    let after = length-append x (all_claims (slice_set rows i new_row)) in
    omega (arith, more, before, after)

-- what comes of the claims of each row, one row further
came_on : (came : List Claimed → List Pending) →
    ((front behind : List Claimed) → came (front ++ behind) ≡ came front ++ came behind) →
    (i : ℕ) (rows : List (List Claimed)) (row : List Claimed) (pages : List Pending) →
    i < length rows → row ≡ get_or rows i row →
    (pages ++ came (all_claims (take i rows))) ++ came row ≡ pages ++ came (all_claims (take (i + 1) rows))
came_on came joined i rows row pages less is =
    append_assoc pages (came (all_claims (take i rows))) (came row)
    ∙ ap (λ (xs : List Pending). pages ++ xs)
    (sym (joined (all_claims (take i rows)) row)
    ∙ ap came (ap (λ (xs : List Claimed). all_claims (take i rows) ++ xs) is
    ∙ sym (all_last (take i rows) (get_or rows i row))
    ∙ ap all_claims (sym (take_more rows i row less))))

pub moved_joined : (f : Claimed → Pending) (reader : ℕ) (front behind : List Claimed) →
    map f (claims_of (front ++ behind) reader) ≡ map f (claims_of front reader) ++ map f (claims_of behind reader)
moved_joined f reader front behind =
    ap (map f) (filter-append (is_claim_of reader) front behind)
    ∙ map-append f (claims_of front reader) (claims_of behind reader)

pub paged_joined : (f : Claimed → Option Pending) (reader : ℕ) (front behind : List Claimed) →
    filter_map f (claims_of (front ++ behind) reader)
    ≡ filter_map f (claims_of front reader) ++ filter_map f (claims_of behind reader)
paged_joined f reader front behind =
    ap (filter_map f) (filter-append (is_claim_of reader) front behind)
    ∙ filter_map-append f (claims_of front reader) (claims_of behind reader)

pub moved_on : (reader : ℕ) (f : Claimed → Pending) (i : ℕ) (rows : List (List Claimed)) (row : List Claimed)
    (pages : List Pending) → i < length rows → row ≡ get_or rows i row →
    (pages ++ map f (claims_of (all_claims (take i rows)) reader)) ++ map f (claims_of row reader)
    ≡ pages ++ map f (claims_of (all_claims (take (i + 1) rows)) reader)
moved_on reader f i rows row pages less is =
    came_on (λ (cs : List Claimed). map f (claims_of cs reader)) (moved_joined f reader) i rows row pages less is

pub paged_on : (reader : ℕ) (f : Claimed → Option Pending) (i : ℕ) (rows : List (List Claimed)) (row : List Claimed)
    (pages : List Pending) → i < length rows → row ≡ get_or rows i row →
    (pages ++ filter_map f (claims_of (all_claims (take i rows)) reader)) ++ filter_map f (claims_of row reader)
    ≡ pages ++ filter_map f (claims_of (all_claims (take (i + 1) rows)) reader)
paged_on reader f i rows row pages less is =
    came_on (λ (cs : List Claimed). filter_map f (claims_of cs reader)) (paged_joined f reader) i rows row pages less is

-- The claims in rows, and the rest behind them

abbrev queue : ℕ → List Claimed → ClaimQueue
queue room items = record { room = room; items = items }

-- what is made of the claims, in as much room
pub queue_made : (made : List Claimed → List Claimed) (room new_room : ℕ) (items new_items : List Claimed)
    (before : ClaimQueue) → queue room items ≡ before → new_room ≡ room → new_items ≡ made items →
    queue new_room new_items ≡ record before { items = made before.items }
queue_made made room new_room items new_items before is same_room are =
    ap (λ (n : ℕ). queue n new_items) same_room
    ∙ ap (λ (xs : List Claimed). queue room xs) are
    ∙ ap (λ (q : ClaimQueue). queue q.room (made q.items)) is

pub made_joined : (f : Claimed → Claimed) (rows new_rows : List (List Claimed)) (rest new_rest : List Claimed) →
    new_rows ≡ map (map f) rows → new_rest ≡ map f rest →
    all_claims new_rows ++ new_rest ≡ map f (all_claims rows ++ rest)
made_joined f rows new_rows rest new_rest are is =
    ap (λ (rs : List (List Claimed)). all_claims rs ++ new_rest) are
    ∙ ap (λ (xs : List Claimed). xs ++ new_rest) (all_map f rows)
    ∙ ap (λ (xs : List Claimed). map f (all_claims rows) ++ xs) is
    ∙ sym (map-append f (all_claims rows) rest)

pub left_joined : (goes : Claimed → Bool) (rows new_rows : List (List Claimed)) (rest new_rest : List Claimed) →
    new_rows ≡ kept_rows goes rows → new_rest ≡ claims_but goes rest →
    all_claims new_rows ++ new_rest ≡ claims_but goes (all_claims rows ++ rest)
left_joined goes rows new_rows rest new_rest are is =
    ap (λ (rs : List (List Claimed)). all_claims rs ++ new_rest) are
    ∙ ap (λ (xs : List Claimed). xs ++ new_rest) (all_left goes rows)
    ∙ ap (λ (xs : List Claimed). claims_but goes (all_claims rows) ++ xs) is
    ∙ sym (filter-append (λ x. not (goes x)) (all_claims rows) rest)

-- A claim more

-- the last row took the claim, or gave it back
pub last_took : (o : Option Claimed) (claim : Claimed) (popped : List (List Claimed)) (row more : List Claimed)
    (before after : List (List Claimed)) → before ≡ popped ++ row ∷ [] → after ≡ popped ++ more ∷ [] →
    MatchOption o (more ≡ row ++ claim ∷ []) (λ c. (c ≡ claim) × (more ≡ row)) →
    MatchOption o (all_claims after ≡ all_claims before ++ claim ∷ []) (λ c. (c ≡ claim) × (after ≡ before))
last_took None claim popped row more before after was is took =
    ap all_claims is
    ∙ all_last popped more
    ∙ ap (λ (xs : List Claimed). all_claims popped ++ xs) took
    ∙ sym (append_assoc (all_claims popped) row (claim ∷ []))
    ∙ ap (λ (xs : List Claimed). xs ++ claim ∷ []) (sym (ap all_claims was ∙ all_last popped row))
last_took (Some c) claim popped row more before after was is took =
    (took.0, is ∙ ap (λ (xs : List Claimed). popped ++ xs ∷ []) took.1 ∙ sym was)

-- a spare row took the claim, or gave it back
pub spare_took : (o : Option Claimed) (claim left : Claimed) (before between after : List (List Claimed)) →
    left ≡ claim → between ≡ before →
    MatchOption o (after ≡ between ++ (left ∷ []) ∷ []) (λ c. (c ≡ left) × (after ≡ between)) →
    MatchOption o (all_claims after ≡ all_claims before ++ claim ∷ []) (λ c. (c ≡ claim) × (after ≡ before))
spare_took None claim left before between after same is took =
    ap all_claims took
    ∙ all_last between (left ∷ [])
    ∙ ap (λ (rows : List (List Claimed)). all_claims rows ++ left ∷ []) is
    ∙ ap (λ (c : Claimed). all_claims before ++ c ∷ []) same
spare_took (Some c) claim left before between after same is took = (took.0 ∙ same, took.1 ∙ is)

-- Counts

-- claims of one reader are among all
pub own_within : (claims : List Claimed) (reader : ℕ) → length (claims_of claims reader) ≤ length claims
own_within claims reader =
    let both = length-filter_both (is_claim_of reader) (λ c. not (is_claim_of reader c)) (λ c. refl) claims in
    omega (arith, both)

pub count_joined : (front behind : List Claimed) (reader : ℕ) →
    length (claims_of (front ++ behind) reader) ≡ length (claims_of front reader) + length (claims_of behind reader)
count_joined front behind reader =
    ap (λ (xs : List Claimed). length xs) (filter-append (is_claim_of reader) front behind)
    ∙ length-append (claims_of front reader) (claims_of behind reader)

-- one row further
pub counted_on : (reader i : ℕ) (rows : List (List Claimed)) (row : List Claimed) → i < length rows →
    row ≡ get_or rows i row →
    length (claims_of (all_claims (take i rows)) reader) + length (claims_of row reader)
    ≡ length (claims_of (all_claims (take (i + 1) rows)) reader)
counted_on reader i rows row less is =
    sym (ap (λ (xs : List (List Claimed)). length (claims_of (all_claims xs) reader)) (take_more rows i row less)
    ∙ ap (λ (xs : List Claimed). length (claims_of xs reader)) (all_last (take i rows) (get_or rows i row))
    ∙ count_joined (all_claims (take i rows)) (get_or rows i row) reader
    ∙ ap (λ (xs : List Claimed). length (claims_of (all_claims (take i rows)) reader) + length (claims_of xs reader))
    (sym is))

-- no more than all were counted
pub counted_within : (reader i : ℕ) (rows : List (List Claimed)) →
    length (claims_of (all_claims (take i rows)) reader) ≤ length (all_claims rows)
counted_within reader i rows =
    let own = own_within (all_claims (take i rows)) reader in
    let parts = ap (λ (xs : List Claimed). length xs) (sym (all_append (take i rows) (drop i rows))
    ∙ ap all_claims (take-append-drop i rows)) in
    let long = length-append (all_claims (take i rows)) (all_claims (drop i rows)) in
    omega (arith, own, parts, long)
