-- A walk over rows, each of which changes or goes: what is done to the rows before a place and is still to be done to
-- those from there on comes to the same from place to place.
use Rattle.readers.proofs.Common.{Bool, List, Lives, Pin, RowPins, [], ap, arith, drop, false, find, fold, get_or}
use Rattle.readers.proofs.Common.{if◌then◌else◌, length, length-append, pins_in, refl, slice_set, subst, sym, take}
use Rattle.readers.proofs.Common.{true, ℕ, ◌++◌, ◌+◌, ◌-◌, ◌<◌, ◌∙◌, ◌∷◌, ◌≡◌, ◌≤◌}
use Rattle.std.proofs.Common.{None, Option, Some, append_assoc, is_some}
use Rattle.std.specs.Prelude.{◌==◌}
use Rattle.std.specs.Option.{option_or}
use Rattle.std.proofs.lemmas.List.{append-nil, drop-set-lt, drop_all, drop_more, take_all, take_more_set}
use Rattle.std.proofs.lemmas.List.{length-set, length-take, take-append-drop, take-set}
use Rattle.std.proofs.Math.Seq.{drop-append_seam, take-append_seam}
use Rattle.std.proofs.lemmas.List.Folds.{find-append}
use Rattle.std.proofs.lemmas.Option.{slice_get_read}
use Rattle.std.proofs.lemmas.List.Sums.{fold-append}
use Rattle.ufs_spec.proofs.Facts.{eqb-true, false≢true, true≢false}
use Rattle.readers.specs.Rows.{AreFilled, last_takes, row_of, takes, takes_at, with_pin}

pub pins_both : (rs ts : List RowPins) → pins_in (rs ++ ts) ≡ pins_in rs ++ pins_in ts
pins_both [] ts = refl
pins_both (r ∷ rs) ts =
    ap (λ (ps : List Pin). r.pins ++ ps) (pins_both rs ts) ∙ sym (append_assoc r.pins (pins_in rs) (pins_in ts))

-- the pins from a place on are those of the row there and those behind it
pub pins_on : (rs : List RowPins) (i : ℕ) (x : RowPins) → i < length rs → x ≡ get_or rs i x →
    pins_in (drop i rs) ≡ x.pins ++ pins_in (drop (i + 1) rs)
pins_on rs i x less is =
    ap pins_in (drop_more rs i x less)
    ∙ ap (λ (r : RowPins). r.pins ++ pins_in (drop (i + 1) rs)) (sym is)

-- the row at a place changes by what is done to all
pub walk_on : (h : List Pin → List Pin) (both : (a b : List Pin) → h (a ++ b) ≡ h a ++ h b) (rs : List RowPins) (i : ℕ)
    (x y : RowPins) → i < length rs → x ≡ get_or rs i x → y.pins ≡ h x.pins →
    pins_in (take (i + 1) (slice_set rs i y)) ++ h (pins_in (drop (i + 1) (slice_set rs i y)))
    ≡ pins_in (take i rs) ++ h (pins_in (drop i rs))
walk_on h both rs i x y less is new =
    let rest = pins_in (drop (i + 1) rs) in
    let front = pins_in (take i rs) in
    ap (λ (ts : List RowPins). pins_in ts ++ h (pins_in (drop (i + 1) (slice_set rs i y)))) (take_more_set rs i y less)
    ∙ ap (λ (ts : List RowPins). pins_in (take i rs ++ y ∷ []) ++ h (pins_in ts))
    (drop-set-lt (i + 1) rs i y (omega arith))
    ∙ ap (λ (ps : List Pin). ps ++ h rest)
    (pins_both (take i rs) (y ∷ []) ∙ ap (λ (ps : List Pin). front ++ ps) (append-nil y.pins ∙ new))
    ∙ append_assoc front (h x.pins) (h rest)
    ∙ ap (λ (ps : List Pin). front ++ ps) (sym (both x.pins rest) ∙ ap h (sym (pins_on rs i x less is)))

-- what the row at a place tells comes before what those behind it tell
pub fold_on : (f : Lives → Pin → Lives) (rs : List RowPins) (i : ℕ) (x y : RowPins) (l m : Lives) → i < length rs →
    x ≡ get_or rs i x → m ≡ fold f l x.pins →
    fold f m (pins_in (drop (i + 1) (slice_set rs i y))) ≡ fold f l (pins_in (drop i rs))
fold_on f rs i x y l m less is new =
    let rest = pins_in (drop (i + 1) rs) in
    ap (λ (ts : List RowPins). fold f m (pins_in ts)) (drop-set-lt (i + 1) rs i y (omega arith))
    ∙ ap (λ (k : Lives). fold f k rest) new
    ∙ sym (fold-append f l x.pins rest)
    ∙ ap (fold f l) (sym (pins_on rs i x less is))

-- behind the last row nothing is left to do
pub walk_end : (h : List Pin → List Pin) → h [] ≡ [] → (rs : List RowPins) (i : ℕ) → length rs ≤ i →
    pins_in rs ≡ pins_in (take i rs) ++ h (pins_in (drop i rs))
walk_end h none rs i all =
    sym (ap (λ (ts : List RowPins). pins_in ts ++ h (pins_in (drop i rs))) (take_all i rs all)
    ∙ ap (λ (ts : List RowPins). pins_in rs ++ h (pins_in ts)) (drop_all i rs all)
    ∙ ap (λ (ps : List Pin). pins_in rs ++ ps) none
    ∙ append-nil (pins_in rs))

pub fold_end : (f : Lives → Pin → Lives) (rs : List RowPins) (i : ℕ) (l : Lives) → length rs ≤ i →
    l ≡ fold f l (pins_in (drop i rs))
fold_end f rs i l all = sym (ap (λ (ts : List RowPins). fold f l (pins_in ts)) (drop_all i rs all))

-- A row that holds no pin any more goes

without : (rs ts : List RowPins) (i : ℕ) (y : RowPins) → i < length rs →
    ts ≡ take i (slice_set rs i y) ++ drop (i + 1) (slice_set rs i y) → ts ≡ take i rs ++ drop (i + 1) rs
without rs ts i y less e =
    e ∙ ap (λ (us : List RowPins). us ++ drop (i + 1) (slice_set rs i y)) (take-set rs i y)
    ∙ ap (λ (us : List RowPins). take i rs ++ us) (drop-set-lt (i + 1) rs i y (omega arith))

front_long : (rs : List RowPins) (i : ℕ) → i < length rs → length (take i rs) ≡ i
front_long rs i less = let long = length-take i rs in omega (arith, long, less)

front_stays : (rs ts : List RowPins) (i : ℕ) (y : RowPins) → i < length rs →
    ts ≡ take i (slice_set rs i y) ++ drop (i + 1) (slice_set rs i y) → take i ts ≡ take i rs
front_stays rs ts i y less e =
    ap (take i) (without rs ts i y less e)
    ∙ ap (λ (n : ℕ). take n (take i rs ++ drop (i + 1) rs)) (sym (front_long rs i less))
    ∙ take-append_seam (take i rs) (drop (i + 1) rs)

rest_stays : (rs ts : List RowPins) (i : ℕ) (y : RowPins) → i < length rs →
    ts ≡ take i (slice_set rs i y) ++ drop (i + 1) (slice_set rs i y) → drop i ts ≡ drop (i + 1) rs
rest_stays rs ts i y less e =
    ap (drop i) (without rs ts i y less e)
    ∙ ap (λ (n : ℕ). drop n (take i rs ++ drop (i + 1) rs)) (sym (front_long rs i less))
    ∙ drop-append_seam (take i rs) (drop (i + 1) rs)

pub gone_on : (h : List Pin → List Pin) (both : (a b : List Pin) → h (a ++ b) ≡ h a ++ h b) (rs ts : List RowPins)
    (i : ℕ) (x y : RowPins) → i < length rs → x ≡ get_or rs i x → y.pins ≡ h x.pins → y.pins ≡ [] →
    ts ≡ take i (slice_set rs i y) ++ drop (i + 1) (slice_set rs i y) →
    pins_in (take i ts) ++ h (pins_in (drop i ts)) ≡ pins_in (take i rs) ++ h (pins_in (drop i rs))
gone_on h both rs ts i x y less is new none e =
    let rest = pins_in (drop (i + 1) rs) in
    let front = pins_in (take i rs) in
    ap (λ (us : List RowPins). pins_in us ++ h (pins_in (drop i ts))) (front_stays rs ts i y less e)
    ∙ ap (λ (us : List RowPins). front ++ h (pins_in us)) (rest_stays rs ts i y less e)
    ∙ ap (λ (ps : List Pin). front ++ ps)
    (ap (λ (ps : List Pin). ps ++ h rest) (sym none ∙ new)
    ∙ sym (both x.pins rest) ∙ ap h (sym (pins_on rs i x less is)))

pub fold_gone : (f : Lives → Pin → Lives) (rs ts : List RowPins) (i : ℕ) (x y : RowPins) (l m : Lives) → i < length rs →
    x ≡ get_or rs i x → m ≡ fold f l x.pins →
    ts ≡ take i (slice_set rs i y) ++ drop (i + 1) (slice_set rs i y) →
    fold f m (pins_in (drop i ts)) ≡ fold f l (pins_in (drop i rs))
fold_gone f rs ts i x y l m less is new e =
    let rest = pins_in (drop (i + 1) rs) in
    ap (λ (us : List RowPins). fold f m (pins_in us)) (rest_stays rs ts i y less e)
    ∙ ap (λ (k : Lives). fold f k rest) new
    ∙ sym (fold-append f l x.pins rest)
    ∙ ap (fold f l) (sym (pins_on rs i x less is))

-- a row that tells so holds no pin
pub none_there : (ps : List Pin) (b : Bool) → b ≡ (length ps == 0) → b ≡ true → ps ≡ []
none_there [] b is told = refl
none_there (p ∷ ps) b is told = absurd (omega (arith, eqb-true (length (p ∷ ps)) 0 (sym is ∙ told)))

-- Filled rows

filled_both : (rs ts : List RowPins) → AreFilled rs → AreFilled ts → AreFilled (rs ++ ts)
filled_both [] ts a b = b
filled_both (r ∷ rs) ts a b = (a.0, filled_both rs ts a.1 b)

pub filled_on : (rs : List RowPins) (i : ℕ) (y : RowPins) (b : Bool) → i < length rs → b ≡ (length y.pins == 0) →
    b ≡ false → AreFilled (take i rs) → AreFilled (take (i + 1) (slice_set rs i y))
filled_on rs i y b less is told filled =
    subst AreFilled (sym (take_more_set rs i y less))
    (filled_both (take i rs) (y ∷ []) filled (sym is ∙ told, tt))

pub filled_gone : (rs ts : List RowPins) (i : ℕ) (y : RowPins) → i < length rs →
    ts ≡ take i (slice_set rs i y) ++ drop (i + 1) (slice_set rs i y) → AreFilled (take i rs) → AreFilled (take i ts)
filled_gone rs ts i y less e filled = subst AreFilled (sym (front_stays rs ts i y less e)) filled

pub filled_end : (rs : List RowPins) (i : ℕ) → length rs ≤ i → AreFilled (take i rs) → AreFilled rs
filled_end rs i all filled = subst AreFilled (take_all i rs all) filled

-- Searches

-- what is not in the row at a place is behind it, if anywhere
pub find_on : (test : Pin → Bool) (rs : List RowPins) (i : ℕ) (x : RowPins) (o : Option Pin) → i < length rs →
    x ≡ get_or rs i x → o ≡ find test x.pins → is_some o ≡ false →
    find test (pins_in (drop (i + 1) rs)) ≡ find test (pins_in (drop i rs))
find_on test rs i x o less is found none =
    let rest = pins_in (drop (i + 1) rs) in
    sym (ap (find test) (pins_on rs i x less is) ∙ find-append test x.pins rest
    ∙ ap (λ (q : Option Pin). option_or q (find test rest)) (sym found ∙ by o none))
  where
    by : (q : Option Pin) → is_some q ≡ false → q ≡ None
    by None e = refl
    by (Some p) e = absurd (true≢false e)

-- what is in the row at a place is the first from there on
pub found_on : (test : Pin → Bool) (rs : List RowPins) (i : ℕ) (x : RowPins) (o : Option Pin) → i < length rs →
    x ≡ get_or rs i x → o ≡ find test x.pins → is_some o ≡ true → o ≡ find test (pins_in (drop i rs))
found_on test rs i x o less is found some =
    let rest = pins_in (drop (i + 1) rs) in
    by o some
    ∙ sym (ap (find test) (pins_on rs i x less is) ∙ find-append test x.pins rest
    ∙ ap (λ (q : Option Pin). option_or q (find test rest)) (sym found))
  where
    by : (q : Option Pin) → is_some q ≡ true → q ≡ option_or q (find test (pins_in (drop (i + 1) rs)))
    by None e = absurd (false≢true e)
    by (Some p) e = refl

pub find_end : (test : Pin → Bool) (rs : List RowPins) (i : ℕ) → length rs ≤ i → None ≡ find test (pins_in (drop i rs))
find_end test rs i all = sym (ap (λ (ts : List RowPins). find test (pins_in ts)) (drop_all i rs all))

-- Counts

pub count_on : (rs : List RowPins) (i : ℕ) (x : RowPins) → i < length rs → x ≡ get_or rs i x →
    length (pins_in (drop i rs)) ≡ length x.pins + length (pins_in (drop (i + 1) rs))
count_on rs i x less is =
    ap length (pins_on rs i x less is) ∙ length-append x.pins (pins_in (drop (i + 1) rs))

-- The last row

pub last_more : (rs : List RowPins) (i : ℕ) (x y : RowPins) (ps : List Pin) → i + 1 ≡ length rs → x ≡ get_or rs i x →
    y.pins ≡ x.pins ++ ps → pins_in (slice_set rs i y) ≡ pins_in rs ++ ps
last_more rs i x y ps last is new =
    let less : i < length rs = omega (arith, last) in
    let long = length-set rs i y in
    let front = pins_in (take i rs) in
    let old : pins_in rs ≡ front ++ x.pins =
    ap pins_in (sym (take-append-drop i rs)) ∙ pins_both (take i rs) (drop i rs)
    ∙ ap (λ (qs : List Pin). front ++ qs) (pins_on rs i x less is
    ∙ ap (λ (ts : List RowPins). x.pins ++ pins_in ts) (drop_all (i + 1) rs (omega (arith, last)))
    ∙ append-nil x.pins) in
    ap pins_in (sym (take_all (i + 1) (slice_set rs i y) (omega (arith, long, last))) ∙ take_more_set rs i y less)
    ∙ pins_both (take i rs) (y ∷ [])
    ∙ ap (λ (qs : List Pin). front ++ qs) (append-nil y.pins ∙ new)
    ∙ sym (append_assoc front x.pins ps)
    ∙ ap (λ (qs : List Pin). qs ++ ps) (sym old)

pub last_told : (rs : List RowPins) (p : Pin) (x : RowPins) → 0 < length rs → x ≡ get_or rs (length rs - 1) x →
    takes x p ≡ last_takes rs p
last_told rs p x some is =
    sym (ap (λ (o : Option RowPins). takes_at o p)
    (slice_get_read rs (length rs) (length rs - 1) x refl (omega (arith, some)) is))

pub none_told : (rs : List RowPins) (p : Pin) → length rs ≡ 0 → false ≡ last_takes rs p
none_told [] p none = refl
none_told (r ∷ rs) p none = absurd (omega (arith, none))

-- the last row takes the pin, or stays
pub pushed : (b : Bool) (x y : RowPins) (p : Pin) → y ≡ (if b then with_pin x p else x) →
    y.pins ≡ x.pins ++ (if b then p ∷ [] else [])
pushed true x y p e = ap (λ (r : RowPins). r.pins) e
pushed false x y p e = ap (λ (r : RowPins). r.pins) e ∙ sym (append-nil x.pins)

-- a row that holds the pin alone comes behind all others
pub begun_more : (rs ts : List RowPins) (r : RowPins) (p : Pin) (b : Bool) → b ≡ false →
    pins_in ts ≡ pins_in rs ++ (if b then p ∷ [] else []) → r ≡ row_of p →
    pins_in (ts ++ r ∷ []) ≡ pins_in rs ++ p ∷ []
begun_more rs ts r p b none e begun =
    pins_both ts (r ∷ [])
    ∙ ap (λ (ps : List Pin). ps ++ (r.pins ++ []))
    (e ∙ ap (λ (a : Bool). pins_in rs ++ (if a then p ∷ [] else [])) none ∙ append-nil (pins_in rs))
    ∙ ap (λ (q : RowPins). pins_in rs ++ (q.pins ++ [])) begun

-- rows that are written over by as many are those
pub written : (n : ℕ) (rs ws : List RowPins) → n ≡ length rs → length ws ≡ length rs →
    take n (ws ++ drop (length ws) rs) ≡ ws
written n rs ws is same =
    ap (λ (us : List RowPins). take n (ws ++ us)) (drop_all (length ws) rs (omega (arith, same)))
    ∙ ap (take n) (append-nil ws)
    ∙ take_all n ws (omega (arith, is, same))

-- Pins of all rows, and those behind them

-- what is found among the first is the first of all
pub found_first : (test : Pin → Bool) (ps qs all : List Pin) (o : Option Pin) → o ≡ find test ps → is_some o ≡ true →
    ps ++ qs ≡ all → o ≡ find test all
found_first test ps qs all o found some e =
    by o some
    ∙ sym (ap (find test) (sym e) ∙ find-append test ps qs
    ∙ ap (λ (q : Option Pin). option_or q (find test qs)) (sym found))
  where
    by : (q : Option Pin) → is_some q ≡ true → q ≡ option_or q (find test qs)
    by None h = absurd (false≢true h)
    by (Some p) h = refl

-- and where nothing is found there, what is found behind them is
pub found_behind : (test : Pin → Bool) (ps qs all : List Pin) (o r : Option Pin) → o ≡ find test ps →
    is_some o ≡ false → r ≡ find test qs → ps ++ qs ≡ all → r ≡ find test all
found_behind test ps qs all o r found none behind e =
    behind
    ∙ sym (ap (find test) (sym e) ∙ find-append test ps qs
    ∙ ap (λ (q : Option Pin). option_or q (find test qs)) (sym found ∙ by o none))
  where
    by : (q : Option Pin) → is_some q ≡ false → q ≡ None
    by None h = refl
    by (Some p) h = absurd (true≢false h)
