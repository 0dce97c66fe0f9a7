-- Groups that are pending and contents that are durable, by the frontier; and where the frontier stops.
use Rattle.power_loss.proofs.Common.{◌≡◌, ℕ, zero, suc, ◌+◌, ◌-◌, ◌<◌, ◌≤◌, Bool, true, false, ◌⊎◌, ◌&&◌, if◌then◌else◌}
use Rattle.power_loss.proofs.Common.{is_some, List, [], ◌∷◌, ◌++◌, drop, length, take, Option, Some, None, slice_get}
use Rattle.power_loss.proofs.Common.{refl, sym, ap, ◌∙◌, subst, ⊎_elim, arith, slice_get_within, at_most, none-some}
use Rattle.power_loss.proofs.Common.{same_Some, cond-false, Contents, Group, put_group, put_groups, Ledger, Name}
use Rattle.power_loss.proofs.Common.{all_stand, at_name, climbed, page_stands, Place, get_splits, Book, last_number}
use Rattle.power_loss.proofs.Common.{FrontierRight, Standing}
use Rattle.power_loss.proofs.MachineWords.{FrontierStops}
use Rattle.std.proofs.Common.{nat_le}
use Rattle.std.proofs.Math.Seq.{take-add}
use Rattle.std.proofs.lemmas.List.{drop-drop}
use Rattle.ufs_spec.proofs.Facts.{lt-leb}
use Rattle.power_loss.proofs.books.FrontierClimbs.{climb, get_drop, in_group}
use Rattle.power_loss.proofs.stops.ImageContents.{AreSame, after_none, after_same}

-- Contents

-- groups go in one after another
pub put_more : (f : Contents) (xs ys : List Group) → put_groups f (xs ++ ys) ≡ put_groups (put_groups f xs) ys
put_more f [] ys = refl
put_more f (x ∷ xs) ys = put_more (put_group f x) xs ys

-- repairs change no content: the first groups put in what the accepted ones among them do
pub put_accepted : (f : Contents) (gs : List Group) (r n : ℕ) → AreSame f gs r →
    put_groups f (take n gs) ≡ put_groups f (take (n - r) (drop r gs))
put_accepted f gs r n same = ⊎_elim (λ (l : r ≤ n). after_same f gs r n same l)
    (λ (l : n < r).
    let e : 0 ≡ n - r = omega arith in
    after_none gs r n same (omega arith) ∙ ap (λ z. put_groups f (take z (drop r gs))) e) (at_most r n)

-- A higher frontier

-- a front of what is pending becomes durable
pub front_of : (f : Contents) (gs : List Group) (r top from to : ℕ) → AreSame f gs r → from ≤ to →
    (k : ℕ) × (drop (to - (top + r)) (drop r gs) ≡ drop k (drop (from - (top + r)) (drop r gs)))
    × (put_groups f (take (to - top) gs) ≡ put_groups (put_groups f (take (from - top) gs))
    (take k (drop (from - (top + r)) (drop r gs))))
front_of f gs r top from to same l = (k, sym (drop-drop k m (drop r gs) ∙ ap (λ z. drop z (drop r gs)) there), here)
  where
    m : ℕ
    m = from - (top + r)

    k : ℕ
    k = to - (top + r) - m

    there : m + k ≡ to - (top + r)
    there = omega arith

    last : to - top - r ≡ m + k
    last = omega arith

    first : m ≡ from - top - r
    first = omega arith

    here : put_groups f (take (to - top) gs) ≡ put_groups (put_groups f (take (from - top) gs))
        (take k (drop m (drop r gs)))
    here = put_accepted f gs r (to - top) same ∙ ap (λ z. put_groups f (take z (drop r gs))) last
        ∙ ap (put_groups f) (take-add m k (drop r gs)) ∙ put_more f (take m (drop r gs)) (take k (drop m (drop r gs)))
        ∙ ap (λ h. put_groups h (take k (drop m (drop r gs)))) (ap (λ z. put_groups f (take z (drop r gs))) first
        ∙ sym (put_accepted f gs r (from - top) same))

-- Where the frontier stops

some_left : (stands : ℕ → Bool) (k : ℕ) → all_stand stands k ≡ false → (i : ℕ) × (i < k) × (stands i ≡ false)
some_left stands zero h = cc
some_left stands (suc k) h = go (λ rest. some_left stands k rest) (stands k) refl h
  where
    go : (all_stand stands k ≡ false → (i : ℕ) × (i < k) × (stands i ≡ false)) → (b : Bool) → stands k ≡ b →
        (b && all_stand stands k) ≡ false → (i : ℕ) × (i < suc k) × (stands i ≡ false)
    go below false e rest = (k, omega arith, e)
    go below true e rest = let r = below rest in (r.0, (let l = r.1 in omega arith), r.2)

none_there : (o : Option Place) → is_some o ≡ false → o ≡ None
none_there None h = refl
none_there (Some p) h = cc

-- a climb stops before a group that is not wholly there
pub climb_stops : (stands : ℕ → ℕ → Bool) (n : ℕ) (gs : List Group) (g : Group) →
    slice_get gs (climbed stands n gs - n) ≡ Some g → all_stand (stands (suc (climbed stands n gs))) (length g) ≡ false
climb_stops stands n [] g h = absurd (none-some g h)
climb_stops stands n (x ∷ xs) g h =
    go (λ at. climb_stops stands (suc n) xs g at) (all_stand (stands (suc n)) (length x)) refl h
  where
    to : ℕ
    to = climbed stands (suc n) xs

    go : (slice_get xs (to - suc n) ≡ Some g → all_stand (stands (suc to)) (length g) ≡ false) → (b : Bool) →
        all_stand (stands (suc n)) (length x) ≡ b → slice_get (x ∷ xs) ((if b then to else n) - n) ≡ Some g →
        all_stand (stands (suc (if b then to else n))) (length g) ≡ false
    go above true e at =
        let c = (climb stands (suc n) xs).from in
        let j : suc (to - suc n) ≡ to - n = omega arith in
        above (ap (slice_get (x ∷ xs)) j ∙ at)
    go above false e at =
        let j : 0 ≡ n - n = omega arith in
        subst (λ (y : Group). all_stand (stands (suc n)) (length y) ≡ false)
        (same_Some x g (ap (slice_get (x ∷ xs)) j ∙ at)) e

-- it goes over no group that has a page which does not stand
pub climb_stays : (stands : ℕ → ℕ → Bool) {n : ℕ} (gs : List Group) →
    ((g : Group) → slice_get gs 0 ≡ Some g → (i : ℕ) × (i < length g) × (stands (suc n) i ≡ false)) →
    climbed stands n gs ≡ n
climb_stays stands [] h = refl
climb_stays stands {n} (g ∷ gs) h =
    let x = h g refl in
    cond-false (all_stand (stands (suc n)) (length g)) (climbed stands (suc n) gs) n
    (missing (stands (suc n)) (length g) x.0 x.1 x.2)
  where
    missing : (s : ℕ → Bool) (k i : ℕ) → i < k → s i ≡ false → all_stand s k ≡ false
    missing s zero i l e = absurd (omega arith)
    missing s (suc k) i l e = ⊎_elim (λ (u : i < k). ap (λ b. s k && b) (missing s k i u e) ∙ none (s k))
        (λ (u : i ≡ k). ap (λ b. b && all_stand s k) (ap s (sym u) ∙ e)) (order i k l)
      where
        none : (a : Bool) → (a && false) ≡ false
        none true = refl
        none false = refl

        order : (i k : ℕ) → i < suc k → (i < k) ⊎ (i ≡ k)
        order i k l = grind arith

-- the group after a number
pub group_next : (top n : ℕ) (gs : List Group) → top ≤ n →
    (if nat_le (n + 1) top then None else slice_get gs (n + 1 - top - 1)) ≡ slice_get gs (n - top)
group_next top n gs l =
    let e : n + 1 - top - 1 ≡ n - top = omega arith in
    cond-false (nat_le (n + 1) top) None (slice_get gs (n + 1 - top - 1)) (lt-leb (n + 1) top (omega arith))
    ∙ ap (slice_get gs) e

-- after a page's program the frontier is where it stops
pub page_stops : (l : Ledger) (name : Name) (p : Place) → l.greatest_seen ≤ l.frontier →
    FrontierStops (page_stands l name p)
page_stops l name p low g h =
    (left.0, left.1, none_there (now (to + 1) left.0) (ap (λ z. is_some (now z left.0)) next ∙ left.2))
  where
    now : Standing
    now = at_name l.standing name (Some p)

    ahead : List Group
    ahead = drop (l.frontier - l.greatest_seen) l.groups

    to : ℕ
    to = climbed (λ n i. is_some (now n i)) l.frontier ahead

    next : to + 1 ≡ suc to
    next = omega arith

    up : l.frontier ≤ to
    up = (climb (λ n i. is_some (now n i)) l.frontier ahead).from

    index : l.frontier - l.greatest_seen + (to - l.frontier) ≡ to - l.greatest_seen
    index = omega (arith, up, low)

    at : slice_get ahead (to - l.frontier) ≡ Some g
    at = get_drop l.groups (l.frontier - l.greatest_seen) (to - l.frontier) ∙ ap (slice_get l.groups) index
        ∙ sym (group_next l.greatest_seen to l.groups (omega (arith, up, low))) ∙ h

    left : (i : ℕ) × (i < length g) × (is_some (now (suc to) i) ≡ false)
    left = some_left (λ i. is_some (now (suc to) i)) (length g) (climb_stops (λ n i. is_some (now n i)) l.frontier ahead
        g at)

-- One group more

-- nothing stands under a number that no group has
pub beyond : {b : Book} {standing : Standing} {frontier : ℕ} (n i : ℕ) → FrontierRight b standing frontier →
    last_number b < n → standing n i ≡ None
beyond {b} {standing} n i f l = go (standing n i) refl
  where
    go : (o : Option Place) → standing n i ≡ o → o ≡ None
    go None e = refl
    go (Some p) e =
        let k = f.known n i p e in
        let r = in_group b n i k.0 (omega arith) k.1 in
        let w = slice_get_within b.groups (n - b.greatest_seen - 1) r.0 r.1 in
        absurd (omega arith)

-- it has a page that does not stand
pub stops_more : (top frontier : ℕ) (gs : List Group) (x : Group) (standing : Standing) → top ≤ frontier →
    0 < length x → ((i : ℕ) → frontier - top ≡ length gs → standing (frontier + 1) i ≡ None) →
    ((g : Group) → (if nat_le (frontier + 1) top then None else slice_get gs (frontier + 1 - top - 1)) ≡ Some g →
    (i : ℕ) × (i < length g) × (standing (frontier + 1) i ≡ None)) →
    (g : Group) → (if nat_le (frontier + 1) top then None else slice_get (gs ++ x ∷ []) (frontier + 1 - top - 1)) ≡ Some
    g → (i : ℕ) × (i < length g) × (standing (frontier + 1) i ≡ None)
stops_more top frontier gs x standing low some new old g h = ⊎_elim (λ k. old g (group_next top frontier gs low ∙ k))
    (λ k. (0, subst (λ (y : Group). 0 < length y) (sym k.1) some, new 0 k.0))
    (get_splits gs x (frontier - top) g (sym (group_next top frontier (gs ++ x ∷ []) low) ∙ h))
