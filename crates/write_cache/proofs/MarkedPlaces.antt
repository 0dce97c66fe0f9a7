-- Which page is written at each place of the dies, as a page is written or leaves its place, and which is found there.
use Rattle.write_cache.proofs.Common.{Bool, List, None, Numbers, Option, Pending, Place, Some, [], ap, arith, cases_eq}
use Rattle.write_cache.proofs.Common.{changed, eq-eqb, eqb-true, false, false≢true, get_there, inl, inr, is_there}
use Rattle.write_cache.proofs.Common.{length, none-some, option_and_then, passes, position, refl, same_Some, set_here}
use Rattle.write_cache.proofs.Common.{slice_get, slice_get_within, slice_set, subst, suc, sym, tells, true, written_at}
use Rattle.write_cache.proofs.Common.{zero, ℕ, ◌<◌, ◌==◌, ◌^◌, ◌||◌, ◌∙◌, ◌∷◌, ◌≡◌, ◌≢◌, ◌⊎◌}
use Rattle.std.proofs.Common.{if◌then◌else◌}
use Rattle.std.proofs.lemmas.Iterator.Adapters.{position_from-zero}
use Rattle.ufs_spec.proofs.Equalities.{place_cases}
use Rattle.ufs_spec.proofs.Facts.{eqb-self, or_parts}
use Rattle.ufs_spec.specs.Cells.{same_place}
use Rattle.word_set.specs.Tests.{IsFirstFrom}
use Rattle.word_set.proofs.Flags.{changed_other, changed_there, first_is, ne-eqb, passes_set, set_length, set_other}
use Rattle.write_cache.specs.declared.pages.written_at.WrittenAt.{WrittenAt}
use Rattle.write_cache.specs.Slots.{is_at}
use Rattle.write_cache.specs.WrittenAt.{AreThere, IsWrittenAt, entry_left, entry_of, entry_put, is_taken, no_page}
use Rattle.write_cache.specs.WrittenAt.{place_before, place_index, place_total, position_of, standing, told_of}
use Rattle.write_cache.proofs.WrittenPlaces.{index_within, one_place, stands, none_stands, own_stands, untaken}
use Rattle.write_cache.proofs.WrittenPlaces.{not_there, unchanged}

-- a page is written that was not written before
module _ (n : Numbers) (at : List ℕ) (first k : ℕ) (ps : List Pending) (p : Pending) (place : Place)
    (small : first < 65535) (within : k < 65535) (many : length at ≡ place_total n) (there : slice_get ps k ≡ Some p)
    (unwritten : p.written ≡ None) (free : is_taken (option_and_then (slice_get at) (place_index n place)) ≡ false)
    (h : AreThere n at first ps) where
  abbrev now : Pending
  now = record p { written = Some place }

  less : k < length ps
  less = slice_get_within ps k p there

  before : (q : Place) → passes (is_there q) ps k ≡ false
  before q = ap (tells (is_there q)) there ∙ not_there q p.written unwritten

  says : (q : Place) (j : ℕ) →
      passes (is_there q) (slice_set ps k now) j ≡ changed (passes (is_there q) ps) k (same_place place q) j
  says q j = passes_set (is_there q) ps k now less j

  -- at other places
  beside : (q : Place) (i entry : ℕ) → place_index n q ≡ Some i → slice_get at i ≡ Some entry → q ≢ place →
      (j : ℕ) → passes (is_there q) (slice_set ps k now) j ≡ stands j (standing first entry)
  beside q i entry known e differ j =
      says q j
      ∙ ap (λ (b : Bool). changed (passes (is_there q) ps) k b j) (other (place_cases place q))
      ∙ unchanged (passes (is_there q) ps) k false (before q) j
      ∙ h q i entry known e j
    where
      other : ((same_place place q ≡ true) × (place ≡ q)) ⊎ ((same_place place q ≡ false) × (place ≢ q)) →
          same_place place q ≡ false
      other (inl r) = absurd (differ (sym r.1))
      other (inr r) = r.0

  -- and at its own
  own : (q : Place) (i old : ℕ) → place_index n q ≡ Some i → slice_get at i ≡ Some old → q ≡ place →
      (j : ℕ) → passes (is_there q) (slice_set ps k now) j ≡ (k == j)
  own q i old known e same j =
      says q j
      ∙ ap (λ (b : Bool). changed (passes (is_there q) ps) k b j) (own_place (place_cases place q))
      ∙ by (cases_eq j k)
    where
      own_place : ((same_place place q ≡ true) × (place ≡ q)) ⊎ ((same_place place q ≡ false) × (place ≢ q)) →
          same_place place q ≡ true
      own_place (inl r) = r.0
      own_place (inr r) = absurd (r.1 (sym same))

      none : old ≡ no_page
      none = untaken old
          (sym (ap (λ (o : Option ℕ). is_taken (option_and_then (slice_get at) o))
          (ap (place_index n) (sym same) ∙ known) ∙ ap is_taken e) ∙ free)

      by : (j ≡ k) ⊎ (j ≢ k) → changed (passes (is_there q) ps) k true j ≡ (k == j)
      by (inl f) = changed_there (passes (is_there q) ps) k j true f ∙ sym (eq-eqb k j (sym f))
      by (inr o) =
          changed_other (passes (is_there q) ps) k j true o ∙ h q i old known e j
          ∙ none_stands first old j none ∙ sym (ne-eqb k j (λ f. o (sym f)))

  put_there : AreThere n (entry_put at (position_of first k) (place_index n place)) first (slice_set ps k now)
  put_there q i entry known e j = by (place_index n place) refl e
    where
      by : (o : Option ℕ) → place_index n place ≡ o →
          slice_get (entry_put at (position_of first k) o) i ≡ Some entry →
          passes (is_there q) (slice_set ps k now) j ≡ stands j (standing first entry)
      by None out e =
          beside q i entry known e (λ same. none-some i (sym out ∙ ap (place_index n) (sym same) ∙ known)) j
      by (Some b) is e = cases (cases_eq i b)
        where
          cases : (i ≡ b) ⊎ (i ≢ b) → passes (is_there q) (slice_set ps k now) j ≡ stands j (standing first entry)
          cases (inl same) =
              let below = index_within n q i known in
              let old = get_there at i (omega (arith, below, many)) in
              let here = set_here at i (position_of first k) (omega (arith, below, many)) in
              own q i old.0 known old.1 (one_place n q place i known (is ∙ ap (λ (m : ℕ). Some m) (sym same))) j
              ∙ sym (ap (stands j) (own_stands first k small within))
              ∙ ap (λ (m : ℕ). stands j (standing first m)) (same_Some (position_of first k) entry
              (sym here ∙ ap (λ (m : ℕ). slice_get (slice_set at m (position_of first k)) i) same ∙ e))
          cases (inr other) =
              beside q i entry known (sym (set_other at b i (position_of first k) other) ∙ e)
              (λ same. other (same_Some i b (sym known ∙ ap (place_index n) same ∙ is))) j

-- setting twice is setting once
set_twice : (xs : List Pending) (k : ℕ) (x y : Pending) → slice_set (slice_set xs k x) k y ≡ slice_set xs k y
set_twice [] k x y = refl
set_twice (z ∷ xs) zero x y = refl
set_twice (z ∷ xs) (suc k) x y = ap (λ (ys : List Pending). z ∷ ys) (set_twice xs k x y)

-- a page leaves the place at which it was written, and stays in the queue
module _ (n : Numbers) (at : List ℕ) (first k : ℕ) (ps : List Pending) (p : Pending)
    (many : length at ≡ place_total n) (there : slice_get ps k ≡ Some p) (h : AreThere n at first ps) where
  abbrev bare : Pending
  bare = record p { written = None }

  here : k < length ps
  here = slice_get_within ps k p there

  told_at : (q : Place) → passes (is_there q) ps k ≡ is_at q p.written
  told_at q = ap (tells (is_there q)) there

  tells_bare : (q : Place) (j : ℕ) →
      passes (is_there q) (slice_set ps k bare) j ≡ changed (passes (is_there q) ps) k false j
  tells_bare q j = passes_set (is_there q) ps k bare here j

  away : (q : Place) (i entry : ℕ) → place_index n q ≡ Some i → slice_get at i ≡ Some entry →
      is_at q p.written ≡ false → (j : ℕ) →
      passes (is_there q) (slice_set ps k bare) j ≡ stands j (standing first entry)
  away q i entry known e apart j =
      tells_bare q j ∙ unchanged (passes (is_there q) ps) k false (told_at q ∙ apart) j ∙ h q i entry known e j

  only_it : (q : Place) (i old : ℕ) → place_index n q ≡ Some i → slice_get at i ≡ Some old →
      is_at q p.written ≡ true → (j : ℕ) → passes (is_there q) (slice_set ps k bare) j ≡ false
  only_it q i old known e its j = tells_bare q j ∙ by (cases_eq j k)
    where
      stands_there : stands k (standing first old) ≡ true
      stands_there = sym (h q i old known e k) ∙ told_at q ∙ its

      other_false : (o : Option ℕ) → stands k o ≡ true → (j ≡ k → ⊥) → stands j o ≡ false
      other_false None s d = absurd (false≢true s)
      other_false (Some m) s d = ne-eqb m j (λ f. d (sym f ∙ eqb-true m k s))

      by : (j ≡ k) ⊎ (j ≢ k) → changed (passes (is_there q) ps) k false j ≡ false
      by (inl f) = changed_there (passes (is_there q) ps) k j false f
      by (inr o) = changed_other (passes (is_there q) ps) k j false o ∙ h q i old known e j
          ∙ other_false (standing first old) stands_there o

  bare_there : AreThere n (entry_left n at p.written) first (slice_set ps k bare)
  bare_there q i entry known e j = by p.written refl e
    where
      own : (w : Place) → p.written ≡ Some w → q ≡ w → is_at q p.written ≡ true
      own w is same = ap (is_at q) is ∙ other (place_cases w q)
        where
          other : ((same_place w q ≡ true) × (w ≡ q)) ⊎ ((same_place w q ≡ false) × (w ≢ q)) → same_place w q ≡ true
          other (inl r) = r.0
          other (inr r) = absurd (r.1 (sym same))

      beyond : (w : Place) → p.written ≡ Some w → q ≢ w → is_at q p.written ≡ false
      beyond w is differ = ap (is_at q) is ∙ other (place_cases w q)
        where
          other : ((same_place w q ≡ true) × (w ≡ q)) ⊎ ((same_place w q ≡ false) × (w ≢ q)) → same_place w q ≡ false
          other (inl r) = absurd (differ (sym r.1))
          other (inr r) = r.0

      at_index : (w : Place) → p.written ≡ Some w → (o : Option ℕ) → place_index n w ≡ o →
          slice_get (entry_put at no_page o) i ≡ Some entry →
          passes (is_there q) (slice_set ps k bare) j ≡ stands j (standing first entry)
      at_index w is None out e =
          away q i entry known e
          (beyond w is (λ same. none-some i (sym out ∙ ap (place_index n) (sym same) ∙ known))) j
      at_index w is (Some b) found e = cases (cases_eq i b)
        where
          cases : (i ≡ b) ⊎ (i ≢ b) → passes (is_there q) (slice_set ps k bare) j ≡ stands j (standing first entry)
          cases (inl same) =
              let within = index_within n q i known in
              let old = get_there at i (omega (arith, within, many)) in
              let put = set_here at i no_page (omega (arith, within, many)) in
              only_it q i old.0 known old.1
              (own w is (one_place n q w i known (found ∙ ap (λ (m : ℕ). Some m) (sym same)))) j
              ∙ sym (none_stands first entry j
              (sym (same_Some no_page entry
              (sym put ∙ ap (λ (m : ℕ). slice_get (slice_set at m no_page) i) same ∙ e))))
          cases (inr other) =
              away q i entry known (sym (set_other at b i no_page other) ∙ e)
              (beyond w is (λ same. other (same_Some i b (sym known ∙ ap (place_index n) same ∙ found)))) j

      by : (o : Option Place) → p.written ≡ o → slice_get (entry_left n at o) i ≡ Some entry →
          passes (is_there q) (slice_set ps k bare) j ≡ stands j (standing first entry)
      by None unwritten e = away q i entry known e (not_there q p.written unwritten) j
      by (Some w) is e = at_index w is (place_index n w) refl e

pub written_marked : (t u : WrittenAt) (ps qs : List Pending) (k : ℕ) (place : Place) (before : Option Place) →
    IsWrittenAt t ps → k < length ps → length ps < 2 ^ 16 → before ≡ place_before (slice_get ps k) →
    qs ≡ written_at ps k place (slice_get ps k) → u.config ≡ t.config → u.first ≡ t.first →
    u.at.items ≡ entry_put (entry_left t.config t.at.items before) (position_of t.first k) (place_index t.config place) →
    u.shared ≡ (t.shared || is_taken
    (option_and_then (slice_get (entry_left t.config t.at.items before)) (place_index t.config place))) →
    IsWrittenAt u qs
written_marked t u ps qs k place before h within few was is config first put shared = record {
  many = ap (λ (xs : List ℕ). length xs) put ∙ put_length (place_index t.config place) ∙ left_many
      ∙ ap place_total (sym config);
  first = (let small = h.first in omega (arith, first, small));
  told = λ fresh.
      let parts = or_parts t.shared (is_taken (option_and_then (slice_get left) (place_index t.config place)))
      (sym shared ∙ fresh) in
      subst (λ (n : Numbers). AreThere n u.at.items u.first qs) (sym config)
      (subst (λ (at : List ℕ). AreThere t.config at u.first qs) (sym put)
      (subst (λ (m : ℕ). AreThere t.config (entry_put left (position_of t.first k) (place_index t.config place)) m qs)
      (sym first)
      (subst (λ (xs : List Pending). AreThere t.config
      (entry_put left (position_of t.first k) (place_index t.config place)) t.first xs)
      (sym (is ∙ ap (written_at ps k place) there ∙ sym (set_twice ps k bare_page (record p { written = Some place }))))
      (put_there t.config left t.first k (slice_set ps k bare_page) bare_page place h.first
      (omega (arith, within, few)) left_many (got_set ps k bare_page within) refl parts.1
      (subst (λ (o : Option Place). AreThere t.config (entry_left t.config t.at.items o) t.first
      (slice_set ps k bare_page)) (sym before_is)
      (bare_there t.config t.at.items t.first k ps p h.many there (h.told parts.0)))))));
}
  where
    p : Pending
    p = (get_there ps k within).0

    bare_page : Pending
    bare_page = record p { written = None }

    there : slice_get ps k ≡ Some p
    there = (get_there ps k within).1

    before_is : before ≡ p.written
    before_is = was ∙ ap place_before there

    left : List ℕ
    left = entry_left t.config t.at.items before

    got_set : (xs : List Pending) (j : ℕ) (x : Pending) → j < length xs → slice_get (slice_set xs j x) j ≡ Some x
    got_set [] j x few = absurd (omega (arith, few))
    got_set (z ∷ xs) zero x few = refl
    got_set (z ∷ xs) (suc j) x few = got_set xs j x (omega (arith, few))

    no_length : (o : Option ℕ) → length (entry_put t.at.items no_page o) ≡ length t.at.items
    no_length None = refl
    no_length (Some i) = set_length t.at.items i no_page

    left_length : (o : Option Place) → length (entry_left t.config t.at.items o) ≡ length t.at.items
    left_length None = refl
    left_length (Some w) = no_length (place_index t.config w)

    left_many : length left ≡ place_total t.config
    left_many = left_length before ∙ h.many

    put_length : (o : Option ℕ) → length (entry_put left (position_of t.first k) o) ≡ length left
    put_length None = refl
    put_length (Some i) = set_length left i (position_of t.first k)

-- the first page that is written there stands where the table tells
pub written_found : (t : WrittenAt) (ps : List Pending) (p : Place) (entry : ℕ) → IsWrittenAt t ps →
    told_of t p ≡ Some entry → standing t.first entry ≡ position (is_there p) ps
written_found t ps p entry h is = by t.shared refl is
  where
    first : (o : Option ℕ) → ((k : ℕ) → passes (is_there p) ps k ≡ stands k o) →
        IsFirstFrom (passes (is_there p) ps) 0 o
    first None tells = λ j behind. tells j
    first (Some k) tells = record {
      behind = omega arith;
      passes = tells k ∙ eqb-self k;
      before = λ j behind less. tells j ∙ ne-eqb k j (λ e. omega (arith, e, less));
    }

    at_index : (o : Option ℕ) → place_index t.config p ≡ o → t.shared ≡ false →
        option_and_then (slice_get t.at.items) o ≡ Some entry → standing t.first entry ≡ position (is_there p) ps
    at_index None out fresh e = absurd (none-some entry e)
    at_index (Some i) known fresh e =
        first_is (is_there p) ps 0 (standing t.first entry)
        (first (standing t.first entry) (h.told fresh p i entry known e))
        ∙ sym (position_from-zero (is_there p) ps)

    by : (b : Bool) → t.shared ≡ b → (if b then None else entry_of t p) ≡ Some entry →
        standing t.first entry ≡ position (is_there p) ps
    by true shared e = absurd (none-some entry e)
    by false fresh e = at_index (place_index t.config p) refl fresh e
