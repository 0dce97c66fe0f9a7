-- Which page is written at each place of the dies: in a new table, and as pages come, are filled and leave.
use Rattle.write_cache.proofs.Common.{Bool, List, None, Numbers, Option, Pending, Place, Some, [], and_parts, ap, arith}
use Rattle.write_cache.proofs.Common.{cases_eq, changed, eq-eqb, eqb-true, false, false≢true, get_there, inl, inr}
use Rattle.write_cache.proofs.Common.{is_there, length, map, nat_lt, none-some, passes, refl, replicate, same_Some}
use Rattle.write_cache.proofs.Common.{set_here, slice_get, slice_set, subst, suc, sym, tells, true, true≢false, zero, ℕ}
use Rattle.write_cache.proofs.Common.{◌&&◌, ◌++◌, ◌+◌, ◌-◌, ◌<◌, ◌==◌, ◌∙◌, ◌∷◌, ◌≡◌, ◌≢◌, ◌⊎◌}
use Rattle.std.proofs.Common.{if◌then◌else◌, ◌%◌, ◌*◌}
use Rattle.std.proofs.Math.Nat.{mul_comm}
use Rattle.std.proofs.lemmas.List.{length-replicate}
use Rattle.std.proofs.lemmas.Nat.{mul-add-lt, same_from_place}
use Rattle.std.proofs.lemmas.Option.{cond_some}
use Rattle.ufs_spec.proofs.Equalities.{place_cases, place_is}
use Rattle.ufs_spec.proofs.Facts.{ltb-true, not-false}
use Rattle.ufs_spec.specs.Cells.{IsPlace, same_place}
use Rattle.word_set.proofs.Flags.{changed_other, changed_there, ne-eqb, passes_drop, passes_more, passes_past}
use Rattle.word_set.proofs.Flags.{set_length, set_other}
use Rattle.write_cache.specs.declared.pages.written_at.WrittenAt.{WrittenAt}
use Rattle.write_cache.specs.Slots.{is_at}
use Rattle.write_cache.specs.WrittenAt.{AreThere, IsWrittenAt, entry_left, entry_put, is_taken, no_page}
use Rattle.write_cache.specs.WrittenAt.{place_index, place_total, position_of, standing}
use Rattle.write_cache.proofs.Same.{place_of, same_passes}

-- Indexes

-- a place with an index is there, and the index is this
index_told : (n : Numbers) (p : Place) (i : ℕ) → place_index n p ≡ Some i →
    IsPlace n p × (i ≡ (p.die * n.blocks + p.block) * n.pages + p.page)
index_told n p i e =
    let r = cond_some _ _ i e in
    let u = and_parts (nat_lt p.die n.dies && nat_lt p.block n.blocks) (nat_lt p.page n.pages) r.0 in
    let v = and_parts (nat_lt p.die n.dies) (nat_lt p.block n.blocks) u.0 in (
      record {
        die = ltb-true p.die n.dies v.0;
        block = ltb-true p.block n.blocks v.1;
        page = ltb-true p.page n.pages u.1;
      },
      sym r.1,
    )

-- it is below the number of all pages
pub index_within : (n : Numbers) (p : Place) (i : ℕ) → place_index n p ≡ Some i → i < place_total n
index_within n p i e =
    let r = index_told n p i e in
    let block = mul-add-lt p.die n.blocks p.block n.dies r.0.die r.0.block in
    let page = mul-add-lt (p.die * n.blocks + p.block) n.pages p.page (n.blocks * n.dies) block r.0.page in
    rw (r.1, mul_comm n.dies n.blocks, mul_comm (n.blocks * n.dies) n.pages) page

-- and no other place has it
pub one_place : (n : Numbers) (p q : Place) (i : ℕ) → place_index n p ≡ Some i → place_index n q ≡ Some i → p ≡ q
one_place n p q i e f =
    let r = index_told n p i e in
    let s = index_told n q i f in
    let u = same_from_place (p.die * n.blocks + p.block) p.page (q.die * n.blocks + q.block) q.page n.pages r.0.page
    s.0.page (sym r.1 ∙ s.1) in
    let v = same_from_place p.die p.block q.die q.block n.blocks r.0.block s.0.block u.0 in
    place_is p q v.0 v.1 u.1

-- Entries

-- the page stands there
abbrev pub stands : ℕ → Option ℕ → Bool
stands k o = tells (λ j. j == k) o

-- the entry of no page
pub none_stands : (first entry k : ℕ) → entry ≡ no_page → stands k (standing first entry) ≡ false
none_stands first entry k e = ap (λ (m : ℕ). stands k (standing first m)) e

-- the entry of a page is that of its place
pub own_stands : (first k : ℕ) → first < 65535 → k < 65535 → standing first (position_of first k) ≡ Some k
own_stands first k small within =
    ap (λ (b : Bool). if b then None else Some ((position_of first k + (65535 - first)) % 65535)) other
    ∙ ap (λ (m : ℕ). Some m) (omega (arith, small, within))
  where
    other : (position_of first k == no_page) ≡ false
    other = ne-eqb (position_of first k) no_page (λ e. omega (arith, e))

-- each page moves up by one place, once the first has left
moved_up : (first next entry k : ℕ) → first < 65535 → next ≡ position_of first 1 →
    stands 0 (standing first entry) ≡ false → stands (k + 1) (standing first entry) ≡ stands k (standing next entry)
moved_up first next entry k small is apart = by (entry == no_page) apart
  where
    a : ℕ
    a = (entry + (65535 - first)) % 65535

    b : ℕ
    b = (entry + (65535 - next)) % 65535

    less : (a == 0) ≡ false → a ≡ b + 1
    less e = let apart : a ≢ 0 = λ z. true≢false (sym (eq-eqb a 0 z) ∙ e) in omega (arith, small, is, apart)

    shifted : (m : ℕ) → (m + 1 == k + 1) ≡ (m == k)
    shifted m = by (cases_eq m k)
      where
        by : (m ≡ k) ⊎ (m ≢ k) → (m + 1 == k + 1) ≡ (m == k)
        by (inl e) = eq-eqb (m + 1) (k + 1) (omega (arith, e)) ∙ sym (eq-eqb m k e)
        by (inr o) = ne-eqb (m + 1) (k + 1) (λ e. o (omega (arith, e))) ∙ sym (ne-eqb m k o)

    by : (c : Bool) → stands 0 (if c then None else Some a) ≡ false →
        stands (k + 1) (if c then None else Some a) ≡ stands k (if c then None else Some b)
    by true e = refl
    by false e = ap (λ (m : ℕ). m == k + 1) (less e) ∙ shifted b

-- where the first page stands no other does
only_first : (o : Option ℕ) (k : ℕ) → stands 0 o ≡ true → stands (k + 1) o ≡ false
only_first None k e = absurd (false≢true e)
only_first (Some j) k e = let z = eqb-true j 0 e in ne-eqb j (k + 1) (λ f. omega (arith, z, f))

pub untaken : (entry : ℕ) → is_taken (Some entry) ≡ false → entry ≡ no_page
untaken entry e = eqb-true entry no_page (not-false (entry == no_page) e)

-- Pages

pub not_there : (q : Place) (o : Option Place) → o ≡ None → is_at q o ≡ false
not_there q o e = ap (is_at q) e

-- a test that says what it said before of a page changed is the same test
pub unchanged : (test : ℕ → Bool) (k : ℕ) (b : Bool) → test k ≡ b → (j : ℕ) → changed test k b j ≡ test j
unchanged test k b is j = by (cases_eq j k)
  where
    by : (j ≡ k) ⊎ (j ≢ k) → changed test k b j ≡ test j
    by (inl e) = changed_there test k j b e ∙ sym is ∙ sym (ap test e)
    by (inr o) = changed_other test k j b o

-- The table

-- no page is there
pub written_none : (t : WrittenAt) (n : Numbers) (ps : List Pending) → ps ≡ [] → t.config ≡ n →
    t.at.items ≡ replicate (place_total n) no_page → t.first ≡ 0 → IsWrittenAt t ps
written_none t n ps none same is first = record {
  many = ap (λ (xs : List ℕ). length xs) is ∙ length-replicate (place_total n) no_page
      ∙ ap place_total (sym same);
  first = omega (arith, first);
  told = λ fresh q i entry at e k.
      ap (λ (xs : List Pending). passes (is_there q) xs k) none
      ∙ sym (none_stands t.first entry k
      (all_none (place_total n) i entry (sym (ap (λ (xs : List ℕ). slice_get xs i) is) ∙ e)));
}
  where
    all_none : (m i entry : ℕ) → slice_get (replicate m no_page) i ≡ Some entry → entry ≡ no_page
    all_none zero i entry e = absurd (none-some entry e)
    all_none (suc m) zero entry e = sym (same_Some no_page entry e)
    all_none (suc m) (suc i) entry e = all_none m i entry e

-- one page more, which is not written
pub written_pushed : (t : WrittenAt) (ps qs : List Pending) (p : Pending) → IsWrittenAt t ps → qs ≡ ps ++ p ∷ [] →
    p.written ≡ None → IsWrittenAt t qs
written_pushed t ps qs p h all unwritten = record {
  many = h.many;
  first = h.first;
  told = λ fresh q i entry at e k.
      ap (λ (xs : List Pending). passes (is_there q) xs k) all
      ∙ passes_more (is_there q) ps p k
      ∙ ap (λ (b : Bool). changed (passes (is_there q) ps) (length ps) b k) (not_there q p.written unwritten)
      ∙ unchanged (passes (is_there q) ps) (length ps) false (passes_past (is_there q) ps (length ps) (omega arith)) k
      ∙ h.told fresh q i entry at e k;
}

-- no page changes where it is written
pub written_kept : (t : WrittenAt) (ps qs : List Pending) →
    map place_of qs ≡ map place_of ps → IsWrittenAt t ps → IsWrittenAt t qs
written_kept t ps qs same h = record {
  many = h.many;
  first = h.first;
  told = λ fresh q i entry at e k.
      same_passes place_of (is_at q) ps qs same k ∙ h.told fresh q i entry at e k;
}

-- the first page leaves
module _ (n : Numbers) (at : List ℕ) (first next : ℕ) (ps qs : List Pending) (p : Pending) (small : first < 65535)
    (many : length at ≡ place_total n) (is : next ≡ position_of first 1) (all : ps ≡ p ∷ qs) (h : AreThere n at first ps) where
  first_there : (q : Place) (i entry : ℕ) → place_index n q ≡ Some i → slice_get at i ≡ Some entry →
      stands 0 (standing first entry) ≡ is_there q p
  first_there q i entry known e =
      sym (h q i entry known e 0) ∙ ap (λ (xs : List Pending). passes (is_there q) xs 0) all

  behind : (q : Place) (k : ℕ) → passes (is_there q) qs k ≡ passes (is_there q) ps (k + 1)
  behind q k =
      passes_drop (is_there q) 1 (p ∷ qs) k (k + 1) (omega arith)
      ∙ sym (ap (λ (xs : List Pending). passes (is_there q) xs (k + 1)) all)

  -- at other places
  moved : (q : Place) (i entry : ℕ) → place_index n q ≡ Some i → slice_get at i ≡ Some entry →
      is_there q p ≡ false → (k : ℕ) → passes (is_there q) qs k ≡ stands k (standing next entry)
  moved q i entry known e apart k =
      behind q k ∙ h q i entry known e (k + 1)
      ∙ moved_up first next entry k small is (first_there q i entry known e ∙ apart)

  -- at its own
  gone : (q : Place) (i entry : ℕ) → place_index n q ≡ Some i → slice_get at i ≡ Some entry → is_there q p ≡ true →
      (k : ℕ) → passes (is_there q) qs k ≡ false
  gone q i entry known e own k =
      behind q k ∙ h q i entry known e (k + 1)
      ∙ only_first (standing first entry) k (first_there q i entry known e ∙ own)

  left_there : AreThere n (entry_left n at p.written) next qs
  left_there q i entry known e k = by p.written refl e
    where
      own : (w : Place) → p.written ≡ Some w → q ≡ w → is_there q p ≡ true
      own w is same = ap (is_at q) is ∙ other (place_cases w q)
        where
          other : ((same_place w q ≡ true) × (w ≡ q)) ⊎ ((same_place w q ≡ false) × (w ≢ q)) → same_place w q ≡ true
          other (inl r) = r.0
          other (inr r) = absurd (r.1 (sym same))

      beside : (w : Place) → p.written ≡ Some w → q ≢ w → is_there q p ≡ false
      beside w is differ = ap (is_at q) is ∙ other (place_cases w q)
        where
          other : ((same_place w q ≡ true) × (w ≡ q)) ⊎ ((same_place w q ≡ false) × (w ≢ q)) → same_place w q ≡ false
          other (inl r) = absurd (differ (sym r.1))
          other (inr r) = r.0

      at_index : (w : Place) → p.written ≡ Some w → (o : Option ℕ) → place_index n w ≡ o →
          slice_get (entry_put at no_page o) i ≡ Some entry →
          passes (is_there q) qs k ≡ stands k (standing next entry)
      at_index w is None out e =
          moved q i entry known e
          (beside w is (λ same. none-some i (sym out ∙ ap (place_index n) (sym same) ∙ known))) k
      at_index w is (Some b) there e = cases (cases_eq i b)
        where
          cases : (i ≡ b) ⊎ (i ≢ b) → passes (is_there q) qs k ≡ stands k (standing next entry)
          cases (inl same) =
              let within = index_within n q i known in
              let old = get_there at i (omega (arith, within, many)) in
              let here = set_here at i no_page (omega (arith, within, many)) in
              gone q i old.0 known old.1
              (own w is (one_place n q w i known (there ∙ ap (λ (m : ℕ). Some m) (sym same)))) k
              ∙ sym (none_stands next entry k
              (sym (same_Some no_page entry
              (sym here ∙ ap (λ (m : ℕ). slice_get (slice_set at m no_page) i) same ∙ e))))
          cases (inr other) =
              moved q i entry known (sym (set_other at b i no_page other) ∙ e)
              (beside w is (λ same. other (same_Some i b (sym known ∙ ap (place_index n) same ∙ there)))) k

      by : (o : Option Place) → p.written ≡ o → slice_get (entry_left n at o) i ≡ Some entry →
          passes (is_there q) qs k ≡ stands k (standing next entry)
      by None unwritten e = moved q i entry known e (not_there q p.written unwritten) k
      by (Some w) is e = at_index w is (place_index n w) refl e

pub written_taken : (t u : WrittenAt) (ps qs : List Pending) (p : Pending) → IsWrittenAt t ps → ps ≡ p ∷ qs →
    u.config ≡ t.config → u.shared ≡ t.shared → u.first ≡ position_of t.first 1 →
    u.at.items ≡ entry_left t.config t.at.items p.written → IsWrittenAt u qs
written_taken t u ps qs p h all config shared first is = record {
  many = ap (λ (xs : List ℕ). length xs) is ∙ left_length p.written ∙ h.many ∙ ap place_total (sym config);
  first = omega (arith, first);
  told = λ fresh.
      subst (λ (n : Numbers). AreThere n u.at.items u.first qs) (sym config)
      (subst (λ (at : List ℕ). AreThere t.config at u.first qs) (sym is)
      (left_there t.config t.at.items t.first u.first ps qs p h.first h.many first all (h.told (sym shared ∙ fresh))));
}
  where
    put_length : (o : Option ℕ) → length (entry_put t.at.items no_page o) ≡ length t.at.items
    put_length None = refl
    put_length (Some i) = set_length t.at.items i no_page

    left_length : (o : Option Place) → length (entry_left t.config t.at.items o) ≡ length t.at.items
    left_length None = refl
    left_length (Some w) = put_length (place_index t.config w)
