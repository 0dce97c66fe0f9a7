-- A group of pages with keys of their own, as the functions make it of those that a command brings.
use Rattle.ftl_core.proofs.Common.{All, All-map, Bool, Brought, Claimed, Core, Inside, IsPartBrought, List, Lives, None}
use Rattle.ftl_core.proofs.Common.{Option, Pending, Some, WriteCache, [], arith, claims_for, cons_option, core_of, drop}
use Rattle.ftl_core.proofs.Common.{filter, filter_map, length, map, min, new_page, next_number, option_map}
use Rattle.ftl_core.proofs.Common.{page_brought, refl, same_Some, slice_get, subst, suc, sym, take, without_pins, ℕ}
use Rattle.ftl_core.proofs.Common.{◌++◌, ◌∙◌, ◌∷◌, ◌≡◌, ◌≤◌}
use Rattle.std.proofs.Common.{◌-◌}
use Rattle.write_cache.specs.declared.rests.NewPage.{NewPage}
use Rattle.write_cache.specs.Rests.{IsPart, pages_appended}
use Rattle.ftl_core.specs.Moves.{released}
use Rattle.ftl_core.specs.Rests.{accepted_pages}
use Rattle.ftl_core.proofs.live_pages.PinsCounted.{passed_few}

-- One to three pages

at_first : {A : Type 0} (x y : A) → Some x ≡ Some y → y ≡ x
at_first x y e = sym (same_Some x y e)

-- what is made of each of one to three elements, and of the last again where there are fewer
pub made_of_all : {A B : Type 0} (f : A → B) (xs : List A) (a b c : B) → 1 ≤ length xs → length xs ≤ 3 →
    option_map f (slice_get xs (min 0 (length xs - 1))) ≡ Some a →
    option_map f (slice_get xs (min 1 (length xs - 1))) ≡ Some b →
    option_map f (slice_get xs (min 2 (length xs - 1))) ≡ Some c → take (length xs) (a ∷ b ∷ c ∷ []) ≡ map f xs
made_of_all f [] a b c some few is_a is_b is_c = absurd (omega (arith, some))
made_of_all f (x ∷ []) a b c some few is_a is_b is_c = λ i. at_first (f x) a is_a i ∷ []
made_of_all f (x ∷ y ∷ []) a b c some few is_a is_b is_c =
    λ i. at_first (f x) a is_a i ∷ at_first (f y) b is_b i ∷ []
made_of_all f (x ∷ y ∷ z ∷ []) a b c some few is_a is_b is_c =
    λ i. at_first (f x) a is_a i ∷ at_first (f y) b is_b i ∷ at_first (f z) c is_c i ∷ []
made_of_all f (x ∷ y ∷ z ∷ w ∷ ws) a b c some few is_a is_b is_c = absurd (omega (arith, few))

-- the pages that are made have the parts that come
pub parts_made : (c : Core) (xs : List Brought) (ys : List NewPage) → ys ≡ map (new_page c) xs →
    All IsPartBrought xs → All IsPart ys
parts_made c xs ys is parts =
    subst (λ (zs : List NewPage). All IsPart zs) (sym is) (All-map IsPart (new_page c) xs parts)

-- the group of these pages is accepted, in the place of the slots that the reader claimed
abbrev pub accepted_with : Core → ℕ → List NewPage → Core
accepted_with c reader xs =
    record (released c reader) {
      pages = c.pages ++ filter_map (page_brought c.pages (next_number c) xs) (claims_for c reader);
      last = next_number c;
    }

pub accepted_as : (f : Inside) (l : Lives) (w : WriteCache) (c : Core) (reader : ℕ) (xs : List Brought)
    (ys : List NewPage) → core_of f ≡ c → w ≡ pages_appended f.cache reader ys →
    without_pins l ≡ without_pins f.live → ys ≡ map (new_page c) xs →
    core_of (record f { live = l; cache = w }) ≡ accepted_pages c reader xs
accepted_as f l w c reader xs ys seen is same made =
    (λ i. record (core_of (record f { cache = is i })) { live = same i })
    ∙ (λ i. accepted_with (seen i) reader (made i))

-- there are no more pages than claims
cons_few : {A : Type 0} (o : Option A) (xs : List A) → length (cons_option o xs) ≤ suc (length xs)
cons_few None xs = omega arith
cons_few (Some x) xs = omega arith

mapped_few : {A B : Type 0} (h : A → Option B) (xs : List A) → length (filter_map h xs) ≤ length xs
mapped_few h [] = omega arith
mapped_few h (x ∷ xs) =
    let e = cons_few (h x) (filter_map h xs) in let f = mapped_few h xs in omega (arith, e, f)

pub brought_few : (h : Claimed → Option Pending) (test : Claimed → Bool) (cs : List Claimed) →
    length (filter_map h (filter test cs)) ≤ length cs
brought_few h test cs =
    let e = mapped_few h (filter test cs) in let f = passed_few test cs in omega (arith, e, f)

-- what is behind
behind : (ps qs : List Pending) → drop (length ps) (ps ++ qs) ≡ qs
behind [] qs = refl
behind (p ∷ ps) qs = behind ps qs

pub dropped : (before : ℕ) (ps qs rs : List Pending) → before ≡ length ps → rs ≡ ps ++ qs → drop before rs ≡ qs
dropped before ps qs rs e is = (λ i. drop (e i) (is i)) ∙ behind ps qs
