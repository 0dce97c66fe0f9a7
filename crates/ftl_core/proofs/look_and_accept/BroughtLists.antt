-- The pages of a group of pages with keys of their own, index by index: those of the claimed slots of which the group
-- has a page, in their order.
use Rattle.ftl_core.proofs.Common.{Bool, Entry, IsIn, IsWrittenAt, List, Name, None, Option, PageKept, PagesKept}
use Rattle.ftl_core.proofs.Common.{Pending, Place, Some, Standing, [], ap, append-nil, arith, below, cond, cons_option}
use Rattle.ftl_core.proofs.Common.{filter-append, filter_map, filter_map-append, inl, inr, is_some, map, map-append}
use Rattle.ftl_core.proofs.Common.{mapped_in, name_at, none-some, own_name, refl, rest_kept, rest_of_name, subst, suc}
use Rattle.ftl_core.proofs.Common.{sym, waiting, waits, zero, ℕ, ⊎_elim, ◌++◌, ◌<◌, ◌∙◌, ◌∷◌, ◌≡◌, ◌≤◌}
use Rattle.ufs_spec.proofs.Facts.{at_most}
use Rattle.ufs_spec.specs.Translation.{Rest}
use Rattle.power_loss.proofs.ordered_lists.ElementsAndOrders.{below_in}
use Rattle.write_cache.specs.declared.rests.Rest as cache
use Rattle.ftl_core.proofs.pages.PagesNamed.{pages_more}

-- Lists by index

pub mapped_twice : {A B C : Type 0} (f : B → Option C) (g : A → B) (xs : List A) →
    filter_map f (map g xs) ≡ filter_map (λ x. f (g x)) xs
mapped_twice f g [] = refl
mapped_twice {A} {B} {C} f g (x ∷ xs) = ap (λ (zs : List C). cons_option (f (g x)) zs) (mapped_twice f g xs)

-- one index more
one_more : {A : Type 0} (f : ℕ → Option A) (n : ℕ) →
    filter_map f (below (suc n)) ≡ filter_map f (below n) ++ cons_option (f n) []
one_more f n = filter_map-append f (below n) (n ∷ [])

one_there : {A : Type 0} (f : ℕ → Option A) (n : ℕ) (x : A) → f n ≡ Some x →
    filter_map f (below (suc n)) ≡ filter_map f (below n) ++ x ∷ []
one_there {A} f n x e = one_more f n ∙ ap (λ (o : Option A). filter_map f (below n) ++ cons_option o []) e

-- from an index on there is nothing
pub none_behind : {A : Type 0} (f : ℕ → Option A) (n m : ℕ) → n ≤ m → ((i : ℕ) → n ≤ i → f i ≡ None) →
    filter_map f (below m) ≡ filter_map f (below n)
none_behind f n zero l none = let same : 0 ≡ n = omega (arith, l) in ap (λ (k : ℕ). filter_map f (below k)) same
none_behind {A} f n (suc m) l none = ⊎_elim
    (λ (low : n ≤ m).
    one_more f m
    ∙ (ap (λ (o : Option A). filter_map f (below m) ++ cons_option o []) (none m low)
    ∙ (append-nil (filter_map f (below m)) ∙ none_behind f n m low none)))
    (λ (high : m < n).
    let same : suc m ≡ n = omega (arith, l, high) in ap (λ (k : ℕ). filter_map f (below k)) same)
    (at_most n m)

-- Pages of a group

-- there is a page for each index
abbrev pub IsThere : (ℕ → Option Pending) → (Pending → ℕ → Type 0) → ℕ → Type 0
IsThere f P i = (p : Pending) × (f i ≡ Some p) × P p i

-- each is kept under its name
pub pages_by_index : (st : Standing) (en : Name → Option Entry) (number : ℕ) (f : ℕ → Option Pending) (n : ℕ) →
    ((i : ℕ) → i < n → IsThere f (λ p j. PageKept st en p (name_at number j)) i) →
    PagesKept st en (filter_map f (below n)) (map (name_at number) (below n))
pages_by_index st en number f zero each = tt
pages_by_index st en number f (suc n) each =
    let here = each n (omega arith) in
    subst (λ (z : List Pending × List Name). PagesKept st en z.0 z.1)
    (λ i. (sym (one_there f n here.0 here.1) i, sym (map-append (name_at number) (below n) (n ∷ [])) i))
    (pages_more st en (filter_map f (below n)) (here.0 ∷ []) (map (name_at number) (below n)) (name_at number n ∷ [])
    (pages_by_index st en number f n (λ i l. each i (omega (arith, l)))) (here.2, tt))

-- the rest of one page, if it waits for one
one_rest : (p : Pending) → filter_map rest_kept (waiting (p ∷ [])) ≡ cons_option (rest_kept p) []
one_rest p = by p.rest refl
  where
    by : (o : Option cache.Rest) → p.rest ≡ o → filter_map rest_kept (waiting (p ∷ [])) ≡ cons_option (rest_kept p) []
    by None e =
        ap (λ (b : Bool). filter_map rest_kept (cond b (p ∷ []) [])) (ap is_some e)
        ∙ ap (λ (o : Option cache.Rest). cons_option (rest_of_name (own_name p) o) []) (sym e)
    by (Some rest) e = ap (λ (b : Bool). filter_map rest_kept (cond b (p ∷ []) [])) (ap is_some e)

-- the rests that they wait for
pub rests_by_index : (f : ℕ → Option Pending) (g : ℕ → Option Rest) (n : ℕ) →
    ((i : ℕ) → i < n → IsThere f (λ p j. rest_kept p ≡ g j) i) →
    filter_map rest_kept (waiting (filter_map f (below n))) ≡ filter_map g (below n)
rests_by_index f g zero each = refl
rests_by_index f g (suc n) each =
    let here = each n (omega arith) in
    ap (λ (ps : List Pending). filter_map rest_kept (waiting ps)) (one_there f n here.0 here.1)
    ∙ (ap (filter_map rest_kept) (filter-append waits (filter_map f (below n)) (here.0 ∷ []))
    ∙ (filter_map-append rest_kept (waiting (filter_map f (below n))) (waiting (here.0 ∷ []))
    ∙ (λ j. rests_by_index f g n (λ i l. each i (omega (arith, l))) j
    ++ (one_rest here.0 ∙ ap (λ (o : Option Rest). cons_option o []) here.2) j)
    ∙ sym (one_more g n)))

-- a page of the group has an index
pub index_of : (f : ℕ → Option Pending) (n : ℕ) (p : Pending) → IsIn p (filter_map f (below n)) →
    (i : ℕ) × (i < n) × (f i ≡ Some p)
index_of f n p there = let r = mapped_in f (below n) there in (r.0, below_in n r.0 r.1, r.2)

-- Pages that are written

-- pages that come behind and are not written change nothing of it
pub written_before : (ps more : List Pending) (p : Place) → IsWrittenAt ps p → IsWrittenAt (ps ++ more) p
written_before [] more p w = absurd w
written_before (q ∷ ps) more p (inl w) = inl w
written_before (q ∷ ps) more p (inr w) = inr (written_before ps more p w)

pub written_only : (ps more : List Pending) (p : Place) → ((q : Pending) → IsIn q more → q.written ≡ None) →
    IsWrittenAt (ps ++ more) p → IsWrittenAt ps p
written_only [] [] p none w = w
written_only [] (q ∷ more) p none (inl w) = absurd (none-some p (sym (none q (inl refl)) ∙ w))
written_only [] (q ∷ more) p none (inr w) = written_only [] more p (λ x there. none x (inr there)) w
written_only (q ∷ ps) more p none (inl w) = inl w
written_only (q ∷ ps) more p none (inr w) = inr (written_only ps more p none w)
