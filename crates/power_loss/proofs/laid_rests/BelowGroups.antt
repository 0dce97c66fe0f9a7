-- The content below a group stays as it is when a later group is added; and a rest is found by its name.
use Rattle.power_loss.proofs.Common.{Book, Contains, Group, List, Name, Rest, Some, [], ap, arith, cases_Bool}
use Rattle.power_loss.proofs.Common.{cond-false, cond-true, find, is_rest_of, last_number, length, ltb-false}
use Rattle.power_loss.proofs.Common.{name_cases, nat_lt, put_groups, suc, take, true, ℕ, ⊎_elim, ◌+◌, ◌-◌, ◌<◌, ◌∙◌}
use Rattle.power_loss.proofs.Common.{◌∷◌, ◌≡◌, ◌≤◌}
use Rattle.std.proofs.lemmas.List.{take-append-le, take_all}
use Rattle.power_loss.specs.LaidRests.{contents_below}
use Rattle.power_loss.proofs.books.PagesByName.{grown}
use Rattle.power_loss.proofs.ordered_lists.ElementsAndOrders.{IsIn, contained_in}

-- the content below a number that was given already is as it was
pub below_grows : (b : Book) (g : Group) (n : ℕ) → n ≤ suc (last_number b) → contents_below (grown b g) n ≡
    contents_below b n
below_grows b g n l = ap (put_groups b.base) (take-append-le (n - b.greatest_seen - 1) b.groups (g ∷ []) (omega arith))

pub below_last : (b : Book) (g : Group) (n : ℕ) → n ≡ suc (last_number b) → contents_below (grown b g) n ≡
    put_groups b.base b.groups
below_last b g n e = below_grows b g n (omega arith)
    ∙ ap (put_groups b.base)
    (ap (λ (m : ℕ). take m b.groups) (whole n b.greatest_seen (length b.groups) e)
    ∙ take_all (length b.groups) b.groups (omega arith))
  where
    whole : (n top long : ℕ) → n ≡ suc (top + long) → n - top - 1 ≡ long
    whole n top long e = omega arith

pub is_less : (a b : ℕ) → a < b → nat_lt a b ≡ true
is_less a b l = ⊎_elim (λ e. e) (λ e. let le = ltb-false a b e in absurd (omega (arith, l, le)))
    (cases_Bool (nat_lt a b))

-- a rest of the name is found where one is there
pub rest_is_found : (name : Name) (rests : List Rest) (rest : Rest) → Contains rests rest → rest.name ≡ name →
    (s : Rest) × (find (is_rest_of name) rests ≡ Some s)
rest_is_found name rests rest there is = by rests (contained_in rests there)
  where
    by : (xs : List Rest) → IsIn rest xs → (s : Rest) × (find (is_rest_of name) xs ≡ Some s)
    by [] h = absurd h
    by (x ∷ xs) h = ⊎_elim
        (λ k. (x, cond-true (is_rest_of name x) (Some x) (find (is_rest_of name) xs) k.0))
        (λ k. ⊎_elim
        (λ (e : x ≡ rest). absurd (k.1 (ap (λ (r : Rest). r.name) e ∙ is)))
        (λ j. let s = by xs j in
        (s.0, cond-false (is_rest_of name x) (Some x) (find (is_rest_of name) xs) k.0 ∙ s.1)) h)
        (name_cases x.name name)
