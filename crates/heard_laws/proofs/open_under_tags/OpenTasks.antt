-- What is found under a tag in a journal, once something is open there, or nothing more.
use Rattle.heard_laws.proofs.Common.{Bool, List, None, OpenTask, Option, Some, TagsDiffer, [], ap, cond, cond-true}
use Rattle.heard_laws.proofs.Common.{eqb-true, false, false≢true, filter, find, has_tag, list_any, not, option_map}
use Rattle.heard_laws.proofs.Common.{refl, subst, suc, sym, true, without, ℕ, ◌++◌, ◌==◌, ◌∙◌, ◌∷◌, ◌≡◌}
use Rattle.std.specs.Prelude.{position}
use Rattle.ufs_spec.proofs.Facts.{eqb-self, or_parts}
use Rattle.ufs_spec.proofs.Lists.{position_behind, position_here}
use Rattle.power_loss.proofs.open_tasks.FoundInLists.{found_gone}
use Rattle.power_loss.proofs.open_tasks.TaggedLists.{differ_filter, differ_push}
use Rattle.journal.specs.Tasks.{found_at, open_with, removed_at}
use Rattle.heard_laws.proofs.agreement.Agreement.{tag_of}
use Rattle.heard_laws.proofs.open_under_tags.TaggedFinds.{find_left, find_more, find_new, none_any}

-- ## The journal's own words

found_behind : (x : OpenTask) (xs : List OpenTask) (o : Option ℕ) →
    found_at (x ∷ xs) (option_map suc o) ≡ found_at xs o
found_behind x xs None = refl
found_behind x xs (Some k) = refl

pub open_is : (tag : ℕ) (xs : List OpenTask) → open_with tag xs ≡ find (has_tag tag) xs
open_is tag [] = refl
open_is tag (x ∷ xs) = by (has_tag tag x) refl (open_is tag xs)
  where
    by : (b : Bool) → has_tag tag x ≡ b → open_with tag xs ≡ find (has_tag tag) xs →
        open_with tag (x ∷ xs) ≡ cond b (Some x) (find (has_tag tag) xs)
    by true e rest = ap (found_at (x ∷ xs)) (position_here (has_tag tag) x xs e)
    by false e rest =
        ap (found_at (x ∷ xs)) (position_behind (has_tag tag) x xs e)
        ∙ (found_behind x xs (position (has_tag tag) xs) ∙ rest)

removed_behind : (x : OpenTask) (xs : List OpenTask) (o : Option ℕ) →
    removed_at (x ∷ xs) (option_map suc o) ≡ x ∷ removed_at xs o
removed_behind x xs None = refl
removed_behind x xs (Some k) = refl

abbrev pub others : ℕ → List OpenTask → List OpenTask
others tag xs = filter (λ t. not (has_tag tag t)) xs

none_removed : (tag : ℕ) (xs : List OpenTask) → list_any (has_tag tag) xs ≡ false → others tag xs ≡ xs
none_removed tag [] e = refl
none_removed tag (x ∷ xs) e =
    let both = or_parts (has_tag tag x) (list_any (has_tag tag) xs) e in
    cond-true (not (has_tag tag x)) (x ∷ others tag xs) (others tag xs) (ap not both.0)
    ∙ ap (λ (ys : List OpenTask). x ∷ ys) (none_removed tag xs both.1)

-- where no tag stands twice the one of a tag is taken out
pub without_is : (tag : ℕ) (xs : List OpenTask) → TagsDiffer tag_of xs → without tag xs ≡ others tag xs
without_is tag [] differ = refl
without_is tag (x ∷ xs) differ = by (has_tag tag x) refl (without_is tag xs differ.1)
  where
    by : (b : Bool) → has_tag tag x ≡ b → without tag xs ≡ others tag xs →
        without tag (x ∷ xs) ≡ cond (not b) (x ∷ others tag xs) (others tag xs)
    by true e rest =
        ap (removed_at (x ∷ xs)) (position_here (has_tag tag) x xs e)
        ∙ sym (none_removed tag xs
        (ap (λ (n : ℕ). list_any (has_tag n) xs) (sym (eqb-true (tag_of x) tag e)) ∙ differ.0))
    by false e rest =
        ap (removed_at (x ∷ xs)) (position_behind (has_tag tag) x xs e)
        ∙ (removed_behind x xs (position (has_tag tag) xs)
        ∙ ap (λ (ys : List OpenTask). x ∷ ys) rest)

-- ## What is found

apart_from : (t : OpenTask) (tag other : ℕ) → (tag == other) ≡ false → has_tag other t ≡ true →
    not (has_tag tag t) ≡ true
apart_from t tag other apart is = by (has_tag tag t) refl
  where
    by : (b : Bool) → has_tag tag t ≡ b → not b ≡ true
    by true e =
        absurd (false≢true (sym apart ∙ ap (λ (n : ℕ). n == other) (sym (eqb-true (tag_of t) tag e)) ∙ is))
    by false e = refl

-- the one of a tag is over
pub closed_here : (tag : ℕ) (xs : List OpenTask) → TagsDiffer tag_of xs → find (has_tag tag) (without tag xs) ≡ None
closed_here tag xs differ = ap (find (has_tag tag)) (without_is tag xs differ) ∙ found_gone (has_tag tag) xs

pub closed_other : (tag other : ℕ) (xs : List OpenTask) → TagsDiffer tag_of xs → (tag == other) ≡ false →
    find (has_tag other) (without tag xs) ≡ find (has_tag other) xs
closed_other tag other xs differ apart =
    ap (find (has_tag other)) (without_is tag xs differ)
    ∙ find_left (has_tag other) (λ t. not (has_tag tag t)) xs (λ t is. apart_from t tag other apart is)

pub closed_differ : (tag : ℕ) (xs : List OpenTask) → TagsDiffer tag_of xs → TagsDiffer tag_of (without tag xs)
closed_differ tag xs differ =
    subst (TagsDiffer tag_of) (sym (without_is tag xs differ))
    (differ_filter tag_of (λ t. not (has_tag tag t)) xs differ)

-- another one is open in its place
abbrev pub reopened : ℕ → OpenTask → List OpenTask → List OpenTask
reopened tag t xs = without tag xs ++ t ∷ []

pub reopened_here : (tag : ℕ) (t : OpenTask) (xs : List OpenTask) → TagsDiffer tag_of xs → tag_of t ≡ tag →
    find (has_tag tag) (reopened tag t xs) ≡ Some t
reopened_here tag t xs differ is =
    find_new (has_tag tag) (without tag xs) t (closed_here tag xs differ)
    (ap (λ (n : ℕ). n == tag) is ∙ eqb-self tag)

pub reopened_other : (tag other : ℕ) (t : OpenTask) (xs : List OpenTask) → TagsDiffer tag_of xs → tag_of t ≡ tag →
    (tag == other) ≡ false → find (has_tag other) (reopened tag t xs) ≡ find (has_tag other) xs
reopened_other tag other t xs differ is apart =
    find_more (has_tag other) (without tag xs) t (ap (λ (n : ℕ). n == other) is ∙ apart)
    ∙ closed_other tag other xs differ apart

pub reopened_differ : (tag : ℕ) (t : OpenTask) (xs : List OpenTask) → TagsDiffer tag_of xs → tag_of t ≡ tag →
    TagsDiffer tag_of (reopened tag t xs)
reopened_differ tag t xs differ is =
    differ_push tag_of (without tag xs) t
    (ap (λ (n : ℕ). list_any (has_tag n) (without tag xs)) is
    ∙ none_any (has_tag tag) (without tag xs) (closed_here tag xs differ))
    (closed_differ tag xs differ)
