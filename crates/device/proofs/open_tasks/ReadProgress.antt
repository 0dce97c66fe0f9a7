-- How far the READs are: what is found for each tag where tasks and pins come, change and go.
use Rattle.device.proofs.Common.{Bool, Deed, List, None, Option, Pin, Some, [], and_parts, ap, cond, eqb-true, false}
use Rattle.device.proofs.Common.{false≢true, filter, find, found_is, if◌then◌else◌, is_pin_of, is_task_of, map, not}
use Rattle.device.proofs.Common.{option_map, option_or, refl, subst, sym, task_of, true, wanted_kept, with_deed}
use Rattle.device.proofs.Common.{with_wanted, ℕ, ◌&&◌, ◌++◌, ◌==◌, ◌∙◌, ◌∷◌, ◌≡◌}
use Rattle.std.proofs.lemmas.List.Folds.{find-append}
use Rattle.ufs_spec.specs.Exchanges as exchange

-- What is found in a list

-- each element changes, and no test of one
pub find_map : {X : Type 0} (p : X → Bool) (f : X → X) → ((x : X) → p (f x) ≡ p x) → (xs : List X) →
    find p (map f xs) ≡ option_map f (find p xs)
find_map p f same [] = refl
find_map p f same (x ∷ xs) =
    ap (λ b. cond b (Some (f x)) (find p (map f xs))) (same x)
    ∙ (ap (cond (p x) (Some (f x))) (find_map p f same xs) ∙ by (p x))
  where
    by : (b : Bool) → cond b (Some (f x)) (option_map f (find p xs)) ≡ option_map f (cond b (Some x) (find p xs))
    by true = refl
    by false = refl

-- none of those that are looked for goes
pub find_left : {X : Type 0} (p q : X → Bool) → ((x : X) → p x ≡ true → q x ≡ true) → (xs : List X) →
    find p (filter q xs) ≡ find p xs
find_left p q keeps [] = refl
find_left p q keeps (x ∷ xs) = by (p x) (q x) refl refl (find_left p q keeps xs)
  where
    by : (b c : Bool) → p x ≡ b → q x ≡ c → find p (filter q xs) ≡ find p xs →
        find p (cond c (x ∷ filter q xs) (filter q xs)) ≡ cond b (Some x) (find p xs)
    by b true e g rest = ap (λ y. cond (p x) (Some x) y) rest ∙ ap (λ y. cond y (Some x) (find p xs)) e
    by true false e g rest = absurd (false≢true (sym g ∙ keeps x e))
    by false false e g rest = rest

-- all of those that are looked for go
pub find_gone : {X : Type 0} (p q : X → Bool) → ((x : X) → p x ≡ true → q x ≡ false) → (xs : List X) →
    find p (filter q xs) ≡ None
find_gone p q goes [] = refl
find_gone p q goes (x ∷ xs) = by (q x) refl (find_gone p q goes xs)
  where
    last : (b : Bool) → p x ≡ b → q x ≡ true → find p (filter q xs) ≡ None →
        cond b (Some x) (find p (filter q xs)) ≡ None
    last true e g rest = absurd (false≢true (sym (goes x e) ∙ g))
    last false e g rest = rest

    by : (c : Bool) → q x ≡ c → find p (filter q xs) ≡ None → find p (cond c (x ∷ filter q xs) (filter q xs)) ≡ None
    by true g rest = last (p x) refl g rest
    by false g rest = rest

-- Tasks

-- a task that changes keeps its tag
abbrev pub KeepsTag : (exchange.Task → exchange.Task) → Type 0
KeepsTag f = (x : exchange.Task) → (f x).tag ≡ x.tag

pub tag_kept : (f : exchange.Task → exchange.Task) (tag : ℕ) (us : List exchange.Task) → KeepsTag f →
    task_of tag (map f us) ≡ option_map f (task_of tag us)
tag_kept f tag us same = find_map (is_task_of tag) f (λ x. ap (λ (n : ℕ). n == tag) (same x)) us

mapped_same : {X : Type 0} (G : Option exchange.Task → X) (f : exchange.Task → exchange.Task)
    (o : Option exchange.Task) → ((x : exchange.Task) → o ≡ Some x → G (Some (f x)) ≡ G (Some x)) →
    G (option_map f o) ≡ G o
mapped_same G f None same = refl
mapped_same G f (Some x) same = same x refl

-- what no change of a task changes
pub each_goes_on : {X : Type 0} (G : Option exchange.Task → X) (f : exchange.Task → exchange.Task)
    (us : List exchange.Task) (tag : ℕ) → KeepsTag f → ((x : exchange.Task) → G (Some (f x)) ≡ G (Some x)) →
    G (task_of tag (map f us)) ≡ G (task_of tag us)
each_goes_on G f us tag tags same = ap G (tag_kept f tag us tags) ∙ mapped_same G f (task_of tag us) (λ x e. same x)

-- a change of the task of one tag
pub record ChangesOne (f : exchange.Task → exchange.Task) (tag : ℕ) : Type 0 where
  pub tags : KeepsTag f
  pub others : (x : exchange.Task) → (x.tag == tag) ≡ false → f x ≡ x

-- leaves the tasks of other tags
pub others_go_on : (f : exchange.Task → exchange.Task) (us : List exchange.Task) (one tag : ℕ) → ChangesOne f one →
    (tag == one) ≡ false → task_of tag (map f us) ≡ task_of tag us
others_go_on f us one tag h other =
    tag_kept f tag us h.tags
    ∙ mapped_same (λ o. o) f (task_of tag us) (λ x e. ap (λ y. Some y)
    (h.others x (ap (λ (n : ℕ). n == one) (eqb-true x.tag tag (found_is (is_task_of tag) us x e)) ∙ other)))

pub one_goes_on : (f : exchange.Task → exchange.Task) (us : List exchange.Task) (tag : ℕ) (b : exchange.Task) →
    KeepsTag f → task_of tag us ≡ Some b → task_of tag (map f us) ≡ Some (f b)
one_goes_on f us tag b tags found = tag_kept f tag us tags ∙ ap (option_map f) found

pub deed_changes : (tag : ℕ) (deed : Deed) → ChangesOne (with_deed tag deed) tag
deed_changes tag deed = record {
  tags = λ x. by x (is_task_of tag x);
  others = λ x e. ap (λ b. cond b (record x { deed = deed }) x) e;
}
  where
    by : (x : exchange.Task) (b : Bool) → (cond b (record x { deed = deed }) x).tag ≡ x.tag
    by x true = refl
    by x false = refl

-- the task of a tag, once its deed is set
pub deed_set : (tag : ℕ) (deed : Deed) (us : List exchange.Task) (b : exchange.Task) → task_of tag us ≡ Some b →
    task_of tag (map (with_deed tag deed) us) ≡ Some (record b { deed = deed })
deed_set tag deed us b found =
    one_goes_on (with_deed tag deed) us tag b (deed_changes tag deed).tags found
    ∙ ap (λ z. Some (cond z (record b { deed = deed }) b)) (found_is (is_task_of tag) us b found)

-- by the tag that is asked for: the one, or another
pub by_tag : (P : ℕ → Type 0) (one : ℕ) → P one → ((tag : ℕ) → (tag == one) ≡ false → P tag) → (tag : ℕ) → P tag
by_tag P one this others tag = by (tag == one) refl
  where
    by : (b : Bool) → (tag == one) ≡ b → P tag
    by true e = subst P (sym (eqb-true tag one e)) this
    by false e = others tag e

-- the task of a tag goes
pub task_gone : (one : ℕ) (us : List exchange.Task) → task_of one (exchange.without_task one us) ≡ None
task_gone one us = find_gone (is_task_of one) (λ x. not (is_task_of one x)) (λ x e. ap not e) us

pub others_left : (one tag : ℕ) (us : List exchange.Task) → (tag == one) ≡ false →
    task_of tag (exchange.without_task one us) ≡ task_of tag us
others_left one tag us other =
    find_left (is_task_of tag) (λ x. not (is_task_of one x))
    (λ x e. ap not (ap (λ (n : ℕ). n == one) (eqb-true x.tag tag e) ∙ other)) us

-- one task more, of a tag that none has
pub task_more : (tag : ℕ) (us : List exchange.Task) (b : exchange.Task) →
    task_of tag (us ++ b ∷ []) ≡ option_or (task_of tag us) (cond (b.tag == tag) (Some b) None)
task_more tag us b = find-append (is_task_of tag) us (b ∷ [])

-- Pins

-- a change of pins that keeps whose they are, and of which block
abbrev pub KeepsPin : (Pin → Pin) → Type 0
KeepsPin f = (tag index : ℕ) (pin : Pin) → is_pin_of tag index (f pin) ≡ is_pin_of tag index pin

-- what is kept after it
pub wanted_mapped : (f : Pin → Pin) (pins : List Pin) (tag index : ℕ) → KeepsPin f →
    wanted_kept (map f pins) tag index
    ≡ option_map (λ (pin : Pin). pin.wanted) (option_map f (find (is_pin_of tag index) pins))
wanted_mapped f pins tag index keeps =
    ap (option_map (λ (pin : Pin). pin.wanted)) (find_map (is_pin_of tag index) f (keeps tag index) pins)

option_same : (f : Pin → Pin) (o : Option Pin) → ((pin : Pin) → o ≡ Some pin → (f pin).wanted ≡ pin.wanted) →
    option_map (λ (pin : Pin). pin.wanted) (option_map f o) ≡ option_map (λ (pin : Pin). pin.wanted) o
option_same f None same = refl
option_same f (Some pin) same = ap (λ b. Some b) (same pin refl)

-- a change that keeps whether they are wanted as well
pub wanted_same : (f : Pin → Pin) → ((pin : Pin) → (f pin).tag ≡ pin.tag) → ((pin : Pin) → (f pin).index ≡ pin.index) →
    ((pin : Pin) → (f pin).wanted ≡ pin.wanted) → (tag index : ℕ) (pins : List Pin) →
    wanted_kept (map f pins) tag index ≡ wanted_kept pins tag index
wanted_same f tags indexes wanted tag index pins =
    wanted_mapped f pins tag index (λ n k pin i. (tags pin i == n) && (indexes pin i == k))
    ∙ option_same f (find (is_pin_of tag index) pins) (λ pin e. wanted pin)

want_keeps : (one k : ℕ) (wanted : Bool) → KeepsPin (with_wanted one k wanted)
want_keeps one k wanted tag index pin = by (is_pin_of one k pin)
  where
    by : (b : Bool) →
        is_pin_of tag index (if b then record pin { wanted = wanted } else pin) ≡ is_pin_of tag index pin
    by true = refl
    by false = refl

-- to set whether another pin is wanted
pub want_set_else : (one k : ℕ) (wanted : Bool) (tag index : ℕ) (pins : List Pin) →
    ((pin : Pin) → is_pin_of tag index pin ≡ true → is_pin_of one k pin ≡ false) →
    wanted_kept (map (with_wanted one k wanted) pins) tag index ≡ wanted_kept pins tag index
want_set_else one k wanted tag index pins differ =
    wanted_mapped (with_wanted one k wanted) pins tag index (want_keeps one k wanted)
    ∙ option_same (with_wanted one k wanted) (find (is_pin_of tag index) pins)
    (λ pin e. ap (λ b. (if b then record pin { wanted = wanted } else pin).wanted)
    (differ pin (found_is (is_pin_of tag index) pins pin e)))

-- a pin of another tag is another
other_pin : (one k tag index : ℕ) → (tag == one) ≡ false → (pin : Pin) → is_pin_of tag index pin ≡ true →
    is_pin_of one k pin ≡ false
other_pin one k tag index other pin e =
    ap (λ (n : ℕ). (n == one) && (pin.index == k)) (eqb-true pin.tag tag (and_parts _ _ e).0)
    ∙ ap (λ b. b && (pin.index == k)) other

-- that of another tag
pub want_other_tag : (one k : ℕ) (wanted : Bool) (tag index : ℕ) (pins : List Pin) → (tag == one) ≡ false →
    wanted_kept (map (with_wanted one k wanted) pins) tag index ≡ wanted_kept pins tag index
want_other_tag one k wanted tag index pins other =
    want_set_else one k wanted tag index pins (other_pin one k tag index other)

-- that of another index
pub want_other_index : (one k : ℕ) (wanted : Bool) (tag index : ℕ) (pins : List Pin) → (index == k) ≡ false →
    wanted_kept (map (with_wanted one k wanted) pins) tag index ≡ wanted_kept pins tag index
want_other_index one k wanted tag index pins other =
    want_set_else one k wanted tag index pins
    (λ pin e. ap (λ (n : ℕ). (pin.tag == one) && (n == k)) (eqb-true pin.index index (and_parts _ _ e).1)
    ∙ (ap (λ b. (pin.tag == one) && b) other ∙ right (pin.tag == one)))
  where
    right : (b : Bool) → (b && false) ≡ false
    right true = refl
    right false = refl

-- What is found for other tags than one

-- where all pins of the one go
pub gone_finds_others : (one tag index : ℕ) (pins : List Pin) → (tag == one) ≡ false →
    find (is_pin_of tag index) (filter (λ pin. not (pin.tag == one)) pins) ≡ find (is_pin_of tag index) pins
gone_finds_others one tag index pins other =
    find_left (is_pin_of tag index) (λ pin. not (pin.tag == one))
    (λ pin e. ap not (ap (λ (n : ℕ). n == one) (eqb-true pin.tag tag (and_parts _ _ e).0) ∙ other)) pins

-- where one of them goes
pub sent_finds_others : (one k tag index : ℕ) (pins : List Pin) → (tag == one) ≡ false →
    find (is_pin_of tag index) (filter (λ pin. not (is_pin_of one k pin)) pins) ≡ find (is_pin_of tag index) pins
sent_finds_others one k tag index pins other =
    find_left (is_pin_of tag index) (λ pin. not (is_pin_of one k pin))
    (λ pin e. ap not (other_pin one k tag index other pin e)) pins

-- where one of them is wanted, or is not any more
pub want_finds_others : (one k : ℕ) (wanted : Bool) (tag index : ℕ) (pins : List Pin) → (tag == one) ≡ false →
    find (is_pin_of tag index) (map (with_wanted one k wanted) pins) ≡ find (is_pin_of tag index) pins
want_finds_others one k wanted tag index pins other =
    find_map (is_pin_of tag index) (with_wanted one k wanted) (want_keeps one k wanted tag index) pins
    ∙ still (find (is_pin_of tag index) pins) refl
  where
    still : (o : Option Pin) → find (is_pin_of tag index) pins ≡ o → option_map (with_wanted one k wanted) o ≡ o
    still None e = refl
    still (Some pin) e =
        ap (λ b. Some (if b then record pin { wanted = wanted } else pin))
        (other_pin one k tag index other pin (found_is (is_pin_of tag index) pins pin e))

-- where pins come, none of which is looked for
pub more_finds_others : (tag index : ℕ) (pins more : List Pin) → find (is_pin_of tag index) more ≡ None →
    find (is_pin_of tag index) (pins ++ more) ≡ find (is_pin_of tag index) pins
more_finds_others tag index pins more none =
    find-append (is_pin_of tag index) pins more
    ∙ (ap (option_or (find (is_pin_of tag index) pins)) none ∙ or_none (find (is_pin_of tag index) pins))
  where
    or_none : (o : Option Pin) → option_or o None ≡ o
    or_none None = refl
    or_none (Some x) = refl

-- to set whether the pin itself is wanted, if it is there
pub want_set : (one k : ℕ) (wanted : Bool) (pins : List Pin) →
    wanted_kept (map (with_wanted one k wanted) pins) one k ≡ option_map (λ b. wanted) (wanted_kept pins one k)
want_set one k wanted pins =
    wanted_mapped (with_wanted one k wanted) pins one k (want_keeps one k wanted)
    ∙ by (find (is_pin_of one k) pins) refl
  where
    by : (o : Option Pin) → find (is_pin_of one k) pins ≡ o →
        option_map (λ (pin : Pin). pin.wanted) (option_map (with_wanted one k wanted) o)
        ≡ option_map (λ b. wanted) (option_map (λ (pin : Pin). pin.wanted) o)
    by None e = refl
    by (Some pin) e = ap (λ b. Some (if b then record pin { wanted = wanted } else pin).wanted)
        (found_is (is_pin_of one k) pins pin e)

-- where pins go
pub wanted_left : (stays : Pin → Bool) (pins : List Pin) (tag index : ℕ) →
    ((pin : Pin) → is_pin_of tag index pin ≡ true → stays pin ≡ true) →
    wanted_kept (filter stays pins) tag index ≡ wanted_kept pins tag index
wanted_left stays pins tag index stay =
    ap (option_map (λ (pin : Pin). pin.wanted)) (find_left (is_pin_of tag index) stays stay pins)

pub wanted_gone : (stays : Pin → Bool) (pins : List Pin) (tag index : ℕ) →
    ((pin : Pin) → is_pin_of tag index pin ≡ true → stays pin ≡ false) →
    wanted_kept (filter stays pins) tag index ≡ None
wanted_gone stays pins tag index go =
    ap (option_map (λ (pin : Pin). pin.wanted)) (find_gone (is_pin_of tag index) stays go pins)
