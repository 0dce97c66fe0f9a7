-- What is kept for each tag, where the task of one tag changes, comes or goes: the pages that are wanted and the blocks
-- in the slots that are claimed.
use Rattle.device.proofs.Common.{Bool, Claims, Deed, List, None, Numbers, Option, Pin, Some, [], ap, claimed_by}
use Rattle.device.proofs.Common.{claimed_in, claims_of, cond, eq_self, false, map, option_or, other_way, refl, subst}
use Rattle.device.proofs.Common.{sym, task_of, true, wanted_by, wanted_in, wanted_kept, with_claimed, with_deed, ℕ}
use Rattle.device.proofs.Common.{◌++◌, ◌==◌, ◌∙◌, ◌∷◌, ◌≡◌}
use Rattle.ufs_spec.specs.Exchanges as exchange
use Rattle.device.proofs.open_tasks.ReadProgress.{ChangesOne, KeepsTag, by_tag, deed_changes, deed_set, each_goes_on}
use Rattle.device.proofs.open_tasks.ReadProgress.{one_goes_on, others_go_on, others_left, task_gone, task_more}

-- where a task comes, of a tag that none has, it is found, and the tasks of other tags are
comes : (us : List exchange.Task) (b : exchange.Task) → task_of b.tag us ≡ None →
    task_of b.tag (us ++ b ∷ []) ≡ Some b
comes us b free =
    task_more b.tag us b ∙ (λ i. option_or (free i) (cond (eq_self b.tag i) (Some b) None))

others_come : (us : List exchange.Task) (b : exchange.Task) (tag : ℕ) → (tag == b.tag) ≡ false →
    task_of tag (us ++ b ∷ []) ≡ task_of tag us
others_come us b tag other =
    task_more tag us b ∙ (ap (λ x. option_or (task_of tag us) (cond x (Some b) None)) (other_way tag b.tag other)
    ∙ or_none (task_of tag us))
  where
    or_none : (o : Option exchange.Task) → option_or o None ≡ o
    or_none None = refl
    or_none (Some x) = refl

-- The pages that are wanted

-- what is wanted for one tag is what its task has, or nothing
abbrev pub WantedFor : List Pin → ℕ → Option exchange.Task → Type 0
WantedFor pins tag o = (index : ℕ) → wanted_kept pins tag index ≡ wanted_by index o

-- for each tag
abbrev pub WantedForAll : List Pin → List exchange.Task → Type 0
WantedForAll pins us = (tag : ℕ) → WantedFor pins tag (task_of tag us)

module _ (pins others : List Pin) where
  -- nothing that is wanted for the tag is another than before
  abbrev Same : ℕ → Type 0
  Same tag = (index : ℕ) → wanted_kept others tag index ≡ wanted_kept pins tag index

  -- the task of one tag is another, and those of other tags stay
  one_wants : (us vs : List exchange.Task) (one : ℕ) (o : Option exchange.Task) → WantedForAll pins us →
      task_of one vs ≡ o → ((tag : ℕ) → (tag == one) ≡ false → task_of tag vs ≡ task_of tag us) →
      WantedFor others one o → ((tag : ℕ) → (tag == one) ≡ false → Same tag) → WantedForAll others vs
  one_wants us vs one o h is stay this same =
      by_tag (λ tag. WantedFor others tag (task_of tag vs)) one (subst (WantedFor others one) (sym is) this)
      (λ tag other index. same tag other index
      ∙ (h tag index ∙ sym (ap (wanted_by index) (stay tag other))))

  -- where the task of one tag changes
  pub one_changes : (us : List exchange.Task) (f : exchange.Task → exchange.Task) (one : ℕ) (b : exchange.Task) →
      WantedForAll pins us → ChangesOne f one → task_of one us ≡ Some b → WantedFor others one (Some (f b)) →
      ((tag : ℕ) → (tag == one) ≡ false → Same tag) → WantedForAll others (map f us)
  one_changes us f one b h changes found =
      one_wants us (map f us) one (Some (f b)) h (one_goes_on f us one b changes.tags found)
      (λ tag. others_go_on f us one tag changes)

  -- where its deed is set
  pub deed_changed : (us : List exchange.Task) (one : ℕ) (b : exchange.Task) (deed : Deed) →
      WantedForAll pins us → task_of one us ≡ Some b → WantedFor others one (Some (record b { deed = deed })) →
      ((tag : ℕ) → (tag == one) ≡ false → Same tag) → WantedForAll others (map (with_deed one deed) us)
  deed_changed us one b deed h found =
      one_wants us (map (with_deed one deed) us) one (Some (record b { deed = deed })) h (deed_set one deed us b found)
      (λ tag. others_go_on (with_deed one deed) us one tag (deed_changes one deed))

  -- where it goes
  pub one_goes : (us : List exchange.Task) (one : ℕ) → WantedForAll pins us → WantedFor others one None →
      ((tag : ℕ) → (tag == one) ≡ false → Same tag) → WantedForAll others (exchange.without_task one us)
  one_goes us one h =
      one_wants us (exchange.without_task one us) one None h (task_gone one us) (λ tag. others_left one tag us)

  -- where a task comes, of a tag that none has
  pub one_comes : (us : List exchange.Task) (b : exchange.Task) → WantedForAll pins us → task_of b.tag us ≡ None →
      WantedFor others b.tag (Some b) → ((tag : ℕ) → (tag == b.tag) ≡ false → Same tag) →
      WantedForAll others (us ++ b ∷ [])
  one_comes us b h free = one_wants us (us ++ b ∷ []) b.tag (Some b) h (comes us b free) (others_come us b)

-- The blocks in claimed slots

-- where one tag has claimed what it had claimed, nothing changes
pub claimed_same : (claims : Claims) (one : ℕ) (blocks : List (List ℕ)) → claims one ≡ blocks →
    with_claimed claims one blocks ≡ claims
claimed_same claims one blocks is = λ i tag. by_tag (λ n. with_claimed claims one blocks n ≡ claims n) one
    (ap (λ b. cond b blocks (claims one)) (eq_self one) ∙ sym is)
    (λ n other. ap (λ b. cond b blocks (claims n)) other) tag i

-- what was claimed for the tag last counts
pub claimed_last : (claims : Claims) (one : ℕ) (first last : List (List ℕ)) →
    with_claimed (with_claimed claims one first) one last ≡ with_claimed claims one last
claimed_last claims one first last = λ i tag. by_test (tag == one) (claims tag) i
  where
    by_test : (b : Bool) (x : List (List ℕ)) → cond b last (cond b first x) ≡ cond b last x
    by_test true x = refl
    by_test false x = refl

pub claimed_own : (claims : Claims) (one : ℕ) (blocks : List (List ℕ)) → with_claimed claims one blocks one ≡ blocks
claimed_own claims one blocks = ap (λ b. cond b blocks (claims one)) (eq_self one)

-- the task of one tag is another, and those of other tags stay
one_claims : (m : Numbers) (us vs : List exchange.Task) (one : ℕ) (o : Option exchange.Task) → task_of one vs ≡ o →
    ((tag : ℕ) → (tag == one) ≡ false → task_of tag vs ≡ task_of tag us) →
    claims_of m vs ≡ with_claimed (claims_of m us) one (claimed_by m o)
one_claims m us vs one o is stay = λ i tag.
    by_tag (λ n. claims_of m vs n ≡ with_claimed (claims_of m us) one (claimed_by m o) n) one
    (ap (claimed_by m) is ∙ sym (claimed_own (claims_of m us) one (claimed_by m o)))
    (λ n other. ap (claimed_by m) (stay n other)
    ∙ sym (ap (λ b. cond b (claimed_by m o) (claims_of m us n)) other)) tag i

pub claims_changed : (m : Numbers) (us : List exchange.Task) (f : exchange.Task → exchange.Task) (one : ℕ) (b : exchange.Task) →
    ChangesOne f one → task_of one us ≡ Some b →
    claims_of m (map f us) ≡ with_claimed (claims_of m us) one (claimed_in m (f b).length (f b).deed)
claims_changed m us f one b changes found =
    one_claims m us (map f us) one (Some (f b)) (one_goes_on f us one b changes.tags found)
    (λ tag. others_go_on f us one tag changes)

pub claims_set : (m : Numbers) (us : List exchange.Task) (one : ℕ) (b : exchange.Task) (deed : Deed) → task_of one us ≡ Some b →
    claims_of m (map (with_deed one deed) us) ≡ with_claimed (claims_of m us) one (claimed_in m b.length deed)
claims_set m us one b deed found =
    one_claims m us (map (with_deed one deed) us) one (Some (record b { deed = deed })) (deed_set one deed us b found)
    (λ tag. others_go_on (with_deed one deed) us one tag (deed_changes one deed))

pub claims_left : (m : Numbers) (us : List exchange.Task) (one : ℕ) →
    claims_of m (exchange.without_task one us) ≡ with_claimed (claims_of m us) one []
claims_left m us one =
    one_claims m us (exchange.without_task one us) one None (task_gone one us) (λ tag. others_left one tag us)

pub claims_more : (m : Numbers) (us : List exchange.Task) (b : exchange.Task) → task_of b.tag us ≡ None →
    claims_of m (us ++ b ∷ []) ≡ with_claimed (claims_of m us) b.tag (claimed_in m b.length b.deed)
claims_more m us b free = one_claims m us (us ++ b ∷ []) b.tag (Some b) (comes us b free) (others_come us b)

-- Each task

-- where each task changes, and nothing that tells of blocks
pub record SameDeed (f : exchange.Task → exchange.Task) : Type 0 where
  pub tags : KeepsTag f
  pub wanted : (index : ℕ) (x : exchange.Task) →
      wanted_in index (f x).request (f x).deed ≡ wanted_in index x.request x.deed
  pub claimed : (m : Numbers) (x : exchange.Task) → claimed_in m (f x).length (f x).deed ≡ claimed_in m x.length x.deed

pub each_wants : (pins : List Pin) (us : List exchange.Task) (f : exchange.Task → exchange.Task) →
    WantedForAll pins us → SameDeed f → WantedForAll pins (map f us)
each_wants pins us f h same tag index =
    h tag index ∙ sym (each_goes_on (wanted_by index) f us tag same.tags (same.wanted index))

pub each_claims : (m : Numbers) (us : List exchange.Task) (f : exchange.Task → exchange.Task) → SameDeed f →
    claims_of m (map f us) ≡ claims_of m us
each_claims m us f same = λ i tag. each_goes_on (claimed_by m) f us tag same.tags (same.claimed m) i
