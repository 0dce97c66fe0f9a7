-- A request for data reads its pages, and its GOOD is due once none of them needs a read any more.
use Rattle.std.specs.Prelude.{◌||◌}
use Rattle.ufs_laws.proofs.Common.{RpmbRequest}
use Rattle.ufs_spec.specs.Exchanges.{read_error}
use Rattle.ufs_spec.specs.Replies.{is_area_read, is_ended, is_not_read, is_unreadable, reads_reply}
use Rattle.ufs_laws.proofs.Common.{Bool, Frame, Good, List, None, NotRead, Option, ReadBlock, ReadState}
use Rattle.ufs_laws.proofs.Common.{ReadingArea, Results, Some, State, Task, Unread, WasRead, [], ap, arith, below}
use Rattle.ufs_laws.proofs.Common.{cond-true, deed_reply, false, frames_complete, given_back, if◌then◌else◌, inl, inr}
use Rattle.ufs_laws.proofs.Common.{length, list_all, list_any, map, none-some, or_from, or_left, or_right, outcome_in}
use Rattle.ufs_laws.proofs.Common.{reads_area, refl, requested, response, result_now, same_Some, slice_get, suc, sym}
use Rattle.ufs_laws.proofs.Common.{true, with_moves, zero, ℕ, ⊎_elim, ◌&&◌, ◌<◌, ◌==◌, ◌∙◌, ◌∷◌, ◌≡◌, ◌≢◌}
use Rattle.std.proofs.Common.{bit_or}
use Rattle.std.proofs.lemmas.List.Folds.{list_all-append}
use Rattle.std.proofs.lemmas.Option.{slice_get_within}
use Rattle.ufs_laws.proofs.frame_laws.RegistersEmptied.{decided_as}
use Rattle.ufs_laws.specs.FrameLaws.{IsOwed, IsSuccess, IsThere}
use Rattle.ufs_spec.proofs.Facts.{cases_eq}
use Rattle.ufs_spec.specs.FrameRequests.{area_read, keeps_area}
use Rattle.ufs_spec.specs.Replies.{is_at_hand, is_page_read, is_read, pin_of}
use Rattle.ufs_spec.specs.RpmbResponses.{is_lost, is_success}

-- ## What begins

pub success : (result : ℕ) → IsSuccess result → is_success result ≡ true
success result (inl e) = ap is_success e
success result (inr e) = ap is_success e

pub reads : (s : State) (task : Task) (region : ℕ) (f : Frame) (fs : List Frame) (result : ℕ) →
    outcome_in s region (f ∷ fs) ≡ Results result None → f.kind ≡ 4 → IsSuccess result →
    frames_complete s task region (f ∷ fs)
    ≡ requested (with_moves (given_back s task) (keeps_area s task.tag region f)) task region (f ∷ fs) result
    (ReadingArea (area_read s region f))
reads s task region f fs result e kind right =
    decided_as s task region (f ∷ fs) (Results result None) e
    ∙ cond-true (reads_area f result) _ _
    (ap (λ (k : ℕ). (k == 4) && is_success result) kind ∙ success result right)

-- ## When GOOD is due

-- one that is false, and each that is true
one_false : (p : ℕ → Bool) (n k : ℕ) → k < n → p k ≡ false → list_all p (below n) ≡ false
one_false p zero k low e = absurd (omega arith)
one_false p (suc n) k low e =
    list_all-append p (below n) (n ∷ [])
    ∙ ⊎_elim (λ (same : k ≡ n). last (list_all p (below n)) (p n) (ap p (sym same) ∙ e))
    (λ (other : k ≢ n). ap (λ (x : Bool). x && (p n && true)) (one_false p n k (omega arith) e)) (cases_eq k n)
  where
    last : (a b : Bool) → b ≡ false → (a && (b && true)) ≡ false
    last true b h = ap (λ (x : Bool). x && true) h
    last false b h = refl

all_true : (p : ℕ → Bool) (n : ℕ) → ((k : ℕ) → k < n → p k ≡ true) → list_all p (below n) ≡ true
all_true p zero each = refl
all_true p (suc n) each =
    list_all-append p (below n) (n ∷ [])
    ∙ ap (λ (x : Bool). x && (p n && true)) (all_true p n (λ k low. each k (omega arith)))
    ∙ ap (λ (x : Bool). x && true) (each n (omega arith))

abbrev at_hand_now : State → Task → ℕ → Bool
at_hand_now s task index = is_at_hand s.translation.work.rests (pin_of s task index)

still_owed : (s : State) (task : Task) (index : ℕ) (page : ReadBlock) → IsOwed s task index page →
    is_read page.state (at_hand_now s task index) ≡ false
still_owed s task index page (unread, away) =
    ap (λ (state : ReadState). is_read state (at_hand_now s task index)) unread ∙ away

unread_or_not : (state : ReadState) (at_hand : Bool) → at_hand ≡ true → is_read state at_hand ≡ true
unread_or_not Unread at_hand e = e
unread_or_not WasRead at_hand e = refl
unread_or_not NotRead at_hand e = refl

there_now : (s : State) (task : Task) (index : ℕ) (page : ReadBlock) → IsThere s task index page →
    is_read page.state (at_hand_now s task index) ≡ true
there_now s task index page (inl e) = ap (λ (state : ReadState). is_read state (at_hand_now s task index)) e
there_now s task index page (inr (inl e)) = ap (λ (state : ReadState). is_read state (at_hand_now s task index)) e
there_now s task index page (inr (inr e)) = unread_or_not page.state (at_hand_now s task index) e

-- a page that is owed is not there
pub not_there : (s : State) (task : Task) (pages : List ReadBlock) (k : ℕ) (page : ReadBlock) →
    slice_get pages k ≡ Some page → IsOwed s task k page → is_area_read s task pages ≡ false
not_there s task pages k page there e =
    one_false (λ index. is_page_read s task index (slice_get pages index)) (length pages) k
    (slice_get_within pages k page there) (ap (is_page_read s task k) there ∙ still_owed s task k page e)

all_there : (s : State) (task : Task) (pages : List ReadBlock) →
    ((k : ℕ) (page : ReadBlock) → slice_get pages k ≡ Some page → IsThere s task k page) →
    is_area_read s task pages ≡ true
all_there s task pages each =
    all_true (λ index. is_page_read s task index (slice_get pages index)) (length pages)
    (λ k low. by k (slice_get pages k) refl)
  where
    by : (k : ℕ) (o : Option ReadBlock) → slice_get pages k ≡ o → is_page_read s task k (slice_get pages k) ≡ true
    by k None e = ap (is_page_read s task k) e
    by k (Some page) e = ap (is_page_read s task k) e ∙ there_now s task k page (each k page e)

-- what is said, by whether a page ended the task and whether all are there
said : (s : State) (task : Task) (pages : List ReadBlock) (ended read : Bool) → is_ended task.request pages ≡ ended →
    is_area_read s task pages ≡ read → deed_reply s task (ReadingArea pages) ≡ reads_reply task ended read
said s task pages ended read e f = λ i. reads_reply task (e i) (f i)

asked_not_ended : (task : Task) (request : RpmbRequest) (pages : List ReadBlock) → task.request ≡ Some request →
    is_ended task.request pages ≡ false
asked_not_ended task request pages is = ap (λ (o : Option RpmbRequest). is_ended o pages) is

pub waits : (s : State) (task : Task) (request : RpmbRequest) (pages : List ReadBlock) (k : ℕ) (page : ReadBlock) →
    task.request ≡ Some request → slice_get pages k ≡ Some page → IsOwed s task k page →
    deed_reply s task (ReadingArea pages) ≡ None
waits s task request pages k page is there e =
    said s task pages false false (asked_not_ended task request pages is) (not_there s task pages k page there e)

pub good_due : (s : State) (task : Task) (request : RpmbRequest) (pages : List ReadBlock) →
    task.request ≡ Some request →
    ((k : ℕ) (page : ReadBlock) → slice_get pages k ≡ Some page → IsThere s task k page) →
    deed_reply s task (ReadingArea pages) ≡ Some (response task.lun task.tag task.expected task.length Good)
good_due s task request pages is each =
    said s task pages false true (asked_not_ended task request pages is) (all_there s task pages each)

-- ## VERIFY

none_unreadable : (pages : List ReadBlock) →
    ((k : ℕ) (page : ReadBlock) → slice_get pages k ≡ Some page → page.state ≢ NotRead) →
    list_any is_unreadable pages ≡ false
none_unreadable [] each = refl
none_unreadable (x ∷ xs) each =
    (λ i. first i || list_any is_unreadable xs) ∙ none_unreadable xs (λ k. each (suc k))
  where
    by : (state : ReadState) → state ≢ NotRead → is_not_read state ≡ false
    by Unread other = refl
    by WasRead other = refl
    by NotRead other = absurd (other refl)

    first : is_unreadable x ≡ false
    first = by x.state (each 0 x refl)

one_unreadable : (pages : List ReadBlock) (k : ℕ) (page : ReadBlock) → slice_get pages k ≡ Some page →
    page.state ≡ NotRead → list_any is_unreadable pages ≡ true
one_unreadable [] k page there e = absurd (none-some page there)
one_unreadable (x ∷ xs) zero page there e =
    or_left (is_unreadable x) (list_any is_unreadable xs)
    (ap is_unreadable (same_Some x page there) ∙ ap is_not_read e)
one_unreadable (x ∷ xs) (suc k) page there e =
    or_right (is_unreadable x) (list_any is_unreadable xs) (one_unreadable xs k page there e)

of_none : (task : Task) (pages : List ReadBlock) (b : Bool) → task.request ≡ None → list_any is_unreadable pages ≡ b →
    is_ended task.request pages ≡ b
of_none task pages b is e = ap (λ (o : Option RpmbRequest). is_ended o pages) is ∙ e

pub verify_waits : (s : State) (task : Task) (pages : List ReadBlock) (k : ℕ) (page : ReadBlock) →
    task.request ≡ None →
    ((k : ℕ) (page : ReadBlock) → slice_get pages k ≡ Some page → page.state ≢ NotRead) →
    slice_get pages k ≡ Some page → IsOwed s task k page → deed_reply s task (ReadingArea pages) ≡ None
verify_waits s task pages k page is right there e =
    said s task pages false false (of_none task pages false is (none_unreadable pages right))
    (not_there s task pages k page there e)

pub all_verified : (s : State) (task : Task) (pages : List ReadBlock) → task.request ≡ None →
    ((k : ℕ) (page : ReadBlock) → slice_get pages k ≡ Some page → IsThere s task k page) →
    ((k : ℕ) (page : ReadBlock) → slice_get pages k ≡ Some page → page.state ≢ NotRead) →
    deed_reply s task (ReadingArea pages) ≡ Some (response task.lun task.tag task.expected task.length Good)
all_verified s task pages is each right =
    said s task pages false true (of_none task pages false is (none_unreadable pages right))
    (all_there s task pages each)

pub one_not_verified : (s : State) (task : Task) (pages : List ReadBlock) (k : ℕ) (page : ReadBlock) →
    task.request ≡ None → slice_get pages k ≡ Some page → page.state ≡ NotRead →
    deed_reply s task (ReadingArea pages) ≡ Some (response task.lun task.tag task.expected task.length read_error)
one_not_verified s task pages k page is there lost =
    said s task pages true (is_area_read s task pages)
    (of_none task pages true is (one_unreadable pages k page there lost)) refl

-- ## What could not be read

abbrev any_lost : List ReadBlock → Bool
any_lost pages = list_any is_lost (map (λ (page : ReadBlock). page.state) pages)

abbrev joined : ℕ → Bool → ℕ
joined result b = if b then bit_or result 6 else result

one_lost : (pages : List ReadBlock) (k : ℕ) (page : ReadBlock) → slice_get pages k ≡ Some page →
    page.state ≡ NotRead → any_lost pages ≡ true
one_lost [] k page there e = absurd (none-some page there)
one_lost (x ∷ xs) zero page there e =
    or_left (is_lost x.state) (any_lost xs)
    (ap (λ (y : ReadBlock). is_lost y.state) (same_Some x page there) ∙ ap is_lost e)
one_lost (x ∷ xs) (suc k) page there e = or_right (is_lost x.state) (any_lost xs) (one_lost xs k page there e)

pub lost : (pages : List ReadBlock) (k : ℕ) (page : ReadBlock) (result : ℕ) → slice_get pages k ≡ Some page →
    page.state ≡ NotRead → result_now (ReadingArea pages) result ≡ bit_or result 6
lost pages k page result there e = ap (joined result) (one_lost pages k page there e)

not_lost : (state : ReadState) → state ≢ NotRead → is_lost state ≡ false
not_lost Unread h = refl
not_lost WasRead h = refl
not_lost NotRead h = absurd (h refl)

none_lost : (pages : List ReadBlock) →
    ((k : ℕ) (page : ReadBlock) → slice_get pages k ≡ Some page → page.state ≢ NotRead) → any_lost pages ≡ false
none_lost [] h = refl
none_lost (x ∷ xs) h =
    or_from (is_lost x.state) (any_lost xs) (not_lost x.state (h zero x refl))
    (none_lost xs (λ k page e. h (suc k) page e))

pub read : (pages : List ReadBlock) (result : ℕ) →
    ((k : ℕ) (page : ReadBlock) → slice_get pages k ≡ Some page → page.state ≢ NotRead) →
    result_now (ReadingArea pages) result ≡ result
read pages result h = ap (joined result) (none_lost pages h)
