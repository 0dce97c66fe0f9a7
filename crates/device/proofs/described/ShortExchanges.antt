-- The short exchanges of the device and of the specification, one by one: what is found, added and taken away, when a
-- reply is due, and what the lock makes of them.
use Rattle.device.proofs.Common.{All, All-cons, All-filter, All-head, All-nil, All-tail, Bool, IsShortTold, List}
use Rattle.device.proofs.Common.{Message, None, Numbers, Option, Short, ShortKept, ShortReply, ShortsKept, Some, State}
use Rattle.device.proofs.Common.{[], ap, arith, at_once, before_accepted, cond, durable, eq_self, false, false≢true}
use Rattle.device.proofs.Common.{if_false, if_true, is_short_due, is_short_of, le-leb, leb-true, length, list_any, map}
use Rattle.device.proofs.Common.{nat_le, none-some, not, or_parts, other_way, refl, remove, same_Some, short_locked}
use Rattle.device.proofs.Common.{short_reply, short_said, slice_get, subst, suc, sym, true, true≢false, zero, ℕ, ◌++◌}
use Rattle.device.proofs.Common.{◌+◌, ◌-◌, ◌==◌, ◌||◌, ◌∙◌, ◌∷◌, ◌≡◌, ◌≤◌}
use Rattle.std.proofs.lemmas.Bool.{lt-leb}
use Rattle.std.proofs.lemmas.List.Elements.{All-push}
use Rattle.ufs_spec.proofs.Facts.{leb-false}
use Rattle.ufs_spec.specs.Exchanges.{number_of, without_short}
use Rattle.ufs_spec.specs.Machine.{is_durable}
use Rattle.power_loss.specs.Exchange.{ShortAwaits, ShortsDiffer, ShortsFit}
use Rattle.task_set.specs.Lists as ours
use Rattle.task_set.specs.Shorts as ours_locked
use Rattle.task_set.specs.Shorts.{is_met, manages, reply_locked}
use Rattle.task_set.specs.declared.tasks.ShortReply.TheVariants as said
use Rattle.task_set.specs.declared.tasks.Short as kept
use Rattle.device.specs.Describes.{IsAwaiting, IsLockTold, IsMetIn}

-- What is found

-- the short exchange of the device at a position, and the specified one there
pub record IsOpenShort (n : Numbers) (before k : ℕ) (rs : List kept.Short) (xs : List Short) (a : kept.Short)
    (b : Short) : Type 0 where
  pub ours : slice_get rs k ≡ Some a
  pub theirs : slice_get xs k ≡ Some b
  pub kept : ShortKept n before a b

pub their_short : (n : Numbers) (before k : ℕ) (rs : List kept.Short) (xs : List Short) (a : kept.Short) →
    ShortsKept n before rs xs → slice_get rs k ≡ Some a → (b : Short) × IsOpenShort n before k rs xs a b
their_short n before k [] xs a h at = absurd (none-some a at)
their_short n before k (r ∷ rs) [] a h at = absurd h
their_short n before zero (r ∷ rs) (x ∷ xs) a h at =
    (x, record { ours = at; theirs = refl; kept = subst (λ z. ShortKept n before z x) (same_Some r a at) h.0 })
their_short n before (suc k) (r ∷ rs) (x ∷ xs) a h at =
    let r = their_short n before k rs xs a h.1 at in
    (r.0, record { ours = r.1.ours; theirs = r.1.theirs; kept = r.1.kept })

pub our_short : (n : Numbers) (before k : ℕ) (rs : List kept.Short) (xs : List Short) (b : Short) →
    ShortsKept n before rs xs → slice_get xs k ≡ Some b → (a : kept.Short) × IsOpenShort n before k rs xs a b
our_short n before k [] [] b h at = absurd (none-some b at)
our_short n before zero (r ∷ rs) (x ∷ xs) b h at =
    (r, record { ours = refl; theirs = at; kept = subst (ShortKept n before r) (same_Some x b at) h.0 })
our_short n before (suc k) (r ∷ rs) (x ∷ xs) b h at =
    let r = our_short n before k rs xs b h.1 at in
    (r.0, record { ours = r.1.ours; theirs = r.1.theirs; kept = r.1.kept })
our_short n before k rs xs b h at = absurd h

-- as many are open
pub as_many_shorts : (n : Numbers) (before : ℕ) (rs : List kept.Short) (xs : List Short) → ShortsKept n before rs xs →
    length xs ≡ length rs
as_many_shorts n before [] [] h = refl
as_many_shorts n before (r ∷ rs) (x ∷ xs) h = ap suc (as_many_shorts n before rs xs h.1)
as_many_shorts n before rs xs h = absurd h

-- one has the number on both sides, or none does
pub same_short_tags : (n : Numbers) (before tag : ℕ) (rs : List kept.Short) (xs : List Short) →
    ShortsKept n before rs xs → list_any (is_short_of tag) xs ≡ list_any (ours.is_short_of tag) rs
same_short_tags n before tag [] [] h = refl
same_short_tags n before tag (r ∷ rs) (x ∷ xs) h =
    λ i. (h.0.tag i == tag) || same_short_tags n before tag rs xs h.1 i
same_short_tags n before tag rs xs h = absurd h

-- Changes

-- nothing but the numbers of the device and the number of the last group before the accepted commands is read
pub same_shorts : (n m : Numbers) (before other : ℕ) (rs : List kept.Short) (xs : List Short) → m ≡ n →
    other ≡ before → ShortsKept n before rs xs → ShortsKept m other rs xs
same_shorts n m before other rs xs same is h =
    subst (λ z. ShortsKept z other rs xs) (sym same) (subst (λ z. ShortsKept n z rs xs) (sym is) h)

-- one more
pub one_short_more : (n : Numbers) (before : ℕ) (rs : List kept.Short) (xs : List Short) (a : kept.Short) (b : Short) →
    ShortsKept n before rs xs → ShortKept n before a b → ShortsKept n before (rs ++ a ∷ []) (xs ++ b ∷ [])
one_short_more n before [] [] a b h new = (new, tt)
one_short_more n before (r ∷ rs) (x ∷ xs) a b h new = (h.0, one_short_more n before rs xs a b h.1 new)
one_short_more n before rs xs a b h new = absurd h

-- one whose reply is due at once is the specified one that is due at once
pub kept_at_once : (n : Numbers) (before tag : ℕ) (said : ShortReply) →
    ShortKept n before (at_once tag said) (short_reply (number_of (manages said) tag) (short_said n tag said))
kept_at_once n before tag said = record { tag = refl; reply = refl; awaits = tt; locked = tt }

-- one that stands has none of the tags that none has
other_short : (tag k : ℕ) (xs : List Short) (b : Short) → list_any (is_short_of tag) xs ≡ false →
    slice_get xs k ≡ Some b → (tag == b.tag) ≡ false
other_short tag k [] b none at = absurd (none-some b at)
other_short tag zero (x ∷ xs) b none at =
    let both = or_parts (is_short_of tag x) (list_any (is_short_of tag) xs) none in
    other_way b.tag tag (ap (λ (z : Short). z.tag == tag) (sym (same_Some x b at)) ∙ both.0)
other_short tag (suc k) (x ∷ xs) b none at =
    other_short tag k xs b (or_parts (is_short_of tag x) (list_any (is_short_of tag) xs) none).1 at

-- where none has the tag, none goes
no_short_goes : (tag : ℕ) (xs : List Short) → list_any (is_short_of tag) xs ≡ false → without_short tag xs ≡ xs
no_short_goes tag [] h = refl
no_short_goes tag (x ∷ xs) h =
    let both = or_parts (is_short_of tag x) (list_any (is_short_of tag) xs) h in
    if_true (not (is_short_of tag x)) (x ∷ without_short tag xs) (without_short tag xs) (ap not both.0)
    ∙ ap (λ (ys : List Short). x ∷ ys) (no_short_goes tag xs both.1)

-- the one at a position goes
pub one_short_gone : (n : Numbers) (before k : ℕ) (rs : List kept.Short) (xs : List Short) (b : Short) →
    ShortsKept n before rs xs → ShortsDiffer xs → slice_get xs k ≡ Some b →
    ShortsKept n before (remove rs k) (without_short b.tag xs)
one_short_gone n before k [] [] b h differ at = absurd (none-some b at)
one_short_gone n before zero (r ∷ rs) (x ∷ xs) b h differ at =
    let same : x ≡ b = same_Some x b at in
    let rest = without_short b.tag xs in
    let first = if_false (not (is_short_of b.tag x)) (x ∷ rest) rest
    (ap (λ (z : Short). not (z.tag == b.tag)) same ∙ ap not (eq_self b.tag)) in
    let none = no_short_goes b.tag xs (subst (λ (z : Short). list_any (is_short_of z.tag) xs ≡ false) same differ.0) in
    subst (ShortsKept n before rs) (sym (first ∙ none)) h.1
one_short_gone n before (suc k) (r ∷ rs) (x ∷ xs) b h differ at =
    let rest = without_short b.tag xs in
    let stays = if_true (not (is_short_of b.tag x)) (x ∷ rest) rest
    (ap not (other_short x.tag k xs b differ.0 at)) in
    subst (ShortsKept n before (r ∷ remove rs k)) (sym stays) (h.0, one_short_gone n before k rs xs b h.1 differ.1 at)
one_short_gone n before k [] (x ∷ xs) b h differ at = absurd h
one_short_gone n before k (r ∷ rs) [] b h differ at = absurd h

-- Before the device is mended

-- none waits, so that they do not read from which number groups count
awaits_else : (accepted before other : ℕ) (x y : Option ℕ) → ShortAwaits accepted false y → IsAwaiting before x y →
    IsAwaiting other x y
awaits_else accepted before other None None fits h = tt
awaits_else accepted before other (Some number) (Some commands) fits h = absurd (false≢true fits.1)
awaits_else accepted before other x y fits h = absurd h

pub shorts_else : (n : Numbers) (accepted before other : ℕ) (rs : List kept.Short) (xs : List Short) →
    ShortsFit accepted false xs → ShortsKept n before rs xs → ShortsKept n other rs xs
shorts_else n accepted before other [] [] fits h = tt
shorts_else n accepted before other (r ∷ rs) (x ∷ xs) fits h = (
  record {
    tag = h.0.tag;
    reply = h.0.reply;
    awaits = awaits_else accepted before other r.awaits x.awaits fits.0.awaits h.0.awaits;
    locked = h.0.locked;
  },
  shorts_else n accepted before other rs xs fits.1 h.1,
)
shorts_else n accepted before other rs xs fits h = absurd h

met_unmended : (accepted count : ℕ) (y : Option ℕ) → ShortAwaits accepted false y → IsMetIn count y
met_unmended accepted count None fits = tt
met_unmended accepted count (Some commands) fits = absurd (false≢true fits.1)

pub no_short_waits : (accepted count : ℕ) (xs : List Short) → ShortsFit accepted false xs →
    All (IsShortTold count) xs
no_short_waits accepted count [] fits = All-nil (IsShortTold count)
no_short_waits accepted count (x ∷ xs) fits =
    All-cons (IsShortTold count) x xs (met_unmended accepted count x.awaits fits.0.awaits)
    (no_short_waits accepted count xs fits.1)

-- When a reply is due

-- the group of a number is durable where the commands are
pub due_test : (before number frontier commands : ℕ) →
    (nat_le commands (frontier - before) ≡ true → before ≤ frontier) → number ≡ before + commands →
    nat_le number frontier ≡ nat_le commands (frontier - before)
due_test before number frontier commands low is = by (nat_le commands (frontier - before)) refl low
  where
    by : (b : Bool) → nat_le commands (frontier - before) ≡ b → (b ≡ true → before ≤ frontier) →
        nat_le number frontier ≡ b
    by true e below = let above = below refl in let few = leb-true commands (frontier - before) e in
        le-leb number frontier (omega arith)
    by false e below = let many = leb-false commands (frontier - before) e in lt-leb number frontier (omega arith)

-- what is met finds each group before the accepted commands durable, if something was awaited
abbrev pub IsLow : State → Option ℕ → Type 0
IsLow s None = Unit {0}
IsLow s (Some commands) =
    nat_le commands (durable s) ≡ true → before_accepted s.translation.ledger ≤ s.translation.ledger.frontier

-- what waits on both sides is due on both sides, or on none
met_same : (s : State) (x y : Option ℕ) → IsAwaiting (before_accepted s.translation.ledger) x y → IsLow s y →
    is_met s.translation.ledger.frontier x ≡ is_durable s y
met_same s None None h low = refl
met_same s (Some number) (Some commands) h low =
    due_test (before_accepted s.translation.ledger) number s.translation.ledger.frontier commands low h
met_same s None (Some commands) h low = absurd h
met_same s (Some number) None h low = absurd h

-- where what waits came once the device was mended, each repair being durable then
fits_low : (s : State) (accepted : ℕ) (mended : Bool) (y : Option ℕ) →
    (mended ≡ true → before_accepted s.translation.ledger ≤ s.translation.ledger.frontier) →
    ShortAwaits accepted mended y → IsLow s y
fits_low s accepted mended None low fits = tt
fits_low s accepted mended (Some commands) low fits = λ e. low fits.1

pub due_same : (s : State) (n : Numbers) (accepted : ℕ) (mended : Bool) (a : kept.Short) (b : Short) →
    (mended ≡ true → before_accepted s.translation.ledger ≤ s.translation.ledger.frontier) →
    ShortAwaits accepted mended b.awaits → ShortKept n (before_accepted s.translation.ledger) a b →
    is_short_due s.translation.ledger.frontier a ≡ is_durable s b.awaits
due_same s n accepted mended a b low fits h =
    met_same s a.awaits b.awaits h.awaits (fits_low s accepted mended b.awaits low fits)

-- The lock

-- what it was told, or waits for nothing, stays
told_durable : (s : State) (y : Option ℕ) → IsMetIn (durable s) y → is_durable s y ≡ true
told_durable s None h = refl
told_durable s (Some commands) h = h

durable_told : (s : State) (y : Option ℕ) → is_durable s y ≡ true → IsMetIn (durable s) y
durable_told s None h = tt
durable_told s (Some commands) h = h

abbrev with_locked_reply : Short → Short
with_locked_reply b = record b { awaits = None; reply = b.locked_reply }

pub shorts_stay : (s : State) (xs : List Short) → All (IsShortTold (durable s)) xs → map (short_locked s) xs ≡ xs
shorts_stay s [] h = refl
shorts_stay s (x ∷ xs) h = λ i.
    if_true (is_durable s x.awaits) x (with_locked_reply x)
    (told_durable s x.awaits (All-head (IsShortTold (durable s)) x xs h)) i
    ∷ shorts_stay s xs (All-tail (IsShortTold (durable s)) x xs h) i

short_told : (s : State) (x : Short) → IsShortTold (durable s) (short_locked s x)
short_told s x = by (is_durable s x.awaits) refl
  where
    by : (b : Bool) → is_durable s x.awaits ≡ b → IsShortTold (durable s) (cond b x (with_locked_reply x))
    by true e = durable_told s x.awaits e
    by false e = tt

-- when it is told, none waits for what is not durable
pub all_shorts_told : (s : State) (xs : List Short) → All (IsShortTold (durable s)) (map (short_locked s) xs)
all_shorts_told s [] = All-nil (IsShortTold (durable s))
all_shorts_told s (x ∷ xs) =
    All-cons (IsShortTold (durable s)) (short_locked s x) (map (short_locked s) xs) (short_told s x)
    (all_shorts_told s xs)

-- what a lock ends is told what it is told by a lock
said_locked : (s : State) (n : Numbers) (before : ℕ) (a : kept.Short) (x y : Option ℕ) (said : Message) →
    IsAwaiting before x y → is_durable s y ≡ false → IsLockTold n a x said →
    said ≡ short_said n a.tag (reply_locked a.reply)
said_locked s n before a None None said h late told = absurd (true≢false late)
said_locked s n before a (Some number) (Some commands) said h late told = told
said_locked s n before a None (Some commands) said h late told = absurd h
said_locked s n before a (Some number) None said h late told = absurd h

-- what waits still, once the lock is told, finds each repair durable
locked_low : (s : State) (accepted : ℕ) (mended : Bool) (y : Option ℕ) →
    (mended ≡ true → before_accepted s.translation.ledger ≤ s.translation.ledger.frontier) →
    (is_durable s y ≡ true → ShortAwaits accepted mended y) → IsLow s y
locked_low s accepted mended None low fits = tt
locked_low s accepted mended (Some commands) low fits = λ e. low (fits e).1

stays_awaiting : (s : State) (accepted : ℕ) (mended : Bool) (x : Short) →
    ShortAwaits accepted mended (short_locked s x).awaits → is_durable s x.awaits ≡ true →
    ShortAwaits accepted mended x.awaits
stays_awaiting s accepted mended x fits e =
    subst (λ (z : Short). ShortAwaits accepted mended z.awaits)
    (if_true (is_durable s x.awaits) x (with_locked_reply x) e) fits

-- the lock leaves one of task management such a one
still_manages : (x : ShortReply) → manages (reply_locked x) ≡ manages x
still_manages (said.TaskSetFull lun expected) = refl
still_manages said.NopIn = refl
still_manages (said.Managed lun service) = refl
still_manages (said.QueryFailed query response) = refl
still_manages (said.QueryDone query value) = refl

one_locked : (s : State) (n : Numbers) (accepted : ℕ) (mended : Bool) (a : kept.Short) (b : Short) →
    (mended ≡ true → before_accepted s.translation.ledger ≤ s.translation.ledger.frontier) →
    ShortAwaits accepted mended (short_locked s b).awaits → ShortKept n (before_accepted s.translation.ledger) a b →
    ShortKept n (before_accepted s.translation.ledger) (ours_locked.short_locked s.translation.ledger.frontier a)
    (short_locked s b)
one_locked s n accepted mended a b low fits h =
    subst
    (λ (c : Bool). ShortKept n before (cond c a ended) (short_locked s b))
    (sym (met_same s a.awaits b.awaits h.awaits
    (locked_low s accepted mended b.awaits low (stays_awaiting s accepted mended b fits))))
    (by (is_durable s b.awaits) refl)
  where
    before : ℕ
    before = before_accepted s.translation.ledger

    ended : kept.Short
    ended = record a { awaits = None; reply = reply_locked a.reply }

    by : (c : Bool) → is_durable s b.awaits ≡ c →
        ShortKept n before (cond c a ended) (cond c b (with_locked_reply b))
    by true e = h
    by false e = record {
      tag = h.tag ∙ ap (λ (c : Bool). number_of c a.tag) (sym (still_manages a.reply));
      reply = said_locked s n before a a.awaits b.awaits b.locked_reply h.awaits e h.locked;
      awaits = tt;
      locked = tt;
    }

-- each is kept once the lock is told
pub shorts_locked : (s : State) (n : Numbers) (accepted : ℕ) (mended : Bool) (rs : List kept.Short) (xs : List Short) →
    (mended ≡ true → before_accepted s.translation.ledger ≤ s.translation.ledger.frontier) →
    ShortsFit accepted mended (map (short_locked s) xs) → ShortsKept n (before_accepted s.translation.ledger) rs xs →
    ShortsKept n (before_accepted s.translation.ledger)
    (map (ours_locked.short_locked s.translation.ledger.frontier) rs) (map (short_locked s) xs)
shorts_locked s n accepted mended [] [] low fits h = tt
shorts_locked s n accepted mended (r ∷ rs) (x ∷ xs) low fits h = (
  one_locked s n accepted mended r x low fits.0.awaits h.0,
  shorts_locked s n accepted mended rs xs low fits.1 h.1,
)
shorts_locked s n accepted mended rs xs low fits h = absurd h

-- Those that were told

pub one_more_told : (count : ℕ) (xs : List Short) (b : Short) → IsShortTold count b → All (IsShortTold count) xs →
    All (IsShortTold count) (xs ++ b ∷ [])
one_more_told count xs b new h = All-push (IsShortTold count) xs b h new

pub one_gone_told : (count tag : ℕ) (xs : List Short) → All (IsShortTold count) xs →
    All (IsShortTold count) (without_short tag xs)
one_gone_told count tag xs h = All-filter (λ x. not (is_short_of tag x)) (IsShortTold count) xs h
