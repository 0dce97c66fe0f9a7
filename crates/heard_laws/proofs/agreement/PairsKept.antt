-- What keeps the open tasks and short exchanges of a device in step with what is open in a journal: one entry more, a
-- lock, and a change under one tag.
use Rattle.ufs_spec.specs.Exchanges.{Comparing}
use Rattle.heard_laws.proofs.Common.{Answering, Awaited, Awaiting, Blocks, Bool, Deed, ForFrames, ForUnmap, ForWrite}
use Rattle.heard_laws.proofs.Common.{Frames, Gathering, List, None, Numbers, OpenTask, Option, ReadingArea, Sending}
use Rattle.heard_laws.proofs.Common.{SendingBytes, Some, TagsDiffer, Task, UnmapList, Verdict, [], arith, eqb-true}
use Rattle.heard_laws.proofs.Common.{false, find, has_tag, is_short_of, length, length-append, refl, subst, sym}
use Rattle.heard_laws.proofs.Common.{task_of, true, ℕ, ◌++◌, ◌+◌, ◌==◌, ◌∷◌, ◌≡◌, ◌≤◌}
use Rattle.ufs_spec.proofs.Lists.{get_grows}
use Rattle.ufs_spec.specs.Commands.{Command}
use Rattle.ufs_spec.specs.Exchanges.{Short}
use Rattle.journal.specs.declared.tasks.Awaited.TheVariants.{Nothing}
use Rattle.heard_laws.proofs.agreement.Agreement.{AgreesAt, AtMost, DeedAgrees, Ends, Fails, OpenAgrees, Pairs, Settles}
use Rattle.heard_laws.proofs.agreement.Agreement.{ShortAgrees, Succeeds, TaskAgrees, tag_of}
use Rattle.heard_laws.proofs.rolls.Rolls.{Roll, count_more, place_within}

-- ## One entry more

grown : (roll : Roll) (o : Option Command) → length roll ≤ length (roll ++ o ∷ [])
grown roll o = let l = length-append roll (o ∷ []) in omega (arith, l)

at_most_more : (most : ℕ) (roll : Roll) (o : Option Command) (x : Option OpenTask) →
    ((t : OpenTask) → x ≡ Some t → t.promised ≤ length roll) → AtMost most roll x →
    AtMost most (roll ++ o ∷ []) x
at_most_more most roll o x inside h t e =
    let c = count_more t.promised roll o (inside t e) in let l = h t e in omega (arith, c, l)

deed_more : (n : Numbers) (ready : Bool) (roll : Roll) (o : Option Command) (lun : ℕ) (deed : Deed)
    (x : Option OpenTask) → ((t : OpenTask) → x ≡ Some t → t.promised ≤ length roll) →
    DeedAgrees n ready roll lun deed x → DeedAgrees n ready (roll ++ o ∷ []) lun deed x
deed_more n ready roll o lun (Gathering (ForWrite unit address blocks forced) gathered asked) x inside h = h
deed_more n ready roll o lun (Gathering (ForUnmap unit) gathered asked) x inside h = h
deed_more n ready roll o lun (Gathering (ForFrames region) gathered asked) x inside h = h
deed_more n ready roll o lun (Awaiting commands) x inside h = at_most_more commands roll o x inside h
deed_more n ready roll o lun (Answering status carried) x inside h = λ good. at_most_more 0 roll o x inside (h good)
deed_more n ready roll o lun (Sending blocks sent) x inside h = at_most_more 0 roll o x inside h
deed_more n ready roll o lun (SendingBytes bytes) x inside h = at_most_more 0 roll o x inside h
deed_more n ready roll o lun (ReadingArea pages) x inside h = at_most_more 0 roll o x inside h
deed_more n ready roll o lun (Comparing blocks compared asked) x inside h = h

task_more : (n : Numbers) (ready : Bool) (roll : Roll) (o : Option Command) (task : Task) (x : Option OpenTask) →
    TaskAgrees n ready roll task x → TaskAgrees n ready (roll ++ o ∷ []) task x
task_more n ready roll o task x h = record {
  named = λ t e.
      let named = h.named t e in
      let inside = named.inside in
      let l = grown roll o in
      record {
        lun_is = named.lun_is;
        tag_is = named.tag_is;
        is_task = named.is_task;
        inside = omega (arith, inside, l);
      };
  deed = deed_more n ready roll o task.lun task.deed x (λ t e. (h.named t e).inside) h.deed;
}

settles_more : (is_locked : Bool) (roll : Roll) (o : Option Command) (place : ℕ) (short : Short) →
    Settles is_locked roll place short → Settles is_locked (roll ++ o ∷ []) place short
settles_more is_locked roll o place short (Succeeds c n at awaits few reply ends) =
    let within = place_within roll place (Some c) at in
    let same = count_more (place + 1) roll o (omega (arith, within)) in
    Succeeds c n (get_grows roll o place (Some c) at) awaits (omega (arith, same, few)) reply ends
settles_more is_locked roll o place short (Fails at awaits reply) = Fails (get_grows roll o place None at) awaits reply
settles_more is_locked roll o place short (Ends c at awaits reply locked) =
    Ends c (get_grows roll o place (Some c) at) awaits reply locked

open_more : (is_locked : Bool) (roll : Roll) (o : Option Command) (short : Short) (awaited : Awaited) →
    OpenAgrees is_locked roll short awaited → OpenAgrees is_locked (roll ++ o ∷ []) short awaited
open_more is_locked roll o short (Verdict place) h = settles_more is_locked roll o place short h
open_more is_locked roll o short (Blocks w) h = h
open_more is_locked roll o short Nothing h = h
open_more is_locked roll o short UnmapList h = h
open_more is_locked roll o short (Frames number) h = h

short_more : (is_locked : Bool) (roll : Roll) (o : Option Command) (short : Short) (x : Option OpenTask) →
    ShortAgrees is_locked roll short x → ShortAgrees is_locked (roll ++ o ∷ []) short x
short_more is_locked roll o short x h t e =
    let both = h t e in
    let inside = both.0 in
    let l = grown roll o in
    (omega (arith, inside, l), open_more is_locked roll o short t.awaited both.1)

-- what stands under a tag does not mind one entry more
pub agrees_more : (n : Numbers) (is_locked ready : Bool) (roll : Roll) (o : Option Command) (a : Option Task)
    (b : Option Short) (x : Option OpenTask) → AgreesAt n is_locked ready roll a b x →
    AgreesAt n is_locked ready (roll ++ o ∷ []) a b x
agrees_more n is_locked ready roll o (Some task) b x h = task_more n ready roll o task x h
agrees_more n is_locked ready roll o None (Some short) x h = short_more is_locked roll o short x h
agrees_more n is_locked ready roll o None None x h = h

-- ## A lock, and the mending

deed_ready : (n : Numbers) (was ready : Bool) (roll : Roll) (lun : ℕ) (deed : Deed) (x : Option OpenTask) →
    (was ≡ true → ready ≡ true) → DeedAgrees n was roll lun deed x → DeedAgrees n ready roll lun deed x
deed_ready n was ready roll lun (Gathering (ForWrite unit address blocks forced) gathered asked) x up h = h
deed_ready n was ready roll lun (Gathering (ForUnmap unit) gathered asked) x up h = h
deed_ready n was ready roll lun (Gathering (ForFrames region) gathered asked) x up h = (h.0, h.1, up h.2)
deed_ready n was ready roll lun (Awaiting commands) x up h = h
deed_ready n was ready roll lun (Answering status carried) x up h = h
deed_ready n was ready roll lun (Sending blocks sent) x up h = h
deed_ready n was ready roll lun (SendingBytes bytes) x up h = h
deed_ready n was ready roll lun (ReadingArea pages) x up h = h
deed_ready n was ready roll lun (Comparing blocks compared asked) x up h = h

pub task_ready : (n : Numbers) (was ready : Bool) (roll : Roll) (task : Task) (x : Option OpenTask) →
    (was ≡ true → ready ≡ true) → TaskAgrees n was roll task x → TaskAgrees n ready roll task x
task_ready n was ready roll task x up h =
    record { named = h.named; deed = deed_ready n was ready roll task.lun task.deed x up h.deed }

settles_locked : (was is_locked : Bool) (roll : Roll) (place : ℕ) (short : Short) → (was ≡ true → is_locked ≡ true) →
    Settles was roll place short → Settles is_locked roll place short
settles_locked was is_locked roll place short up (Succeeds c n at awaits few reply ends) =
    Succeeds c n at awaits few reply ends
settles_locked was is_locked roll place short up (Fails at awaits reply) = Fails at awaits reply
settles_locked was is_locked roll place short up (Ends c at awaits reply locked) = Ends c at awaits reply (up locked)

open_locked : (was is_locked : Bool) (roll : Roll) (short : Short) (awaited : Awaited) →
    (was ≡ true → is_locked ≡ true) → OpenAgrees was roll short awaited → OpenAgrees is_locked roll short awaited
open_locked was is_locked roll short (Verdict place) up h = settles_locked was is_locked roll place short up h
open_locked was is_locked roll short (Blocks w) up h = h
open_locked was is_locked roll short Nothing up h = h
open_locked was is_locked roll short UnmapList up h = h
open_locked was is_locked roll short (Frames number) up h = h

pub short_up : (was is_locked : Bool) (roll : Roll) (short : Short) (x : Option OpenTask) →
    (was ≡ true → is_locked ≡ true) → ShortAgrees was roll short x → ShortAgrees is_locked roll short x
short_up was is_locked roll short x up h t e =
    let both = h t e in (both.0, open_locked was is_locked roll short t.awaited up both.1)

-- ## A change under one tag

-- the same things stand under a tag
pub agrees_same : (n : Numbers) (is_locked ready : Bool) (roll : Roll) {a c : Option Task} {b d : Option Short}
    {x y : Option OpenTask} → c ≡ a → d ≡ b → y ≡ x → AgreesAt n is_locked ready roll a b x →
    AgreesAt n is_locked ready roll c d y
agrees_same n is_locked ready roll {a} {c} {b} {d} {x} {y} e f g h =
    subst (λ (z : Option Task). AgreesAt n is_locked ready roll z d y) (sym e)
    (subst (λ (z : Option Short). AgreesAt n is_locked ready roll a z y) (sym f)
    (subst (λ (z : Option OpenTask). AgreesAt n is_locked ready roll a b z) (sym g) h))

-- under every other tag all is as it was
pub record OnlyUnder (tag : ℕ) (tasks after : List Task) (shorts later : List Short) (opens now : List OpenTask) :
    Type 0 where
  pub tasks_same : (other : ℕ) → (tag == other) ≡ false → task_of other after ≡ task_of other tasks
  pub shorts_same : (other : ℕ) → (tag == other) ≡ false →
      find (is_short_of other) later ≡ find (is_short_of other) shorts
  pub opens_same : (other : ℕ) → (tag == other) ≡ false → find (has_tag other) now ≡ find (has_tag other) opens

-- what stands under the tag, and under the others one entry more or none
pub under_one : {n : Numbers} {is_locked ready : Bool} {roll grown : Roll} {tasks after : List Task}
    {shorts later : List Short} {opens now : List OpenTask} (tag : ℕ) →
    ((a : Option Task) (b : Option Short) (x : Option OpenTask) → AgreesAt n is_locked ready roll a b x →
    AgreesAt n is_locked ready grown a b x) →
    OnlyUnder tag tasks after shorts later opens now → TagsDiffer tag_of now →
    AgreesAt n is_locked ready grown (task_of tag after) (find (is_short_of tag) later) (find (has_tag tag) now) →
    Pairs n is_locked ready roll tasks shorts opens → Pairs n is_locked ready grown after later now
under_one {n} {is_locked} {ready} {roll} {grown} {tasks} {after} {shorts} {later} {opens} {now} tag keeps only differ
    here p =
    record { differ = differ; at = λ other. by other (tag == other) refl }
  where
    by : (other : ℕ) (b : Bool) → (tag == other) ≡ b →
        AgreesAt n is_locked ready grown (task_of other after) (find (is_short_of other) later)
        (find (has_tag other) now)
    by other true e =
        subst (λ (k : ℕ). AgreesAt n is_locked ready grown (task_of k after) (find (is_short_of k) later)
        (find (has_tag k) now)) (eqb-true tag other e) here
    by other false e =
        agrees_same n is_locked ready grown (only.tasks_same other e) (only.shorts_same other e)
        (only.opens_same other e)
        (keeps (task_of other tasks) (find (is_short_of other) shorts) (find (has_tag other) opens) (p.at other))
