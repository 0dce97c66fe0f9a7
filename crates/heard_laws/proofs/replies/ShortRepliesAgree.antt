-- Behind the reply of a short exchange the device and the journal agree.
use Rattle.heard_laws.proofs.Common.{Awaited, Blocks, Bool, Frames, List, Message, None, Noted, OpenTask, Option, Some}
use Rattle.heard_laws.proofs.Common.{State, UnmapList, Verdict, answered, ap, arith, cond-false, cond-true, eqb-true}
use Rattle.heard_laws.proofs.Common.{false, find, has_tag, if◌then◌else◌, is_short, is_short_of, le-ltb, length, locked}
use Rattle.heard_laws.proofs.Common.{max, mended, nat_lt, none-some, numbers_of, refl, short_replied, slice_get}
use Rattle.heard_laws.proofs.Common.{spelling, subst, sym, tag_in, task_of, told, true, without, ℕ, ◌&&◌, ◌+◌, ◌==◌}
use Rattle.heard_laws.proofs.Common.{◌∙◌, ◌≡◌, ◌≤◌}
use Rattle.std.proofs.Common.{◌||◌}
use Rattle.std.proofs.lemmas.Bool.{lt-ltb}
use Rattle.std.specs.Prelude.{slice_index_or, slice_set}
use Rattle.ufs_spec.specs.Commands.{Command}
use Rattle.ufs_spec.specs.Exchanges.{Short, without_short}
use Rattle.ufs_spec.specs.declared.messages.Message.TheVariants.{QueryResponse, Response}
use Rattle.journal.specs.Entries.{Refused}
use Rattle.journal.specs.Heard.{Heard, promised_to, query_answered, ruled_by, ruled_on, settled}
use Rattle.journal.specs.Tasks.{open_with}
use Rattle.journal.specs.declared.tasks.Awaited.TheVariants.{Nothing}
use Rattle.heard_laws.proofs.agreement.Agreement.{AgreeIn, Books, Ends, Fails, IsBad, IsCode, OpenAgrees, Pairs}
use Rattle.heard_laws.proofs.agreement.Agreement.{Settles, ShortAgrees, Succeeds}
use Rattle.heard_laws.proofs.agreement.PairsKept.{agrees_same, under_one}
use Rattle.heard_laws.proofs.messages.HeardMessages.{told_any, told_query}
use Rattle.heard_laws.proofs.open_under_tags.OpenTasks.{closed_differ, closed_here, closed_other, open_is}
use Rattle.heard_laws.proofs.open_under_tags.TaskFinds.{short_gone_here, short_gone_other}
use Rattle.heard_laws.proofs.replies.RepliesAgree.{good_books}
use Rattle.heard_laws.proofs.rolls.BooksKept.{acknowledged_too, settled_by_lock, settled_ill, settled_well}
use Rattle.heard_laws.proofs.rolls.Rolls.{place_within}
use Rattle.heard_laws.proofs.rolls.StandingRolls.{as_long}

-- a RESPONSE that is not GOOD
told_bad : (j : Heard) (m : Message) → IsBad m → told j (spelling m) ≡ answered j (tag_in m) false
told_bad j (Response flags lun tag response status residual sense) bad =
    cond-false (is_short (spelling (Response flags lun tag response status residual sense))) j _
    (le-ltb (length (spelling (Response flags lun tag response status residual sense))) 32 (omega arith))
    ∙ ap (λ (k : ℕ). answered j tag ((k == 0x00) && (status == 0x00))) bad
told_bad j m bad = absurd bad

-- an answer to a query
told_code : (j : Heard) (m : Message) (code : ℕ) → IsCode code m → told j (spelling m) ≡ query_answered j (tag_in m)
    code
told_code j (QueryResponse tag function told_as ask size value «data») code is =
    told_query j tag function told_as ask size value «data» ∙ ap (query_answered j tag) is
told_code j m code is = absurd is

module _ (s : State) (held : ℕ) (j : Heard) (short : Short) (a : AgreeIn s held s j)
    (none : task_of short.tag s.tasks ≡ None) (found : find (is_short_of short.tag) s.shorts ≡ Some short) where
  abbrev open_now : Option OpenTask
  open_now = find (has_tag short.tag) j.tasks

  abbrev After : Heard → Type 0
  After k = AgreeIn s held (short_replied s (Some short)) k

  agrees : ShortAgrees (locked s) a.roll short open_now
  agrees =
      agrees_same (numbers_of s) (locked s) (locked s || mended s) a.roll (sym none) (sym found) (refl {a = open_now})
      (a.pairs.at short.tag)

  -- it is over, on both sides
  abbrev PairsOf : List OpenTask → Type 0
  PairsOf opens =
      Pairs (numbers_of s) (locked s) (locked s || mended s) a.roll s.tasks (without_short short.tag s.shorts) opens

  closes : PairsOf (without short.tag j.tasks)
  closes =
      under_one {roll = a.roll} {grown = a.roll} short.tag (λ x y z h. h) (record {
        tasks_same = λ other apart. refl;
        shorts_same = λ other apart. short_gone_other short.tag other apart s.shorts;
        opens_same = λ other apart. closed_other short.tag other j.tasks a.pairs.differ apart;
      }) (closed_differ short.tag j.tasks a.pairs.differ)
      (agrees_same (numbers_of s) (locked s) (locked s || mended s) a.roll none (short_gone_here short.tag s.shorts)
      (closed_here short.tag j.tasks a.pairs.differ) refl) a.pairs

  was_closed : open_now ≡ None → PairsOf j.tasks
  was_closed e =
      under_one {roll = a.roll} {grown = a.roll} short.tag (λ x y z h. h) (record {
        tasks_same = λ other apart. refl;
        shorts_same = λ other apart. short_gone_other short.tag other apart s.shorts;
        opens_same = λ other apart. refl;
      }) a.pairs.differ
      (agrees_same (numbers_of s) (locked s) (locked s || mended s) a.roll none (short_gone_here short.tag s.shorts)
      e refl) a.pairs

  -- with these entries, so many of which are acknowledged
  over : (entries : List Noted) (acknowledged : ℕ) → Books s.accepted held entries acknowledged a.roll →
      After (record j { entries = entries; held = acknowledged; tasks = without short.tag j.tasks })
  over entries acknowledged books = record {
    numbers = a.numbers;
    lock = a.lock;
    roll = a.roll;
    books = books;
    pairs = closes;
    regions = a.regions;
    unmended = a.unmended;
  }

  -- a command that got TASK SET FULL, or nothing, was open
  not_good : After (answered j short.tag false)
  not_good = over j.entries j.held a.books

  nothing_open : (m : Message) → open_now ≡ None → tag_in m ≡ short.tag → After (told j (spelling m))
  nothing_open m e is =
      told_any After j m (record {
        numbers = a.numbers;
        lock = a.lock;
        roll = a.roll;
        books = a.books;
        pairs = was_closed e;
        regions = a.regions;
        unmended = a.unmended;
      })
      (λ good. subst (λ (k : ℕ). After (answered j k good)) (sym is)
      (over j.entries (if good then max j.held (promised_to (open_with short.tag j.tasks)) else j.held)
      (subst (λ (x : Option OpenTask). Books s.accepted held j.entries
      (if good then max j.held (promised_to x) else j.held) a.roll) (sym (open_is short.tag j.tasks ∙ e))
      (good_books s held j a short.tag good None (λ t k. absurd (none-some t k)) (λ g t k. absurd (none-some t k))))))
      (λ code. subst (λ (k : ℕ). After (query_answered j k code)) (sym is)
      (subst (λ (x : Option OpenTask). After (ruled_by (record j { tasks = without short.tag j.tasks }) x code))
      (sym (open_is short.tag j.tasks ∙ e)) (over j.entries j.held a.books)))

  -- a setting was open
  ruled_as : (t : OpenTask) (place code : ℕ) (o : Option Command) → open_now ≡ Some t → t.awaited ≡ Verdict place →
      slice_get a.roll place ≡ Some o →
      query_answered j short.tag code
      ≡ record j {
        entries = slice_set j.entries place (settled j.locked code (slice_index_or j.entries place Refused));
        held = (if code == 0x00 then max j.held (place + 1) else j.held);
        tasks = without short.tag j.tasks;
      }
  ruled_as t place code o e is at =
      let within = place_within a.roll place o at in
      let long = as_long j.entries a.roll a.books.stand in
      ap (λ (x : Option OpenTask). ruled_by (record j { tasks = without short.tag j.tasks }) x code)
      (open_is short.tag j.tasks ∙ e)
      ∙ (ap (λ (x : Awaited). ruled_on (record j { tasks = without short.tag j.tasks }) x code) is
      ∙ cond-true (nat_lt place (length j.entries)) _ _ (lt-ltb place (length j.entries) (omega (arith, within, long))))

  says : (m : Message) (code : ℕ) (k : Heard) → IsCode code m → tag_in m ≡ short.tag →
      query_answered j short.tag code ≡ k → After k → After (told j (spelling m))
  says m code k is tag same h =
      subst After (sym (told_code j m code is ∙ (ap (λ (x : ℕ). query_answered j x code) tag ∙ same))) h

  settles : (m : Message) (t : OpenTask) (place : ℕ) → m ≡ short.reply → tag_in m ≡ short.tag → open_now ≡ Some t →
      t.awaited ≡ Verdict place → Settles (locked s) a.roll place short →
      ((n : ℕ) → short.awaits ≡ Some n → n ≤ held) → After (told j (spelling m))
  settles m t place same tag e is (Succeeds c n at awaits few reply ends) held_too =
      let within = place_within a.roll place (Some c) at in
      let l = held_too n awaits in
      says m 0x00 _ (subst (IsCode 0x00) (sym same) reply) tag (ruled_as t place 0x00 (Some c) e is at)
      (over (slice_set j.entries place (settled j.locked 0x00 (slice_index_or j.entries place Refused)))
      (max j.held (place + 1))
      (settled_well j.locked place c at
      (acknowledged_too (place + 1) (omega (arith, within)) (omega (arith, few, l)) a.books)))
  settles m t place same tag e is (Fails at awaits reply) held_too =
      let code = reply.0 in
      let other : (code == 0x00) ≡ false = not_zero code reply.2 in
      says m code _ (subst (IsCode code) (sym same) reply.1) tag (ruled_as t place code None e is at)
      (subst (λ (b : Bool). After (record j {
        entries = slice_set j.entries place (settled j.locked code (slice_index_or j.entries place Refused));
        held = (if b then max j.held (place + 1) else j.held);
        tasks = without short.tag j.tasks;
      })) (sym other)
      (over (slice_set j.entries place (settled j.locked code (slice_index_or j.entries place Refused))) j.held
      (settled_ill j.locked place code at other a.books)))
    where
      not_zero : (code : ℕ) → (code ≡ 0x00 → ⊥) → (code == 0x00) ≡ false
      not_zero code not = by (code == 0x00) refl
        where
          by : (b : Bool) → (code == 0x00) ≡ b → b ≡ false
          by true k = absurd (not (eqb-true code 0x00 k))
          by false k = refl
  settles m t place same tag e is (Ends c at awaits reply is_locked) held_too =
      says m 0xFF _ (subst (IsCode 0xFF) (sym same) reply) tag (ruled_as t place 0xFF (Some c) e is at)
      (subst (λ (b : Bool). After (record j {
        entries = slice_set j.entries place (settled b 0xFF (slice_index_or j.entries place Refused));
        held = j.held;
        tasks = without short.tag j.tasks;
      })) (sym (a.lock ∙ is_locked))
      (over (slice_set j.entries place (settled true 0xFF (slice_index_or j.entries place Refused))) j.held
      (settled_by_lock place c at a.books)))

  bad : (m : Message) → m ≡ short.reply → tag_in m ≡ short.tag → IsBad short.reply → After (told j (spelling m))
  bad m same tag is =
      subst After (sym (told_bad j m (subst IsBad (sym same) is) ∙ ap (λ (k : ℕ). answered j k false) tag)) not_good

  by_awaited : (m : Message) (t : OpenTask) (x : Awaited) → m ≡ short.reply → tag_in m ≡ short.tag →
      open_now ≡ Some t → t.awaited ≡ x → OpenAgrees (locked s) a.roll short x →
      ((n : ℕ) → short.awaits ≡ Some n → n ≤ held) → After (told j (spelling m))
  by_awaited m t (Verdict place) same tag e is h held_too = settles m t place same tag e is h held_too
  by_awaited m t (Blocks w) same tag e is h held_too = bad m same tag h.0
  by_awaited m t Nothing same tag e is h held_too = bad m same tag h.0
  by_awaited m t UnmapList same tag e is h held_too = bad m same tag h.0
  by_awaited m t (Frames number) same tag e is h held_too = bad m same tag h.0

  -- behind its reply both agree
  pub short_agrees : (m : Message) → m ≡ short.reply → tag_in m ≡ short.tag →
      ((n : ℕ) → short.awaits ≡ Some n → n ≤ held) → After (told j (spelling m))
  short_agrees m same tag held_too = by open_now refl agrees
    where
      by : (x : Option OpenTask) → open_now ≡ x → ShortAgrees (locked s) a.roll short x → After (told j (spelling m))
      by None e h = nothing_open m e tag
      by (Some t) e h = by_awaited m t t.awaited same tag e refl (h t refl).1 held_too
