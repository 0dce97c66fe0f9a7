-- Behind a QUERY REQUEST the device and the journal agree.
use Rattle.heard_laws.proofs.Common.{AreRegionsOf, Bool, Doubted, IsFree, Message, None, OpenTask, Option, Some, State}
use Rattle.heard_laws.proofs.Common.{Verdict, [], and_parts, ap, arith, eqb-true, false, false≢true, if_cases}
use Rattle.heard_laws.proofs.Common.{if◌then◌else◌, inl, inr, length, length-append, locked, mended, none-some, not}
use Rattle.heard_laws.proofs.Common.{numbers_of, plain_now, refl, same_Some, setting_command, short_reply, slice_get}
use Rattle.heard_laws.proofs.Common.{subst, sym, true, true≢false, with_short, ℕ, ◌&&◌, ◌++◌, ◌+◌, ◌==◌, ◌∙◌, ◌∷◌, ◌≡◌}
use Rattle.heard_laws.proofs.Common.{◌≤◌}
use Rattle.std.proofs.Common.{◌||◌}
use Rattle.ufs_spec.proofs.Facts.{and_from, eq-eqb}
use Rattle.ufs_spec.proofs.Lists.{get_last}
use Rattle.ufs_spec.specs.Commands.{Command, SetBoot, SetPermanent}
use Rattle.ufs_spec.specs.Exchanges.{Short}
use Rattle.ufs_spec.specs.Queries.{Query, setting_of, volatile_after}
use Rattle.ufs_spec.specs.QueryAnswers.{may_set, query_done, query_failed, query_heard, query_passed, query_told}
use Rattle.ufs_spec.specs.QueryAnswers.{setting_accepted}
use Rattle.ufs_laws.proofs.walk.Happenings.{code_of_query, setting_short}
use Rattle.power_loss.proofs.host_commands.QueriesHeard.{setting_is}
use Rattle.journal.proofs.SettingLines.{asked_passes, passed_is_asked}
use Rattle.journal.specs.Heard.{Heard, asked, doubted}
use Rattle.journal.specs.Queries.{asked_setting}
use Rattle.journal.specs.declared.entries.Setting.{Setting}
use Rattle.journal.specs.declared.entries.Setting.TheVariants as setting
use Rattle.journal.specs.declared.tasks.TaskName.{TaskName}
use Rattle.heard_laws.proofs.agreement.Agreement.{AgreeIn, Fails, OpenAgrees, Settles, ShortAgrees, Succeeds}
use Rattle.heard_laws.proofs.agreement.PairsKept.{agrees_more}
use Rattle.heard_laws.proofs.agreement.PairsOpened.{none_at, short_opens, short_opens_too}
use Rattle.heard_laws.proofs.host_data.RegionsKept.{IsForNone, after_more, others_stay}
use Rattle.heard_laws.proofs.rolls.BooksKept.{command_noted, nothing_noted}
use Rattle.heard_laws.proofs.rolls.Rolls.{Roll, count_all, somes, somes_some}
use Rattle.heard_laws.proofs.rolls.StandingRolls.{as_long}

-- a setting is no command for a region
for_none : (st : Setting) → IsForNone (setting_command st)
for_none (setting.Boot boot) = tt
for_none setting.Permanent = tt

-- and no query without an operation
some_operation : (q : Query) (c : Command) → setting_of q ≡ Some c → (q.asked.opcode == 0) ≡ false
some_operation q c e = by (q.asked.opcode == 0) refl
  where
    by : (b : Bool) → (q.asked.opcode == 0) ≡ b → b ≡ false
    by true k =
        absurd (none-some c (ap (λ (o : ℕ). if (o == 4) && (q.asked.idn == 0x00) then Some (SetBoot q.value)
        else if (o == 6) && (q.asked.idn == 0x02) then Some SetPermanent else None)
        (sym (eqb-true q.asked.opcode 0 k)) ∙ e))
    by false k = refl

module _ (s : State) (held : ℕ) (j : Heard) (tag : ℕ) (q : Query) (a : AgreeIn s held s j) (free : IsFree s tag)
  where
    -- an answer that is due at once, with nothing open in the journal
    at_once : (reply : Message) → AgreeIn s held (with_short s (short_reply tag reply)) j
    at_once reply = record {
      numbers = a.numbers;
      lock = a.lock;
      roll = a.roll;
      books = a.books;
      pairs = short_opens (short_reply tag reply) (none_at free) a.pairs;
      regions = a.regions;
      unmended = a.unmended;
    }

    abbrev passes : Bool
    passes = (code_of_query s q == 0x00) && not (q.asked.opcode == 0)

    abbrev name : TaskName
    name = record { lun = 0; tag = tag }

    -- a query that sets nothing, or that a locked device refuses
    unheard : ((c : Command) → setting_of q ≡ Some c → passes ≡ true → ⊥) → AgreeIn s held (query_heard s tag q) j
    unheard none =
        if_cases (λ (u : State). AgreeIn s held u j) passes (λ e. passed (setting_of q) refl e)
        (λ e. at_once (query_failed tag q (code_of_query s q)))
      where
        -- what is volatile does not matter
        told : AgreeIn s held (with_short s (short_reply tag
            (query_done (numbers_of s) (plain_now s) (volatile_after (numbers_of s) (mended s) s.volatile q) tag q))) j →
            AgreeIn s held (query_told s tag q) j
        told h = h

        passed : (o : Option Command) → setting_of q ≡ o → passes ≡ true → AgreeIn s held (query_passed s tag q o) j
        passed None k e = told (at_once (query_done (numbers_of s) (plain_now s) (volatile_after (numbers_of s) (mended s) s.volatile q) tag q))
        passed (Some c) k e = absurd (none c k e)

    abbrev its : OpenTask
    its = record { name = name; awaited = Verdict (length j.entries); promised = 0 }

    long : length a.roll ≡ length j.entries
    long = as_long j.entries a.roll a.books.stand

    settled : (roll : Roll) (short : Short) → Settles (locked s) roll (length j.entries) short →
        ShortAgrees (locked s) roll short (Some its)
    settled roll short h t e =
        subst (λ (x : OpenTask). (x.promised ≤ length roll) × OpenAgrees (locked s) roll short x.awaited)
        (same_Some its t e) (omega arith, h)

    last : (o : Option Command) → slice_get (a.roll ++ o ∷ []) (length j.entries) ≡ Some o
    last o = ap (slice_get (a.roll ++ o ∷ [])) (sym long) ∙ get_last a.roll o

    -- the setting is accepted
    sets : (st : Setting) → passes ≡ true → setting_of q ≡ Some (setting_command st) →
        AgreeIn s held (setting_accepted s tag q (setting_command st)) (doubted j name st)
    sets st e is =
        let c : Command = setting_command st in
        let both = and_parts (code_of_query s q == 0x00) (not (q.asked.opcode == 0)) e in
        let told = setting_is s q c both.0 (some_operation q c is) is in
        let grown : Roll = a.roll ++ Some c ∷ [] in
        let one = length-append a.roll (Some c ∷ []) in
        let n = count_all (length j.entries + 1) grown (omega (arith, long, one)) in
        let cs = ap length (somes_some a.roll c) in
        let m = length-append (somes a.roll) (c ∷ []) in
        let acc = ap length a.books.accepted_are in
        record {
          numbers = a.numbers;
          lock = a.lock;
          roll = grown;
          books = command_noted (Doubted st) c (inr refl) a.books;
          pairs = short_opens_too (setting_short s tag q c) its refl (none_at free)
              (agrees_more (numbers_of s) (locked s) (locked s || mended s) a.roll (Some c))
              (settled grown (setting_short s tag q c) (Succeeds c (length s.accepted + 1) (last (Some c)) refl
              (omega (arith, n, cs, m, acc)) refl refl))
              a.pairs;
          regions = subst (AreRegionsOf j.regions) (sym (after_more s.base s.accepted c))
              (others_stay j.regions (plain_now s) c (for_none st) a.regions);
          unmended = λ un. absurd (true≢false (sym told.is_mended ∙ un));
        }

    -- it is refused
    refuses : (st : Setting) → passes ≡ false → setting_of q ≡ Some (setting_command st) →
        AgreeIn s held (with_short s (short_reply tag (query_failed tag q (code_of_query s q)))) (doubted j name st)
    refuses st e is =
        record {
          numbers = a.numbers;
          lock = a.lock;
          roll = a.roll ++ None ∷ [];
          books = nothing_noted (Doubted st) (inl refl) a.books;
          pairs = short_opens_too (short_reply tag (query_failed tag q (code_of_query s q))) its refl (none_at free)
              (agrees_more (numbers_of s) (locked s) (locked s || mended s) a.roll None)
              (settled (a.roll ++ None ∷ []) (short_reply tag (query_failed tag q (code_of_query s q)))
              (Fails (last None) refl (code_of_query s q, refl, failed))) a.pairs;
          regions = a.regions;
          unmended = a.unmended;
        }
      where
        failed : code_of_query s q ≡ 0x00 → ⊥
        failed zero =
            false≢true (sym e ∙ and_from (code_of_query s q == 0x00) (not (q.asked.opcode == 0))
            (eq-eqb (code_of_query s q) 0x00 zero)
            (ap not (some_operation q (setting_command st) is)))

    heard : (st : Setting) → setting_of q ≡ Some (setting_command st) →
        AgreeIn s held (query_heard s tag q) (doubted j name st)
    heard st is =
        if_cases (λ (u : State). AgreeIn s held u (doubted j name st)) passes
        (λ e. subst (λ (o : Option Command). AgreeIn s held (query_passed s tag q o) (doubted j name st)) (sym is)
        (sets st e is))
        (λ e. refuses st e is)

    by_setting : (o : Option Setting) → asked_setting q ≡ o → AgreeIn s held (query_heard s tag q) (asked j name o)
    by_setting None e =
        unheard (λ c is ok. absurd (nothing (passed_is_asked (numbers_of s) (plain_now s) (may_set s) q c is
        (eqb-true (code_of_query s q) 0x00 (and_parts (code_of_query s q == 0x00) (not (q.asked.opcode == 0)) ok).0))))
      where
        nothing : {c : Command} → (st : Setting) × (asked_setting q ≡ Some st) × (setting_command st ≡ c) → ⊥
        nothing h = none-some h.0 (sym e ∙ h.1)
    by_setting (Some st) e = by j.locked refl
      where
        is : setting_of q ≡ Some (setting_command st)
        is = (asked_passes (numbers_of s) (plain_now s) q st e).0

        by : (b : Bool) → j.locked ≡ b → AgreeIn s held (query_heard s tag q) (if b then j else doubted j name st)
        by false k = heard st is
        by true k = unheard (λ c of ok.
            let both = and_parts (code_of_query s q == 0x00) (not (q.asked.opcode == 0)) ok in
            true≢false (sym (sym a.lock ∙ k) ∙ (setting_is s q c both.0 (some_operation q c of) of).unlocked))

    pub query_agrees : AgreeIn s held (query_heard s tag q) (asked j name (asked_setting q))
    query_agrees = by_setting (asked_setting q) refl
