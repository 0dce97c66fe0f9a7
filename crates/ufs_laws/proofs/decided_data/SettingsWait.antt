-- Settings wait until they are durable, and are refused where none can be accepted.
use Rattle.ufs_laws.proofs.Common.{Bool, Command, None, Numbers, Option, Plain, Query, Short, Some, State, [], ap}
use Rattle.ufs_laws.proofs.Common.{apply, arith, durable, false, false_from_ne_true, free_slots, if_both, if◌then◌else◌}
use Rattle.ufs_laws.proofs.Common.{is_durable, le-ltb, leb-true, length, lock_applied, locked, mended, nat_le, nat_lt}
use Rattle.ufs_laws.proofs.Common.{ne_eqb, not, numbers_of, plain_now, query_passed, refl, setting_of, short_locked}
use Rattle.ufs_laws.proofs.Common.{short_reply, true, ℕ, ◌&&◌, ◌++◌, ◌+◌, ◌<◌, ◌==◌, ◌∙◌, ◌∷◌, ◌≡◌, ◌≢◌, ◌≤◌}
use Rattle.ufs_laws.specs.Decisions.{boot_query, permanent_query}
use Rattle.ufs_spec.specs.Changes.{with_short}
use Rattle.std.proofs.lemmas.Bool.{le-leb}
use Rattle.ufs_spec.specs.Queries.{query_code}
use Rattle.ufs_spec.specs.QueryAnswers.{may_set, query_answered, query_done, query_failed}

-- ## Accepted

pub accepted : (s : State) (tag : ℕ) (q : Query) (c : Command) → setting_of q ≡ Some c →
    (query_passed s tag q (setting_of q)).accepted ≡ s.accepted ++ c ∷ []
accepted s tag q c e = ap (λ (o : Option Command). (query_passed s tag q o).accepted) e

abbrev waiting : State → ℕ → Query → Command → Short
waiting s tag q c =
    record {
      tag = tag;
      awaits = Some (length s.accepted + 1);
      reply = query_done (numbers_of s) (apply (plain_now s) c) s.volatile tag q;
      locked_reply = query_failed tag q 0xFF;
    }

pub waits : (s : State) (tag : ℕ) (q : Query) (c : Command) → setting_of q ≡ Some c →
    (query_passed s tag q (setting_of q)).shorts ≡ s.shorts ++ waiting s tag q c ∷ []
waits s tag q c e = ap (λ (o : Option Command). (query_passed s tag q o).shorts) e

-- ## Waiting

pub not_due : (s : State) (short : Short) (n : ℕ) → short.awaits ≡ Some n → durable s < n →
    is_durable s short.awaits ≡ false
not_due s short n e low = ap (is_durable s) e ∙ false_from_ne_true (nat_le n (durable s)) over
  where
    over : nat_le n (durable s) ≡ true → ⊥
    over h = let high = leb-true n (durable s) h in omega arith

pub lock : (s : State) (short : Short) → is_durable s short.awaits ≡ false →
    short_locked s short ≡ record short { awaits = None; reply = short.locked_reply }
lock s short e =
    ap (λ (b : Bool). if b then short else record short { awaits = None; reply = short.locked_reply }) e

pub stays : (s : State) → (lock_applied s).accepted ≡ s.accepted
stays s = if_both (λ (t : State). t.accepted ≡ s.accepted) (locked s) refl refl

-- ## Refused

pub not_mended : (s : State) → mended s ≡ false → may_set s ≡ false
not_mended s e = ap (λ (b : Bool). b && not (locked s) && nat_lt 0 (free_slots s.translation)) e

pub shut : (s : State) → locked s ≡ true → may_set s ≡ false
shut s e = by (mended s) (nat_lt 0 (free_slots s.translation))
  where
    by : (a c : Bool) → (a && not (locked s) && c) ≡ false
    by true c = ap (λ (b : Bool). not b && c) e
    by false c = refl

pub no_slot : (s : State) → free_slots s.translation ≡ 0 → may_set s ≡ false
no_slot s e =
    ap (λ (b : Bool). mended s && not (locked s) && b) (ap (nat_lt 0) e) ∙ by (mended s) (not (locked s))
  where
    by : (a b : Bool) → (a && b && false) ≡ false
    by true true = refl
    by true false = refl
    by false b = refl

abbrev boot_code : Bool → ℕ
boot_code has = if not has then 0xFA else 0xFF

pub boot_refused : (n : Numbers) (p : Plain) (value : ℕ) → value ≤ 2 → query_code n p false (boot_query value) ≡ 0xFF
boot_refused n p value few = ap boot_code (λ i. le-leb 0 value (omega arith) i && le-leb value 2 few i)

abbrev flag_code : Bool → ℕ
flag_code set = if set then 0xF8 else 0xFF

pub flag_refused : (n : Numbers) (p : Plain) → p.permanent ≡ false → query_code n p false permanent_query ≡ 0xFF
flag_refused n p e = ap flag_code e

pub nothing : (s : State) (tag : ℕ) (q : Query) (code : ℕ) → code ≢ 0x00 →
    query_answered s tag q code ≡ with_short s (short_reply tag (query_failed tag q code))
nothing s tag q code other =
    ap (λ (b : Bool). if b && not (q.asked.opcode == 0) then query_passed s tag q (setting_of q)
    else with_short s (short_reply tag (query_failed tag q code))) (ne_eqb code 0x00 other)
