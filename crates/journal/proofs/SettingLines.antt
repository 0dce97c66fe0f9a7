-- Which queries the table of queries lets change a setting.
use Rattle.std.proofs.Common.{◌≡◌, ◌==◌, ◌||◌, ◌&&◌, ℕ, Bool, true, false, if◌then◌else◌, not, Option, None, Some}
use Rattle.std.proofs.Common.{arith, nat_lt, refl, subst, sym}
use Rattle.std.specs.Prelude.{◌≤◌}
use Rattle.std.proofs.lemmas.Bool.{and_parts, eq-eqb, eqb-true, false≢true, le-leb, le-ltb, leb-true, ltb-false}
use Rattle.std.proofs.lemmas.Option.{none-some, same_Some}
use Rattle.ufs_spec.specs.Commands.{Command, SetBoot, SetPermanent}
use Rattle.ufs_spec.specs.Configs.{is_between}
use Rattle.ufs_spec.specs.Plain.{Plain}
use Rattle.ufs_spec.specs.Queries.{Query, query_code, setting_of, sets_permanent, writes_boot}
use Rattle.ufs_spec.specs.declared.configs.Numbers.{Numbers}
use Rattle.journal.specs.Entries.{setting_command}
use Rattle.journal.specs.Queries.{asked_setting, is_no_setting}
use Rattle.journal.specs.declared.entries.Setting.{Setting}
use Rattle.journal.specs.declared.entries.Setting.TheVariants as setting

-- a query by its fields
abbrev pub query_with : (function opcode idn index selector length value : ℕ) → Query
query_with function opcode idn index selector length value =
    record {
      function = function;
      asked = record { opcode = opcode; idn = idn; index = index; selector = selector };
      length = length;
      value = value;
    }

-- the code of a query that sets fPermanentWPEn, if no other line refuses it
abbrev pub code_of_setting : Plain → Query → ℕ
code_of_setting p q = if sets_permanent q && p.permanent then 0xF8 else 0x00

-- a value that bBootLunEn may become is at most 2
few_is_between : (value : ℕ) → value ≤ 2 → is_between 0 2 value ≡ true
few_is_between value few = λ i. le-leb 0 value (omega arith) i && le-leb value 2 few i

between_is_few : (value : ℕ) → not (is_between 0 2 value) ≡ false → nat_lt 2 value ≡ false
between_is_few value e = le-ltb 2 value (leb-true value 2 (and_parts _ _ (inside (is_between 0 2 value) e)).1)
  where
    inside : (b : Bool) → not b ≡ false → b ≡ true
    inside true h = refl
    inside false h = absurd (false≢true (sym h))

-- ## What is asked passes

boot_passes : (n : Numbers) (p : Plain) (function value : ℕ) → (function == 0x01) ≡ false →
    nat_lt 2 value ≡ false → query_code n p true (query_with function 4 0 0 0 0 value) ≡ 0x00
boot_passes n p function value read wrong = rw (read, few_is_between value (ltb-false 2 value wrong)) refl

permanent_passes : (n : Numbers) (p : Plain) (function value : ℕ) → (function == 0x01) ≡ false →
    query_code n p true (query_with function 6 2 0 0 0 value) ≡ (if p.permanent then 0xF8 else 0x00)
permanent_passes n p function value read = rw read refl

-- what is to be shown of a query and a setting that it asks for
abbrev pub IsPassed : Numbers → Plain → Query → Setting → Type 0
IsPassed n p q s =
    (setting_of q ≡ Some (setting_command s)) × (query_code n p true q ≡ code_of_setting p q)

-- no query that asks for a setting is none
is_some_setting : (function i t l : ℕ) →
    ((function == 0x01) || not (i == 0) || not (t == 0) || not (l == 0)) ≡ false →
    ((function == 0x01) ≡ false) × (i ≡ 0) × (t ≡ 0) × (l ≡ 0)
is_some_setting function i t l e = parts (function == 0x01) (i == 0) (t == 0) (l == 0) refl refl refl e
  where
    parts : (a b c d : Bool) → (i == 0) ≡ b → (t == 0) ≡ c → (l == 0) ≡ d →
        (a || not b || not c || not d) ≡ false → (a ≡ false) × (i ≡ 0) × (t ≡ 0) × (l ≡ 0)
    parts false true true true x y z h = (refl, eqb-true i 0 x, eqb-true t 0 y, eqb-true l 0 z)
    parts true b c d x y z h = absurd (false≢true (sym h))
    parts false false c d x y z h = absurd (false≢true (sym h))
    parts false true false d x y z h = absurd (false≢true (sym h))
    parts false true true false x y z h = absurd (false≢true (sym h))

-- a statement of a query holds if it holds of the query with these fields
with_fields : (P : Query → Type 0) (q : Query) (o d : ℕ) → q.asked.opcode ≡ o → q.asked.idn ≡ d →
    q.asked.index ≡ 0 → q.asked.selector ≡ 0 → q.length ≡ 0 → P (query_with q.function o d 0 0 0 q.value) → P q
with_fields P q o d is_o is_d is_i is_t is_l h =
    let f = q.function in
    let v = q.value in
    subst (λ (x : ℕ). P (query_with f x q.asked.idn q.asked.index q.asked.selector q.length v)) (sym is_o)
    (subst (λ (x : ℕ). P (query_with f o x q.asked.index q.asked.selector q.length v)) (sym is_d)
    (subst (λ (x : ℕ). P (query_with f o d x q.asked.selector q.length v)) (sym is_i)
    (subst (λ (x : ℕ). P (query_with f o d 0 x q.length v)) (sym is_t)
    (subst (λ (x : ℕ). P (query_with f o d 0 0 x v)) (sym is_l) h))))

-- the setting of a query, by what its tests say
abbrev pub chosen : Bool → Bool → Bool → Bool → ℕ → Option Setting
chosen none boot wrong permanent value =
    if none then None
    else if boot then (if wrong then None else Some (setting.Boot value))
    else if permanent then Some setting.Permanent
    else None

passed_by : (n : Numbers) (p : Plain) (q : Query) (s : Setting) (none boot wrong permanent : Bool) →
    is_no_setting q ≡ none → ((q.asked.opcode == 4) && (q.asked.idn == 0x00)) ≡ boot → nat_lt 2 q.value ≡ wrong →
    sets_permanent q ≡ permanent → chosen none boot wrong permanent q.value ≡ Some s → IsPassed n p q s
passed_by n p q s true boot wrong permanent x y z w e = absurd (none-some s e)
passed_by n p q s false true true permanent x y z w e = absurd (none-some s e)
passed_by n p q s false false wrong false x y z w e = absurd (none-some s e)
passed_by n p q s false true false permanent x y z w e =
    let some = is_some_setting q.function q.asked.index q.asked.selector q.length x in
    let both = and_parts (q.asked.opcode == 4) (q.asked.idn == 0x00) y in
    with_fields (λ (r : Query). IsPassed n p r s) q 4 0 (eqb-true q.asked.opcode 4 both.0)
    (eqb-true q.asked.idn 0 both.1) some.1 some.2 some.3
    (subst (IsPassed n p (query_with q.function 4 0 0 0 0 q.value)) (same_Some (setting.Boot q.value) s e)
    (refl, boot_passes n p q.function q.value some.0 z))
passed_by n p q s false false wrong true x y z w e =
    let some = is_some_setting q.function q.asked.index q.asked.selector q.length x in
    let both = and_parts (q.asked.opcode == 6) (q.asked.idn == 0x02) w in
    with_fields (λ (r : Query). IsPassed n p r s) q 6 2 (eqb-true q.asked.opcode 6 both.0)
    (eqb-true q.asked.idn 2 both.1) some.1 some.2 some.3
    (subst (IsPassed n p (query_with q.function 6 2 0 0 0 q.value)) (same_Some setting.Permanent s e)
    (refl, permanent_passes n p q.function q.value some.0))

-- a query that asks for a setting is one, and the table passes it, but where fPermanentWPEn is set already
pub asked_passes : (n : Numbers) (p : Plain) (q : Query) (s : Setting) → asked_setting q ≡ Some s → IsPassed n p q s
asked_passes n p q s e =
    passed_by n p q s (is_no_setting q) ((q.asked.opcode == 4) && (q.asked.idn == 0x00)) (nat_lt 2 q.value)
    (sets_permanent q) refl refl refl refl e

-- ## No other setting passes

-- none of the lines that may refuse a setting by its bytes gave its code
no_line : (opcode idn index selector size value : Bool) (rest : ℕ) →
    (if opcode then 0xFE else if idn then 0xFD else if index then 0xFC else if selector then 0xFB
    else if size then 0xF9 else if value then 0xFA else rest)
    ≡ 0x00 →
    (opcode ≡ false) × (idn ≡ false) × (index ≡ false) × (selector ≡ false) × (size ≡ false) × (value ≡ false)
no_line true b c d e f rest h = absurd (false≢true (eq-eqb 0xFE 0 h))
no_line false true c d e f rest h = absurd (false≢true (eq-eqb 0xFD 0 h))
no_line false false true d e f rest h = absurd (false≢true (eq-eqb 0xFC 0 h))
no_line false false false true e f rest h = absurd (false≢true (eq-eqb 0xFB 0 h))
no_line false false false false true f rest h = absurd (false≢true (eq-eqb 0xF9 0 h))
no_line false false false false false true rest h = absurd (false≢true (eq-eqb 0xFA 0 h))
no_line false false false false false false rest h = (refl, refl, refl, refl, refl, refl)

-- what is to be shown of a query that passes and is this command
abbrev pub IsAsked : Query → Command → Type 0
IsAsked q c = (s : Setting) × (asked_setting q ≡ Some s) × (setting_command s ≡ c)

boot_asked : (n : Numbers) (p : Plain) (may : Bool) (function i t l v : ℕ) (c : Command) →
    query_code n p may (query_with function 4 0 i t l v) ≡ 0x00 → Some (SetBoot v) ≡ Some c →
    IsAsked (query_with function 4 0 i t l v) c
boot_asked n p may function i t l v c e is =
    let passed = no_line (function == 0x01) false (not (i == 0)) (not (t == 0)) (not (l == 0))
    (not (is_between 0 2 v)) _ e in (
      setting.Boot v,
      rw (passed.0, passed.2, passed.3, passed.4, between_is_few v passed.5) refl,
      same_Some (SetBoot v) c is,
    )

permanent_asked : (n : Numbers) (p : Plain) (may : Bool) (function i t l v : ℕ) (c : Command) →
    query_code n p may (query_with function 6 2 i t l v) ≡ 0x00 → Some SetPermanent ≡ Some c →
    IsAsked (query_with function 6 2 i t l v) c
permanent_asked n p may function i t l v c e is =
    let passed = no_line (function == 0x01) false (not (i == 0)) (not (t == 0)) (not (l == 0)) false _ e in (
      setting.Permanent,
      rw (passed.0, passed.2, passed.3, passed.4) refl,
      same_Some SetPermanent c is,
    )

asked_by : (n : Numbers) (p : Plain) (may : Bool) (q : Query) (c : Command) (boot permanent : Bool) →
    writes_boot q ≡ boot → sets_permanent q ≡ permanent → query_code n p may q ≡ 0x00 →
    (if boot then Some (SetBoot q.value) else if permanent then Some SetPermanent else None) ≡ Some c → IsAsked q c
asked_by n p may q c false false x y e is = absurd (none-some c is)
asked_by n p may q c true permanent x y e is =
    let a = q.asked in
    let both = and_parts (a.opcode == 4) (a.idn == 0x00) x in
    subst
    (λ (o : ℕ). query_code n p may (query_with q.function o a.idn a.index a.selector q.length q.value) ≡ 0x00 →
    IsAsked (query_with q.function o a.idn a.index a.selector q.length q.value) c)
    (sym (eqb-true a.opcode 4 both.0))
    (subst
    (λ (d : ℕ). query_code n p may (query_with q.function 4 d a.index a.selector q.length q.value) ≡ 0x00 →
    IsAsked (query_with q.function 4 d a.index a.selector q.length q.value) c)
    (sym (eqb-true a.idn 0 both.1))
    (λ zero. boot_asked n p may q.function a.index a.selector q.length q.value c zero is)) e
asked_by n p may q c false true x y e is =
    let a = q.asked in
    let both = and_parts (a.opcode == 6) (a.idn == 0x02) y in
    subst
    (λ (o : ℕ). query_code n p may (query_with q.function o a.idn a.index a.selector q.length q.value) ≡ 0x00 →
    IsAsked (query_with q.function o a.idn a.index a.selector q.length q.value) c)
    (sym (eqb-true a.opcode 6 both.0))
    (subst
    (λ (d : ℕ). query_code n p may (query_with q.function 6 d a.index a.selector q.length q.value) ≡ 0x00 →
    IsAsked (query_with q.function 6 d a.index a.selector q.length q.value) c)
    (sym (eqb-true a.idn 2 both.1))
    (λ zero. permanent_asked n p may q.function a.index a.selector q.length q.value c zero is)) e

-- a setting that the table passes is asked for
pub passed_is_asked : (n : Numbers) (p : Plain) (may : Bool) (q : Query) (c : Command) → setting_of q ≡ Some c →
    query_code n p may q ≡ 0x00 → IsAsked q c
passed_is_asked n p may q c is e = asked_by n p may q c (writes_boot q) (sets_permanent q) refl refl e is
