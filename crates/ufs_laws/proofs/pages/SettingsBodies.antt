-- What a settings page says, read back.
use Rattle.ufs_laws.proofs.Common.{All-replicate, AreBytes, AreSettings, Bool, IsBlock, IsKeyAndCounter, IsSettingsBody}
use Rattle.ufs_laws.proofs.Common.{KeyAndCounter, List, None, Option, Some, [], ap, arith, big_bytes, big_number}
use Rattle.ufs_laws.proofs.Common.{big_number-reads_back, drop, drop-drop, drop_at, false, field_at, if◌then◌else◌}
use Rattle.ufs_laws.proofs.Common.{length, length-append, length-replicate, refl, regions, replicate, said_in, said_of}
use Rattle.ufs_laws.proofs.Common.{slice_index, subst, suc, sym, take, true, zero, ℕ, ◌++◌, ◌+◌, ◌-◌, ◌<◌, ◌==◌, ◌∙◌}
use Rattle.ufs_laws.proofs.Common.{◌∷◌, ◌≡◌, ◌≤◌}
use Rattle.std.proofs.Common.{append_assoc}
use Rattle.std.proofs.lemmas.List.{replicate-append-replicate, take_at}
use Rattle.ufs_spec.specs.Keys.{counter_in, first_bytes, flag_byte, forty_bytes, key_bytes, key_flag, key_in, key_named}
use Rattle.ufs_spec.specs.Keys.{region_bytes, settings_bytes}
use Rattle.ufs_spec.specs.Pages.{zero_filled}
use Rattle.ufs_spec.specs.Plain.{zero_block}
use Rattle.ufs_laws.proofs.pages.ByteLists.{bytes-append, bytes-cons, bytes-filled, bytes-number, bytes-zeros}
use Rattle.ufs_laws.proofs.pages.ByteLists.{length-filled}

-- Forty bytes

length-key : (r : KeyAndCounter) → IsKeyAndCounter r → length (key_bytes r.key) ≡ 32
length-key r h = by r.key h.key_length
  where
    by : (key : Option (List ℕ)) → ((bytes : List ℕ) → key ≡ Some bytes → (length bytes ≡ 32) × AreBytes bytes) →
        length (key_bytes key) ≡ 32
    by None h = refl
    by (Some bytes) h = (h bytes refl).0

bytes-key : (r : KeyAndCounter) → IsKeyAndCounter r → AreBytes (key_bytes r.key)
bytes-key r h = by r.key h.key_length
  where
    by : (key : Option (List ℕ)) → ((bytes : List ℕ) → key ≡ Some bytes → (length bytes ≡ 32) × AreBytes bytes) →
        AreBytes (key_bytes key)
    by None h = bytes-zeros 32
    by (Some bytes) h = (h bytes refl).1

pub flag_fits : (flag : Bool) → flag_byte flag < 256
flag_fits true = omega arith
flag_fits false = omega arith

key_flag_fits : (key : Option (List ℕ)) → key_flag key < 256
key_flag_fits None = omega arith
key_flag_fits (Some bytes) = omega arith

-- four bytes, and a key and a counter behind them
length-forty : (four : List ℕ) (r : KeyAndCounter) → length four ≡ 4 → IsKeyAndCounter r →
    length (forty_bytes four r) ≡ 40
length-forty four r short h =
    let key = length-key r h in
    let front = length-append four (key_bytes r.key) in
    let all = length-append (four ++ key_bytes r.key) (big_bytes 4 r.counter) in
    omega (arith, key, short, front, all)

bytes-forty : (four : List ℕ) (r : KeyAndCounter) → AreBytes four → IsKeyAndCounter r → AreBytes (forty_bytes four r)
bytes-forty four r are h =
    bytes-append (four ++ key_bytes r.key) (big_bytes 4 r.counter)
    (bytes-append four (key_bytes r.key) are (bytes-key r h)) (bytes-number 4 r.counter)

-- four bytes of which this one is the flag of the key
pub record HasFlag (place : ℕ) (four : List ℕ) (r : KeyAndCounter) : Type 0 where
  pub short : length four ≡ 4
  pub flag : (rest : List ℕ) → slice_index (four ++ rest) place ≡ key_flag r.key

-- the parts of forty bytes with more behind them
parted : (four : List ℕ) (r : KeyAndCounter) (rest : List ℕ) →
    forty_bytes four r ++ rest ≡ four ++ (key_bytes r.key ++ (big_bytes 4 r.counter ++ rest))
parted four r rest =
    append_assoc (four ++ key_bytes r.key) (big_bytes 4 r.counter) rest
    ∙ append_assoc four (key_bytes r.key) (big_bytes 4 r.counter ++ rest)

-- the key and the counter of forty bytes are read back, whatever is behind them
module _ (place : ℕ) (four : List ℕ) (r : KeyAndCounter) (rest : List ℕ) (has : HasFlag place four r)
    (h : IsKeyAndCounter r) where
  abbrev behind_four : List ℕ
  behind_four = key_bytes r.key ++ (big_bytes 4 r.counter ++ rest)

  key_there : drop 4 (four ++ behind_four) ≡ behind_four
  key_there = drop_at four behind_four 4 has.short

  named : (key : Option (List ℕ)) → length (key_bytes key) ≡ 32 → (flag : ℕ) → flag ≡ key_flag key →
      (if flag == 1 then Some (take 32 (key_bytes key ++ (big_bytes 4 r.counter ++ rest))) else None) ≡ key
  named None long flag e =
      ap (λ (f : ℕ). if f == 1 then Some (take 32 (key_bytes None ++ (big_bytes 4 r.counter ++ rest))) else None) e
  named (Some bytes) long flag e =
      ap (λ (f : ℕ). if f == 1 then Some (take 32 (bytes ++ (big_bytes 4 r.counter ++ rest))) else None) e
      ∙ ap Some (take_at bytes (big_bytes 4 r.counter ++ rest) 32 long)

  pub key_said : key_named place (forty_bytes four r ++ rest) ≡ r.key
  key_said =
      ap (key_named place) (parted four r rest)
      ∙ ap (λ (bs : List ℕ). if slice_index (four ++ behind_four) place == 1 then Some (take 32 bs) else None) key_there
      ∙ named r.key (length-key r h) (slice_index (four ++ behind_four) place) (has.flag behind_four)

  pub counter_said : field_at 4 36 (forty_bytes four r ++ rest) ≡ r.counter
  counter_said =
      let front = length-append four (key_bytes r.key) in
      let long : length (four ++ key_bytes r.key) ≡ 36 = omega (arith, front, has.short, length-key r h) in
      ap (λ (bs : List ℕ). big_number 4 (drop 36 bs))
      (append_assoc (four ++ key_bytes r.key) (big_bytes 4 r.counter) rest)
      ∙ (ap (big_number 4) (drop_at (four ++ key_bytes r.key) (big_bytes 4 r.counter ++ rest) 36 long)
      ∙ big_number-reads_back 4 r.counter rest h.counter_fits)

-- the four bytes of region 0, and of the others
abbrev four_of_first : ℕ → Bool → KeyAndCounter → List ℕ
four_of_first boot permanent r = boot ∷ flag_byte permanent ∷ key_flag r.key ∷ 0 ∷ []

abbrev four_of_other : KeyAndCounter → List ℕ
four_of_other r = key_flag r.key ∷ 0 ∷ 0 ∷ 0 ∷ []

first_has : (boot : ℕ) (permanent : Bool) (r : KeyAndCounter) → HasFlag 2 (four_of_first boot permanent r) r
first_has boot permanent r = record { short = refl; flag = λ rest. refl }

other_has : (r : KeyAndCounter) → HasFlag 0 (four_of_other r) r
other_has r = record { short = refl; flag = λ rest. refl }

-- The page

-- four lists with a fifth behind them
four_parts : (a b c d rest : List ℕ) → (a ++ b ++ c ++ d) ++ rest ≡ a ++ (b ++ (c ++ (d ++ rest)))
four_parts a b c d rest =
    append_assoc (a ++ b ++ c) d rest ∙ append_assoc (a ++ b) c (d ++ rest) ∙ append_assoc a b (c ++ (d ++ rest))

-- what a body says of a region
pub said_there : (body : List ℕ) (region : ℕ) → region < regions →
    said_of (said_in body) region ≡ record { key = key_in region body; counter = counter_in region body }
said_there body zero l = refl
said_there body (suc zero) l = refl
said_there body (suc (suc zero)) l = refl
said_there body (suc (suc (suc zero))) l = refl
said_there body (suc (suc (suc (suc region)))) l = absurd (omega (arith, l))

-- what is said of a region is in its ranges
pub said_right : (boot : ℕ) (said : List KeyAndCounter) → AreSettings boot said → (region : ℕ) → region < regions →
    IsKeyAndCounter (said_of said region)
said_right boot said h region there =
    h.each region (record { key = None; counter = 0 }) (omega (arith, there, h.count))

module _ (boot : ℕ) (permanent : Bool) (said : List KeyAndCounter) (h : AreSettings boot said) where
  abbrev first : List ℕ
  first = first_bytes boot permanent (said_of said 0)

  abbrev forty : ℕ → List ℕ
  forty region = region_bytes (said_of said region)

  abbrev front : List ℕ
  front = first ++ forty 1 ++ forty 2 ++ forty 3

  abbrev fill : List ℕ
  fill = replicate (4096 - length front) 0

  right : (region : ℕ) → region < regions → IsKeyAndCounter (said_of said region)
  right = said_right boot said h

  length-first : length first ≡ 40
  length-first = length-forty (four_of_first boot permanent (said_of said 0)) (said_of said 0) refl
      (right 0 (omega arith))

  length-other : (region : ℕ) → region < regions → length (forty region) ≡ 40
  length-other region there =
      length-forty (four_of_other (said_of said region)) (said_of said region) refl (right region there)

  bytes-first : AreBytes first
  bytes-first = bytes-forty (four_of_first boot permanent (said_of said 0)) (said_of said 0)
      (bytes-cons boot (flag_byte permanent ∷ key_flag (said_of said 0).key ∷ 0 ∷ []) (omega (arith, h.boot_bound))
      (bytes-cons (flag_byte permanent) (key_flag (said_of said 0).key ∷ 0 ∷ []) (flag_fits permanent)
      (bytes-cons (key_flag (said_of said 0).key) (0 ∷ []) (key_flag_fits (said_of said 0).key)
      (bytes-zeros 1)))) (right 0 (omega arith))

  bytes-other : (region : ℕ) → region < regions → AreBytes (forty region)
  bytes-other region there = bytes-forty (four_of_other (said_of said region)) (said_of said region)
      (bytes-cons (key_flag (said_of said region).key) (0 ∷ 0 ∷ 0 ∷ []) (key_flag_fits (said_of said region).key)
      (bytes-zeros 3)) (right region there)

  pub settings_block : IsBlock (settings_bytes boot permanent said)
  settings_block =
      let one = length-append first (forty 1) in
      let two = length-append (first ++ forty 1) (forty 2) in
      let three = length-append (first ++ forty 1 ++ forty 2) (forty 3) in
      let short : length front ≤ 4096 = omega (
        arith,
        one,
        two,
        three,
        length-first,
        length-other 1 (omega arith),
        length-other 2 (omega arith),
        length-other 3 (omega arith),
      ) in
      let bytes : AreBytes front =
      bytes-append (first ++ forty 1 ++ forty 2) (forty 3)
      (bytes-append (first ++ forty 1) (forty 2)
      (bytes-append first (forty 1) bytes-first (bytes-other 1 (omega arith))) (bytes-other 2 (omega arith)))
      (bytes-other 3 (omega arith)) in
      (length-filled 4096 front short, bytes-filled 4096 front bytes)

  -- the page from the forty bytes of each region on
  page : settings_bytes boot permanent said ≡ first ++ (forty 1 ++ (forty 2 ++ (forty 3 ++ fill)))
  unfolding zero_filled
  page = four_parts first (forty 1) (forty 2) (forty 3) fill

  from_1 : drop 40 (settings_bytes boot permanent said) ≡ forty 1 ++ (forty 2 ++ (forty 3 ++ fill))
  from_1 = ap (drop 40) page ∙ drop_at first (forty 1 ++ (forty 2 ++ (forty 3 ++ fill))) 40 length-first

  from_2 : drop 80 (settings_bytes boot permanent said) ≡ forty 2 ++ (forty 3 ++ fill)
  from_2 =
      sym (drop-drop 40 40 (settings_bytes boot permanent said)) ∙ ap (drop 40) from_1
      ∙ drop_at (forty 1) (forty 2 ++ (forty 3 ++ fill)) 40 (length-other 1 (omega arith))

  from_3 : drop 120 (settings_bytes boot permanent said) ≡ forty 3 ++ fill
  from_3 =
      sym (drop-drop 40 80 (settings_bytes boot permanent said)) ∙ ap (drop 40) from_2
      ∙ drop_at (forty 2) (forty 3 ++ fill) 40 (length-other 2 (omega arith))

  boot_back : slice_index (settings_bytes boot permanent said) 0 ≡ boot
  unfolding zero_filled
  boot_back = refl

  flag_back : slice_index (settings_bytes boot permanent said) 1 ≡ flag_byte permanent
  unfolding zero_filled
  flag_back = refl

  key_back : (region : ℕ) → region < regions →
      key_in region (settings_bytes boot permanent said) ≡ (said_of said region).key
  key_back zero there =
      ap (key_named 2) page
      ∙ key_said 2 (four_of_first boot permanent (said_of said 0)) (said_of said 0)
      (forty 1 ++ (forty 2 ++ (forty 3 ++ fill))) (first_has boot permanent (said_of said 0)) (right 0 (omega arith))
  key_back (suc zero) there =
      ap (key_named 0) from_1
      ∙ key_said 0 (four_of_other (said_of said 1)) (said_of said 1) (forty 2 ++ (forty 3 ++ fill))
      (other_has (said_of said 1)) (right 1 (omega arith))
  key_back (suc (suc zero)) there =
      ap (key_named 0) from_2
      ∙ key_said 0 (four_of_other (said_of said 2)) (said_of said 2) (forty 3 ++ fill)
      (other_has (said_of said 2)) (right 2 (omega arith))
  key_back (suc (suc (suc zero))) there =
      ap (key_named 0) from_3
      ∙ key_said 0 (four_of_other (said_of said 3)) (said_of said 3) fill (other_has (said_of said 3))
      (right 3 (omega arith))
  key_back (suc (suc (suc (suc region)))) there = absurd (omega (arith, there))

  counter_back : (region : ℕ) → region < regions →
      counter_in region (settings_bytes boot permanent said) ≡ (said_of said region).counter
  counter_back zero there =
      ap (field_at 4 36) page
      ∙ counter_said 2 (four_of_first boot permanent (said_of said 0)) (said_of said 0)
      (forty 1 ++ (forty 2 ++ (forty 3 ++ fill))) (first_has boot permanent (said_of said 0)) (right 0 (omega arith))
  counter_back (suc zero) there =
      ap (field_at 4 36) from_1
      ∙ counter_said 0 (four_of_other (said_of said 1)) (said_of said 1) (forty 2 ++ (forty 3 ++ fill))
      (other_has (said_of said 1)) (right 1 (omega arith))
  counter_back (suc (suc zero)) there =
      ap (field_at 4 36) from_2
      ∙ counter_said 0 (four_of_other (said_of said 2)) (said_of said 2) (forty 3 ++ fill)
      (other_has (said_of said 2)) (right 2 (omega arith))
  counter_back (suc (suc (suc zero))) there =
      ap (field_at 4 36) from_3
      ∙ counter_said 0 (four_of_other (said_of said 3)) (said_of said 3) fill (other_has (said_of said 3))
      (right 3 (omega arith))
  counter_back (suc (suc (suc (suc region)))) there = absurd (omega (arith, there))

-- What a body of settings says

permanent_of : (body : List ℕ) (permanent : Bool) → slice_index body 1 ≡ flag_byte permanent →
    (slice_index body 1 == 1) ≡ permanent
permanent_of body true e = ap (λ (b : ℕ). b == 1) e
permanent_of body false e = ap (λ (b : ℕ). b == 1) e

-- four in a list are what it says of each region
four_said : (said : List KeyAndCounter) → length said ≡ regions →
    said ≡ said_of said 0 ∷ said_of said 1 ∷ said_of said 2 ∷ said_of said 3 ∷ []
four_said (a ∷ b ∷ c ∷ d ∷ []) e = refl
four_said [] e = absurd (omega (arith, e))
four_said (a ∷ []) e = absurd (omega (arith, e))
four_said (a ∷ b ∷ []) e = absurd (omega (arith, e))
four_said (a ∷ b ∷ c ∷ []) e = absurd (omega (arith, e))
four_said (a ∷ b ∷ c ∷ d ∷ x ∷ more) e = absurd (omega (arith, e))

pub record ReadsBack (body : List ℕ) (boot : ℕ) (permanent : Bool) (said : List KeyAndCounter) : Type 0 where
  pub boot_is : slice_index body 0 ≡ boot
  pub permanent_is : (slice_index body 1 == 1) ≡ permanent
  pub said_is : said_in body ≡ said

pub read_back : (boot : ℕ) (permanent : Bool) (said : List KeyAndCounter) → AreSettings boot said →
    ReadsBack (settings_bytes boot permanent said) boot permanent said
read_back boot permanent said h =
    let body : List ℕ = settings_bytes boot permanent said in
    let each : (region : ℕ) → region < regions →
    record { key = key_in region body; counter = counter_in region body } ≡ said_of said region =
    λ region there i. record {
      key = key_back boot permanent said h region there i;
      counter = counter_back boot permanent said h region there i;
    } in
    let zeroth = each 0 (omega arith) in
    let one = each 1 (omega arith) in
    let two = each 2 (omega arith) in
    let three = each 3 (omega arith) in
    let all : said_in body ≡ said_of said 0 ∷ said_of said 1 ∷ said_of said 2 ∷ said_of said 3 ∷ [] =
    λ i. zeroth i ∷ one i ∷ two i ∷ three i ∷ [] in
    record {
      boot_is = boot_back boot permanent said h;
      permanent_is = permanent_of body permanent (flag_back boot permanent said h);
      said_is = all ∙ sym (four_said said h.count);
    }

-- what a body of settings says of protection
pub permanent_back : (boot : ℕ) (permanent : Bool) (said : List KeyAndCounter) → AreSettings boot said →
    (slice_index (settings_bytes boot permanent said) 1 == 1) ≡ permanent
permanent_back boot permanent said h = (read_back boot permanent said h).permanent_is

back_of : (body : List ℕ) (h : IsSettingsBody body) → ReadsBack body h.boot h.permanent h.said
back_of body h =
    subst (λ (b : List ℕ). ReadsBack b h.boot h.permanent h.said) (sym h.bytes)
    (read_back h.boot h.permanent h.said h.ranges)

-- what is read of a body of settings is in its ranges
pub ranges_read : (body : List ℕ) → IsSettingsBody body → AreSettings (slice_index body 0) (said_in body)
ranges_read body h =
    let back = back_of body h in
    subst (λ (s : List KeyAndCounter). AreSettings (slice_index body 0) s) (sym back.said_is)
    (subst (λ (b : ℕ). AreSettings b h.said) (sym back.boot_is) h.ranges)

-- the settings that are read of a body are those of the body
pub written_again : (body : List ℕ) → IsSettingsBody body →
    settings_bytes (slice_index body 0) (slice_index body 1 == 1) (said_in body) ≡ body
written_again body h =
    let back = back_of body h in
    ap (λ (b : ℕ). settings_bytes b (slice_index body 1 == 1) (said_in body)) back.boot_is
    ∙ (ap (λ (b : Bool). settings_bytes h.boot b (said_in body)) back.permanent_is
    ∙ (ap (settings_bytes h.boot h.permanent) back.said_is ∙ sym h.bytes))

-- Zero settings

zeros_filled : (n k : ℕ) → k ≤ n → zero_filled n (replicate k 0) ≡ replicate n 0
unfolding zero_filled
zeros_filled n k h =
    let long = length-replicate {A = ℕ} k 0 in
    let sum : k + (n - length {A = ℕ} (replicate k 0)) ≡ n = omega arith in
    replicate-append-replicate {A = ℕ} k (n - length {A = ℕ} (replicate k 0)) 0
    ∙ ap (λ (m : ℕ). replicate {A = ℕ} m 0) sum

zero_block_filled : zero_filled 4096 (replicate 160 0) ≡ zero_block
unfolding zero_block
zero_block_filled = zeros_filled 4096 160 (omega arith)

-- no key and no write in any region
abbrev pub none_said : List KeyAndCounter
none_said = replicate regions (record { key = None; counter = 0 })

pub none_in_ranges : AreSettings 0 none_said
none_in_ranges = record {
  boot_bound = omega arith;
  count = refl;
  each = All-replicate IsKeyAndCounter regions (record { key = None; counter = 0 }) (record {
    key_length = λ bytes e. absurd (let h : None ≡ Some bytes = e in cc);
    counter_fits = omega arith;
  });
}

pub zero_settings : settings_bytes 0 false none_said ≡ zero_block
zero_settings = zero_block_filled
