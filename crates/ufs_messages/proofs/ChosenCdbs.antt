-- The commands that an operation code chooses: their numbers fit, and the sixteen bytes of those on blocks spell them.
use Rattle.std.proofs.Common.{◌≡◌, ◌<◌, ◌^◌, ◌==◌, ◌&&◌, ◌∙◌, ℕ, Bool, IfSome, List, Option, None, Some, ap, arith}
use Rattle.std.proofs.Common.{drop, false, if◌then◌else◌, nat_le, nat_lt, refl, replicate, subst, sym, true}
use Rattle.std.proofs.lemmas.Bool.{and_parts, eqb-true, leb-true, ltb-true}
use Rattle.byteorder.specs.Numbers.{big_number-reads_back}
use Rattle.ufs_bytes.specs.Fields.{field_at}
use Rattle.ufs_spec.specs.CdbFields.{no_limit, selects_modes}
use Rattle.ufs_spec.specs.Cdbs.{IsCdb, SpellsCdb, blocks_of, option_byte, selects_operations}
use Rattle.ufs_spec.specs.declared.operations.TheConstants.{INQUIRY, MAINTENANCE_IN, MODE_SENSE_10, MODE_SENSE_6}
use Rattle.ufs_spec.specs.declared.operations.TheConstants.{PRE_FETCH_16, READ_16, READ_CAPACITY_10, REPORT_LUNS}
use Rattle.ufs_spec.specs.declared.operations.TheConstants.{REQUEST_SENSE, SEND_DIAGNOSTIC, SERVICE_ACTION_IN_16}
use Rattle.ufs_spec.specs.declared.operations.TheConstants.{SYNCHRONIZE_CACHE_16, TEST_UNIT_READY, WRITE_16}
use Rattle.ufs_spec.specs.declared.operations.Told.TheVariants as told
use Rattle.ufs_spec.specs.declared.scsi.Cdb.{Cdb}
use Rattle.ufs_spec.specs.declared.scsi.Cdb.TheVariants.{Diagnose, Flush, Nothing, Prefetch, Read, Tell, Write}
use Rattle.ufs_messages.specs.Commands.{asked_cdb, long_cdb, long_option, selected_cdb, selects_pages, sixteen_bytes}

-- what holds of the command where the test is met, and of what comes else
chosen : (P : Cdb → Type 0) (b : Bool) (c : Cdb) (other : Option Cdb) → (b ≡ true → P c) → IfSome other P →
    IfSome (if b then Some c else other) P
chosen P true c other right holds = right refl
chosen P false c other right holds = holds

-- ## What is asked

-- the numbers of the command that asks fit its fields
pub asked_fits : (operation allocation : ℕ) → allocation < 2 ^ 32 →
    IfSome (asked_cdb operation allocation) (λ (c : Cdb). IsCdb c)
asked_fits operation allocation few =
    chosen IsCdb (operation == TEST_UNIT_READY) Nothing _ (λ _. tt)
    (chosen IsCdb (operation == READ_CAPACITY_10) (Tell told.Capacity 0 no_limit) _ (λ _. (refl, refl))
    (chosen IsCdb (operation == REPORT_LUNS) (Tell told.Units 2 allocation) _ (λ _. (omega arith, few))
    (chosen IsCdb ((operation == INQUIRY) && nat_lt allocation 65536) (Tell told.Identity 0 allocation) _
    (λ is. (refl, ltb-true allocation 65536 (and_parts (operation == INQUIRY) (nat_lt allocation 65536) is).1))
    (chosen IsCdb ((operation == REQUEST_SENSE) && nat_lt allocation 256) (Tell told.Sense 0 allocation) _
    (λ is. (refl, ltb-true allocation 256 (and_parts (operation == REQUEST_SENSE) (nat_lt allocation 256) is).1))
    (chosen IsCdb (operation == SERVICE_ACTION_IN_16) (Tell told.LongCapacity 0 allocation) None (λ _. (refl, few))
    tt)))))

-- ## What is selected

-- a page of vital product data and a count of bytes, each with room in its field
page_fits : (operation select allocation : ℕ) →
    ((operation == INQUIRY) && (nat_lt select 256 && nat_lt allocation 65536)) ≡ true →
    (select < 2 ^ 8) × (allocation < 2 ^ 16)
page_fits operation select allocation is =
    let both = and_parts (operation == INQUIRY) (nat_lt select 256 && nat_lt allocation 65536) is in
    let parts = and_parts (nat_lt select 256) (nat_lt allocation 65536) both.1 in
    (ltb-true select 256 parts.0, ltb-true allocation 65536 parts.1)

-- mode pages and a count of bytes
modes_fit : (operation code select allocation most : ℕ) →
    ((operation == code) && (selects_pages select && nat_lt allocation most)) ≡ true →
    (selects_modes select ≡ true) × (select < 2 ^ 16) × (allocation < most)
modes_fit operation code select allocation most is =
    let both = and_parts (operation == code) (selects_pages select && nat_lt allocation most) is in
    let parts = and_parts (selects_pages select) (nat_lt allocation most) both.1 in
    let pages = and_parts (nat_lt select 65536) (selects_modes select) parts.0 in
    (pages.1, ltb-true select 65536 pages.0, ltb-true allocation most parts.1)

-- the numbers of the command that is selected fit its fields
pub selected_fits : (operation select allocation : ℕ) → select < 2 ^ 32 → allocation < 2 ^ 32 →
    IfSome (selected_cdb operation select allocation) (λ (c : Cdb). IsCdb c)
selected_fits operation select allocation short few =
    chosen IsCdb ((operation == INQUIRY) && (nat_lt select 256 && nat_lt allocation 65536))
    (Tell told.Page select allocation) _ (page_fits operation select allocation)
    (chosen IsCdb ((operation == MODE_SENSE_6) && (selects_pages select && nat_lt allocation 256))
    (Tell told.ShortModes select allocation) _ (modes_fit operation MODE_SENSE_6 select allocation 256)
    (chosen IsCdb ((operation == MODE_SENSE_10) && (selects_pages select && nat_lt allocation 65536))
    (Tell told.Modes select allocation) _ (modes_fit operation MODE_SENSE_10 select allocation 65536)
    (chosen IsCdb ((operation == REPORT_LUNS) && nat_le select 2) (Tell told.Units select allocation) _
    (λ is. (leb-true select 2 (and_parts (operation == REPORT_LUNS) (nat_le select 2) is).1, few))
    (chosen IsCdb ((operation == MAINTENANCE_IN) && selects_operations select)
    (Tell told.Operations select allocation) _
    (λ is. ((and_parts (operation == MAINTENANCE_IN) (selects_operations select) is).1, short, few))
    (chosen IsCdb ((operation == SEND_DIAGNOSTIC) && nat_lt select 2) (Diagnose (select == 1)) None (λ _. tt) tt)))))

-- ## Commands on blocks

-- the address and the blocks of sixteen bytes
sixteen_again : {X : Type 0} (make : ℕ → ℕ → X) (operation options address blocks : ℕ) → address < 2 ^ 64 →
    blocks < 2 ^ 32
    →
    make (field_at 8 2 (sixteen_bytes operation options address blocks))
    (field_at 4 10 (sixteen_bytes operation options address blocks))
    ≡ make address blocks
sixteen_again make operation options address blocks fits_address fits_blocks =
    let bytes : List ℕ = sixteen_bytes operation options address blocks in
    ap (λ (n : ℕ). make n (field_at 4 10 bytes)) (big_number-reads_back 8 address (drop 10 bytes) fits_address)
    ∙ ap (make address) (big_number-reads_back 4 blocks (replicate 2 0) fits_blocks)

-- the bytes with this operation code, with the option or without it, spell the command
abbrev pub IsLongOf : ℕ → ℕ → ℕ → Bool → Cdb → Type 0
IsLongOf operation address blocks option c =
    SpellsCdb c (sixteen_bytes operation (option_byte (long_option operation) option) address blocks)

read : (address blocks : ℕ) (option : Bool) → address < 2 ^ 64 → blocks < 2 ^ 32 →
    IsLongOf READ_16 address blocks option (Read address blocks)
read address blocks true a b = sixteen_again (λ n m. Some (Read n m)) READ_16 0x08 address blocks a b
read address blocks false a b = sixteen_again (λ n m. Some (Read n m)) READ_16 0x00 address blocks a b

write : (address blocks : ℕ) (option : Bool) → address < 2 ^ 64 → blocks < 2 ^ 32 →
    IsLongOf WRITE_16 address blocks option (Write address blocks option)
write address blocks true a b = sixteen_again (λ n m. Some (Write n m true)) WRITE_16 0x08 address blocks a b
write address blocks false a b = sixteen_again (λ n m. Some (Write n m false)) WRITE_16 0x00 address blocks a b

flush : (address blocks : ℕ) (option : Bool) → IsLongOf SYNCHRONIZE_CACHE_16 address blocks option (Flush option)
flush address blocks true = refl
flush address blocks false = refl

prefetch : (address blocks : ℕ) (option : Bool) → address < 2 ^ 64 → blocks < 2 ^ 32 →
    IsLongOf PRE_FETCH_16 address blocks option (Prefetch address blocks)
prefetch address blocks true a b = sixteen_again (λ n m. Some (Prefetch n m)) PRE_FETCH_16 0x02 address blocks a b
prefetch address blocks false a b = sixteen_again (λ n m. Some (Prefetch n m)) PRE_FETCH_16 0x00 address blocks a b

-- the same of a number that is the code
moved : (operation code address blocks : ℕ) (option : Bool) (c : Cdb) → (operation == code) ≡ true →
    IsLongOf code address blocks option c → IsLongOf operation address blocks option c
moved operation code address blocks option c is spells =
    subst (λ (n : ℕ). IsLongOf n address blocks option c) (sym (eqb-true operation code is)) spells

-- the bytes spell the command that the code chooses
pub long_spelled : (operation address blocks : ℕ) (option : Bool) → address < 2 ^ 64 → blocks < 2 ^ 32 →
    IfSome (long_cdb operation address blocks option) (λ (c : Cdb). IsLongOf operation address blocks option c)
long_spelled operation address blocks option a b =
    let Right : Cdb → Type 0 = λ c. IsLongOf operation address blocks option c in
    chosen Right ((operation == READ_16) && nat_lt blocks (2 ^ 20)) (Read address blocks) _
    (λ is.
    moved operation READ_16 address blocks option (Read address blocks)
    (and_parts (operation == READ_16) (nat_lt blocks (2 ^ 20)) is).0 (read address blocks option a b))
    (chosen Right ((operation == WRITE_16) && nat_lt blocks (2 ^ 20)) (Write address blocks option) _
    (λ is.
    moved operation WRITE_16 address blocks option (Write address blocks option)
    (and_parts (operation == WRITE_16) (nat_lt blocks (2 ^ 20)) is).0 (write address blocks option a b))
    (chosen Right (operation == SYNCHRONIZE_CACHE_16) (Flush option) _
    (λ is.
    moved operation SYNCHRONIZE_CACHE_16 address blocks option (Flush option) is (flush address blocks option))
    (chosen Right (operation == PRE_FETCH_16) (Prefetch address blocks) None
    (λ is.
    moved operation PRE_FETCH_16 address blocks option (Prefetch address blocks) is
    (prefetch address blocks option a b))
    tt)))

-- it reads or writes so few blocks that their bytes have a count
pub long_few : (operation address blocks : ℕ) (option : Bool) →
    IfSome (long_cdb operation address blocks option) (λ (c : Cdb). blocks_of c < 2 ^ 20)
long_few operation address blocks option =
    let Few : Cdb → Type 0 = λ c. blocks_of c < 2 ^ 20 in
    let zero_few : 0 < 2 ^ 20 = omega arith in
    chosen Few ((operation == READ_16) && nat_lt blocks (2 ^ 20)) (Read address blocks) _
    (λ is. ltb-true blocks (2 ^ 20) (and_parts (operation == READ_16) (nat_lt blocks (2 ^ 20)) is).1)
    (chosen Few ((operation == WRITE_16) && nat_lt blocks (2 ^ 20)) (Write address blocks option) _
    (λ is. ltb-true blocks (2 ^ 20) (and_parts (operation == WRITE_16) (nat_lt blocks (2 ^ 20)) is).1)
    (chosen Few (operation == SYNCHRONIZE_CACHE_16) (Flush option) _ (λ _. zero_few)
    (chosen Few (operation == PRE_FETCH_16) (Prefetch address blocks) None (λ _. zero_few) tt)))
