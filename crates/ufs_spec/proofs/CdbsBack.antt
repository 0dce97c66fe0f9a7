-- Each command is read back from the sixteen bytes in which a host writes it, so no two commands have the same.
use Rattle.std.proofs.Common.{◌≡◌, ◌<◌, ◌^◌, ℕ, true, false, List, drop, nat_le, nat_lt, Bool}
use Rattle.std.proofs.Common.{replicate, Some, None, cond, sym, ap, ◌∙◌, ◌&&◌, refl}
use Rattle.std.proofs.lemmas.Bool.{le-leb, lt-ltb}
use Rattle.byteorder.specs.Numbers.{big_number-reads_back}
use Rattle.ufs_bytes.specs.Fields.{field_at}
use Rattle.ufs_spec.proofs.Facts.{same_Some}
use Rattle.ufs_spec.specs.CdbFields.{selects_modes, spelled_cdb, taken_if}
use Rattle.ufs_spec.specs.Cdbs.{IsCdb, cdb_bytes, ten_bytes}
use Rattle.ufs_spec.specs.Plain.{regions}
use Rattle.ufs_spec.specs.declared.operations.TheConstants.{PRE_FETCH_10, READ_10, VERIFY_10, WRITE_10}
use Rattle.ufs_spec.specs.declared.operations.Told.TheVariants as told
use Rattle.ufs_spec.specs.declared.scsi.Cdb.{Cdb}
use Rattle.ufs_spec.specs.declared.scsi.Cdb.TheVariants as cdb

-- the address and the blocks of ten bytes
pub ten_again : {X : Type 0} (make : ℕ → ℕ → X) (operation options address blocks : ℕ) → address < 2 ^ 32 →
    blocks < 2 ^ 16
    →
    make (field_at 4 2 (ten_bytes operation options address blocks))
    (field_at 2 7 (ten_bytes operation options address blocks))
    ≡ make address blocks
ten_again make operation options address blocks fits_address fits_blocks =
    let bytes : List ℕ = ten_bytes operation options address blocks in
    ap (λ (n : ℕ). make n (field_at 2 7 bytes)) (big_number-reads_back 4 address (drop 6 bytes) fits_address)
    ∙ ap (make address) (big_number-reads_back 2 blocks (replicate 7 0) fits_blocks)

-- a command whose fields are right is taken
if_right : (b : Bool) (c : Cdb) → b ≡ true → taken_if b c ≡ Some c
if_right b c e = ap (λ (x : Bool). taken_if x c) e

-- the command that a command's bytes spell is that command
pub again : (c : Cdb) → IsCdb c → spelled_cdb (cdb_bytes c) ≡ Some c
again cdb.Nothing h = refl
again (cdb.Tell told.Sense select allocation) h =
    ap (λ (n : ℕ). Some (cdb.Tell told.Sense n allocation)) (sym h.0)
again (cdb.Tell told.Identity select allocation) h =
    ap (λ (n : ℕ). Some (cdb.Tell told.Identity 0 n)) (big_number-reads_back 2 allocation (replicate 11 0) h.1)
    ∙ ap (λ (n : ℕ). Some (cdb.Tell told.Identity n allocation)) (sym h.0)
again (cdb.Tell told.Capacity select allocation) h = λ i. Some (cdb.Tell told.Capacity (sym h.0 i) (sym h.1 i))
again (cdb.Tell told.Units select allocation) h =
    ap (λ (n : ℕ). taken_if (nat_le select 2) (cdb.Tell told.Units select n))
    (big_number-reads_back 4 allocation (replicate 6 0) h.1)
    ∙ if_right (nat_le select 2) (cdb.Tell told.Units select allocation) (le-leb select 2 h.0)
again (cdb.Tell told.LongCapacity select allocation) h =
    ap (λ (n : ℕ). Some (cdb.Tell told.LongCapacity 0 n)) (big_number-reads_back 4 allocation (replicate 2 0) h.1)
    ∙ ap (λ (n : ℕ). Some (cdb.Tell told.LongCapacity n allocation)) (sym h.0)
again (cdb.Tell told.Page select allocation) h =
    ap (λ (n : ℕ). Some (cdb.Tell told.Page select n)) (big_number-reads_back 2 allocation (replicate 11 0) h.1)
again (cdb.Tell told.Modes select allocation) h =
    let bytes : List ℕ = cdb_bytes (cdb.Tell told.Modes select allocation) in
    ap (λ (n : ℕ). taken_if (selects_modes n) (cdb.Tell told.Modes n (field_at 2 7 bytes)))
    (big_number-reads_back 2 select (drop 4 bytes) h.1)
    ∙ ap (λ (n : ℕ). taken_if (selects_modes select) (cdb.Tell told.Modes select n))
    (big_number-reads_back 2 allocation (replicate 7 0) h.2)
    ∙ if_right (selects_modes select) (cdb.Tell told.Modes select allocation) h.0
again (cdb.Tell told.ShortModes select allocation) h =
    let bytes : List ℕ = cdb_bytes (cdb.Tell told.ShortModes select allocation) in
    ap (λ (n : ℕ). taken_if (selects_modes n) (cdb.Tell told.ShortModes n allocation))
    (big_number-reads_back 2 select (drop 4 bytes) h.1)
    ∙ if_right (selects_modes select) (cdb.Tell told.ShortModes select allocation) h.0
again (cdb.Tell told.Operations select allocation) h =
    let bytes : List ℕ = cdb_bytes (cdb.Tell told.Operations select allocation) in
    let all : Cdb = cdb.Tell told.Operations (field_at 4 2 bytes) (field_at 4 6 bytes) in
    ap (λ (b : Bool). cond (b && true) (Some all) None) h.0
    ∙ ap (λ (n : ℕ). Some (cdb.Tell told.Operations n (field_at 4 6 bytes)))
    (big_number-reads_back 4 select (drop 6 bytes) h.1)
    ∙ ap (λ (n : ℕ). Some (cdb.Tell told.Operations select n)) (big_number-reads_back 4 allocation (replicate 6 0) h.2)
again (cdb.Read address blocks) h =
    ten_again (λ n m. Some (cdb.Read n m)) READ_10 0x00 address blocks h.0 h.1
again (cdb.Write address blocks true) h =
    ten_again (λ n m. Some (cdb.Write n m true)) WRITE_10 0x08 address blocks h.0 h.1
again (cdb.Write address blocks false) h =
    ten_again (λ n m. Some (cdb.Write n m false)) WRITE_10 0x00 address blocks h.0 h.1
again (cdb.Flush true) h = refl
again (cdb.Flush false) h = refl
again (cdb.Verify address blocks true) h =
    ten_again (λ n m. Some (cdb.Verify n m true)) VERIFY_10 0x02 address blocks h.0 h.1
again (cdb.Verify address blocks false) h =
    ten_again (λ n m. Some (cdb.Verify n m false)) VERIFY_10 0x00 address blocks h.0 h.1
again (cdb.Prefetch address blocks) h =
    ten_again (λ n m. Some (cdb.Prefetch n m)) PRE_FETCH_10 0x00 address blocks h.0 h.1
again (cdb.Diagnose true) h = refl
again (cdb.Diagnose false) h = refl
again (cdb.Unmap list) h = ap (λ (n : ℕ). Some (cdb.Unmap n)) (big_number-reads_back 2 list (replicate 7 0) h)
again (cdb.SecurityIn region length) h =
    ap (λ (n : ℕ). taken_if (nat_lt region regions) (cdb.SecurityIn region n))
    (big_number-reads_back 4 length (replicate 6 0) h.1)
    ∙ if_right (nat_lt region regions) (cdb.SecurityIn region length) (lt-ltb region regions h.0)
again (cdb.SecurityOut region length) h =
    ap (λ (n : ℕ). taken_if (nat_lt region regions) (cdb.SecurityOut region n))
    (big_number-reads_back 4 length (replicate 6 0) h.1)
    ∙ if_right (nat_lt region regions) (cdb.SecurityOut region length) (lt-ltb region regions h.0)

-- two commands of the same bytes are one
pub one_cdb : (c d : Cdb) → IsCdb c → IsCdb d → cdb_bytes c ≡ cdb_bytes d → c ≡ d
one_cdb c d h k e = same_Some c d (sym (again c h) ∙ ap spelled_cdb e ∙ again d k)
