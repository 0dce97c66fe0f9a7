-- What a device of profile 0 takes of a WRITE: all of its blocks.
use Rattle.std.specs.Prelude.{ℕ, ◌*◌, ◌/◌, ◌%◌, ◌==◌, ◌<◌, ◌≤◌, ◌≡◌, ◌&&◌, ◌||◌, Bool, true, false, nat_lt, not}
use Rattle.std.specs.Prelude.{Some, None}
use Rattle.std.proofs.Math.Nat.{div-add-mod}
use Rattle.ufs_laws.proofs.Common.{Request, State, ap, arith, false≢true, numbers_of}
use Rattle.ufs_laws.proofs.Common.{refl, refusal, sym}
use Rattle.ufs_laws.proofs.exchanges.TasksSpeak.{data_there}
use Rattle.std.proofs.lemmas.Bool.{ltb-false}
use Rattle.ufs_spec.specs.Refusals.{blocks_brought, direction_flag}
use Rattle.ufs_spec.specs.declared.scsi.Cdb.TheVariants as cdb

-- a WRITE of some bytes that passes brings them all, if it may not be cut
all_sent : (some other cut few : Bool) → some && (other || (not cut && few)) ≡ false → some ≡ true → cut ≡ false →
    few ≡ false
all_sent true false false few h e k = h
all_sent true true cut few h e k = absurd (false≢true (sym h))
all_sent true false true few h e k = absurd (false≢true (sym k))
all_sent false other cut few h e k = absurd (false≢true e)

enough : (expected blocks : ℕ) → blocks * 4096 ≤ expected → blocks_brought expected blocks ≡ blocks
enough expected blocks low =
    let part = div-add-mod expected 4096 in
    let rest : expected % 4096 < 4096 = omega arith in
    let most : blocks ≤ expected / 4096 = omega arith in
    grind arith

pub all_come : (s : State) (r : Request) (address blocks : ℕ) (forced : Bool) → (numbers_of s).profile ≡ 0 →
    r.cdb ≡ Some (cdb.Write address blocks forced) → refusal s r ≡ None → blocks_brought r.expected blocks ≡ blocks
all_come s r address blocks forced older e passed = by (nat_lt 0 (blocks * 4096)) refl
  where
    by : (b : Bool) → nat_lt 0 (blocks * 4096) ≡ b → blocks_brought r.expected blocks ≡ blocks
    by false none = let low = ltb-false 0 (blocks * 4096) none in enough r.expected blocks (omega arith)
    by true some = enough r.expected blocks (ltb-false r.expected (blocks * 4096)
        (all_sent (nat_lt 0 (blocks * 4096)) (not (direction_flag r == 0x20)) (nat_lt 0 (numbers_of s).profile)
        (nat_lt r.expected (blocks * 4096)) (data_there s r (cdb.Write address blocks forced) e passed) some
        (ap (nat_lt 0) older)))
