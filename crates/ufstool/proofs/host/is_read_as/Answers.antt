use Rattle.std.proofs.Common.{◌≡◌, ◌∙◌, refl, rules, subst, sym, true, ℕ, Bool, Err, IfOk, List, Ok, Result}
use Rattle.std.proofs.lemmas.Bool.{false≢true}
use Rattle.std.specs.Result.{result_eq}
use Rattle.ufs_spec.specs.Cdbs.{SpellsCdb}
use Rattle.ufs_spec.specs.contracts.scsi.CdbPartialEq.TheImpl as commands
use Rattle.ufs_spec.specs.contracts.scsi.SensePartialEq.TheImpl as senses
use Rattle.ufs_spec.specs.declared.operations.Told.{Told}
use Rattle.ufs_spec.specs.declared.scsi.Cdb.{Cdb}
use Rattle.ufs_spec.specs.declared.scsi.Cdb.TheVariants as cdb
use Rattle.ufs_spec.specs.declared.scsi.Sense.{Sense}
use Rattle.ufstool.proofs.host.is_read_as.Goals as goal

-- the two compare as equal
abbrev Equal : Cdb → Cdb → Type 0
Equal c d = commands.eq-value.it c d ≡ true

-- ## Two commands of one kind that compare as equal are one

tell : (t r : Told) (s n a b : ℕ) → Equal (cdb.Tell t s n) (cdb.Tell r a b) → cdb.Tell t s n ≡ cdb.Tell r a b
tell t r s n a b e = search rules

read : (s n a b : ℕ) → Equal (cdb.Read s n) (cdb.Read a b) → cdb.Read s n ≡ cdb.Read a b
read s n a b e = search rules

write : (s n a b : ℕ) (f g : Bool) → Equal (cdb.Write s n f) (cdb.Write a b g) → cdb.Write s n f ≡ cdb.Write a b g
write s n a b f g e = search rules

flush : (f g : Bool) → Equal (cdb.Flush f) (cdb.Flush g) → cdb.Flush f ≡ cdb.Flush g
flush f g e = search rules

verify : (s n a b : ℕ) (f g : Bool) → Equal (cdb.Verify s n f) (cdb.Verify a b g) → cdb.Verify s n f ≡ cdb.Verify a b g
verify s n a b f g e = search rules

prefetch : (s n a b : ℕ) → Equal (cdb.Prefetch s n) (cdb.Prefetch a b) → cdb.Prefetch s n ≡ cdb.Prefetch a b
prefetch s n a b e = search rules

diagnose : (f g : Bool) → Equal (cdb.Diagnose f) (cdb.Diagnose g) → cdb.Diagnose f ≡ cdb.Diagnose g
diagnose f g e = search rules

unmap : (s a : ℕ) → Equal (cdb.Unmap s) (cdb.Unmap a) → cdb.Unmap s ≡ cdb.Unmap a
unmap s a e = search rules

security_in : (s n a b : ℕ) → Equal (cdb.SecurityIn s n) (cdb.SecurityIn a b) → cdb.SecurityIn s n ≡ cdb.SecurityIn a b
security_in s n a b e = search rules

security_out : (s n a b : ℕ) → Equal (cdb.SecurityOut s n) (cdb.SecurityOut a b) →
    cdb.SecurityOut s n ≡ cdb.SecurityOut a b
security_out s n a b e = search rules

-- those of two kinds do not
same : (c d : Cdb) → Equal c d → c ≡ d
same cdb.Nothing cdb.Nothing e = refl
same (cdb.Tell t s n) (cdb.Tell r a b) e = tell t r s n a b e
same (cdb.Read s n) (cdb.Read a b) e = read s n a b e
same (cdb.Write s n f) (cdb.Write a b g) e = write s n a b f g e
same (cdb.Flush f) (cdb.Flush g) e = flush f g e
same (cdb.Verify s n f) (cdb.Verify a b g) e = verify s n a b f g e
same (cdb.Prefetch s n) (cdb.Prefetch a b) e = prefetch s n a b e
same (cdb.Diagnose f) (cdb.Diagnose g) e = diagnose f g e
same (cdb.Unmap s) (cdb.Unmap a) e = unmap s a e
same (cdb.SecurityIn s n) (cdb.SecurityIn a b) e = security_in s n a b e
same (cdb.SecurityOut s n) (cdb.SecurityOut a b) e = security_out s n a b e
same c d e = absurd (false≢true e)

-- ## What is read is spelled so

spelled : (r : Result Cdb Sense) (meaning : Cdb) (bytes : List ℕ) → IfOk r (λ c. SpellsCdb c bytes) →
    result_eq commands.eq-value.it senses.eq-value.it r (Ok meaning) ≡ true → SpellsCdb meaning bytes
spelled (Ok c) meaning bytes holds e = subst (λ (d : Cdb). SpellsCdb d bytes) (same c meaning e) holds
spelled (Err s) meaning bytes holds e = absurd (false≢true e)

pub returns : goal.returns
returns c =
    λ is. spelled c.read.result c.args.meaning.now c.args.cdb.now c.read.ensures.read (sym c.eq.ensures ∙ is)
