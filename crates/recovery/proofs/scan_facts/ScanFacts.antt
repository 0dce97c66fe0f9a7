-- What was found over the table of all pages is what a scan finds that read the table before.
use Rattle.recovery.proofs.Common.{AreWithin, Cells, DieState, Fit, Found, IsTableOf, List, NoLower, Numbers, OpenFault}
use Rattle.recovery.proofs.Common.{ShowsDies, Table, length, subst, sym, ℕ, ◌≡◌}
use Rattle.ufs_spec.specs.declared.faults.OpenFault.TheVariants as fault
use Rattle.recovery.specs.Reading.{IsReadingFault}
use Rattle.recovery.specs.Scanned.{IsFaultOn, IsFoundOn, IsTableOver}
use Rattle.recovery.proofs.tables.Counts.{fault_later}
use Rattle.recovery.proofs.tables.Shown.{all_shown}
use Rattle.recovery.proofs.tables.Whole.{all_read, shown_within}

-- what was read of all dies is their table
pub table_of_all : (n : Numbers) (dies : List DieState) (t : Table) → Fit n dies →
    ((c : Cells) → AreWithin n c → ShowsDies 0 dies c → IsTableOf n 0 (length dies) c t) → IsTableOver n dies t
table_of_all n dies t fit h c shown =
    let within = shown_within n dies c fit shown in
    all_read n c within t
    (subst (λ (k : ℕ). IsTableOf n 0 k c t) fit.0 (h c within (all_shown dies c shown)))

-- the table of the dies as they were is that of the dies as they are
pub table_still : (n m : Numbers) (old new : List DieState) (t : Table) → n ≡ m → new ≡ old → IsTableOver n old t →
    IsTableOver m new t
table_still n m old new t is same h =
    subst (λ (k : Numbers). IsTableOver k new t) is (subst (λ (ds : List DieState). IsTableOver n ds t) (sym same) h)

pub found_before : (n : Numbers) (old new : List DieState) (f : Found) → new ≡ old → IsFoundOn n new f →
    IsFoundOn n old f
found_before n old new f same h = subst (λ (ds : List DieState). IsFoundOn n ds f) same h

-- a fault of the reading
pub reading_fault : (n : Numbers) (dies : List DieState) (before after : List ℕ) (e : OpenFault) →
    IsReadingFault before after e → IsFaultOn n dies before after e
reading_fault n dies before after fault.NoMemory h = λ cells shown. tt
reading_fault n dies before after (fault.ReadFault p) h = λ cells shown. h
reading_fault n dies before after fault.OtherConfig h = absurd h

-- a fault behind it
pub fault_behind : (n : Numbers) (old mid : List DieState) (a b d : List ℕ) (e : OpenFault) → mid ≡ old → NoLower a b →
    IsFaultOn n mid b d e → IsFaultOn n old a d e
fault_behind n old mid a b d fault.NoMemory same up h = λ cells shown. tt
fault_behind n old mid a b d (fault.ReadFault p) same up h =
    let here = subst (λ (ds : List DieState). IsFaultOn n ds b d (fault.ReadFault p)) same h in
    λ cells shown. fault_later a b d (fault.ReadFault p) up (here cells shown)
fault_behind n old mid a b d fault.OtherConfig same up h =
    subst (λ (ds : List DieState). IsFaultOn n ds b d fault.OtherConfig) same h
