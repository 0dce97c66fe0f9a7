-- Before the device is mended no page is pending: all groups are repairs.
use Rattle.ftl_core.proofs.Common.{Entry, Ledger, List, Name, Option, PagesKept, Pending, Standing, [], ap, length}
use Rattle.ftl_core.proofs.Common.{names_after, names_pending, pending, ◌∷◌, ◌≡◌}
use Rattle.std.proofs.lemmas.List.{nil_from_length}
use Rattle.ftl_core.proofs.look_and_accept.Numbers.{none_pending}

-- no name is pending where all groups are repairs
pub no_names : (l : Ledger) → l.repairs ≡ length l.groups → names_pending l ≡ []
no_names l all = ap (names_after l.frontier) (nil_from_length (pending l) (none_pending l all))

-- and no page is to be kept then
pub none_kept : (standing : Standing) (entries : Name → Option Entry) (ps : List Pending) (names : List Name) →
    ps ≡ [] → names ≡ [] → PagesKept standing entries ps names
none_kept standing entries [] [] e f = tt
none_kept standing entries [] (name ∷ names) e f = cc
none_kept standing entries (p ∷ ps) names e f = cc
