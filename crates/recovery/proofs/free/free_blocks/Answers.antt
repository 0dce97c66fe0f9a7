use Rattle.recovery.proofs.Common.{IfOk-weaker, IsNewestMark, Mark, None, Option, ap, is_free_in, mark_of, subst, sym}
use Rattle.recovery.proofs.Common.{◌≡◌}
use Rattle.std.proofs.Common.{option_map}
use Rattle.recovery.specs.Frees.{AreFoundFree}
use Rattle.recovery.proofs.frees.Rule.{free_unmarked}
use Rattle.recovery.proofs.free.free_blocks.Goals as goal

pub returns-in-None-clause-free : goal.returns-in-None-clause-free
returns-in-None-clause-free c =
    IfOk-weaker c.unused_blocks.result _ _
    (λ v are cells is_bad listed marked newest within suits bads.
    let n = c.args.numbers.now in
    let none : option_map mark_of c.args.newest.now ≡ None = ap (option_map mark_of) c.in-None.is in
    subst (λ (m : Option Mark). AreFoundFree cells m is_bad (is_free_in n is_bad v.items)) (sym none)
    (free_unmarked n cells is_bad c.args.bad.now v.items c.args.pages.now within listed
    (subst (IsNewestMark cells) none newest) bads are))
    c.unused_blocks.ensures
