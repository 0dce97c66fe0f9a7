use Rattle.ftl_core.proofs.Common.{length, rules, ◌∙◌, ◌≡◌}
use Rattle.std.proofs.Common.{nat_lt}
use Rattle.ftl_core.proofs.small_calls.SmallCalls.{pending_right}
use Rattle.ftl_core.proofs.ftl.Ftl.has_pending.Goals as goal

pub returns-clause-described : goal.returns-clause-described
returns-clause-described c =
    λ t h.
    let some : nat_lt 0 c.pending.result ≡ nat_lt 0 (length c.args.self.now.pages) = search rules in
    some ∙ pending_right c.args.self.now t h
