use Rattle.std.proofs.Common.{◌≡◌, [], map, replicate}
use Rattle.stress.proofs.replies.Replies.new.Given as goal

abbrev pub invariant-loop : goal.invariant-loop
invariant-loop l = map (λ q. q.items) l.queues.items ≡ replicate l.counter []
