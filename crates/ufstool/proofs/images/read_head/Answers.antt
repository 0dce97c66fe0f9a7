use Rattle.std.proofs.Common.{arith, length-take, take}
use Rattle.ufstool.proofs.ImageFacts.{err_then, head_told}
use Rattle.ufstool.proofs.images.read_head.Goals as goal

pub returns-clause-wrong : goal.returns-clause-wrong
returns-clause-wrong g c =
    let count = c.in_ok-count.count in
    let read = c.in_ok-count.ensures in
    let few = length-take count c.fill.new.head in
    let long = c.fill.array_long in
    err_then c.judge.result _ _
    (λ fault wrong.
    head_told fault (take count c.fill.new.head) _ _ (omega (arith, few, read.few))
    (λ less. read.end (omega (arith, few, long, less))) read.bytes wrong)
    c.judge.ensures.wrong
