use Rattle.lanes.proofs.Opened.{begins}
use Rattle.lanes.proofs.Promises.{stop_keeps, stop_safe}
use Rattle.lanes.proofs.laws.a_stop_among_threads_leaves_a_prefix.Goals as goal

pub returns-clause-promise : goal.returns-clause-promise
returns-clause-promise g c = λ opening t kept lefts may.
    let start = begins g.D.Die.state opening kept.opens in
    let led = kept.leads start.0 start.1 in
    stop_keeps g.D.Die.state opening kept.opens kept.world kept.list lefts may start.0 led.0 start.1 led.1 led.2

pub returns-clause-prefix : goal.returns-clause-prefix
returns-clause-prefix g c = λ opening t kept lefts start may opened.
    let led = kept.leads start opened in
    stop_safe g.D.Die.state opening kept.opens kept.world kept.list lefts may start led.0 opened led.1 led.2
