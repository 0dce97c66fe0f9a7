use Rattle.recovery.proofs.Common.{ap, arith, length, length-append, subst, sym, ℕ, ◌+◌, ◌/◌, ◌<◌, ◌∙◌, ◌≡◌}
use Rattle.std.specs.Prelude.{◌-◌}
use Rattle.recovery.specs.Shares.{AreShared, IsShare}
use Rattle.recovery.proofs.Sharing.{rest_shared, share_fits}
use Rattle.recovery.proofs.tables.Parts.{can_high, can_low, parts_read}
use Rattle.recovery.proofs.workers.+shares.Goals as goal

pub read_by-read_both-one-requires-clause-low : goal.read_by-read_both-one-requires-clause-low
read_by-read_both-one-requires-clause-low g t c κs within =
    let parts = c.split_at_mut-low in
    let first = c.args.range.0 in
    let middle : ℕ = first + length c.args.dies.now / c.args.shares.workers in
    let ends : middle ≡ first + length parts.result.0.now = ap (λ (k : ℕ). first + k) (sym parts.ensures.front_len) in
    can_low g.D.Die.state c.args.numbers.now first middle c.args.range.1 c.args.dies.now parts.result.0.now
    parts.result.1.now parts.ensures.value ends c.requires.read

pub read_by-read_both-one-requires-clause-high : goal.read_by-read_both-one-requires-clause-high
read_by-read_both-one-requires-clause-high g t c κs within =
    let parts = c.split_at_mut-low in
    let first = c.args.range.0 in
    let middle : ℕ = first + length c.args.dies.now / c.args.shares.workers in
    let ends : middle ≡ first + length parts.result.0.now = ap (λ (k : ℕ). first + k) (sym parts.ensures.front_len) in
    can_high g.D.Die.state c.args.numbers.now first middle c.args.range.1 c.args.dies.now parts.result.0.now
    parts.result.1.now parts.ensures.value ends c.requires.read

pub read_by-read_both-one-requires-clause-share : goal.read_by-read_both-one-requires-clause-share
read_by-read_both-one-requires-clause-share g t c κs within =
    let shares = c.args.shares in
    subst (IsShare shares.least) (sym c.split_at_mut-low.ensures.front_len)
    (share_fits shares.least shares.workers (length c.args.dies.now) (omega arith) c.requires.shared)

pub read_by-read_both-one-requires-clause-shared : goal.read_by-read_both-one-requires-clause-shared
read_by-read_both-one-requires-clause-shared g t c κs within =
    let parts = c.split_at_mut-low in
    let shares = c.args.shares in
    let many : 1 < shares.workers = omega arith in
    let all = ap length parts.ensures.value ∙ length-append parts.result.0.now parts.result.1.now in
    let left : length c.args.dies.now - length c.args.dies.now / shares.workers ≡ length parts.result.1.now =
    omega (arith, all, parts.ensures.front_len) in
    subst (AreShared shares.least (shares.workers - 1)) left
    (rest_shared shares.least shares.workers (length c.args.dies.now) many c.requires.shared)

pub read_by-returns : goal.read_by-returns
read_by-returns g t c =
    let parts = c.split_at_mut-low in
    let did = c.read_both-one in
    let first = c.args.range.0 in
    let middle : ℕ = first + length c.args.dies.now / c.args.shares.workers in
    let ends : middle ≡ first + length parts.result.0.now = ap (λ (k : ℕ). first + k) (sym parts.ensures.front_len) in
    parts_read g.D.Die.state g.D.Die.failed c.args.numbers.now first middle c.args.dies.now parts.result.0.now
    parts.result.1.now did.new.low did.new.high did.result.0 did.result.1 c.joined.result parts.ensures.value ends
    did.ensures.low did.ensures.high (record { ok = c.joined.ensures.joined; err = c.joined.ensures.fault })
