use Rattle.write_cache.proofs.Common.{arith}
use Rattle.write_cache.proofs.AllClaims.{own_within}
use Rattle.write_cache.proofs.cache.Cache.claimed.Goals as goal

pub overflow_cast-result : goal.overflow_cast-result
overflow_cast-result c =
    let within = own_within c.self.inside.claims.items c.args.reader in
    let count = c.count.ensures in
    let slots = c.self.invariant.slots in
    let fits = c.self.invariant.fits in
    omega (arith, within, count, slots, fits)
