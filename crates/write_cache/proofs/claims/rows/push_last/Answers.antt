use Rattle.write_cache.proofs.AllClaims.{last_took}
use Rattle.write_cache.proofs.claims.rows.push_last.Goals as goal

pub returns-clause-where_it_is : goal.returns-clause-where_it_is
returns-clause-where_it_is c =
    last_took c.push-left.result c.args.claim c.pop_back.new.self.items c.in-Some.last c.push-left.new.self
    c.args.rows.now.items c.push_back_reserved.new.self.items c.in-Some.ensures.items
    c.push_back_reserved.ensures.items c.push-left.ensures.where_it_is
