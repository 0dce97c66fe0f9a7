use Rattle.write_cache.proofs.AllClaims.{bare_front, bare_last}
use Rattle.write_cache.proofs.claims.rows.begin_row.Goals as goal

pub begin-requires : goal.begin-requires
begin-requires c =
    bare_last c.args.spare.now.items c.pop.new.self.items c.in-Some.row c.requires.bare c.in-Some.ensures.items

pub returns-clause-bare : goal.returns-clause-bare
returns-clause-bare c =
    bare_front c.args.spare.now.items c.pop.new.self.items c.in-Some.row c.requires.bare c.in-Some.ensures.items
