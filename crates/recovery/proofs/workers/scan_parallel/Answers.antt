use Rattle.recovery.proofs.Common.{Fit, IfErr-weaker, IfOk-weaker, map, subst, sym}
use Rattle.std.proofs.lemmas.Result.{IfOk-at_ok}
use Rattle.recovery.proofs.scan_facts.ScanFacts.{fault_behind, found_before, table_of_all, table_still}
use Rattle.recovery.proofs.workers.scan_parallel.Goals as goal

pub found_over-requires-clause-read : goal.found_over-requires-clause-read
found_over-requires-clause-read g c =
    let n = c.numbers-numbers.result.now in
    let dies = map g.D.Die.state c.args.dies.now in
    table_still n c.args.config.now dies (map g.D.Die.state c.read_by.new.dies) c.in-Ok.table
    c.numbers-numbers.ensures.value c.read_by.ensures.same
    (table_of_all n dies c.in-Ok.table (subst (λ m. Fit m dies) (sym c.numbers-numbers.ensures.value) c.requires)
    (IfOk-at_ok _ c.in-Ok.is c.read_by.ensures.read))

pub returns-in-Ok-clause-found : goal.returns-in-Ok-clause-found
returns-in-Ok-clause-found g c =
    IfOk-weaker c.found_over.result _ _
    (λ f h. (found_before c.args.config.now (map g.D.Die.state c.args.dies.now) (map g.D.Die.state c.read_by.new.dies) f
    c.read_by.ensures.same h).found)
    c.found_over.ensures.told

pub returns-in-Ok-clause-read : goal.returns-in-Ok-clause-read
returns-in-Ok-clause-read g c =
    IfOk-weaker c.found_over.result _ _
    (λ f h. (found_before c.args.config.now (map g.D.Die.state c.args.dies.now) (map g.D.Die.state c.read_by.new.dies) f
    c.read_by.ensures.same h).read_settings)
    c.found_over.ensures.told

pub returns-in-Ok-clause-settings : goal.returns-in-Ok-clause-settings
returns-in-Ok-clause-settings g c =
    IfOk-weaker c.found_over.result _ _
    (λ f h. (found_before c.args.config.now (map g.D.Die.state c.args.dies.now) (map g.D.Die.state c.read_by.new.dies) f
    c.read_by.ensures.same h).settings)
    c.found_over.ensures.told

pub returns-in-Ok-clause-fault : goal.returns-in-Ok-clause-fault
returns-in-Ok-clause-fault g c =
    IfErr-weaker c.found_over.result _ _
    (λ e h. fault_behind c.args.config.now (map g.D.Die.state c.args.dies.now) (map g.D.Die.state c.read_by.new.dies)
    (map g.D.Die.failed c.args.dies.now) (map g.D.Die.failed c.read_by.new.dies)
    (map g.D.Die.failed c.found_over.new.dies) e c.read_by.ensures.same c.read_by.ensures.counted h)
    c.found_over.ensures.fault
