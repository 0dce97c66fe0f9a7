use Rattle.recovery.proofs.Common.{Fit, IfErr-weaker, IfOk-weaker, map, subst, sym, ◌∙◌}
use Rattle.recovery.proofs.scan_facts.ScanFacts.{fault_behind, found_before, reading_fault, table_still}
use Rattle.recovery.proofs.found.scan.Goals as goal

pub found_over-requires-clause-fit : goal.found_over-requires-clause-fit
found_over-requires-clause-fit g c = subst (Fit c.args.config.now) (sym c.in-Ok.ensures.same) c.requires

pub found_over-requires-clause-read : goal.found_over-requires-clause-read
found_over-requires-clause-read g c =
    table_still c.numbers-numbers.result.now c.args.config.now (map g.D.Die.state c.args.dies.now)
    (map g.D.Die.state c.read_all.new.dies) c.in-Ok.table c.numbers-numbers.ensures.value c.in-Ok.ensures.same
    c.in-Ok.ensures.read

pub returns-in-Ok-clause-same : goal.returns-in-Ok-clause-same
returns-in-Ok-clause-same g c = c.found_over.ensures.same ∙ c.in-Ok.ensures.same

pub returns-in-Ok-clause-found : goal.returns-in-Ok-clause-found
returns-in-Ok-clause-found g c =
    IfOk-weaker c.found_over.result _ _
    (λ f h. (found_before c.args.config.now (map g.D.Die.state c.args.dies.now)
    (map g.D.Die.state c.read_all.new.dies) f c.in-Ok.ensures.same h).found)
    c.found_over.ensures.told

pub returns-in-Ok-clause-stands : goal.returns-in-Ok-clause-stands
returns-in-Ok-clause-stands g c =
    IfOk-weaker c.found_over.result _ _
    (λ f h. (found_before c.args.config.now (map g.D.Die.state c.args.dies.now)
    (map g.D.Die.state c.read_all.new.dies) f c.in-Ok.ensures.same h).stands)
    c.found_over.ensures.told

pub returns-in-Ok-clause-read : goal.returns-in-Ok-clause-read
returns-in-Ok-clause-read g c =
    IfOk-weaker c.found_over.result _ _
    (λ f h. (found_before c.args.config.now (map g.D.Die.state c.args.dies.now)
    (map g.D.Die.state c.read_all.new.dies) f c.in-Ok.ensures.same h).read_settings)
    c.found_over.ensures.told

pub returns-in-Ok-clause-settings : goal.returns-in-Ok-clause-settings
returns-in-Ok-clause-settings g c =
    IfOk-weaker c.found_over.result _ _
    (λ f h. (found_before c.args.config.now (map g.D.Die.state c.args.dies.now)
    (map g.D.Die.state c.read_all.new.dies) f c.in-Ok.ensures.same h).settings)
    c.found_over.ensures.told

pub returns-in-Ok-clause-fault : goal.returns-in-Ok-clause-fault
returns-in-Ok-clause-fault g c =
    IfErr-weaker c.found_over.result _ _
    (λ e h. fault_behind c.args.config.now (map g.D.Die.state c.args.dies.now) (map g.D.Die.state c.read_all.new.dies)
    (map g.D.Die.failed c.args.dies.now) (map g.D.Die.failed c.read_all.new.dies)
    (map g.D.Die.failed c.found_over.new.dies) e c.in-Ok.ensures.same c.in-Ok.ensures.counted h)
    c.found_over.ensures.fault

pub returns-in-Err-clause-fault : goal.returns-in-Err-clause-fault
returns-in-Err-clause-fault g c =
    reading_fault c.args.config.now (map g.D.Die.state c.args.dies.now) (map g.D.Die.failed c.args.dies.now)
    (map g.D.Die.failed c.read_all.new.dies) c.in-Err.fault c.in-Err.ensures.fault
