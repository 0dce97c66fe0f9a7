use Rattle.device.proofs.Common.{DieState, Fit, HasScanned, IsOpened, List, Shows, Sound, Suits, array_of, bad_of}
use Rattle.device.proofs.Common.{map-id, subst, sym}
use Rattle.device.proofs.dies_of_world.OpeningRefused.{opening_refused}
use Rattle.device.proofs.world.open_device.Goals as goal

pub open-requires : goal.open-requires
open-requires c = record { fit = subst (Fit c.args.config) (sym (map-id c.args.dies.now)) c.requires.fit }

pub returns-in-Ok-clause-described : goal.returns-in-Ok-clause-described
returns-in-Ok-clause-described c =
    λ s sound opened.
    let same = map-id c.args.dies.now in
    c.in-Ok.ensures.described s (subst (λ (ds : List DieState). Sound (array_of ds)) (sym same) sound)
    (subst (λ (ds : List DieState). IsOpened c.args.config (array_of ds) (bad_of ds) s) (sym same) opened)

pub returns-in-Ok-clause-suits : goal.returns-in-Ok-clause-suits
returns-in-Ok-clause-suits c =
    subst (λ (ds : List DieState). Suits c.args.config (array_of ds)) (map-id c.args.dies.now) c.in-Ok.ensures.suits

pub returns-in-Ok-clause-found : goal.returns-in-Ok-clause-found
returns-in-Ok-clause-found c =
    subst (λ (ds : List DieState). HasScanned c.args.config ds c.in-Ok.device) (map-id c.args.dies.now)
    c.in-Ok.ensures.found

pub returns-in-Err-clause-refused : goal.returns-in-Err-clause-refused
returns-in-Err-clause-refused c =
    opening_refused c.args.config c.args.dies.now c.open.new.dies c.in-Err.fault c.kind_of.result c.requires.fit
    c.kind_of.ensures.memory c.kind_of.ensures.other
    (λ cells shows.
    c.in-Err.ensures.fault cells
    (subst (λ (ds : List DieState). Shows (array_of ds) cells) (sym (map-id c.args.dies.now)) shows))
