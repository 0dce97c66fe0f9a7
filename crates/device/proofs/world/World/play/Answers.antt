-- What an event showed is put behind the trace; without memory for that the trace stays.
use Rattle.device.proofs.Common.{Event, List, Output, RunFaultKind, State, Went, WorldState, [], inr, ◌++◌, ◌∷◌, ◌≡◌}
use Rattle.std.proofs.Common.{Err, IfErr, Ok, OnOk, Result}
use Rattle.ufs_spec.specs.declared.events.RunFaultKind.TheVariants as kind
use Rattle.device.specs.Worlds.{Played}
use Rattle.device.proofs.world.World.play.Goals as goal

noted_played : (s : State) (e : Event) (after : WorldState) (before trace : List Output) (o : Output)
    (r : Result Unit RunFaultKind) → Went s e after (Ok o) → OnOk r (trace ≡ before ++ o ∷ []) →
    IfErr r (λ k. (k ≡ kind.NoMemory) × (trace ≡ before)) → Played s e after before trace r
noted_played s e after before trace o (Ok done) went more same = (o, more, went)
noted_played s e after before trace o (Err k) went more same = (same.1, inr (same.0, o, went.0, went.1))

pub returns-in-Ok-clause-played : goal.returns-in-Ok-clause-played
returns-in-Ok-clause-played c = λ s h running.
    noted_played s c.args.event.now c.step.new.self c.args.trace.now.items c.note.new.trace.items c.in-Ok.output
    c.note.result (c.in-Ok.ensures.stepped s h running) c.note.ensures.more c.note.ensures.same
