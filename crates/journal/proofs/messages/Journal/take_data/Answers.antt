use Rattle.std.proofs.Common.{◌≡◌, ◌-◌, List, OnOk, arith, drop, length, subst, sym, take, ℕ}
use Rattle.std.proofs.lemmas.List.{length-drop, take_all}
use Rattle.journal.specs.Heard.{accepted_of, brought, taken, unmapped}
use Rattle.journal.specs.Unmaps.{zeros_accepted}
use Rattle.journal.specs.declared.tasks.Awaited.{Awaited}
use Rattle.journal.proofs.messages.Journal.take_data.Goals as goal

pub returns-in-Frames : goal.returns-in-Frames
returns-in-Frames c =
    let j = c.args.self.now in
    let task = c.args.task in
    let message = c.args.message.now in
    let long = length-drop 32 message in
    let rest : take (length message - 32) (drop 32 message) ≡ drop 32 message =
    take_all (length message - 32) (drop 32 message) (omega (arith, long)) in
    subst
    (λ (a : Awaited). OnOk c.take_frames.result (c.take_frames.new.self ≡ taken j task a message))
    (sym c.in-Frames.is)
    (subst
    (λ (bytes : List ℕ). OnOk c.take_frames.result
    (c.take_frames.new.self
    ≡ brought j task.name task.promised c.in-Frames.region (accepted_of j c.in-Frames.region bytes)))
    rest c.take_frames.ensures)

pub returns-in-UnmapList : goal.returns-in-UnmapList
returns-in-UnmapList c =
    let j = c.args.self.now in
    let task = c.args.task in
    let message = c.args.message.now in
    let long = length-drop 32 message in
    let rest : take (length message - 32) (drop 32 message) ≡ drop 32 message =
    take_all (length message - 32) (drop 32 message) (omega (arith, long)) in
    subst
    (λ (a : Awaited). OnOk c.take_list.result (c.take_list.new.self ≡ taken j task a message))
    (sym c.in-UnmapList.is)
    (subst
    (λ (bytes : List ℕ). OnOk c.take_list.result
    (c.take_list.new.self
    ≡ unmapped j task.name task.promised (zeros_accepted j.numbers j.locked task.name.lun bytes)))
    rest c.take_list.ensures)
