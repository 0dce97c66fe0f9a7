-- What a request of each kind leaves in the registers.
use Rattle.std.proofs.Common.{◌∙◌, ap, refl, subst, sym}
use Rattle.ufs_spec.specs.Frames.{frame_bytes}
use Rattle.rpmb_frame.specs.Fields.{frame_of}
use Rattle.rpmb.specs.Kept.{Machine}
use Rattle.rpmb.specs.Requests.{IsRequest}
use Rattle.rpmb.specs.declared.requests.Request.{Request}
use Rattle.rpmb.proofs.Filled.{counter_filled, key_filled, write_filled}
use Rattle.rpmb.proofs.machine.Rpmb.answer_request.Goals as goal

pub returns-in-ProgramKey : goal.returns-in-ProgramKey
returns-in-ProgramKey c = λ region kept is has.
    let f = frame_of c.args.asked.now in
    let told = subst (λ (r : Request). IsRequest r f) c.in-ProgramKey.is is in
    c.keep_result.ensures
    ∙ key_filled c.args.self.now region f c.args.code c.bytes_of.result told.0
    (c.bytes_of.ensures ∙ ap frame_bytes c.key_response.ensures)

pub returns-in-ReadCounter : goal.returns-in-ReadCounter
returns-in-ReadCounter c = λ region kept is has.
    let f = frame_of c.args.asked.now in
    let told = subst (λ (r : Request). IsRequest r f) c.in-ReadCounter.is is in
    let counter = ap (λ (m : Machine). m.region.counter) c.self.view_is ∙ kept.counter in
    c.put_one.ensures
    ∙ counter_filled c.args.self.now region f (frame_of c.counter_response.result) c.args.code
    c.signed-frame.result told
    kept.key (c.counter_response.ensures region f (sym counter) refl) c.signed-frame.ensures

pub returns-in-Write : goal.returns-in-Write
returns-in-Write c = λ region kept is has.
    let f = frame_of c.args.asked.now in
    let told = subst (λ (r : Request). IsRequest r f) c.in-Write.is is in
    let counter = ap (λ (m : Machine). m.region.counter) c.self-in-Write.view_is ∙ kept.counter in
    c.keep_result-in-Write.ensures
    ∙ write_filled c.args.self.now region f (frame_of c.write_response.result) c.args.code
    c.signed-frame-in-Write.result told.0 kept.key (c.write_response.ensures region f (sym counter) (sym told.2))
    c.signed-frame-in-Write.ensures
