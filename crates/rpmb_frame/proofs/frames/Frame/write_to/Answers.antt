use Rattle.std.proofs.Common.{◌∙◌, [], arith, refl}
use Rattle.rpmb_frame.specs.Fields.{frame_of}
use Rattle.rpmb_frame.proofs.Written.{all_bytes, in_order, one_number, one_part}
use Rattle.rpmb_frame.proofs.frames.Frame.write_to.Goals as goal

pub returns : goal.returns
returns c =
    let f = frame_of c.args.self.now in
    let stuff = one_part 0 196 c.args.bytes.now _ f.stuff [] (omega arith) c.copy_from_slice.ensures.after
    c.copy_from_slice.ensures.len (c.told-bytes, refl) in
    let key = one_part 196 32 _ _ f.key_or_mac _ (omega arith) c.copy_from_slice-2.ensures.after
    c.copy_from_slice-2.ensures.len stuff in
    let payload = one_part 228 256 _ _ f.payload _ (omega arith) c.copy_from_slice-3.ensures.after
    c.copy_from_slice-3.ensures.len key in
    let nonce = one_part 484 16 _ _ f.nonce _ (omega arith) c.copy_from_slice-4.ensures.after
    c.copy_from_slice-4.ensures.len payload in
    let counter = one_number 500 4 f.counter _ _ _ (omega arith) c.write_u32.ensures nonce in
    let address = one_number 504 2 f.address _ _ _ (omega arith) c.write_u16.ensures counter in
    let count = one_number 506 2 f.count _ _ _ (omega arith) c.write_u16-2.ensures address in
    let outcome = one_number 508 2 f.result _ _ _ (omega arith) c.write_u16-3.ensures count in
    let kind = one_number 510 2 f.kind _ _ _ (omega arith) c.write_u16-4.ensures outcome in
    all_bytes _ _ kind ∙ in_order f
