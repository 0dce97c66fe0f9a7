use Rattle.std.proofs.Common.{◌∙◌, ap, subst, sym}
use Rattle.ufs_spec.specs.Frames.{IsFrame, frame_bytes}
use Rattle.ufs_laws.proofs.rpmb_frames.FramesRead.{bytes_again, is_frame}
use Rattle.rpmb_frame.proofs.frames.Frame.read.Goals as goal

pub returns-clause-frame : goal.returns-clause-frame
returns-clause-frame c = λ i.
    record {
      stuff = c.part.ensures i;
      key_or_mac = c.part-2.ensures i;
      payload = c.part-3.ensures i;
      nonce = c.part-4.ensures i;
      counter = c.read_u32.ensures i;
      address = c.read_u16.ensures i;
      count = c.read_u16-2.ensures i;
      result = c.read_u16-3.ensures i;
      kind = c.read_u16-4.ensures i;
    }

pub returns-clause-bytes : goal.returns-clause-bytes
returns-clause-bytes c =
    ap frame_bytes (returns-clause-frame c) ∙ bytes_again c.args.bytes.now c.told-bytes c.fits-bytes

pub returns-clause-is_frame : goal.returns-clause-is_frame
returns-clause-is_frame c =
    subst IsFrame (sym (returns-clause-frame c)) (is_frame c.args.bytes.now c.told-bytes c.fits-bytes)
