-- The frame of the code's type in the words of the definitions.
use Rattle.ufs_spec.specs.Frames as frames
use Rattle.rpmb_frame.specs.declared.frames.Frame.{Frame}

abbrev pub frame_of : Frame → frames.Frame
frame_of f =
    record {
      stuff = f.stuff;
      key_or_mac = f.key_or_mac;
      payload = f.«data»;
      nonce = f.nonce;
      counter = f.write_counter;
      address = f.address;
      count = f.block_count;
      result = f.result;
      kind = f.message_type;
    }
