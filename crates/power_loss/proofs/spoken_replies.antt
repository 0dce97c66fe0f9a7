pub mod FramesStay
pub mod QueryReplies
pub mod ResponseFrames
pub mod ShortReplies
pub mod TaskReplies
pub mod VolatileWords
