mod Common
pub mod answers
pub mod array_cells
pub mod decided_data
pub mod deciding
pub mod exchanges
pub mod frame_laws
pub mod free_blocks
pub mod jobs
pub mod lives
pub mod new_dies
pub mod pages
pub mod plain_contents
pub mod refusals
pub mod rpmb_frames
pub mod walk
pub mod worked_rows
pub mod worked_run
