pub mod BegunPrograms
pub mod CopiesAfterTheirRead
pub mod OneDieForEachJob
pub mod ProgramsAndErases
pub mod RoomLeft
pub mod WhatWaits
