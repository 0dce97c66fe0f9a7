pub mod AcceptedAndHeldGrow
pub mod EventsLead
pub mod HeldAlongLives
pub mod HeldByAnswers
pub mod LivesJoined
