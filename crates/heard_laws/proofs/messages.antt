pub mod HeardMessages
pub mod RefusedCommands
pub mod CommandsHeard
pub mod CommandsAgree
pub mod QueriesAgree
pub mod ManagedAgree
