pub mod CallsKeepPromises
pub mod GoodReplies
pub mod PromisedCommands
pub mod ShortExchangesEnd
