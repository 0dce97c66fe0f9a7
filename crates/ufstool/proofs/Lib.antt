mod Consumed
mod Filled
mod ImageFacts
mod RpmbWritten
mod Sent
mod Written
