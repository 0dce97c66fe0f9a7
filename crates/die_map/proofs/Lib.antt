mod CountFacts
mod MarkFacts
mod PageFacts
