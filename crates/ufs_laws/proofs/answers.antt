pub mod OnlyAnswers
pub mod RightAnswers
