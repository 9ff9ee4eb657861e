pub mod Outcomes
pub mod RingAnswers
