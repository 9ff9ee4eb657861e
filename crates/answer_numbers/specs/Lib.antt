pub mod AnswerNumbers
