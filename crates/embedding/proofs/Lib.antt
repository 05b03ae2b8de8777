pub mod Counting
pub mod Noting
pub mod StateAnswers
pub mod Taking
