pub mod Numbers
pub mod Orders
pub mod Answers
pub mod Reading
pub mod Obeying
pub mod Streamed
-- what only the code needs
pub mod Steps
