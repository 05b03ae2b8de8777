pub mod Spans
pub mod Told
pub mod Fair
pub mod Exact
pub mod Due
pub mod Behind
