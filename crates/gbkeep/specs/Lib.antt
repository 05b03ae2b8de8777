pub mod Beginning
pub mod NewFiles
pub mod Request
pub mod Program
