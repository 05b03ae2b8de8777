pub mod Ends
pub mod Tested
pub mod Text
pub mod Verdict
pub mod Refusals
pub mod Laws
-- what only the code needs
pub mod Told
pub mod Playing
