pub mod Telling
pub mod LifeLaws
pub mod Behind
pub mod RoundLaws
pub mod AloneLaws
pub mod RecordedLaws
pub mod CauseLaws
pub mod FuseLaws
