pub mod CodeLemmas
pub mod CutLemmas
pub mod Refusals
pub mod WordsOfKinds
pub mod Modules
pub mod Again
pub mod Ordinary
