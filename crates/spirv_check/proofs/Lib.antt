pub mod Framing
pub mod Findings
pub mod Naming
pub mod Judging
pub mod Walking
pub mod Answered
