pub mod Taping
pub mod Asking
pub mod Dying
