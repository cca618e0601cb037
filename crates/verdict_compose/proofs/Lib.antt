pub mod BothShown
pub mod EqualForms
pub mod OneComponent
pub mod Runs
pub mod Shown
