pub mod Choices
pub mod Copies
pub mod Slots
pub mod Simulation
pub mod Budgets
pub mod Slot
pub mod Days
pub mod Listing
