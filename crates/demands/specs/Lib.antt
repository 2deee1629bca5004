pub mod Choice
pub mod Transcript
pub mod Cases
pub mod Soundness
pub mod Door
pub mod Effects
pub mod Names
pub mod Demands
