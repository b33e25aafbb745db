pub mod Tick
pub mod States
pub mod Rules
pub mod Advance
pub mod Sound
pub mod Choice
pub mod Refusing
