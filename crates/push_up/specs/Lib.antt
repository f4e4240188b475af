pub mod PushUp
pub mod WriteAnswer
pub mod PushProgram
pub mod Steps
