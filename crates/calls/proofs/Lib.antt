pub mod Printed
pub mod Running
