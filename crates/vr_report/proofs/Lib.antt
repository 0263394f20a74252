pub mod Calls
pub mod Contents
pub mod FileLines
pub mod FlowLines
