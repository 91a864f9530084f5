-- The laws of the call's code: the end, the questions in their order.
pub mod Ending
pub mod Calling
pub mod Concluding
