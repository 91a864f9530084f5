-- What a rule word asks of a closure, answered by the sets that hold it (from Loops on), and what the walk's code answers by
-- the visits made (from Scenes on). Assumes nothing.
pub mod Loops
pub mod Focused
pub mod Single
pub mod Divided
pub mod Rooms
pub mod Targeted
pub mod Trials
pub mod Scenes
pub mod Members
pub mod Turns
