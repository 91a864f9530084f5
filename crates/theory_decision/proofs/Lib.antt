-- That the walk decides satisfaction, and what it needs; that it is the same on closures; that the trees it meets rise, and
-- that the names it looks up were chosen; that more patience changes nothing but a stop for want of it. Assumes nothing.
pub mod Renaming
pub mod Fits
pub mod Listed
pub mod Deciding
pub mod Related
pub mod Closures
pub mod Risen
pub mod Closing
pub mod Patience
