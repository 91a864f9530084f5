-- What the contracts of `walk_itineraries` cite. Assumes nothing: these are definitions.
pub mod Leading
