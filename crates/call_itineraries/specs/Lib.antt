-- What the contracts of `call_itineraries` cite. Assumes nothing: these are definitions.
pub mod Showing
