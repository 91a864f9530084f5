-- What the contracts of `call_lists` cite. Assumes nothing: these are definitions.
pub mod Running
