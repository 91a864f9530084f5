-- The laws of a list that is lent for an itinerary. Assumes nothing.
mod Shown
