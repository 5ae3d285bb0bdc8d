-- How a search finds the last item before a cut, and what is done at that item.
pub mod Labels
pub mod Acts
pub mod Acted
