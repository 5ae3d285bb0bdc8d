-- Definitions that only this crate uses: what a seat knows, the rule of the word, and what each step adds to the
-- knowledge of its seat.
pub mod Rule
pub mod Seats
pub mod Shares
pub mod Steps
