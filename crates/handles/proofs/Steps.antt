-- The steps on a block's word, each under the block's rule: what its maker puts in, and what it leaves the maker with.
pub mod Asking
mod Framing
pub mod Words
pub mod Shared
pub mod Stepped
mod Growth
pub mod Turns
pub mod Reads
pub mod Raises
pub mod Marks
pub mod Born
pub mod DropReads
pub mod Lowers
pub mod UniqueReads
pub mod Stamps
