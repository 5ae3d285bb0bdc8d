-- What to read, in this order:
--     specs/Inside/Blocks    what a block keeps in its invariant, and what a handle of it owns
--     Blocks/Rows            the passes of the handles, which are numbered by birth
--     Steps/Shared           what every step on the word of a shared block stands on
--     Steps/Stepped          a step is proved by what it does while the block lives, and goes into the log
--     Steps/Turns            what each entry of the log makes of the rows of passes
--     Steps/Reads, ..        a file a step, as WordSteps of `counting_word` names them
--     Walks/AsksWord         the code of one atomic step on the word, walked once for five functions
--     Walks/BorrowedHandle   one step through a `&` to a handle
--     Walks/OneParam         how the walk of a function with one type parameter begins and ends
--     block/.., header_slice/..    the walk of each function, at the path of its code
-- `Walks` is the one door to the names of the toolchain's logic that several walks cite; `Places` adds those for raw
-- places. All walks stand on the toolchain's types.Kit (what is owned, as a list), types.Run and types.ByLocal
-- (statements and locals), denote.Memory, denote.RawPtr, and denote.Triple.Walked (a contract as a walk's two ends).
pub mod Blocks
pub mod Builders
pub mod Logs
pub mod Owners
pub mod Places
pub mod Scripts
pub mod Steps
pub mod Walks
