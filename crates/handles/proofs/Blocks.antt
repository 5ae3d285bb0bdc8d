-- What a block is in memory, how it is made and shared, and the passes of its handles.
pub mod Boxes
pub mod HeldParts
pub mod New
pub mod RawBoxes
pub mod Rows
