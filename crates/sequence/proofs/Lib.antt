-- What to read, in this order:
--     Lists/..               items in place of others in a list, and the parts of a list
--     Nodes/..               the children of a node, how many items they have, and a node after a change under one
--     Shapes/..              nodes that become two or one, and what is hung beside them
--     Cuts, Cutting/..       how a search finds the last item before a cut, and what is done there
--     Pieces, Pairs, Calls   what goes down a tree, comparisons, and calls within a cycle
--     Laid, LaidCrossing     a list that is laid out as a `LabelledSequence`, and which threads it may go to
--     tree/.., labelled/.., sequence/..
--                            the proof of each function, at the path of its code
pub mod Calls
pub mod Cuts
pub mod Cutting
pub mod Laid
pub mod LaidCrossing
pub mod Lists
pub mod Nodes
pub mod Pairs
pub mod Pieces
pub mod Shapes
