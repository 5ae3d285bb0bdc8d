-- The data that a value stands for, in the words of `serde_json`.
use Rattle.std.specs.Prelude.{List, map, String, string_bytes}
use Rattle.std.specs.declared.alloc.Global.{Global}
use Rattle.serde_json.specs.Data.{Data, null, boolean, number, string, array, object, Items, Members}
use Rattle.serde_json.specs.View.{items_of, members_of, number_view}
use Rattle.uses.specs.declared.shared_json.Value.{Value, fold-Value}
use Rattle.uses.specs.declared.shared_json.Value.TheOpen.{Value-F}

-- one level, with each value inside already seen as its data
abbrev pub view_step : Value-F Data → Data
view_step Value-F.Null = null
view_step (Value-F.Bool b) = boolean b
view_step (Value-F.Number x) = number (number_view x)
view_step (Value-F.Text s) = string (string_bytes s)
view_step (Value-F.List items) = array (items_of items)
view_step (Value-F.Map members) = object (members_of members)

abbrev pub view : Value → Data
view = fold-Value Data view_step

abbrev pub members_view : List (String Global × Value) → Members
members_view ms = members_of (map (λ m. (m.0, view m.1)) ms)
