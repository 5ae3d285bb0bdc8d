-- The value at the end of a path, and the value with another one there.
use Rattle.std.specs.Prelude.{ℕ, List, [], ◌∷◌, Option, Some, None, String, slice_get, slice_set}
use Rattle.std.specs.Option.{option_map, option_and_then}
use Rattle.std.specs.String.{string_cmp}
use Rattle.std.specs.declared.alloc.Global.{Global}
use Rattle.maps.specs.Maps.{lookup, with_entry}
use Rattle.uses.specs.declared.shared_json.Value.{Value, out-Value, roll-Value}
use Rattle.uses.specs.declared.shared_json.Value.TheOpen.{Value-F}
use Rattle.uses.specs.declared.shared_json.path.Step.{Step}
use Rattle.uses.specs.declared.shared_json.path.Step.TheVariants.{Item, Member}

-- the item at an index
abbrev pub item_at : ℕ → Value-F Value → Option Value
item_at index (Value-F.List items) = slice_get items index
item_at index other = None

-- the member with a name
abbrev pub member_at : String Global → Value-F Value → Option Value
member_at name (Value-F.Map members) = lookup string_cmp name members
member_at name other = None

abbrev pub child : Step → Value → Option Value
child (Item index) value = item_at index (out-Value value)
child (Member name) value = member_at name (out-Value value)

-- the value at the end of a path
abbrev pub at : List Step → Value → Option Value
at [] value = Some value
at (step ∷ path) value = option_and_then (at path) (child step value)

-- with another item at an index
abbrev pub with_item : ℕ → Value → Value-F Value → Value-F Value
with_item index new (Value-F.List items) = Value-F.List (slice_set items index new)
with_item index new other = other

-- with another member under a name
abbrev pub with_member : String Global → Value → Value-F Value → Value-F Value
with_member name new (Value-F.Map members) = Value-F.Map (with_entry string_cmp name new members)
with_member name new other = other

abbrev pub with_child : Step → Value → Value → Value
with_child (Item index) new value = roll-Value (with_item index new (out-Value value))
with_child (Member name) new value = roll-Value (with_member name new (out-Value value))

-- the value with another one at the end of a path
abbrev pub with_at : List Step → Value → Value → Option Value
with_at [] new value = Some new
with_at (step ∷ path) new value =
    option_map (λ changed. with_child step changed value) (option_and_then (with_at path new) (child step value))
