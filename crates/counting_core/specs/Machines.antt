-- The machine in a core, as the contracts of its steps show it.
use Rattle.std.specs.Prelude.{ℕ, slice_set}
use Rattle.counting_core.specs.declared.acting.Machine.{Machine}
use Rattle.counting_core.specs.declared.handle_entry.Access.{Access}
use Rattle.counting_core.specs.Represents.{CoreState, handle}

module _ {V : Type 0} where
  abbrev pub core_of : Machine V → CoreState V
  core_of m = record {
    value = m.value;
    word = m.word;
    limit = m.limit;
    handles = m.handles.items;
    owners = m.owners.items;
  }

  -- with a handle that is used so
  abbrev pub with_access : CoreState V → ℕ → Access → CoreState V
  with_access core h access =
      record core { handles = slice_set core.handles h (record (handle core h) { access = access }) }
