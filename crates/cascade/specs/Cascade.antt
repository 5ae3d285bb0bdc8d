-- The cascade: a style takes declarations in turn, and of two that declare one property the later wins.
use Rattle.std.specs.Prelude.{List, ◌++◌, map}
use Rattle.std.specs.List.{fold}
use Rattle.std.specs.Option.{option_map, option_to_list}
use Rattle.servo_arc.specs.Unions.{Union, First, Second}
use Rattle.cascade.specs.declared.element.Element.{Element}
use Rattle.cascade.specs.declared.source.Declaration.{Declaration}
use Rattle.cascade.specs.declared.source.Declaration.TheVariants.{FontSize, FontWeight, BorderWidth, BorderColor}
use Rattle.cascade.specs.declared.source.Rule.{Rule}
use Rattle.cascade.specs.declared.source.Inline.{Inline}
use Rattle.cascade.specs.declared.style.Style.{Style}

-- the style of an element of which nothing is declared
abbrev pub initial : Style
initial = record {
  font = record { size = 16; weight = 400 };
  border = record { width = 0; color = 0 };
}

-- what a source declares, of whichever kind it is
abbrev pub declarations : Union Rule Inline → List Declaration
declarations (First rule) = rule.declarations.items
declarations (Second inline) = inline.declarations.items

-- a style with one more declaration
abbrev pub declared : Style → Declaration → Style
declared style (FontSize n) = record style { font = record style.font { size = n } }
declared style (FontWeight n) = record style { font = record style.font { weight = n } }
declared style (BorderWidth n) = record style { border = record style.border { width = n } }
declared style (BorderColor n) = record style { border = record style.border { color = n } }

-- a style with all that a source declares
abbrev pub cascaded : Style → Union Rule Inline → Style
cascaded style source = fold declared style (declarations source)

-- the style of a path: the initial one with what each source declares, from the root on
abbrev pub computed : List (Union Rule Inline) → Style
computed path = fold cascaded initial path

-- the sources of an element, the weakest first: its rules, and what stands at the element itself
abbrev pub path : Element → List (Union Rule Inline)
path element = map First element.rules.items ++ option_to_list (option_map Second element.inline)

-- the computed style of an element
abbrev pub style_of : Element → Style
style_of element = computed (path element)
