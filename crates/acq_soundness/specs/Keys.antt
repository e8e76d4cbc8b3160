-- Rows are unique by their keys.
use Rattle.std.specs.Prelude.{◌≡◌, Bool, true, not, ◌&&◌, List, [], ◌∷◌, map}
use Rattle.std.specs.List.{list_any}
use Rattle.std.specs.Str.{bytes_eq}
use Rattle.acq_message.specs.Elements.{same_key}
use Rattle.acq_core.specs.declared.event.Event.{Event}
use Rattle.acq_core.specs.declared.terminal.Terminal.{Terminal}
use Rattle.acq_core.specs.Tables.{Opening, Tables, new_tables, tables_after}

-- none is the same as a later one, by a test
abbrev pub are_distinct : {X : Type 0} → (X → X → Bool) → List X → Bool
are_distinct same [] = true
are_distinct same (x ∷ later) = not (list_any (same x) later) && are_distinct same later

-- the same terminal of the same merchant
abbrev pub same_terminal : Terminal → Terminal → Bool
same_terminal a b = bytes_eq a.merchant b.merchant && bytes_eq a.id b.id

-- no two requests have the same key, no two merchants the same name, and no two terminals of a
-- merchant the same name
pub record HasUniqueKeys (t : Tables) : Type 0 where
  pub requests : are_distinct same_key (map (λ row. row.key) t.requests) ≡ true
  pub merchants : are_distinct bytes_eq (map (λ row. row.id) t.merchants) ≡ true
  pub terminals : are_distinct same_terminal t.terminals ≡ true

-- Whatever comes, keys stay unique.
abbrev pub KeysStayUnique : Type 0
KeysStayUnique =
    (opening : Opening) (es : List Event) → HasUniqueKeys (tables_after (new_tables opening) es)
