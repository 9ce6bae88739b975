-- How a turn's items come in order.
use Rattle.std.specs.Prelude.{ℕ, List, map}
use Rattle.linear_model.specs.Elimination.{substituted, bounded, bounded_by_each, without, lowers, uppers}
use Rattle.linear_model.specs.Items.{Item, item_row, joined}

abbrev pub by_equation : ℕ → Item → List Item → List Item
by_equation x e items = map (substituted item_row joined x e) items

abbrev pub with_each : ℕ → Item → List Item → List Item
with_each x l items = map (bounded item_row joined x l) items

abbrev pub by_bounds : ℕ → List Item → List Item → List Item
by_bounds x ls us = bounded_by_each item_row joined x ls us

abbrev pub others_of : ℕ → List Item → List Item
others_of x items = without item_row x items

abbrev pub lowers_of : ℕ → List Item → List Item
lowers_of x items = lowers item_row x items

abbrev pub uppers_of : ℕ → List Item → List Item
uppers_of x items = uppers item_row x items
