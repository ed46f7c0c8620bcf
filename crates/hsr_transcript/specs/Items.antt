-- Lists of lists, as the program holds them.
use Rattle.std.specs.Prelude.{List, Vec, map}
use Rattle.std.specs.Global.{Global}
use Rattle.hsr_node.specs.declared.entry.Entry.{Entry}
use Rattle.hsr_link.specs.declared.row.Row.{Row}

abbrev pub entry_items : Vec Entry Global → List Entry
entry_items v = v.items

abbrev pub entries_of : Vec (Vec Entry Global) Global → List (List Entry)
entries_of records = map entry_items records.items

abbrev pub row_items : Vec Row Global → List Row
row_items v = v.items

abbrev pub rows_of : Vec (Vec Row Global) Global → List (List Row)
rows_of rows = map row_items rows.items
