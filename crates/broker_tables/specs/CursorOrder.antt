-- Which of two cursors comes first.
use Rattle.std.specs.Ordering.{nat_cmp}
use Rattle.std.specs.declared.cmp.Ordering.{Ordering}
use Rattle.broker_tables.specs.declared.cursors.Cursor.{Cursor}

-- the one with the lesser ticket is the greater
abbrev pub cursor_cmp : Cursor → Cursor → Ordering
cursor_cmp x y = nat_cmp y.from x.from
