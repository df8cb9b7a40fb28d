-- The world that the parts of a `World` show.
use Rattle.area_core.specs.Areas.{commands}
use Rattle.world_core.specs.declared.parts.Parts.{Parts}
use Rattle.world_core.specs.Worlds.{DiskValue, WorldValue}

abbrev pub disk_of : Parts → DiskValue
disk_of p = record { size = p.size; content = p.content.items; held = p.held.items }

abbrev pub value_of : Parts → WorldValue
value_of p = record {
  base = p.base;
  opening = p.opening.value.state;
  history = commands p.history.items;
  ready = p.ready.items;
  taken = p.taken;
  stored = p.stored;
  mark = p.mark;
  seats = p.seats.items;
  stopped = p.stopped;
  released = p.released.items;
  earlier = p.earlier.items;
  phase = p.phase;
  place = p.place;
  disk = disk_of p;
}
