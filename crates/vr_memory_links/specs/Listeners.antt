-- What a listener in memory tells.
use Rattle.std.specs.Prelude.{List, map, Option, Some, None, if◌then◌else◌}
use Rattle.vr_base.specs.Links.{EndedLink}
use Rattle.vr_memory_links.specs.Links.{ended_link}
use Rattle.vr_memory_links.specs.declared.listener.MemListener.{MemListener}

-- the connections that were given back, as long as each of them found room
abbrev pub ended_told : MemListener → Option (List EndedLink)
ended_told listener = if listener.told then Some (map ended_link listener.ended.items) else None
