-- What an iterator over the routers has left.
use Rattle.std.specs.Prelude.{List}
use Rattle.nd_routers.specs.declared.shown.DefaultRouters.{DefaultRouters}
use Rattle.nd_routers.specs.Shown.{Seen}
use Rattle.nd_routers.specs.ShownKept.{seen_beside}

abbrev pub routers_left : DefaultRouters → List Seen
routers_left r = seen_beside r.moment r.entries.now r.preferences.now
