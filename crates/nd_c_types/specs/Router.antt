-- A default router, as C sees it (RFC 4861, section 5.1).
use Rattle.nd_routers.specs.declared.shown.DefaultRouter.{DefaultRouter}
use Rattle.nd_heard.specs.Heard.{preference_number}
use Rattle.nd_c_types.specs.Numbers.{left_number}
use Rattle.nd_c_types.specs.declared.router.RouterRow.{RouterRow}

abbrev pub router_row : DefaultRouter → RouterRow
router_row r = record { left = left_number r.left; address = r.addr.0; preference = preference_number r.preference; reserved = 0 }
