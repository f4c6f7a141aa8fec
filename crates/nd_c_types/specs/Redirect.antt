-- A Redirect in force, as C sees it (RFC 4861, section 8.3).
use Rattle.nd_nexthop.specs.declared.kept_redirects.Redirect.{Redirect}
use Rattle.nd_c_types.specs.declared.redirect.RedirectRow.{RedirectRow}

abbrev pub redirect_row : Redirect → RedirectRow
redirect_row r = record { destination = r.destination.0; target = r.target.0 }
