-- The letters of the flags of a Router Advertisement (our choice): those of M and O, then that of a preference other than Medium; `-` where
-- there are none.
use Rattle.std.specs.Prelude.{ℕ, Bool, true, false, List, codes}
use Rattle.nd_addr.specs.declared.preference.Preference.{Preference}
use Rattle.nd_addr.specs.declared.preference.Preference.TheVariants.{High, Medium, Low}

abbrev pub router_flags_text : Bool → Bool → Preference → List ℕ
router_flags_text false false Medium = codes "-"
router_flags_text true false Medium = codes "m"
router_flags_text false true Medium = codes "o"
router_flags_text true true Medium = codes "mo"
router_flags_text false false High = codes "h"
router_flags_text true false High = codes "mh"
router_flags_text false true High = codes "oh"
router_flags_text true true High = codes "moh"
router_flags_text false false Low = codes "l"
router_flags_text true false Low = codes "ml"
router_flags_text false true Low = codes "ol"
router_flags_text true true Low = codes "mol"
