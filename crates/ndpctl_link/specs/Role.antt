-- The words that stand for what a node is on its link (the texts are this project's own).
use Rattle.std.specs.Prelude.{ℕ, List, codes}
use Rattle.nd_addr.specs.declared.role.Role.{Role}
use Rattle.nd_addr.specs.declared.role.Role.TheVariants.{Host, Router}

abbrev pub role_word : Role → List ℕ
role_word Host = codes "host"
role_word Router = codes "router"
