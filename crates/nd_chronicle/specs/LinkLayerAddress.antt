-- The link-layer addresses that a message gives (RFC 4861, section 4.6.1): the first option of its kind counts.
use Rattle.std.specs.Prelude.{List, [], ◌∷◌, Option, Some, None}
use Rattle.nd_addr.specs.declared.mac.Mac.{Mac}
use Rattle.nd_decode.specs.Option.{Said, slla, tlla}

-- the first Source Link-Layer Address
abbrev pub first_slla : List Said → Option Mac
first_slla [] = None
first_slla (slla mac ∷ options) = Some mac
first_slla (_ ∷ options) = first_slla options

-- the first Target Link-Layer Address
abbrev pub first_tlla : List Said → Option Mac
first_tlla [] = None
first_tlla (tlla mac ∷ options) = Some mac
first_tlla (_ ∷ options) = first_tlla options
