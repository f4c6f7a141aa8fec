-- The options in some bytes as a function, one whole piece after the other.
use Rattle.std.specs.Prelude.{ℕ, zero, suc, ◌&&◌, nat_eq, nat_le, List, [], ◌∷◌, length, take, drop, slice_index, Option, Some, None, if◌then◌else◌}
use Rattle.nd_addr.specs.declared.why.Why.{Why}
use Rattle.nd_addr.specs.declared.why.Why.TheVariants.{OptionZero, OptionOver}
use Rattle.nd_decode.specs.declared.options.Options.{Options}
use Rattle.nd_decode.specs.Option.{Said, option_of}
use Rattle.nd_decode.specs.Reading.{options_read}
use Rattle.nd_decode.specs.Whole.{piece_length, begins_whole}

-- the options up to the first that is not whole, among at most n
abbrev pub options_from : ℕ → List ℕ → List Said
options_from zero bytes = []
options_from (suc n) bytes =
    if begins_whole bytes then option_of (take (piece_length bytes) bytes) ∷ options_from n (drop (piece_length bytes) bytes) else []

-- the options up to the first that is not whole
unfoldable pub options_in : List ℕ → List Said
options_in bytes = options_from (length bytes) bytes

-- what an iterator over options has left, as it reads them
abbrev pub options_left : Options → List Said
options_left o = options_read o.reading (options_in o.rest.now)

-- what is wrong with bytes that do not begin with a whole piece
abbrev pub fault_of : List ℕ → Option Why
fault_of rest =
    if nat_eq (length rest) 0 then None else
    if nat_le 2 (length rest) && nat_eq (slice_index rest 1) 0 then Some OptionZero else Some OptionOver
