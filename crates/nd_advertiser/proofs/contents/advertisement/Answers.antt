use Rattle.std.proofs.Common.{map, arith}
use Rattle.std.specs.List.{flat_map}
use Rattle.std.proofs.lemmas.List.{length-append}
use Rattle.nd_decode.specs.declared.body.Body.TheVariants.{Ra}
use Rattle.nd_message.specs.Owned.{said, whole_of}
use Rattle.nd_message.specs.Spelling.{spelling, fields_of, piece_of}
use Rattle.nd_message.proofs.Formed.{formed}
use Rattle.nd_advertiser.proofs.contents.advertisement.Goals as goal

pub returns-clause-formed : goal.returns-clause-formed
returns-clause-formed c =
    formed (whole_of (Ra c.args.fields) c.args.options.items) (record { hop_limit = omega arith; lifetime = omega arith; reachable = omega arith; retrans = omega arith; medium = c.requires.medium })
    (record { each = c.requires.fits; most = omega (arith, c.requires.short) })

pub returns-clause-short : goal.returns-clause-short
unfolding spelling
returns-clause-short c = omega (arith, length-append (fields_of 0 (Ra c.args.fields)) (flat_map piece_of (map said c.args.options.items)), c.requires.short)
