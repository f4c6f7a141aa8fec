use Rattle.std.proofs.Common.{Result, subst}
use Rattle.nd_addr.specs.Given.{Gives}
use Rattle.nd_addr.specs.declared.why.Why.{Why}
use Rattle.nd_decode.specs.Message.{Parts, parts}
use Rattle.nd_decode.proofs.Deciding.{decides, decode_spelled, decode_refused, found_of, refused_of, err_of}
use Rattle.nd_decode.proofs.Types.{none_known}
use Rattle.nd_decode.proofs.decoding.decode.Goals as goal

pub unreachable-requires : goal.unreachable-requires
unreachable-requires c = none_known c.args.bytes.now c.requires c.in-None.ensures

pub returns-clause-found : goal.returns-clause-found
returns-clause-found c = found_of c.args.bytes.now c.decode_as.result c.decode_as.ensures (decides c.args.bytes.now c.requires)

pub returns-clause-only : goal.returns-clause-only
returns-clause-only c = λ m s. subst (λ (x : Result Parts Why). Gives parts c.decode_as.result x) (decode_spelled c.args.bytes.now m s) c.decode_as.ensures

pub returns-clause-refused : goal.returns-clause-refused
returns-clause-refused c = refused_of c.args.bytes.now c.decode_as.result c.decode_as.ensures (decides c.args.bytes.now c.requires)

pub returns-clause-only_refused : goal.returns-clause-only_refused
returns-clause-only_refused c = λ why h. err_of c.decode_as.result why (subst (λ (x : Result Parts Why). Gives parts c.decode_as.result x) (decode_refused c.args.bytes.now why h) c.decode_as.ensures)
